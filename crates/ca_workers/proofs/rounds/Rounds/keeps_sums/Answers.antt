use Rattle.std.proofs.Common.{◌≤◌, ◌*◌, true≢false, sym, ◌∙◌}
use Rattle.std.specs.Prelude.{◌↔◌, Contains, IsTrue}
use Rattle.ca_program.specs.declared.program.OpId.{OpId}
use Rattle.ca_program.specs.View.{program_view}
use Rattle.ca_model.specs.Heaps.{values_in}
use Rattle.ca_sum_laws.specs.Summed.{HasOnlySums}
use Rattle.ca_workers.proofs.rounds.Rounds.keeps_sums.Goals as goal

pub returns-then-not-may_copy : goal.returns-then-not-may_copy
returns-then-not-may_copy g c =
    let fits : IsTrue c.may_copy.result ↔ (values_in c.args.frozen.now * c.args.self.now.workers ≤ 16000000) = rw c.values.ensures at c.may_copy.ensures in
    (λ e. absurd (true≢false (sym e)), λ both. absurd (true≢false (sym (fits.1 both.0) ∙ c.if-not-may_copy.true)))

pub returns : goal.returns
returns g c =
    let x = c.args.self.now.extent.now in
    let fits : IsTrue c.may_copy.result ↔ (values_in c.args.frozen.now * c.args.self.now.workers ≤ 16000000) = rw c.values.ensures at c.may_copy.ensures in
    let sums : IsTrue c.summed.result ↔ ((op : OpId) → Contains x.ops op → HasOnlySums (program_view c.args.self.now.program.now) x.written op) = rw c.program.ensures at c.summed.ensures in
    (λ e. (fits.0 c.if-not-may_copy.false, sums.0 e), λ both. sums.1 both.1)

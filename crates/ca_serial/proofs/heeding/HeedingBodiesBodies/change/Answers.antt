use Rattle.std.proofs.Common.{ap, sym, ◌∙◌}
use Rattle.ca_program.specs.Instructions.{on, Hand, Heed}
use Rattle.ca_parallel.specs.Lists.{either}
use Rattle.ca_code.specs.Seen.{row_of}
use Rattle.ca_serial.specs.clauses.Copies.{heeding_row}
use Rattle.ca_serial.proofs.Copied.{other_row}
use Rattle.ca_serial.proofs.heeding.HeedingBodiesBodies.change.Goals as goal

pub returns-then-holds : goal.returns-then-holds
returns-then-holds c =
    ap (λ b. on c.args.row.line (either b (Hand c.in-Invoke.op c.in-Invoke.first) (Heed c.in-Invoke.op c.in-Invoke.first))) (sym c.if-holds.true ∙ c.holds.ensures)
    ∙ sym (ap (λ i. heeding_row c.args.self.now.marked (row_of c.args.row.line i)) c.in-Invoke.is)

pub returns-else-holds : goal.returns-else-holds
returns-else-holds c =
    ap (λ b. on c.args.row.line (either b (Hand c.in-Invoke.op c.in-Invoke.first) (Heed c.in-Invoke.op c.in-Invoke.first))) (sym c.if-holds.false ∙ c.holds.ensures)
    ∙ sym (ap (λ i. heeding_row c.args.self.now.marked (row_of c.args.row.line i)) c.in-Invoke.is)

pub returns-in_default : goal.returns-in_default
returns-in_default c = other_row c.args.self.now.marked c.args.row.line c.args.row.ins c.in_default.not-Invoke

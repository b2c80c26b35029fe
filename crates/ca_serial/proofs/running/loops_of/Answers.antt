use Rattle.std.proofs.Common.{◌≡◌, sym, subst}
use Rattle.ca_program.specs.View.{program_view}
use Rattle.ca_code.specs.Codes.{code_seen}
use Rattle.ca_sections.specs.Extending.{AllStand, Extended, ats, begins_from}
use Rattle.ca_sections.proofs.Extending.{unchanged}
use Rattle.ca_sections.proofs.Settling.{ok_told}
use Rattle.ca_serial.proofs.running.loops_of.Goals as goal

pub returns-then-no_loops : goal.returns-then-no_loops
returns-then-no_loops c =
    let p = program_view c.args.program.now in
    (unchanged c.args.code, subst (λ ls. AllStand p (code_seen c.args.code) ls) (sym c.new.ensures.items) tt)

pub returns : goal.returns
returns c =
    let p = program_view c.args.program.now in
    ok_told (λ r. Extended c.args.code r.0 × AllStand p (code_seen r.0) r.1.items × (ats r.1.items ≡ begins_from 0 (code_seen c.args.code).items)) (λ r. Extended c.args.code r.0 × AllStand p (code_seen r.0) r.1.items) c.with_loops.result
    (λ r h. (h.0, h.1)) c.with_loops.ensures

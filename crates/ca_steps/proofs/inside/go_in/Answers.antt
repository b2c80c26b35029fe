use Rattle.std.proofs.Common.{refl, sym, ◌∙◌}
use Rattle.ca_program.specs.View.{program_view, statement_view}
use Rattle.ca_code.specs.declared.ins.Ins.TheVariants.{Hand, Begin}
use Rattle.ca_code.specs.Codes.{code_seen}
use Rattle.ca_code_laws.specs.Runs.{run_access}
use Rattle.ca_steps.proofs.Loading.{pointer_is}
use Rattle.ca_steps.proofs.Turning.{stands_there}
use Rattle.ca_steps.proofs.inside.go_in.Goals as goal

pub enter_marked-requires : goal.enter_marked-requires
enter_marked-requires g c =
    let acc = run_access (program_view c.args.run.now.run.program.now) in
    let code = c.args.code.now in
    let m = c.args.frames.now in
    let at = sym (rw c.as_slice.ensures.value at c.row_at.ensures) ∙ c.in-Some.is in
    let there = stands_there acc code m.at c.in-Some.row (Hand c.in-Hand.op c.in-Hand.first) at c.in-Hand.is in
    record { hands = record { stands = there.0; names = pointer_is 0 0 c.in-Object.n _ (c.in-Object.ensures.names 0 0) } }

pub returns-in-Begin : goal.returns-in-Begin
returns-in-Begin g c =
    let acc = run_access (program_view c.args.run.now.run.program.now) in
    let code = c.args.code.now in
    let m = c.args.frames.now in
    let row = c.in-Some.row in
    let at = sym (rw c.as_slice.ensures.value at c.row_at.ensures) ∙ c.in-Some.is in
    let there = stands_there acc code m.at row (Begin c.in-Begin.field-0 c.in-Begin.s c.in-Begin.field-2) at c.in-Begin.is in
    c.begin_marked.ensures (code_seen code) c.in-Begin.field-0 row.line (statement_view c.in-Begin.s.now) c.in-Begin.field-2.now (record { stands = there.0; on_line = there.1; is = there.2 })

use Rattle.std.proofs.Common.{List, refl, sym, ap, ◌∙◌}
use Rattle.ca_program.specs.declared.program.FieldId.{FieldId}
use Rattle.ca_program.specs.View.{program_view}
use Rattle.ca_symbolic.specs.Runs.{first_other_loop}
use Rattle.ca_plan.proofs.Knowing.{one_more_seen}
use Rattle.ca_plan.proofs.offences.see.Goals as goal

pub returns-in-Yes : goal.returns-in-Yes
returns-in-Yes c =
    let p = program_view c.args.program.now in
    one_more_seen p c.args.extent.now.written c.args.seen.now.items _ c.args.op _ c.note.ensures (c.in-Yes.ensures.yes.0 refl)
    (sym (c.other_loop.ensures ∙ ap (λ (fs : List FieldId). first_other_loop p fs c.args.op) c.written.ensures))

pub returns-in-No : goal.returns-in-No
returns-in-No c = λ all. all

pub returns-then-op-len : goal.returns-then-op-len
returns-then-op-len c = λ all. all

use Rattle.std.proofs.Common.{◌≡◌, List, Vec, Global, subst, ◌∙◌, ap}
use Rattle.ca_program.specs.declared.program.Stmt.{Stmt}
use Rattle.ca_program.specs.Plain as program
use Rattle.ca_resolve.specs.Judged.{Answers, fine}
use Rattle.ca_types.specs.Classes.{Parts, program_of}
use Rattle.ca_types.specs.clauses.View.{parts_view, all_view}
use Rattle.ca_types.specs.declared.classes.Parts.{Parts as CodeParts}
use Rattle.ca_types.proofs.Answering.{within_ok}
use Rattle.ca_types.proofs.Nodes.{statements_are}
use Rattle.ca_types.proofs.program.program.Goals as goal

pub returns : goal.returns
returns c = λ j h.
    let locals = c.args.locals.items in
    let q : Parts × List program.Statement = (parts_view c.in_ok-parts.parts, all_view c.in_ok-parts.stmts) in
    let known : j ≡ fine q = subst (λ z. Answers (λ (p : CodeParts × Vec Stmt Global). (parts_view p.0, all_view p.1)) z j) c.in_ok-parts.was h in
    let give : program.Statements → program.PlainProgram = λ ss. record { classes = q.0.classes; ops = q.0.ops; functions = q.0.functions; main = record { locals = locals; statements = ss } } in
    within_ok j (λ (p : Parts × List program.Statement). fine (program_of locals p)) q known ∙ ap (λ ss. fine (give ss)) (statements_are c.in_ok-parts.stmts.items)

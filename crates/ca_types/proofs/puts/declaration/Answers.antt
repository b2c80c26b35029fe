use Rattle.std.proofs.Common.{◌≡◌, sym, ◌∙◌, ap}
use Rattle.std.proofs.lemmas.Result.{err_from_is_err_and}
use Rattle.ca_tree.specs.declared.tree.AssignOp.TheVariants.{Put}
use Rattle.ca_program.specs.declared.program.ValueType.{ValueType}
use Rattle.ca_program.specs.Plain as program
use Rattle.ca_resolve.specs.Judged.{fine, unless, beside}
use Rattle.ca_resolve.specs.Scopes.{to_local}
use Rattle.ca_resolve.proofs.Judging.{one_exit, one_fine}
use Rattle.ca_types.specs.Statements.{Source, put}
use Rattle.ca_types.specs.clauses.View.{source_view, local_parts_view}
use Rattle.ca_types.proofs.Answering.{pair_breaks, pair_stands, own_tells, within_ok}
use Rattle.ca_types.proofs.puts.declaration.Goals as goal

pub returns-in_err-source : goal.returns-in_err-source
returns-in_err-source c = λ v w j x y z.
    let p = err_from_is_err_and c.from_residual.result c.from_residual.ensures.1 in
    rw (p.1, p.2) (one_exit local_parts_view c.args.parts c.in_err-source.field-0.0 j _ c.in_err-source.was z)

pub returns-in-Ok : goal.returns-in-Ok
returns-in-Ok c = λ v w j x y z.
    let give : ValueType × Source → program.Statement = λ q. put c.args.line (to_local c.args.local) Put q.1 in
    let q : ValueType × Source = (c.in_ok-source.field-0-1-0, source_view c.in_ok-source.source) in
    let known : j ≡ fine q = one_fine local_parts_view c.args.parts (tt, (c.in_ok-source.field-0-1-0, c.in_ok-source.source)) j c.in_ok-source.was z in
    within_ok j (λ (q : ValueType × Source). beside v (unless w (give q))) q known
    ∙ (pair_stands c.args.created c.args.again c.both.result c.in-Ok.field-0 v w (give q) c.both.ensures x y c.in-Ok.is
    ∙ ap (λ (z : program.Statement). fine z) (sym c.put.ensures))

pub returns-in-Err : goal.returns-in-Err
returns-in-Err c = λ v w j x y z.
    let give : ValueType × Source → program.Statement = λ q. put c.args.line (to_local c.args.local) Put q.1 in
    let q : ValueType × Source = (c.in_ok-source.field-0-1-0, source_view c.in_ok-source.source) in
    let known : j ≡ fine q = one_fine local_parts_view c.args.parts (tt, (c.in_ok-source.field-0-1-0, c.in_ok-source.source)) j c.in_ok-source.was z in
    own_tells c.in-Err.e j (λ (q : ValueType × Source). beside v (unless w (give q))) q known
    (pair_breaks c.args.created c.args.again c.both.result c.in-Err.e v w (give q) c.both.ensures x y c.in-Err.is)

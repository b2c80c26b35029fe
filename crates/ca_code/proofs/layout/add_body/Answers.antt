use Rattle.std.proofs.Common.{◌+◌, length, map, subst}
use Rattle.ca_program.specs.Kinds.{kind_type, kinds_in}
use Rattle.ca_program.specs.Layout.{starts_code, statements_code}
use Rattle.ca_program.specs.View.{program_view, statements_view}
use Rattle.ca_code.specs.Laying.{Adds}
use Rattle.ca_code.proofs.Laying.{then, stopped}
use Rattle.ca_code.proofs.layout.add_body.Goals as goal

pub returns-then-params-ge-MOST_SLOTS : goal.returns-then-params-ge-MOST_SLOTS
returns-then-params-ge-MOST_SLOTS g c = stopped c.fail.ensures

pub returns : goal.returns
returns g c =
    let ks = kinds_in (program_view c.args.program.now) c.args.locals.now in
    let f = g.B.Bodies.acts c.args.bodies.now ks in
    let hands = g.B.Bodies.hands c.args.bodies.now ks (map kind_type c.args.locals.now) in
    then (subst (λ tys. Adds c.args.rows.now c.add_starts.new.rows (starts_code c.args.params tys)) c.others-behind.ensures c.add_starts.ensures)
    (then (subst (λ tys. Adds c.add_starts.new.rows c.statements.new.rows (statements_code ks f hands (statements_view c.args.stmts.now) (c.args.params + length tys))) c.others-behind.ensures c.statements.ensures) c.push.ensures)

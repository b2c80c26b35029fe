use Rattle.std.proofs.Common.{map}
use Rattle.ca_program.specs.View.{method_view, program_view}
use Rattle.ca_code.proofs.Copying.{copies_lie, told_so}
use Rattle.ca_code.proofs.layout.add_others.Goals as goal

pub returns-then-not-is_copied : goal.returns-then-not-is_copied
returns-then-not-is_copied g c = told_so _ _ c.add_methods.result (λ places lies old begin was. lies) c.add_methods.ensures

pub returns : goal.returns
returns g c = λ old begin lies.
    copies_lie (g.B.Bodies.acts c.args.bodies.now) (g.B.Bodies.hands c.args.bodies.now) (g.B.Bodies.changed c.args.bodies.now) (program_view c.args.program.now) (c.is_copied.ensures c.if-not-is_copied.false) (map method_view c.args.methods.now) c.args.from c.here.result begin c.here.ensures.value lies c.in_ok-others.ensures c.add_copies.ensures

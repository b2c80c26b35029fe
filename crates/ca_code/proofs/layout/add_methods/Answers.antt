use Rattle.std.proofs.Common.{◌+◌, drop, map, arith, sym, subst}
use Rattle.ca_program.specs.View.{method_view, program_view}
use Rattle.ca_code.specs.Seen.{row_of}
use Rattle.ca_code.specs.Texts.{method_code}
use Rattle.ca_code.proofs.Places.{Left, none_added, method_added, all_added}
use Rattle.ca_code.proofs.layout.add_methods.Goals as goal

pub methods-init : goal.methods-init
methods-init g c =
    let f = method_code (g.B.Bodies.acts c.args.bodies.now) (g.B.Bodies.hands c.args.bodies.now) (row_of 0 c.args.last) (program_view c.args.program.now) in
    let ms = map method_view c.args.methods.now in
    subst (λ places. Left c.args.rows.now ms c.args.rows.now places f ms) (sym c.new-places.ensures.items) (none_added c.args.rows.now f ms)

pub methods-preserved : goal.methods-preserved
methods-preserved g c =
    let f = method_code (g.B.Bodies.acts c.args.bodies.now) (g.B.Bodies.hands c.args.bodies.now) (row_of 0 c.args.last) (program_view c.args.program.now) in
    subst (λ places. Left c.args.rows.now (map method_view c.args.methods.now) c.add_body.new.rows places f (map method_view (drop (c.methods.m-index + 1) c.args.methods.now))) (sym c.in_ok-push.ensures.items)
    (method_added f c.args.methods.now c.methods.m-index c.m-item.result (omega arith) c.m-item.is c.here.ensures.value c.methods.invariant
    (rw (c.as_slice.ensures.value, c.as_slice-in-methods.ensures.value) at c.add_body.ensures))

pub returns : goal.returns
returns g c =
    let f = method_code (g.B.Bodies.acts c.args.bodies.now) (g.B.Bodies.hands c.args.bodies.now) (row_of 0 c.args.last) (program_view c.args.program.now) in
    all_added f c.args.methods.now c.methods.m-index (omega arith) c.methods.invariant

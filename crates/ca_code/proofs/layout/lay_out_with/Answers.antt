use Rattle.std.proofs.Common.{◌≡◌, map, ap, sym, subst, ◌∙◌}
use Rattle.ca_program.specs.Instructions.{Leave, on}
use Rattle.ca_program.specs.Kinds.{param_kinds}
use Rattle.ca_program.specs.Layout.{function_code, operation_code}
use Rattle.ca_program.specs.View.{program_view, method_view}
use Rattle.ca_program.specs.declared.program.Method.{Method}
use Rattle.ca_code.specs.Codes.{kinds_seen}
use Rattle.ca_code.specs.Texts.{method_code, main_body}
use Rattle.ca_code.specs.Laying.{Adds}
use Rattle.ca_code.specs.clauses.Places.{Lays}
use Rattle.ca_code.proofs.LaidOut.{laid_out, maps_twice}
use Rattle.ca_code.proofs.layout.lay_out_with.Goals as goal

pub returns : goal.returns
returns g c =
    let p = program_view c.args.program.now in
    let f = g.B.Bodies.acts c.args.bodies.now in
    let hands = g.B.Bodies.hands c.args.bodies.now in
    let values : Lays c.new-rows.result c.add_methods.new.rows c.in_ok-functions.functions.items p.functions (λ m. function_code p m) = rw c.as_slice-values.ensures.value at c.in_ok-functions.ensures in
    let operations : Lays c.add_methods.new.rows c.add_methods-2.new.rows c.in_ok-ops.ops.items p.ops (λ m. operation_code p m) = rw c.as_slice-methods.ensures.value at c.in_ok-ops.ensures in
    let heeding : Lays c.add_methods-2.new.rows c.add_others.new.rows c.in_ok-heeding.heeding.items p.ops (method_code f hands (on 0 Leave) p) =
    rw c.as_slice-methods.ensures.value at (c.in_ok-heeding.ensures c.add_methods.new.rows c.here-from.ensures.value (subst (λ places. Lays c.add_methods.new.rows c.add_methods-2.new.rows places (map method_view c.as_slice-methods.result.now) (λ m. operation_code p m)) (sym c.as_slice-starts.ensures.value) c.in_ok-ops.ensures)) in
    let kinds : map kinds_seen c.in_ok-params.params.items ≡ map param_kinds p.ops =
    c.in_ok-params.ensures ∙ (ap (λ (ms : _). map (λ (m : Method). param_kinds (method_view m)) ms) c.as_slice-methods.ensures.value ∙ maps_twice method_view param_kinds c.args.program.now.ops.items) in
    let main : Adds c.add_others.new.rows c.add_body.new.rows (main_body f hands p) = rw (c.as_slice-locals.ensures.value, c.as_slice.ensures.value) at c.add_body.ensures in
    laid_out f hands p _ c.new-rows.ensures values operations heeding kinds c.here-main.ensures.value main c.in_ok-rows.ensures.failed c.in_ok-rows.ensures.rows

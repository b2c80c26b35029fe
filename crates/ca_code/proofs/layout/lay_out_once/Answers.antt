use Rattle.std.proofs.Common.{◌≡◌, map, ap, subst, ◌∙◌}
use Rattle.ca_program.specs.Kinds.{param_kinds}
use Rattle.ca_program.specs.Layout.{all_acts, no_hands, function_code, operation_code}
use Rattle.ca_program.specs.View.{program_view, method_view}
use Rattle.ca_program.specs.declared.program.Method.{Method}
use Rattle.ca_code.specs.Codes.{kinds_seen}
use Rattle.ca_code.specs.Texts.{main_body}
use Rattle.ca_code.specs.Laying.{Adds}
use Rattle.ca_code.specs.clauses.Places.{Lays}
use Rattle.ca_code.proofs.LaidOut.{laid_out_once, main_is, maps_twice}
use Rattle.ca_code.proofs.layout.lay_out_once.Goals as goal

pub returns : goal.returns
returns c =
    let p = program_view c.args.program.now in
    let values : Lays c.new-rows.result c.add_methods.new.rows c.in_ok-functions.functions.items p.functions (λ m. function_code p m) = rw c.as_slice-values.ensures.value at c.in_ok-functions.ensures in
    let operations : Lays c.add_methods.new.rows c.add_methods-2.new.rows c.in_ok-ops.ops.items p.ops (λ m. operation_code p m) = rw c.as_slice-methods.ensures.value at c.in_ok-ops.ensures in
    let kinds : map kinds_seen c.in_ok-params.params.items ≡ map param_kinds p.ops =
    c.in_ok-params.ensures ∙ (ap (λ (ms : _). map (λ (m : Method). param_kinds (method_view m)) ms) c.as_slice-methods.ensures.value ∙ maps_twice method_view param_kinds c.args.program.now.ops.items) in
    let body : Adds c.add_methods-2.new.rows c.add_body.new.rows (main_body (λ ks. all_acts ks) (λ ks κs. no_hands) p) = rw (c.as_slice-locals.ensures.value, c.as_slice.ensures.value) at c.add_body.ensures in
    let main = subst (λ code. Adds c.add_methods-2.new.rows c.add_body.new.rows code) (main_is (λ ks. all_acts ks) (λ ks κs. no_hands) p) body in
    laid_out_once p _ c.new-rows.ensures values operations kinds c.here-main.ensures.value main c.in_ok-rows.ensures.failed c.in_ok-rows.ensures.rows

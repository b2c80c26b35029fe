use Rattle.std.proofs.Common.{◌≡◌, ◌<◌, ◌≤◌, length, get_or, sym, ap, subst, arith}
use Rattle.ca_program.specs.Kinds.{kinds_in, param_kind}
use Rattle.ca_program.specs.Layout.{how_many}
use Rattle.ca_program.specs.View.{expressions_view, program_view}
use Rattle.ca_code_laws.specs.Fitting.{AreOf, Takes}
use Rattle.ca_sections.specs.Fitting.{Finds}
use Rattle.ca_sections.proofs.Testing.{method_there, none_takes, refuted}
use Rattle.ca_sections.proofs.fits.Body.calls.Goals as goal

pub returns-then-place-methods : goal.returns-then-place-methods
returns-then-place-methods c =
    let p = program_view c.args.self.now.scope.program.now in
    let tys = c.args.self.now.scope.locals.now in
    let ms = c.args.self.now.scope.program.now.functions.items in
    let es = expressions_view c.args.es.now in
    let x = c.index-methods-place.result in
    let lt : c.args.m.0 < length ms = omega (arith, ap length c.as_slice-methods.ensures.value) in
    let at : x ≡ get_or ms c.args.m.0 x = rw c.as_slice-methods.ensures.value at c.index-methods-place.is in
    subst (λ o. Finds c.fit_params.result (Takes o (how_many es) × AreOf (kinds_in p tys) (λ i. param_kind o i) es)) (sym (method_there ms c.args.m.0 x lt at)) c.fit_params.ensures

pub returns-else-place-methods : goal.returns-else-place-methods
returns-else-place-methods c =
    let ms = c.args.self.now.scope.program.now.functions.items in
    let le : length ms ≤ c.args.m.0 = omega (arith, ap length c.as_slice-methods.ensures.value) in
    refuted (λ h. none_takes ms c.args.m.0 (how_many (expressions_view c.args.es.now)) le h.0)

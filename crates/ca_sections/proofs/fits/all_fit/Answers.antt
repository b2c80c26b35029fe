use Rattle.std.proofs.Common.{◌<◌, ◌≤◌, length, refl, arith}
use Rattle.ca_program.specs.View.{program_view}
use Rattle.ca_sections.proofs.Testing.{method_fits, method_in, methods_fit, never, refuted}
use Rattle.ca_sections.proofs.fits.all_fit.Goals as goal

pub functions-init : goal.functions-init
functions-init c = λ fits. fits

pub returns-then-not-fits_method : goal.returns-then-not-fits_method
returns-then-not-fits_method c =
    let ms = c.args.program.now.functions.items in
    let lt : c.functions.m-index < length c.deref-m-items.result.now = omega arith in
    refuted (λ h. never (c.fits_method.ensures.1 (method_in (program_view c.args.program.now) ms c.functions.m-index c.m-item.result (rw c.deref-m-items.ensures.value at lt) (rw c.deref-m-items.ensures.value at c.m-item.is) h.each)) c.if-not-fits_method.true)

pub functions-preserved : goal.functions-preserved
functions-preserved c =
    let ms = c.args.program.now.functions.items in
    let lt : c.functions.m-index < length c.deref-m-items.result.now = omega arith in
    method_fits (program_view c.args.program.now) ms c.functions.m-index c.m-item.result (rw c.deref-m-items.ensures.value at lt) (rw c.deref-m-items.ensures.value at c.m-item.is) (c.fits_method.ensures.0 c.if-not-fits_method.false) c.functions.invariant

pub returns : goal.returns
returns c =
    let le : length c.deref-m-items.result.now ≤ c.functions.m-index = omega arith in
    (λ ok. record { each = methods_fit (program_view c.args.program.now) c.args.program.now.functions.items c.functions.m-index (rw c.deref-m-items.ensures.value at le) c.functions.invariant }, λ h. refl)

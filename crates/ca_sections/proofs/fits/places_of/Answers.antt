use Rattle.std.proofs.Common.{◌≡◌, ◌<◌, ◌≤◌, true, ℕ, [], ◌∷◌, length, length-append, map, Some, ap, ◌∙◌, arith}
use Rattle.std.specs.Prelude.{slice_get}
use Rattle.std.proofs.lemmas.List.{length-map}
use Rattle.ca_program.specs.View.{method_view, program_view}
use Rattle.ca_code_laws.specs.Fitting.{FitsMethod}
use Rattle.ca_sections.proofs.Testing.{all_stand, method_there, none_stand, none_told, one_stands, one_told}
use Rattle.ca_sections.proofs.fits.places_of.Goals as goal

pub ops-init : goal.ops-init
ops-init c = record {
  told = none_told (program_view c.args.program.now) c.args.starts.now c.in_ok-places.places.items c.in_ok-places.ensures.items;
  stand = none_stand (program_view c.args.program.now) c.args.starts.now c.in_ok-places.places.items c.in_ok-places.ensures.items;
  count = omega (arith, ap length c.in_ok-places.ensures.items);
}

pub ops-preserved : goal.ops-preserved
ops-preserved c =
    let p = program_view c.args.program.now in
    let ms = c.args.program.now.ops.items in
    let i = c.ops.m-index in
    let m = c.m-item.result in
    let n = c.place_if-place.result in
    let lt : i < length c.deref-m-items.result.now = omega arith in
    let there = method_there ms i m (rw c.deref-m-items.ensures.value at lt) (rw c.deref-m-items.ensures.value at c.m-item.is) in
    let at : slice_get (map method_view ms) (length c.ops.places.items) ≡ Some (method_view m) = ap (λ n. slice_get (map method_view ms) n) c.ops.invariant.count ∙ there in
    let more = c.in_ok-push.ensures.items in
    let tells : n < 4294967295 → FitsMethod p true (method_view m) × (slice_get c.args.starts.now (length c.ops.places.items) ≡ Some n) =
    λ lt. let t = rw (c.len-in-ops.ensures ∙ c.ops.places.ok.0) at c.place_if-place.ensures.fits in (c.fits_method-fits.ensures.0 (t lt).0, (t lt).1) in
    let stands : (start : ℕ) → FitsMethod p true (method_view m) → slice_get c.args.starts.now (length c.ops.places.items) ≡ Some start → n ≡ start =
    λ start fits begins. let t = rw (c.len-in-ops.ensures ∙ c.ops.places.ok.0) at c.place_if-place.ensures.told in t start (c.fits_method-fits.ensures.1 fits) begins in
    record {
      told = one_told p c.args.starts.now c.ops.places.items _ n (method_view m) more at tells c.ops.invariant.told;
      stand = one_stands p c.args.starts.now c.ops.places.items _ n (method_view m) more at stands c.ops.invariant.stand;
      count = omega (arith, ap length more, length-append c.ops.places.items (n ∷ []), c.ops.invariant.count);
    }

pub returns : goal.returns
returns c =
    let p = program_view c.args.program.now in
    let ms = c.args.program.now.ops.items in
    let le : length c.deref-m-items.result.now ≤ c.ops.m-index = omega arith in
    let long : length ms ≤ c.ops.m-index = rw c.deref-m-items.ensures.value at le in
    (c.ops.invariant.told, all_stand p c.args.starts.now c.ops.places.items (omega (arith, long, c.ops.invariant.count, length-map ms method_view)) c.ops.invariant.stand)

use Rattle.std.proofs.Common.{◌≡◌, ◌<◌, Some, None, sym, subst, ◌∙◌, arith}
use Rattle.std.specs.Prelude.{true, slice_get}
use Rattle.ca_program.specs.Plain.{PlainMethod}
use Rattle.ca_program.specs.View.{program_view}
use Rattle.ca_code_laws.specs.Fitting.{FitsMethod}
use Rattle.ca_sections.specs.Fitting.{Starts}
use Rattle.ca_sections.proofs.Coding.{body_starts, has_no_body, has_no_place}
use Rattle.ca_sections.proofs.coded.Coded.body.Goals as goal

pub returns-else-place : goal.returns-else-place
returns-else-place c =
    let inside = c.self.inside in
    let at : slice_get inside.places.items c.args.op.0 ≡ Some c.in-Some.place = sym (rw c.as_slice.ensures.value at c.place_of.ensures) ∙ c.in-Some.is in
    let there : c.in-Some.place < 4294967295 = omega arith in
    record {
      some = subst (λ q. Starts (program_view q) c.args.op inside.laid.now c.in-Some.place) c.self.view_is (body_starts inside.program.now inside.laid.now inside.places.items c.self.invariant c.args.op c.in-Some.place at there);
      none = tt;
    }

pub returns-then-place : goal.returns-then-place
returns-then-place c =
    let inside = c.self.inside in
    let at : slice_get inside.places.items c.args.op.0 ≡ Some c.in-Some.place = sym (rw c.as_slice.ensures.value at c.place_of.ensures) ∙ c.in-Some.is in
    let none : c.in-Some.place ≡ 4294967295 = omega arith in
    record {
      some = tt;
      none = subst (λ q. (m : PlainMethod) → slice_get (program_view q).ops c.args.op.0 ≡ Some m → FitsMethod (program_view q) true m → ⊥) c.self.view_is (has_no_place inside.program.now inside.laid.now inside.places.items c.self.invariant c.args.op c.in-Some.place at none);
    }

pub returns-in-None : goal.returns-in-None
returns-in-None c =
    let inside = c.self.inside in
    let at : slice_get inside.places.items c.args.op.0 ≡ None = sym (rw c.as_slice.ensures.value at c.place_of.ensures) ∙ c.in-None.is in
    record {
      some = tt;
      none = subst (λ q. (m : PlainMethod) → slice_get (program_view q).ops c.args.op.0 ≡ Some m → FitsMethod (program_view q) true m → ⊥) c.self.view_is (has_no_body inside.program.now inside.laid.now inside.places.items c.self.invariant c.args.op at);
    }

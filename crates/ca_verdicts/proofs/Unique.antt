-- A pair has one verdict, but for which of the demands that differ is told.
use Rattle.std.proofs.Common.{◌≡◌, ℕ, zero, suc, ◌<◌, ◌⊎◌, inl, inr, List, [], ◌∷◌, take, Option, Some, None, refl, ap, ap₂, sym, ◌∙◌, arith, subst}
use Rattle.std.specs.Prelude.{slice_get}
use Rattle.std.proofs.lemmas.Bool.{cases_order, both_ways}
use Rattle.std.proofs.lemmas.Option.{same_Some}
use Rattle.ca_program.specs.declared.program.ClassId.{ClassId}
use Rattle.ca_program.specs.declared.program.FieldId.{FieldId}
use Rattle.ca_program.specs.declared.program.OpId.{OpId}
use Rattle.ca_program.specs.Plain.{PlainProgram, PlainMethod}
use Rattle.ca_meaning.specs.WellTyped.{IsMethodOf}
use Rattle.ca_section.specs.declared.offence.Offence.{Offence}
use Rattle.ca_section.proofs.Told.{refuses, one_first}
use Rattle.ca_forms.specs.declared.form.Normal.{Normal}
use Rattle.ca_norm.specs.Terms.{PlainTerm}
use Rattle.ca_norm.specs.Forms.{norm}
use Rattle.ca_verdicts.specs.declared.verdicts.Verdict.{Verdict}
use Rattle.ca_verdicts.specs.declared.verdicts.Verdict.TheVariants.{Commutes, Unproved}
use Rattle.ca_verdicts.specs.declared.verdicts.Reason.TheVariants.{NotSeparable, LoopForm, Large, FieldDiffers, DemandsDiffer}
use Rattle.ca_verdicts.specs.Laws.{SameVerdict}
use Rattle.ca_verdicts.specs.Verdicts.{Offends, BothSeparable, SameField, SameFields, FirstApart, VerdictOf}

-- two lists that are the same up to a place are the same at each before it
same_before : (ts us : List PlainTerm) (m n : ℕ) (t u : PlainTerm) → SameFields (take m ts) (take m us) → n < m → slice_get ts n ≡ Some t → slice_get us n ≡ Some u → SameField t u
same_before ts us zero n t u h l e f = absurd (omega (arith, l))
same_before [] us (suc m) n t u h l e f = absurd (let g : None ≡ Some t = e in cc)
same_before (x ∷ ts) [] (suc m) n t u h l e f = absurd (let g : None ≡ Some u = f in cc)
same_before (x ∷ ts) (y ∷ us) (suc m) zero t u h l e f = subst (λ z. SameField z u) (same_Some x t e) (subst (SameField x) (same_Some y u f) h.0)
same_before (x ∷ ts) (y ∷ us) (suc m) (suc n) t u h l e f = same_before ts us m n t u h.1 (omega (arith, l)) e f

-- before the first difference there is none
not_before : (xs ys : List PlainTerm) (n m : ℕ) (x y z w : Normal) → FirstApart xs ys n x y → FirstApart xs ys m z w → n < m → ⊥
not_before xs ys n m x y z w d e l = d.apart (same_before xs ys m n d.one d.other e.before l d.first d.second)

same_place : (xs ys : List PlainTerm) (n m : ℕ) (x y z w : Normal) → FirstApart xs ys n x y → FirstApart xs ys m z w → (n ≡ m) ⊎ ((n < m) ⊎ (m < n)) → n ≡ m
same_place xs ys n m x y z w d e (inl i) = i
same_place xs ys n m x y z w d e (inr (inl l)) = absurd (not_before xs ys n m x y z w d e l)
same_place xs ys n m x y z w d e (inr (inr l)) = absurd (not_before xs ys m n z w x y e d l)

same_field : (xs ys : List PlainTerm) (f g : FieldId) (x y z w : Normal) → f.class ≡ g.class → FirstApart xs ys f.field x y → FirstApart xs ys g.field z w → ◌≡◌ {A = Verdict} (Unproved (FieldDiffers f x y)) (Unproved (FieldDiffers g z w))
same_field xs ys f g x y z w i d e =
    let place : f.field ≡ g.field = same_place xs ys f.field g.field x y z w d e (cases_order f.field g.field) in
    let field : f ≡ g = ap₂ (λ (k : ClassId) (n : ℕ). record { class = k; field = n }) i place in
    let one : d.one ≡ e.one = same_Some d.one e.one (sym d.first ∙ ap (slice_get xs) place ∙ e.first) in
    let other : d.other ≡ e.other = same_Some d.other e.other (sym d.second ∙ ap (slice_get ys) place ∙ e.second) in
    let first : x ≡ z = d.first_form ∙ ap norm one ∙ sym e.first_form in
    let second : y ≡ w = d.second_form ∙ ap norm other ∙ sym e.second_form in
    cc

same_at : (ts us : List PlainTerm) (n : ℕ) (t u : PlainTerm) → SameFields ts us → slice_get ts n ≡ Some t → slice_get us n ≡ Some u → SameField t u
same_at [] us n t u h e f = absurd (let g : None ≡ Some t = e in cc)
same_at (x ∷ ts) [] n t u h e f = absurd h
same_at (x ∷ ts) (y ∷ us) zero t u h e f = subst (λ z. SameField z u) (same_Some x t e) (subst (SameField x) (same_Some y u f) h.0)
same_at (x ∷ ts) (y ∷ us) (suc n) t u h e f = same_at ts us n t u h.1 e f

no_difference : (xs ys : List PlainTerm) (n : ℕ) (x y : Normal) → SameFields xs ys → FirstApart xs ys n x y → ⊥
no_difference xs ys n x y e d = d.apart (same_at xs ys n d.one d.other e d.first d.second)

one_class : (o : Option PlainMethod) (c d : ClassId) → IsMethodOf o c → IsMethodOf o d → c ≡ d
one_class None c d i j = absurd i
one_class (Some m) c d i j = sym i ∙ j

no_line : {o : Option ℕ} (n : ℕ) → o ≡ Some n → o ≡ None → ⊥
no_line n e f = absurd cc

module _ (p : PlainProgram) (written : List FieldId) (a b : OpId) where
  -- an offence of one of them
  refused : (op : OpId) (first : Offence) → Offends p written a b op first → BothSeparable p written a b → ⊥
  refused op first (inl o) s = refuses p written a first o.1 s.0
  refused op first (inr o) s = refuses p written b first o.2 s.1

  same_offence : (op op' : OpId) (first other : Offence) → Offends p written a b op first → Offends p written a b op' other → ◌≡◌ {A = Verdict} (Unproved (NotSeparable op first.line first.why)) (Unproved (NotSeparable op' other.line other.why))
  same_offence op op' first other (inl o) (inl q) =
      let e : first ≡ other = one_first p written a first other o.1 q.1 in
      let f : op ≡ op' = o.0 ∙ sym q.0 in
      ap₂ (λ z (w : Offence). Unproved (NotSeparable z w.line w.why)) f e
  same_offence op op' first other (inl o) (inr q) = absurd (refuses p written a first o.1 q.1)
  same_offence op op' first other (inr o) (inl q) = absurd (refuses p written a other q.1 o.1)
  same_offence op op' first other (inr o) (inr q) =
      let e : first ≡ other = one_first p written b first other o.2 q.2 in
      let f : op ≡ op' = o.0 ∙ sym q.0 in
      ap₂ (λ z (w : Offence). Unproved (NotSeparable z w.line w.why)) f e

  pub same_verdict : (v w : Verdict) → VerdictOf p written a b v → VerdictOf p written a b w → SameVerdict v w
  same_verdict Commutes Commutes s t = refl
  same_verdict Commutes (Unproved (NotSeparable y0 y1 y2)) s t = absurd (refused y0 (record { line = y1; why = y2 }) t s.0.can.separable)
  same_verdict Commutes (Unproved (LoopForm y0)) s t = absurd (no_line y0 t.1 s.0.can.loops)
  same_verdict Commutes (Unproved Large) s t = absurd (both_ways _ s.0.light t.1)
  same_verdict Commutes (Unproved (FieldDiffers y0 y1 y2)) s t = absurd (no_difference _ _ y0.field y1 y2 s.1 t.2)
  same_verdict Commutes (Unproved (DemandsDiffer y0 y1 y2 y3)) s t = absurd (t.4 (s.2 _))
  same_verdict (Unproved (NotSeparable x0 x1 x2)) Commutes s t = absurd (refused x0 (record { line = x1; why = x2 }) s t.0.can.separable)
  same_verdict (Unproved (NotSeparable x0 x1 x2)) (Unproved (NotSeparable y0 y1 y2)) s t = same_offence x0 y0 (record { line = x1; why = x2 }) (record { line = y1; why = y2 }) s t
  same_verdict (Unproved (NotSeparable x0 x1 x2)) (Unproved (LoopForm y0)) s t = absurd (refused x0 (record { line = x1; why = x2 }) s t.0)
  same_verdict (Unproved (NotSeparable x0 x1 x2)) (Unproved Large) s t = absurd (refused x0 (record { line = x1; why = x2 }) s t.0.separable)
  same_verdict (Unproved (NotSeparable x0 x1 x2)) (Unproved (FieldDiffers y0 y1 y2)) s t = absurd (refused x0 (record { line = x1; why = x2 }) s t.0.can.separable)
  same_verdict (Unproved (NotSeparable x0 x1 x2)) (Unproved (DemandsDiffer y0 y1 y2 y3)) s t = absurd (refused x0 (record { line = x1; why = x2 }) s t.0.can.separable)
  same_verdict (Unproved (LoopForm x0)) Commutes s t = absurd (no_line x0 s.1 t.0.can.loops)
  same_verdict (Unproved (LoopForm x0)) (Unproved (NotSeparable y0 y1 y2)) s t = absurd (refused y0 (record { line = y1; why = y2 }) t s.0)
  same_verdict (Unproved (LoopForm x0)) (Unproved (LoopForm y0)) s t = ap (λ k. Unproved (LoopForm k)) (same_Some x0 y0 (sym s.1 ∙ t.1))
  same_verdict (Unproved (LoopForm x0)) (Unproved Large) s t = absurd (no_line x0 s.1 t.0.loops)
  same_verdict (Unproved (LoopForm x0)) (Unproved (FieldDiffers y0 y1 y2)) s t = absurd (no_line x0 s.1 t.0.can.loops)
  same_verdict (Unproved (LoopForm x0)) (Unproved (DemandsDiffer y0 y1 y2 y3)) s t = absurd (no_line x0 s.1 t.0.can.loops)
  same_verdict (Unproved Large) Commutes s t = absurd (both_ways _ t.0.light s.1)
  same_verdict (Unproved Large) (Unproved (NotSeparable y0 y1 y2)) s t = absurd (refused y0 (record { line = y1; why = y2 }) t s.0.separable)
  same_verdict (Unproved Large) (Unproved (LoopForm y0)) s t = absurd (no_line y0 t.1 s.0.loops)
  same_verdict (Unproved Large) (Unproved Large) s t = refl
  same_verdict (Unproved Large) (Unproved (FieldDiffers y0 y1 y2)) s t = absurd (both_ways _ t.0.light s.1)
  same_verdict (Unproved Large) (Unproved (DemandsDiffer y0 y1 y2 y3)) s t = absurd (both_ways _ t.0.light s.1)
  same_verdict (Unproved (FieldDiffers x0 x1 x2)) Commutes s t = absurd (no_difference _ _ x0.field x1 x2 t.1 s.2)
  same_verdict (Unproved (FieldDiffers x0 x1 x2)) (Unproved (NotSeparable y0 y1 y2)) s t = absurd (refused y0 (record { line = y1; why = y2 }) t s.0.can.separable)
  same_verdict (Unproved (FieldDiffers x0 x1 x2)) (Unproved (LoopForm y0)) s t = absurd (no_line y0 t.1 s.0.can.loops)
  same_verdict (Unproved (FieldDiffers x0 x1 x2)) (Unproved Large) s t = absurd (both_ways _ s.0.light t.1)
  same_verdict (Unproved (FieldDiffers x0 x1 x2)) (Unproved (FieldDiffers y0 y1 y2)) s t = same_field _ _ x0 y0 x1 x2 y1 y2 (one_class (slice_get p.ops a.0) x0.class y0.class s.1 t.1) s.2 t.2
  same_verdict (Unproved (FieldDiffers x0 x1 x2)) (Unproved (DemandsDiffer y0 y1 y2 y3)) s t = absurd (no_difference _ _ x0.field x1 x2 t.1 s.2)
  same_verdict (Unproved (DemandsDiffer x0 x1 x2 x3)) Commutes s t = absurd (s.4 (t.2 _))
  same_verdict (Unproved (DemandsDiffer x0 x1 x2 x3)) (Unproved (NotSeparable y0 y1 y2)) s t = absurd (refused y0 (record { line = y1; why = y2 }) t s.0.can.separable)
  same_verdict (Unproved (DemandsDiffer x0 x1 x2 x3)) (Unproved (LoopForm y0)) s t = absurd (no_line y0 t.1 s.0.can.loops)
  same_verdict (Unproved (DemandsDiffer x0 x1 x2 x3)) (Unproved Large) s t = absurd (both_ways _ s.0.light t.1)
  same_verdict (Unproved (DemandsDiffer x0 x1 x2 x3)) (Unproved (FieldDiffers y0 y1 y2)) s t = absurd (no_difference _ _ y0.field y1 y2 s.1 t.2)
  same_verdict (Unproved (DemandsDiffer x0 x1 x2 x3)) (Unproved (DemandsDiffer y0 y1 y2 y3)) s t = tt

-- Sums demand nothing and have no condition, and what is told of a sweep whose parts were made one behind the other.
use Rattle.std.proofs.Common.{◌≡◌, Bool, true, false, ◌&&◌, ◌||◌, List, [], ◌∷◌, ◌++◌, Some, Result, Err, OnOk, refl, sym, ap, ap₂, ◌∙◌, append-nil}
use Rattle.std.proofs.Math.Bool.{or-false}
use Rattle.std.proofs.lemmas.Bool.{or_right, or_left}
use Rattle.ca_program.specs.Plain.{PlainProgram, Expression, Statement}
use Rattle.ca_sweep.specs.Sweeps.{PlainSweep, Known}
use Rattle.ca_sweep.specs.Found.{sweep_at}
use Rattle.ca_sweep.specs.Means.{all_but}
use Rattle.ca_sweep.proofs.Sums.{Summed, a_number, a_local, a_field, a_sum, a_product, sum_summed}
use Rattle.ca_sweep.proofs.Finding.{forms_are_sweeps}
use Rattle.ca_norm.specs.Terms.{PlainTerm, neg, sweep}
use Rattle.ca_shared_terms.specs.declared.errors.ExecutionError.{ExecutionError}
use Rattle.ca_shared_terms.specs.declared.errors.ExecutionError.TheVariants.{Large}
use Rattle.ca_shared_terms.specs.Heavy.{is_heavy}
use Rattle.ca_shared_terms.proofs.Heavier.{neg_heavier}
use Rattle.ca_symbolic.specs.States.{State, PlainDemand, term_at, demand, sweeps}
use Rattle.ca_symbolic.specs.Execution.{term_of, with_field, addend_term, sweep_term, after_loop}
use Rattle.ca_symbolic.specs.Demands.{demands_in}
use Rattle.ca_symbolic.specs.Demanded.{Demanded, with_demands}
use Rattle.ca_symbolic.specs.Made.{guards_in}
use Rattle.ca_symbolic.specs.clauses.Refusals.{refused, refused_addend, refused_sweep}
use Rattle.ca_symbolic.specs.clauses.Sums.{SumsDemandNothing}
use Rattle.ca_symbolic.proofs.Ors.{absorbed}
use Rattle.ca_forms.proofs.Told.{on_ok}

pub no_demands : (k : Known) (p : PlainProgram) (s : State) (g : PlainTerm) (e : Expression) → Summed k e → demands_in p s g e ≡ []
no_demands k p s g _ (a_number n) = refl
no_demands k p s g _ (a_local l e) = refl
no_demands k p s g _ (a_field f e) = refl
no_demands k p s g _ (a_sum a b x y) = ap₂ (λ u w. u ++ w) (no_demands k p s g a x) (no_demands k p s g b y)
no_demands k p s g _ (a_product a b x y) = ap₂ (λ u w. u ++ w) (no_demands k p s g a x) (no_demands k p s g b y)

pub no_guards : (k : Known) (p : PlainProgram) (s : State) (g : PlainTerm) (e : Expression) → Summed k e → guards_in p s g e ≡ []
no_guards k p s g _ (a_number n) = refl
no_guards k p s g _ (a_local l e) = refl
no_guards k p s g _ (a_field f e) = refl
no_guards k p s g _ (a_sum a b x y) = ap₂ (λ u w. u ++ w) (no_guards k p s g a x) (no_guards k p s g b y)
no_guards k p s g _ (a_product a b x y) = ap₂ (λ u w. u ++ w) (no_guards k p s g a x) (no_guards k p s g b y)

-- what is found by its form has such sums
pub sums_demand_nothing : (p : PlainProgram) (x : Statement) (w : PlainSweep) → sweep_at x ≡ Some w → SumsDemandNothing p w
sums_demand_nothing p x w e =
    let sums = (forms_are_sweeps x w e).1 in
    let k : Known = all_but w.counter.0 in
    (λ s g. no_demands k p s g w.from (sum_summed k w.from sums.0), λ s g. no_demands k p s g w.to (sum_summed k w.to sums.1), λ s g. no_demands k p s g w.addend (sum_summed k w.addend sums.2))

pub nothing_more : (d : Demanded) → with_demands d [] ≡ d
nothing_more d = ap (λ (l : List PlainDemand). record { guard = d.guard; list = l }) (append-nil d.list)

-- what is added weighs no more with its sign
pub addend_heavy : (minus : Bool) (t : PlainTerm) → (is_heavy t || (minus && is_heavy (neg t))) ≡ true → is_heavy (addend_term minus t) ≡ true
addend_heavy true t h = absorbed (is_heavy t) (is_heavy (neg t)) (neg_heavier t) ∙ h
addend_heavy false t h = sym (or-false (is_heavy t)) ∙ h

-- what a run tells of a sweep: the state and what was demanded before it, and what is behind it
pub record Swept {T : Type 0} (p : PlainProgram) (s left : State) (d now : Demanded) (r : Result T ExecutionError) (w : PlainSweep) : Type 0 where
  pub state : OnOk r (left ≡ after_loop p s (Some w))
  pub demands : OnOk r (now ≡ with_demands d (demand d.guard (sweeps w.field) (term_of p s w.from ∷ term_of p s w.to ∷ []) ∷ []))
  pub light : OnOk r (refused_sweep p s d.guard w ≡ false)
  pub large : r ≡ Err Large → refused_sweep p s d.guard w ≡ true

module _ (p : PlainProgram) (s : State) (d : Demanded) (w : PlainSweep) where
  abbrev first : Bool
  first = refused p s d.guard w.from

  abbrev second : Bool
  second = refused p s d.guard w.to

  abbrev third : Bool
  third = refused_addend p s d.guard w.minus w.addend

  abbrev whole : Bool
  whole = is_heavy (sweep_term p s w)

  pub from_heavy : first ≡ true → refused_sweep p s d.guard w ≡ true
  from_heavy h = or_left first (second || (third || whole)) h

  -- where what was demanded is as before
  pub to_heavy : (d1 : Demanded) → d1 ≡ d → refused p s d1.guard w.to ≡ true → refused_sweep p s d.guard w ≡ true
  to_heavy d1 e h = or_right first (second || (third || whole)) (or_left second (third || whole) (sym (ap (λ (z : Demanded). refused p s z.guard w.to) e) ∙ h))

  pub addend_refused : (d2 : Demanded) → d2 ≡ d → refused_addend p s d2.guard w.minus w.addend ≡ true → refused_sweep p s d.guard w ≡ true
  addend_refused d2 e h =
      or_right first (second || (third || whole)) (or_right second (third || whole) (or_left third whole (sym (ap (λ (z : Demanded). refused_addend p s z.guard w.minus w.addend) e) ∙ h)))

  -- where its parts are light, the whole is refused for the array behind it
  pub swept_as : {T : Type 0} (r : Result T ExecutionError) (left : State) (d1 d2 d3 now : Demanded) (f t x : PlainTerm) → d1 ≡ d → d2 ≡ d1 → d3 ≡ d2 →
      f ≡ term_of p s w.from → t ≡ term_of p s w.to → x ≡ addend_term w.minus (term_of p s w.addend) →
      first ≡ false → refused p s d1.guard w.to ≡ false → refused_addend p s d2.guard w.minus w.addend ≡ false →
      OnOk r (left ≡ with_field s w.field.field (sweep (term_at s.fields w.field.field) f t x)) →
      OnOk r (now ≡ with_demands d3 (demand d3.guard (sweeps w.field) (f ∷ t ∷ []) ∷ [])) →
      OnOk r (is_heavy (sweep (term_at s.fields w.field.field) f t x) ≡ false) →
      (r ≡ Err Large → is_heavy (sweep (term_at s.fields w.field.field) f t x) ≡ true) → Swept p s left d now r w
  swept_as r left d1 d2 d3 now f t x e1 e2 e3 from to addend h1 h2 h3 behind asked light large =
      let made : sweep (term_at s.fields w.field.field) f t x ≡ sweep_term p s w =
      ap₂ (λ y z. sweep (term_at s.fields w.field.field) y z x) from to ∙ ap (sweep (term_at s.fields w.field.field) (term_of p s w.from) (term_of p s w.to)) addend in
      let at : d3 ≡ d = e3 ∙ (e2 ∙ e1) in
      let told : with_demands d3 (demand d3.guard (sweeps w.field) (f ∷ t ∷ []) ∷ []) ≡ with_demands d (demand d.guard (sweeps w.field) (term_of p s w.from ∷ term_of p s w.to ∷ []) ∷ []) =
      ap (λ (z : Demanded). with_demands z (demand z.guard (sweeps w.field) (f ∷ t ∷ []) ∷ [])) at ∙ ap₂ (λ (y z : PlainTerm). with_demands d (demand d.guard (sweeps w.field) (y ∷ z ∷ []) ∷ [])) from to in
      let two : second ≡ false = sym (ap (λ (z : Demanded). refused p s z.guard w.to) e1) ∙ h2 in
      let three : third ≡ false = sym (ap (λ (z : Demanded). refused_addend p s z.guard w.minus w.addend) (e2 ∙ e1)) ∙ h3 in
      let rest : refused_sweep p s d.guard w ≡ whole = ap (λ b. b || (second || (third || whole))) h1 ∙ (ap (λ b. b || (third || whole)) two ∙ ap (λ b. b || whole) three) in
      record {
        state = on_ok r (left ≡ with_field s w.field.field (sweep (term_at s.fields w.field.field) f t x)) (left ≡ after_loop p s (Some w)) (λ z. z ∙ ap (with_field s w.field.field) made) behind;
        demands = on_ok r (now ≡ with_demands d3 (demand d3.guard (sweeps w.field) (f ∷ t ∷ []) ∷ [])) (now ≡ with_demands d (demand d.guard (sweeps w.field) (term_of p s w.from ∷ term_of p s w.to ∷ []) ∷ [])) (λ z. z ∙ told) asked;
        light = on_ok r (is_heavy (sweep (term_at s.fields w.field.field) f t x) ≡ false) (refused_sweep p s d.guard w ≡ false) (λ z. rest ∙ (sym (ap is_heavy made) ∙ z)) light;
        large = λ h. rest ∙ (sym (ap is_heavy made) ∙ large h);
      }

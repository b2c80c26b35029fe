-- Statements one after the other: where they go on, with what is left.
use Rattle.std.proofs.Common.{◌≡◌, ℕ, zero, suc, ◌+◌, ◌-◌, ◌≤◌, Bool, true, false, List, [], ◌∷◌, Option, Some, None, refl, sym, ap, ap₂, ◌∙◌, slice_set}
use Rattle.std.specs.Prelude.{nat_le, if◌then◌else◌}
use Rattle.ca_model.specs.declared.value.Value.{Value as Datum}
use Rattle.ca_model.specs.declared.value.Value.TheVariants.{Null}
use Rattle.ca_meaning.specs.Expressions.{Out, gives, traps, over}
use Rattle.ca_meaning.specs.Flows.{Flow, goes_on, gives_back, stops, runs_out, and_on, with}
use Rattle.ca_meaning.specs.Sections.{Section}
use Rattle.ca_symbolic_laws.specs.Costs.{plus, left_if, left, with_left, value_of, hidden, state_of}
use Rattle.ca_symbolic_laws.proofs.Budgets.{and_then, then_left, more_false}

-- a statement sets one local alike
pub hidden_set : (t : ℕ → Bool) (n : ℕ) (ls ms : List Datum) (l : ℕ) (d : Datum) → hidden t n ls ≡ hidden t n ms → hidden t n (slice_set ls l d) ≡ hidden t n (slice_set ms l d)
hidden_set t n [] [] l d e = refl
hidden_set t n [] (y ∷ ms) l d e = cc
hidden_set t n (x ∷ ls) [] l d e = cc
hidden_set t n (x ∷ ls) (y ∷ ms) zero d e = let k : hidden t (n + 1) ls ≡ hidden t (n + 1) ms = cc in ap (λ z. (if t n then Null else d) ∷ z) k
hidden_set t n (x ∷ ls) (y ∷ ms) (suc l) d e =
    let k : hidden t (n + 1) ls ≡ hidden t (n + 1) ms = cc in
    let h : (if t n then Null else x) ≡ (if t n then Null else y) = cc in
    ap₂ (λ a b. a ∷ b) h (hidden_set t (n + 1) ls ms l d k)

-- a cost that leaves nothing leaves nothing to what comes behind it
left_none : (c d : Option ℕ) (k : ℕ) → left c k ≡ None → left (plus c d) k ≡ None
left_none None d k e = refl
left_none (Some m) None k e = refl
left_none (Some m) (Some n) k e = at (nat_le m k) refl e
  where
    at : (b : Bool) → nat_le m k ≡ b → left_if b (k - m) ≡ None → left (Some (m + n)) k ≡ None
    at true q h = cc
    at false q h = ap (λ b. left_if b (k - (m + n))) (more_false m n k q)

none_left : {A : Type 0} (x : A) (o : Option ℕ) → None ≡ with_left x o → o ≡ None
none_left x None e = refl
none_left x (Some j) e = cc

some_left : {A : Type 0} (a x : A) (j : ℕ) (o : Option ℕ) → Some (a, j) ≡ with_left x o → a ≡ x
some_left a x j None e = cc
some_left a x j (Some i) e = ap (λ o. first a o) e
  where
    first : {A : Type 0} → A → Option (A × ℕ) → A
    first a None = a
    first a (Some r) = r.0

module _ (t : ℕ → Bool) where
  with_kept : {A : Type 0} (o : Out A) (q : Section) (F : A → ℕ → Flow Section) → state_of t (with o q F) ≡ and_then (value_of o) (λ r. state_of t (F r.0 r.1))
  with_kept (gives x k) q F = refl
  with_kept (traps e) q F = refl
  with_kept over q F = refl

  -- an evaluation and what a statement does with its value
  pub with_then : {A : Type 0} (o : Out A) (q : Section) (F : A → ℕ → Flow Section) (x : A) (w : List Datum × Section) (c d : Option ℕ) (k : ℕ) → value_of o ≡ with_left x (left c k) → ((j : ℕ) → j ≤ k → state_of t (F x j) ≡ with_left w (left d j)) → state_of t (with o q F) ≡ with_left w (left (plus c d) k)
  with_then o q F x w c d k e h = with_kept o q F ∙ ap (λ z. and_then z (λ r. state_of t (F r.0 r.1))) e ∙ then_left x w c d k (λ y j. state_of t (F y j)) h

  -- the same where the value is used only if the evaluation has a cost
  pub with_some : {A : Type 0} (o : Out A) (q : Section) (F : A → ℕ → Flow Section) (x : A) (w : List Datum × Section) (c d : Option ℕ) (k : ℕ) → value_of o ≡ with_left x (left c k) → ((n : ℕ) → c ≡ Some n → (j : ℕ) → j ≤ k → state_of t (F x j) ≡ with_left w (left d j)) → state_of t (with o q F) ≡ with_left w (left (plus c d) k)
  with_some o q F x w None d k e h = with_kept o q F ∙ ap (λ z. and_then z (λ r. state_of t (F r.0 r.1))) e
  with_some o q F x w (Some n) d k e h = with_then o q F x w (Some n) d k e (h n refl)

  on_kept : (f : Flow Section) (G : List Datum → Section → ℕ → Flow Section) (x : List Datum) (q : Section) (w : List Datum × Section) (c d : Option ℕ) (k : ℕ) → state_of t f ≡ with_left (x, q) (left c k) → state_of t f ≡ None → state_of t (and_on f G) ≡ None → state_of t (and_on f G) ≡ with_left w (left (plus c d) k)
  on_kept f G x q w c d k e n h = h ∙ sym (ap (with_left w) (left_none c d k (none_left (x, q) (left c k) (sym n ∙ e))))

  -- a statement and then others, whatever the hidden locals hold
  pub on_then : (f : Flow Section) (G : List Datum → Section → ℕ → Flow Section) (x : List Datum) (q : Section) (w : List Datum × Section) (c d : Option ℕ) (k : ℕ) → state_of t f ≡ with_left (x, q) (left c k) →
      ((hs : List Datum) → hidden t 0 hs ≡ x → (j : ℕ) → j ≤ k → state_of t (G hs q j) ≡ with_left w (left d j)) → state_of t (and_on f G) ≡ with_left w (left (plus c d) k)
  on_then (goes_on hs r i) G x q w c d k e h =
      let same : (hidden t 0 hs, r) ≡ (x, q) = some_left (hidden t 0 hs, r) (x, q) i (left c k) e in
      let held : hidden t 0 hs ≡ x = ap (λ z. z.0) same in
      ap (λ z. and_then z (λ y. state_of t (G hs y.0.1 y.1))) e ∙ then_left (x, q) w c d k (λ y j. state_of t (G hs y.1 j)) (h hs held)
  on_then (gives_back v r i) G x q w c d k e h = on_kept (gives_back v r i) G x q w c d k e refl refl
  on_then (stops u r) G x q w c d k e h = on_kept (stops u r) G x q w c d k e refl refl
  on_then (runs_out r) G x q w c d k e h = on_kept (runs_out r) G x q w c d k e refl refl

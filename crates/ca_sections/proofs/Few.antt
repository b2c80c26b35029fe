-- Calls of few arguments.
use Rattle.std.proofs.Common.{◌≡◌, ℕ, zero, suc, ◌+◌, List, [], ◌∷◌, Some, length, map, refl, sym, ap, ◌∙◌, arith}
use Rattle.std.proofs.lemmas.List.{nil_from_length}
use Rattle.std.proofs.lemmas.Option.{same_Some}
use Rattle.std.specs.Prelude.{slice_get}
use Rattle.ca_model.specs.declared.value.Value.{Value as Datum}
use Rattle.ca_code.specs.declared.ins.Kind.{Kind as Held}
use Rattle.ca_code.specs.Seen.{kind_seen}
use Rattle.ca_code_laws.specs.Machine.{Store, row}
use Rattle.ca_code_laws.specs.Words.{read_as}

-- lists of one item and of two
only_one : {A : Type 0} (xs : List A) (x : A) → length xs ≡ 1 → slice_get xs 0 ≡ Some x → xs ≡ x ∷ []
only_one [] x len at = absurd (omega (arith, len))
only_one (y ∷ []) x len at = ap (λ z. z ∷ []) (same_Some _ _ at)
only_one (y ∷ z ∷ zs) x len at = absurd (omega (arith, len))

only_two : {A : Type 0} (xs : List A) (x y : A) → length xs ≡ 2 → slice_get xs 0 ≡ Some x → slice_get xs 1 ≡ Some y → xs ≡ x ∷ y ∷ []
only_two [] x y len at next = absurd (omega (arith, len))
only_two (v ∷ []) x y len at next = absurd (omega (arith, len))
only_two (v ∷ w ∷ []) x y len at next = ap (λ z. z ∷ w ∷ []) (same_Some _ _ at) ∙ ap (λ z. x ∷ z ∷ []) (same_Some _ _ next)
only_two (u ∷ v ∷ w ∷ ws) x y len at next = absurd (omega (arith, len))

-- as many values as kinds, each by its kind
row_long : (f : Store) (first : ℕ) (ks : List Held) → length (row f first (map kind_seen ks)) ≡ length ks
row_long f first [] = refl
row_long f first (k ∷ ks) = ap suc (row_long f (first + 1) ks)

pub row_at : (f : Store) (first : ℕ) (ks : List Held) (i : ℕ) (k : Held) → slice_get ks i ≡ Some k → slice_get (row f first (map kind_seen ks)) i ≡ Some (read_as (kind_seen k) (f (first + i)))
row_at f first [] i k e = absurd (cc)
row_at f first (l ∷ ks) zero k e =
    let here : first ≡ first + 0 = omega arith in
    ap (λ l. Some (read_as (kind_seen l) (f first))) (same_Some _ _ e) ∙ ap (λ n. Some (read_as (kind_seen k) (f n))) here
row_at f first (l ∷ ks) (suc i) k e =
    let on : first + 1 + i ≡ first + suc i = omega arith in
    row_at f (first + 1) ks i k e ∙ ap (λ n. Some (read_as (kind_seen k) (f n))) on

module _ (f : Store) (first : ℕ) (ks : List Held) where
  pub row_of_none : length ks ≡ 0 → [] ≡ row f first (map kind_seen ks)
  row_of_none none = sym (ap (λ ks. row f first (map kind_seen ks)) (nil_from_length ks none))

  pub row_of_one : (v : Datum) → length ks ≡ 1 → slice_get (row f first (map kind_seen ks)) 0 ≡ Some v → v ∷ [] ≡ row f first (map kind_seen ks)
  row_of_one v len at = sym (only_one (row f first (map kind_seen ks)) v (row_long f first ks ∙ len) at)

  pub row_of_two : (v w : Datum) → length ks ≡ 2 → slice_get (row f first (map kind_seen ks)) 0 ≡ Some v → slice_get (row f first (map kind_seen ks)) 1 ≡ Some w → v ∷ w ∷ [] ≡ row f first (map kind_seen ks)
  row_of_two v w len at next = sym (only_two (row f first (map kind_seen ks)) v w (row_long f first ks ∙ len) at next)

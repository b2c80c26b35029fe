-- A bit for each of the first 64 fields tells whether an old value of its item 0 is there.
use Rattle.std.proofs.Common.{◌≡◌, ℕ, zero, ◌^◌, ◌*◌, ◌%◌, ◌<◌, ◌⊎◌, inl, inr, Bool, true, false, not, eqb, List, [], ◌∷◌, ◌++◌, Some, refl, ap, sym, ◌∙◌, subst, arith, max, w64, eq-eqb, ne_eqb}
use Rattle.std.specs.Prelude.{◌&&◌, ◌||◌, bit_and, bit_or, nat_eq, if◌then◌else◌, ◌≢◌}
use Rattle.std.specs.Int.{bit_at}
use Rattle.std.proofs.lemmas.Bool.{cases_eq}
use Rattle.std.proofs.lemmas.Nat.{one_shl, pow_pos}
use Rattle.std.proofs.lemmas.Nat.Bits.{and_pow, bit_at-zero, bit_at_or, bit_at_set_same, bit_at_set_other}
use Rattle.ca_undo.specs.declared.olds.Old.{Old}
use Rattle.ca_undo.specs.Olds.{is_of, has_old, Marks}

pub marks_none : Marks 0 []
marks_none f low = bit_at-zero f

-- the test `marks & (1 << f) != 0`
pub test_is : (marks f : ℕ) (b : Bool) → f < 64 → bit_at marks f ≡ (if b then 1 else 0) → not (eqb (bit_and marks (1 * 2 ^ f % 2 ^ 64)) 0) ≡ b
test_is marks f true low e =
    let p : bit_and marks (1 * 2 ^ f % 2 ^ 64) ≡ bit_at marks f * 2 ^ f = ap (bit_and marks) (one_shl f 64 low) ∙ and_pow marks f in
    let some : 0 < bit_and marks (1 * 2 ^ f % 2 ^ 64) = rw (p, e) (omega (arith, pow_pos f)) in
    ap not (ne_eqb _ 0 (omega arith))
test_is marks f false low e =
    let p : bit_and marks (1 * 2 ^ f % 2 ^ 64) ≡ bit_at marks f * 2 ^ f = ap (bit_and marks) (one_shl f 64 low) ∙ and_pow marks f in
    ap not (eq-eqb _ 0 (rw (p, e) (omega arith)))

-- with one old value more of item 0 of such a field
bit_with : (marks f : ℕ) (o : Old) (os : List Old) → f < 64 → o.item ≡ 0 → o.field < 64 → Marks marks os → bit_at (bit_or marks (1 * 2 ^ o.field % 2 ^ 64)) f ≡ (if has_old (o ∷ os) f 0 then 1 else 0)
bit_with marks f o os low first small all =
    elim (cases_eq f o.field) [
      | inl same ↦
          let of : is_of (Some o) f 0 ≡ true = ap (λ b. b && nat_eq o.item 0) (eq-eqb o.field f (sym same)) ∙ eq-eqb o.item 0 first in
          ap (bit_at (bit_or marks (1 * 2 ^ o.field % 2 ^ 64))) same
          ∙ (bit_at_set_same w64 marks o.field small ∙ sym (ap (λ b. if b || has_old os f 0 then 1 else 0) of))
      | inr other ↦
          let of : is_of (Some o) f 0 ≡ false = ap (λ b. b && nat_eq o.item 0) (ne_eqb o.field f (λ e. other (sym e))) in
          bit_at_set_other w64 marks o.field small f other ∙ (all f low ∙ sym (ap (λ b. if b || has_old os f 0 then 1 else 0) of))
    ]

pub marks_added : (marks : ℕ) (o : Old) (os : List Old) → o.field < 64 → o.item ≡ 0 → Marks marks os → Marks (bit_or marks (1 * 2 ^ o.field % 2 ^ 64)) (o ∷ os)
marks_added marks o os small first all f low = bit_with marks f o os low first small all

-- the marks of two lists, one behind the other

has_both : (rs os : List Old) (f : ℕ) → (has_old rs f 0 || has_old os f 0) ≡ has_old (rs ++ os) f 0
has_both [] os f = refl
has_both (r ∷ rs) os f = either (is_of (Some r) f 0) (has_old rs f 0) (has_old os f 0) ∙ ap (λ b. is_of (Some r) f 0 || b) (has_both rs os f)
  where
    either : (a b c : Bool) → ((a || b) || c) ≡ (a || (b || c))
    either true b c = refl
    either false b c = refl

bit_of_both : (a b : Bool) (m n : ℕ) → m ≡ (if a then 1 else 0) → n ≡ (if b then 1 else 0) → max m n ≡ (if b || a then 1 else 0)
bit_of_both true true m n p q = omega (arith, p, q)
bit_of_both true false m n p q = omega (arith, p, q)
bit_of_both false true m n p q = omega (arith, p, q)
bit_of_both false false m n p q = omega (arith, p, q)

pub marks_both : (one other : ℕ) (os rs : List Old) → Marks one os → Marks other rs → Marks (bit_or one other) (rs ++ os)
marks_both one other os rs p q f low =
    bit_at_or one other f
    ∙ (bit_of_both (has_old os f 0) (has_old rs f 0) (bit_at one f) (bit_at other f) (p f low) (q f low) ∙ ap (λ b. if b then 1 else 0) (has_both rs os f))

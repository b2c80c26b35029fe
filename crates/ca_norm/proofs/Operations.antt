-- What the operators leave as words.
use Rattle.std.proofs.Common.{◌≡◌, ℕ, ◌+◌, ◌-◌, ◌*◌, ◌%◌, ◌^◌, ℤ, pos, negsuc, ◌+ℤ◌, ◌-ℤ◌, ◌*ℤ◌, neg_ℤ, Bool, true, false, FitsSigned, refl, sym, ap, ap₂, ◌∙◌, arith, subst, w64, to_z, eqb}
use Rattle.std.specs.Prelude.{nat_eq, int_lt}
use Rattle.std.specs.Int.{int_wrap}
use Rattle.std.proofs.lemmas.Bool.Decides.{nat_tests}
use Rattle.std.proofs.lemmas.Int.{SFits-int_wrap, to_z-of_z}
use Rattle.std.proofs.Math.Nat.{mod-eq_of_lt}
use lib.IntN.{+ℤ_idl}
use Rattle.ca_tree.specs.declared.tree.BinaryOp.TheVariants as op
use Rattle.ca_tree.specs.declared.tree.UnaryOp.TheVariants as sign
use Rattle.ca_model.specs.declared.value.Value.{Value as Datum}
use Rattle.ca_model.specs.declared.value.Value.TheVariants as datum
use Rattle.ca_meaning.specs.Operators.{signed, same_int, not_of, both, either, same_truth}
use Rattle.ca_forms.specs.declared.sort.Sort.{Sort}
use Rattle.ca_forms.specs.declared.sort.Sort.TheVariants.{Long, Bool as Truth, Pointer, LongArray, BoolArray, PointerArray}
use Rattle.ca_forms.specs.Rules.{is_below}
use Rattle.ca_sums.specs.Sums.{Alike}
use Rattle.ca_sums.proofs.Algebra.{alike_eq, alike_trans}
use Rattle.ca_norm.specs.Terms.{IsArray}
use Rattle.ca_norm.specs.Meanings.{IsOfSort, operate, chosen, bit, word_of}
use Rattle.ca_norm.proofs.Words.{word, word_fits, word_wrap, word_pos, word_add, word_sub, word_mul, word_small}
use Rattle.ca_folds.proofs.Laws.{same_number as nat_eq_true}
use Rattle.ca_forms.proofs.Made.{equal as nat_eq_itself}

pub record IsLong (d : Datum) : Type 0 where
  pub number : ℤ
  pub fits : FitsSigned w64 number
  pub is : d ≡ datum.Long number

pub record IsTruth (d : Datum) : Type 0 where
  pub truth : Bool
  pub is : d ≡ datum.Bool truth

-- a value of the sort
abbrev pub IsTyped : Sort → Datum → Type 0
IsTyped Long d = IsLong d
IsTyped Truth d = IsTruth d
IsTyped Pointer d = IsOfSort Pointer d
IsTyped sort d = d ≡ datum.Null

long_typed : (d : Datum) → IsOfSort Long d → IsLong d
long_typed (datum.Long n) h = record { number = n; fits = h; is = refl }
long_typed (datum.Bool b) h = absurd h
long_typed datum.Null h = absurd h
long_typed (datum.Ref r) h = absurd h

truth_typed : (d : Datum) → IsOfSort Truth d → IsTruth d
truth_typed (datum.Long n) h = absurd h
truth_typed (datum.Bool b) h = record { truth = b; is = refl }
truth_typed datum.Null h = absurd h
truth_typed (datum.Ref r) h = absurd h

null_typed : (s : Sort) → IsArray s → (d : Datum) → IsOfSort s d → d ≡ datum.Null
null_typed LongArray w datum.Null h = refl
null_typed BoolArray w datum.Null h = refl
null_typed PointerArray w datum.Null h = refl
null_typed LongArray w (datum.Long n) h = absurd h
null_typed LongArray w (datum.Bool b) h = absurd h
null_typed LongArray w (datum.Ref r) h = absurd h
null_typed BoolArray w (datum.Long n) h = absurd h
null_typed BoolArray w (datum.Bool b) h = absurd h
null_typed BoolArray w (datum.Ref r) h = absurd h
null_typed PointerArray w (datum.Long n) h = absurd h
null_typed PointerArray w (datum.Bool b) h = absurd h
null_typed PointerArray w (datum.Ref r) h = absurd h
null_typed Long w d h = absurd w
null_typed Truth w d h = absurd w
null_typed Pointer w d h = absurd w

pub sort_typed : (s : Sort) (d : Datum) → IsOfSort s d → IsTyped s d
sort_typed Long d h = long_typed d h
sort_typed Truth d h = truth_typed d h
sort_typed Pointer d h = h
sort_typed LongArray d h = null_typed LongArray tt d h
sort_typed BoolArray d h = null_typed BoolArray tt d h
sort_typed PointerArray d h = null_typed PointerArray tt d h

pub wrapped : (d : Datum) (z : ℤ) → d ≡ datum.Long (int_wrap w64 z) → IsLong d
wrapped d z e = record { number = int_wrap w64 z; fits = SFits-int_wrap w64 z; is = e }

chosen_at : (s : Sort) (b : Bool) (d e : Datum) → IsTyped s d → IsTyped s e → IsTyped s (chosen (datum.Bool b) d e)
chosen_at s true d e g h = g
chosen_at s false d e g h = h

pub chosen_typed : (s : Sort) (c d e : Datum) → IsTruth c → IsTyped s d → IsTyped s e → IsTyped s (chosen c d e)
chosen_typed s c d e k g h = subst (λ z. IsTyped s (chosen z d e)) (sym k.is) (chosen_at s k.truth d e g h)

pub sum_word : (d e : Datum) → IsLong d → IsLong e → Alike (word_of (operate op.Plus d e)) (word_of d + word_of e)
sum_word d e g h = rw (g.is, h.is) (alike_trans (alike_eq (word_wrap (g.number +ℤ h.number))) (word_add g.number h.number))

pub difference_word : (d e : Datum) → IsLong d → IsLong e → Alike (word_of (operate op.Minus d e)) (word_of d + (2 ^ 64 - 1) * word_of e)
difference_word d e g h = rw (g.is, h.is) (alike_trans (alike_eq (word_wrap (g.number -ℤ h.number))) (word_sub g.number h.number))

pub product_word : (d e : Datum) → IsLong d → IsLong e → Alike (word_of (operate op.Times d e)) (word_of d * word_of e)
product_word d e g h = rw (g.is, h.is) (alike_trans (alike_eq (word_wrap (g.number *ℤ h.number))) (word_mul g.number h.number))

negation : (z : ℤ) → neg_ℤ z ≡ pos 0 -ℤ z
negation z = sym (+ℤ_idl (neg_ℤ z))

none_before : (n : ℕ) → 0 % (2 ^ 64) + n ≡ n
none_before n = omega arith

pub minus_word : (d : Datum) → IsLong d → Alike (word_of (signed sign.Minus d)) ((2 ^ 64 - 1) * word_of d)
minus_word d g = rw (g.is) (alike_trans (alike_eq (word_wrap (neg_ℤ g.number) ∙ ap word (negation g.number))) (alike_trans (word_sub (pos 0) g.number) (alike_eq (ap (λ k. k + (2 ^ 64 - 1) * word g.number) (word_pos 0) ∙ none_before _))))

-- a number comes back from its word
pub back : (n : ℤ) → FitsSigned w64 n → to_z w64 (word n % (2 ^ 64)) ≡ n
back n f = ap (to_z w64) (mod-eq_of_lt (word_small n) ∙ word_fits n f) ∙ to_z-of_z w64 n f

pub less_word : (d e : Datum) (m n : ℕ) → IsLong d → IsLong e → Alike m (word_of d) → Alike n (word_of e) → word_of (operate op.Less d e) ≡ bit (is_below m n)
less_word d e m n g h k l =
    let a : to_z w64 (m % (2 ^ 64)) ≡ g.number = ap (to_z w64) (k.alike ∙ ap (λ z. word_of z % (2 ^ 64)) g.is) ∙ back g.number g.fits in
    let b : to_z w64 (n % (2 ^ 64)) ≡ h.number = ap (to_z w64) (l.alike ∙ ap (λ z. word_of z % (2 ^ 64)) h.is) ∙ back h.number h.fits in
    ap₂ (λ x y. word_of (operate op.Less x y)) g.is h.is ∙ ap bit (ap₂ int_lt (sym a) (sym b))

bit_not : (b : Bool) → Alike (bit (not_of b)) (1 + (2 ^ 64 - 1) * bit b)
bit_not true = record { alike = omega arith }
bit_not false = record { alike = omega arith }

pub not_more_word : (d e : Datum) (m n : ℕ) → IsLong d → IsLong e → Alike m (word_of d) → Alike n (word_of e) → Alike (word_of (operate op.LessEqual d e)) (1 + (2 ^ 64 - 1) * bit (is_below n m))
not_more_word d e m n g h k l =
    let flipped : word_of (operate op.Less e d) ≡ bit (is_below n m) = less_word e d n m h g l k in
    let less : bit (int_lt h.number g.number) ≡ bit (is_below n m) = sym (ap₂ (λ x y. word_of (operate op.Less x y)) h.is g.is) ∙ flipped in
    alike_trans (alike_eq (ap₂ (λ x y. word_of (operate op.LessEqual x y)) g.is h.is)) (alike_trans (bit_not (int_lt h.number g.number)) (alike_eq (ap (λ z. 1 + (2 ^ 64 - 1) * z) less)))

pub bools_same : (p q : Bool) → (p ≡ true → q ≡ true) → (q ≡ true → p ≡ true) → p ≡ q
bools_same true q f g = sym (f refl)
bools_same false true f g = g refl
bools_same false false f g = refl

pub same_int_true : (m n : ℤ) → same_int m n ≡ true → m ≡ n
same_int_true (pos a) (pos b) e = ap pos (grind (arith, nat_tests))
same_int_true (negsuc a) (negsuc b) e = ap negsuc (grind (arith, nat_tests))
same_int_true (pos a) (negsuc b) e = cc
same_int_true (negsuc a) (pos b) e = cc

pub itself : (a : ℕ) → eqb a a ≡ true
itself a = grind (arith, nat_tests)

pub same_int_itself : (m : ℤ) → same_int m m ≡ true
same_int_itself (pos a) = itself a
same_int_itself (negsuc a) = itself a

pub same_words : (m n : ℤ) → FitsSigned w64 m → FitsSigned w64 n → same_int m n ≡ nat_eq (word m) (word n)
same_words m n f g =
    bools_same (same_int m n) (nat_eq (word m) (word n)) (λ e. nat_eq_itself (word m) (word n) (ap word (same_int_true m n e)))
    (λ e. let w : word m ≡ word n = nat_eq_true (word m) (word n) e in let i : m ≡ n = sym (back m f) ∙ ap (λ z. to_z w64 (z % (2 ^ 64))) w ∙ back n g in subst (λ z. same_int m z ≡ true) i (same_int_itself m))

pub same_word : (d e : Datum) → IsLong d → IsLong e → word_of (operate op.Equal d e) ≡ bit (nat_eq (word_of d) (word_of e))
same_word d e g h = rw (g.is, h.is) (ap bit (same_words g.number h.number g.fits h.fits))

pub not_word : (d : Datum) → IsTruth d → Alike (word_of (signed sign.Not d)) (1 + (2 ^ 64 - 1) * word_of d)
not_word d g = rw (g.is) (bit_not g.truth)

bit_both : (a b : Bool) → bit (both a b) ≡ bit a * bit b
bit_both true true = refl
bit_both true false = refl
bit_both false b = omega arith

pub and_word : (d e : Datum) → IsTruth d → IsTruth e → word_of (operate op.And d e) ≡ word_of d * word_of e
and_word d e g h = rw (g.is, h.is) (bit_both g.truth h.truth)

bit_either : (a b : Bool) → Alike (bit (either a b)) (bit a + (bit b + (2 ^ 64 - 1) * (bit a * bit b)))
bit_either true true = record { alike = omega arith }
bit_either true false = record { alike = omega arith }
bit_either false true = record { alike = omega arith }
bit_either false false = record { alike = omega arith }

pub or_word : (d e : Datum) → IsTruth d → IsTruth e → Alike (word_of (operate op.Or d e)) (word_of d + (word_of e + (2 ^ 64 - 1) * (word_of d * word_of e)))
or_word d e g h = rw (g.is, h.is) (bit_either g.truth h.truth)

bit_same : (a b : Bool) → Alike (bit (same_truth a b)) (1 + ((2 ^ 64 - 1) * bit a + ((2 ^ 64 - 1) * bit b + 2 * (bit a * bit b))))
bit_same true true = record { alike = omega arith }
bit_same true false = record { alike = omega arith }
bit_same false true = record { alike = omega arith }
bit_same false false = record { alike = omega arith }

pub same_truth_word : (d e : Datum) → IsTruth d → IsTruth e → Alike (word_of (operate op.Equal d e)) (1 + ((2 ^ 64 - 1) * word_of d + ((2 ^ 64 - 1) * word_of e + 2 * (word_of d * word_of e))))
same_truth_word d e g h = rw (g.is, h.is) (bit_same g.truth h.truth)

first_of : (x y : ℕ) → Alike x (y + 1 * (x + (2 ^ 64 - 1) * y))
first_of x y = record { alike = omega arith }

second_of : (x y : ℕ) → Alike y (y + 0 * (x + (2 ^ 64 - 1) * y))
second_of x y = record { alike = omega arith }

pub chosen_bit : (b : Bool) (d e : Datum) → Alike (word_of (chosen (datum.Bool b) d e)) (word_of e + bit b * (word_of d + (2 ^ 64 - 1) * word_of e))
chosen_bit true d e = first_of (word_of d) (word_of e)
chosen_bit false d e = second_of (word_of d) (word_of e)

pub chosen_word : (c d e : Datum) → IsTruth c → Alike (word_of (chosen c d e)) (word_of e + word_of c * (word_of d + (2 ^ 64 - 1) * word_of e))
chosen_word c d e k = rw (k.is) (chosen_bit k.truth d e)

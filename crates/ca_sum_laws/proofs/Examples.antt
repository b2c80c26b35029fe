-- Worked examples: bodies that only sum and bodies that don't, and what two workers added to one bin.
use Rattle.std.proofs.Common.{◌≡◌, List, [], ◌∷◌, refl, ap, ◌∙◌, arith, ℤ, pos, ◌+ℤ◌, ◌-ℤ◌}
use Rattle.std.specs.Prelude.{Contains}
use Rattle.std.specs.Int.{int_wrap, w64}
use Rattle.std.proofs.lemmas.Int.{int_wrap_fits, ints}
use Rattle.std.proofs.lemmas.List.Elements.{Contains-push}
use Rattle.ca_lists.proofs.Members.{has_only}
use Rattle.ca_tree.specs.declared.tree.AssignOp.TheVariants.{Put, Add, Mul}
use Rattle.ca_tree.specs.declared.tree.BinaryOp.TheVariants.{Minus, Times}
use Rattle.ca_program.specs.declared.program.ClassId.{ClassId}
use Rattle.ca_program.specs.declared.program.FieldId.{FieldId}
use Rattle.ca_program.specs.declared.program.LocalId.{LocalId}
use Rattle.ca_program.specs.Plain.{local, own, read, binary, put_field, print_value}
use Rattle.ca_model.specs.declared.value.Value.TheVariants.{Long}
use Rattle.ca_model.specs.declared.value.Slot.TheVariants.{One}
use Rattle.ca_model.specs.declared.value.Object.{Object}
use Rattle.ca_sum_laws.specs.Summed.{OnlySums}
use Rattle.ca_sum_laws.specs.Replicas.{all_merged}

-- class Bin { public: long n; long key; void add(long v) { .. } };
abbrev bin : ClassId
bin = record { 0 = 0 }

abbrev n : FieldId
n = record { class = bin; field = 0 }

abbrev key : FieldId
key = record { class = bin; field = 1 }

abbrev v : LocalId
v = record { 0 = 0 }

-- the extent writes n alone
abbrev written : List FieldId
written = n ∷ []

key_is_constant : ¬ Contains written key
key_is_constant c = let e = ap (λ (f : FieldId). f.field) (has_only n key c) in absurd (omega (arith, e))

-- n += v;
adds_a_parameter : OnlySums written (put_field 1 n Add (local v))
adds_a_parameter = tt

-- n = n - key;
takes_a_constant_off : OnlySums written (put_field 1 n Put (binary Minus (own n) (own key)))
takes_a_constant_off = (tt, refl, key_is_constant)

-- n *= v;
a_product_is_no_sum : ¬ OnlySums written (put_field 1 n Mul (local v))
a_product_is_no_sum u = u

-- n = n * v;
nor_is_one_that_is_put : ¬ OnlySums written (put_field 1 n Put (binary Times (own n) (local v)))
nor_is_one_that_is_put u = absurd (u.0)

-- n += n;
what_is_added_reads_no_sum : ¬ OnlySums written (put_field 1 n Add (own n))
what_is_added_reads_no_sum u = u (Contains-push [] n)

-- key += b->n; through whatever pointer it is read
nor_one_of_another_object : ¬ OnlySums (key ∷ written) (put_field 1 key Add (read (local v) n))
nor_one_of_another_object u = u.0 (1, omega arith, refl)

-- print(n);
a_sum_is_not_looked_at : ¬ OnlySums written (print_value 1 (own n))
a_sum_is_not_looked_at u = u (Contains-push [] n)

-- ---- two workers, whose copies began at 0, added 3 and 4 to a bin of 5

abbrev holding : ℤ → Object
holding m = record { class = bin; slots = One (Long m) ∷ [] }

eight : int_wrap w64 (pos 5 +ℤ (pos 3 -ℤ pos 0)) ≡ pos 8
eight = let s : pos 5 +ℤ (pos 3 -ℤ pos 0) ≡ pos 8 = omega (arith, ints) in ap (int_wrap w64) s ∙ int_wrap_fits w64 (pos 8) (omega (arith, ints))

twelve : int_wrap w64 (pos 8 +ℤ (pos 4 -ℤ pos 0)) ≡ pos 12
twelve = let s : pos 8 +ℤ (pos 4 -ℤ pos 0) ≡ pos 12 = omega (arith, ints) in ap (int_wrap w64) s ∙ int_wrap_fits w64 (pos 12) (omega (arith, ints))

both_are_added : all_merged (holding (pos 0) ∷ []) (holding (pos 5) ∷ []) ((holding (pos 3) ∷ []) ∷ (holding (pos 4) ∷ []) ∷ []) ≡ holding (pos 12) ∷ []
both_are_added = ap (λ m. holding (int_wrap w64 (m +ℤ (pos 4 -ℤ pos 0))) ∷ []) eight ∙ ap (λ m. holding m ∷ []) twelve

-- Terms of arrays are sorted as their parts are, and arrays of the same form have the same items.
use Rattle.std.proofs.Common.{◌≡◌, refl, sym, ap, ◌∙◌, subst}
use Rattle.ca_program.specs.declared.program.ValueType.{ValueType}
use Rattle.ca_program.specs.declared.program.ValueType.TheVariants as type
use Rattle.ca_forms.specs.declared.sort.Sort.{Sort}
use Rattle.ca_norm.specs.Terms.{item_sort, sort_of, IsArray, IsOf}
use Rattle.ca_norm.proofs.Values.{same_items}
use Rattle.ca_shared_terms.specs.Starts.{sort_of_type, sort_of_array}
use Rattle.ca_verdicts.proofs.Sorts.{own_sort, ArraysSorted}
use Rattle.ca_verdicts.proofs.SameSlots.{ArraysMean}

items_of : (ty : ValueType) → item_sort (sort_of_array ty) ≡ sort_of_type ty
items_of type.Long = refl
items_of type.Bool = refl
items_of (type.Pointer c) = refl

array_type : (ty : ValueType) → IsArray (sort_of_array ty)
array_type type.Long = tt
array_type type.Bool = tt
array_type (type.Pointer c) = tt

array_sort : (ty : ValueType) (s : Sort) → s ≡ sort_of_array ty → IsArray s
array_sort ty s e = subst IsArray (sym e) (array_type ty)

pub arrays_sorted : ArraysSorted
arrays_sorted = record {
  selected = λ ty a i g h.
      let e : item_sort (sort_of a) ≡ sort_of_type ty = ap item_sort g.sort ∙ items_of ty in
      record { sort = e; is = (array_sort ty (sort_of a) g.sort, sym e, own_sort g, h.is) };
  put_at = λ ty a i v g h k. record { sort = g.sort; is = (array_type ty, g.is, h.is, subst (λ z. IsOf z v) (sym (items_of ty)) k.is) };
  added_at = λ a i v g h k. record { sort = g.sort; is = (refl, g.is, h.is, k.is) };
  swept = λ a f t v g h i k. record { sort = g.sort; is = (refl, g.is, h.is, i.is, k.is) };
  chosen = λ s c a b i g h. record { sort = g.sort; is = (i, g.is, h.is) };
}

pub arrays_mean : ArraysMean
arrays_mean = record {
  same = λ v ty t u g h e i. same_items v t u i (array_sort ty (sort_of t) g.sort) (array_sort ty (sort_of u) h.sort) (own_sort g) (own_sort h) e;
}

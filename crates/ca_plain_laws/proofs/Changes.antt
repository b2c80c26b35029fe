-- Changes of one kind may be made in either order: the normal form is the same.
use Rattle.std.proofs.Common.{◌≡◌, ℕ, ◌+◌, Bool, true, false, List, [], ◌∷◌, ◌++◌, refl, sym, ap, ◌∙◌, arith, subst}
use Rattle.std.specs.Prelude.{nat_eq}
use Rattle.std.specs.Int.{cast_unsigned, w64}
use Rattle.std.proofs.lemmas.Bool.{eqb-true}
use Rattle.ca_program.specs.declared.program.FieldId.{FieldId}
use Rattle.ca_program.specs.Plain.{PlainProgram, PlainMethod, Expression, Statement, Statements}
use Rattle.ca_program.specs.Plain as plain
use Rattle.ca_folds.specs.declared.operator.FoldOp.{FoldOp}
use Rattle.ca_sums.specs.Sums.{Sum, total}
use Rattle.ca_sums.proofs.Algebra.{alike_eq, alike_trans, total_append}
use Rattle.ca_sums.proofs.Products.{SameTotals, same_totals_refl, same_totals_sym, product_same}
use Rattle.ca_forms.specs.declared.sort.Sort.{Sort}
use Rattle.ca_forms.specs.declared.sort.Sort.TheVariants.{Long, Bool as Truth, Pointer, LongArray, BoolArray, PointerArray}
use Rattle.ca_forms.specs.declared.form.Normal.TheVariants as normal
use Rattle.ca_forms.specs.Plain.{PlainMonomial, variable, number_form, truth_form, pointer_form}
use Rattle.ca_forms.specs.Products.{times}
use Rattle.ca_forms.specs.Rules.{minus as opposite, gathered}
use Rattle.ca_forms.specs.Arrays.{one, range}
use Rattle.ca_forms.specs.ArrayRules.{added_at}
use Rattle.ca_forms.proofs.Gathered.{gathered_same, append_same}
use Rattle.ca_norm.specs.Terms.{PlainTerm, number, truth, null, sort_of, neg}
use Rattle.ca_norm.specs.Forms.{expand, pointer_of, array_of, form_at, norm}
use Rattle.ca_norm.proofs.SumsCommute.{arrays_commute, sweep_arrays, mixed_arrays}
use Rattle.ca_norm.proofs.FoldsCommute.{fold_changed, folds_exchange}
use Rattle.ca_symbolic.specs.States.{State}
use Rattle.ca_symbolic.specs.Execution.{term_of, addend_term}
use Rattle.ca_plain_laws.specs.PlainPairs.{Kind, sums, products, folds, item_sums, literal, IsLiteral, a_number, a_truth, a_null, IsUpdateOf, adds, takes_off, puts_sum, puts_difference, multiplies, puts_product, joins, puts_joined, adds_to_item, puts_item_sum, takes_off_item, puts_item_difference, adds_to_range, puts_literal, AreUpdatesAndCalls, calls, update_and}
use Rattle.ca_plain_laws.proofs.Atoms.{IsSimple, simple_number, simple_truth, simple_null, simple_atom, IsBegun, atom_simple}
use Rattle.ca_plain_laws.proofs.Updates.{Change, plus, minus, by, with_operator, at, over, to, changed, changed_all, and_if, change_of, changes_at}
use Rattle.ca_plain_laws.proofs.Powers.{no_power, one_power, IsFactor, no_factor, one_factor, products_swap}

-- whatever two terms are taken for, their forms are the same
pub record SameForms (t u : PlainTerm) : Type 0 where
  pub sums : SameTotals (expand t) (expand u)
  pub pointers : pointer_of t ≡ pointer_of u
  pub arrays : array_of t ≡ array_of u
  pub sorts : sort_of t ≡ sort_of u

pub forms_itself : (t : PlainTerm) → SameForms t t
forms_itself t = record { sums = same_totals_refl (expand t); pointers = refl; arrays = refl; sorts = refl }

forms_back : (t u : PlainTerm) → SameForms t u → SameForms u t
forms_back t u h = record { sums = same_totals_sym (expand t) (expand u) h.sums; pointers = sym h.pointers; arrays = sym h.arrays; sorts = sym h.sorts }

forms_then : (t u w : PlainTerm) → SameForms t u → SameForms u w → SameForms t w
forms_then t u w h k = record {
  sums = record { same = λ f. alike_trans (h.sums.same f) (k.sums.same f) };
  pointers = h.pointers ∙ k.pointers;
  arrays = h.arrays ∙ k.arrays;
  sorts = h.sorts ∙ k.sorts;
}

at_sort : (s : Sort) (t u : PlainTerm) → SameForms t u → form_at s t ≡ form_at s u
at_sort Long t u h = ap (λ f. normal.Scalar (number_form f)) (gathered_same (expand t) (expand u) h.sums)
at_sort Truth t u h = ap (λ f. normal.Scalar (truth_form f)) (gathered_same (expand t) (expand u) h.sums)
at_sort Pointer t u h = ap (λ q. normal.Scalar (pointer_form q)) h.pointers
at_sort LongArray t u h = ap normal.Array h.arrays
at_sort BoolArray t u h = ap normal.Array h.arrays
at_sort PointerArray t u h = ap normal.Array h.arrays

pub same_norm : (t u : PlainTerm) → SameForms t u → norm t ≡ norm u
same_norm t u h = at_sort (sort_of t) t u h ∙ ap (λ s. form_at s u) h.sorts

-- a change of two terms of the same forms
changed_same : (c : Change) (t u : PlainTerm) → SameForms t u → SameForms (changed c t) (changed c u)
changed_same (plus x) t u h = record { sums = append_same (expand t) (expand u) (expand x) (expand x) h.sums (same_totals_refl (expand x)); pointers = refl; arrays = refl; sorts = refl }
changed_same (minus x) t u h = record { sums = append_same (expand t) (expand u) (opposite (expand x)) (opposite (expand x)) h.sums (same_totals_refl (opposite (expand x))); pointers = refl; arrays = refl; sorts = refl }
changed_same (by x) t u h = record { sums = product_same times (expand t) (expand u) (expand x) (expand x) h.sums (same_totals_refl (expand x)); pointers = refl; arrays = refl; sorts = refl }
changed_same (with_operator o x) t u h = record { sums = fold_changed o t u x h.sums; pointers = refl; arrays = refl; sorts = refl }
changed_same (at i x) t u h = record { sums = same_totals_refl []; pointers = refl; arrays = ap (λ a. added_at a (one (gathered (expand i))) (gathered (expand x))) h.arrays; sorts = h.sorts }
changed_same (over f g x) t u h = record { sums = same_totals_refl []; pointers = refl; arrays = ap (λ a. added_at a (range (gathered (expand f)) (gathered (expand g))) (gathered (expand x))) h.arrays; sorts = h.sorts }
changed_same (to x) t u h = forms_itself x

all_changed_same : (cs : List Change) (t u : PlainTerm) → SameForms t u → SameForms (changed_all cs t) (changed_all cs u)
all_changed_same [] t u h = h
all_changed_same (c ∷ cs) t u h = all_changed_same cs (changed c t) (changed c u) (changed_same c t u h)

-- Kinds of changes

abbrev literal_term : Expression → PlainTerm
literal_term (plain.number n) = number n
literal_term (plain.truth b) = truth b
literal_term e = null

pub data Suits : Kind → Change → Type 0 where
  suits_plus : (x : PlainTerm) → Suits sums (plus x)
  suits_minus : (x : PlainTerm) → Suits sums (minus x)
  suits_by : (x : PlainTerm) → IsSimple x → Suits products (by x)
  suits_operator : (o : FoldOp) (x : PlainTerm) → Suits (folds o) (with_operator o x)
  suits_at : (i x : PlainTerm) → Suits item_sums (at i x)
  suits_over : (f t x : PlainTerm) → Suits item_sums (over f t x)
  suits_to : (e : Expression) (x : PlainTerm) → x ≡ literal_term e → Suits (literal e) (to x)

last_two : (a b c : ℕ) → a + b + c ≡ a + c + b
last_two a b c = omega arith

sums_swap : (ps qs rs : Sum PlainMonomial) → SameTotals ((ps ++ qs) ++ rs) ((ps ++ rs) ++ qs)
sums_swap ps qs rs = record {
  same = λ f. alike_eq (total_append f (ps ++ qs) rs ∙ ap (λ n. n + total f rs) (total_append f ps qs) ∙ last_two (total f ps) (total f qs) (total f rs) ∙ ap (λ n. n + total f qs) (sym (total_append f ps rs)) ∙ sym (total_append f (ps ++ rs) qs));
}

truth_factor : (b : Bool) → IsFactor (expand (truth b))
truth_factor true = one_factor 1 no_power
truth_factor false = no_factor

simple_factor : {x : PlainTerm} → IsSimple x → IsFactor (expand x)
simple_factor (simple_number n) = one_factor (cast_unsigned w64 n) no_power
simple_factor (simple_truth b) = truth_factor b
simple_factor simple_null = no_factor
simple_factor (simple_atom s g n) = one_factor 1 (one_power (variable s g n))

two_commute : {k : Kind} {c d : Change} (t : PlainTerm) → Suits k c → Suits k d → SameForms (changed d (changed c t)) (changed c (changed d t))
two_commute t (suits_plus x) (suits_plus y) = record { sums = sums_swap (expand t) (expand x) (expand y); pointers = refl; arrays = refl; sorts = refl }
two_commute t (suits_plus x) (suits_minus y) = record { sums = sums_swap (expand t) (expand x) (opposite (expand y)); pointers = refl; arrays = refl; sorts = refl }
two_commute t (suits_minus x) (suits_plus y) = record { sums = sums_swap (expand t) (opposite (expand x)) (expand y); pointers = refl; arrays = refl; sorts = refl }
two_commute t (suits_minus x) (suits_minus y) = record { sums = sums_swap (expand t) (opposite (expand x)) (opposite (expand y)); pointers = refl; arrays = refl; sorts = refl }
two_commute t (suits_by x h) (suits_by y k) = record { sums = products_swap (expand t) (simple_factor h) (simple_factor k); pointers = refl; arrays = refl; sorts = refl }
two_commute t (suits_operator o x) (suits_operator _ y) = record { sums = folds_exchange o t x y; pointers = refl; arrays = refl; sorts = refl }
two_commute t (suits_at i x) (suits_at j y) = record { sums = same_totals_refl []; pointers = refl; arrays = arrays_commute t i x j y; sorts = refl }
two_commute t (suits_at i x) (suits_over f g y) = record { sums = same_totals_refl []; pointers = refl; arrays = sym (mixed_arrays t f g y i x); sorts = refl }
two_commute t (suits_over f g x) (suits_at j y) = record { sums = same_totals_refl []; pointers = refl; arrays = mixed_arrays t f g x j y; sorts = refl }
two_commute t (suits_over f g x) (suits_over k l y) = record { sums = same_totals_refl []; pointers = refl; arrays = sweep_arrays t f g x k l y; sorts = refl }
two_commute t (suits_to e x h) (suits_to _ y k) = subst (λ z. SameForms z x) (h ∙ sym k) (forms_itself x)

abbrev pub AllSuit : Kind → List Change → Type 0
AllSuit k [] = Unit {0}
AllSuit k (c ∷ cs) = Suits k c × AllSuit k cs

-- one change before or behind others
one_past : (k : Kind) (cs : List Change) (d : Change) (t : PlainTerm) → AllSuit k cs → Suits k d → SameForms (changed_all cs (changed d t)) (changed d (changed_all cs t))
one_past k [] d t h g = forms_itself (changed d t)
one_past k (c ∷ cs) d t h g =
    forms_then (changed_all cs (changed c (changed d t))) (changed_all cs (changed d (changed c t))) (changed d (changed_all cs (changed c t)))
    (all_changed_same cs (changed c (changed d t)) (changed d (changed c t)) (two_commute t g h.0)) (one_past k cs d (changed c t) h.1 g)

pub orders_same : (k : Kind) (cs ds : List Change) (t : PlainTerm) → AllSuit k cs → AllSuit k ds → SameForms (changed_all ds (changed_all cs t)) (changed_all cs (changed_all ds t))
orders_same k cs [] t h g = forms_itself (changed_all cs t)
orders_same k cs (d ∷ ds) t h g =
    forms_then (changed_all ds (changed d (changed_all cs t))) (changed_all ds (changed_all cs (changed d t))) (changed_all cs (changed_all ds (changed d t)))
    (all_changed_same ds (changed d (changed_all cs t)) (changed_all cs (changed d t)) (forms_back (changed_all cs (changed d t)) (changed d (changed_all cs t)) (one_past k cs d t h g.0)))
    (orders_same k cs ds (changed d t) h g.1)

module _ (p : PlainProgram) (written : List FieldId) (m : PlainMethod) where
  literal_is : (s : State) {e : Expression} → IsLiteral e → term_of p s e ≡ literal_term e
  literal_is s (a_number n) = refl
  literal_is s (a_truth b) = refl
  literal_is s a_null = refl

  update_suits : (s : State) {f : FieldId} {k : Kind} {x : Statement} → IsBegun written m s → (u : IsUpdateOf written m f k x) → Suits k (change_of p written m s u)
  update_suits s h (adds line e g) = suits_plus (term_of p s e)
  update_suits s h (takes_off line e g) = suits_minus (term_of p s e)
  update_suits s h (puts_sum line e g) = suits_plus (term_of p s e)
  update_suits s h (puts_difference line e g) = suits_minus (term_of p s e)
  update_suits s h (multiplies line e g) = suits_by (term_of p s e) (atom_simple p written m s h g)
  update_suits s h (puts_product line e g) = suits_by (term_of p s e) (atom_simple p written m s h g)
  update_suits s h (joins line o a e i g) = suits_operator o (term_of p s e)
  update_suits s h (puts_joined line o e g) = suits_operator o (term_of p s e)
  update_suits s h (adds_to_item line i e g l) = suits_at (term_of p s i) (term_of p s e)
  update_suits s h (puts_item_sum line i e g l) = suits_at (term_of p s i) (term_of p s e)
  update_suits s h (takes_off_item line i e g l) = suits_at (term_of p s i) (neg (term_of p s e))
  update_suits s h (puts_item_difference line i e g l) = suits_at (term_of p s i) (neg (term_of p s e))
  update_suits s h (adds_to_range w i e f t d) = suits_over (term_of p s w.from) (term_of p s w.to) (addend_term w.minus (term_of p s w.addend))
  update_suits s h (puts_literal line e g) = suits_to e (term_of p s e) (literal_is s g)

  one_suits : (kinds : ℕ → Kind) (b : Bool) (i n : ℕ) (c : Change) (cs : List Change) → nat_eq i n ≡ b → Suits (kinds i) c → AllSuit (kinds n) cs → AllSuit (kinds n) (and_if b c cs)
  one_suits kinds true i n c cs e h g = (subst (λ j. Suits (kinds j) c) (eqb-true i n e) h, g)
  one_suits kinds false i n c cs e h g = g

  -- the changes of a field are of its kind
  pub changes_suit : (kinds : ℕ → Kind) (s : State) (n : ℕ) {xs : Statements} → IsBegun written m s → (d : AreUpdatesAndCalls written m kinds xs) → AllSuit (kinds n) (changes_at p written m s n d)
  changes_suit kinds s n h (calls c) = tt
  changes_suit kinds s n h (update_and f w u d) =
      one_suits kinds (nat_eq f.field n) f.field n (change_of p written m s u) (changes_at p written m s n d) refl (update_suits s h u) (changes_suit kinds s n h d)

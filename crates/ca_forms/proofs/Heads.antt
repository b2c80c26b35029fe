-- The order of parts, by their kinds and names first.
use Rattle.std.specs.Prelude.{Bool, true, false, ◌||◌, nat_eq}
use Rattle.std.proofs.Common.{◌≡◌, ℕ, refl, sym, ap, arith, ◌∙◌, Ordering, Less, Equal, Greater, nat_cmp}
use Rattle.std.specs.Ordering.{ordering_then}
use Rattle.std.proofs.lemmas.Bool.Decides.{nat_tests}
use base.Stored.{Gv, gnil, gnum, gcons}
use Rattle.ca_forms.specs.declared.sort.Sort.{Sort}
use Rattle.ca_forms.specs.declared.polynomial.Node.{Node}
use Rattle.ca_forms.specs.declared.polynomial.Node.TheVariants as node
use Rattle.ca_forms.specs.declared.polynomial.Unary.{Unary}
use Rattle.ca_forms.specs.declared.polynomial.Unary.TheVariants as unary
use Rattle.ca_forms.specs.Plain.{PlainPart, PlainPolynomial, PlainPointer, PlainScalars, variable, is_less, is_zero, same_pointer, quotient, modulus, field_of, item_of, result_of, own_item, fold_of, polynomial_code, pointer_code, scalars_code}
use Rattle.ca_forms.specs.Seen.{part_of, over}
use Rattle.ca_forms.specs.Trees.{tree_cmp}
use Rattle.ca_forms.specs.Compare.{part_cmp}
use Rattle.ca_forms.specs.clauses.Heads.{head, rank, head_cmp, unary_head, word_of}
use Rattle.ca_forms.proofs.Lists.{kept}
use Rattle.ca_folds.specs.declared.operator.FoldOp.{FoldOp}

-- what stands behind a part's kind and name
abbrev pub rest_code : PlainPart → Gv
rest_code (variable s g n) = gnil
rest_code (is_less a b) = gcons (polynomial_code a) (polynomial_code b)
rest_code (is_zero a) = gcons (polynomial_code a) (gnum 0)
rest_code (same_pointer p q) = gcons (pointer_code p) (pointer_code q)
rest_code (quotient a n) = gcons (polynomial_code a) (gnum n)
rest_code (modulus a n) = gcons (polynomial_code a) (gnum n)
rest_code (field_of s p c f) = pointer_code p
rest_code (item_of s p c f i) = gcons (pointer_code p) (polynomial_code i)
rest_code (result_of s m p xs) = gcons (pointer_code p) (scalars_code xs)
rest_code (own_item s g n i) = gcons (polynomial_code i) (gnum 0)
rest_code (fold_of o w xs) = gcons (gnum w) (scalars_code xs)

nothing_behind : (o : Ordering) → o ≡ ordering_then o Equal
nothing_behind Less = refl
nothing_behind Equal = refl
nothing_behind Greater = refl

headed : (p q : PlainPart) → part_cmp p q ≡ ordering_then (head_cmp p q) (tree_cmp (rest_code p) (rest_code q))
headed (variable s g n) (variable t h m) = nothing_behind _
headed (is_less a b) (is_less c d) = refl
headed (is_zero a) (is_zero c) = nothing_behind _
headed (same_pointer a b) (same_pointer c d) = refl
headed (quotient a n) (quotient c m) = refl
headed (modulus a n) (modulus c m) = refl
headed (field_of s a c f) (field_of t b d g) = refl
headed (item_of s a c f i) (item_of t b d g j) = refl
headed (result_of s m a xs) (result_of t n b ys) = refl
headed (own_item s g n i) (own_item t h m j) = ap (ordering_then (head_cmp (own_item s g n i) (own_item t h m j))) (nothing_behind _)
headed (fold_of o w xs) (fold_of p v ys) = refl
headed p q = refl

-- two orders, one behind the other, by what the first was found to be
pub tied : (x o r p : Ordering) → x ≡ o → x ≡ Equal → r ≡ p → r ≡ ordering_then o p
tied x o r p e t h = rw (← e, t) h

pub told_first : (x o p : Ordering) → x ≡ o → (x ≡ Equal → ⊥) → x ≡ ordering_then o p
told_first x o p e n = rw (← e) (kept x p n)

pub head_told : (p q : PlainPart) (h : Ordering) → h ≡ head_cmp p q → (h ≡ Equal → ⊥) → h ≡ part_cmp p q
head_told p q h e n = told_first h _ _ e n ∙ sym (headed p q)

pub rest_told : (p q : PlainPart) (h o : Ordering) → h ≡ head_cmp p q → h ≡ Equal → o ≡ tree_cmp (rest_code p) (rest_code q) → o ≡ part_cmp p q
rest_told p q h o e t r = tied h _ o _ e t r ∙ sym (headed p q)

nat_exact : (m n : ℕ) → nat_cmp m n ≡ Equal → m ≡ n
nat_exact m n e = grind (arith, nat_tests)

first_equal : (o p : Ordering) → ordering_then o p ≡ Equal → o ≡ Equal
first_equal Less p e = cc
first_equal Equal p e = refl
first_equal Greater p e = cc

same_rank : (p q : PlainPart) → head_cmp p q ≡ Equal → rank p ≡ rank q
same_rank p q e = nat_exact (rank p) (rank q) (first_equal _ _ e)

pub variables_end : (p q : PlainPart) → rank p ≡ 0 → head_cmp p q ≡ Equal → Equal ≡ tree_cmp (rest_code p) (rest_code q)
variables_end (variable s g n) (variable t h m) a e = refl
variables_end p q a e = let b : rank p ≡ rank q = same_rank p q e in absurd (omega (arith, a, b))

-- the kind of the other of two parts with equal heads
pub other_rank : (n m k : Node) (p q : PlainPart) (h : Ordering) → part_of n ≡ p → part_of m ≡ q → h ≡ head_cmp p q → h ≡ Equal → n ≡ k → rank (part_of m) ≡ rank (part_of k)
other_rank n m k p q h v w e t is = ap rank w ∙ sym (same_rank p q (sym e ∙ t)) ∙ ap rank (sym v) ∙ ap (λ z. rank (part_of z)) is

-- the same, before it is known what kind that is
pub same_ranks : (n m : Node) (p q : PlainPart) (h : Ordering) → part_of n ≡ p → part_of m ≡ q → h ≡ head_cmp p q → h ≡ Equal → rank (part_of m) ≡ rank (part_of n)
same_ranks n m p q h v w e t = other_rank n m n p q h v w e t refl

-- what stands over a number
pub head_over : (f : Unary) (a : PlainPolynomial) → unary_head f ≡ head (over f a)
head_over unary.Zero a = refl
head_over (unary.Quotient n) a = refl
head_over (unary.Modulus n) a = refl
head_over (unary.OwnItem s g n) a = refl

pub rest_over : (f : Unary) (a : PlainPolynomial) → rest_code (over f a) ≡ gcons (polynomial_code a) (gnum (word_of f))
rest_over unary.Zero a = refl
rest_over (unary.Quotient n) a = refl
rest_over (unary.Modulus n) a = refl
rest_over (unary.OwnItem s g n) a = refl

other_over : (f : Unary) (a : PlainPolynomial) (m : Node) → rank (part_of m) ≡ rank (over f a) → ((g : Unary) (c : PlainPolynomial) → m ≡ node.Over g c → ⊥) → ⊥
other_over f a (node.Over g c) e n = n g c refl
other_over unary.Zero a m e n = absurd (omega (arith, e))
other_over (unary.Quotient k) a m e n = absurd (omega (arith, e))
other_over (unary.Modulus k) a m e n = absurd (omega (arith, e))
other_over (unary.OwnItem s g k) a m e n = absurd (omega (arith, e))

pub no_over : {f : Unary} {a : PlainPolynomial} (k m : Node) → k ≡ node.Over f a → rank (part_of m) ≡ rank (part_of k) → ((g : Unary) (c : PlainPolynomial) → m ≡ node.Over g c → ⊥) → ⊥
no_over {f} {a} k m is e n = other_over f a m (e ∙ ap (λ z. rank (part_of z)) is) n

-- the kinds of what stands over a number
abbrev over_ranks : ℕ → Bool
over_ranks k = nat_eq k 2 || (nat_eq k 4 || (nat_eq k 5 || nat_eq k 9))

over_ranked : (f : Unary) (a : PlainPolynomial) → over_ranks (rank (over f a)) ≡ true
over_ranked unary.Zero a = refl
over_ranked (unary.Quotient n) a = refl
over_ranked (unary.Modulus n) a = refl
over_ranked (unary.OwnItem s g n) a = refl

over_apart : (k : ℕ) (f : Unary) (a : PlainPolynomial) → over_ranks k ≡ false → rank (over f a) ≡ k → ⊥
over_apart k f a h e = absurd (let t : true ≡ false = sym (over_ranked f a) ∙ (ap over_ranks e ∙ h) in cc)

-- a part that is of none but the kind that it is said not to be of
pub no_less : (m : Node) → rank (part_of m) ≡ 1 → ((a b : PlainPolynomial) → m ≡ node.Less a b → ⊥) → ⊥
no_less (node.Less a b) e n = n a b refl
no_less (node.Over f a) e n = over_apart 1 f a refl e
no_less m e n = absurd (omega (arith, e))

pub no_same : (m : Node) → rank (part_of m) ≡ 3 → ((p q : PlainPointer) → m ≡ node.SamePointer p q → ⊥) → ⊥
no_same (node.SamePointer p q) e n = n p q refl
no_same (node.Over f a) e n = over_apart 3 f a refl e
no_same m e n = absurd (omega (arith, e))

pub no_field : (m : Node) → rank (part_of m) ≡ 6 → ((s : Sort) (p : PlainPointer) (c f : ℕ) → m ≡ node.Field s p c f → ⊥) → ⊥
no_field (node.Field s p c f) e n = n s p c f refl
no_field (node.Over f a) e n = over_apart 6 f a refl e
no_field m e n = absurd (omega (arith, e))

pub no_item : (m : Node) → rank (part_of m) ≡ 7 → ((s : Sort) (p : PlainPointer) (c f : ℕ) (i : PlainPolynomial) → m ≡ node.Item s p c f i → ⊥) → ⊥
no_item (node.Item s p c f i) e n = n s p c f i refl
no_item (node.Over f a) e n = over_apart 7 f a refl e
no_item m e n = absurd (omega (arith, e))

pub no_result : (m : Node) → rank (part_of m) ≡ 8 → ((s : Sort) (k : ℕ) (p : PlainPointer) (xs : PlainScalars) → m ≡ node.Result s k p xs → ⊥) → ⊥
no_result (node.Result s k p xs) e n = n s k p xs refl
no_result (node.Over f a) e n = over_apart 8 f a refl e
no_result m e n = absurd (omega (arith, e))

pub no_fold : (m : Node) → rank (part_of m) ≡ 10 → ((o : FoldOp) (w : ℕ) (xs : PlainScalars) → m ≡ node.Fold o w xs → ⊥) → ⊥
no_fold (node.Fold o w xs) e n = n o w xs refl
no_fold (node.Over f a) e n = over_apart 10 f a refl e
no_fold m e n = absurd (omega (arith, e))

-- Forms that an operator made of operands.
use Rattle.std.proofs.Common.{◌≡◌, ℕ, Bool, true, false, cond, List, [], ◌∷◌, ◌++◌, Option, Some, None, is_some, length, get_or, refl, sym, ap, ◌∙◌, arith}
use Rattle.std.specs.Prelude.{nat_eq}
use Rattle.std.proofs.lemmas.Bool.Decides.{nat_tests}
use Rattle.ca_folds.specs.declared.operator.FoldOp.{FoldOp}
use Rattle.ca_folds.specs.Operators.{neutral}
use Rattle.ca_folds.specs.Operands.{parts_of, formed}
use Rattle.ca_forms.specs.declared.polynomial.Node.{Node}
use Rattle.ca_forms.specs.declared.polynomial.Node.TheVariants as node
use Rattle.ca_forms.specs.declared.polynomial.Unary.TheVariants as unary
use Rattle.ca_forms.specs.Plain.{PlainPart, PlainPolynomial, PlainMonomial, PlainScalar, PlainScalars, fold_of, no_products, product_and, no_scalars, scalar_and}
use Rattle.ca_forms.specs.Lists.{polynomial_of, products_of, monomial_of, scalars_of}
use Rattle.ca_forms.specs.Seen.{part_of}
use Rattle.ca_forms.specs.Folds.{items_of, alone_form, part_made, monomial_made, made_in, word_scalar, fold_scalar, number_in}

pub told : {T : Type 0} (b : Bool) (x : T) → b ≡ is_some (cond b (Some x) None)
told true x = refl
told false x = refl

pub no_made : (op : FoldOp) (n : Node) → ((o : FoldOp) (w : ℕ) (xs : PlainScalars) → n ≡ node.Fold o w xs → ⊥) → false ≡ is_some (part_made op (part_of n))
no_made op (node.Fold o w xs) h = absurd (h o w xs refl)
no_made op (node.Over unary.Zero a) h = refl
no_made op (node.Over (unary.Quotient n) a) h = refl
no_made op (node.Over (unary.Modulus n) a) h = refl
no_made op (node.Over (unary.OwnItem s g n) a) h = refl
no_made op n h = refl

pub unequal : (m n : ℕ) → (m ≡ n → ⊥) → nat_eq m n ≡ false
unequal m n h = grind (arith, nat_tests)

pub equal : (m n : ℕ) → m ≡ n → nat_eq m n ≡ true
equal m n h = grind (arith, nat_tests)

pub not_one : (op : FoldOp) (ps : List (PlainPart × ℕ)) → (length ps ≡ 1 → ⊥) → false ≡ is_some (monomial_made op (monomial_of ps))
not_one op [] h = refl
not_one op (p ∷ []) h = absurd (h refl)
not_one op (p ∷ (q ∷ ps)) h = refl

pub other_power : (op : FoldOp) (ps : List (PlainPart × ℕ)) (x : PlainPart × ℕ) → x ≡ get_or ps 0 x → length ps ≡ 1 → (x.1 ≡ 1 → ⊥) → false ≡ is_some (monomial_made op (monomial_of ps))
other_power op [] x e h k = absurd (omega (arith, h))
other_power op (p ∷ []) x e h k = sym (ap (λ b. is_some (cond b (part_made op p.0) None)) (unequal p.1 1 (λ g. k (ap (λ z. z.1) e ∙ g))))
other_power op (p ∷ (q ∷ ps)) x e h k = refl

pub same_power : (op : FoldOp) (ps : List (PlainPart × ℕ)) (x : PlainPart × ℕ) → x ≡ get_or ps 0 x → length ps ≡ 1 → x.1 ≡ 1 → is_some (part_made op x.0) ≡ is_some (monomial_made op (monomial_of ps))
same_power op [] x e h k = absurd (omega (arith, h))
same_power op (p ∷ []) x e h k = ap (λ z. is_some (part_made op z.0)) e ∙ sym (ap (λ b. is_some (cond b (part_made op p.0) None)) (equal p.1 1 (sym (ap (λ z. z.1) e) ∙ k)))
same_power op (p ∷ (q ∷ ps)) x e h k = absurd (omega (arith, h))

pub not_one_product : (op : FoldOp) (ps : List (PlainMonomial × ℕ)) → (length ps ≡ 1 → ⊥) → false ≡ is_some (made_in op (polynomial_of ps))
not_one_product op [] h = refl
not_one_product op (p ∷ []) h = absurd (h refl)
not_one_product op (p ∷ (q ∷ ps)) h = refl

pub other_product : (op : FoldOp) (ps : List (PlainMonomial × ℕ)) (x : PlainMonomial × ℕ) → x ≡ get_or ps 0 x → length ps ≡ 1 → (x.1 ≡ 1 → ⊥) → false ≡ is_some (made_in op (polynomial_of ps))
other_product op [] x e h k = absurd (omega (arith, h))
other_product op (p ∷ []) x e h k = sym (ap (λ b. is_some (cond b (monomial_made op p.0) None)) (unequal p.1 1 (λ g. k (ap (λ z. z.1) e ∙ g))))
other_product op (p ∷ (q ∷ ps)) x e h k = refl

pub same_product : (op : FoldOp) (ps : List (PlainMonomial × ℕ)) (x : PlainMonomial × ℕ) → x ≡ get_or ps 0 x → length ps ≡ 1 → x.1 ≡ 1 → is_some (monomial_made op x.0) ≡ is_some (made_in op (polynomial_of ps))
same_product op [] x e h k = absurd (omega (arith, h))
same_product op (p ∷ []) x e h k = ap (λ z. is_some (monomial_made op z.0)) e ∙ sym (ap (λ b. is_some (cond b (monomial_made op p.0) None)) (equal p.1 1 (sym (ap (λ z. z.1) e) ∙ k)))
same_product op (p ∷ (q ∷ ps)) x e h k = absurd (omega (arith, h))

some_of : {T : Type 0} (b : Bool) (o : Option T) (s : T) → cond b o None ≡ Some s → o ≡ Some s
some_of true o s e = e
some_of false o s e = cc

pub last_power : (op : FoldOp) (ps us : List (PlainPart × ℕ)) (p : PlainPart × ℕ) (s : ℕ × List PlainScalar) → ps ≡ us ++ p ∷ [] → monomial_made op (monomial_of ps) ≡ Some s → part_made op p.0 ≡ Some s
last_power op ps [] p s e h = some_of (nat_eq p.1 1) (part_made op p.0) s (ap (λ z. monomial_made op (monomial_of z)) (sym e) ∙ h)
last_power op ps (u ∷ []) p s e h = absurd (let x : None ≡ Some s = ap (λ z. monomial_made op (monomial_of z)) (sym e) ∙ h in cc)
last_power op ps (u ∷ (v ∷ us)) p s e h = absurd (let x : None ≡ Some s = ap (λ z. monomial_made op (monomial_of z)) (sym e) ∙ h in cc)

pub no_power : (op : FoldOp) (ps : List (PlainPart × ℕ)) (s : ℕ × List PlainScalar) → ps ≡ [] → monomial_made op (monomial_of ps) ≡ Some s → ⊥
no_power op ps s e h = absurd (let x : None ≡ Some s = ap (λ z. monomial_made op (monomial_of z)) (sym e) ∙ h in cc)

pub last_product : (op : FoldOp) (ps us : List (PlainMonomial × ℕ)) (p : PlainMonomial × ℕ) (s : ℕ × List PlainScalar) → ps ≡ us ++ p ∷ [] → made_in op (polynomial_of ps) ≡ Some s → monomial_made op p.0 ≡ Some s
last_product op ps [] p s e h = some_of (nat_eq p.1 1) (monomial_made op p.0) s (ap (λ z. made_in op (polynomial_of z)) (sym e) ∙ h)
last_product op ps (u ∷ []) p s e h = absurd (let x : None ≡ Some s = ap (λ z. made_in op (polynomial_of z)) (sym e) ∙ h in cc)
last_product op ps (u ∷ (v ∷ us)) p s e h = absurd (let x : None ≡ Some s = ap (λ z. made_in op (polynomial_of z)) (sym e) ∙ h in cc)

pub polynomial_back : (f : PlainPolynomial) → polynomial_of (products_of f) ≡ f
polynomial_back no_products = refl
polynomial_back (product_and m c f) = ap (product_and m c) (polynomial_back f)

pub items_back : (xs : List PlainScalar) → items_of (scalars_of xs) ≡ xs
items_back [] = refl
items_back (x ∷ xs) = ap (λ ys. x ∷ ys) (items_back xs)

pub opened_is : (op : FoldOp) (k : Option ℕ) (j : Option (ℕ × List PlainScalar)) (r : ℕ × List PlainScalar) (x : PlainScalar) → k ≡ None → is_some j ≡ true → ((s : ℕ × List PlainScalar) → j ≡ Some s → r ≡ s) → r ≡ parts_of op k j x
opened_is op None (Some s) r x e h g = g s refl
opened_is op None None r x e h g = cc
opened_is op (Some n) j r x e h g = cc

pub none_is : (op : FoldOp) (k : Option ℕ) (j : Option (ℕ × List PlainScalar)) (r : ℕ × List PlainScalar) (x : PlainScalar) → k ≡ None → is_some j ≡ false → r ≡ (neutral op, x ∷ []) → r ≡ parts_of op k j x
none_is op None None r x e h g = g
none_is op None (Some s) r x e h g = cc
none_is op (Some n) j r x e h g = cc

scalars_back : (xs : PlainScalars) → scalars_of (items_of xs) ≡ xs
scalars_back no_scalars = refl
scalars_back (scalar_and x xs) = ap (scalar_and x) (scalars_back xs)

-- several operands, or one beside a word
pub formed_more : (op : FoldOp) (n : ℕ) (xs : PlainScalars) → (length (items_of xs) ≡ 0 → ⊥) → (length (items_of xs) ≡ 1 → nat_eq n (neutral op) ≡ false) → alone_form (fold_of op n xs) ≡ number_in (formed op word_scalar (fold_scalar op) n (items_of xs))
formed_more op n no_scalars h k = absurd (h refl)
formed_more op n (scalar_and x no_scalars) h k = sym (ap (λ b. number_in (cond b x (fold_scalar op n (x ∷ [])))) (k refl))
formed_more op n (scalar_and x (scalar_and y xs)) h k = ap (λ z. alone_form (fold_of op n (scalar_and x (scalar_and y z)))) (sym (scalars_back xs))

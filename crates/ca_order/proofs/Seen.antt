-- Orders of a class that is known make the same of two terms.
use Rattle.std.proofs.Common.{inl, inr, ◌⊎◌, ◌≡◌, ℕ, zero, suc, ◌<◌, true, List, [], ◌∷◌, ◌++◌, length, sym, ap, ap₂, ◌∙◌, arith, subst, slice_index_or}
use Rattle.std.specs.Prelude.{Result, Ok, Err, IfOk, IsOkAnd, Contains}
use Rattle.std.proofs.lemmas.List.Elements.{Contains-append_cases}
use Rattle.ca_lists.proofs.Members.{has_first, has_further, first_or_behind}
use Rattle.ca_norm.specs.Terms.{PlainTerm}
use Rattle.ca_order.specs.declared.point.Point.{Point}
use Rattle.ca_order.specs.declared.classes.Class.{Class}
use Rattle.ca_order.specs.Rankings.{ranked}
use Rattle.ca_order.specs.Asked.{asked}
use Rattle.ca_order.specs.Answers.{SameUnder}
use Rattle.ca_order.specs.clauses.Classes.{one_class}
use Rattle.ca_order.specs.clauses.Seen.{IsKnown, AllKnown}
use Rattle.ca_order.proofs.OneClass.{class_told}

pub stands_at : (cs : List Class) (i : ℕ) (c : Class) → i < length cs → c ≡ slice_index_or cs i c → Contains cs c
stands_at [] i c l e = absurd (omega (arith, l))
stands_at (d ∷ cs) zero c l e = subst (Contains (d ∷ cs)) (sym e) (has_first d cs)
stands_at (d ∷ cs) (suc i) c l e = has_further d c cs (stands_at cs i c (omega (arith, l)) e)

pub none_known : (ps : List Point) (t u : PlainTerm) → AllKnown ps t u []
none_known ps t u c h = let m = h.1 in absurd (omega arith)

pub seen_same : (ps : List Point) (t u : PlainTerm) (c : Class) (ks ls : List ℕ) (n : ℕ) (q : List (ℕ × ℕ)) → IsKnown ps t u c → ks ≡ c.ranks.items → q ≡ c.asked.items → length ls ≡ length ps → n ≡ length ps →
    one_class n ks ls q ≡ true → SameUnder ps t u ls
seen_same ps t u c ks ls n q known e f d g h =
    let told : one_class (length ps) c.ranks.items ls (asked (ranked ps c.ranks.items) u (asked (ranked ps c.ranks.items) t [])) ≡ true =
    sym (ap (λ z. one_class z ks ls q) g ∙ ap₂ (λ (y : List ℕ) (z : List (ℕ × ℕ)). one_class (length ps) y ls z) e (f ∙ known.1)) ∙ h in
    class_told ps c.ranks.items ls t u known.0 d told known.2

pub known_more : {E : Type 0} (ps : List Point) (t u : PlainTerm) (ks : List ℕ) (r : Result Class E) (old new : List Class) → IsOkAnd r (λ c. new ≡ old ++ c ∷ []) →
    IfOk r (λ c. c.ranks.items ≡ ks) → IfOk r (λ c. c.asked.items ≡ asked (ranked ps ks) u (asked (ranked ps ks) t [])) → SameUnder ps t u ks → length ks ≡ length ps → AllKnown ps t u old → AllKnown ps t u new
known_more ps t u ks (Ok c) old new e f g same long known = subst (AllKnown ps t u) (sym e) (λ x h. by x (Contains-append_cases old (c ∷ []) x h))
  where
    own : IsKnown ps t u c
    own = (ap length f ∙ long, g ∙ ap (λ z. asked (ranked ps z) u (asked (ranked ps z) t [])) (sym f), subst (SameUnder ps t u) (sym f) same)

    last : (x : Class) → (c ≡ x) ⊎ Contains [] x → IsKnown ps t u x
    last x (inl d) = subst (IsKnown ps t u) d own
    last x (inr h) = none_known ps t u x h

    by : (x : Class) → Contains old x ⊎ Contains (c ∷ []) x → IsKnown ps t u x
    by x (inl h) = known x h
    by x (inr h) = last x (first_or_behind c x [] h)
known_more ps t u ks (Err x) old new e f g same long known = absurd e

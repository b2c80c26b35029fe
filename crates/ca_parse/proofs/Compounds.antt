-- The sign of an assignment that changes its target is no other terminal, whatever the table has.
use Rattle.std.proofs.Common.{◌≡◌, List, [], ◌∷◌, Bool, true, false, cond, Option, Some, None, is_some, refl, ap, subst, ◌∙◌}
use Rattle.std.specs.Prelude.{find}
use Rattle.ca_descent.specs.Exact.{Sees, sees, head_of}
use Rattle.ca_descent.proofs.Parts.{Part}
use Rattle.ca_tree.specs.declared.name.Place.{Place}
use Rattle.ca_tree.specs.declared.token.Token.{Token}
use Rattle.ca_tree.specs.declared.token.Kind.{Kind}
use Rattle.ca_tree.specs.declared.token.Kind.TheVariants.{Word, Number}
use Rattle.ca_tree.specs.declared.token.Kind.TheVariants.{Key as KeyKind, Sign as SignKind}
use Rattle.ca_tree.specs.declared.token.Sign.{Sign}
use Rattle.ca_tree.specs.declared.token.Sign.TheVariants.{PlusAssign}
use Rattle.ca_tree.specs.declared.tree.AssignOp.{AssignOp}
use Rattle.ca_tree.specs.Codes.{same_sign}
use Rattle.ca_tree.specs.Operators.{assign_sign}
use Rattle.ca_tree.proofs.Table.{is_sign}
use Rattle.ca_expressions.proofs.Terminals.{test, terminal, token}
use Rattle.ca_parse.specs.Compounds.{compounds, compound_of_sign, compound_of, compound}

-- whether the test passes none of the signs of these
abbrev pub passes_none : {A : Type 0} → (Kind → Place → Option A) → Place → List AssignOp → Bool
passes_none f at [] = true
passes_none f at (o ∷ os) = cond (is_some (f (SignKind (assign_sign o)) at)) false (passes_none f at os)

-- the first of them isn't passed, and the others are not
first_none : {A : Type 0} (x : Option A) (b : Bool) → cond (is_some x) false b ≡ true → x ≡ None
first_none None b h = refl
first_none (Some a) b h = absurd cc

others_none : (a b : Bool) → cond a false b ≡ true → b ≡ true
others_none true b h = absurd cc
others_none false b h = h

some_is : (a b : AssignOp) → Some a ≡ Some b → a ≡ b
some_is a b h = cc

none_at : {A : Type 0} (f : Kind → Place → Option A) (s : Sign) (at : Place) (p o : AssignOp) (b none : Bool) (rest : Option AssignOp) → same_sign s (assign_sign p) ≡ b → cond b (Some p) rest ≡ Some o
    → cond (is_some (f (SignKind (assign_sign p)) at)) false none ≡ true → (rest ≡ Some o → none ≡ true → f (SignKind s) at ≡ None) → f (SignKind s) at ≡ None
none_at f s at p o true none rest e h g later = ap (λ z. f (SignKind z) at) (is_sign s (assign_sign p) e) ∙ first_none (f (SignKind (assign_sign p)) at) none g
none_at f s at p o false none rest e h g later = later h (others_none (is_some (f (SignKind (assign_sign p)) at)) none g)

none_of : {A : Type 0} (f : Kind → Place → Option A) (s : Sign) (at : Place) (os : List AssignOp) (o : AssignOp) → find (λ q. same_sign s (assign_sign q)) os ≡ Some o → passes_none f at os ≡ true → f (SignKind s) at ≡ None
none_of f s at [] o h g = absurd cc
none_of f s at (p ∷ os) o h g =
    none_at f s at p o (same_sign s (assign_sign p)) (passes_none f at os) (find (λ q. same_sign s (assign_sign q)) os) refl h g (none_of f s at os o)

none_kind : {A : Type 0} (f : Kind → Place → Option A) (k : Kind) (at : Place) (o : AssignOp) → compound_of k at ≡ Some o → passes_none f at compounds ≡ true → f k at ≡ None
none_kind f (SignKind s) at o h g = none_of f s at compounds o h g
none_kind f (KeyKind w) at o h g = absurd cc
none_kind f (Word n) at o h g = absurd cc
none_kind f (Number n) at o h g = absurd cc

-- what a test says that passes no such sign
pub compound_none : {A : Type 0} (f : Kind → Place → Option A) → ((at : Place) → passes_none f at compounds ≡ true) → {s r : List Token} {o : AssignOp} → Sees compound s o r → head_of (test f) s ≡ None
compound_none f g (sees {t = t} {a = o} h) = none_kind f t.kind t.at o h (g t.at)

-- each of them is written by a sign that writes no other
sign_at : (s : Sign) (p o : AssignOp) (b : Bool) (rest : Option AssignOp) → same_sign s (assign_sign p) ≡ b → cond b (Some p) rest ≡ Some o → (rest ≡ Some o → s ≡ assign_sign o) → s ≡ assign_sign o
sign_at s p o true rest e h later = is_sign s (assign_sign p) e ∙ ap assign_sign (some_is p o h)
sign_at s p o false rest e h later = later h

sign_found : (s : Sign) (os : List AssignOp) (o : AssignOp) → find (λ q. same_sign s (assign_sign q)) os ≡ Some o → s ≡ assign_sign o
sign_found s [] o h = absurd cc
sign_found s (p ∷ os) o h = sign_at s p o (same_sign s (assign_sign p)) (find (λ q. same_sign s (assign_sign q)) os) refl h (sign_found s os o)

back_kind : (k : Kind) (at : Place) (o : AssignOp) → compound_of k at ≡ Some o → compound_of_sign (assign_sign o) ≡ Some o
back_kind (SignKind s) at o h = subst (λ z. compound_of_sign z ≡ Some o) (sign_found s compounds o h) h
back_kind (KeyKind w) at o h = absurd cc
back_kind (Word n) at o h = absurd cc
back_kind (Number n) at o h = absurd cc

pub compound_back : {s r : List Token} {o : AssignOp} → Sees compound s o r → compound_of_sign (assign_sign o) ≡ Some o
compound_back (sees {t = t} {a = o} h) = back_kind t.kind t.at o h

abbrev pub a_compound : Part Token AssignOp
a_compound = terminal compound {t = token (SignKind PlusAssign)} refl

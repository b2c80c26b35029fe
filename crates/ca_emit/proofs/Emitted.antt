-- The annotated text, and the text without its marks.
use Rattle.std.proofs.Common.{◌≡◌, ℕ, Bool, true, false, List, [], Option, Result, Ok, Err, IfOk, refl, sym, ◌∙◌, subst}
use Rattle.ca_tree.specs.declared.name.Place.{Place}
use Rattle.ca_tree.specs.Plain.{Statement, TextTree, empty}
use Rattle.ca_canonical.specs.Annotated.{annotated}
use Rattle.ca_canonical.specs.Erased.{Erased}
use Rattle.ca_canonical.specs.Texts.{text_of_pieces}
use Rattle.ca_emit.specs.Annotations.{before_statement, is_among, marking_by}

-- what tells the same places marks the same
pub same_marks : (t : TextTree) (f g h k l m : Place → Bool) → ((at : Place) → f at ≡ k at) → ((at : Place) → g at ≡ l at) → ((at : Place) → h at ≡ m at)
    → text_of_pieces (annotated (marking_by f g h) t) ≡ text_of_pieces (annotated (marking_by k l m) t)
same_marks t f g h k l m e d c = λ i. text_of_pieces (annotated (marking_by (λ at. e at i) (λ at. d at i) (λ at. c at i)) t)

-- nothing stands before an empty statement
pub nothing_before : (f g h : Place → Bool) (body : Option Place) (front : Option Statement) (at : Place) → (marking_by f g h).before body front (empty at) ≡ []
nothing_before f g h body front at = by_body (is_among f body) (is_among g body)
  where
    by_body : (a b : Bool) → before_statement a b h front (empty at) ≡ []
    by_body true b = refl
    by_body false true = refl
    by_body false false = refl

-- what holds of a text holds of what was made of it

pub text_is : {V E : Type 0} (items : V → List ℕ) (r : Result V E) (s t : List ℕ) → s ≡ t → IfOk r (λ v. items v ≡ s) → IfOk r (λ v. items v ≡ t)
text_is items (Ok v) s t e h = h ∙ e
text_is items (Err x) s t e h = tt

pub erased_of : {V E : Type 0} (items : V → List ℕ) (r : Result V E) (s t : List ℕ) → Erased s t → IfOk r (λ v. items v ≡ s) → IfOk r (λ v. Erased (items v) t)
erased_of items (Ok v) s t e h = subst (λ z. Erased z t) (sym h) e
erased_of items (Err x) s t e h = tt

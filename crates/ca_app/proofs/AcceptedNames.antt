-- The operations of an accepted text's program have names of their own, in which no byte of a schedule's lines stands.
use Rattle.std.proofs.Common.{◌≡◌, ℕ, false, true, List, [], ◌∷◌, ◌++◌, codes, refl, sym, ap, subst, ◌∙◌}
use Rattle.std.specs.Prelude.{Option, Some, slice_get}
use Rattle.ca_program.specs.Plain.{PlainProgram, PlainClass, PlainMethod}
use Rattle.ca_lex.specs.Bytes.{is_name_byte}
use Rattle.ca_typing.specs.Names.{NamedOnce, IsName, NamesSpelled}
use Rattle.ca_typing.proofs.Once.{names_once}
use Rattle.ca_typing.proofs.Spelled.{names_spelled}
use Rattle.ca_trace.specs.Texts.{class_name, method_name}
use Rattle.ca_lines.specs.Pieces.{Without}
use Rattle.ca_lines.specs.Named.{NamesGood}
use Rattle.ca_lines.proofs.Bytes.{same_split, head_is, without_append}
use Rattle.ca_app.specs.Accepted.{Accepted}
use Rattle.ca_app.proofs.AcceptedTyped.{accepted_is_typed}

without_name : (c : ℕ) → is_name_byte c ≡ false → (name : List ℕ) → IsName name → Without c name
without_name c e [] h = tt
without_name c e (b ∷ bs) h = (λ same. let z : is_name_byte c ≡ true = subst (λ x. is_name_byte x ≡ true) same h.0 in let y = e in absurd (let w = sym y ∙ z in cc), without_name c e bs h.1)

module _ {text : List ℕ} {p : PlainProgram} (a : Accepted text p) where
  given : NamedOnce p
  given = names_once a.tree p a.resolved

  spelled : NamesSpelled p
  spelled = names_spelled text a.has_tree.tokens 0 a.tree p a.has_tree.has_tokens.lexed a.has_tree.derived a.resolved

  class_of : (i : ℕ) (m : PlainMethod) → slice_get p.ops i ≡ Some m → (k : PlainClass) × (slice_get p.classes m.class.0 ≡ Some k)
  class_of i m e = ((accepted_is_typed a).ops i m e).method.class

  name_is : (m : PlainMethod) (k : PlainClass) → slice_get p.classes m.class.0 ≡ Some k → method_name p (Some m) ≡ k.name ++ 58 ∷ 58 ∷ m.name
  name_is m k e = ap (λ (o : Option PlainClass). class_name o ++ (codes "::" ++ m.name)) e

  without : (c : ℕ) → is_name_byte c ≡ false → ¬ (58 ≡ c) → (i : ℕ) (m : PlainMethod) → slice_get p.ops i ≡ Some m → Without c (method_name p (Some m))
  without c e other i m f =
      let k = class_of i m f in
      subst (λ n. Without c n) (sym (name_is m k.0 k.1))
      (without_append c k.0.name (58 ∷ 58 ∷ m.name) (without_name c e k.0.name (spelled.classes m.class.0 k.0 k.1)) (other, (other, without_name c e m.name (spelled.ops i m f))))

  named_once : (i j : ℕ) (m n : PlainMethod) → slice_get p.ops i ≡ Some m → slice_get p.ops j ≡ Some n → method_name p (Some m) ≡ method_name p (Some n) → i ≡ j
  named_once i j m n e f same =
      let k = class_of i m e in
      let l = class_of j n f in
      let q : k.0.name ++ 58 ∷ 58 ∷ m.name ≡ l.0.name ++ 58 ∷ 58 ∷ n.name = sym (name_is m k.0 k.1) ∙ (same ∙ name_is n l.0 l.1) in
      let w = same_split 58 k.0.name l.0.name (58 ∷ m.name) (58 ∷ n.name) (without_name 58 refl k.0.name (spelled.classes m.class.0 k.0 k.1)) (without_name 58 refl l.0.name (spelled.classes n.class.0 l.0 l.1)) q in
      given.ops i j m n e f (given.classes m.class.0 n.class.0 k.0 l.0 k.1 l.1 w.front) (head_is 58 58 m.name n.name w.rest).1

  pub accepted_names : NamesGood p
  accepted_names = record {
    once = named_once;
    no_feed = without 10 refl (λ e. cc);
    no_paren = without 40 refl (λ e. cc);
  }

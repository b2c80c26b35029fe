-- What a body leaves alone in its object: the fields that aren't written.
use Rattle.std.proofs.Common.{◌≡◌, ℕ, zero, suc, Bool, true, false, List, [], ◌∷◌, ◌++◌, length, Some, refl, sym, ap, ap₂, ◌∙◌, arith, subst, ⊎_elim}
use Rattle.std.specs.Prelude.{slice_get, ◌||◌, nat_eq, Contains}
use Rattle.std.specs.List.{list_any}
use Rattle.std.proofs.lemmas.Bool.{eqb-true}
use Rattle.std.proofs.lemmas.List.Elements.{Contains-push, Contains-push_cases, Contains-append_left, Contains-append_right, Contains-append_cases}
use Rattle.ca_lists.proofs.Members.{has_nothing}
use Rattle.ca_program.specs.declared.program.ClassId.{ClassId}
use Rattle.ca_program.specs.declared.program.FieldId.{FieldId}
use Rattle.ca_program.specs.declared.program.FieldInfo.{FieldInfo}
use Rattle.ca_program.specs.Plain.{PlainProgram, PlainMethod, Statement, Statements, block, put_local, put_field, put_item, new_local, new_field, new_item, invoke, if_else, while_loop, for_loop, return_value, print_value, no_statements, statement_and}
use Rattle.ca_model.specs.declared.value.Slot.{Slot}
use Rattle.ca_model.specs.declared.value.Object.{Object}
use Rattle.ca_model.specs.declared.value.Value.TheVariants.{Ref}
use Rattle.ca_meaning.specs.Agree.{AgreesAt}
use Rattle.ca_meaning.specs.Expressions.{slots_in}
use Rattle.ca_meaning.specs.Functions.{own_of}
use Rattle.ca_meaning.specs.ProgramTyped.{StatementTyped, StatementsTyped, scope_of}
use Rattle.ca_parallel.specs.Bodies.{targets_of, targets_of_all}
use Rattle.ca_norm.specs.Terms.{PlainTerm}
use Rattle.ca_norm.specs.Meanings.{Valuation}
use Rattle.ca_symbolic.specs.States.{State}
use Rattle.ca_symbolic.specs.Execution.{after, after_all}
use Rattle.ca_symbolic_laws.specs.Meant.{slot_meant, slots_meant}
use Rattle.ca_symbolic_laws.proofs.Choices.{fields_kept, all_fields_kept}
use Rattle.ca_symbolic_laws.proofs.Named.{SameConstants}

-- Slots

slots_get : (v : Valuation) (xs ys : List PlainTerm) (fs : List FieldInfo) (n : ℕ) → length xs ≡ length ys → slice_get xs n ≡ slice_get ys n → slice_get (slots_meant v xs fs) n ≡ slice_get (slots_meant v ys fs) n
slots_get v [] [] fs n l e = refl
slots_get v [] (y ∷ ys) fs n l e = cc
slots_get v (x ∷ xs) [] fs n l e = cc
slots_get v (x ∷ xs) (y ∷ ys) [] n l e = refl
slots_get v (x ∷ xs) (y ∷ ys) (f ∷ fs) zero l e = let same : x ≡ y = cc in ap (λ z. Some (slot_meant v z f.length)) same
slots_get v (x ∷ xs) (y ∷ ys) (f ∷ fs) (suc n) l e = slots_get v xs ys fs n (omega (arith, l)) e

-- Targets

module _ (p : PlainProgram) (m : PlainMethod) where
  abbrev Mine : FieldId → Type 0
  Mine f = Some m.class ≡ Some f.class

  one_mine : (f g : FieldId) → Mine f → Contains (f ∷ []) g → Mine g
  one_mine f g e c = subst Mine (⊎_elim (λ a. absurd (has_nothing g a)) (λ q. q) (Contains-push_cases [] f g c)) e

  both_mine : (xs ys : List FieldId) → ((g : FieldId) → Contains xs g → Mine g) → ((g : FieldId) → Contains ys g → Mine g) → (g : FieldId) → Contains (xs ++ ys) g → Mine g
  both_mine xs ys a b g c = ⊎_elim (λ q. a g q) (λ q. b g q) (Contains-append_cases xs ys g c)

  none_mine : (g : FieldId) → Contains [] g → Mine g
  none_mine g c = absurd (has_nothing g c)

  mutual
    -- puts and creations are made in own fields
    targets_mine : (x : Statement) → StatementTyped p (scope_of m) x → (g : FieldId) → Contains (targets_of x) g → Mine g
    targets_mine (block line ss) t = all_targets_mine ss t
    targets_mine (put_local line l op e) t = none_mine
    targets_mine (put_field line f op e) t = λ g. one_mine f g t.1.1
    targets_mine (put_item line f i op e) t = λ g. one_mine f g t.1.1
    targets_mine (new_local line l c) t = none_mine
    targets_mine (new_field line f c) t = λ g. one_mine f g t.0.1
    targets_mine (new_item line f i c) t = λ g. one_mine f g t.0.1
    targets_mine (invoke line e op es) t = none_mine
    targets_mine (if_else line c a b) t = both_mine (targets_of a) (targets_of b) (targets_mine a t.1) (targets_mine b t.2)
    targets_mine (while_loop line c b) t = targets_mine b t.1
    targets_mine (for_loop line site part first c next b) t =
        both_mine (targets_of first) (targets_of next ++ targets_of b) (targets_mine first t.0) (both_mine (targets_of next) (targets_of b) (targets_mine next t.2) (targets_mine b t.3))
    targets_mine (return_value line e) t = none_mine
    targets_mine (print_value line e) t = none_mine

    all_targets_mine : (xs : Statements) → StatementsTyped p (scope_of m) xs → (g : FieldId) → Contains (targets_of_all xs) g → Mine g
    all_targets_mine no_statements t = none_mine
    all_targets_mine (statement_and x xs) t = both_mine (targets_of x) (targets_of_all xs) (targets_mine x t.0) (all_targets_mine xs t.1)

  class_same : (a b : ClassId) → Some a ≡ Some b → a ≡ b
  class_same a b e = cc

  same_field : (f g : FieldId) → Mine f → Mine g → nat_eq g.field f.field ≡ true → g ≡ f
  same_field f g a b e =
      ap₂ (λ c n. record { class = c; field = n }) (class_same g.class f.class (sym b ∙ a)) (eqb-true g.field f.field e)

  not_one : (b : Bool) → (b ≡ true → ⊥) → (c : Bool) → c ≡ false → b || c ≡ false
  not_one true h c e = absurd (h refl)
  not_one false h c e = e

  -- a field that isn't written is no target
  not_put : (written gs : List FieldId) (f : FieldId) → Mine f → ¬ Contains written f → ((g : FieldId) → Contains gs g → Contains written g) → ((g : FieldId) → Contains gs g → Mine g) → list_any (λ g. nat_eq g.field f.field) gs ≡ false
  not_put written [] f a n w q = refl
  not_put written (g ∷ gs) f a n w q =
      let here : Contains (g ∷ gs) g = Contains-append_left (g ∷ []) gs g (Contains-push [] g) in
      not_one (nat_eq g.field f.field) (λ e. n (subst (Contains written) (same_field f g a (q g here) e) (w g here))) _
      (not_put written gs f a n (λ k c. w k (Contains-append_right (g ∷ []) gs k c)) (λ k c. q k (Contains-append_right (g ∷ []) gs k c)))

  module _ (v : Valuation) (fs : List FieldInfo) (written : List FieldId) (cs : List Slot) where
    -- what agreed on constants agrees behind a statement that puts written fields alone
    pub constants_behind : (x : Statement) (st : State) → StatementTyped p (scope_of m) x → ((g : FieldId) → Contains (targets_of x) g → Contains written g) → SameConstants m written (slots_meant v st.fields fs) cs → SameConstants m written (slots_meant v (after p st x).fields fs) cs
    constants_behind x st t w q f a n =
        slots_get v (after p st x).fields st.fields fs f.field (fields_kept p x st).long ((fields_kept p x st).other f.field (not_put written (targets_of x) f a n w (targets_mine x t))) ∙ q f a n

    pub constants_behind_all : (xs : Statements) (st : State) → StatementsTyped p (scope_of m) xs → ((g : FieldId) → Contains (targets_of_all xs) g → Contains written g) → SameConstants m written (slots_meant v st.fields fs) cs → SameConstants m written (slots_meant v (after_all p st xs).fields fs) cs
    constants_behind_all xs st t w q f a n =
        slots_get v (after_all p st xs).fields st.fields fs f.field (all_fields_kept p xs st).long ((all_fields_kept p xs st).other f.field (not_put written (targets_of_all xs) f a n w (all_targets_mine xs t))) ∙ q f a n

-- an object that agrees with one of the heap
pub agreed : (m : PlainMethod) (written : List FieldId) (own : List Slot) (h : List Object) (r : ℕ) → AgreesAt written (record { class = m.class; slots = own }) h r → SameConstants m written own (own_of h (Ref r))
agreed m written own h r a f e n =
    a.agree.constants f (class_of m.class f.class e) n ∙ ap (λ o. slice_get (slots_in o) f.field) (sym a.there)
  where
    class_of : (a b : ClassId) → Some a ≡ Some b → b ≡ a
    class_of a b e = cc

pub agrees_again : (m : PlainMethod) (written : List FieldId) (own other : List Slot) (h : List Object) (r : ℕ) → AgreesAt written (record { class = m.class; slots = own }) h r → SameConstants m written other (own_of h (Ref r)) → AgreesAt written (record { class = m.class; slots = other }) h r
agrees_again m written own other h r a q = record {
  other = a.other;
  there = a.there;
  agree = record { class = a.agree.class; constants = λ f e n. q f (ap Some (sym e)) n ∙ ap (λ o. slice_get (slots_in o) f.field) a.there };
}

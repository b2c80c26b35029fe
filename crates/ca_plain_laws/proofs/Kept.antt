-- A plain body keeps locals and constants, and changes each field by its own updates alone.
use Rattle.std.proofs.Common.{◌≡◌, ℕ, zero, suc, ◌<◌, Bool, true, false, List, [], ◌∷◌, length, refl, sym, ap, ap₂, ◌∙◌, arith, subst, slice_set}
use Rattle.std.specs.Prelude.{nat_eq, Contains}
use Rattle.std.proofs.lemmas.Bool.{eqb-true}
use Rattle.std.proofs.lemmas.Bool.Decides.{nat_tests}
use Rattle.ca_program.specs.declared.program.ClassId.{ClassId}
use Rattle.ca_program.specs.declared.program.FieldId.{FieldId}
use Rattle.ca_program.specs.Plain.{PlainProgram, PlainMethod, Statement, Statements}
use Rattle.ca_norm.specs.Terms.{PlainTerm}
use Rattle.ca_symbolic.specs.States.{State, term_at}
use Rattle.ca_symbolic.specs.Execution.{with_field, after, after_all}
use Rattle.ca_plain_laws.specs.PlainPairs.{IsWritten, IsConstant, Kind, IsUpdateOf, AreCalls, no_calls, call_and, AreUpdatesAndCalls, calls, update_and}
use Rattle.ca_plain_laws.proofs.Atoms.{Agree}
use Rattle.ca_plain_laws.proofs.Updates.{Change, changed, changed_all, and_if, change_of, changes_at, after_is, change_same}

-- Lists

same_or_not : (m n : ℕ) (b : Bool) → nat_eq m n ≡ b → (m ≡ n → ⊥) → b ≡ false
same_or_not m n true e h = absurd (h (eqb-true m n e))
same_or_not m n false e h = refl

pub set_other : (ts : List PlainTerm) (n k : ℕ) (t : PlainTerm) → nat_eq n k ≡ false → term_at (slice_set ts n t) k ≡ term_at ts k
set_other [] n k t e = refl
set_other (u ∷ ts) zero zero t e = absurd (grind (arith, nat_tests))
set_other (u ∷ ts) zero (suc k) t e = refl
set_other (u ∷ ts) (suc n) zero t e = refl
set_other (u ∷ ts) (suc n) (suc k) t e = set_other ts n k t (grind (arith, nat_tests))

pub set_there : (ts : List PlainTerm) (n : ℕ) (t : PlainTerm) → n < length ts → term_at (slice_set ts n t) n ≡ t
set_there [] n t l = absurd (omega (arith, l))
set_there (u ∷ ts) zero t l = refl
set_there (u ∷ ts) (suc n) t l = set_there ts n t (omega (arith, l))

pub set_length : (ts : List PlainTerm) (n : ℕ) (t : PlainTerm) → length (slice_set ts n t) ≡ length ts
set_length [] n t = refl
set_length (u ∷ ts) zero t = refl
set_length (u ∷ ts) (suc n) t = ap suc (set_length ts n t)

module _ (p : PlainProgram) (written : List FieldId) (m : PlainMethod) where
  -- a field that is written is no constant
  other_field : (f g : FieldId) → IsWritten written m f → IsConstant written m g → f.field ≡ g.field → ⊥
  other_field f g w c e =
      let class : f.class ≡ g.class = w.0 ∙ sym c.0 in
      let same : f ≡ g = ap₂ (λ (k : ClassId) (n : ℕ). record { class = k; field = n }) class e in
      c.1 (subst (λ h. Contains written h) same w.1)

  pub update_agrees : (s : State) (f : FieldId) (t : PlainTerm) → IsWritten written m f → Agree written m (with_field s f.field t) s
  update_agrees s f t w = record {
    locals = refl;
    constants = λ g c. set_other s.fields f.field g.field t (same_or_not f.field g.field (nat_eq f.field g.field) refl (other_field f g w c));
  }

  pub agree_itself : (s : State) → Agree written m s s
  agree_itself s = record { locals = refl; constants = λ f c. refl }

  pub agree_then : (s t u : State) → Agree written m s t → Agree written m t u → Agree written m s u
  agree_then s t u g h = record { locals = g.locals ∙ h.locals; constants = λ f c. g.constants f c ∙ h.constants f c }

  pub agree_back : (s t : State) → Agree written m s t → Agree written m t s
  agree_back s t g = record { locals = sym g.locals; constants = λ f c. sym (g.constants f c) }

  pub after_agrees : (s : State) {k : Kind} {x : Statement} (f : FieldId) → IsWritten written m f → IsUpdateOf written m f k x → Agree written m (after p s x) s
  after_agrees s f w u = subst (λ t. Agree written m t s) (sym (after_is p written m s u)) (update_agrees s f (changed (change_of p written m s u) (term_at s.fields f.field)) w)

  pub after_length : (s : State) {f : FieldId} {k : Kind} {x : Statement} → IsUpdateOf written m f k x → length (after p s x).fields ≡ length s.fields
  after_length s {f} u = ap (λ t. length t.fields) (after_is p written m s u) ∙ set_length s.fields f.field (changed (change_of p written m s u) (term_at s.fields f.field))

  pub calls_keep : (s : State) {xs : Statements} → AreCalls written m xs → after_all p s xs ≡ s
  calls_keep s no_calls = refl
  calls_keep s (call_and line e op arguments a h c) = calls_keep s c

  module _ (kinds : ℕ → Kind) where
    pub body_length : (s : State) {xs : Statements} → AreUpdatesAndCalls written m kinds xs → length (after_all p s xs).fields ≡ length s.fields
    body_length s (calls c) = ap (λ t. length t.fields) (calls_keep s c)
    body_length s (update_and {x} f w u d) = body_length (after p s x) d ∙ after_length s u

    -- in any class whose fields these are: a body of one operation keeps what is constant for another
    pub body_agrees : (s : State) {xs : Statements} → AreUpdatesAndCalls written m kinds xs → Agree written m (after_all p s xs) s
    body_agrees s (calls c) = subst (λ t. Agree written m t s) (sym (calls_keep s c)) (agree_itself s)
    body_agrees s (update_and {x} {xs} f w u d) = agree_then (after_all p (after p s x) xs) (after p s x) s (body_agrees (after p s x) d) (after_agrees s f w u)

    at_field : (b : Bool) (s : State) (k n : ℕ) (c : Change) (us : List Change) → nat_eq k n ≡ b → n < length s.fields → changed_all us (term_at (slice_set s.fields k (changed c (term_at s.fields k))) n) ≡ changed_all (and_if b c us) (term_at s.fields n)
    at_field true s k n c us e l =
        let same : k ≡ n = eqb-true k n e in
        ap (changed_all us) (ap (λ i. term_at (slice_set s.fields i (changed c (term_at s.fields i))) n) same ∙ set_there s.fields n (changed c (term_at s.fields n)) l)
    at_field false s k n c us e l = ap (changed_all us) (set_other s.fields k n (changed c (term_at s.fields k)) e)

    -- what a body leaves in a field: its changes are told by any state with the same locals and constants
    pub field_after : (s t : State) (n : ℕ) {xs : Statements} (d : AreUpdatesAndCalls written m kinds xs) → Agree written m s t → n < length s.fields → term_at (after_all p s xs).fields n ≡ changed_all (changes_at p written m t n d) (term_at s.fields n)
    field_after s t n (calls c) h l = ap (λ u. term_at u.fields n) (calls_keep s c)
    field_after s t n (update_and {x} f w u d) h l =
        let c : Change = change_of p written m s u in
        let us : List Change = changes_at p written m t n d in
        let short : n < length (after p s x).fields = omega (arith, l, after_length s u) in
        field_after (after p s x) t n d (agree_then (after p s x) s t (after_agrees s f w u) h) short
        ∙ ap (λ z. changed_all us (term_at z.fields n)) (after_is p written m s u)
        ∙ at_field (nat_eq f.field n) s f.field n c us refl l
        ∙ ap (λ z. changed_all (and_if (nat_eq f.field n) z us) (term_at s.fields n)) (change_same p written m s t h u)

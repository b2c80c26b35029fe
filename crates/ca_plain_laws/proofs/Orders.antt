-- Both orders of a plain pair look the same: each field gets the same changes, and each operation demands the same.
use Rattle.std.proofs.Common.{◌≡◌, ℕ, zero, suc, ◌<◌, true, List, [], ◌∷◌, length, map, refl, sym, ap, ap₂, ◌∙◌, arith, subst}
use Rattle.std.specs.Prelude.{slice_get, Some}
use Rattle.ca_program.specs.declared.program.FieldId.{FieldId}
use Rattle.ca_program.specs.declared.program.FieldInfo.{FieldInfo}
use Rattle.ca_program.specs.declared.program.OpId.{OpId}
use Rattle.ca_program.specs.Plain.{PlainProgram, PlainMethod}
use Rattle.ca_norm.specs.Terms.{PlainTerm, truth}
use Rattle.ca_norm.specs.Forms.{norm}
use Rattle.ca_shared_terms.specs.Starts.{starts}
use Rattle.ca_symbolic.specs.States.{term_at}
use Rattle.ca_symbolic.specs.Execution.{after_all}
use Rattle.ca_symbolic.specs.Demands.{demanded_all}
use Rattle.ca_symbolic.specs.Runs.{begins, executed, demanded_by}
use Rattle.ca_plain_laws.specs.PlainPairs.{IsConstant, Kind, IsPlain}
use Rattle.ca_plain_laws.specs.Laws.{LooksSame, PlainPairsLookSame}
use Rattle.ca_plain_laws.proofs.Atoms.{IsBegun, Agree}
use Rattle.ca_plain_laws.proofs.Updates.{Change, changed_all, changes_at}
use Rattle.ca_plain_laws.proofs.Kept.{body_length, field_after}
use Rattle.ca_plain_laws.proofs.Asked.{body_same}
use Rattle.ca_plain_laws.proofs.Weights.{starts_simple, body_found, operation_begun, operation_agrees, other_constant}
use Rattle.ca_plain_laws.proofs.Changes.{same_norm, orders_same, changes_suit}

-- lists of the same length with the same forms at each place
same_everywhere : (ts us : List PlainTerm) → length ts ≡ length us → ((n : ℕ) → n < length ts → norm (term_at ts n) ≡ norm (term_at us n)) → map norm ts ≡ map norm us
same_everywhere [] [] e h = refl
same_everywhere [] (u ∷ us) e h = absurd (omega (arith, e))
same_everywhere (t ∷ ts) [] e h = absurd (omega (arith, e))
same_everywhere (t ∷ ts) (u ∷ us) e h = ap₂ (λ x xs. x ∷ xs) (h zero (omega arith)) (same_everywhere ts us (omega (arith, e)) (λ n l. h (suc n) (omega (arith, l))))

module _ (p : PlainProgram) (written : List FieldId) (kinds : ℕ → Kind) (m : PlainMethod) (op : OpId) (g : ℕ) (found : slice_get p.ops op.0 ≡ Some m) (plain : IsPlain written kinds m) where
  operation_length : (fields : List PlainTerm) → length (executed p op g fields).fields ≡ length fields
  operation_length fields =
      subst (λ xs. length (after_all p (begins p op g fields) xs).fields ≡ length fields) (sym (body_found p written kinds m op g found plain fields)) (body_length p written m kinds (begins p op g fields) plain.body)

  -- the changes of a field, told from these fields
  abbrev changes : List PlainTerm → ℕ → List Change
  changes fields n = changes_at p written m (begins p op g fields) n plain.body

  -- fields with the same constants
  same_begins : (fields others : List PlainTerm) → ((f : FieldId) → IsConstant written m f → term_at others f.field ≡ term_at fields f.field) → Agree written m (begins p op g others) (begins p op g fields)
  same_begins fields others h = record { locals = refl; constants = h }

  operation_field : (fields others : List PlainTerm) (n : ℕ) → ((f : FieldId) → IsConstant written m f → term_at others f.field ≡ term_at fields f.field) → n < length others → term_at (executed p op g others).fields n ≡ changed_all (changes fields n) (term_at others n)
  operation_field fields others n h l =
      subst (λ xs. term_at (after_all p (begins p op g others) xs).fields n ≡ changed_all (changes fields n) (term_at others n)) (sym (body_found p written kinds m op g found plain fields))
      (field_after p written m kinds (begins p op g others) (begins p op g fields) n plain.body (same_begins fields others h) l)

  operation_demands : (fields others : List PlainTerm) → ((f : FieldId) → IsConstant written m f → term_at others f.field ≡ term_at fields f.field) → demanded_by p op g others ≡ demanded_by p op g fields
  operation_demands fields others h =
      subst (λ xs. demanded_all p (begins p op g others) (truth true) xs ≡ demanded_all p (begins p op g fields) (truth true) xs) (sym (body_found p written kinds m op g found plain fields))
      (body_same p written m kinds (begins p op g others) (begins p op g fields) (truth true) (same_begins fields others h) plain.body)

-- what is constant for one operation is kept by the other
kept_by : (p : PlainProgram) (written : List FieldId) (kinds : ℕ → Kind) (m n : PlainMethod) (op : OpId) (g : ℕ) → slice_get p.ops op.0 ≡ Some m → IsPlain written kinds m → m.class ≡ n.class → (fields : List PlainTerm) (f : FieldId) → IsConstant written n f → term_at (executed p op g fields).fields f.field ≡ term_at fields f.field
kept_by p written kinds m n op g found plain same fields f c =
    (operation_agrees p written kinds m op g found plain fields).constants f (other_constant written m n f same c)

module _ (p : PlainProgram) (written : List FieldId) (kinds : ℕ → Kind) (m n : PlainMethod) (a b : OpId) (g h : ℕ) (first : slice_get p.ops a.0 ≡ Some m) (second : slice_get p.ops b.0 ≡ Some n) (same : m.class ≡ n.class) (one : IsPlain written kinds m) (two : IsPlain written kinds n) (fs : List FieldInfo) where
  abbrev fields : List PlainTerm
  fields = starts 0 fs

  abbrev behind_first : List PlainTerm
  behind_first = (executed p a g fields).fields

  abbrev behind_second : List PlainTerm
  behind_second = (executed p b h fields).fields

  first_keeps : (f : FieldId) → IsConstant written n f → term_at behind_first f.field ≡ term_at fields f.field
  first_keeps f c = kept_by p written kinds m n a g first one same fields f c

  second_keeps : (f : FieldId) → IsConstant written m f → term_at behind_second f.field ≡ term_at fields f.field
  second_keeps f c = kept_by p written kinds n m b h second two (sym same) fields f c

  abbrev cs : ℕ → List Change
  cs i = changes p written kinds m a g first one fields i

  abbrev ds : ℕ → List Change
  ds i = changes p written kinds n b h second two fields i

  first_then_second : (i : ℕ) → i < length fields → term_at (executed p b h behind_first).fields i ≡ changed_all (ds i) (changed_all (cs i) (term_at fields i))
  first_then_second i l =
      operation_field p written kinds n b h second two fields behind_first i first_keeps (omega (arith, l, operation_length p written kinds m a g first one fields))
      ∙ ap (changed_all (ds i)) (operation_field p written kinds m a g first one fields fields i (λ f c. refl) l)

  second_then_first : (i : ℕ) → i < length fields → term_at (executed p a g behind_second).fields i ≡ changed_all (cs i) (changed_all (ds i) (term_at fields i))
  second_then_first i l =
      operation_field p written kinds m a g first one fields behind_second i second_keeps (omega (arith, l, operation_length p written kinds n b h second two fields))
      ∙ ap (changed_all (cs i)) (operation_field p written kinds n b h second two fields fields i (λ f c. refl) l)

  first_begun : IsBegun written m (begins p a g fields)
  first_begun = operation_begun p written kinds m a g first one fields (λ f c. starts_simple 0 fs f.field)

  second_begun : IsBegun written n (begins p b h fields)
  second_begun = operation_begun p written kinds n b h second two fields (λ f c. starts_simple 0 fs f.field)

  same_form : (i : ℕ) → i < length fields → norm (term_at (executed p b h behind_first).fields i) ≡ norm (term_at (executed p a g behind_second).fields i)
  same_form i l =
      ap norm (first_then_second i l)
      ∙ same_norm _ _ (orders_same (kinds i) (cs i) (ds i) (term_at fields i) (changes_suit p written m kinds (begins p a g fields) i first_begun one.body) (changes_suit p written n kinds (begins p b h fields) i second_begun two.body))
      ∙ sym (ap norm (second_then_first i l))

  as_long_first : length (executed p b h behind_first).fields ≡ length fields
  as_long_first = operation_length p written kinds n b h second two behind_first ∙ operation_length p written kinds m a g first one fields

  as_long_second : length (executed p a g behind_second).fields ≡ length fields
  as_long_second = operation_length p written kinds m a g first one behind_second ∙ operation_length p written kinds n b h second two fields

  both_look_same : LooksSame p a g b h fields
  both_look_same = record {
    forms = same_everywhere (executed p b h behind_first).fields (executed p a g behind_second).fields (as_long_first ∙ sym as_long_second) (λ i l. same_form i (omega (arith, l, as_long_first)));
    first_demands = operation_demands p written kinds m a g first one fields behind_second second_keeps;
    second_demands = operation_demands p written kinds n b h second two fields behind_first first_keeps;
  }

pub plain_pairs_look_same : PlainPairsLookSame
plain_pairs_look_same p written a b fs h =
    both_look_same p written h.kinds h.first h.second a b 1 2 h.first_is h.second_is h.one_class h.first_plain h.second_plain fs

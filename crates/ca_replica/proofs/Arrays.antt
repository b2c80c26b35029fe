-- An extent that only sums writes no array.
use Rattle.std.proofs.Common.{◌≡◌, ⊎_elim, ℕ, zero, suc, List, [], ◌∷◌, ◌++◌, Option, Some, None, refl, sym, subst, ◌∙◌, ℤ}
use Rattle.std.specs.Prelude.{slice_get, Contains}
use Rattle.std.proofs.lemmas.List.Elements.{Contains-append_cases}
use Rattle.ca_lists.proofs.Members.{has_nothing, has_only}
use Rattle.ca_program.specs.declared.program.FieldId.{FieldId}
use Rattle.ca_program.specs.declared.program.FieldInfo.{FieldInfo}
use Rattle.ca_program.specs.declared.program.ValueType.{ValueType}
use Rattle.ca_program.specs.Fields.{fields_of}
use Rattle.ca_program.specs.Plain.{PlainProgram, PlainClass, PlainMethod, Statement, Statements, block, put_local, put_field, put_item, new_local, new_field, new_item, invoke, if_else, while_loop, for_loop, return_value, print_value, no_statements, statement_and}
use Rattle.ca_model.specs.declared.value.Value.{Value as Datum}
use Rattle.ca_model.specs.declared.value.Value.TheVariants.{Long}
use Rattle.ca_model.specs.declared.value.Slot.{Slot}
use Rattle.ca_model.specs.declared.value.Slot.TheVariants.{One, Many}
use Rattle.ca_model.specs.declared.value.TrapKind.TheVariants.{OutOfRange}
use Rattle.ca_model.specs.declared.value.Object.{Object}
use Rattle.ca_model.specs.Typed.{SlotTyped, SlotsTyped, ObjectTyped, IsOfClass}
use Rattle.ca_meaning.specs.Expressions.{Out, Item, indexed, gives, traps, trap_at, slot_of, slots_in}
use Rattle.ca_meaning.specs.Functions.{body_of}
use Rattle.ca_meaning.specs.ProgramTyped.{Scope, IsScalar, field_info, StatementTyped, StatementsTyped, scope_of}
use Rattle.ca_meaning_laws.proofs.Heaps.{object_typed}
use Rattle.ca_parallel.specs.Bodies.{targets_of, targets_of_all}
use Rattle.ca_parallel.specs.Extents.{Extent, Writes}
use Rattle.ca_sum_laws.specs.Summed.{IsSummed, AreSummed}
use Rattle.ca_beside.specs.declared.beside.Changed.{Changed}
use Rattle.ca_undo.specs.declared.puts.Put.{Put}
use Rattle.ca_steps.specs.declared.access.Look.TheVariants.{Holds}
use Rattle.ca_steps.specs.Telling.{Looks}
use Rattle.ca_steps.proofs.Loading.{none_indexed}
use Rattle.ca_replica.specs.declared.marks.FieldMark.{FieldMark}
use Rattle.ca_replica.specs.Applied.{IsRound, sums}
use Rattle.ca_replica.specs.InPlace.{Keeps, KeepsArrays}
use Rattle.ca_replica.proofs.InPlace.{field_at}

-- there is such a field, of a single value
abbrev pub Single : PlainProgram → FieldId → Type 0
Single p f = (ty : ValueType) × IsScalar (field_info p f) ty

-- what a body that only sums assigns to is a single value
module _ (p : PlainProgram) (written : List FieldId) (s : Scope) where
  mutual
    target_single : (x : Statement) → IsSummed p written x → StatementTyped p s x → (f : FieldId) → Contains (targets_of x) f → Single p f
    target_single (block line xs) a t f c = targets_single xs a t f c
    target_single (put_local line l op e) a t f c = absurd (has_nothing f c)
    target_single (put_field line g op e) a t f c = subst (λ k. Single p k) (has_only g f c) (t.0, t.2)
    target_single (put_item line g i op e) a t f c = absurd a
    target_single (new_local line l k) a t f c = absurd a
    target_single (new_field line g k) a t f c = absurd a
    target_single (new_item line g i k) a t f c = absurd a
    target_single (invoke line e op es) a t f c = absurd (has_nothing f c)
    target_single (if_else line e x y) a t f c = ⊎_elim (λ d. target_single x a.1 t.1 f d) (λ d. target_single y a.2 t.2 f d) (Contains-append_cases (targets_of x) (targets_of y) f c)
    target_single (while_loop line e x) a t f c = target_single x a.1 t.1 f c
    target_single (for_loop line site part first e next x) a t f c =
        ⊎_elim (λ d. target_single first a.0 t.0 f d)
        (λ d. ⊎_elim (λ d. target_single next a.2 t.2 f d) (λ d. target_single x a.3 t.3 f d) (Contains-append_cases (targets_of next) (targets_of x) f d))
        (Contains-append_cases (targets_of first) (targets_of next ++ targets_of x) f c)
    target_single (return_value line e) a t f c = absurd (has_nothing f c)
    target_single (print_value line e) a t f c = absurd a

    targets_single : (xs : Statements) → AreSummed p written xs → StatementsTyped p s xs → (f : FieldId) → Contains (targets_of_all xs) f → Single p f
    targets_single no_statements a t f c = absurd (has_nothing f c)
    targets_single (statement_and x xs) a t f c = ⊎_elim (λ d. target_single x a.0 t.0 f d) (λ d. targets_single xs a.1 t.1 f d) (Contains-append_cases (targets_of x) (targets_of_all xs) f c)

-- so is each field that the extent writes
single_written : (p : PlainProgram) (x : Extent) (frozen : List Object) → IsRound p x frozen → (f : FieldId) → Contains x.written f → Single p f
single_written p x frozen r f c = from (slice_get p.ops w.op.0) refl (r.summed w.op (let k = r.is.ops w.op in k.1 w.invoked)) w.target
  where
    w : Writes p r.roots f
    w = let k = r.is.written f in k.0 c

    from : (m : Option PlainMethod) → slice_get p.ops w.op.0 ≡ m → AreSummed p x.written (body_of m) → Contains (targets_of_all (body_of m)) f → Single p f
    from None e a t = absurd (has_nothing f t)
    from (Some m) e a t = let typed = r.program.ops w.op.0 m e in targets_single p x.written (scope_of m) m.body.statements a typed.method.body f t

-- a typed slot of a single value is no array
not_many : (h : List Object) (ss : List Slot) (fs : List FieldInfo) (g : ℕ) (vs : List Datum) (ty : ValueType) → SlotsTyped h ss fs → slice_get ss g ≡ Some (Many vs) → IsScalar (slice_get fs g) ty → ⊥
not_many h [] [] g vs ty t e s = absurd (cc)
not_many h [] (f ∷ fs) g vs ty t e s = t
not_many h (x ∷ ss) [] g vs ty t e s = t
not_many h (One v ∷ ss) (f ∷ fs) zero vs ty t e s = absurd (cc)
not_many h (Many ws ∷ ss) (f ∷ fs) zero vs ty t e s = subst (λ l. SlotTyped h (Many ws) f.ty l) s.1 t.0
not_many h (x ∷ ss) (f ∷ fs) (suc g) vs ty t e s = not_many h ss fs g vs ty t.1 e s

no_array : (h : List Object) (k : Option PlainClass) (ss : List Slot) (g : ℕ) (vs : List Datum) (ty : ValueType) → ObjectTyped h k ss → slice_get ss g ≡ Some (Many vs) → IsScalar (slice_get (fields_of k) g) ty → ⊥
no_array h None ss g vs ty t e s = t
no_array h (Some k) ss g vs ty t e s = not_many h ss k.fields g vs ty t e s

pub arrays_first : (p : PlainProgram) (x : Extent) (frozen : List Object) → IsRound p x frozen → KeepsArrays x.written frozen
arrays_first p x frozen r n o g vs there many c =
    let single = single_written p x frozen r (field_at o.class g) c in
    let class : IsOfClass (slice_get frozen n) o.class = subst (λ z. IsOfClass z o.class) (sym there) refl in
    let typed = object_typed p frozen frozen n o.class r.heap class in
    no_array frozen (slice_get p.classes o.class.0) o.slots g vs single.0 (subst (λ z. ObjectTyped frozen (slice_get p.classes o.class.0) (slots_in z)) there typed) many single.1

-- ---- items

-- an item that stands in the frozen heap stands in the sums
pub item_same : (written : List FieldId) (frozen : List Object) (marks : List FieldMark) (cs : List Changed) (os : List Put) → Keeps written frozen marks cs os → (line n : ℕ) (f : FieldId) (i : ℤ) (k place : ℕ) (v : Datum) → Looks line (slot_of frozen n f) i k (Holds place v) → Looks line (slot_of (sums written frozen cs) n f) i k (Holds place v)
item_same written frozen marks cs os keeps line n f i k place v look = from (slice_get frozen n) refl look
  where
    empty : (g : ℕ) → slice_get (slots_in None) g ≡ None
    empty g = cc

    apart : ◌≡◌ {A = Out Item} (traps (trap_at line OutOfRange)) (gives (record { place = place; value = v }) k) → ⊥
    apart d = absurd (cc)

    no_item : indexed line [] (Long i) k ≡ gives (record { place = place; value = v }) k → ⊥
    no_item e = apart (sym (none_indexed line k i) ∙ e)

    here : (o : Object) → slice_get frozen n ≡ Some o → (s : Option Slot) → slice_get o.slots f.field ≡ s → Looks line s i k (Holds place v) → Looks line (slot_of (sums written frozen cs) n f) i k (Holds place v)
    here o there None e l = absurd (no_item l)
    here o there (Some (One x)) e l = absurd (no_item l)
    here o there (Some (Many vs)) e l = subst (λ z. Looks line z i k (Holds place v)) (sym (keeps.constants n o f.field there (keeps.arrays n o f.field vs there e) ∙ e)) l

    from : (o : Option Object) → slice_get frozen n ≡ o → Looks line (slice_get (slots_in o) f.field) i k (Holds place v) → Looks line (slot_of (sums written frozen cs) n f) i k (Holds place v)
    from None e l = absurd (no_item (subst (λ z. Looks line z i k (Holds place v)) (empty f.field) l))
    from (Some o) e l = here o e (slice_get o.slots f.field) refl l

-- What a complete section is: a run of the body with so many steps, which leaves a typed object with the constants of
-- the one it began with, and lists well typed calls of the extent.
use Rattle.std.proofs.Common.{◌≡◌, ℕ, zero, suc, ◌+◌, ◌-◌, ◌<◌, List, Option, Some, None, refl, ap, sym, subst, ◌∙◌, arith, false}
use Rattle.std.specs.Prelude.{slice_get, Contains}
use Rattle.ca_program.specs.declared.program.ClassId.{ClassId}
use Rattle.ca_program.specs.declared.program.FieldId.{FieldId}
use Rattle.ca_program.specs.declared.program.OpId.{OpId}
use Rattle.ca_program.specs.Plain.{PlainProgram, PlainMethod}
use Rattle.ca_model.specs.declared.value.Value.{Value as Datum}
use Rattle.ca_model.specs.declared.value.Value.TheVariants.{Ref}
use Rattle.ca_model.specs.declared.value.Slot.{Slot}
use Rattle.ca_model.specs.declared.value.Object.{Object}
use Rattle.ca_model.specs.Typed.{TypedHeap}
use Rattle.ca_meaning.specs.Expressions.{Invocation}
use Rattle.ca_meaning.specs.Flows.{Flow, goes_on, gives_back, stops, runs_out, exec_all}
use Rattle.ca_meaning.specs.Functions.{body_of, locals_of}
use Rattle.ca_meaning.specs.Sections.{Section, section_start, section_parts, section_run, Outcome, done, sectioned, section}
use Rattle.ca_meaning.specs.WellTyped.{WellTyped, AllWellTyped, IsMethodOf, IsTypedObject}
use Rattle.ca_meaning.specs.ProgramTyped.{scope_of, MethodTyped, OperationTyped, ProgramTyped}
use Rattle.ca_meaning_laws.specs.Budgets.{on_with, flow_at, Reaches, Reached}
use Rattle.ca_meaning_laws.specs.Typed.{SectionLeaves}
use Rattle.ca_meaning_laws.proofs.Steady.{SteadyFlow}
use Rattle.ca_meaning_laws.proofs.Bigs.{section_run_steady}
use Rattle.ca_meaning_laws.proofs.SectionTypes.{section_leaves}
use Rattle.ca_parallel.specs.Bodies.{calls_of_all}
use Rattle.ca_parallel.specs.Extents.{Extent, IsExtentOf, operation_body, called}
use Rattle.ca_parallel.specs.Separable.{is_some_of, AreSeparated, Separable}
use Rattle.ca_order_laws.specs.Pending.{Leaves}
use Rattle.ca_order_laws.proofs.Kept.{AreKept, all_kept_of}
use Rattle.ca_order_laws.proofs.Grown.{GrownFlow, grew, grew_over, all_section_grown}

-- ---- so many steps

abbrev pub object_with : Object → List Slot → Object
object_with o slots = record { class = o.class; slots = slots }

pub record LeavesBy (p : PlainProgram) (h : List Object) (i : Invocation) (o : Object) (m : Outcome) : Type 0 where
  pub locals : List Datum
  pub section : Section
  pub reaches : Reaches (λ k. section_run p h i o.slots k) (on_with locals section) m.steps
  pub object : m.object ≡ object_with o section.own
  pub listed : m.listed ≡ section.listed

abbrev pub outcome : Object → List Invocation → ℕ → Outcome
outcome o listed steps = record { object = o; listed = listed; steps = steps }

outcome_object : {m n : Outcome} → done m ≡ done n → m.object ≡ n.object
outcome_object e = cc

outcome_listed : {m n : Outcome} → done m ≡ done n → m.listed ≡ n.listed
outcome_listed e = cc

pub outcome_steps : {m n : Outcome} → done m ≡ done n → m.steps ≡ n.steps
outcome_steps e = cc

pub leaves_by : (p : PlainProgram) (h : List Object) (i : Invocation) (o : Object) (m : Outcome) → Leaves p h i o m → LeavesBy p h i o m
leaves_by p h i o m leaves = from (section_run p h i o.slots leaves.0) refl leaves.1
  where
    from : (f : Flow Section) → section_run p h i o.slots leaves.0 ≡ f → sectioned o.class leaves.0 f ≡ done m → LeavesBy p h i o m
    from (goes_on ls s k) e d =
        let st : SteadyFlow (suc leaves.0) (λ k. section_run p h i o.slots k) = section_run_steady p h i o.slots leaves.0 in
        let r : Reached (λ k. section_run p h i o.slots k) (on_with ls s) leaves.0 k = st.reached leaves.0 (omega arith) (on_with ls s) k e in
        let is = r.is in
        let steps : leaves.0 - k ≡ m.steps = outcome_steps d in
        let same : r.s ≡ m.steps = omega arith in
        record { locals = ls; section = s; reaches = subst (λ n. Reaches (λ k. section_run p h i o.slots k) (on_with ls s) n) same r.reaches; object = sym (outcome_object d); listed = sym (outcome_listed d) }
    from (gives_back v s k) e d = cc
    from (stops t s) e d = cc
    from (runs_out s) e d = cc

-- the section is the same within every budget that has the steps
pub at_all : (p : PlainProgram) (h : List Object) (i : Invocation) (o : Object) (m : Outcome) → LeavesBy p h i o m → (k : ℕ) → section p h i.receiver o i.op i.arguments (m.steps + k) ≡ done m
at_all p h i o m by k =
    let left : (m.steps + k) - k ≡ m.steps = omega arith in
    ap (λ f. sectioned o.class (m.steps + k) f) (by.reaches.at k)
    ∙ ap (λ n. done (outcome (object_with o by.section.own) by.section.listed n)) left
    ∙ ap (λ q. done (outcome q by.section.listed m.steps)) (sym by.object)
    ∙ ap (λ l. done (outcome m.object l m.steps)) (sym by.listed)

outcome_same : {m n : Outcome} → m.object ≡ n.object → m.listed ≡ n.listed → m.steps ≡ n.steps → m ≡ n
outcome_same {m} {n} a b c = ap (λ o. outcome o m.listed m.steps) a ∙ ap (λ l. outcome n.object l m.steps) b ∙ ap (λ k. outcome n.object n.listed k) c

pub leaves_one : (p : PlainProgram) (h : List Object) (i : Invocation) (o : Object) (m n : Outcome) → Leaves p h i o m → Leaves p h i o n → m ≡ n
leaves_one p h i o m n a b =
    let e : done m ≡ done n = sym (at_all p h i o m (leaves_by p h i o m a) n.steps) ∙ ap (λ k. section p h i.receiver o i.op i.arguments k) (let z : m.steps + n.steps ≡ n.steps + m.steps = omega arith in z) ∙ at_all p h i o n (leaves_by p h i o n b) m.steps in
    outcome_same (outcome_object e) (outcome_listed e) (outcome_steps e)

-- a section takes the step of its call
pub leaves_steps : (p : PlainProgram) (h : List Object) (i : Invocation) (o : Object) (m : Outcome) → Leaves p h i o m → 0 < m.steps
leaves_steps p h i o m leaves = from m.steps refl
  where
    by : LeavesBy p h i o m
    by = leaves_by p h i o m leaves

    from : (n : ℕ) → m.steps ≡ n → 0 < m.steps
    from (suc n) e = omega arith
    from zero e = absurd (none (subst (λ n. section_run p h i o.slots (n + 0) ≡ flow_at (on_with by.locals by.section) 0) e (by.reaches.at 0)))
      where
        none : runs_out (section_start o.slots) ≡ goes_on by.locals by.section 0 → ⊥
        none e = cc

-- ---- what it leaves

-- the bodies of an extent put into its written fields and call its operations
pub body_kept : (p : PlainProgram) (roots : List OpId) (x : Extent) → IsExtentOf p roots x → (op : OpId) → Contains x.ops op → AreKept x.written x.ops (operation_body p op)
body_kept p roots x is op at =
    all_kept_of x.written x.ops (operation_body p op)
    (λ f c. (is.written f).1 (record { op = op; invoked = (is.ops op).0 at; target = c }))
    (λ o c. (is.ops o).1 (called ((is.ops op).0 at) c))

module _ (p : PlainProgram) (program : ProgramTyped p) (roots : List OpId) (x : Extent) (is : IsExtentOf p roots x) (h : List Object) where
  body_grown : (n r : ℕ) (vs : List Datum) (own : List Slot) (c : ClassId) (m : Option PlainMethod) → slice_get p.ops n ≡ m → IsMethodOf m c → AreSeparated p x.written false (body_of m) → AreKept x.written x.ops (body_of m) → (k : ℕ) → GrownFlow x.written x.ops (Some c) false (is_some_of (calls_of_all (body_of m))) (section_start own) (exec_all (section_parts p h (Ref r)) (locals_of m vs) (section_start own) (body_of m) k)
  body_grown n r vs own c None e of_class a w k = absurd of_class
  body_grown n r vs own c (Some m) e of_class a w k =
      let mt : OperationTyped p m = program.ops n m e in
      let mm : MethodTyped p m = mt.method in
      subst (λ z. GrownFlow x.written x.ops (Some z) false (is_some_of (calls_of_all m.body.statements)) (section_start own) (exec_all (section_parts p h (Ref r)) (locals_of (Some m) vs) (section_start own) m.body.statements k)) of_class
      (all_section_grown p x.written x.ops h (Ref r) (scope_of m) m.body.statements false mm.body a w (locals_of (Some m) vs) (section_start own) k)

  pub run_grown : (i : Invocation) → Contains x.ops i.op → Separable p x.written i.op → (c : ClassId) → IsMethodOf (slice_get p.ops i.op.0) c → (own : List Slot) (k : ℕ) → GrownFlow x.written x.ops (Some c) false (is_some_of (calls_of_all (operation_body p i.op))) (section_start own) (section_run p h i own k)
  run_grown i at sep c of_class own zero = grew_over (section_start own)
  run_grown i at sep c of_class own (suc k) = body_grown i.op.0 i.receiver i.arguments own c (slice_get p.ops i.op.0) refl of_class sep (body_kept p roots x is i.op at) k

  -- a complete section keeps the object's constants, and lists calls of the extent
  pub record Bounded (o : Object) (m : Outcome) : Type 0 where
    pub class : m.object.class ≡ o.class
    pub constants : (f : FieldId) → f.class ≡ o.class → ¬ Contains x.written f → slice_get m.object.slots f.field ≡ slice_get o.slots f.field
    pub inside : (i : Invocation) → Contains m.listed i → Contains x.ops i.op

  pub bounded : (i : Invocation) → Contains x.ops i.op → Separable p x.written i.op → (o : Object) → IsMethodOf (slice_get p.ops i.op.0) o.class → (m : Outcome) → Leaves p h i o m → Bounded o m
  bounded i at sep o of_class m leaves = from (run_grown i at sep o.class of_class o.slots (m.steps + 0))
    where
      by : LeavesBy p h i o m
      by = leaves_by p h i o m leaves

      grows : GrownFlow x.written x.ops (Some o.class) false (is_some_of (calls_of_all (operation_body p i.op))) (section_start o.slots) (goes_on by.locals by.section 0) → Bounded o m
      grows (grew _ _ _ g) = record {
        class = ap (λ (q : Object). q.class) by.object;
        constants = λ f e n. ap (λ (q : Object). slice_get q.slots f.field) by.object ∙ g.constants f (ap Some (sym e)) n;
        inside = λ j c. g.inside j (subst (λ l. Contains l j) (by.listed ∙ g.listed) c);
      }

      from : GrownFlow x.written x.ops (Some o.class) false (is_some_of (calls_of_all (operation_body p i.op))) (section_start o.slots) (section_run p h i o.slots (m.steps + 0)) → Bounded o m
      from f = grows (subst (λ z. GrownFlow x.written x.ops (Some o.class) false (is_some_of (calls_of_all (operation_body p i.op))) (section_start o.slots) z) (by.reaches.at 0) f)

  pub typed_leaves : TypedHeap p h → (i : Invocation) → WellTyped p h i → (c : ClassId) → IsMethodOf (slice_get p.ops i.op.0) c → (o : Object) → IsTypedObject p h c o → (m : Outcome) → Leaves p h i o m → IsTypedObject p h c m.object × AllWellTyped p h m.listed
  typed_leaves heap i well c of_class o object m leaves = subst (λ z. SectionLeaves p h c z) leaves.1 (section_leaves p program h heap i.receiver o i.op i.arguments leaves.0 c well of_class object)

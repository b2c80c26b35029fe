-- The section of an operation whose body is one sweep.
use Rattle.std.proofs.Common.{◌≡◌, ℕ, zero, suc, ◌+◌, ◌-◌, ◌<◌, List, [], ◌∷◌, length, Option, Some, None, ℤ, pos, negsuc, refl, sym, ap, ap₂, ◌∙◌, arith, subst, FitsSigned, w64}
use Rattle.std.specs.Prelude.{slice_get, IsSome}
use Rattle.std.proofs.lemmas.Int.{SFits-int_wrap}
use Rattle.ca_tree.specs.declared.tree.AssignOp.TheVariants.{Put}
use Rattle.ca_tree.specs.declared.tree.BinaryOp.TheVariants.{Less, Plus, Times}
use Rattle.ca_program.specs.declared.program.ClassId.{ClassId}
use Rattle.ca_program.specs.declared.program.FieldInfo.{FieldInfo}
use Rattle.ca_program.specs.declared.program.LoopId.{LoopId}
use Rattle.ca_program.specs.declared.program.OpId.{OpId}
use Rattle.ca_program.specs.declared.program.FirstPart.TheVariants.{Declares}
use Rattle.ca_program.specs.declared.program.ValueType.{ValueType}
use Rattle.ca_program.specs.declared.program.ValueType.TheVariants as type
use Rattle.ca_program.specs.Plain.{PlainProgram, PlainMethod, PlainClass, Expression, local, binary, Statement, Statements, put_local, for_loop, no_statements, statement_and}
use Rattle.ca_model.specs.declared.value.Value.{Value as Datum}
use Rattle.ca_model.specs.declared.value.Value.TheVariants.{Long, Bool as Truth, Null, Ref}
use Rattle.ca_model.specs.declared.value.Slot.{Slot}
use Rattle.ca_model.specs.declared.value.Slot.TheVariants.{One, Many}
use Rattle.ca_model.specs.declared.value.Object.{Object}
use Rattle.ca_model.specs.Heaps.{fields_of}
use Rattle.ca_model.specs.Typed.{HasType, AllHaveType, SlotTyped, SlotsTyped, ObjectTyped}
use Rattle.ca_meaning.specs.Expressions.{value_at, take_step}
use Rattle.ca_meaning.specs.Flows.{Flow, goes_on, gives_back, stops, runs_out, and_on, with, exec, exec_all}
use Rattle.ca_meaning.specs.Functions.{body_of, locals_of}
use Rattle.ca_meaning.specs.ProgramTyped.{IsScalar, IsArray, OperationTyped, field_info, ExpressionTyped, StatementTyped, StatementsTyped, scope_of}
use Rattle.ca_meaning.specs.Sections.{Section, section_parts, section_start, Sectioned, done, sectioned, section}
use Rattle.ca_meaning.specs.Sections as sections
use Rattle.ca_meaning.specs.WellTyped.{ValuesTyped, IsTypedObject, parameters_of}
use Rattle.ca_meaning_laws.proofs.Values.{local_typed, frame_typed, own_scalar}
use Rattle.ca_sweep.specs.Sweeps.{PlainSweep, Counts, AddsAlone, IsSweep, AreSums}
use Rattle.ca_sweep.specs.Means.{sum_value, all_but, Table, items_from, swept, operate, added, with_items, sweep_cost, length_in, sweep_cost_of}
use Rattle.ca_sweep.specs.Laws.{GoesOn, Sweeps, sweeps, Stands}
use Rattle.ca_sweep.specs.Laws as plain
use Rattle.ca_sweep.proofs.Shown.{Shown, shown, shown_of}
use Rattle.ca_sweep.proofs.Typed.{SweepTyped, sweep_typed}
use Rattle.ca_sweep.proofs.Sums.{Summed, a_number, a_local, a_field, a_sum, a_product, sum_summed}
use Rattle.ca_sweep.proofs.Runs.{sweeps_are_swept}
use Rattle.ca_sweep_laws.specs.Sections.{IsDone, Ends, completes, fails, Sweeping, SectionsOfSweeps}

-- Types

operate_long : (h : List Object) (a b : Datum) (op : _) → (op ≡ Plus) → HasType h a type.Long → HasType h b type.Long → HasType h (operate op a b) type.Long
operate_long h (Long a) (Long b) _ e t u = subst (λ o. HasType h (operate o (Long a) (Long b)) type.Long) (sym e) (SFits-int_wrap w64 _)
operate_long h (Long a) (Truth b) _ e t u = absurd u
operate_long h (Long a) Null _ e t u = absurd u
operate_long h (Long a) (Ref b) _ e t u = absurd u
operate_long h (Truth a) b _ e t u = absurd t
operate_long h Null b _ e t u = absurd t
operate_long h (Ref a) b _ e t u = absurd t

times_long : (h : List Object) (a b : Datum) → HasType h a type.Long → HasType h b type.Long → HasType h (operate Times a b) type.Long
times_long h (Long a) (Long b) t u = SFits-int_wrap w64 _
times_long h (Long a) (Truth b) t u = absurd u
times_long h (Long a) Null t u = absurd u
times_long h (Long a) (Ref b) t u = absurd u
times_long h (Truth a) b t u = absurd t
times_long h Null b t u = absurd t
times_long h (Ref a) b t u = absurd t

class_same : (a b : ClassId) → Some a ≡ Some b → a ≡ b
class_same a b e = cc

-- the value of a sum is a number
sum_long : (p : PlainProgram) (h : List Object) (m : PlainMethod) (ss : List Slot) (ls : List Datum) → ObjectTyped h (slice_get p.classes m.class.0) ss → ValuesTyped h ls m.body.locals → (i : ℕ) (e : Expression) → Summed (all_but i) e → ExpressionTyped p (scope_of m) e type.Long → HasType h (sum_value ss ls e) type.Long
sum_long p h m ss ls a b i _ (a_number n) t = t.1
sum_long p h m ss ls a b i _ (a_local l k) t = local_typed h ls m.body.locals l.0 type.Long b t
sum_long p h m ss ls a b i _ (a_field f k) t = own_scalar h (slice_get p.classes m.class.0) ss f.field type.Long a (subst (λ c. IsScalar (slice_get (fields_of (slice_get p.classes c.0)) f.field) type.Long) (sym (class_same m.class f.class t.0)) t.1)
sum_long p h m ss ls a b i _ (a_sum x y u w) t =
    operate_long h _ _ Plus refl (sum_long p h m ss ls a b i x u (subst (ExpressionTyped p (scope_of m) x) t.1.0 t.2)) (sum_long p h m ss ls a b i y w (subst (ExpressionTyped p (scope_of m) y) t.1.0 t.3))
sum_long p h m ss ls a b i _ (a_product x y u w) t =
    times_long h _ _ (sum_long p h m ss ls a b i x u (subst (ExpressionTyped p (scope_of m) x) t.1.0 t.2)) (sum_long p h m ss ls a b i y w (subst (ExpressionTyped p (scope_of m) y) t.1.0 t.3))

is_long : (h : List Object) (d : Datum) → HasType h d type.Long → (z : ℤ) × (d ≡ Long z) × FitsSigned w64 z
is_long h (Long n) t = (n, refl, t)
is_long h (Truth b) t = absurd t
is_long h Null t = absurd t
is_long h (Ref r) t = absurd t

-- The numbers of a field

abbrev table_of : List Datum → Table
table_of ds (pos i) = value_at ds i
table_of ds (negsuc i) = Null

table_is : (ds : List Datum) (t : Table) (k : ℕ) → ((i : ℕ) → t (pos (k + i)) ≡ value_at ds i) → items_from t k (length ds) ≡ ds
table_is [] t k e = refl
table_is (d ∷ ds) t k e = ap₂ (λ x xs. x ∷ xs) (ap (λ n. t (pos n)) (let z : k ≡ k + zero = omega arith in z) ∙ e zero) (table_is ds t (suc k) (λ i. ap (λ n. t (pos n)) (let z : suc k + i ≡ k + suc i = omega arith in z) ∙ e (suc i)))

record Numbers (h : List Object) (o : Option Slot) (len : Option ℕ) : Type 0 where
  items : List Datum
  slot : o ≡ Some (Many items)
  long : len ≡ Some (length items)
  typed : AllHaveType h items type.Long

many_slot : (h : List Object) (s : Slot) (had : ValueType) (len : Option ℕ) → SlotTyped h s had len → had ≡ type.Long → IsSome len → Numbers h (Some s) len
many_slot h (One v) had None t e n = absurd cc
many_slot h (One v) had (Some m) t e n = absurd t
many_slot h (Many vs) had None t e n = absurd t
many_slot h (Many vs) had (Some m) t e n = record { items = vs; slot = refl; long = ap Some (sym t.0); typed = subst (λ z. AllHaveType h vs z) e t.1 }

numbers_in : (h : List Object) (ss : List Slot) (fs : List FieldInfo) (f : ℕ) → SlotsTyped h ss fs → IsArray (slice_get fs f) type.Long → Numbers h (slice_get ss f) (length_in (slice_get fs f))
numbers_in h [] [] f t e = absurd e
numbers_in h [] (x ∷ fs) f t e = absurd t
numbers_in h (s ∷ ss) [] f t e = absurd t
numbers_in h (s ∷ ss) (x ∷ fs) zero t e = many_slot h s x.ty x.length t.0 e.0 e.1
numbers_in h (s ∷ ss) (x ∷ fs) (suc f) t e = numbers_in h ss fs f t.1 e

numbers_of : (h : List Object) (k : Option PlainClass) (ss : List Slot) (f : ℕ) → ObjectTyped h k ss → IsArray (slice_get (fields_of k) f) type.Long → Numbers h (slice_get ss f) (length_in (slice_get (fields_of k) f))
numbers_of h None ss f t e = absurd t
numbers_of h (Some k) ss f t e = numbers_in h ss k.fields f t e

item_long : (h : List Object) (ds : List Datum) (i : ℕ) → AllHaveType h ds type.Long → i < length ds → (z : ℤ) × (value_at ds i ≡ Long z)
item_long h [] i t l = absurd (omega (arith, l))
item_long h (d ∷ ds) zero t l = let z = is_long h d t.0 in (z.0, z.1)
item_long h (d ∷ ds) (suc i) t l = item_long h ds i t.1 (omega (arith, l))

values_long : (h : List Object) (ls : List Datum) (tys : List ValueType) → ValuesTyped h ls tys → length ls ≡ length tys
values_long h [] [] t = refl
values_long h [] (ty ∷ tys) t = absurd t
values_long h (x ∷ ls) [] t = absurd t
values_long h (x ∷ ls) (ty ∷ tys) t = let e = values_long h ls tys t.1 in omega (arith, e)

there_below : (tys : List ValueType) (i : ℕ) (ty : ValueType) → slice_get tys i ≡ Some ty → i < length tys
there_below [] i ty e = cc
there_below (x ∷ tys) zero ty e = omega arith
there_below (x ∷ tys) (suc i) ty e = let l = there_below tys i ty e in omega (arith, l)

-- Sections

-- how the whole ends, by how the sweep does
ended : (o : Object) (s : PlainSweep) (ls : List Datum) (len : ℕ) (t : Table) (from to : ℤ) (d : Datum) (k : ℕ) (f : Flow Section) → Sweeps s ls o.slots [] len t from to (λ z. d) k f → Ends o s len t from to d (sweep_cost len from to) (suc k) (sectioned o.class (suc k) (and_on f (λ ls q k. goes_on ls q k)))
ended o s ls len t from to d k _ (sweeps c n price within) =
    let steps : suc k - (k - n) ≡ 1 + n = omega (arith, within) in
    subst (λ z. Ends o s len t from to d (sweep_cost len from to) (suc k) (done (record { object = record { class = o.class; slots = with_items o.slots s.field.field (swept t from to d) len }; listed = []; steps = z }))) (sym steps) (completes n price (omega (arith, within)))
ended o s ls len t from to d k f (plain.fails _ stays short) = fails _ (gone f stays) (λ n e. let l = short n e in omega (arith, l))
  where
    gone : (f : Flow Section) → ¬ GoesOn f → ¬ IsDone (sectioned o.class (suc k) (and_on f (λ ls q k. goes_on ls q k)))
    gone (goes_on ls q k) n d = n tt
    gone (gives_back v q k) n d = d
    gone (stops e q) n d = d
    gone (runs_out q) n d = d

module _ (p : PlainProgram) (h : List Object) (r : ℕ) (o : Object) (op : OpId) (m : PlainMethod) (there : slice_get p.ops op.0 ≡ Some m) (typed : OperationTyped p m) (object : IsTypedObject p h m.class o)
    (arguments : List Datum) (given : ValuesTyped h arguments (parameters_of m))
    (s : PlainSweep) (own_line : ℕ) (site : LoopId) (at_line : ℕ) (next body : Statement) (counts : Counts s.counter next) (alone : AddsAlone s.counter s.field s.addend s.minus body) where
  abbrev loop : Statement
  loop = for_loop own_line site Declares (put_local at_line s.counter Put s.from) (binary Less (local s.counter) s.to) next body

  abbrev ls : List Datum
  ls = locals_of (Some m) arguments

  module _ (is : IsSweep s loop) (alone_body : m.body.statements ≡ statement_and loop no_statements) (sums : AreSums (all_but s.counter.0) s) where
    body_typed : StatementTyped p (scope_of m) loop
    body_typed = (subst (StatementsTyped p (scope_of m)) alone_body typed.method.body).0

    parts : SweepTyped p (scope_of m) s
    parts = sweep_typed p (scope_of m) s loop (shown own_line site at_line next body counts alone) body_typed

    locals_typed : ValuesTyped h ls m.body.locals
    locals_typed = frame_typed h arguments m.params m.body.locals given

    value_long : (e : Expression) → Summed (all_but s.counter.0) e → ExpressionTyped p (scope_of m) e type.Long → (z : ℤ) × (sum_value o.slots ls e ≡ Long z) × FitsSigned w64 z
    value_long e sum t = is_long h (sum_value o.slots ls e) (sum_long p h m o.slots ls object.slots locals_typed s.counter.0 e sum t)

    at_class : (P : Option FieldInfo → Type 0) → P (field_info p s.field) → P (slice_get (fields_of (slice_get p.classes m.class.0)) s.field.field)
    at_class P i = subst (λ c. P (slice_get (fields_of (slice_get p.classes c.0)) s.field.field)) (sym (class_same m.class s.field.class parts.part.target.1)) i

    numbers : Numbers h (slice_get o.slots s.field.field) (length_in (slice_get (fields_of (slice_get p.classes m.class.0)) s.field.field))
    numbers = numbers_of h (slice_get p.classes m.class.0) o.slots s.field.field object.slots (at_class (λ i. IsArray i type.Long) parts.part.array)

    long_is : length_in (field_info p s.field) ≡ Some (length numbers.items)
    long_is = sym (at_class (λ i. length_in i ≡ length_in (field_info p s.field)) refl) ∙ numbers.long

    first : (z : ℤ) × (sum_value o.slots ls s.from ≡ Long z) × FitsSigned w64 z
    first = value_long s.from (sum_summed (all_but s.counter.0) s.from sums.0) parts.from

    last : (z : ℤ) × (sum_value o.slots ls s.to ≡ Long z) × FitsSigned w64 z
    last = value_long s.to (sum_summed (all_but s.counter.0) s.to sums.1) parts.to

    more : (z : ℤ) × (sum_value o.slots ls s.addend ≡ Long z) × FitsSigned w64 z
    more = value_long s.addend (sum_summed (all_but s.counter.0) s.addend sums.2) parts.part.addend

    abbrev table : Table
    table = table_of numbers.items

    slot_is : slice_get o.slots s.field.field ≡ Some (Many (items_from table 0 (length numbers.items)))
    slot_is = numbers.slot ∙ ap (λ ds. Some (Many ds)) (sym (table_is numbers.items table 0 (λ i. ap (value_at numbers.items) (let z : 0 + i ≡ i = omega arith in z))))

    sweeping : Sweeping p o ls s
    sweeping = record { len = length numbers.items; table = table; from = first.0; to = last.0; addend = more.0; length_is = long_is; slot = slot_is; from_is = first.1; to_is = last.1; addend_is = more.1 }

    stands : Stands s ls o.slots (length numbers.items) table first.0 last.0 more.0
    stands = record {
      slot = slot_is;
      longs = λ i l. item_long h numbers.items i numbers.typed l;
      counter = (let long = values_long h ls m.body.locals locals_typed in let below = there_below m.body.locals s.counter.0 body_typed.0.0 body_typed.0.1 in omega (arith, long, below));
      sums = sums;
      from_is = first.1;
      to_is = last.1;
      addend_is = more.1;
      to_fits = last.2;
    }

    abbrev Ended : ℕ → Sectioned → Type 0
    Ended k r = Ends o s (length numbers.items) table first.0 last.0 (added s.minus (Long more.0)) (sweep_cost_of (length_in (field_info p s.field)) (Long first.0) (Long last.0)) k r

    run_with : Option PlainMethod → Statements → ℕ → Sectioned
    run_with f xs k = sectioned o.class k (with (take_step k) (section_start o.slots) (λ _ k. exec_all (section_parts p h (Ref r)) (locals_of f arguments) (section_start o.slots) xs k))

    section_is : (k : ℕ) → section p h r o op arguments k ≡ run_with (Some m) (statement_and loop no_statements) k
    unfolding run_with
    section_is k = ap (λ f. sectioned o.class k (with (take_step k) (section_start o.slots) (λ _ k. exec_all (section_parts p h (Ref r)) (locals_of f arguments) (section_start o.slots) (body_of f) k))) there ∙ ap (λ xs. run_with (Some m) xs k) alone_body

    price_is : sweep_cost_of (length_in (field_info p s.field)) (Long first.0) (Long last.0) ≡ sweep_cost (length numbers.items) first.0 last.0
    price_is = ap (λ l. sweep_cost_of l (Long first.0) (Long last.0)) long_is

    ends_at : (k : ℕ) → Ended k (run_with (Some m) (statement_and loop no_statements) k)
    unfolding run_with
    ends_at zero = fails sections.over (λ e. e) (λ n e. omega arith)
    ends_at (suc k) =
        subst (λ c. Ends o s (length numbers.items) table first.0 last.0 (added s.minus (Long more.0)) c (suc k) (sectioned o.class (suc k) (and_on (exec (section_parts p h (Ref r)) own_line ls (section_start o.slots) loop k) (λ ls q k. goes_on ls q k)))) (sym price_is)
        (ended o s ls (length numbers.items) table first.0 last.0 (added s.minus (Long more.0)) k _ (sweeps_are_swept p h (Ref r) own_line s loop is ls o.slots [] (length numbers.items) table first.0 last.0 more.0 stands k))

    ends : (k : ℕ) → Ended k (section p h r o op arguments k)
    ends k = subst (Ended k) (sym (section_is k)) (ends_at k)

by_form : (p : PlainProgram) (h : List Object) (r : ℕ) (o : Object) (op : OpId) (m : PlainMethod) → slice_get p.ops op.0 ≡ Some m → OperationTyped p m → IsTypedObject p h m.class o →
    (arguments : List Datum) → ValuesTyped h arguments (parameters_of m) → (s : PlainSweep) (loop : Statement) → Shown s loop → m.body.statements ≡ statement_and loop no_statements → IsSweep s loop → AreSums (all_but s.counter.0) s →
    (w : Sweeping p o (locals_of (Some m) arguments) s) × ((k : ℕ) → Ends o s w.len w.table w.from w.to (added s.minus (Long w.addend)) (sweep_cost_of (length_in (field_info p s.field)) (Long w.from) (Long w.to)) k (section p h r o op arguments k))
unfolding sweeping
by_form p h r o op m there typed object arguments given s _ (shown own_line site at_line next body counts alone) e is sums =
    (sweeping p h r o op m there typed object arguments given s own_line site at_line next body counts alone is e sums, λ k. ends p h r o op m there typed object arguments given s own_line site at_line next body counts alone is e sums k)

pub sections_of_sweeps : SectionsOfSweeps
sections_of_sweeps p h r o op m there typed object arguments given s loop e is sums = by_form p h r o op m there typed object arguments given s loop (shown_of s loop is) e is sums

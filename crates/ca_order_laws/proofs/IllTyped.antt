-- A worked example of what typed programs are for: one that isn't typed, where all other premises of the laws hold, has
-- complete runs with two ends.
use Rattle.std.proofs.Common.{◌≡◌, ℕ, zero, suc, ◌-◌, List, [], ◌∷◌, ◌++◌, None, refl, ap, ap₂, sym, ◌∙◌, arith, codes}
use Rattle.std.specs.Prelude.{pos, length, Contains, FitsSigned}
use Rattle.std.specs.Int.{int_wrap, w64}
use Rattle.std.proofs.lemmas.Int.{ints}
use Rattle.ca_lists.proofs.Members.{has_nothing}
use Rattle.ca_tree.specs.declared.tree.AssignOp.TheVariants.{Add, Mul}
use Rattle.ca_tree.specs.declared.tree.BinaryOp.TheVariants.{Equal}
use Rattle.ca_program.specs.declared.program.ValueType.TheVariants.{Long, Pointer}
use Rattle.ca_program.specs.declared.program.ClassId.{ClassId}
use Rattle.ca_program.specs.declared.program.FieldId.{FieldId}
use Rattle.ca_program.specs.declared.program.FunctionId.{FunctionId}
use Rattle.ca_program.specs.declared.program.OpId.{OpId}
use Rattle.ca_program.specs.declared.program.ValueType.{ValueType}
use Rattle.ca_program.specs.Plain.{PlainProgram, PlainMethod, null, this, local, binary, number, no_expressions, expression_and, Statement, Statements, block, put_field, invoke, if_else, no_statements, statement_and}
use Rattle.ca_model.specs.declared.value.Value.{Value as Datum}
use Rattle.ca_model.specs.declared.value.Value.TheVariants.{Long as Number, Bool as Truth, Null, Ref}
use Rattle.ca_model.specs.declared.value.Slot.TheVariants.{One}
use Rattle.ca_model.specs.declared.value.Object.{Object}
use Rattle.ca_meaning.specs.Expressions.{Invocation, invocation}
use Rattle.ca_meaning.specs.Flows.{goes_on}
use Rattle.ca_meaning.specs.Serial.{fresh, serial_ops}
use Rattle.ca_meaning.specs.Sections.{Outcome, done, section}
use Rattle.ca_meaning.specs.WellTyped.{WellTyped, AllWellTyped}
use Rattle.ca_meaning.specs.Multisets.{weight, SameItems}
use Rattle.ca_meaning.specs.Commuting.{joined, OrderCompletes, IsComplete, Commutes}
use Rattle.ca_meaning.specs.ProgramTyped.{ExpressionsTyped, OperationTyped, StatementTyped, ProgramTyped, scope_of}
use Rattle.ca_parallel.specs.Bodies.{calls_of_all, functions_of_body, targets_of_all}
use Rattle.ca_parallel.specs.Extents.{Extent, operation_body, Invokes, root, called, Evaluates, by_operation, by_function, IsExtentOf}
use Rattle.ca_parallel.specs.Parallel.{Parallel}
use Rattle.ca_parallel.specs.Separable.{Separable}
use Rattle.ca_model.specs.Typed.{TypedHeap}
use Rattle.ca_order_laws.specs.Pending.{CompleteRun, runs, rests}
use Rattle.ca_order_laws.specs.Order.{AllInside}
use Rattle.ca_order_laws.proofs.Examples.{Three, the_first, the_second, the_third, three_of, of_three, first_of_two, second_of_two, two_of, one_of}

abbrev a_class : ClassId
a_class = record { 0 = 0 }

abbrev m_field : FieldId
m_field = record { class = a_class; field = 0 }

abbrev operation : ℕ → OpId
operation n = record { 0 = n }

abbrev method : List ValueType → Statements → PlainMethod
method tys ss = record { class = a_class; name = codes "m"; params = length tys; body = record { locals = tys; statements = ss }; result = None }

abbrev when_null : Statement → Statements
when_null s = statement_and (if_else 2 (binary Equal (local (record { 0 = 0 })) null) s (block 2 no_statements)) no_statements

abbrev call : ℕ → Statement
call n = invoke 1 this (operation n) (expression_and null no_expressions)

-- class A { public: long m;
--   void start() { b(nullptr); c(nullptr); }
--   void b(long p) { if (p == nullptr) m += 1; }
--   void c(long p) { if (p == nullptr) m *= 2; } };
abbrev program : PlainProgram
program = record {
  classes = record { name = codes "A"; fields = record { name = codes "m"; ty = Long; length = None } ∷ [] } ∷ [];
  ops = method [] (statement_and (call 1) (statement_and (call 2) no_statements))
      ∷ method (Long ∷ []) (when_null (put_field 2 m_field Add (number (pos 1))))
      ∷ method (Long ∷ []) (when_null (put_field 3 m_field Mul (number (pos 2))))
      ∷ [];
  functions = [];
  main = record { locals = []; statements = no_statements };
}

abbrev whole : Extent
whole = record { ops = operation 0 ∷ operation 1 ∷ operation 2 ∷ []; functions = []; written = m_field ∷ [] }

abbrev lists : ℕ → ℕ → List Invocation
lists r zero = invocation r (operation 1) (Null ∷ []) ∷ invocation r (operation 2) (Null ∷ []) ∷ []
lists r (suc n) = []

abbrev left : Object → List Invocation → Outcome
left o is = record { object = record { class = o.class; slots = o.slots }; listed = is; steps = 1 }

one_step : (k : ℕ) → suc k - k ≡ 1
one_step k = omega arith

-- with typed arguments an operation leaves its object as it is
leaves : (h : List Object) (r n : ℕ) (o : Object) (xs : List Datum) → WellTyped program h (invocation r (operation n) xs) → (k : ℕ) → section program h r o (operation n) xs (suc k) ≡ done (left o (lists r n))
leaves h r zero o [] t k = ap (λ s. done (record { object = (left o []).object; listed = lists r zero; steps = s })) (one_step k)
leaves h r zero o (x ∷ xs) t k = absurd t.1
leaves h r (suc zero) o (Number x ∷ []) t k = ap (λ s. done (record { object = (left o []).object; listed = []; steps = s })) (one_step k)
leaves h r (suc (suc zero)) o (Number x ∷ []) t k = ap (λ s. done (record { object = (left o []).object; listed = []; steps = s })) (one_step k)
leaves h r (suc (suc (suc n))) o xs t k = absurd t
leaves h r (suc zero) o [] t k = absurd t.1
leaves h r (suc (suc zero)) o [] t k = absurd t.1
leaves h r (suc zero) o (Truth b ∷ xs) t k = absurd t.1.0
leaves h r (suc zero) o (Null ∷ xs) t k = absurd t.1.0
leaves h r (suc zero) o (Ref b ∷ xs) t k = absurd t.1.0
leaves h r (suc (suc zero)) o (Truth b ∷ xs) t k = absurd t.1.0
leaves h r (suc (suc zero)) o (Null ∷ xs) t k = absurd t.1.0
leaves h r (suc (suc zero)) o (Ref b ∷ xs) t k = absurd t.1.0
leaves h r (suc zero) o (Number x ∷ y ∷ xs) t k = absurd t.1.1
leaves h r (suc (suc zero)) o (Number x ∷ y ∷ xs) t k = absurd t.1.1

abbrev object : ℕ → Object
object n = record { class = a_class; slots = One (Number (pos n)) ∷ [] }

fits : FitsSigned w64 (pos 1)
fits = omega (arith, ints)

-- from m = 1 the serial run of `start` leaves (1 + 1) * 2, and another order leaves 1 * 2 + 1
abbrev with_m : ℕ → List Object
with_m n = record { class = a_class; slots = One (Number (pos n)) ∷ [] } ∷ []

serially : serial_ops program (invocation 0 (operation 0) [] ∷ []) (fresh (with_m 1)) 3 ≡ goes_on [] (fresh (with_m 4)) 0
unfolding int_wrap
serially = refl

leaves_only : (h : List Object) (r n : ℕ) (o : Object) (xs : List Datum) → WellTyped program h (invocation r (operation n) xs) → (k : ℕ) (m : Outcome) → section program h r o (operation n) xs k ≡ done m → m ≡ left o (lists r n)
leaves_only h r n o xs t zero m e = absurd cc
leaves_only h r n o xs t (suc k) m e = let is : done (left o (lists r n)) ≡ done m = sym (leaves h r n o xs t k) ∙ e in cc

swap : (r a b : ℕ) → SameItems (lists r a ++ lists r b) (lists r b ++ lists r a)
swap r zero zero = record { weighed = λ f. refl }
swap r zero (suc b) = record { weighed = λ f. refl }
swap r (suc a) zero = record { weighed = λ f. refl }
swap r (suc a) (suc b) = record { weighed = λ f. refl }

abbrev both : Object → ℕ → ℕ → ℕ → Outcome
both o r a b = joined (left o (lists r a)) (left (left o []).object (lists r b))

both_leave : (h : List Object) (r a b : ℕ) (o : Object) (xs ys : List Datum) → WellTyped program h (invocation r (operation a) xs) → WellTyped program h (invocation r (operation b) ys) → (m : Outcome) → OrderCompletes program h r o (operation a) xs (operation b) ys m → m ≡ both o r a b
both_leave h r a b o xs ys tx ty m w =
    let one : w.0 ≡ left o (lists r a) = leaves_only h r a o xs tx w.2.0 w.0 w.2.1 in
    let two : w.1 ≡ left (left o []).object (lists r b) = leaves_only h r b w.0.object ys ty w.3.0 w.1 w.3.1 ∙ ap (λ (z : Outcome). left z.object (lists r b)) one in
    w.4 ∙ ap₂ joined one two

both_complete : (h : List Object) (r a b : ℕ) (o : Object) (xs ys : List Datum) → WellTyped program h (invocation r (operation a) xs) → WellTyped program h (invocation r (operation b) ys) → IsComplete program h r o (operation a) xs (operation b) ys
both_complete h r a b o xs ys tx ty = (both o r a b, (left o (lists r a), left (left o []).object (lists r b), (1, leaves h r a o xs tx 0), (1, leaves h r b (left o []).object ys ty 0), refl))

commutes : (fs : List FieldId) (a b : ℕ) → Commutes program fs (operation a) (operation b)
commutes fs a b c in_a in_b h th r xs ys tx ty o to agrees = record {
  complete = (λ _. both_complete h r b a o ys xs ty tx, λ _. both_complete h r a b o xs ys tx ty);
  same = λ m n w u.
      let i : m ≡ both o r a b = both_leave h r a b o xs ys tx ty m w in
      let j : n ≡ both o r b a = both_leave h r b a o ys xs ty tx n u in
      record {
        object = ap (λ (z : Outcome). z.object) i ∙ sym (ap (λ (z : Outcome). z.object) j);
        listed = record { weighed = λ f. ap (λ (z : Outcome). weight f z.listed) i ∙ (swap r a b).weighed f ∙ sym (ap (λ (z : Outcome). weight f z.listed) j) };
        steps = ap (λ (z : Outcome). z.steps) i ∙ sym (ap (λ (z : Outcome). z.steps) j);
      };
}

-- ---- its extent

abbrev IsMember : OpId → Type 0
IsMember a = Three (operation 0) (operation 1) (operation 2) a

abbrev from_start : List OpId
from_start = operation 0 ∷ []

callees : (a callee : OpId) → IsMember a → Contains (calls_of_all (operation_body program a)) callee → IsMember callee
callees _ callee the_first c = two_of (λ z. IsMember z) (operation 1) (operation 2) callee the_second the_third c
callees _ callee the_second c = absurd (has_nothing callee c)
callees _ callee the_third c = absurd (has_nothing callee c)

invoked : {a : OpId} → Invokes program from_start a → IsMember a
invoked (root {op} c) = one_of (λ z. IsMember z) (operation 0) op the_first c
invoked (called {op} {callee} i c) = callees op callee (invoked i) c

start_is_invoked : Invokes program from_start (operation 0)
start_is_invoked = root (zero, omega arith, refl)

invokes : (a : OpId) → IsMember a → Invokes program from_start a
invokes _ the_first = start_is_invoked
invokes _ the_second = called start_is_invoked (first_of_two (operation 1) (operation 2))
invokes _ the_third = called start_is_invoked (second_of_two (operation 1) (operation 2))

no_function : (a : OpId) (m : FunctionId) → IsMember a → ¬ Contains (functions_of_body (operation_body program a)) m
no_function _ m the_first c = has_nothing m c
no_function _ m the_second c = has_nothing m c
no_function _ m the_third c = has_nothing m c

none_evaluated : {m : FunctionId} → ¬ Evaluates program from_start m
none_evaluated (by_operation {op} {m} i c) = no_function op m (invoked i) c
none_evaluated (by_function e c) = none_evaluated e

targets : (a : OpId) (f : FieldId) → IsMember a → Contains (targets_of_all (operation_body program a)) f → Contains (m_field ∷ []) f
targets _ f the_first c = absurd (has_nothing f c)
targets _ f the_second c = c
targets _ f the_third c = c

whole_is : IsExtentOf program from_start whole
whole_is = record {
  ops = λ a. (λ c. invokes a (three_of (operation 0) (operation 1) (operation 2) a c), λ i. of_three (operation 0) (operation 1) (operation 2) a (invoked i));
  functions = λ m. (λ c. absurd (has_nothing m c), λ e. absurd (none_evaluated e));
  written = λ f. (λ c. record { op = operation 1; invoked = invokes (operation 1) the_second; target = c }, λ w. targets w.op f (invoked w.invoked) w.target);
}

separable_at : (a : OpId) → IsMember a → Separable program whole.written a
separable_at _ the_first = ((tt, (tt, tt)), ((tt, (tt, tt)), tt))
separable_at _ the_second = (((tt, tt, tt), (tt, tt), tt), tt)
separable_at _ the_third = (((tt, tt, tt), (tt, tt), tt), tt)

parallel : Parallel program whole
parallel = record {
  separable = λ a c. separable_at a (three_of (operation 0) (operation 1) (operation 2) a c);
  commute = λ a b in_a in_b. commutes whole.written a.0 b.0;
}

-- the heap is typed, and `start` is well typed in it
typed : TypedHeap program (with_m 1)
typed = ((fits, tt), tt)

well_typed : AllWellTyped program (with_m 1) (invocation 0 (operation 0) [] ∷ [])
well_typed = ((refl, tt), tt)

inside : AllInside whole (invocation 0 (operation 0) [] ∷ [])
inside = λ i c. one_of (λ z. Contains whole.ops z.op) (invocation 0 (operation 0) []) i (of_three (operation 0) (operation 1) (operation 2) (operation 0) the_first) c

-- but `start` hands a pointer on as a number
not_typed : ¬ ProgramTyped program
not_typed t =
    let start : OperationTyped program (method [] (statement_and (call 1) (statement_and (call 2) no_statements))) = t.ops 0 _ refl in
    hands_on start.method.body.0
  where
    hands_on : ¬ StatementTyped program (scope_of (method [] (statement_and (call 1) (statement_and (call 2) no_statements)))) (call 1)
    hands_on b = differ b.1 b.3.1 b.5
      where
        differ : (tys : List ValueType) → Long ∷ [] ≡ tys → ExpressionsTyped program (scope_of (method [] (statement_and (call 1) (statement_and (call 2) no_statements)))) (expression_and null no_expressions) tys → ⊥
        differ tys e t = let same : t.0 ≡ Long = (let q : Long ∷ [] ≡ t.0 ∷ t.1 = e ∙ t.2 in cc) in let pointer : Pointer t.3.0 ≡ Long = sym t.3.1 ∙ same in cc

-- a complete run of the pending machine that ends elsewhere
elsewhere : CompleteRun program (with_m 1) (with_m 1) (invocation 0 (operation 0) [] ∷ []) (with_m 3) 3
unfolding int_wrap
elsewhere = record {
  order = invocation 0 (operation 0) [] ∷ invocation 0 (operation 2) (Null ∷ []) ∷ invocation 0 (operation 1) (Null ∷ []) ∷ [];
  run = runs (invocation 0 (operation 0) []) _ (with_m 1) _ [] (object 1) (record { object = object 1; listed = lists 0 0; steps = 1 }) 2 (record { weighed = λ f. refl }) refl (1, refl)
      (runs (invocation 0 (operation 2) (Null ∷ [])) _ (with_m 1) _ (invocation 0 (operation 1) (Null ∷ []) ∷ []) (object 1) (record { object = object 2; listed = []; steps = 1 }) 1 (record { weighed = λ f. omega arith }) refl (1, refl)
      (runs (invocation 0 (operation 1) (Null ∷ [])) _ (with_m 2) _ [] (object 2) (record { object = object 3; listed = []; steps = 1 }) 0 (record { weighed = λ f. refl }) refl (1, refl)
      (rests [] (record { weighed = λ f. refl }))));
}

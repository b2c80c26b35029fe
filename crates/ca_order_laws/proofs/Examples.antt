-- Worked examples: an extent of three operations that run in two orders, and two calls that don't commute.
use Rattle.std.proofs.Common.{◌≡◌, ◌≢◌, ◌<◌, ℕ, zero, suc, List, [], ◌∷◌, Some, None, refl, ap, sym, subst, ◌∙◌, arith, codes, pos}
use Rattle.std.proofs.lemmas.Int.{ints}
use Rattle.std.specs.Prelude.{Contains, FitsSigned, slice_get}
use Rattle.std.specs.Int.{w64, int_wrap}
use Rattle.ca_lists.proofs.Members.{has_nothing}
use Rattle.ca_tree.specs.declared.tree.AssignOp.TheVariants.{Put, Add}
use Rattle.ca_tree.specs.declared.tree.BinaryOp.TheVariants.{Less}
use Rattle.ca_program.specs.declared.program.ClassId.{ClassId}
use Rattle.ca_program.specs.declared.program.FieldId.{FieldId}
use Rattle.ca_program.specs.declared.program.FunctionId.{FunctionId}
use Rattle.ca_program.specs.declared.program.OpId.{OpId}
use Rattle.ca_program.specs.declared.program.ValueType.TheVariants.{Long as LongType, Pointer}
use Rattle.ca_program.specs.declared.program.LocalId.{LocalId}
use Rattle.ca_program.specs.declared.program.FirstPart.TheVariants.{Declares}
use Rattle.ca_program.specs.Plain.{PlainProgram, PlainMethod, number, local, own, binary, no_expressions, Statement, Statements, put_local, put_field, invoke, for_loop, no_statements, statement_and}
use Rattle.ca_model.specs.declared.value.Value.{Value as Datum}
use Rattle.ca_model.specs.declared.value.Value.TheVariants.{Long, Null, Ref}
use Rattle.ca_model.specs.declared.value.Slot.{Slot}
use Rattle.ca_model.specs.declared.value.Slot.TheVariants.{One}
use Rattle.ca_model.specs.declared.value.Object.{Object}
use Rattle.ca_model.specs.Typed.{TypedHeap}
use Rattle.ca_meaning.specs.Expressions.{Invocation, invocation}
use Rattle.ca_meaning.specs.Flows.{goes_on, exec}
use Rattle.ca_meaning.specs.Serial.{fresh, serial_parts}
use Rattle.ca_meaning.specs.Sections.{Outcome, Completes, loop_section}
use Rattle.ca_meaning.specs.Multisets.{weight, SameItems}
use Rattle.ca_meaning.specs.WellTyped.{ValuesTyped, WellTyped}
use Rattle.ca_meaning.specs.Commuting.{joined, OrderCompletes, SameOutcome, CommutesOn, Commutes}
use Rattle.ca_meaning.specs.ProgramTyped.{Scope, StatementTyped, OperationTyped, ProgramTyped}
use Rattle.ca_parallel.specs.Bodies.{calls_of_all, functions_of_body, targets_of_all}
use Rattle.ca_parallel.specs.Calls.{RunsTo}
use Rattle.ca_parallel.specs.Extents.{operation_body, Invokes, root, called, Evaluates, by_operation, by_function, Writes, Extent, IsExtentOf}
use Rattle.ca_parallel.specs.Separable.{Separable}
use Rattle.ca_parallel.specs.Parallel.{Parallel}
use Rattle.ca_order_laws.specs.Order.{then_looped}
use Rattle.ca_order_laws.specs.Pending.{rests, runs, CompleteRun}
use Rattle.ca_order_laws.proofs.Sections.{leaves_one}
use Rattle.ca_order_laws.proofs.SerialOrder.{depth_first}
use Rattle.ca_order_laws.proofs.Loops.{loop_then_list}

-- ---- one operation calls two

-- class Left { public: long a; void mark() { a = 1; } };
-- class Right { public: long b; void mark() { b = 2; } };
-- class Top { public: Left *l; Right *r; void go() { l->mark(); r->mark(); } };
abbrev top : ClassId
top = record { 0 = 0 }

abbrev left : ClassId
left = record { 0 = 1 }

abbrev right : ClassId
right = record { 0 = 2 }

abbrev l : FieldId
l = record { class = top; field = 0 }

abbrev r : FieldId
r = record { class = top; field = 1 }

abbrev a : FieldId
a = record { class = left; field = 0 }

abbrev b : FieldId
b = record { class = right; field = 0 }

abbrev go : OpId
go = record { 0 = 0 }

abbrev mark_left : OpId
mark_left = record { 0 = 1 }

abbrev mark_right : OpId
mark_right = record { 0 = 2 }

abbrev method : ClassId → Statements → PlainMethod
method c ss = record { class = c; name = codes "m"; params = 0; body = record { locals = []; statements = ss }; result = None }

abbrev going : PlainMethod
going = method top (statement_and (invoke 1 (own l) mark_left no_expressions) (statement_and (invoke 2 (own r) mark_right no_expressions) no_statements))

abbrev marking : ClassId → FieldId → ℕ → PlainMethod
marking c f n = method c (statement_and (put_field 3 f Put (number (pos n))) no_statements)

abbrev three : PlainProgram
three = record {
  classes = record { name = codes "Top"; fields = record { name = codes "l"; ty = Pointer left; length = None } ∷ record { name = codes "r"; ty = Pointer right; length = None } ∷ [] }
      ∷ record { name = codes "Left"; fields = record { name = codes "a"; ty = LongType; length = None } ∷ [] }
      ∷ record { name = codes "Right"; fields = record { name = codes "b"; ty = LongType; length = None } ∷ [] }
      ∷ [];
  ops = going ∷ marking left a 1 ∷ marking right b 2 ∷ [];
  functions = [];
  main = record { locals = []; statements = no_statements };
}

fits : (n : ℕ) → n < 3 → FitsSigned w64 (pos n)
fits n few = omega (arith, ints)

three_is_typed : ProgramTyped three
three_is_typed = record {
  ops = ops;
  functions = λ n m e. absurd cc;
  main = tt;
}
  where
    of : (m q : PlainMethod) → Some q ≡ Some m → OperationTyped three q → OperationTyped three m
    of m q e t = subst (λ z. OperationTyped three z) (let z : q ≡ m = cc in z) t

    ops : (n : ℕ) (m : PlainMethod) → slice_get three.ops n ≡ Some m → OperationTyped three m
    ops zero m e = of m going e (record {
      method = record { class = (_, refl); parameters = omega arith; body = ((left, [], refl, (refl, refl), (refl, (refl, refl)), refl), ((right, [], refl, (refl, refl), (refl, (refl, refl)), refl), tt)) };
      result = refl;
    })
    ops (suc zero) m e = of m (marking left a 1) e (record {
      method = record { class = (_, refl); parameters = omega arith; body = ((LongType, (refl, refl), (refl, refl), (tt, (refl, fits 1 (omega arith)))), tt) };
      result = refl;
    })
    ops (suc (suc zero)) m e = of m (marking right b 2) e (record {
      method = record { class = (_, refl); parameters = omega arith; body = ((LongType, (refl, refl), (refl, refl), (tt, (refl, fits 2 (omega arith)))), tt) };
      result = refl;
    })
    ops (suc (suc (suc n))) m e = absurd cc

-- ---- its extent

pub data Three {A : Type 0} (x y z : A) : A → Type 0 where
  the_first : Three x y z x
  the_second : Three x y z y
  the_third : Three x y z z

pub three_of : {A : Type 0} (x y z w : A) → Contains (x ∷ y ∷ z ∷ []) w → Three x y z w
three_of x y z w (zero, below, is) = subst (λ v. Three x y z v) is the_first
three_of x y z w (suc zero, below, is) = subst (λ v. Three x y z v) is the_second
three_of x y z w (suc (suc zero), below, is) = subst (λ v. Three x y z v) is the_third
three_of x y z w (suc (suc (suc k)), below, is) = absurd (omega arith)

pub of_three : {A : Type 0} (x y z w : A) → Three x y z w → Contains (x ∷ y ∷ z ∷ []) w
of_three x y z _ the_first = (zero, omega arith, refl)
of_three x y z _ the_second = (suc zero, omega arith, refl)
of_three x y z _ the_third = (suc (suc zero), omega arith, refl)

pub first_of_two : {A : Type 0} (x y : A) → Contains (x ∷ y ∷ []) x
first_of_two x y = (zero, omega arith, refl)

pub second_of_two : {A : Type 0} (x y : A) → Contains (x ∷ y ∷ []) y
second_of_two x y = (suc zero, omega arith, refl)

pub two_of : {A : Type 0} (P : A → Type 0) (x y z : A) → P x → P y → Contains (x ∷ y ∷ []) z → P z
two_of P x y z p q (zero, below, is) = subst P is p
two_of P x y z p q (suc zero, below, is) = subst P is q
two_of P x y z p q (suc (suc k), below, is) = absurd (omega arith)

pub one_of : {A : Type 0} (P : A → Type 0) (x z : A) → P x → Contains (x ∷ []) z → P z
one_of P x z p (zero, below, is) = subst P is p
one_of P x z p (suc k, below, is) = absurd (omega arith)

abbrev from_go : List OpId
from_go = go ∷ []

abbrev reached : Extent
reached = record { ops = go ∷ mark_left ∷ mark_right ∷ []; functions = []; written = a ∷ b ∷ [] }

abbrev IsReached : OpId → Type 0
IsReached op = Three go mark_left mark_right op

callees : (op callee : OpId) → IsReached op → Contains (calls_of_all (operation_body three op)) callee → IsReached callee
callees _ callee the_first c = two_of (λ z. IsReached z) mark_left mark_right callee the_second the_third c
callees _ callee the_second c = absurd (has_nothing callee c)
callees _ callee the_third c = absurd (has_nothing callee c)

invoked : {op : OpId} → Invokes three from_go op → IsReached op
invoked (root {op} c) = one_of (λ z. IsReached z) go op the_first c
invoked (called {op} {callee} i c) = callees op callee (invoked i) c

go_runs : Invokes three from_go go
go_runs = root (zero, omega arith, refl)

invokes : (op : OpId) → IsReached op → Invokes three from_go op
invokes _ the_first = go_runs
invokes _ the_second = called go_runs (first_of_two mark_left mark_right)
invokes _ the_third = called go_runs (second_of_two mark_left mark_right)

no_function : (op : OpId) (m : FunctionId) → IsReached op → ¬ Contains (functions_of_body (operation_body three op)) m
no_function _ m the_first c = has_nothing m c
no_function _ m the_second c = has_nothing m c
no_function _ m the_third c = has_nothing m c

none_evaluated : {m : FunctionId} → ¬ Evaluates three from_go m
none_evaluated (by_operation {op} {m} i c) = no_function op m (invoked i) c
none_evaluated (by_function e c) = none_evaluated e

targets : (op : OpId) (f : FieldId) → IsReached op → Contains (targets_of_all (operation_body three op)) f → Contains (a ∷ b ∷ []) f
targets _ f the_first c = absurd (has_nothing f c)
targets _ f the_second c = one_of (λ z. Contains (a ∷ b ∷ []) z) a f (first_of_two a b) c
targets _ f the_third c = one_of (λ z. Contains (a ∷ b ∷ []) z) b f (second_of_two a b) c

reached_is : IsExtentOf three from_go reached
reached_is = record {
  ops = λ op. (λ c. invokes op (three_of go mark_left mark_right op c), λ i. of_three go mark_left mark_right op (invoked i));
  functions = λ m. (λ c. absurd (has_nothing m c), λ e. absurd (none_evaluated e));
  written = λ f. (
    λ c. two_of (λ z. Writes three from_go z) a b f
        (record { op = mark_left; invoked = invokes mark_left the_second; target = (zero, omega arith, refl) })
        (record { op = mark_right; invoked = invokes mark_right the_third; target = (zero, omega arith, refl) }) c,
    λ w. targets w.op f (invoked w.invoked) w.target,
  );
}

-- ---- it is parallel

r_is_constant : ¬ Contains (a ∷ b ∷ []) r
r_is_constant c = two_of (λ z. z ≢ r) a b r (λ e. let n : 1 ≡ 0 = ap (λ (f : FieldId). f.class.0) e in absurd (omega (arith, n))) (λ e. let n : 2 ≡ 0 = ap (λ (f : FieldId). f.class.0) e in absurd (omega (arith, n))) c refl

separate : (op : OpId) → IsReached op → Separable three reached.written op
separate _ the_first = ((tt, tt), ((r_is_constant, tt), tt))
separate _ the_second = ((tt, tt), tt)
separate _ the_third = ((tt, tt), tt)

-- an operation without parameters commutes with itself: both orders are one
no_arguments : (h : List Object) (vs : List Datum) → ValuesTyped h vs [] → vs ≡ []
no_arguments h [] t = refl
no_arguments h (v ∷ vs) t = absurd t

two_alike : (p : PlainProgram) (h : List Object) (n : ℕ) (o : Object) (op : OpId) (xs : List Datum) (m k : Outcome) → OrderCompletes p h n o op xs op xs m → OrderCompletes p h n o op xs op xs k → m ≡ k
two_alike p h n o op xs m k w u =
    let one : w.0 ≡ u.0 = leaves_one p h (invocation n op xs) o w.0 u.0 w.2 u.2 in
    let two : w.1 ≡ u.1 = leaves_one p h (invocation n op xs) u.0.object w.1 u.1 (subst (λ (q : Outcome). Completes p h n q.object op xs w.1) one w.3) u.3 in
    w.4 ∙ ap (λ q. joined q w.1) one ∙ ap (λ q. joined u.0 q) two ∙ sym u.4

same_order : (p : PlainProgram) (h : List Object) (n : ℕ) (o : Object) (op : OpId) (xs : List Datum) (m k : Outcome) → OrderCompletes p h n o op xs op xs m → OrderCompletes p h n o op xs op xs k → SameOutcome m k
same_order p h n o op xs m k w u =
    let e : m ≡ k = two_alike p h n o op xs m k w u in
    record { object = ap (λ (z : Outcome). z.object) e; listed = record { weighed = λ f. ap (λ (z : Outcome). weight f z.listed) e }; steps = ap (λ (z : Outcome). z.steps) e }

arguments_of : (h : List Object) (op : OpId) (n : ℕ) (vs : List Datum) → IsReached op → WellTyped three h (invocation n op vs) → vs ≡ []
arguments_of h _ n vs the_first t = no_arguments h vs t.1
arguments_of h _ n vs the_second t = no_arguments h vs t.1
arguments_of h _ n vs the_third t = no_arguments h vs t.1

abbrev Orders : List Object → ℕ → Object → OpId → List Datum → List Datum → Type 0
Orders h n o op xs ys = CommutesOn three h n o op xs op ys

with_itself : (op : OpId) → IsReached op → Commutes three reached.written op op
with_itself op at c in_a in_b h th n xs ys tx ty o to agrees =
    subst (λ z. Orders h n o op xs z) (arguments_of h op n xs at tx ∙ sym (arguments_of h op n ys at ty)) (record { complete = (λ z. z, λ z. z); same = λ m k w u. same_order three h n o op xs m k w u })

apart_classes : (c d e : ClassId) → c.0 ≢ d.0 → c ≡ e → d ≡ e → ⊥
apart_classes c d e ne p q = ne (ap (λ (z : ClassId). z.0) (p ∙ sym q))

commute : (x y : OpId) → IsReached x → IsReached y → Commutes three reached.written x y
commute _ _ the_first the_first = with_itself go the_first
commute _ _ the_second the_second = with_itself mark_left the_second
commute _ _ the_third the_third = with_itself mark_right the_third
commute _ _ the_first the_second = λ c p q. absurd (apart_classes top left c (λ e. absurd (omega (arith, e))) p q)
commute _ _ the_first the_third = λ c p q. absurd (apart_classes top right c (λ e. absurd (omega (arith, e))) p q)
commute _ _ the_second the_first = λ c p q. absurd (apart_classes left top c (λ e. absurd (omega (arith, e))) p q)
commute _ _ the_second the_third = λ c p q. absurd (apart_classes left right c (λ e. absurd (omega (arith, e))) p q)
commute _ _ the_third the_first = λ c p q. absurd (apart_classes right top c (λ e. absurd (omega (arith, e))) p q)
commute _ _ the_third the_second = λ c p q. absurd (apart_classes right left c (λ e. absurd (omega (arith, e))) p q)

reached_is_parallel : Parallel three reached
reached_is_parallel = record {
  separable = λ op c. separate op (three_of go mark_left mark_right op c);
  commute = λ x y cx cy. commute x y (three_of go mark_left mark_right x cx) (three_of go mark_left mark_right y cy);
}

-- ---- two orders, one end

abbrev root_object : Object
root_object = record { class = top; slots = One (Ref 1) ∷ One (Ref 2) ∷ [] }

abbrev with_value : ClassId → ℕ → Object
with_value c n = record { class = c; slots = One (Long (pos n)) ∷ [] }

abbrev before : List Object
before = root_object ∷ with_value left 0 ∷ with_value right 0 ∷ []

abbrev after : List Object
after = root_object ∷ with_value left 1 ∷ with_value right 2 ∷ []

abbrev first_call : Invocation
first_call = invocation 0 go []

abbrev left_call : Invocation
left_call = invocation 1 mark_left []

abbrev right_call : Invocation
right_call = invocation 2 mark_right []

abbrev done_with : Object → List Invocation → Outcome
done_with o is = record { object = o; listed = is; steps = 1 }

left_then_right : CompleteRun three before before (first_call ∷ []) after 3
left_then_right = record {
  order = first_call ∷ left_call ∷ right_call ∷ [];
  run = runs first_call (left_call ∷ right_call ∷ []) before (first_call ∷ []) [] root_object (done_with root_object (left_call ∷ right_call ∷ [])) 2 (record { weighed = λ f. refl }) refl (1, refl)
      (runs left_call (right_call ∷ []) before (left_call ∷ right_call ∷ []) (right_call ∷ []) (with_value left 0) (done_with (with_value left 1) []) 1 (record { weighed = λ f. refl }) refl (1, refl)
      (runs right_call [] (root_object ∷ with_value left 1 ∷ with_value right 0 ∷ []) (right_call ∷ []) [] (with_value right 0) (done_with (with_value right 2) []) 0 (record { weighed = λ f. refl }) refl (1, refl)
      (rests [] (record { weighed = λ f. refl }))));
}

right_then_left : CompleteRun three before before (first_call ∷ []) after 3
right_then_left = record {
  order = first_call ∷ right_call ∷ left_call ∷ [];
  run = runs first_call (right_call ∷ left_call ∷ []) before (first_call ∷ []) [] root_object (done_with root_object (left_call ∷ right_call ∷ [])) 2 (record { weighed = λ f. refl }) refl (1, refl)
      (runs right_call (left_call ∷ []) before (left_call ∷ right_call ∷ []) (left_call ∷ []) (with_value right 0) (done_with (with_value right 2) []) 1 (record { weighed = λ f. omega arith }) refl (1, refl)
      (runs left_call [] (root_object ∷ with_value left 0 ∷ with_value right 2 ∷ []) (left_call ∷ []) [] (with_value left 0) (done_with (with_value left 1) []) 0 (record { weighed = λ f. refl }) refl (1, refl)
      (rests [] (record { weighed = λ f. refl }))));
}

before_is_typed : TypedHeap three before
before_is_typed = ((refl, (refl, tt)), ((fits 0 (omega arith), tt), ((fits 0 (omega arith), tt), tt)))

-- so the serial run ends in that heap too, with as many steps
serial_ends_so : RunsTo three before (first_call ∷ []) 3 after 3
serial_ends_so = (depth_first three three_is_typed from_go reached reached_is reached_is_parallel before before_is_typed (first_call ∷ []) ((refl, tt), tt) (λ i c. one_of (λ z. Contains reached.ops z.op) first_call i (of_three go mark_left mark_right go the_first) c) 3 after 3).1 (omega arith, right_then_left)

-- ---- a loop of `main`, which has no receiver

abbrev held : LocalId
held = record { 0 = 0 }

abbrev counter : LocalId
counter = record { 0 = 1 }

-- for (long i = 0; i < 2; i += 1) held->mark();
abbrev marks : Statement
marks = for_loop 9 (record { 0 = 0 }) Declares (put_local 9 counter Put (number (pos 0))) (binary Less (local counter) (number (pos 2))) (put_local 9 counter Add (number (pos 1))) (invoke 9 (local held) mark_left no_expressions)

abbrev scope : Scope
scope = record { class = None; locals = Pointer left ∷ LongType ∷ []; result = None }

marks_is_typed : StatementTyped three scope marks
marks_is_typed = (
  (LongType, refl, (tt, (refl, fits 0 (omega arith)))),
  (LongType, (refl, refl), refl, (refl, fits 2 (omega arith))),
  (LongType, refl, (refl, (refl, fits 1 (omega arith)))),
  (left, [], refl, (refl, refl), refl, refl),
)

abbrev locals_at : ℕ → List Datum
locals_at n = Ref 1 ∷ Long (pos n) ∷ []

abbrev marked : List Object
marked = root_object ∷ with_value left 1 ∷ with_value right 0 ∷ []

runs_serially : exec (serial_parts three Null) 9 (locals_at 0) (fresh before) marks 4 ≡ goes_on (locals_at 2) (fresh marked) 0
unfolding int_wrap
runs_serially = refl

-- its calls, listed first, leave the same
runs_listed : then_looped three (fresh before) 4 (loop_section three before Null (locals_at 0) 9 marks 4) ≡ goes_on (locals_at 2) (fresh marked) 0
runs_listed =
    (loop_then_list three three_is_typed from_go reached reached_is marks (record { counter = counter; begins = refl; compares = refl; counts = (refl, refl); calls = tt })
    (λ op c. one_of (λ z. Contains reached.ops z) mark_left op (of_three go mark_left mark_right mark_left the_second) c) (tt, (tt, tt, tt), tt, (tt, tt))
    scope Null 9 (locals_at 0) (fresh before) marks_is_typed (record { heap = before_is_typed; receiver = tt }) (refl, (fits 0 (omega arith), tt)) 4 0 (locals_at 2) (fresh marked)).0 runs_serially

-- ---- two calls that don't commute have two ends

-- class A { public: long n; void set(long x) { n = x; } };
abbrev set : OpId
set = record { 0 = 0 }

abbrev n : FieldId
n = record { class = top; field = 0 }

abbrev setters : PlainProgram
setters = record {
  classes = record { name = codes "A"; fields = record { name = codes "n"; ty = LongType; length = None } ∷ [] } ∷ [];
  ops = record { class = top; name = codes "set"; params = 1; body = record { locals = LongType ∷ []; statements = statement_and (put_field 2 n Put (local (record { 0 = 0 }))) no_statements }; result = None } ∷ [];
  functions = [];
  main = record { locals = []; statements = no_statements };
}

abbrev set_to : ℕ → Invocation
set_to x = invocation 0 set (Long (pos x) ∷ [])

abbrev one_object : ℕ → List Object
one_object x = with_value top x ∷ []

in_order : (x y : ℕ) → SameItems (set_to 1 ∷ set_to 2 ∷ []) (set_to x ∷ set_to y ∷ []) → CompleteRun setters (one_object 0) (one_object 0) (set_to 1 ∷ set_to 2 ∷ []) (one_object y) 2
in_order x y same = record {
  order = set_to x ∷ set_to y ∷ [];
  run = runs (set_to x) (set_to y ∷ []) (one_object 0) (set_to 1 ∷ set_to 2 ∷ []) (set_to y ∷ []) (with_value top 0) (done_with (with_value top x) []) 1 same refl (1, refl)
      (runs (set_to y) [] (one_object x) (set_to y ∷ []) [] (with_value top x) (done_with (with_value top y) []) 0 (record { weighed = λ f. refl }) refl (1, refl)
      (rests [] (record { weighed = λ f. refl })));
}

ends_in_two : CompleteRun setters (one_object 0) (one_object 0) (set_to 1 ∷ set_to 2 ∷ []) (one_object 2) 2
ends_in_two = in_order 1 2 (record { weighed = λ f. refl })

ends_in_one : CompleteRun setters (one_object 0) (one_object 0) (set_to 1 ∷ set_to 2 ∷ []) (one_object 1) 2
ends_in_one = in_order 2 1 (record { weighed = λ f. omega arith })

abbrev n_of : List Slot → ℕ
n_of (One (Long (pos x)) ∷ []) = x
n_of other = 0

abbrev n_in : List Object → ℕ
n_in (o ∷ []) = n_of o.slots
n_in other = 0

they_differ : one_object 2 ≢ one_object 1
they_differ e = let same : 2 ≡ 1 = ap n_in e in absurd (omega (arith, same))

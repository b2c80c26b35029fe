-- Worked examples: a log with a loose entry, of an operation that only calls; and loose entries that aren't legal.
use Rattle.std.proofs.Common.{◌≡◌, ◌<◌, ℕ, zero, suc, List, [], ◌∷◌, Some, None, refl, ap, subst, arith, pos}
use Rattle.std.proofs.lemmas.Int.{ints}
use Rattle.std.specs.Prelude.{Contains, FitsSigned, slice_get}
use Rattle.std.specs.Int.{w64}
use Rattle.ca_lists.proofs.Members.{has_nothing, has_only}
use Rattle.ca_program.specs.declared.program.FieldId.{FieldId}
use Rattle.ca_program.specs.declared.program.FunctionId.{FunctionId}
use Rattle.ca_program.specs.declared.program.OpId.{OpId}
use Rattle.ca_program.specs.declared.program.ValueType.TheVariants.{Long as LongType}
use Rattle.ca_program.specs.Plain.{PlainMethod}
use Rattle.ca_model.specs.Typed.{TypedHeap}
use Rattle.ca_meaning.specs.Expressions.{Invocation, invocation}
use Rattle.ca_meaning.specs.ProgramTyped.{OperationTyped, ProgramTyped}
use Rattle.ca_parallel.specs.Bodies.{calls_of_all, functions_of_body, targets_of_all}
use Rattle.ca_parallel.specs.Extents.{operation_body, Invokes, root, called, Evaluates, by_operation, by_function, Writes, Extent, IsExtentOf}
use Rattle.ca_parallel.specs.Free.{IsFree}
use Rattle.ca_parallel.specs.Separable.{Separable}
use Rattle.ca_order_laws.specs.Pending.{CompleteRun}
use Rattle.ca_order_laws.proofs.Examples.{Three, the_first, the_second, the_third, three_of, of_three, one_of, two_of}
use Rattle.ca_logs.specs.declared.log.Stop.{Stop}
use Rattle.ca_logs.specs.declared.log.Stop.TheVariants.{Spent}
use Rattle.ca_logs.specs.declared.log.Entry.{Entry}
use Rattle.ca_logs.specs.declared.log.CellLog.{CellLog}
use Rattle.ca_logs.specs.Entries.{remembered}
use Rattle.ca_logs.specs.Legal.{none, and_on, all_ran, LegalCell, LegalLog}
use Rattle.ca_logs.specs.Loose.{LegalLoose, AllLoose, StopsLast}
use Rattle.ca_logs.specs.Balanced.{BalancedWith}
use Rattle.ca_logs.specs.LogOrder.{order_of}
use Rattle.ca_logs.specs.Laws.{AllowsLoose}
use Rattle.ca_logs.proofs.LogRuns.{log_to_run}
use Rattle.ca_logs.proofs.Examples.{node, other_field, state, go, end, two, going, ending, turning, calling_two, nodes, node_at, op_on, task_on, is_typed, the_item, before}

-- ---- the program is typed

fits : (n : ℕ) → n < 3 → FitsSigned w64 (pos n)
fits n few = omega (arith, ints)

nodes_are_typed : ProgramTyped nodes
nodes_are_typed = record { ops = ops; functions = λ n m e. absurd cc; main = tt }
  where
    of : (m q : PlainMethod) → Some q ≡ Some m → OperationTyped nodes q → OperationTyped nodes m
    of m q e t = subst (λ z. OperationTyped nodes z) (let z : q ≡ m = cc in z) t

    ops : (n : ℕ) (m : PlainMethod) → slice_get nodes.ops n ≡ Some m → OperationTyped nodes m
    ops zero m e = of m going e (record {
      method = record { class = (_, refl); parameters = omega arith; body = ((LongType, (refl, refl), (refl, refl), (tt, (refl, fits 1 (omega arith)))), ((node, [], refl, (refl, refl), (refl, (refl, refl)), refl), tt)) };
      result = refl;
    })
    ops (suc zero) m e = of m ending e (record {
      method = record { class = (_, refl); parameters = omega arith; body = ((LongType, (refl, refl), (refl, refl), (tt, (refl, fits 2 (omega arith)))), tt) };
      result = refl;
    })
    ops (suc (suc zero)) m e = of m turning e (record {
      method = record { class = (_, refl); parameters = omega arith; body = ((node, [], refl, (refl, refl), (refl, (refl, refl)), refl), tt) };
      result = refl;
    })
    ops (suc (suc (suc zero))) m e = of m calling_two e (record {
      method = record { class = (_, refl); parameters = omega arith; body = ((node, [], refl, (refl, refl), (refl, (refl, refl)), refl), ((node, [], refl, (refl, refl), (refl, (refl, refl)), refl), tt)) };
      result = refl;
    })
    ops (suc (suc (suc (suc n)))) m e = absurd cc

before_is_typed : TypedHeap nodes before
before_is_typed = ((refl, (fits 0 (omega arith), tt)), ((refl, (fits 0 (omega arith), tt)), tt))

-- ---- an extent: `go` and `two` call `end`, and `state` is written

abbrev from_both : List OpId
from_both = go ∷ two ∷ []

abbrev reached : Extent
reached = record { ops = go ∷ two ∷ end ∷ []; functions = []; written = state ∷ [] }

abbrev IsReached : OpId → Type 0
IsReached op = Three go two end op

callees : (op callee : OpId) → IsReached op → Contains (calls_of_all (operation_body nodes op)) callee → IsReached callee
callees _ callee the_first c = one_of (λ z. IsReached z) end callee the_third c
callees _ callee the_second c = two_of (λ z. IsReached z) end end callee the_third the_third c
callees _ callee the_third c = absurd (has_nothing callee c)

invoked : {op : OpId} → Invokes nodes from_both op → IsReached op
invoked (root {op} c) = two_of (λ z. IsReached z) go two op the_first the_second c
invoked (called {op} {callee} i c) = callees op callee (invoked i) c

go_runs : Invokes nodes from_both go
go_runs = root (zero, omega arith, refl)

two_runs : Invokes nodes from_both two
two_runs = root (suc zero, omega arith, refl)

invokes : (op : OpId) → IsReached op → Invokes nodes from_both op
invokes _ the_first = go_runs
invokes _ the_second = two_runs
invokes _ the_third = called go_runs (the_item end)

no_function : (op : OpId) (m : FunctionId) → IsReached op → ¬ Contains (functions_of_body (operation_body nodes op)) m
no_function _ m the_first c = has_nothing m c
no_function _ m the_second c = has_nothing m c
no_function _ m the_third c = has_nothing m c

none_evaluated : {m : FunctionId} → ¬ Evaluates nodes from_both m
none_evaluated (by_operation {op} {m} i c) = no_function op m (invoked i) c
none_evaluated (by_function e c) = none_evaluated e

targets : (op : OpId) (f : FieldId) → IsReached op → Contains (targets_of_all (operation_body nodes op)) f → Contains (state ∷ []) f
targets _ f the_first c = c
targets _ f the_second c = absurd (has_nothing f c)
targets _ f the_third c = c

reached_is : IsExtentOf nodes from_both reached
reached_is = record {
  ops = λ op. (λ c. invokes op (three_of go two end op c), λ i. of_three go two end op (invoked i));
  functions = λ m. (λ c. absurd (has_nothing m c), λ e. absurd (none_evaluated e));
  written = λ f. (
    λ c. one_of (λ z. Writes nodes from_both z) state f (record { op = end; invoked = invokes end the_third; target = the_item state }) c,
    λ w. targets w.op f (invoked w.invoked) w.target,
  );
}

other_is_constant : ¬ Contains (state ∷ []) other_field
other_is_constant c = let e : state ≡ other_field = has_only state other_field c in let n : 1 ≡ 0 = ap (λ (f : FieldId). f.field) e in absurd (omega (arith, n))

separate : (op : OpId) → IsReached op → Separable nodes reached.written op
separate _ the_first = ((tt, tt), ((tt, tt), tt))
separate _ the_second = ((tt, tt), ((other_is_constant, tt), tt))
separate _ the_third = ((tt, tt), tt)

each_separable : (op : OpId) → Contains reached.ops op → Separable nodes reached.written op
each_separable op c = separate op (three_of go two end op c)

-- ---- a node that only calls the other one, twice: its section is a loose entry

-- it accesses `other` alone
two_is_free : IsFree nodes reached.written two
two_is_free = record { untouched = λ f c. two_of (λ z. ¬ Contains reached.written z) other_field other_field f other_is_constant other_is_constant c }

end_is_not_free : ¬ IsFree nodes reached.written end
end_is_not_free x = x.untouched state (the_item state) (the_item state)

abbrev called_two : ℕ → Entry
called_two clock = record { task = task_on 0 two 0; clock = clock; steps = 1; invoked = op_on 1 end ∷ op_on 1 end ∷ []; stop = None }

abbrev ended_at : ℕ → Entry
ended_at clock = record { task = task_on 1 end 1; clock = clock; steps = 1; invoked = []; stop = None }

-- the caller's history has no entry
abbrev caller_log : CellLog
caller_log = record { opened = remembered (node_at 1 0); object = node_at 1 0; entries = [] }

abbrev called_log : CellLog
called_log = record { opened = remembered (node_at 0 0); object = node_at 0 2; entries = ended_at 2 ∷ ended_at 3 ∷ [] }

abbrev caller_and_called : List CellLog
caller_and_called = caller_log ∷ called_log ∷ []

abbrev one_loose : List (List Entry)
one_loose = (called_two 1 ∷ []) ∷ []

no_stop : (why : Stop) → None ≡ Some why → ⊥
no_stop why e = cc

called_two_legal : LegalLoose nodes reached before (called_two 1)
called_two_legal = record { free = two_is_free; clock = refl; ran = λ q. (refl, refl); steps = λ why e. absurd (no_stop why e); invoked = λ why e. absurd (no_stop why e) }

loose_legal : AllLoose nodes reached before one_loose
loose_legal = record { each = λ e c. one_of (λ (z : Entry). LegalLoose nodes reached before z) (called_two 1) e called_two_legal c }

histories_legal : LegalLog nodes before caller_and_called
histories_legal = record { each = each }
  where
    caller : LegalCell nodes before 0 caller_log
    caller = record {
      opened = is_typed before 0 1 0 refl refl (omega arith);
      object = is_typed before 0 1 0 refl refl (omega arith);
      ran = [];
      clock = 0;
      sections = none (node_at 1 0) 0;
      ends = all_ran refl;
    }

    ended : LegalCell nodes before 1 called_log
    ended = record {
      opened = is_typed before 1 0 0 refl refl (omega arith);
      object = is_typed before 1 0 2 refl refl (omega arith);
      ran = ended_at 2 ∷ ended_at 3 ∷ [];
      clock = 3;
      sections = and_on (node_at 0 0) 0 (ended_at 2) (node_at 0 2) (ended_at 3 ∷ []) (node_at 0 2) 3 (record { receiver = refl; clock = refl; stop = refl; section = (1, refl) })
          (and_on (node_at 0 2) 2 (ended_at 3) (node_at 0 2) [] (node_at 0 2) 3 (record { receiver = refl; clock = refl; stop = refl; section = (1, refl) })
          (none (node_at 0 2) 3));
      ends = all_ran refl;
    }

    each : (n : ℕ) (log : CellLog) → slice_get caller_and_called n ≡ Some log → LegalCell nodes before n log
    each zero log e = subst (λ l. LegalCell nodes before 0 l) (let z : caller_log ≡ log = cc in z) caller
    each (suc zero) log e = subst (λ l. LegalCell nodes before 1 l) (let z : called_log ≡ log = cc in z) ended
    each (suc (suc n)) log e = absurd cc

loose_balanced : BalancedWith caller_and_called one_loose (task_on 0 two 0 ∷ []) []
loose_balanced = record { tasks = record { weighed = λ f. omega arith }; stuck = λ e c. absurd (has_nothing e c) }

-- without the loose entry nobody called `end`
loose_is_lost : BalancedWith caller_and_called [] (task_on 0 two 0 ∷ []) [] → ⊥
loose_is_lost b = let w = b.tasks.weighed (λ t. 1) in absurd (omega arith)

loose_in_order : order_of caller_and_called one_loose ≡ called_two 1 ∷ ended_at 2 ∷ ended_at 3 ∷ []
loose_in_order = refl

loose_allowed : AllowsLoose nodes before caller_and_called one_loose (task_on 0 two 0 ∷ [])
loose_allowed = record {
  program = nodes_are_typed;
  roots = from_both;
  extent = reached;
  is = reached_is;
  separable = each_separable;
  heap = before_is_typed;
  agree = record { as_many = refl; each = λ n o e. record { other = o; there = e; agree = record { class = refl; constants = λ f c no. refl } } };
  legal = loose_legal;
  typed = ((refl, tt), tt);
  inside = λ i c. one_of (λ (z : Invocation). Contains reached.ops z.op) (invocation 0 two []) i (of_three go two end two the_second) c;
}

-- so there is a complete run of three steps
loose_run : CompleteRun nodes before before (invocation 0 two [] ∷ []) (node_at 1 0 ∷ node_at 0 2 ∷ []) 3
loose_run = record {
  order = invocation 0 two [] ∷ invocation 1 end [] ∷ invocation 1 end [] ∷ [];
  run = log_to_run nodes before caller_and_called one_loose (task_on 0 two 0 ∷ []) [] histories_legal (λ some. loose_allowed) loose_balanced;
}

-- an entry with its task's clock would come before what it may follow
early_is_not_legal : LegalLoose nodes reached before (called_two 0) → ⊥
early_is_not_legal l = let e : 0 ≡ 1 = l.clock in absurd (omega (arith, e))

-- and one of an operation that puts something would be lost to those behind it
end_is_not_loose : LegalLoose nodes reached before (ended_at 2) → ⊥
end_is_not_loose l = end_is_not_free l.free

-- where clock and number are equal the entry of the history comes first
abbrev beside : Entry
beside = record { task = task_on 1 two 1; clock = 2; steps = 1; invoked = op_on 0 end ∷ op_on 0 end ∷ []; stop = None }

history_first : order_of caller_and_called ((beside ∷ []) ∷ []) ≡ ended_at 2 ∷ beside ∷ ended_at 3 ∷ []
history_first = refl

-- ---- stops

abbrev stopped_two : Entry
stopped_two = record { task = task_on 0 two 0; clock = 1; steps = 0; invoked = []; stop = Some Spent }

stops_at_the_end : StopsLast (called_two 1 ∷ stopped_two ∷ [])
stops_at_the_end = refl

stops_in_the_middle : StopsLast (stopped_two ∷ called_two 1 ∷ []) → ⊥
stops_in_the_middle s = let e : stopped_two ∷ [] ≡ [] = s in cc

-- Worked examples of extents and of marks, over whole programs.
use Rattle.std.proofs.Common.{◌≡◌, ◌⊎◌, inl, inr, ℕ, zero, suc, ◌-◌, true, false, List, [], ◌∷◌, None, Some, refl, ap, ap₂, sym, subst, ◌∙◌, arith, codes}
use Rattle.std.specs.Prelude.{pos, Contains, slice_get}
use Rattle.ca_lists.proofs.Members.{has_nothing, has_only}
use Rattle.ca_tree.specs.declared.tree.AssignOp.TheVariants.{Put, Add}
use Rattle.ca_tree.specs.declared.tree.BinaryOp.TheVariants.{Less, Plus}
use Rattle.ca_program.specs.declared.program.ValueType.TheVariants.{Long}
use Rattle.ca_program.specs.declared.program.FieldId.{FieldId}
use Rattle.ca_program.specs.declared.program.FirstPart.TheVariants.{Declares}
use Rattle.ca_program.specs.declared.program.FunctionId.{FunctionId}
use Rattle.ca_program.specs.declared.program.OpId.{OpId}
use Rattle.ca_program.specs.Plain.{PlainProgram, PlainMethod, Expression, number, this, local, own, read, value_call, binary, no_expressions, expression_and, Statement, Statements, put_local, put_field, invoke, for_loop, return_value, print_value, no_statements, statement_and}
use Rattle.ca_model.specs.declared.value.Value.{Value as Datum}
use Rattle.ca_model.specs.declared.value.Value.TheVariants.{Long as Number}
use Rattle.ca_model.specs.declared.value.Object.{Object}
use Rattle.ca_model.specs.Slots.{one_in, put_slot}
use Rattle.ca_meaning.specs.Operators.{assigned}
use Rattle.ca_meaning.specs.Sections.{Outcome, done, section}
use Rattle.ca_meaning.specs.Multisets.{weight}
use Rattle.ca_meaning.specs.Commuting.{joined, OrderCompletes, IsComplete, Commutes}
use Rattle.ca_parallel.specs.Bodies.{calls_of_all, functions_of_body, targets_of_all}
use Rattle.ca_parallel.specs.Extents.{operation_body, function_body, Invokes, root, called, Evaluates, by_operation, by_function, Writes, IsExtentOf, Extent}
use Rattle.ca_parallel.specs.ExtentsOf.{Rises, FieldBefore, ExtentOf}
use Rattle.ca_parallel.specs.Separable.{ReadsWritten, itself, through, IsClean, Separable}
use Rattle.ca_parallel.specs.Parallel.{ParallelFrom}
use Rattle.ca_parallel.specs.Marks.{SoundLoop, SoundMarks}
use Rattle.ca_parallel.proofs.Examples.{cell, sum_field, base_field, last_field, parameter, counter, written, apart, other_fields, there, call_next, statements_2, add_to_sum}

-- ---- a program: class Cell { public: long sum; long base; long last; Cell *next; .. };

abbrev method : Statements → PlainMethod
method statements = record { class = cell; name = codes "m"; params = 1; body = record { locals = Long ∷ []; statements = statements }; result = None }

abbrev value_method : Statement → PlainMethod
value_method s = record { class = cell; name = codes "f"; params = 0; body = record { locals = []; statements = statement_and s no_statements }; result = Some Long }

abbrev visit : OpId
visit = record { 0 = 0 }

abbrev mark : OpId
mark = record { 0 = 1 }

abbrev reset : OpId
reset = record { 0 = 2 }

abbrev start : FunctionId
start = record { 0 = 0 }

abbrev total : FunctionId
total = record { 0 = 1 }

abbrev twice : FunctionId
twice = record { 0 = 2 }

-- void visit(long p) { sum = sum + p; next->visit(start()); mark(0); }
-- void mark(long p) { last = 1; }
-- void reset(long p) { base = 0; }
-- long start() { return base; }
-- long total() { return sum; }
-- long twice() { return total() + total(); }
abbrev cells : PlainProgram
cells = record {
  classes = [];
  ops = method (statement_and add_to_sum (statements_2 (call_next (value_call this start no_expressions)) (invoke 3 this mark (expression_and (number (pos 0)) no_expressions))))
      ∷ method (statement_and (put_field 4 last_field Put (number (pos 1))) no_statements)
      ∷ method (statement_and (put_field 5 base_field Put (number (pos 0))) no_statements)
      ∷ [];
  functions = value_method (return_value 6 (own base_field))
      ∷ value_method (return_value 7 (own sum_field))
      ∷ value_method (return_value 8 (binary Plus (value_call this total no_expressions) (value_call this total no_expressions)))
      ∷ [];
  main = record { locals = []; statements = no_statements };
}

-- ---- value methods that read written fields

total_reads : ReadsWritten cells written total
total_reads = itself (there sum_field) (there sum_field)

twice_reads : ReadsWritten cells written twice
twice_reads = through (zero, omega arith, refl) total_reads

start_reads_constants : ¬ ReadsWritten cells written start
start_reads_constants (itself {f} is_read is_written) = apart 0 1 (omega arith) (has_only sum_field f is_written ∙ sym (has_only base_field f is_read))
start_reads_constants (through {callee} call reads) = has_nothing callee call

calls_total : ¬ IsClean cells written false (value_call parameter total no_expressions)
calls_total s = s.0 total_reads

calls_twice : ¬ IsClean cells written false (value_call parameter twice no_expressions)
calls_twice s = s.0 twice_reads

calls_start : IsClean cells written true (value_call parameter start no_expressions)
calls_start = (start_reads_constants, tt, tt)

-- ---- the extent of `visit`

pair : {A : Type 0} (x y z : A) → Contains (x ∷ y ∷ []) z → (x ≡ z) ⊎ (y ≡ z)
pair x y z (zero, below, is) = inl is
pair x y z (suc zero, below, is) = inr is
pair x y z (suc (suc k), below, is) = absurd (omega arith)

first : {A : Type 0} (x y : A) → Contains (x ∷ y ∷ []) x
first x y = (zero, omega arith, refl)

second : {A : Type 0} (x y : A) → Contains (x ∷ y ∷ []) y
second x y = (suc zero, omega arith, refl)

listed : {A : Type 0} (x y z : A) → (x ≡ z) ⊎ (y ≡ z) → Contains (x ∷ y ∷ []) z
listed x y z (inl e) = subst (λ w. Contains (x ∷ y ∷ []) w) e (first x y)
listed x y z (inr e) = subst (λ w. Contains (x ∷ y ∷ []) w) e (second x y)

abbrev from_visit : List OpId
from_visit = visit ∷ []

-- `visit` calls itself and `mark`, and nobody calls `reset`
abbrev visited : Extent
visited = record { ops = visit ∷ mark ∷ []; functions = start ∷ []; written = sum_field ∷ last_field ∷ [] }

visit_calls : (op callee : OpId) → (visit ≡ op) ⊎ (mark ≡ op) → Contains (calls_of_all (operation_body cells op)) callee → (visit ≡ callee) ⊎ (mark ≡ callee)
visit_calls op callee (inl e) c = pair visit mark callee (subst (λ o. Contains (calls_of_all (operation_body cells o)) callee) (sym e) c)
visit_calls op callee (inr e) c = absurd (has_nothing callee (subst (λ o. Contains (calls_of_all (operation_body cells o)) callee) (sym e) c))

invoked_from_visit : {op : OpId} → Invokes cells from_visit op → (visit ≡ op) ⊎ (mark ≡ op)
invoked_from_visit (root {op} c) = inl (has_only visit op c)
invoked_from_visit (called {op} {callee} i c) = visit_calls op callee (invoked_from_visit i) c

visit_is_invoked : Invokes cells from_visit visit
visit_is_invoked = root (there visit)

mark_is_invoked : Invokes cells from_visit mark
mark_is_invoked = called visit_is_invoked (second visit mark)

invokes : (op : OpId) → (visit ≡ op) ⊎ (mark ≡ op) → Invokes cells from_visit op
invokes op (inl e) = subst (λ z. Invokes cells from_visit z) e visit_is_invoked
invokes op (inr e) = subst (λ z. Invokes cells from_visit z) e mark_is_invoked

functions_from : (op : OpId) (m : FunctionId) → (visit ≡ op) ⊎ (mark ≡ op) → Contains (functions_of_body (operation_body cells op)) m → Contains (start ∷ []) m
functions_from op m (inl e) c = subst (λ o. Contains (functions_of_body (operation_body cells o)) m) (sym e) c
functions_from op m (inr e) c = absurd (has_nothing m (subst (λ o. Contains (functions_of_body (operation_body cells o)) m) (sym e) c))

evaluated : {m : FunctionId} → Evaluates cells from_visit m → Contains (start ∷ []) m
evaluated (by_operation {op} {m} i c) = functions_from op m (invoked_from_visit i) c
evaluated (by_function {m} {callee} e c) = absurd (has_nothing callee (subst (λ z. Contains (functions_of_body (function_body cells z)) callee) (sym (has_only start m (evaluated e))) c))

writes : (f : FieldId) → (sum_field ≡ f) ⊎ (last_field ≡ f) → Writes cells from_visit f
writes f (inl e) = subst (λ z. Writes cells from_visit z) e (record { op = visit; invoked = visit_is_invoked; target = there sum_field })
writes f (inr e) = subst (λ z. Writes cells from_visit z) e (record { op = mark; invoked = mark_is_invoked; target = there last_field })

targets_from : (op : OpId) (f : FieldId) → (visit ≡ op) ⊎ (mark ≡ op) → Contains (targets_of_all (operation_body cells op)) f → (sum_field ≡ f) ⊎ (last_field ≡ f)
targets_from op f (inl e) c = inl (has_only sum_field f (subst (λ o. Contains (targets_of_all (operation_body cells o)) f) (sym e) c))
targets_from op f (inr e) c = inr (has_only last_field f (subst (λ o. Contains (targets_of_all (operation_body cells o)) f) (sym e) c))

visited_is : IsExtentOf cells from_visit visited
visited_is = record {
  ops = λ op. (λ c. invokes op (pair visit mark op c), λ i. listed visit mark op (invoked_from_visit i));
  functions = λ m. (λ c. subst (λ z. Evaluates cells from_visit z) (has_only start m c) (by_operation visit_is_invoked (there start)), λ e. evaluated e);
  written = λ f. (λ c. writes f (pair sum_field last_field f c), λ w. listed sum_field last_field f (targets_from w.op f (invoked_from_visit w.invoked) w.target));
}

number_of : (a b : OpId) → a ≡ b → a.0 ≡ b.0
number_of a b e = ap (λ o. o.0) e

-- without `mark`, or with `reset`, it is none
lesser : ¬ IsExtentOf cells from_visit (record { ops = visit ∷ []; functions = start ∷ []; written = sum_field ∷ [] })
lesser x = let same : visit ≡ mark = has_only visit mark ((x.ops mark).1 mark_is_invoked) in absurd (omega (arith, number_of visit mark same))

not_reset : ¬ ((visit ≡ reset) ⊎ (mark ≡ reset))
not_reset (inl e) = absurd (omega (arith, number_of visit reset e))
not_reset (inr e) = absurd (omega (arith, number_of mark reset e))

greater : ¬ IsExtentOf cells from_visit (record { ops = visit ∷ mark ∷ reset ∷ []; functions = start ∷ []; written = sum_field ∷ last_field ∷ base_field ∷ [] })
greater x = not_reset (invoked_from_visit ((x.ops reset).0 (suc (suc zero), omega arith, refl)))

-- ---- the extent as one value: lists that rise

rise_1 : {A : Type 0} (Before : A → A → Type 0) (a : A) → Rises Before (a ∷ [])
rise_1 {A} Before a = record { rises = from }
  where
    from : (n : ℕ) (x y : A) → slice_get (a ∷ []) n ≡ Some x → slice_get (a ∷ []) (suc n) ≡ Some y → Before x y
    from n x y at next = absurd cc

rise_2 : {A : Type 0} (Before : A → A → Type 0) (a b : A) → Before a b → Rises Before (a ∷ b ∷ [])
rise_2 {A} Before a b less = record { rises = from }
  where
    from : (n : ℕ) (x y : A) → slice_get (a ∷ b ∷ []) n ≡ Some x → slice_get (a ∷ b ∷ []) (suc n) ≡ Some y → Before x y
    from zero x y at next = let e : a ≡ x = cc in let f : b ≡ y = cc in subst (λ z. Before z y) e (subst (λ z. Before a z) f less)
    from (suc n) x y at next = absurd cc

visited_once : ExtentOf cells from_visit visited
visited_once = record {
  holds = visited_is;
  ops = rise_2 _ visit mark (omega arith);
  functions = rise_1 _ start;
  written = rise_2 _ sum_field last_field (inr (refl, omega arith));
}

-- the same extent, with an operation twice, or with its fields the other way round
repeated : (functions : List FunctionId) (fields : List FieldId) → ¬ ExtentOf cells from_visit (record { ops = visit ∷ mark ∷ mark ∷ []; functions = functions; written = fields })
repeated functions fields x = omega (arith, x.ops.rises 1 mark mark refl refl)

falls : ¬ FieldBefore last_field sum_field
falls (inl less) = omega (arith, less)
falls (inr (same, less)) = omega (arith, less)

exchanged : (ops : List OpId) (functions : List FunctionId) → ¬ ExtentOf cells from_visit (record { ops = ops; functions = functions; written = last_field ∷ sum_field ∷ [] })
exchanged ops functions x = falls (x.written.rises 0 last_field sum_field refl refl)

-- ---- a sound mark: the extent of `mark` is `mark`, which commutes with itself

abbrev pub from_mark : List OpId
from_mark = mark ∷ []

invoked_from_mark : {op : OpId} → Invokes cells from_mark op → mark ≡ op
invoked_from_mark (root {op} c) = has_only mark op c
invoked_from_mark (called {op} {callee} i c) = absurd (has_nothing callee (subst (λ o. Contains (calls_of_all (operation_body cells o)) callee) (sym (invoked_from_mark i)) c))

-- what one call of `mark` leaves
abbrev left : Object → Outcome
left o = record { object = record { class = o.class; slots = put_slot o.slots 2 0 (assigned Put (one_in (slice_get o.slots 2)) (Number (pos 1))) }; listed = []; steps = 1 }

one_step : (k : ℕ) → suc k - k ≡ 1
one_step k = omega arith

mark_runs : (h : List Object) (r : ℕ) (o : Object) (xs : List Datum) (k : ℕ) → section cells h r o mark xs (suc k) ≡ done (left o)
mark_runs h r o xs k = ap (λ n. done (record { object = (left o).object; listed = []; steps = n })) (one_step k)

mark_leaves : (h : List Object) (r : ℕ) (o : Object) (xs : List Datum) (k : ℕ) (m : Outcome) → section cells h r o mark xs k ≡ done m → m ≡ left o
mark_leaves h r o xs zero m e = absurd cc
mark_leaves h r o xs (suc k) m e = let is : done (left o) ≡ done m = sym (mark_runs h r o xs k) ∙ e in cc

both_leave : (h : List Object) (r : ℕ) (o : Object) (xs ys : List Datum) (m : Outcome) → OrderCompletes cells h r o mark xs mark ys m → m ≡ joined (left o) (left (left o).object)
both_leave h r o xs ys m w =
    let one : w.0 ≡ left o = mark_leaves h r o xs w.2.0 w.0 w.2.1 in
    let two : w.1 ≡ left (left o).object = mark_leaves h r w.0.object ys w.3.0 w.1 w.3.1 ∙ ap (λ (z : Outcome). left z.object) one in
    w.4 ∙ ap₂ joined one two

both_complete : (h : List Object) (r : ℕ) (o : Object) (xs ys : List Datum) → IsComplete cells h r o mark xs mark ys
both_complete h r o xs ys =
    (joined (left o) (left (left o).object), (left o, left (left o).object, (1, mark_runs h r o xs 0), (1, mark_runs h r (left o).object ys 0), refl))

marks_commute : (fs : List FieldId) → Commutes cells fs mark mark
marks_commute fs c in_a in_b h th r xs ys tx ty o to agrees = record {
  complete = (λ _. both_complete h r o ys xs, λ _. both_complete h r o xs ys);
  same = λ m n w u.
      let i : m ≡ n = both_leave h r o xs ys m w ∙ sym (both_leave h r o ys xs n u) in
      record {
        object = ap (λ (z : Outcome). z.object) i;
        listed = record { weighed = λ f. ap (λ (z : Outcome). weight f z.listed) i };
        steps = ap (λ (z : Outcome). z.steps) i;
      };
}

abbrev mark_alone : Extent
mark_alone = record { ops = mark ∷ []; functions = []; written = last_field ∷ [] }

nothing_from_mark : {m : FunctionId} → ¬ Evaluates cells from_mark m
nothing_from_mark (by_operation {op} {m} i c) = has_nothing m (subst (λ o. Contains (functions_of_body (operation_body cells o)) m) (sym (invoked_from_mark i)) c)
nothing_from_mark (by_function e c) = nothing_from_mark e

mark_alone_is : IsExtentOf cells from_mark mark_alone
mark_alone_is = record {
  ops = λ op. (λ c. subst (λ z. Invokes cells from_mark z) (has_only mark op c) (root (there mark)), λ i. subst (λ z. Contains from_mark z) (invoked_from_mark i) (there mark));
  functions = λ m. (λ c. absurd (has_nothing m c), λ e. absurd (nothing_from_mark e));
  written = λ f. (
    λ c. subst (λ z. Writes cells from_mark z) (has_only last_field f c) (record { op = mark; invoked = root (there mark); target = there last_field }),
    λ w. subst (λ o. Contains (targets_of_all (operation_body cells o)) f) (sym (invoked_from_mark w.invoked)) w.target,
  );
}

pub mark_is_parallel : ParallelFrom cells from_mark
mark_is_parallel = record {
  roots = from_mark;
  extent = mark_alone;
  is = mark_alone_is;
  holds = λ op c. c;
  parallel = record {
    separable = λ op c. subst (λ z. Separable cells mark_alone.written z) (has_only mark op c) ((tt, tt), tt);
    commute = λ a b in_a in_b.
        subst (λ z. Commutes cells mark_alone.written z b) (has_only mark a in_a)
        (subst (λ z. Commutes cells mark_alone.written mark z) (has_only mark b in_b) (marks_commute mark_alone.written));
  };
}

-- the extent of `mark` holds it however often it is asked for
marks_are_parallel : ParallelFrom cells (mark ∷ mark ∷ [])
unfolding mark_is_parallel
marks_are_parallel = record {
  roots = from_mark;
  extent = mark_alone;
  is = mark_alone_is;
  holds = λ op c. either_mark op (pair mark mark op c);
  parallel = mark_is_parallel.parallel;
}
  where
    either_mark : (op : OpId) → (mark ≡ op) ⊎ (mark ≡ op) → Contains from_mark op
    either_mark op (inl e) = subst (λ z. Contains from_mark z) e (there mark)
    either_mark op (inr e) = subst (λ z. Contains from_mark z) e (there mark)

marked : SoundMarks cells (record { ops = from_mark; loops = [] })
marked = record {
  operations = λ op c. subst (λ z. ParallelFrom cells (z ∷ [])) (has_only mark op c) mark_is_parallel;
  sites = λ id c. absurd (has_nothing id c);
}

-- ---- loops that call `mark`

abbrev mark_loop : Expression → Statement
mark_loop bound = for_loop 9 (record { 0 = 0 }) Declares (put_local 9 counter Put (number (pos 0))) (binary Less (local counter) bound) (put_local 9 counter Add (number (pos 1))) (invoke 9 this mark (expression_and (local counter) no_expressions))

-- for (long i = 0; i < base; i += 1) mark(i);
bounded_by_constant : SoundLoop cells (mark_loop (own base_field))
unfolding mark_is_parallel
bounded_by_constant = record {
  form = record { counter = counter; begins = refl; compares = refl; counts = (refl, refl); calls = tt };
  calls = mark_is_parallel;
  constant = (tt, (tt, tt, other_fields 2 1 (omega arith)), tt, (tt, (tt, tt)));
}

-- an extent that holds `mark` writes `last`
last_is_written : (s : ParallelFrom cells from_mark) → Contains s.extent.written last_field
last_is_written s = (s.is.written last_field).1 (record { op = mark; invoked = (s.is.ops mark).0 (s.holds mark (there mark)); target = there last_field })

-- i < last, and i < o->last, read what `mark` writes
bounded_by_written : ¬ SoundLoop cells (mark_loop (own last_field))
bounded_by_written s = s.constant.1.2 (last_is_written s.calls)

bounded_by_foreign : ¬ SoundLoop cells (mark_loop (read parameter last_field))
bounded_by_foreign s = s.constant.1.2.0 (last_is_written s.calls)

-- ---- an unsound mark: `tell` is separable itself, and calls `say`, which prints

abbrev tell : OpId
tell = record { 0 = 0 }

abbrev say : OpId
say = record { 0 = 1 }

-- void tell(long p) { say(p); }
-- void say(long p) { print(p); }
abbrev speakers : PlainProgram
speakers = record {
  classes = [];
  ops = method (statement_and (invoke 1 this say (expression_and parameter no_expressions)) no_statements)
      ∷ method (statement_and (print_value 2 parameter) no_statements)
      ∷ [];
  functions = [];
  main = record { locals = []; statements = no_statements };
}

abbrev from_tell : List OpId
from_tell = tell ∷ []

tell_is_separable : Separable speakers [] tell
tell_is_separable = ((tt, (tt, tt)), tt)

tell_calls : (op callee : OpId) → (tell ≡ op) ⊎ (say ≡ op) → Contains (calls_of_all (operation_body speakers op)) callee → say ≡ callee
tell_calls op callee (inl e) c = has_only say callee (subst (λ o. Contains (calls_of_all (operation_body speakers o)) callee) (sym e) c)
tell_calls op callee (inr e) c = absurd (has_nothing callee (subst (λ o. Contains (calls_of_all (operation_body speakers o)) callee) (sym e) c))

invoked_from_tell : {op : OpId} → Invokes speakers from_tell op → (tell ≡ op) ⊎ (say ≡ op)
invoked_from_tell (root {op} c) = inl (has_only tell op c)
invoked_from_tell (called {op} {callee} i c) = inr (tell_calls op callee (invoked_from_tell i) c)

say_is_invoked : Invokes speakers from_tell say
say_is_invoked = called (root (there tell)) (there say)

say_is_called : (s : ParallelFrom speakers from_tell) → Contains s.extent.ops say
say_is_called s = (s.is.ops say).1 (called ((s.is.ops tell).0 (s.holds tell (there tell))) (there say))

unmarked : ¬ SoundMarks speakers (record { ops = from_tell; loops = [] })
unmarked s = let from : ParallelFrom speakers from_tell = s.operations tell (there tell) in (from.parallel.separable say (say_is_called from)).0

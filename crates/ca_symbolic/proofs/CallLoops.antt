-- The test whether a statement is a call loop decides it.
use Rattle.std.proofs.Common.{◌≡◌, true, ◌&&◌, ◌↔◌, refl, ap, ◌∙◌, pos, Some, None}
use Rattle.std.specs.Prelude.{nat_eq, Option}
use Rattle.std.specs.Ordering.{int_eq}
use Rattle.std.proofs.lemmas.Bool.{eq-eqb, and_parts}
use Rattle.std.proofs.lemmas.Bool.Decides.{Decides-int_eq}
use Rattle.ca_tree.specs.declared.tree.AssignOp.TheVariants.{Put, Add}
use Rattle.ca_tree.specs.declared.tree.BinaryOp.TheVariants.{Less, Plus}
use Rattle.ca_program.specs.declared.program.LocalId.{LocalId}
use Rattle.ca_program.specs.declared.program.FirstPart.{FirstPart}
use Rattle.ca_program.specs.declared.program.FirstPart.TheVariants.{Declares}
use Rattle.ca_program.specs.Plain.{Expression, number, local, binary, Statement, Statements, block, put_local, invoke, for_loop, no_statements, statement_and}
use Rattle.ca_parallel.specs.Loops.{Begins, Compares, CountsUp, IsCall, AreCalls, CallsAlone, IsCallLoopOf, IsCallLoop}
use Rattle.ca_sweep.specs.Found.{counts_up}
use Rattle.ca_symbolic.specs.OtherLoops.{counter_of, compares, is_call, are_calls, calls_alone, counts, is_call_loop}
use Rattle.ca_sweep.proofs.Finding.{same_local as same}
use Rattle.ca_symbolic.proofs.Alike.{two}

one_call : (x : Statement) → is_call x ≡ true → IsCall x
one_call (invoke line e op arguments) s = tt
one_call x s = absurd cc

calls : (xs : Statements) → are_calls xs ≡ true → AreCalls xs
calls no_statements s = tt
calls (statement_and x xs) s = let b = and_parts (is_call x) (are_calls xs) s in (one_call x b.0, calls xs b.1)

body : (x : Statement) → calls_alone x ≡ true → CallsAlone x
body (invoke line e op arguments) s = tt
body (block line (statement_and x xs)) s = let b = and_parts (is_call x) (are_calls xs) s in (one_call x b.0, calls xs b.1)
body x s = absurd cc

condition : (c : Expression) (i : LocalId) → compares c i ≡ true → Compares c i
condition (binary Less (local l) e) i s = same l i s
condition c i s = absurd cc

next_part : (x : Statement) (i : LocalId) → counts_up x i ≡ true → CountsUp x i
next_part (put_local line l Add (number n)) i s =
    let b = and_parts (nat_eq l.0 i.0) (int_eq n (pos 1)) s in (same l i b.0, (Decides-int_eq n (pos 1)).0 b.1)
next_part (put_local line l Put (binary Plus (local m) (number n))) i s =
    let b = and_parts (nat_eq l.0 i.0) (nat_eq m.0 i.0 && int_eq n (pos 1)) s in
    let c = and_parts (nat_eq m.0 i.0) (int_eq n (pos 1)) b.1 in
    (same l i b.0, same m i c.0, (Decides-int_eq n (pos 1)).0 c.1)
next_part x i s = absurd cc

first_part : (part : FirstPart) (x : Statement) (i : LocalId) → counter_of part x ≡ Some i → Begins part x i
first_part Declares (put_local line l Put e) i s = cc
first_part part x i s = absurd cc

call_loop_of : (o : Option LocalId) (part : FirstPart) (first : Statement) (c : Expression) (next x : Statement) → counter_of part first ≡ o →
    (counts o c next && calls_alone x) ≡ true → IsCallLoopOf part first c next x
call_loop_of None part first c next x e s = absurd cc
call_loop_of (Some i) part first c next x e s =
    let b = and_parts (compares c i && counts_up next i) (calls_alone x) s in
    let d = and_parts (compares c i) (counts_up next i) b.0 in
    record { counter = i; begins = first_part part first i e; compares = condition c i d.0; counts = next_part next i d.1; calls = body x b.1 }

call_loop : (x : Statement) → is_call_loop x ≡ true → IsCallLoop x
call_loop (for_loop line site part first c next x) s = call_loop_of (counter_of part first) part first c next x refl s
call_loop x s = absurd cc

told_same : (l m : LocalId) → l ≡ m → nat_eq l.0 m.0 ≡ true
told_same l m e = eq-eqb l.0 m.0 (ap (λ (k : LocalId). k.0) e)

told_call : (x : Statement) → IsCall x → is_call x ≡ true
told_call (invoke line e op arguments) s = refl
told_call x s = absurd s

told_calls : (xs : Statements) → AreCalls xs → are_calls xs ≡ true
told_calls no_statements s = refl
told_calls (statement_and x xs) s = two (is_call x) (are_calls xs) (told_call x s.0) (told_calls xs s.1)

told_body : (x : Statement) → CallsAlone x → calls_alone x ≡ true
told_body (invoke line e op arguments) s = refl
told_body (block line (statement_and x xs)) s = two (is_call x) (are_calls xs) (told_call x s.0) (told_calls xs s.1)
told_body x s = absurd s

told_condition : (c : Expression) (i : LocalId) → Compares c i → compares c i ≡ true
told_condition (binary Less (local l) e) i s = told_same l i s
told_condition c i s = absurd s

told_next : (x : Statement) (i : LocalId) → CountsUp x i → counts_up x i ≡ true
told_next (put_local line l Add (number n)) i s = two (nat_eq l.0 i.0) (int_eq n (pos 1)) (told_same l i s.0) ((Decides-int_eq n (pos 1)).1 s.1)
told_next (put_local line l Put (binary Plus (local m) (number n))) i s =
    two (nat_eq l.0 i.0) (nat_eq m.0 i.0 && int_eq n (pos 1)) (told_same l i s.0)
    (two (nat_eq m.0 i.0) (int_eq n (pos 1)) (told_same m i s.1) ((Decides-int_eq n (pos 1)).1 s.2))
told_next x i s = absurd s

told_first : (part : FirstPart) (x : Statement) (i : LocalId) → Begins part x i → counter_of part x ≡ Some i
told_first Declares (put_local line l Put e) i s = ap Some s
told_first part x i s = absurd s

told_loop_of : (part : FirstPart) (first : Statement) (c : Expression) (next x : Statement) → IsCallLoopOf part first c next x →
    (counts (counter_of part first) c next && calls_alone x) ≡ true
told_loop_of part first c next x s =
    ap (λ o. counts o c next && calls_alone x) (told_first part first s.counter s.begins)
    ∙ two (compares c s.counter && counts_up next s.counter) (calls_alone x)
    (two (compares c s.counter) (counts_up next s.counter) (told_condition c s.counter s.compares) (told_next next s.counter s.counts))
    (told_body x s.calls)

told_loop : (x : Statement) → IsCallLoop x → is_call_loop x ≡ true
told_loop (for_loop line site part first c next x) s = told_loop_of part first c next x s
told_loop x s = absurd s

pub call_loops_are_told : (x : Statement) → (is_call_loop x ≡ true) ↔ IsCallLoop x
call_loops_are_told x = (call_loop x, told_loop x)

-- Worked examples of paths and of the lock discipline, in an extent that writes `sum` alone.
use Rattle.std.proofs.Common.{◌≡◌, List, [], ◌∷◌, refl, subst}
use Rattle.std.specs.Prelude.{Bool, true, Some, None, pos, Contains}
use Rattle.ca_tree.specs.declared.name.Place.{Place}
use Rattle.ca_tree.specs.declared.tree.AssignOp.TheVariants.{Put, Add}
use Rattle.ca_tree.specs.declared.tree.BinaryOp.TheVariants.{NotEqual, Less, Plus}
use Rattle.ca_tree.specs.Plain as tree
use Rattle.ca_program.specs.declared.program.FieldId.{FieldId}
use Rattle.ca_program.specs.declared.program.FirstPart.TheVariants.{Declares}
use Rattle.ca_program.specs.declared.program.LoopId.{LoopId}
use Rattle.ca_program.specs.Plain as program
use Rattle.ca_program.specs.Plain.{PlainProgram, Expression, number, null, local, own, binary, no_expressions, expression_and}
use Rattle.ca_parallel.proofs.Examples.{sum_field, base_field, next_field, parameter, counter, first_op, written, there, statements_2, add_to_sum, call_next, pass_on}
use Rattle.ca_lock_laws.specs.Events.{Event, locks, unlocks, spawns, accesses, calls}
use Rattle.ca_lock_laws.specs.Paths.{Guards, puts_local, puts_field, assigned, of_line, call, gives_back, passed, taken, one_branch, other_branch, counted, none, and_then, no_more, leaves, turn, Through, to_its_end, to_a_return}
use Rattle.ca_lock_laws.specs.Discipline.{Lock, free, held, spawning, behind, Allows, takes, give_back, have_given_back, spawn, call as called, follow, access, access_constant, evaluate, evaluate_constant, Leads, nowhere, forgets, and_then as on, Disciplined}
use Rattle.ca_lock_laws.specs.Guarded.{before_in, free_guards, locked_guards}

-- the text is only looked at for its statements
abbrev at : Place
at = record { line = 1; column = 1 }

abbrev word : tree.Expression
word = tree.named at []

abbrev texts_2 : tree.Statement → tree.Statement → tree.Statements
texts_2 s t = tree.statement_and s (tree.statement_and t tree.no_statements)

abbrev put_text : tree.Statement
put_text = tree.assign at word Put (tree.value word)

abbrev call_text : tree.Statement
call_text = tree.call_statement at word

abbrev branch_text : tree.Statement
branch_text = tree.if_only at word call_text

-- all receivers count as the same
abbrev same : tree.Expression → tree.Expression → Bool
same a b = true

abbrev with_lock : Guards
with_lock = locked_guards same

-- ---- { sum = sum + p; if (next != nullptr) next->m(base); }

abbrev early_text : tree.Statements
early_text = texts_2 put_text branch_text

abbrev early : program.Statements
early = statements_2 add_to_sum (pass_on (own base_field))

abbrev is_next : Expression
is_next = binary NotEqual (own next_field) null

-- with the call: the lock is given back before it, and the mark at the end finds it free
abbrev with_call : List Event
with_call = locks ∷ accesses sum_field ∷ accesses sum_field ∷ accesses next_field ∷ unlocks ∷ spawns ∷ calls first_op ∷ unlocks ∷ []

early_calls : Through with_lock early_text early with_call
early_calls =
    to_its_end (and_then None (of_line (assigned at word Put (tree.value word) (puts_field 1 sum_field Put (binary Plus (own sum_field) parameter))))
    (and_then (Some put_text) (taken at word 2 2 is_next (call at word 2 (own next_field) first_op (expression_and (own base_field) no_expressions))) (none (Some branch_text))))

calls_disciplined : (p : PlainProgram) → Disciplined p written with_call
calls_disciplined p =
    on takes (on (access sum_field) (on (access sum_field) (on (access next_field) (on give_back (on spawn (on (called first_op) (forgets (on have_given_back nowhere))))))))

-- without it: the lock is held until the mark at the end
abbrev without_call : List Event
without_call = locks ∷ accesses sum_field ∷ accesses sum_field ∷ accesses next_field ∷ unlocks ∷ []

early_passes : Through with_lock early_text early without_call
early_passes =
    to_its_end (and_then None (of_line (assigned at word Put (tree.value word) (puts_field 1 sum_field Put (binary Plus (own sum_field) parameter))))
    (and_then (Some put_text) (passed at word call_text 2 2 is_next (call_next (own base_field))) (none (Some branch_text))))

passes_disciplined : (p : PlainProgram) → Disciplined p written without_call
passes_disciplined p = on takes (on (access sum_field) (on (access sum_field) (on (access next_field) (on give_back nowhere))))

-- ---- followers: { next->m(base); next->m(base); }

abbrev two_texts : tree.Statements
two_texts = texts_2 call_text call_text

abbrev two_calls : program.Statements
two_calls = statements_2 (call_next (own base_field)) (call_next (own base_field))

-- the second call goes with the first
abbrev locked_calls : List Event
locked_calls = locks ∷ unlocks ∷ spawns ∷ calls first_op ∷ calls first_op ∷ unlocks ∷ []

second_follows : Through with_lock two_texts two_calls locked_calls
second_follows =
    let one = call at word 2 (own next_field) first_op (expression_and (own base_field) no_expressions) in
    to_its_end (and_then None one (and_then (Some call_text) one (none (Some call_text))))

follower_disciplined : (p : PlainProgram) → Disciplined p written locked_calls
follower_disciplined p = on takes (on give_back (on spawn (on (called first_op) (on (follow first_op) (forgets (on have_given_back nowhere))))))

-- with the marks of a free operation there is no lock to give back
free_calls : Through (free_guards same) two_texts two_calls (spawns ∷ calls first_op ∷ calls first_op ∷ [])
free_calls =
    let one = call at word 2 (own next_field) first_op (expression_and (own base_field) no_expressions) in
    to_its_end (and_then None one (and_then (Some call_text) one (none (Some call_text))))

free_disciplined : (p : PlainProgram) → Disciplined p written (spawns ∷ calls first_op ∷ calls first_op ∷ [])
free_disciplined p = on spawn (on (called first_op) (on (follow first_op) (forgets nowhere)))

-- ---- what a path that keeps the discipline tells

-- not directly behind a call
abbrev Apart : Lock → Type 0
Apart free = Unit {0}
Apart held = Unit {0}
Apart spawning = Unit {0}
Apart behind = ⊥

ended : {p : PlainProgram} {l m : Lock} → Apart l → Leads p written l [] m → l ≡ m
ended a nowhere = refl
ended a (forgets d) = absurd a

record Step (p : PlainProgram) (l : Lock) (e : Event) (es : List Event) (n : Lock) : Type 0 where
  lock : Lock
  allowed : Allows p written l e lock
  rest : Leads p written lock es n

first_of_all : {p : PlainProgram} {l n : Lock} {e : Event} {es : List Event} → Apart l → Leads p written l (e ∷ es) n → Step p l e es n
first_of_all a (on {m = m} b d) = record { lock = m; allowed = b; rest = d }
first_of_all a (forgets d) = absurd a

-- how the lock stands behind an event is told by how it stood
abbrev Next : Lock → Event → Lock → Type 0
Next free locks m = m ≡ held
Next free spawns m = m ≡ spawning
Next free unlocks m = m ≡ free
Next free (accesses f) m = m ≡ free
Next free (calls op) m = ⊥
Next held (accesses f) m = m ≡ held
Next held unlocks m = m ≡ free
Next held locks m = ⊥
Next held (calls op) m = ⊥
Next spawning locks m = ⊥
Next spawning (calls op) m = m ≡ behind
Next l e m = Unit {0}

next_is : {p : PlainProgram} {l m : Lock} {e : Event} → Allows p written l e m → Next l e m
next_is takes = refl
next_is give_back = refl
next_is have_given_back = refl
next_is spawn = refl
next_is (called op) = refl
next_is (follow op) = tt
next_is (access f) = refl
next_is (access_constant f c) = refl
next_is (evaluate m) = tt
next_is (evaluate_constant m c) = tt

-- where it is free no written field is accessed
abbrev Spared : Lock → Event → Type 0
Spared free (accesses f) = ¬ Contains written f
Spared l e = Unit {0}

spared : {p : PlainProgram} {l m : Lock} {e : Event} → Allows p written l e m → Spared l e
spared takes = tt
spared give_back = tt
spared have_given_back = tt
spared spawn = tt
spared (called op) = tt
spared (follow op) = tt
spared (access f) = tt
spared (access_constant f c) = c
spared (evaluate m) = tt
spared (evaluate_constant m c) = tt

held_on : {p : PlainProgram} {m : Lock} {f : FieldId} {es : List Event} → Leads p written held (accesses f ∷ es) m → Leads p written held es m
held_on {p} {m} {f} {es} d = let s = first_of_all tt d in subst (λ l. Leads p written l es m) (next_is s.allowed) s.rest

taken_on : {p : PlainProgram} {m : Lock} {es : List Event} → Leads p written free (locks ∷ es) m → Leads p written held es m
taken_on {p} {m} {es} d = let s = first_of_all tt d in subst (λ l. Leads p written l es m) (next_is s.allowed) s.rest

held_at_the_end : (p : PlainProgram) → ¬ Leads p written held [] free
held_at_the_end p d = let e = ended tt d in absurd cc

-- ---- { if (p < 3) return sum; else next->m(p); }: in one branch the body ends, and no mark stands before that end

abbrev either_text : tree.Statement
either_text = tree.if_else at word (tree.return_value at word) call_text

abbrev returning_text : tree.Statements
returning_text = tree.statement_and either_text tree.no_statements

abbrev returning : program.Statements
returning = program.statement_and (program.if_else 2 (binary Less parameter (number (pos 3))) (program.return_value 2 (own sum_field)) (call_next parameter)) program.no_statements

abbrev small : Expression
small = binary Less parameter (number (pos 3))

other_branch_calls : Through with_lock returning_text returning (locks ∷ unlocks ∷ spawns ∷ calls first_op ∷ unlocks ∷ [])
other_branch_calls =
    to_its_end (and_then None (other_branch at word (tree.return_value at word) 2 small (program.return_value 2 (own sum_field)) (call at word 2 (own next_field) first_op (expression_and parameter no_expressions))) (none (Some either_text)))

branch_disciplined : (p : PlainProgram) → Disciplined p written (locks ∷ unlocks ∷ spawns ∷ calls first_op ∷ unlocks ∷ [])
branch_disciplined p = on takes (on give_back (on spawn (on (called first_op) (forgets (on have_given_back nowhere)))))

one_branch_returns : Through with_lock returning_text returning (locks ∷ accesses sum_field ∷ [])
one_branch_returns = to_a_return (no_more None tree.no_statements program.no_statements (one_branch at word call_text 2 small (call_next parameter) (gives_back at word 2 (own sum_field))))

-- so operations, which give nothing back, have no such path
return_undisciplined : (p : PlainProgram) → ¬ Disciplined p written (locks ∷ accesses sum_field ∷ [])
return_undisciplined p d = held_at_the_end p (held_on (taken_on d))

-- ---- for (long i = p; i < 3; i += 1) next->m(i): two turns, each with its marks

abbrev counter_put : program.Statement
counter_put = program.put_local 2 counter Put parameter

abbrev counter_add : program.Statement
counter_add = program.put_local 2 counter Add (number (pos 1))

abbrev turns_text : tree.Statement
turns_text = tree.for_loop at put_text word put_text call_text

abbrev loop_text : tree.Statements
loop_text = tree.statement_and turns_text tree.no_statements

abbrev loop : LoopId → program.Statements
loop site = program.statement_and (program.for_loop 2 site Declares counter_put (binary Less (local counter) (number (pos 3))) counter_add (call_next (local counter))) program.no_statements

two_turns : (site : LoopId) → Through with_lock loop_text (loop site) (locks ∷ unlocks ∷ spawns ∷ calls first_op ∷ unlocks ∷ spawns ∷ calls first_op ∷ unlocks ∷ [])
two_turns site =
    let one = call at word 2 (own next_field) first_op (expression_and (local counter) no_expressions) in
    to_its_end (and_then None (counted at word 2 site Declares (assigned at word Put (tree.value word) (puts_local 2 counter Put parameter)) (assigned at word Put (tree.value word) (puts_local 2 counter Add (number (pos 1))))
    (turn one (turn one (leaves (binary Less (local counter) (number (pos 3))) call_text (call_next (local counter)) [])))) (none (Some turns_text)))

-- ---- marks that are lost or stand elsewhere

-- with no unlock mark at the end the lock is still held there
no_closing : Through (record { opening = locks ∷ []; before = before_in true same; closing = [] }) (tree.statement_and put_text tree.no_statements) (program.statement_and add_to_sum program.no_statements) (locks ∷ accesses sum_field ∷ accesses sum_field ∷ [])
no_closing = to_its_end (and_then None (of_line (assigned at word Put (tree.value word) (puts_field 1 sum_field Put (binary Plus (own sum_field) parameter)))) (none (Some put_text)))

no_closing_undisciplined : (p : PlainProgram) → ¬ Disciplined p written (locks ∷ accesses sum_field ∷ accesses sum_field ∷ [])
no_closing_undisciplined p d = held_at_the_end p (held_on (held_on (taken_on d)))

-- a spawn mark before the lock mark has no call behind it
spawn_first : (p : PlainProgram) (es : List Event) → ¬ Disciplined p written (spawns ∷ locks ∷ es)
spawn_first p es d =
    let s = first_of_all tt d in
    let r : Leads p written spawning (locks ∷ es) free = subst (λ l. Leads p written l (locks ∷ es) free) (next_is s.allowed) s.rest in
    next_is (first_of_all tt r).allowed

-- a call without marks comes while the lock is held
no_unlock : (p : PlainProgram) (es : List Event) → ¬ Disciplined p written (locks ∷ calls first_op ∷ es)
no_unlock p es d = next_is (first_of_all tt (taken_on d)).allowed

-- an access behind a call comes while it is free
late : (p : PlainProgram) (es : List Event) → ¬ Disciplined p written (locks ∷ unlocks ∷ accesses sum_field ∷ es)
late p es d =
    let s = first_of_all tt (taken_on d) in
    let r : Leads p written free (accesses sum_field ∷ es) free = subst (λ l. Leads p written l (accesses sum_field ∷ es) free) (next_is s.allowed) s.rest in
    spared (first_of_all tt r).allowed (there sum_field)

-- a call without a spawn mark comes directly behind no other call
not_spawned : (p : PlainProgram) (es : List Event) → ¬ Disciplined p written (locks ∷ unlocks ∷ calls first_op ∷ es)
not_spawned p es d =
    let s = first_of_all tt (taken_on d) in
    let r : Leads p written free (calls first_op ∷ es) free = subst (λ l. Leads p written l (calls first_op ∷ es) free) (next_is s.allowed) s.rest in
    next_is (first_of_all tt r).allowed

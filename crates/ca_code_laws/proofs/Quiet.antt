-- Statements that make no objects and print nothing, as sections do neither: separable bodies and call loops are such.
use Rattle.std.proofs.Common.{◌≡◌, Bool, true, false, refl, List}
use Rattle.std.specs.Prelude.{◌||◌}
use Rattle.ca_program.specs.declared.program.FieldId.{FieldId}
use Rattle.ca_program.specs.declared.program.FirstPart.{FirstPart}
use Rattle.ca_program.specs.declared.program.FirstPart.TheVariants.{Declares, Assigns}
use Rattle.ca_program.specs.declared.program.LocalId.{LocalId}
use Rattle.ca_program.specs.Plain.{Statement, Statements, block, put_local, put_field, put_item, new_local, new_field, new_item, invoke, if_else, while_loop, for_loop, return_value, print_value, no_statements, statement_and, PlainProgram}
use Rattle.ca_parallel.specs.Loops.{Begins, CountsUp, CallsAlone, AreCalls, IsCallLoop}
use Rattle.ca_parallel.specs.Separable.{IsSeparated, AreSeparated, holds_call}

-- objects are made and values printed only where that may be
abbrev mutual
  pub May : Bool → Statement → Type 0
  May makes (block line ss) = MayAll makes ss
  May makes (new_local line l c) = makes ≡ true
  May makes (new_field line f c) = makes ≡ true
  May makes (new_item line f i c) = makes ≡ true
  May makes (if_else line c a b) = May makes a × May makes b
  May makes (while_loop line c b) = May makes b
  May makes (for_loop line site part first c next b) = May makes first × May makes next × May makes b
  May makes (print_value line e) = makes ≡ true
  May makes _ = Unit {0}

  pub MayAll : Bool → Statements → Type 0
  MayAll makes no_statements = Unit {0}
  MayAll makes (statement_and x rest) = May makes x × MayAll makes rest

-- in a run both may be
mutual
  pub each_may : (x : Statement) → May true x
  each_may (block line ss) = all_may ss
  each_may (new_local line l c) = refl
  each_may (new_field line f c) = refl
  each_may (new_item line f i c) = refl
  each_may (if_else line c a b) = (each_may a, each_may b)
  each_may (while_loop line c b) = each_may b
  each_may (for_loop line site part first c next b) = (each_may first, each_may next, each_may b)
  each_may (print_value line e) = refl
  each_may (put_local line l op e) = tt
  each_may (put_field line f op e) = tt
  each_may (put_item line f i op e) = tt
  each_may (invoke line e op es) = tt
  each_may (return_value line e) = tt

  pub all_may : (xs : Statements) → MayAll true xs
  all_may no_statements = tt
  all_may (statement_and x rest) = (each_may x, all_may rest)

-- a separable body does neither
module _ (p : PlainProgram) (written : List FieldId) where
  mutual
    separated_quiet : (x : Statement) (after : Bool) → IsSeparated p written after x → May false x
    separated_quiet (block line ss) after t = separable_quiet ss after t
    separated_quiet (new_local line l c) after t = absurd t
    separated_quiet (new_field line f c) after t = absurd t
    separated_quiet (new_item line f i c) after t = absurd t
    separated_quiet (if_else line c a b) after t = (separated_quiet a after t.1, separated_quiet b after t.2)
    separated_quiet (while_loop line c b) after t = separated_quiet b (after || holds_call b) t.1
    separated_quiet (for_loop line site part first c next b) after t =
        let looped = after || holds_call (for_loop line site part first c next b) in
        (separated_quiet first looped t.0, separated_quiet next looped t.2, separated_quiet b looped t.3)
    separated_quiet (print_value line e) after t = absurd t
    separated_quiet (put_local line l op e) after t = tt
    separated_quiet (put_field line f op e) after t = tt
    separated_quiet (put_item line f i op e) after t = tt
    separated_quiet (invoke line e op es) after t = tt
    separated_quiet (return_value line e) after t = tt

    pub separable_quiet : (xs : Statements) (after : Bool) → AreSeparated p written after xs → MayAll false xs
    separable_quiet no_statements after t = tt
    separable_quiet (statement_and x rest) after t = (separated_quiet x after t.0, separable_quiet rest (after || holds_call x) t.1)

-- nor does a call loop
calls_quiet : (xs : Statements) → AreCalls xs → MayAll false xs
calls_quiet no_statements are = tt
calls_quiet (statement_and (invoke line e op es) rest) are = (tt, calls_quiet rest are.1)
calls_quiet (statement_and (block line ss) rest) are = absurd are.0
calls_quiet (statement_and (put_local line l op e) rest) are = absurd are.0
calls_quiet (statement_and (put_field line f op e) rest) are = absurd are.0
calls_quiet (statement_and (put_item line f i op e) rest) are = absurd are.0
calls_quiet (statement_and (new_local line l c) rest) are = absurd are.0
calls_quiet (statement_and (new_field line f c) rest) are = absurd are.0
calls_quiet (statement_and (new_item line f i c) rest) are = absurd are.0
calls_quiet (statement_and (if_else line c a b) rest) are = absurd are.0
calls_quiet (statement_and (while_loop line c b) rest) are = absurd are.0
calls_quiet (statement_and (for_loop line site part first c next b) rest) are = absurd are.0
calls_quiet (statement_and (return_value line e) rest) are = absurd are.0
calls_quiet (statement_and (print_value line e) rest) are = absurd are.0

body_quiet : (b : Statement) → CallsAlone b → May false b
body_quiet (invoke line e op es) are = tt
body_quiet (block line no_statements) are = absurd are
body_quiet (block line (statement_and x rest)) are = calls_quiet (statement_and x rest) are
body_quiet other are = absurd are

first_quiet : (part : FirstPart) (first : Statement) (i : LocalId) → Begins part first i → May false first
first_quiet Declares (put_local line l op e) i begins = tt
first_quiet Declares other i begins = absurd begins
first_quiet Assigns first i begins = absurd begins

next_quiet : (next : Statement) (i : LocalId) → CountsUp next i → May false next
next_quiet (put_local line l op e) i counts = tt
next_quiet other i counts = absurd counts

pub call_loop_quiet : (loop : Statement) → IsCallLoop loop → May false loop
call_loop_quiet (for_loop line site part first c next b) is = (first_quiet part first is.counter is.begins, next_quiet next is.counter is.counts, body_quiet b is.calls)
call_loop_quiet other is = absurd is

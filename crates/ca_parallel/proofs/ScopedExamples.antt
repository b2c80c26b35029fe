-- Worked examples of counters that stay in their loops, and of one that doesn't.
use Rattle.std.proofs.Common.{◌≡◌, ℕ, true, false, refl, pos}
use Rattle.ca_tree.specs.declared.tree.AssignOp.TheVariants.{Put, Add}
use Rattle.ca_tree.specs.declared.tree.BinaryOp.TheVariants.{Less}
use Rattle.ca_program.specs.declared.program.FirstPart.TheVariants.{Declares}
use Rattle.ca_program.specs.declared.program.LocalId.{LocalId}
use Rattle.ca_program.specs.declared.program.LoopId.{LoopId}
use Rattle.ca_program.specs.declared.program.OpId.{OpId}
use Rattle.ca_program.specs.Plain.{Expression, number, this, local, binary, no_expressions, expression_and, Statement, Statements, put_local, invoke, for_loop, no_statements, statement_and}
use Rattle.ca_parallel.specs.Scoped.{any_counts, any_names_outside}

abbrev i : LocalId
i = record { 0 = 1 }

abbrev m : OpId
m = record { 0 = 0 }

-- for (long i = first; i < 9; i += 1) m(i);
abbrev loop : ℕ → Expression → Statement
loop site first =
    for_loop 1 (record { 0 = site }) Declares (put_local 1 i Put first) (binary Less (local i) (number (pos 9))) (put_local 1 i Add (number (pos 1)))
    (invoke 1 this m (expression_and (local i) no_expressions))

-- local 0 is no counter
abbrev two_loops : Statements
two_loops = statement_and (loop 0 (local (record { 0 = 0 }))) (statement_and (loop 1 (number (pos 3))) no_statements)

a_counter : any_counts two_loops 1 ≡ true
a_counter = refl

which_stays_in_its_loops : any_names_outside two_loops 1 ≡ false
which_stays_in_its_loops = refl

-- the second loop begins where the first one ended, which no checked program does
abbrev goes_on_counting : Statements
goes_on_counting = statement_and (loop 0 (number (pos 3))) (statement_and (loop 1 (local i)) no_statements)

a_start_that_names_the_counter : any_names_outside goes_on_counting 1 ≡ true
a_start_that_names_the_counter = refl

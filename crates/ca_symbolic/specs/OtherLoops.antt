-- The first loop of a body that is neither a call loop nor a sweep.
use Rattle.std.specs.Prelude.{ℕ, Bool, true, false, ◌&&◌, if◌then◌else◌, nat_eq, List, Option, Some, None}
use Rattle.std.specs.Option.{option_or}
use Rattle.ca_tree.specs.declared.tree.AssignOp.TheVariants.{Put}
use Rattle.ca_tree.specs.declared.tree.BinaryOp.TheVariants.{Less}
use Rattle.ca_program.specs.declared.program.FieldId.{FieldId}
use Rattle.ca_program.specs.declared.program.LocalId.{LocalId}
use Rattle.ca_sweep.specs.Sweeps.{PlainSweep}
use Rattle.ca_sweep.specs.Found.{counts_up, sweep_in}
use Rattle.ca_program.specs.declared.program.FirstPart.{FirstPart}
use Rattle.ca_program.specs.declared.program.FirstPart.TheVariants.{Declares}
use Rattle.ca_program.specs.Plain.{Expression, local, binary, Statement, Statements, block, put_local, put_field, put_item, new_local, new_field, new_item, invoke, if_else, while_loop, for_loop, return_value, print_value, no_statements, statement_and}

-- the first part declares a counter, with a value of its own
abbrev pub counter_of : FirstPart → Statement → Option LocalId
counter_of Declares (put_local line l Put e) = Some l
counter_of _ _ = None

-- the condition: the counter is less than something
abbrev pub compares : Expression → LocalId → Bool
compares (binary Less (local l) e) i = nat_eq l.0 i.0
compares _ i = false

abbrev pub is_call : Statement → Bool
is_call (invoke line e op arguments) = true
is_call _ = false

abbrev pub are_calls : Statements → Bool
are_calls no_statements = true
are_calls (statement_and x xs) = is_call x && are_calls xs

abbrev pub calls_alone : Statement → Bool
calls_alone (invoke line e op arguments) = true
calls_alone (block line (statement_and x xs)) = is_call x && are_calls xs
calls_alone _ = false

abbrev pub counts : Option LocalId → Expression → Statement → Bool
counts None c next = false
counts (Some i) c next = compares c i && counts_up next i

abbrev pub is_call_loop : Statement → Bool
is_call_loop (for_loop line site part first c next body) = counts (counter_of part first) c next && calls_alone body
is_call_loop _ = false

abbrev pub if_no_sweep : Option PlainSweep → ℕ → Option ℕ
if_no_sweep None line = Some line
if_no_sweep (Some w) line = None

-- The line of the first loop that is neither a call loop nor a sweep, in a method with so many parameters, of an extent that
-- writes these fields; a loop stands before those that it holds.
abbrev mutual
  pub other_loop : ℕ → List FieldId → Statement → Option ℕ
  other_loop n w (block line ss) = other_loop_in n w ss
  other_loop n w (if_else line c a b) = option_or (other_loop n w a) (other_loop n w b)
  other_loop n w (while_loop line c b) = Some line
  other_loop n w (for_loop line site part first c next b) = if is_call_loop (for_loop line site part first c next b) then None else if_no_sweep (sweep_in n w (for_loop line site part first c next b)) line
  other_loop n w (put_local line l op e) = None
  other_loop n w (put_field line f op e) = None
  other_loop n w (put_item line f i op e) = None
  other_loop n w (new_local line l c) = None
  other_loop n w (new_field line f c) = None
  other_loop n w (new_item line f i c) = None
  other_loop n w (invoke line e op arguments) = None
  other_loop n w (return_value line e) = None
  other_loop n w (print_value line e) = None

  pub other_loop_in : ℕ → List FieldId → Statements → Option ℕ
  other_loop_in n w no_statements = None
  other_loop_in n w (statement_and x xs) = option_or (other_loop n w x) (other_loop_in n w xs)

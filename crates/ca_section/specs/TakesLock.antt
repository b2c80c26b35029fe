-- Whether an operation takes a lock.
use Rattle.std.specs.Prelude.{Bool, ◌||◌, List}
use Rattle.std.specs.List.{list_any}
use Rattle.ca_program.specs.declared.program.FieldId.{FieldId}
use Rattle.ca_program.specs.Plain.{Statement, Statements}
use Rattle.ca_parallel.specs.Bodies.{targets_of, targets_of_all, reads_of_body}
use Rattle.ca_parallel.specs.Separable.{is_some_of}
use Rattle.ca_section.specs.Offences.{is_written}

-- a statement puts or creates something in a field
abbrev pub holds_target : Statement → Bool
holds_target s = is_some_of (targets_of s)

abbrev pub hold_target : Statements → Bool
hold_target ss = is_some_of (targets_of_all ss)

-- the body puts or creates something in a field, or reads one of these, of whatever object
abbrev pub takes_lock : List FieldId → Statements → Bool
takes_lock written ss = hold_target ss || list_any (is_written written) (reads_of_body ss)

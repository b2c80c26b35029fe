-- A list of operations as flags by their numbers.
use Rattle.std.specs.Prelude.{◌≡◌, ◌<◌, Bool, false, List, length, get_or}
use Rattle.ca_program.specs.declared.program.OpId.{OpId}
use Rattle.ca_parallel.specs.Lists.{op_in}

-- the flag of each operation that has one says whether it is one of these
abbrev pub FlagsOf : List Bool → List OpId → Type 0
FlagsOf flags ops = (op : OpId) → op.0 < length flags → get_or flags op.0 false ≡ op_in ops op

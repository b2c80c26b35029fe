-- What a row of a body that heeds no marks is in one that does: a call heeds them too, or is handed on.
use Rattle.ca_program.specs.Instructions.{Instruction, Invoke, Placed}
use Rattle.ca_parallel.specs.Lists.{PlainMarks}
use Rattle.ca_code_laws.specs.Heeding.{heeding_call}

abbrev pub heeding_instruction : PlainMarks → Instruction → Instruction
heeding_instruction marks (Invoke op first) = heeding_call marks op first
heeding_instruction marks i = i

abbrev pub heeding_row : PlainMarks → Placed → Placed
heeding_row marks r = record { instruction = heeding_instruction marks r.instruction; line = r.line; loop = r.loop }

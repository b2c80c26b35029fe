use Rattle.std.proofs.Common.{sym, ◌∙◌}
use Rattle.ca_parse.proofs.Locals.{other_answer, local_answer}
use Rattle.ca_parse.proofs.ChainStatements.{other_line, first_answer}
use Rattle.ca_parse.proofs.ChainStatements.{first_answer, other_line}
use Rattle.ca_parse.proofs.assigns.parse_first.Goals as goal

pub returns-then-begins_local : goal.returns-then-begins_local
returns-then-begins_local c = record { answer = first_answer (local_answer other_line (sym c.begins_local.ensures ∙ c.if-begins_local.true) c.parse_local.ensures.answer) }

pub returns : goal.returns
returns c = record { answer = first_answer (other_answer other_line (sym c.begins_local.ensures ∙ c.if-begins_local.false) c.parse_assign_line.ensures.answer) }

use Rattle.ca_program.specs.View.{program_view}
use Rattle.ca_verdicts.proofs.VerdictSound.{sound_of}
use Rattle.ca_verdicts.proofs.verdict_where_executable.Goals as goal

pub returns-clause-exact : goal.returns-clause-exact
returns-clause-exact c = c.decided.ensures.exact

pub returns-clause-sound : goal.returns-clause-sound
returns-clause-sound c = λ x q can. sound_of (program_view c.args.program.now) x c.args.a c.args.b q c.decided.result (c.decided.ensures.exact x.written can) c.decided.ensures.few

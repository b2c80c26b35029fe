use Rattle.ca_code_laws.proofs.Quiet.{call_loop_quiet}
use Rattle.ca_code_laws.proofs.Sections.{section_loop_passes}
use Rattle.ca_code_laws.proofs.laws.sections_of_loops_run_the_same_code.Goals as goal

pub returns : goal.returns
returns c = λ p typed code is frozen heap s me receiver loop t calls line ls v at base k f h holds.
    section_loop_passes p code typed is.functions is.ops frozen heap s me receiver loop t (call_loop_quiet loop calls) line ls v at base k f h holds

use Rattle.ca_code_laws.proofs.Sections.{section_runs}
use Rattle.ca_code_laws.proofs.laws.sections_run_the_same_code.Goals as goal

pub returns : goal.returns
returns c = λ p typed code is frozen heap written op separable r vs well class of_class object typed_object start base k f place holds.
    section_runs p code typed is.functions is.ops frozen heap written op separable r vs well class of_class object typed_object start base k f place holds

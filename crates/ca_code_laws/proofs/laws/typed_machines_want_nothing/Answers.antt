use Rattle.std.proofs.Common.{sym, subst}
use Rattle.ca_meaning.specs.Serial.{operations_of}
use Rattle.ca_parallel.specs.Lists.{noted_run}
use Rattle.ca_code_laws.specs.Known.{IsKnown}
use Rattle.ca_code_laws.proofs.Grown.{ends_noted}
use Rattle.ca_code_laws.proofs.OneEnd.{call_known, known, run_known, section_is_known}
use Rattle.ca_code_laws.proofs.laws.typed_machines_want_nothing.Goals as goal

pub returns : goal.returns
returns c = record {
  runs = run_known;
  marked = λ p marks code at budget noted into s o comes ends. subst IsKnown (sym (ends_noted p marks code at budget noted into s o comes ends)) (known (noted_run p marks budget));
  calls = λ p typed code is i x heap well start base k f place holds o ends. subst IsKnown (sym (call_known p typed code is i x heap well start base k f place holds o ends)) (known ((operations_of p).invoke i x k));
  sections = section_is_known;
}

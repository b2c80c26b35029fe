use Rattle.std.proofs.Common.{sym, subst}
use Rattle.ca_parallel.specs.Lists.{noted_run}
use Rattle.ca_code_laws.specs.Known.{IsKnown}
use Rattle.ca_code_laws.specs.Runs.{run_into}
use Rattle.ca_code_laws.proofs.Grown.{ends_noted}
use Rattle.ca_code_laws.proofs.OneEnd.{known}
use Rattle.ca_code_laws.proofs.NotWrong.{not_wrong, wrong_alike}
use Rattle.ca_code_laws.proofs.Unnoted.{comes_unnoted}
use Rattle.ca_code_laws.proofs.Steps.{joins_end}
use Rattle.ca_code_laws.proofs.laws.typed_runs_are_never_wrong.Goals as goal

pub returns : goal.returns
returns c = λ p marks code at budget noted into s u comes on same plain wrong.
    not_wrong (run_into into p) code u
    (λ o ends. subst IsKnown (sym (ends_noted p marks code at budget noted into s o comes (joins_end (run_into into p) code (comes_unnoted into p code s u on same) ends))) (known (noted_run p marks budget)))
    (wrong_alike p code into u plain wrong)

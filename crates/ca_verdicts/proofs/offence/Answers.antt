use Rattle.ca_program.specs.View.{program_view}
use Rattle.ca_verdicts.proofs.Fewer.{can_where}
use Rattle.ca_verdicts.proofs.offence.Goals as goal

pub inseparable-requires : goal.inseparable-requires
inseparable-requires c = c.requires.readers

pub other_form-requires : goal.other_form-requires
other_form-requires c = record { first = c.requires.first; second = c.requires.second }

pub returns-in-Some : goal.returns-in-Some
returns-in-Some c = record { told = c.in-Some.ensures.told; can = tt }

pub returns-in-None : goal.returns-in-None
returns-in-None c =
    let both = c.in-None.ensures.separable in
    record {
      told = (rw c.written.ensures at c.other_form.ensures.told) both;
      can = can_where (program_view c.args.program.now) c.args.extent.now.written c.args.a c.args.b c.other_form.result both (rw c.written.ensures at c.other_form.ensures.none);
    }

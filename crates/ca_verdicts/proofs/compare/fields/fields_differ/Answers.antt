use Rattle.ca_verdicts.proofs.OneByOne.{same_more}
use Rattle.ca_verdicts.proofs.compare.fields.fields_differ.Goals as goal

pub loop-place-preserved : goal.loop-place-preserved
loop-place-preserved c =
    same_more c.args.first.now c.args.second.now c.loop-place.place c.index-first-place.result c.index-second-place.result c.loop-place-test.true c.requires.equal c.index-first-place.is c.index-second-place.is
    (rw c.in-None.is at c.in_ok-forms.ensures.same) c.loop-place.invariant

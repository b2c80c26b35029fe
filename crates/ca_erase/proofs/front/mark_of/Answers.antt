use Rattle.std.proofs.Common.{◌≢◌, ◌++◌, ℕ, List, false}
use Rattle.std.proofs.lemmas.Bool.{both_ways}
use Rattle.ca_canonical.specs.declared.marks.Mark.{Mark}
use Rattle.ca_canonical.specs.declared.marks.Mark.TheVariants.{Lock, Unlock, Spawn, Parallel}
use Rattle.ca_canonical.specs.Marks.{mark_text}
use Rattle.ca_erase.proofs.front.mark_of.Goals as goal

pub returns-else-begins-4-clause-none : goal.returns-else-begins-4-clause-none
returns-else-begins-4-clause-none c = each
  where
    each : (m : Mark) (r : List ℕ) → c.args.text.now ≢ mark_text m ++ r
    each Lock r e = both_ways _ c.if-begins.false (c.begins.ensures.no r e)
    each Unlock r e = both_ways _ c.if-begins-2.false (c.begins-else-begins.ensures.no r e)
    each Spawn r e = both_ways _ c.if-begins-3.false (c.begins-else-begins-2.ensures.no r e)
    each Parallel r e = both_ways _ c.if-begins-4.false (c.begins-else-begins-3.ensures.no r e)

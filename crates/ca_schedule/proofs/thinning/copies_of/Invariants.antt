use Rattle.std.proofs.Common.{◌≡◌, take}
use Rattle.ca_schedule.proofs.thinning.copies_of.Given as goal

abbrev pub invariant-loop-site : goal.invariant-loop-site
invariant-loop-site l = l.loops.items ≡ take l.site-index l.sites

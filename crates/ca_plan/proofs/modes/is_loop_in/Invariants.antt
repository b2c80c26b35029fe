use Rattle.std.proofs.Common.{◌≡◌, drop}
use Rattle.ca_plan.specs.Texts.{loop_in}
use Rattle.ca_plan.proofs.modes.is_loop_in.Given as goal

abbrev pub invariant-marked : goal.invariant-marked
invariant-marked l = loop_in (drop l.m-index l.marked) l.site ≡ loop_in l.marked l.site

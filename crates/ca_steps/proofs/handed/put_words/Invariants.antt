use Rattle.std.proofs.Common.{map}
use Rattle.ca_code.specs.Seen.{kind_seen}
use Rattle.ca_steps.proofs.Handing.{PuttingWords}
use Rattle.ca_steps.proofs.handed.put_words.Given as goal

abbrev pub invariant-values : goal.invariant-values
invariant-values l = PuttingWords l.initial.slots.items l.base (map kind_seen l.kinds) l.values l.slots.items l.i

abbrev pub decreases-values : goal.decreases-values
decreases-values l = l.i

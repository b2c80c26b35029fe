use Rattle.std.proofs.Common.{◌≡◌, length, reverse}
use Rattle.ca_undo.specs.Olds.{put_back, AllThere}
use Rattle.ca_undo.proofs.olds.put_all_back.Given as goal

abbrev pub invariant-olds : goal.invariant-olds
invariant-olds l = (put_back (reverse l.items.items) l.slots ≡ put_back (reverse l.fn.items.items) l.fn.slots) × AllThere (reverse l.items.items) l.slots

abbrev pub decreases-olds : goal.decreases-olds
decreases-olds l = length (reverse l.items.items)

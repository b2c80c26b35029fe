use Rattle.std.proofs.Common.{◌≡◌, List, length}
use Rattle.ca_model.specs.declared.value.Object.{Object}
use Rattle.ca_beside.specs.Beside.{present}
use Rattle.ca_undo.specs.Puts.{restored}
use Rattle.ca_replica.specs.InPlace.{AllHave}
use Rattle.ca_replica.proofs.values.put_all_back.Given as goal

abbrev pub invariant-olds : goal.invariant-olds
invariant-olds l = ((h : List Object) → restored l.olds (present h l.copies) ≡ restored l.fn.olds (present h l.fn.copies)) × AllHave l.olds l.copies

abbrev pub decreases-olds : goal.decreases-olds
decreases-olds l = length l.olds

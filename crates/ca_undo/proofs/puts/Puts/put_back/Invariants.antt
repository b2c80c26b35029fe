use Rattle.std.proofs.Common.{◌≡◌, length}
use Rattle.ca_undo.specs.Puts.{restored}
use Rattle.ca_undo.proofs.puts.Puts.put_back.Given as goal

abbrev pub invariant-olds : goal.invariant-olds
invariant-olds l = restored l.self l.heap ≡ restored l.fn.self l.fn.heap

abbrev pub decreases-olds : goal.decreases-olds
decreases-olds l = length l.self

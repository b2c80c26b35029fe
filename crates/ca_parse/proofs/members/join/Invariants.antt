use Rattle.std.proofs.Common.{◌≡◌, ◌++◌}
use Rattle.ca_parse.proofs.members.join.Given as goal

abbrev pub invariant-members : goal.invariant-members
invariant-members l = l.out.items ≡ l.fn.before.items ++ l.yielded

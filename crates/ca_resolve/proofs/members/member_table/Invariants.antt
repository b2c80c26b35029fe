use Rattle.std.proofs.Common.{◌≡◌}
use Rattle.ca_resolve.specs.View.{numbers_view}
use Rattle.ca_resolve.proofs.Tables.{Tabled}
use Rattle.ca_resolve.proofs.members.member_table.Given as goal

abbrev pub invariant-loop-member : goal.invariant-loop-member
invariant-loop-member l = Tabled l.classes l.fn.numbers.class (numbers_view l.fn.numbers) l.members l.member-index l.names.items l.meanings.items (numbers_view l.next) × (l.next.class ≡ l.fn.numbers.class)

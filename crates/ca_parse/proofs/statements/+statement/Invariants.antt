use Rattle.std.proofs.Common.{◌+◌, ◌*◌, ◌≤◌, length, map}
use Rattle.ca_tree.specs.View.{statement_view}
use Rattle.ca_parse.proofs.Lines.{Loop}
use Rattle.ca_parse.proofs.StatementFronts.{item_lines}
use Rattle.ca_parse.proofs.statements.+statement.Given as goal

abbrev pub decreases-parse_items : goal.decreases-parse_items
decreases-parse_items l = 8 * length l.tokens.now + 4

abbrev pub decreases-parse_item : goal.decreases-parse_item
decreases-parse_item l = 8 * length l.tokens.now + 3

abbrev pub decreases-parse_statement : goal.decreases-parse_statement
decreases-parse_statement l = 8 * length l.tokens.now + 2

abbrev pub decreases-parse_nested : goal.decreases-parse_nested
decreases-parse_nested l = 8 * length l.tokens.now + 1

abbrev pub decreases-parse_if : goal.decreases-parse_if
decreases-parse_if l = 8 * length l.tokens.now

abbrev pub decreases-parse_while : goal.decreases-parse_while
decreases-parse_while l = 8 * length l.tokens.now

abbrev pub decreases-parse_for : goal.decreases-parse_for
decreases-parse_for l = 8 * length l.tokens.now

abbrev pub invariant-parse_items-items : goal.invariant-parse_items-items
invariant-parse_items-items l = Loop (item_lines l.fn.depth) l.tokens (map statement_view l.out.items) l.rest × (length l.rest ≤ length l.tokens)

abbrev pub decreases-parse_items-items : goal.decreases-parse_items-items
decreases-parse_items-items l = length l.rest

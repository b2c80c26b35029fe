use Rattle.std.proofs.Common.{◌-◌, ◌<◌, ◌≤◌, ◌+◌, ◌*◌, length, map}
use Rattle.ca_descent.specs.Exact.{Unlimited, Answer, Got, Exact, Gathers}
use Rattle.ca_tree.specs.declared.token.Token.{Token}
use Rattle.ca_tree.specs.declared.operators.TheConstants.{LEVELS}
use Rattle.ca_tree.specs.Operators.{unary_level}
use Rattle.ca_tree.specs.Plain.{Expression}
use Rattle.ca_tree.specs.View.{expression_view}
use Rattle.ca_expressions.specs.Grammar.{Level, Operands, Tails, Args, Expr}
use Rattle.ca_expressions.specs.Readers.{node_view, Closed}
use Rattle.ca_expressions.proofs.Lists.{MoreItems}
use Rattle.ca_expressions.proofs.inner.+expression.Given as goal

abbrev pub decreases-parse_args : goal.decreases-parse_args
decreases-parse_args l = 8 * length l.tokens.now

abbrev pub decreases-parse_by_word : goal.decreases-parse_by_word
decreases-parse_by_word l = 8 * length l.tokens.now

abbrev pub decreases-parse_inner_chain : goal.decreases-parse_inner_chain
decreases-parse_inner_chain l = 8 * length l.tokens.now + 2

abbrev pub decreases-parse_level : goal.decreases-parse_level
decreases-parse_level l = 8 * length l.tokens.now + 5

abbrev pub decreases-parse_operands : goal.decreases-parse_operands
decreases-parse_operands l = 8 * length l.tokens.now

abbrev pub decreases-parse_primary : goal.decreases-parse_primary
decreases-parse_primary l = 8 * length l.tokens.now + 3

abbrev pub decreases-parse_tail : goal.decreases-parse_tail
decreases-parse_tail l = 8 * length l.tokens.now

abbrev pub decreases-parse_tails : goal.decreases-parse_tails
decreases-parse_tails l = 8 * length l.tokens.now + 1

abbrev pub decreases-parse_unary : goal.decreases-parse_unary
decreases-parse_unary l = 8 * length l.tokens.now + 4

abbrev pub invariant-parse_args-more : goal.invariant-parse_args-more
invariant-parse_args-more l =
    Gathers (Unlimited Args) (Unlimited Args) (MoreItems (Unlimited Expr)) (MoreItems (Unlimited Expr)) l.tokens (map expression_view l.out.items) l.rest
    × (length l.rest < length l.tokens)

abbrev pub decreases-parse_args-more : goal.decreases-parse_args-more
decreases-parse_args-more l = length l.rest

abbrev pub invariant-parse_level-levels : goal.invariant-parse_level-levels
invariant-parse_level-levels l =
    Exact (Unlimited (Level l.reached)) (Closed l.reached (Level l.reached)) l.tokens (Got (node_view l.front) l.rest)
    × (l.level ≤ l.reached) × (l.reached ≤ LEVELS) × (length l.rest < length l.tokens)

abbrev pub decreases-parse_level-levels : goal.decreases-parse_level-levels
decreases-parse_level-levels l = l.reached - l.level

abbrev pub invariant-parse_operands-operators : goal.invariant-parse_operands-operators
invariant-parse_operands-operators l =
    ((o : Answer Token Expression) → Exact (Unlimited (Operands l.level (node_view l.front))) (Closed l.level (Operands l.level (node_view l.front))) l.rest o
    → Exact (Unlimited (Operands l.level (node_view l.fn.first))) (Closed l.level (Operands l.level (node_view l.fn.first))) l.tokens o)
    × (length l.rest ≤ length l.tokens)

abbrev pub decreases-parse_operands-operators : goal.decreases-parse_operands-operators
decreases-parse_operands-operators l = length l.rest

abbrev pub invariant-parse_tails-tails : goal.invariant-parse_tails-tails
invariant-parse_tails-tails l =
    ((o : Answer Token Expression) → Exact (Unlimited (Tails (node_view l.front))) (Closed unary_level (Tails (node_view l.front))) l.rest o
    → Exact (Unlimited (Tails (node_view l.fn.first))) (Closed unary_level (Tails (node_view l.fn.first))) l.tokens o)
    × (length l.rest ≤ length l.tokens)

abbrev pub decreases-parse_tails-tails : goal.decreases-parse_tails-tails
decreases-parse_tails-tails l = length l.rest

use Rattle.std.proofs.Common.{ap, length, length-take, arith}
use Rattle.ca_expressions.proofs.expressions.limited.Goals as goal

pub behind-requires : goal.behind-requires
behind-requires c = omega (arith, ap length c.requires, length-take 1001 c.args.tokens.now, c.saturating_sub-read.ensures, c.if-read-gt-MOST_IN_EXPRESSION.true)

pub behind-requires-in-Ok : goal.behind-requires-in-Ok
behind-requires-in-Ok c = omega (arith, ap length c.requires, length-take 1001 c.args.tokens.now, c.saturating_sub-read.ensures)

pub behind-requires-then-read-gt-MOST_IN_EXPRESSION-2 : goal.behind-requires-then-read-gt-MOST_IN_EXPRESSION-2
behind-requires-then-read-gt-MOST_IN_EXPRESSION-2 c =
    omega (arith, ap length c.requires, length-take 1001 c.args.tokens.now, c.saturating_sub-read-in-Err-Wrong.ensures, c.if-read-gt-MOST_IN_EXPRESSION-2.true)

pub behind-requires-in-Err-Wrong : goal.behind-requires-in-Err-Wrong
behind-requires-in-Err-Wrong c =
    omega (arith, ap length c.requires, length-take 1001 c.args.tokens.now, c.saturating_sub-read-in-Err-Wrong.ensures)

pub behind-requires-in-Err-TooDeep : goal.behind-requires-in-Err-TooDeep
behind-requires-in-Err-TooDeep c =
    omega (arith, ap length c.requires, length-take 1001 c.args.tokens.now, c.saturating_sub-read-in-Err-TooDeep.ensures)

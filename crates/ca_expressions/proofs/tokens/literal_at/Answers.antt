use mir.Val.{SFits}
use Rattle.std.proofs.Common.{rules, w64}
use Rattle.std.proofs.lemmas.Int.{to_z-of_z}
use Rattle.ca_tree.specs.declared.token.Keyword.TheVariants.{True, False, Nullptr}
use Rattle.ca_expressions.specs.Terminals.{literal_of}
use Rattle.ca_expressions.proofs.Terminals.{sees_also, number_gives, key_gives}
use Rattle.ca_expressions.proofs.Fronts.{no_literal}
use Rattle.ca_expressions.proofs.tokens.literal_at.Goals as goal

pub returns-in-Some-clause-some : goal.returns-in-Some-clause-some
returns-in-Some-clause-some c =
    let f : SFits w64 c.in-Some.n = search rules in
    let d = c.in-Some.ensures.some in
    rw (to_z-of_z w64 c.in-Some.n f) (sees_also d (number_gives literal_of d))

pub returns-in-Some-key_at-clause-some : goal.returns-in-Some-key_at-clause-some
returns-in-Some-key_at-clause-some c =
    let d = c.in-Some-key_at.ensures.some in sees_also d (key_gives literal_of True d)

pub returns-in-Some-key_at-2-clause-some : goal.returns-in-Some-key_at-2-clause-some
returns-in-Some-key_at-2-clause-some c =
    let d = c.in-Some-key_at-2.ensures.some in sees_also d (key_gives literal_of False d)

pub returns-in-Some-key_at-3-clause-some : goal.returns-in-Some-key_at-3-clause-some
returns-in-Some-key_at-3-clause-some c =
    let d = c.in-Some-key_at-3.ensures.some in sees_also d (key_gives literal_of Nullptr d)

pub returns-clause-none : goal.returns-clause-none
returns-clause-none c =
    no_literal c.args.tokens.now c.in_default.ensures.none c.in_default-key_at.ensures.none c.in_default-key_at-2.ensures.none c.in_default-key_at-3.ensures.none

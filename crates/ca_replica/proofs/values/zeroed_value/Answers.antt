use Rattle.std.proofs.Common.{sym, ◌∙◌}
use Rattle.ca_replica.proofs.InPlace.{value_stays, value_zeroed}
use Rattle.ca_replica.proofs.values.zeroed_value.Goals as goal

pub returns-then-is_written : goal.returns-then-is_written
returns-then-is_written c =
    c.zero_of.ensures ∙ value_zeroed c.args.written.now c.args.object.now c.args.field c.one_of-value.result c.one_of-value.ensures (sym c.is_written.ensures ∙ c.if-is_written.true)

pub returns : goal.returns
returns c = value_stays c.args.written.now c.args.object.now c.args.field c.one_of-value.result c.one_of-value.ensures (sym c.is_written.ensures ∙ c.if-is_written.false)

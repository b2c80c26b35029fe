use Rattle.std.proofs.Common.{true≢false, sym, subst, arith}
use Rattle.ca_deques.specs.Settings.{AllFit}
use Rattle.ca_deques.proofs.Grown.{both_fit, both_weigh}
use Rattle.ca_pool.proofs.performing.hand_all.Goals as goal

pub returns-then-not-push_all-clause-pushed : goal.returns-then-not-push_all-clause-pushed
returns-then-not-push_all-clause-pushed g c = λ e. absurd (true≢false e)

pub returns-then-not-put_all-clause-share : goal.returns-then-not-put_all-clause-share
returns-then-not-put_all-clause-share g c = subst (AllFit g.N.Round.setting) (sym (c.put_all.ensures.lost c.if-not-put_all.true)) c.push_all.ensures.share

pub returns-then-not-put_all-clause-pushed : goal.returns-then-not-put_all-clause-pushed
returns-then-not-put_all-clause-pushed g c = λ e. absurd (true≢false e)

pub returns-then-goes_on-clause-share : goal.returns-then-goes_on-clause-share
returns-then-goes_on-clause-share g c = both_fit c.put_all.new.list.items c.push_all.new.share.items c.args.applied.kept.items (c.put_all.ensures.put c.if-not-put_all.false).0 g.N.Round.setting c.push_all.ensures.share c.requires.kept

pub returns-then-goes_on-clause-room : goal.returns-then-goes_on-clause-room
returns-then-goes_on-clause-room g c = (c.put_all.ensures.put c.if-not-put_all.false).1

pub returns-then-goes_on-clause-pushed : goal.returns-then-goes_on-clause-pushed
returns-then-goes_on-clause-pushed g c = λ _ h. omega (arith, both_weigh c.put_all.new.list.items c.push_all.new.share.items c.args.applied.kept.items (c.put_all.ensures.put c.if-not-put_all.false).0 h, c.push_all.ensures.pushed c.if-not-push_all.false h)

pub returns-else-goes_on-clause-share : goal.returns-else-goes_on-clause-share
returns-else-goes_on-clause-share g c = both_fit c.put_all.new.list.items c.push_all.new.share.items c.args.applied.kept.items (c.put_all.ensures.put c.if-not-put_all.false).0 g.N.Round.setting c.push_all.ensures.share c.requires.kept

pub returns-else-goes_on-clause-room : goal.returns-else-goes_on-clause-room
returns-else-goes_on-clause-room g c = (c.put_all.ensures.put c.if-not-put_all.false).1

pub returns-else-goes_on-clause-pushed : goal.returns-else-goes_on-clause-pushed
returns-else-goes_on-clause-pushed g c = λ _ h. omega (arith, both_weigh c.put_all.new.list.items c.push_all.new.share.items c.args.applied.kept.items (c.put_all.ensures.put c.if-not-put_all.false).0 h, c.push_all.ensures.pushed c.if-not-push_all.false h)

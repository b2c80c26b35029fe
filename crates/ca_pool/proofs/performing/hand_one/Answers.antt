use Rattle.std.proofs.Common.{true≢false, ap, subst, sym, arith}
use Rattle.ca_meaning.specs.Multisets.{weight}
use Rattle.ca_cells.specs.declared.cells.Applied.{Applied}
use Rattle.ca_deques.specs.Settings.{AllFit}
use Rattle.ca_deques.proofs.Grown.{grown_fit, grown_weight}
use Rattle.ca_pool.specs.Parts.{kept_in, made_in}
use Rattle.ca_pool.proofs.performing.hand_one.Goals as goal

pub push_all-requires-clause-fits : goal.push_all-requires-clause-fits
push_all-requires-clause-fits g c = subst (λ (a : Applied). AllFit g.N.Round.setting (made_in a)) c.in-Ran.is c.requires.made

pub returns-then-push_all-clause-pushed : goal.returns-then-push_all-clause-pushed
returns-then-push_all-clause-pushed g c = λ _ h. omega (arith, c.push_all.ensures.pushed c.if-push_all.true h, ap (λ (a : Applied). weight h (made_in a)) c.in-Ran.is, ap (λ (a : Applied). weight h (kept_in a)) c.in-Ran.is)

pub returns-else-push_all-clause-pushed : goal.returns-else-push_all-clause-pushed
returns-else-push_all-clause-pushed g c = λ e. absurd (true≢false e)

pub returns-in-Stuck-clause-pushed : goal.returns-in-Stuck-clause-pushed
returns-in-Stuck-clause-pushed g c = λ _ h. omega (arith, ap (λ (a : Applied). weight h (made_in a)) c.in-Stuck.is, ap (λ (a : Applied). weight h (kept_in a)) c.in-Stuck.is)

pub returns-then-keep_back-clause-share : goal.returns-then-keep_back-clause-share
returns-then-keep_back-clause-share g c = grown_fit g.N.Round.setting _ _ _ (c.keep_back.ensures.added c.if-keep_back.true) c.requires.share (subst (λ (a : Applied). AllFit g.N.Round.setting (kept_in a)) c.in-Kept.is c.requires.kept)

pub returns-then-keep_back-clause-pushed : goal.returns-then-keep_back-clause-pushed
returns-then-keep_back-clause-pushed g c = λ _ h. omega (arith, grown_weight _ _ _ (c.keep_back.ensures.added c.if-keep_back.true) h, ap (λ (a : Applied). weight h (made_in a)) c.in-Kept.is, ap (λ (a : Applied). weight h (kept_in a)) c.in-Kept.is)

pub returns-else-keep_back-clause-share : goal.returns-else-keep_back-clause-share
returns-else-keep_back-clause-share g c = subst (AllFit g.N.Round.setting) (sym (c.keep_back.ensures.lost c.if-keep_back.false)) c.requires.share

pub returns-else-keep_back-clause-pushed : goal.returns-else-keep_back-clause-pushed
returns-else-keep_back-clause-pushed g c = λ e. absurd (true≢false e)

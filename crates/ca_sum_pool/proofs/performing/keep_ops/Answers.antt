use Rattle.std.proofs.Common.{◌≡◌, ◌∷◌, [], ◌++◌, sym, subst, arith}
use Rattle.ca_logs.specs.Entries.{task_after}
use Rattle.ca_deques.specs.Settings.{AllFit}
use Rattle.ca_deques.proofs.Grown.{shrunk_fit, last_fit, grown_fit, grown_weight, popped}
use Rattle.ca_sum_pool.proofs.performing.keep_ops.Goals as goal

pub returns-in-Some-clause-share : goal.returns-in-Some-clause-share
returns-in-Some-clause-share g c = subst (AllFit g.N.Round.setting) (sym (c.keep.ensures.lost c.if-keep.false)) c.loop-op.invariant.share

pub loop-op-preserved : goal.loop-op-preserved
loop-op-preserved g c = let i = c.loop-op.invariant in let x = task_after c.args.clock c.in-Some.op in let p = popped c.args.clock _ _ _ c.in-Some.ensures.items in
    let q : c.keep.new.list.items ≡ c.loop-op.share.items ++ x ∷ [] = c.keep.ensures.added c.if-keep.true in record {
      fits = shrunk_fit _ _ _ _ p i.fits;
      share = grown_fit _ _ _ _ q i.share (last_fit _ _ _ _ p i.fits);
      added = λ h. omega (arith, i.added h, grown_weight _ _ _ p h, grown_weight _ _ _ q h);
    }

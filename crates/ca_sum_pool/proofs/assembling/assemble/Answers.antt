use Rattle.std.proofs.Common.{refl, ◌∙◌, arith}
use Rattle.ca_deques.proofs.Parting.{fewer, last_unused, last_stole_nothing}
use Rattle.ca_sum_pool.proofs.Joins.{put_none, put_one, put_all, given_all}
use Rattle.ca_sum_pool.proofs.assembling.assemble.Goals as goal

pub of-part-requires-clause-unused : goal.of-part-requires-clause-unused
of-part-requires-clause-unused g c = let i = c.loop-owner.invariant.put in let e = c.in-Some.ensures.last in
    ((last_unused _ _ _ e.0 i.unused).0, λ h. (last_stole_nothing _ _ _ e.1 i.stolen h).0)

pub of-part-requires-clause-none : goal.of-part-requires-clause-none
of-part-requires-clause-none g c = c.lent-replica.ensures.none

pub loop-owner-init : goal.loop-owner-init
loop-owner-init g c = record {
  put = put_none g.K.Sums.listed c.args.calls c.args.owners.items c.args.thieves.items _ c.requires.calls c.requires.some c.requires.count c.requires.unused.0 c.requires.unused.1 c.new-parts.ensures.items;
  same = refl;
}

pub loop-owner-smaller : goal.loop-owner-smaller
loop-owner-smaller g c = fewer _ _ _ c.in-Some.ensures.last.0

pub loop-owner-preserved : goal.loop-owner-preserved
loop-owner-preserved g c = let i = c.loop-owner.invariant in let e = c.in-Some.ensures.last in record {
  put =
      put_one g.K.Sums.listed c.loop-owner.end c.begin_of-from.result _ _ _ _ _ _ _ _ _ _ _ e.0 e.1 c.in_ok-push.ensures.items c.of-part.ensures c.begin_of-from.ensures.within (λ none. c.begin_of-from.ensures.all (omega (arith, c.len-before.ensures, none))) i.put;
  same = c.lent-replica.ensures.same ∙ i.same;
}

pub returns-clause-assembled : goal.returns-clause-assembled
returns-clause-assembled g c = put_all g.K.Sums.listed c.loop-owner.end _ _ _ _ _ c.in_default.ensures.none c.loop-owner.invariant.put

pub returns-clause-given : goal.returns-clause-given
returns-clause-given g c = given_all g.K.Sums.listed c.loop-owner.end _ _ _ _ _ c.in_default.ensures.none c.loop-owner.invariant.put

pub returns-clause-memory : goal.returns-clause-memory
returns-clause-memory g c = c.loop-owner.invariant.same

use Rattle.std.proofs.Common.{sym, ap, subst, ◌∙◌, ◌+◌, ◌≡◌, List, ℕ, map}
use Rattle.ca_meaning.specs.Multisets.{weight}
use Rattle.ca_parallel.specs.declared.op.Op.{Op}
use Rattle.ca_logs.specs.declared.log.Task.{Task}
use Rattle.ca_sum_pool.specs.Parts.{begun}
use Rattle.ca_sum_pool.proofs.Joins.{torn_off}
use Rattle.ca_sum_pool.proofs.assembling.put_apart.Goals as goal

pub returns : goal.returns
returns g c =
    let p = c.apart-owner.result in
    let added : (h : Task → ℕ) → weight h c.add_calls.new.rest.items ≡ weight h c.args.apart.now.rest.items + weight h (begun g.K.Sums.listed p.at p.end) =
    subst (λ (os : List Op). (h : Task → ℕ) → weight h c.add_calls.new.rest.items ≡ weight h c.args.apart.now.rest.items + weight h (begun os p.at p.end)) (sym c.requires.listed) c.in_ok-add_calls.ensures.added in
    torn_off g.N.Round.setting g.K.Sums.extent g.K.Sums.left c.args.left _ _ _ _ _ _ _ _ _ _ _ _ _ _ _ _ _ _ _ _ _ _ _ _ _ _ c.pour.result c.requires.left c.in_ok-push.ensures.items c.in_ok-push-2.ensures.items c.in_ok-push-3.ensures.items c.in_ok-add_stuck.ensures c.both_counts-apart.ensures.few c.both_steps-apart.ensures c.apart-owner.ensures.same c.apart-owner.ensures.sound c.if-short.false
    (c.in_ok-add_calls.ensures.fits g.N.Round.setting c.requires.calls) added c.pour.ensures.fits c.pour.ensures.poured

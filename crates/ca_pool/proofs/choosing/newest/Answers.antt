use Rattle.std.proofs.Common.{◌≡◌, option_to_list, ap, subst, ◌∙◌, arith}
use Rattle.std.specs.Vec.{vec_len}
use Rattle.ca_meaning.specs.Multisets.{weight}
use Rattle.ca_order_laws.proofs.Weights.{weight_append}
use Rattle.ca_deques.specs.Settings.{Fits, AllFit}
use Rattle.ca_deques.proofs.Moves.{left, right}
use Rattle.ca_deques.proofs.Grown.{none_left}
use Rattle.ca_pool.proofs.choosing.newest.Goals as goal

pub returns-clause-share : goal.returns-clause-share
returns-clause-share g c = left (Fits g.N.Round.setting) c.pop.new.self.items (option_to_list c.pop.result) (subst (AllFit g.N.Round.setting) c.pop.ensures.items c.requires)

pub returns-clause-fits : goal.returns-clause-fits
returns-clause-fits g c = right (Fits g.N.Round.setting) c.pop.new.self.items (option_to_list c.pop.result) (subst (AllFit g.N.Round.setting) c.pop.ensures.items c.requires)

pub returns-clause-taken : goal.returns-clause-taken
returns-clause-taken g c = λ h. ap (weight h) c.pop.ensures.items ∙ weight_append h c.pop.new.self.items (option_to_list c.pop.result)

pub returns-clause-none : goal.returns-clause-none
returns-clause-none g c = λ e.
    let none : (vec_len c.args.share.now ≡ 0) × (vec_len c.pop.new.self ≡ 0) = rw e at c.pop.ensures.cases in
    none_left c.args.share.now.items (omega (arith, none.0, c.args.share.now.ok.0))

use Rattle.std.proofs.Common.{List, length, ap, subst, arith}
use Rattle.ca_logs.specs.declared.log.Task.{Task}
use Rattle.ca_deques.specs.Settings.{AllFit}
use Rattle.ca_deques.proofs.Told.{some_there}
use Rattle.ca_deques.proofs.taking.open_item.Goals as goal

pub pop_share-requires : goal.pop_share-requires
pop_share-requires g c = subst (AllFit g.N.Round.setting) c.into_tasks.ensures.same c.requires.fits

pub returns-clause-some : goal.returns-clause-some
returns-clause-some g c = some_there c.pop_share.result (λ e. let none = ap (λ (ts : List Task). length ts) (c.pop_share.ensures.empty e) in let some = c.into_tasks.ensures.some in omega (arith, none, some))

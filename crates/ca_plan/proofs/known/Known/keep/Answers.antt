use Rattle.std.proofs.Common.{IfSome, Some, sym, subst}
use Rattle.std.proofs.lemmas.List.Elements.{All-set}
use Rattle.ca_plan.specs.clauses.Keeping.{AllFit, Fits}
use Rattle.ca_plan.proofs.known.Known.keep.Goals as goal

pub returns : goal.returns
returns c = λ p all fits. subst (λ slots. AllFit p slots) (sym c.put_at.ensures) (All-set (λ slot. IfSome slot (Fits p)) c.args.self.now.slots.items _ (Some c.args.pair) fits all)

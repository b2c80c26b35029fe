use Rattle.std.proofs.Common.{Some, sym, subst}
use Rattle.std.specs.Prelude.{Contains}
use Rattle.ca_plan.specs.clauses.Keeping.{IsOn}
use Rattle.ca_plan.specs.Plans.{PairVerdict}
use Rattle.ca_plan.proofs.known.Known.find.Goals as goal

pub returns : goal.returns
returns c =
    let these = c.is_on.ensures c.if-not-is_on.false in
    let there = subst (λ slots. Contains slots (Some c.in-Some.kept.now)) c.as_slice.ensures.value c.in-Some.ensures in
    record {
      pair = subst (λ (v : PairVerdict). IsOn c.args.a c.args.b v) (sym c.in_ok-pair.ensures) these;
      kept = subst (λ (v : PairVerdict). Contains c.args.self.now.slots.items (Some v)) (sym c.in_ok-pair.ensures) there;
    }

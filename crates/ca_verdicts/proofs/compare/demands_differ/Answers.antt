use Rattle.std.proofs.Common.{◌≡◌, ◌++◌, [], ◌∷◌, List, map, sym, subst, rules}
use Rattle.std.specs.Prelude.{IfSome, IfNone}
use Rattle.ca_forms.specs.Plain.{PlainPolynomial}
use Rattle.ca_forms.specs.Rules.{gathered}
use Rattle.ca_sums.proofs.Products.{SameTotals}
use Rattle.ca_symbolic.specs.Demanded.{demands_of}
use Rattle.ca_verdicts.specs.Keys.{Key}
use Rattle.ca_verdicts.specs.declared.marks.Marks.{Marks}
use Rattle.ca_verdicts.specs.declared.verdicts.Reason.{Reason}
use Rattle.ca_verdicts.specs.Counts.{count_at, LightOrderSame}
use Rattle.ca_verdicts.specs.clauses.Comparisons.{TellsKey, TellsFirst, TellsSecond, TellsApart, Not}
use Rattle.ca_verdicts.specs.clauses.Marks.{marks_in, condition_of, summed_up, IsSame, AreSame, AllSettled, EachMarked}
use Rattle.ca_verdicts.proofs.Comparing.{told_of}
use Rattle.ca_verdicts.proofs.MarkSums.{demanded_is, each_front, each_last, same_more, all_same}
use Rattle.ca_verdicts.proofs.compare.demands_differ.Goals as goal

pub loop-key-init : goal.loop-key-init
loop-key-init c = (c.in_ok-entries.ensures.each, λ s. s, subst (AllSettled (map condition_of c.args.first.now) (map condition_of c.args.second.now)) (sym c.new-settled.ensures.empty) tt)

pub loop-key-preserved : goal.loop-key-preserved
loop-key-preserved c =
    let left : List (Key × Marks) = c.pop.new.self.items in
    let e : Key × Marks = (c.in-Some.key, c.in-Some.marks) in
    let items : c.loop-key.entries.items ≡ left ++ e ∷ [] = c.in-Some.ensures.items in
    let each : EachMarked c.args.first.now c.args.second.now (left ++ e ∷ []) = subst (EachMarked c.args.first.now c.args.second.now) items c.loop-key.invariant.0 in
    let fs : List PlainPolynomial = map condition_of c.args.first.now in
    let gs : List PlainPolynomial = map condition_of c.args.second.now in
    let before : AllSettled fs gs c.loop-key.known.settled.keys = c.loop-key.invariant.2 in
    let same : IsSame c.args.first.now c.args.second.now e =
    subst (λ (z : _). IfNone z (AllSettled fs gs c.loop-key.known.settled.keys → IsSame c.args.first.now c.args.second.now e)) c.in-None.is c.in_ok-told.ensures.same before in
    let known : AllSettled fs gs c.demand_tested.new.known.settled.keys =
    subst (λ (z : _). IfNone z (AllSettled fs gs c.loop-key.known.settled.keys → AllSettled fs gs c.demand_tested.new.known.settled.keys)) c.in-None.is c.in_ok-told.ensures.kept before in
    (each_front c.args.first.now c.args.second.now left e each, λ s. c.loop-key.invariant.1 (subst (AreSame c.args.first.now c.args.second.now) (sym items) (same_more c.args.first.now c.args.second.now left e s same)), known)

pub returns-in-Some-told-clause-differ : goal.returns-in-Some-told-clause-differ
returns-in-Some-told-clause-differ c =
    let left : List (Key × Marks) = c.pop.new.self.items in
    let e : Key × Marks = (c.in-Some.key, c.in-Some.marks) in
    let items : c.loop-key.entries.items ≡ left ++ e ∷ [] = c.in-Some.ensures.items in
    let each : EachMarked c.args.first.now c.args.second.now (left ++ e ∷ []) = subst (EachMarked c.args.first.now c.args.second.now) items c.loop-key.invariant.0 in
    let marked : SameTotals c.in-Some.marks.first.items (marks_in c.in-Some.key 0 c.args.first.now) × SameTotals c.in-Some.marks.second.items (marks_in c.in-Some.key 0 c.args.second.now) = each_last c.args.first.now c.args.second.now left e each in
    let w : Reason = c.in-Some-told.reason in
    told_of c.in-Some.key (gathered (summed_up (map condition_of c.args.first.now) c.in-Some.marks.first.items)) (gathered (summed_up (map condition_of c.args.second.now) c.in-Some.marks.second.items)) (demands_of c.args.first.now) (demands_of c.args.second.now) w
    (demanded_is c.args.first.now c.in-Some.key c.in-Some.marks.first.items marked.0)
    (demanded_is c.args.second.now c.in-Some.key c.in-Some.marks.second.items marked.1)
    (subst (λ z. IfSome z (TellsKey c.in-Some.key)) c.in-Some-told.is c.in_ok-told.ensures.key)
    (subst (λ z. IfSome z (TellsFirst (gathered (summed_up (map condition_of c.args.first.now) c.in-Some.marks.first.items)))) c.in-Some-told.is c.in_ok-told.ensures.first)
    (subst (λ z. IfSome z (TellsSecond (gathered (summed_up (map condition_of c.args.second.now) c.in-Some.marks.second.items)))) c.in-Some-told.is c.in_ok-told.ensures.second)
    (subst (λ z. IfSome z TellsApart) c.in-Some-told.is c.in_ok-told.ensures.differ)
    (subst (λ (z : _). IfSome z (λ _. Not (LightOrderSame (count_at c.in-Some.key (demands_of c.args.first.now)) (count_at c.in-Some.key (demands_of c.args.second.now))))) c.in-Some-told.is c.in_ok-told.ensures.orders)

pub returns-clause-same : goal.returns-clause-same
returns-clause-same c =
    let over : c.loop-key.entries.items ≡ [] = search rules in
    let all : AreSame c.args.first.now c.args.second.now c.in_ok-entries.entries.items = c.loop-key.invariant.1 (subst (AreSame c.args.first.now c.args.second.now) (sym over) tt) in
    all_same c.args.first.now c.args.second.now c.in_ok-entries.entries.items c.in_ok-entries.ensures.first c.in_ok-entries.ensures.second all

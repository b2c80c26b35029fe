use Rattle.std.proofs.Common.{◌≡◌, ℕ, ◌+◌, [], ◌∷◌, List, length, drop, sym, subst, arith, true≢false}
use Rattle.std.proofs.lemmas.List.{drop_all}
use Rattle.ca_lists.proofs.Places.{item_and_rest}
use Rattle.ca_symbolic.specs.declared.demand.Group.{Group}
use Rattle.ca_symbolic.specs.Demanded.{demands_of}
use Rattle.ca_verdicts.proofs.JoinedGroups.{counted}
use Rattle.ca_verdicts.proofs.compare.orders.are_few.Goals as goal

pub loop-group-init : goal.loop-group-init
loop-group-init c =
    let all : 0 + length (demands_of c.args.groups.now) ≡ length (demands_of c.args.groups.now) = omega arith in
    (all, omega arith)

pub loop-group-preserved : goal.loop-group-preserved
loop-group-preserved c =
    let gs : List Group = c.args.groups.now in
    let i : ℕ = c.loop-group.group-index in
    let g : Group = c.group-item.result in
    let rest : List Group = drop (i + 1) gs in
    let step : drop i gs ≡ g ∷ rest = item_and_rest gs i g c.loop-group-test.true c.group-item.is in
    let before : c.loop-group.count + length (demands_of (g ∷ rest)) ≡ length (demands_of gs) = subst (λ z. c.loop-group.count + length (demands_of z) ≡ length (demands_of gs)) step c.loop-group.invariant.0 in
    let all : c.in-Some.sum + length (demands_of rest) ≡ length (demands_of gs) = omega (arith, before, c.in-Some.ensures.1, c.len.ensures, g.items.ok.0, counted g rest) in
    (all, omega (arith, c.in-Some.ensures.0, c.in-Some.ensures.1))

pub returns-in_default : goal.returns-in_default
returns-in_default c = λ e. absurd (true≢false (sym e))

pub returns : goal.returns
returns c =
    let gs : List Group = c.args.groups.now in
    let over : drop c.loop-group.group-index gs ≡ [] = drop_all c.loop-group.group-index gs c.loop-group-test.false in
    let all : c.loop-group.count + 0 ≡ length (demands_of gs) = subst (λ z. c.loop-group.count + length (demands_of z) ≡ length (demands_of gs)) over c.loop-group.invariant.0 in
    λ _. omega (arith, all, c.loop-group.invariant.1)

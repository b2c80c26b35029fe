use Rattle.std.proofs.Common.{List, [], ◌∷◌, ◌++◌, sym, subst, arith, All}
use Rattle.ca_cells.specs.Seats.{IsOf}
use Rattle.ca_cells.specs.declared.cells.Seat.{Seat}
use Rattle.ca_pool_tests.proofs.SameSeats.{Same, same_again, still_of, all_still, last_noted, last_holds}
use Rattle.ca_pool_tests.proofs.histories.closes.Goals as goal

pub apply_twice-first-requires-clause-set : goal.apply_twice-first-requires-clause-set
apply_twice-first-requires-clause-set g c = (c.set-extent.ensures.set, c.requires, c.set-extent.ensures.objects)

pub apply_twice-second-requires-clause-place : goal.apply_twice-second-requires-clause-place
apply_twice-second-requires-clause-place g c = let cells = c.set-extent.result.3 in
    let of : All (λ (s : Seat). IsOf cells s) (c.pop.new.self.items ++ c.in-Some.seat ∷ []) = subst (λ (ss : List Seat). All (λ (s : Seat). IsOf cells s) ss) c.in-Some.ensures.items (c.set-extent.ensures.seats.0).of in
    still_of cells c.in-Some.seat c.apply_twice-first.new.seat c.apply_twice-first.ensures (last_holds (λ (s : Seat). IsOf cells s) c.pop.new.self.items c.in-Some.seat of)

pub apply_twice-second-requires-clause-set : goal.apply_twice-second-requires-clause-set
apply_twice-second-requires-clause-set g c = (c.set-extent.ensures.set, c.requires, c.set-extent.ensures.objects)

pub gather-log-requires : goal.gather-log-requires
gather-log-requires g c = let rest = c.pop.new.self.items in let seat = c.in-Some.seat in let last = c.apply_twice-second.new.seat in
    let same : Same (rest ++ seat ∷ []) (rest ++ last ∷ []) = last_noted rest seat last (same_again seat c.apply_twice-first.new.seat last c.apply_twice-first.ensures c.apply_twice-second.ensures) in
    let from : Same c.set-extent.result.4.items (rest ++ last ∷ []) = subst (λ (ss : List Seat). Same ss (rest ++ last ∷ [])) (sym c.in-Some.ensures.items) same in
    let all : Same c.set-extent.result.4.items c.push.new.self.items = subst (λ (ss : List Seat). Same c.set-extent.result.4.items ss) (sym c.in-Ok.ensures.items) from in
    record {
      all = all_still c.set-extent.result.3 c.set-extent.result.4.items c.push.new.self.items all (c.set-extent.ensures.seats.0);
      room = (c.in-Ok-with_capacity.ensures.items, (let wide = c.in-Ok-with_capacity.ensures.exact in let long = c.len.ensures in omega (arith, wide, long)));
    }

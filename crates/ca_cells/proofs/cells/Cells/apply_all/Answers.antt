use Rattle.std.proofs.Common.{◌≡◌, ◌<◌, ◌++◌, drop, length, List, refl, sym, ap, ◌∙◌, subst, arith, All, Some}
use Rattle.ca_model.specs.declared.value.Object.{Object}
use Rattle.ca_logs.specs.declared.log.CellLog.{CellLog}
use Rattle.ca_logs.specs.Entries.{HasReceiver}
use Rattle.ca_cells.specs.Rounds.{MayRun, now_of}
use Rattle.ca_cells.specs.Notes.{InOrder}
use Rattle.ca_cells.specs.clauses.Plays.{Mine, Holds, Chain, holding, let_go, giving}
use Rattle.ca_cells.specs.Items.{closing_place}
use Rattle.ca_cells.specs.Seats.{cells_key}
use Rattle.ca_cells.specs.declared.rule.Given.{Given}
use Rattle.ca_cells.proofs.Applies.{told, is_inside}
use Rattle.ca_cells.proofs.Coursing.{course_of, chain_in_order, chain_by, first_receiver, these_have}
use Rattle.ca_cells.proofs.Resting.{same_seat}
use Rattle.ca_cells.proofs.cells.Cells.apply_all.Goals as goal

same_given : (a b : Given) → Some a ≡ Some b → a ≡ b
same_given a b e = cc

pub take-requires-clause-table : goal.take-requires-clause-table
take-requires-clause-table g c = c.requires.place.0

pub take-requires-clause-now : goal.take-requires-clause-now
take-requires-clause-now g c = λ given is. let key = cells_key c.args.self.now in ap (λ (x : Given). now_of x) (same_given given key (sym is ∙ c.requires.place.1)) ∙ c.requires.now

pub take-requires-clause-inside : goal.take-requires-clause-inside
take-requires-clause-inside g c = let key = cells_key c.args.self.now in let n = c.receiver_of-number.result in
    let of = these_have c.args.tasks.items c.as_slice.result.now c.requires.one.0 n c.as_slice.ensures.value c.requires.one.1 c.receiver_of-number.ensures in
    let l = first_receiver key c.args.tasks.items n of c.requires.may_run c.requires.tasks.0 in let e = ap (λ (os : List Object). length os) c.requires.given.1 in omega (arith, l, e)

pub take-requires-clause-of_round : goal.take-requires-clause-of_round
take-requires-clause-of_round g c = let key = cells_key c.args.self.now in let n = c.receiver_of-number.result in
    let of = these_have c.args.tasks.items c.as_slice.result.now c.requires.one.0 n c.as_slice.ensures.value c.requires.one.1 c.receiver_of-number.ensures in
    is_inside key c.args.worker.now.inner.me.0.given n c.requires.place.1 (let l = first_receiver key c.args.tasks.items n of c.requires.may_run c.requires.tasks.0 in let a = c.args.self.now.alike in omega (arith, l, a))

pub run_in_slot-ran-requires-clause-legal : goal.run_in_slot-ran-requires-clause-legal
run_in_slot-ran-requires-clause-legal g c = told (cells_key c.args.self.now) _ _ c.in-Ok.taken.0 c.requires.place.1 c.in-Ok.ensures.legal

pub run_in_slot-ran-requires-clause-tasks : goal.run_in_slot-ran-requires-clause-tasks
run_in_slot-ran-requires-clause-tasks g c = let key = cells_key c.args.self.now in let n = c.receiver_of-number.result in
    let of = these_have c.args.tasks.items c.as_slice.result.now c.requires.one.0 n c.as_slice.ensures.value c.requires.one.1 c.receiver_of-number.ensures in
    let s = sym c.as_slice-2.ensures.value in (subst (All (MayRun key)) s c.requires.may_run, subst (All (HasReceiver n)) s of, subst (λ ts. 0 < length ts) s c.requires.tasks.0)

pub give_back-requires-clause-table : goal.give_back-requires-clause-table
give_back-requires-clause-table g c = (c.take.ensures.table ∙ c.requires.place.0, c.in-Ok.ensures.class)

pub give_back-requires-clause-inside : goal.give_back-requires-clause-inside
give_back-requires-clause-inside g c = let key = cells_key c.args.self.now in let n = c.receiver_of-number.result in
    let of = these_have c.args.tasks.items c.as_slice.result.now c.requires.one.0 n c.as_slice.ensures.value c.requires.one.1 c.receiver_of-number.ensures in
    let log = c.in-Ok.taken.0 in let new = c.run_in_slot-ran.new.log in let held = c.in-Ok.ensures.me.1 in let given = ap (λ (m : Mine). m.0.given) held ∙ c.requires.place.1 in
    is_inside key c.take.new.seat.me.0.given n given (let l = first_receiver key c.args.tasks.items n of c.requires.may_run c.requires.tasks.0 in let a = c.args.self.now.alike in omega (arith, l, a))

pub release_same-requires-clause-table : goal.release_same-requires-clause-table
release_same-requires-clause-table g c = (c.take.ensures.table ∙ c.requires.place.0, c.in-Ok.ensures.class)

pub release_same-requires-clause-inside : goal.release_same-requires-clause-inside
release_same-requires-clause-inside g c = let key = cells_key c.args.self.now in let n = c.receiver_of-number.result in
    let of = these_have c.args.tasks.items c.as_slice.result.now c.requires.one.0 n c.as_slice.ensures.value c.requires.one.1 c.receiver_of-number.ensures in
    let log = c.in-Ok.taken.0 in let new = c.run_in_slot-ran.new.log in let held = c.in-Ok.ensures.me.1 in let given = ap (λ (m : Mine). m.0.given) held ∙ c.requires.place.1 in
    is_inside key c.take.new.seat.me.0.given n given (let l = first_receiver key c.args.tasks.items n of c.requires.may_run c.requires.tasks.0 in let a = c.args.self.now.alike in omega (arith, l, a))

pub give_back-requires-clause-held : goal.give_back-requires-clause-held
give_back-requires-clause-held g c =
    subst (λ (l : CellLog). Holds c.args.self.now.table.shared.table_id.slots c.take.new.seat.me c.receiver_of-number.result l c.in-Ok.taken.1) (sym c.of-found.ensures) c.in-Ok.ensures.held

pub give_back-requires-clause-next : goal.give_back-requires-clause-next
give_back-requires-clause-next g c = let key = cells_key c.args.self.now in let n = c.receiver_of-number.result in
    let of = these_have c.args.tasks.items c.as_slice.result.now c.requires.one.0 n c.as_slice.ensures.value c.requires.one.1 c.receiver_of-number.ensures in
    let log = c.in-Ok.taken.0 in let new = c.run_in_slot-ran.new.log in let held = c.in-Ok.ensures.me.1 in let given = ap (λ (m : Mine). m.0.given) held ∙ c.requires.place.1 in
    let course = course_of key c.args.left n log new c.args.tasks.items c.as_slice-2.result.now c.run_in_slot-ran.new.made.items (drop c.in-Ok-ran.course.count c.args.tasks.items) c.in-Ok-ran.course c.as_slice-2.ensures.value of refl c.in-Ok-ran.ensures.ran in
    let next = chain_by key c.take.new.seat.me.0.given n c.of-found.result.value new course.notes given (subst (λ (l : CellLog). Chain key n l course.notes new) (sym c.of-found.ensures) course.chain) in
    (course.notes, next)

pub give_back-requires-clause-closing : goal.give_back-requires-clause-closing
give_back-requires-clause-closing g c = let key = cells_key c.args.self.now in let n = c.receiver_of-number.result in
    let of = these_have c.args.tasks.items c.as_slice.result.now c.requires.one.0 n c.as_slice.ensures.value c.requires.one.1 c.receiver_of-number.ensures in
    let log = c.in-Ok.taken.0 in let new = c.run_in_slot-ran.new.log in let held = c.in-Ok.ensures.me.1 in let given = ap (λ (m : Mine). m.0.given) held ∙ c.requires.place.1 in
    let course = course_of key c.args.left n log new c.args.tasks.items c.as_slice-2.result.now c.run_in_slot-ran.new.made.items (drop c.in-Ok-ran.course.count c.args.tasks.items) c.in-Ok-ran.course c.as_slice-2.ensures.value of refl c.in-Ok-ran.ensures.ran in
    let next = chain_by key c.take.new.seat.me.0.given n c.of-found.result.value new course.notes given (subst (λ (l : CellLog). Chain key n l course.notes new) (sym c.of-found.ensures) course.chain) in
    course.closing

pub release_same-requires-clause-held : goal.release_same-requires-clause-held
release_same-requires-clause-held g c =
    subst (λ (l : CellLog). Holds c.args.self.now.table.shared.table_id.slots c.take.new.seat.me c.receiver_of-number.result l c.in-Ok.taken.1) (sym c.in-Err-ran.ensures.kept) c.in-Ok.ensures.held

pub invariant_of-worker : goal.invariant_of-worker
invariant_of-worker g c = let me = c.in-Err.ensures.refused in record {
  live = ap (λ (m : Mine). m.0.live) me ∙ c.args.worker.now.live;
  rests = ap (λ (m : Mine). m.0.at) me;
  empty = ap (λ (m : Mine). length m.1) me;
  in_order = subst InOrder (sym (ap (λ (m : Mine). m.0.noted) me)) c.args.worker.now.in_order;
}

pub invariant_of-worker-in-Ok-ran : goal.invariant_of-worker-in-Ok-ran
invariant_of-worker-in-Ok-ran g c = let key = cells_key c.args.self.now in let n = c.receiver_of-number.result in
    let of = these_have c.args.tasks.items c.as_slice.result.now c.requires.one.0 n c.as_slice.ensures.value c.requires.one.1 c.receiver_of-number.ensures in
    let log = c.in-Ok.taken.0 in let new = c.run_in_slot-ran.new.log in let held = c.in-Ok.ensures.me.1 in let given = ap (λ (m : Mine). m.0.given) held ∙ c.requires.place.1 in
    let course = course_of key c.args.left n log new c.args.tasks.items c.as_slice-2.result.now c.run_in_slot-ran.new.made.items (drop c.in-Ok-ran.course.count c.args.tasks.items) c.in-Ok-ran.course c.as_slice-2.ensures.value of refl c.in-Ok-ran.ensures.ran in
    let next = chain_by key c.take.new.seat.me.0.given n c.of-found.result.value new course.notes given (subst (λ (l : CellLog). Chain key n l course.notes new) (sym c.of-found.ensures) course.chain) in
    let me = c.give_back.ensures.noted course.notes next in
    let noted = ap (λ (m : Mine). m.0.noted) me ∙ ap (λ (m : Mine). m.0.noted ++ course.notes) held in record {
      live = ap (λ (m : Mine). m.0.live) me ∙ (ap (λ (m : Mine). m.0.live) held ∙ c.args.worker.now.live);
      rests = ap (λ (m : Mine). m.0.at) me;
      empty = ap (λ (m : Mine). length m.1) me;
      in_order = subst InOrder (sym noted) (chain_in_order key c.args.left n c.args.worker.now.inner.me.0.noted course.chain c.args.worker.now.in_order c.in-Ok.ensures.later);
    }

pub invariant_of-worker-in-Err-ran : goal.invariant_of-worker-in-Err-ran
invariant_of-worker-in-Err-ran g c = let held = c.in-Ok.ensures.me.1 in let me = c.release_same.ensures.noted in record {
  live = ap (λ (m : Mine). m.0.live) me ∙ (ap (λ (m : Mine). m.0.live) held ∙ c.args.worker.now.live);
  rests = ap (λ (m : Mine). m.0.at) me;
  empty = ap (λ (m : Mine). length m.1) me;
  in_order = subst InOrder (sym (ap (λ (m : Mine). m.0.noted) me ∙ ap (λ (m : Mine). m.0.noted) held)) c.args.worker.now.in_order;
}

pub returns-in-Err-clause-same : goal.returns-in-Err-clause-same
returns-in-Err-clause-same g c = let me = c.in-Err.ensures.refused in
    same_seat c.args.worker.now _ (let_go c.args.worker.now.inner.me.0) c.take.ensures.table (ap (λ (m : Mine). m.0) me) refl refl refl refl refl

pub returns-in-Err-clause-refused : goal.returns-in-Err-clause-refused
returns-in-Err-clause-refused g c = let me = c.in-Err.ensures.refused in (refl, ap (λ (m : Mine). m.0.noted) me, ap (λ (m : Mine). m.0.kept) me)

pub returns-in-Ok-ran-clause-same : goal.returns-in-Ok-ran-clause-same
returns-in-Ok-ran-clause-same g c = let key = cells_key c.args.self.now in let n = c.receiver_of-number.result in
    let of = these_have c.args.tasks.items c.as_slice.result.now c.requires.one.0 n c.as_slice.ensures.value c.requires.one.1 c.receiver_of-number.ensures in
    let log = c.in-Ok.taken.0 in let new = c.run_in_slot-ran.new.log in let held = c.in-Ok.ensures.me.1 in let given = ap (λ (m : Mine). m.0.given) held ∙ c.requires.place.1 in
    let course = course_of key c.args.left n log new c.args.tasks.items c.as_slice-2.result.now c.run_in_slot-ran.new.made.items (drop c.in-Ok-ran.course.count c.args.tasks.items) c.in-Ok-ran.course c.as_slice-2.ensures.value of refl c.in-Ok-ran.ensures.ran in
    let next = chain_by key c.take.new.seat.me.0.given n c.of-found.result.value new course.notes given (subst (λ (l : CellLog). Chain key n l course.notes new) (sym c.of-found.ensures) course.chain) in
    let places = closing_place n new c.in-Ok-ran.course.closed in let me = c.give_back.ensures.noted course.notes next in
    same_seat c.args.worker.now _ (giving (holding c.args.worker.now.inner.me.0 c.in-Ok.taken.1.class c.in-Ok.ensures.me.0) course.notes places) (c.give_back.ensures.table ∙ c.take.ensures.table) (ap (λ (m : Mine). m.0) me ∙ ap (λ (m : Mine). giving m.0 course.notes places) held) refl refl refl refl refl

pub returns-in-Ok-ran-clause-applied : goal.returns-in-Ok-ran-clause-applied
returns-in-Ok-ran-clause-applied g c = let key = cells_key c.args.self.now in let n = c.receiver_of-number.result in
    let of = these_have c.args.tasks.items c.as_slice.result.now c.requires.one.0 n c.as_slice.ensures.value c.requires.one.1 c.receiver_of-number.ensures in
    let log = c.in-Ok.taken.0 in let new = c.run_in_slot-ran.new.log in let held = c.in-Ok.ensures.me.1 in let given = ap (λ (m : Mine). m.0.given) held ∙ c.requires.place.1 in
    let course = course_of key c.args.left n log new c.args.tasks.items c.as_slice-2.result.now c.run_in_slot-ran.new.made.items c.behind.result.items c.in-Ok-ran.course c.as_slice-2.ensures.value of c.behind.ensures c.in-Ok-ran.ensures.ran in
    let next = chain_by key c.take.new.seat.me.0.given n c.of-found.result.value new course.notes given (subst (λ (l : CellLog). Chain key n l course.notes new) (sym c.of-found.ensures) course.chain) in
    let me = c.give_back.ensures.noted course.notes next in record {
      cell = n;
      found = log;
      last = new;
      notes = course.notes;
      legal = (told key _ n log c.requires.place.1 c.in-Ok.ensures.legal).1;
      one = of;
      runs = course.runs;
      noted = ap (λ (m : Mine). m.0.noted) me ∙ ap (λ (m : Mine). m.0.noted ++ course.notes) held;
      closed = ap (λ (m : Mine). m.0.kept) me ∙ (ap (λ (m : Mine). m.0.kept ++ closing_place n new c.in-Ok-ran.course.closed) held ∙ ap (λ b. c.args.worker.now.inner.me.0.kept ++ closing_place n new b) course.closed_is);
      closing = λ e. course.closing (course.closed_is ∙ e);
      may_run = course.may_run;
    }

pub returns-clause-same : goal.returns-clause-same
returns-clause-same g c = let held = c.in-Ok.ensures.me.1 in
    same_seat c.args.worker.now _ (let_go (holding c.args.worker.now.inner.me.0 c.in-Ok.taken.1.class c.in-Ok.ensures.me.0)) (c.release_same.ensures.table ∙ c.take.ensures.table) (ap (λ (m : Mine). m.0) c.release_same.ensures.noted ∙ ap (λ (m : Mine). let_go m.0) held) refl refl refl refl refl

pub returns-clause-refused : goal.returns-clause-refused
returns-clause-refused g c = let held = c.in-Ok.ensures.me.1 in let me = c.release_same.ensures.noted in
    (refl, ap (λ (m : Mine). m.0.noted) me ∙ ap (λ (m : Mine). m.0.noted) held, ap (λ (m : Mine). m.0.kept) me ∙ ap (λ (m : Mine). m.0.kept) held)

use Rattle.std.proofs.Common.{◌≡◌, ◌<◌, [], ◌∷◌, ◌++◌, length, List, refl, sym, ap, ◌∙◌, subst, arith, All, Some, append-nil}
use Rattle.ca_program.specs.View.{program_view}
use Rattle.ca_meaning.specs.Sections.{section}
use Rattle.ca_logs.specs.declared.log.CellLog.{CellLog}
use Rattle.ca_logs.specs.Entries.{call_of}
use Rattle.ca_cells.specs.Histories.{is_closed, next_clock, stuck_entry}
use Rattle.ca_cells.specs.Adds.{IsRan}
use Rattle.ca_cells.specs.Rounds.{program_of, frozen_of, now_of, IsLegal}
use Rattle.ca_cells.specs.declared.rule.Given.{Given}
use Rattle.ca_model.specs.declared.value.Object.{Object}
use Rattle.ca_cells.specs.Notes.{IsKept, InOrder, note_of, last_place}
use Rattle.ca_cells.specs.clauses.Plays.{Mine, Holds, holding, let_go, noting, keeping}
use Rattle.ca_cells.specs.Seats.{cells_key}
use Rattle.ca_cells.specs.declared.adding.Added.{Added}
use Rattle.ca_cells.specs.declared.rule.Note.{Note}
use Rattle.ca_cells.proofs.Applies.{ran_of, stuck_of, by_kept, ran_grows, stuck_grows, grown_by, same_by, the_ran, closed_kept, in_order_more, told, may_add, still_legal, all_may_run, receiver_in, is_inside, number_in}
use Rattle.ca_cells.proofs.Resting.{same_seat}
use Rattle.ca_cells.proofs.cells.Cells.apply_to.Goals as goal

pub take-requires-clause-table : goal.take-requires-clause-table
take-requires-clause-table g c = c.requires.place.0

pub take-requires-clause-of_round : goal.take-requires-clause-of_round
take-requires-clause-of_round g c = is_inside (cells_key c.args.self.now) c.args.worker.now.inner.me.0.given _ c.requires.place.1 (number_in (cells_key c.args.self.now) c.args.task.now c.args.self.now.alike c.requires.may_run)

pub add-requires-clause-program : goal.add-requires-clause-program
add-requires-clause-program g c = let key = cells_key c.args.self.now in
    (may_add key _ _ c.args.task.now c.in-Ok.taken.0 c.requires.given.0 c.requires.given.1 c.requires.may_run (told key _ c.args.task.now.op.receiver c.in-Ok.taken.0 c.requires.place.1 c.in-Ok.ensures.legal)).program

pub add-requires-clause-heap : goal.add-requires-clause-heap
add-requires-clause-heap g c = let key = cells_key c.args.self.now in
    (may_add key _ _ c.args.task.now c.in-Ok.taken.0 c.requires.given.0 c.requires.given.1 c.requires.may_run (told key _ c.args.task.now.op.receiver c.in-Ok.taken.0 c.requires.place.1 c.in-Ok.ensures.legal)).heap

pub add-requires-clause-legal : goal.add-requires-clause-legal
add-requires-clause-legal g c = let key = cells_key c.args.self.now in
    (may_add key _ _ c.args.task.now c.in-Ok.taken.0 c.requires.given.0 c.requires.given.1 c.requires.may_run (told key _ c.args.task.now.op.receiver c.in-Ok.taken.0 c.requires.place.1 c.in-Ok.ensures.legal)).legal

pub add-requires-clause-typed : goal.add-requires-clause-typed
add-requires-clause-typed g c = let key = cells_key c.args.self.now in
    (may_add key _ _ c.args.task.now c.in-Ok.taken.0 c.requires.given.0 c.requires.given.1 c.requires.may_run (told key _ c.args.task.now.op.receiver c.in-Ok.taken.0 c.requires.place.1 c.in-Ok.ensures.legal)).typed

pub release-requires-clause-next : goal.release-requires-clause-next
release-requires-clause-next g c = let key = cells_key c.args.self.now in let found = c.of-found.result.value in let n = c.args.task.now.op.receiver in let q = c.requires.given in let e = c.in-Ok-Ran.ensures in
    let ran = ran_of key (program_view c.args.program.now) c.args.frozen.now c.args.task.now c.args.left found c.in-Ok.taken.0 c.add.new.log _ c.in-Ok-Ran.tasks.items c.in-Ok-Ran.steps c.of-found.ensures q.0 q.1 e.exact
    (subst (λ (a : Added). IsRan a c.in-Ok-Ran.tasks.items c.in-Ok-Ran.steps) (sym c.in-Ok-Ran.field-0-is) (refl, refl)) in
    let was = told key _ n c.in-Ok.taken.0 c.requires.place.1 c.in-Ok.ensures.legal in
    let legal = still_legal key (program_view c.args.program.now) c.args.frozen.now c.args.task.now c.in-Ok.taken.0 c.add.new.log q.0 q.1 c.requires.may_run was
    (ap (λ (l : CellLog). l.opened) ran.3 ∙ ap (λ (l : CellLog). l.opened) c.of-found.ensures) (e.legal, e.agrees) in
    (note_of n found (the_ran c.args.task.now found ran.1) ∷ [], grown_by key c.take.new.seat.me.0.given n found c.add.new.log _ (ap (λ (m : Mine). m.0.given) c.in-Ok.ensures.me.1 ∙ c.requires.place.1) (ran_grows key _ c.args.task.now found c.add.new.log _ _ ran legal))

pub invariant_of-worker-in-Ok-Ran : goal.invariant_of-worker-in-Ok-Ran
invariant_of-worker-in-Ok-Ran g c = let key = cells_key c.args.self.now in let found = c.of-found.result.value in let n = c.args.task.now.op.receiver in let q = c.requires.given in let e = c.in-Ok-Ran.ensures in
    let ran = ran_of key (program_view c.args.program.now) c.args.frozen.now c.args.task.now c.args.left found c.in-Ok.taken.0 c.add.new.log _ c.in-Ok-Ran.tasks.items c.in-Ok-Ran.steps c.of-found.ensures q.0 q.1 e.exact
    (subst (λ (a : Added). IsRan a c.in-Ok-Ran.tasks.items c.in-Ok-Ran.steps) (sym c.in-Ok-Ran.field-0-is) (refl, refl)) in
    let was = told key _ n c.in-Ok.taken.0 c.requires.place.1 c.in-Ok.ensures.legal in
    let legal = still_legal key (program_view c.args.program.now) c.args.frozen.now c.args.task.now c.in-Ok.taken.0 c.add.new.log q.0 q.1 c.requires.may_run was
    (ap (λ (l : CellLog). l.opened) ran.3 ∙ ap (λ (l : CellLog). l.opened) c.of-found.ensures) (e.legal, e.agrees) in
    let next = grown_by key c.take.new.seat.me.0.given n found c.add.new.log (the_ran c.args.task.now found ran.1) (ap (λ (m : Mine). m.0.given) c.in-Ok.ensures.me.1 ∙ c.requires.place.1) (ran_grows key _ c.args.task.now found c.add.new.log _ _ ran legal) in
    let note : Note = note_of n found (the_ran c.args.task.now found ran.1) in
    let me = c.release.ensures.noted (note ∷ []) next in
    let held = c.in-Ok.ensures.me.1 in
    let noted = ap (λ (m : Mine). m.0.noted) me ∙ ap (λ (m : Mine). m.0.noted ++ note ∷ []) held in record {
      live = ap (λ (m : Mine). m.0.live) me ∙ (ap (λ (m : Mine). m.0.live) held ∙ c.args.worker.now.live);
      rests = ap (λ (m : Mine). m.0.at) me;
      empty = ap (λ (m : Mine). length m.1) me;
      in_order = subst InOrder (sym noted) (in_order_more c.args.worker.now.inner.me.0.noted note c.args.worker.now.in_order
          (subst (λ (l : CellLog). All (λ (x : Note). x.cell ≡ n → x.place < length l.entries) c.args.worker.now.inner.me.0.noted) (sym c.of-found.ensures) c.in-Ok.ensures.later));
    }

pub release_stuck-requires-clause-next : goal.release_stuck-requires-clause-next
release_stuck-requires-clause-next g c = let key = cells_key c.args.self.now in let found = c.of-found.result.value in let n = c.args.task.now.op.receiver in let q = c.requires.given in let e = c.in-Ok-Stuck.ensures in
    let stuck = stuck_of key (program_view c.args.program.now) c.args.frozen.now c.args.task.now c.args.left found c.in-Ok.taken.0 c.add.new.log _ c.in-Ok-Stuck.stop c.of-found.ensures q.0 q.1 e.exact c.in-Ok-Stuck.field-0-is in
    let was = told key _ n c.in-Ok.taken.0 c.requires.place.1 c.in-Ok.ensures.legal in
    let legal = still_legal key (program_view c.args.program.now) c.args.frozen.now c.args.task.now c.in-Ok.taken.0 c.add.new.log q.0 q.1 c.requires.may_run was
    (ap (λ (l : CellLog). l.opened) stuck.2 ∙ ap (λ (l : CellLog). l.opened) c.of-found.ensures) (e.legal, e.agrees) in
    (note_of n found (stuck_entry c.args.task.now (next_clock found c.args.task.now.after) c.in-Ok-Stuck.stop) ∷ [], grown_by key c.take.new.seat.me.0.given n found c.add.new.log _ (ap (λ (m : Mine). m.0.given) c.in-Ok.ensures.me.1 ∙ c.requires.place.1) (stuck_grows key c.args.task.now found c.add.new.log _ stuck.0 stuck.2 legal))

pub invariant_of-worker-in-Ok-Stuck : goal.invariant_of-worker-in-Ok-Stuck
invariant_of-worker-in-Ok-Stuck g c = let key = cells_key c.args.self.now in let found = c.of-found.result.value in let n = c.args.task.now.op.receiver in let q = c.requires.given in let e = c.in-Ok-Stuck.ensures in
    let stuck = stuck_of key (program_view c.args.program.now) c.args.frozen.now c.args.task.now c.args.left found c.in-Ok.taken.0 c.add.new.log _ c.in-Ok-Stuck.stop c.of-found.ensures q.0 q.1 e.exact c.in-Ok-Stuck.field-0-is in
    let was = told key _ n c.in-Ok.taken.0 c.requires.place.1 c.in-Ok.ensures.legal in
    let legal = still_legal key (program_view c.args.program.now) c.args.frozen.now c.args.task.now c.in-Ok.taken.0 c.add.new.log q.0 q.1 c.requires.may_run was
    (ap (λ (l : CellLog). l.opened) stuck.2 ∙ ap (λ (l : CellLog). l.opened) c.of-found.ensures) (e.legal, e.agrees) in
    let next = grown_by key c.take.new.seat.me.0.given n found c.add.new.log (stuck_entry c.args.task.now (next_clock found c.args.task.now.after) c.in-Ok-Stuck.stop) (ap (λ (m : Mine). m.0.given) c.in-Ok.ensures.me.1 ∙ c.requires.place.1) (stuck_grows key c.args.task.now found c.add.new.log _ stuck.0 stuck.2 legal) in
    let note : Note = note_of n found (stuck_entry c.args.task.now (next_clock found c.args.task.now.after) c.in-Ok-Stuck.stop) in
    let me = c.release_stuck.ensures.noted (note ∷ []) next in
    let held = c.in-Ok.ensures.me.1 in
    let noted = ap (λ (m : Mine). m.0.noted) me ∙ ap (λ (m : Mine). m.0.noted ++ note ∷ []) held in record {
      live = ap (λ (m : Mine). m.0.live) me ∙ (ap (λ (m : Mine). m.0.live) held ∙ c.args.worker.now.live);
      rests = ap (λ (m : Mine). m.0.at) me;
      empty = ap (λ (m : Mine). length m.1) me;
      in_order = subst InOrder (sym noted) (in_order_more c.args.worker.now.inner.me.0.noted note c.args.worker.now.in_order
          (subst (λ (l : CellLog). All (λ (x : Note). x.cell ≡ n → x.place < length l.entries) c.args.worker.now.inner.me.0.noted) (sym c.of-found.ensures) c.in-Ok.ensures.later));
    }

pub release_kept-requires-clause-closing : goal.release_kept-requires-clause-closing
release_kept-requires-clause-closing g c = let n = c.args.task.now.op.receiver in let old = c.in-Ok.taken.0 in
    let kept = by_kept (is_closed old c.args.task.now.after) (section (program_view c.args.program.now) c.args.frozen.now n old.object c.args.task.now.op.op c.args.task.now.op.args c.args.left) c.args.task.now old c.add.new.log _ c.in-Ok-Kept.ensures.exact c.in-Ok-Kept.field-0-is in
    subst (λ (l : CellLog). IsKept l (last_place n l)) (sym kept.1) (closed_kept n old c.args.task.now.after kept.0 c.if-task.false)

pub returns-in-Ok-Ran-clause-applied : goal.returns-in-Ok-Ran-clause-applied
returns-in-Ok-Ran-clause-applied g c = let key = cells_key c.args.self.now in let found = c.of-found.result.value in let n = c.args.task.now.op.receiver in let q = c.requires.given in let e = c.in-Ok-Ran.ensures in
    let is_ran = subst (λ (a : Added). IsRan a c.in-Ok-Ran.tasks.items c.in-Ok-Ran.steps) (sym c.in-Ok-Ran.field-0-is) (refl, refl) in
    let ran = ran_of key (program_view c.args.program.now) c.args.frozen.now c.args.task.now c.args.left found c.in-Ok.taken.0 c.add.new.log _ c.in-Ok-Ran.tasks.items c.in-Ok-Ran.steps c.of-found.ensures q.0 q.1 e.exact is_ran in
    let was = told key _ n c.in-Ok.taken.0 c.requires.place.1 c.in-Ok.ensures.legal in
    let legal = still_legal key (program_view c.args.program.now) c.args.frozen.now c.args.task.now c.in-Ok.taken.0 c.add.new.log q.0 q.1 c.requires.may_run was
    (ap (λ (l : CellLog). l.opened) ran.3 ∙ ap (λ (l : CellLog). l.opened) c.of-found.ensures) (e.legal, e.agrees) in
    let next = grown_by key c.take.new.seat.me.0.given n found c.add.new.log (the_ran c.args.task.now found ran.1) (ap (λ (m : Mine). m.0.given) c.in-Ok.ensures.me.1 ∙ c.requires.place.1) (ran_grows key _ c.args.task.now found c.add.new.log _ _ ran legal) in
    let note : Note = note_of n found (the_ran c.args.task.now found ran.1) in
    let me = c.release.ensures.noted (note ∷ []) next in let held = c.in-Ok.ensures.me.1 in record {
      found = found;
      outcome = ran.1;
      legal = subst (IsLegal key n) (sym c.of-found.ensures) was.1;
      takes_one = ran.0;
      section = ran.2;
      tasks = ran.4;
      steps = ran.5;
      noted = ap (λ (m : Mine). m.0.noted) me ∙ ap (λ (m : Mine). m.0.noted ++ note ∷ []) held;
      kept = ap (λ (m : Mine). m.0.kept) me ∙ ap (λ (m : Mine). m.0.kept) held;
      may_run = all_may_run key (program_view c.args.program.now) c.args.frozen.now c.args.task.now c.in-Ok-Ran.tasks.items q.0 q.1 c.requires.may_run was.0
          (e.typed c.in-Ok-Ran.tasks.items c.in-Ok-Ran.steps is_ran, λ x s. e.inside x s c.in-Ok-Ran.tasks.items c.in-Ok-Ran.steps is_ran);
    }

pub returns-in-Ok-Stuck-clause-applied : goal.returns-in-Ok-Stuck-clause-applied
returns-in-Ok-Stuck-clause-applied g c = let key = cells_key c.args.self.now in let found = c.of-found.result.value in let n = c.args.task.now.op.receiver in let q = c.requires.given in let e = c.in-Ok-Stuck.ensures in
    let stuck = stuck_of key (program_view c.args.program.now) c.args.frozen.now c.args.task.now c.args.left found c.in-Ok.taken.0 c.add.new.log _ c.in-Ok-Stuck.stop c.of-found.ensures q.0 q.1 e.exact c.in-Ok-Stuck.field-0-is in
    let was = told key _ n c.in-Ok.taken.0 c.requires.place.1 c.in-Ok.ensures.legal in
    let legal = still_legal key (program_view c.args.program.now) c.args.frozen.now c.args.task.now c.in-Ok.taken.0 c.add.new.log q.0 q.1 c.requires.may_run was
    (ap (λ (l : CellLog). l.opened) stuck.2 ∙ ap (λ (l : CellLog). l.opened) c.of-found.ensures) (e.legal, e.agrees) in
    let next = grown_by key c.take.new.seat.me.0.given n found c.add.new.log (stuck_entry c.args.task.now (next_clock found c.args.task.now.after) c.in-Ok-Stuck.stop) (ap (λ (m : Mine). m.0.given) c.in-Ok.ensures.me.1 ∙ c.requires.place.1) (stuck_grows key c.args.task.now found c.add.new.log _ stuck.0 stuck.2 legal) in
    let note : Note = note_of n found (stuck_entry c.args.task.now (next_clock found c.args.task.now.after) c.in-Ok-Stuck.stop) in
    let me = c.release_stuck.ensures.noted (note ∷ []) next in let held = c.in-Ok.ensures.me.1 in record {
      found = found;
      legal = subst (IsLegal key n) (sym c.of-found.ensures) was.1;
      takes_one = stuck.0;
      section = stuck.1;
      noted = ap (λ (m : Mine). m.0.noted) me ∙ ap (λ (m : Mine). m.0.noted ++ note ∷ []) held;
      kept = ap (λ (m : Mine). m.0.kept) me ∙ ap (λ (m : Mine). m.0.kept) held;
    }

pub returns-then-task-clause-applied : goal.returns-then-task-clause-applied
returns-then-task-clause-applied g c = let key = cells_key c.args.self.now in let n = c.args.task.now.op.receiver in let old = c.in-Ok.taken.0 in
    let kept = by_kept (is_closed old c.args.task.now.after) (section (program_view c.args.program.now) c.args.frozen.now n old.object c.args.task.now.op.op c.args.task.now.op.args c.args.left) c.args.task.now old c.add.new.log _ c.in-Ok-Kept.ensures.exact c.in-Ok-Kept.field-0-is in
    let was = (told key _ n old c.requires.place.1 c.in-Ok.ensures.legal).1 in let held = c.in-Ok.ensures.me.1 in let me = c.release_same.ensures.noted in record {
      same = refl;
      found = old;
      legal = was;
      closed = kept.0;
      noted = ap (λ (m : Mine). m.0.noted) me ∙ ap (λ (m : Mine). m.0.noted) held;
      own = λ e. ap (λ (m : Mine). m.0.kept) me ∙ ap (λ (m : Mine). m.0.kept) held;
      cells = λ ne. absurd (ne c.if-task.true);
    }

pub returns-in-Ok-Kept-clause-applied : goal.returns-in-Ok-Kept-clause-applied
returns-in-Ok-Kept-clause-applied g c = let key = cells_key c.args.self.now in let n = c.args.task.now.op.receiver in let old = c.in-Ok.taken.0 in
    let kept = by_kept (is_closed old c.args.task.now.after) (section (program_view c.args.program.now) c.args.frozen.now n old.object c.args.task.now.op.op c.args.task.now.op.args c.args.left) c.args.task.now old c.add.new.log _ c.in-Ok-Kept.ensures.exact c.in-Ok-Kept.field-0-is in
    let next = same_by (cells_key c.args.self.now) c.take.new.seat.me.0.given n c.of-found.result.value c.add.new.log (ap (λ (m : Mine). m.0.given) c.in-Ok.ensures.me.1 ∙ c.requires.place.1) (c.of-found.ensures ∙ sym kept.1) in
    let was = (told key _ n old c.requires.place.1 c.in-Ok.ensures.legal).1 in let held = c.in-Ok.ensures.me.1 in let me = c.release_kept.ensures.noted [] next in record {
      same = refl;
      found = old;
      legal = was;
      closed = kept.0;
      noted = ap (λ (m : Mine). m.0.noted) me ∙ (ap (λ (m : Mine). m.0.noted ++ []) held ∙ append-nil c.args.worker.now.inner.me.0.noted);
      own = λ e. absurd (c.if-task.false e);
      cells = λ ne. (ap (λ (m : Mine). m.0.kept) me ∙ (ap (λ (m : Mine). m.0.kept ++ last_place n c.add.new.log ∷ []) held ∙ ap (λ (l : CellLog). c.args.worker.now.inner.me.0.kept ++ last_place n l ∷ []) kept.1), closed_kept n old c.args.task.now.after kept.0 ne);
    }

pub release-requires-clause-table : goal.release-requires-clause-table
release-requires-clause-table g c = (c.take.ensures.table ∙ c.requires.place.0, c.in-Ok.ensures.class)

pub release-requires-clause-held : goal.release-requires-clause-held
release-requires-clause-held g c =
    subst (λ (l : CellLog). Holds c.args.self.now.table.shared.table_id.slots c.take.new.seat.me c.args.task.now.op.receiver l c.in-Ok.taken.1) (sym c.of-found.ensures) c.in-Ok.ensures.held

pub release-requires-clause-inside : goal.release-requires-clause-inside
release-requires-clause-inside g c = is_inside (cells_key c.args.self.now) c.take.new.seat.me.0.given _ (ap (λ (m : Mine). m.0.given) c.in-Ok.ensures.me.1 ∙ c.requires.place.1) (number_in (cells_key c.args.self.now) c.args.task.now c.args.self.now.alike c.requires.may_run)

pub release_stuck-requires-clause-table : goal.release_stuck-requires-clause-table
release_stuck-requires-clause-table g c = (c.take.ensures.table ∙ c.requires.place.0, c.in-Ok.ensures.class)

pub release_stuck-requires-clause-held : goal.release_stuck-requires-clause-held
release_stuck-requires-clause-held g c =
    subst (λ (l : CellLog). Holds c.args.self.now.table.shared.table_id.slots c.take.new.seat.me c.args.task.now.op.receiver l c.in-Ok.taken.1) (sym c.of-found.ensures) c.in-Ok.ensures.held

pub release_stuck-requires-clause-inside : goal.release_stuck-requires-clause-inside
release_stuck-requires-clause-inside g c = is_inside (cells_key c.args.self.now) c.take.new.seat.me.0.given _ (ap (λ (m : Mine). m.0.given) c.in-Ok.ensures.me.1 ∙ c.requires.place.1) (number_in (cells_key c.args.self.now) c.args.task.now c.args.self.now.alike c.requires.may_run)

pub release_same-requires-clause-table : goal.release_same-requires-clause-table
release_same-requires-clause-table g c = (c.take.ensures.table ∙ c.requires.place.0, c.in-Ok.ensures.class)

pub release_same-requires-clause-inside : goal.release_same-requires-clause-inside
release_same-requires-clause-inside g c = is_inside (cells_key c.args.self.now) c.take.new.seat.me.0.given _ (ap (λ (m : Mine). m.0.given) c.in-Ok.ensures.me.1 ∙ c.requires.place.1) (number_in (cells_key c.args.self.now) c.args.task.now c.args.self.now.alike c.requires.may_run)

pub release_same-requires-clause-held : goal.release_same-requires-clause-held
release_same-requires-clause-held g c = let old = c.in-Ok.taken.0 in
    let kept = by_kept (is_closed old c.args.task.now.after) (section (program_view c.args.program.now) c.args.frozen.now c.args.task.now.op.receiver old.object c.args.task.now.op.op c.args.task.now.op.args c.args.left) c.args.task.now old c.add.new.log _ c.in-Ok-Kept.ensures.exact c.in-Ok-Kept.field-0-is in
    subst (λ (l : CellLog). Holds c.args.self.now.table.shared.table_id.slots c.take.new.seat.me c.args.task.now.op.receiver l c.in-Ok.taken.1) (sym kept.1) c.in-Ok.ensures.held

pub release_kept-requires-clause-table : goal.release_kept-requires-clause-table
release_kept-requires-clause-table g c = (c.take.ensures.table ∙ c.requires.place.0, c.in-Ok.ensures.class)

pub release_kept-requires-clause-inside : goal.release_kept-requires-clause-inside
release_kept-requires-clause-inside g c = is_inside (cells_key c.args.self.now) c.take.new.seat.me.0.given _ (ap (λ (m : Mine). m.0.given) c.in-Ok.ensures.me.1 ∙ c.requires.place.1) (number_in (cells_key c.args.self.now) c.args.task.now c.args.self.now.alike c.requires.may_run)

pub release_kept-requires-clause-held : goal.release_kept-requires-clause-held
release_kept-requires-clause-held g c =
    subst (λ (l : CellLog). Holds c.args.self.now.table.shared.table_id.slots c.take.new.seat.me c.args.task.now.op.receiver l c.in-Ok.taken.1) (sym c.of-found.ensures) c.in-Ok.ensures.held

pub release_kept-requires-clause-next : goal.release_kept-requires-clause-next
release_kept-requires-clause-next g c = let n = c.args.task.now.op.receiver in let old = c.in-Ok.taken.0 in
    let kept = by_kept (is_closed old c.args.task.now.after) (section (program_view c.args.program.now) c.args.frozen.now n old.object c.args.task.now.op.op c.args.task.now.op.args c.args.left) c.args.task.now old c.add.new.log _ c.in-Ok-Kept.ensures.exact c.in-Ok-Kept.field-0-is in
    let next = same_by (cells_key c.args.self.now) c.take.new.seat.me.0.given n c.of-found.result.value c.add.new.log (ap (λ (m : Mine). m.0.given) c.in-Ok.ensures.me.1 ∙ c.requires.place.1) (c.of-found.ensures ∙ sym kept.1) in
    ([], next)

pub release_same-requires-in-Err-add-clause-table : goal.release_same-requires-in-Err-add-clause-table
release_same-requires-in-Err-add-clause-table g c = (c.take.ensures.table ∙ c.requires.place.0, c.in-Ok.ensures.class)

pub release_same-requires-in-Err-add-clause-held : goal.release_same-requires-in-Err-add-clause-held
release_same-requires-in-Err-add-clause-held g c =
    subst (λ (l : CellLog). Holds c.args.self.now.table.shared.table_id.slots c.take.new.seat.me c.args.task.now.op.receiver l c.in-Ok.taken.1) (sym c.in-Err-add.ensures.kept) c.in-Ok.ensures.held

pub release_same-requires-in-Err-add-clause-inside : goal.release_same-requires-in-Err-add-clause-inside
release_same-requires-in-Err-add-clause-inside g c = is_inside (cells_key c.args.self.now) c.take.new.seat.me.0.given _ (ap (λ (m : Mine). m.0.given) c.in-Ok.ensures.me.1 ∙ c.requires.place.1) (number_in (cells_key c.args.self.now) c.args.task.now c.args.self.now.alike c.requires.may_run)

pub invariant_of-worker-then-task : goal.invariant_of-worker-then-task
invariant_of-worker-then-task g c = let held = c.in-Ok.ensures.me.1 in let me = c.release_same.ensures.noted in record {
  live = ap (λ (m : Mine). m.0.live) me ∙ (ap (λ (m : Mine). m.0.live) held ∙ c.args.worker.now.live);
  rests = ap (λ (m : Mine). m.0.at) me;
  empty = ap (λ (m : Mine). length m.1) me;
  in_order = subst InOrder (sym (ap (λ (m : Mine). m.0.noted) me ∙ ap (λ (m : Mine). m.0.noted) held)) c.args.worker.now.in_order;
}

pub invariant_of-worker-in-Ok-Kept : goal.invariant_of-worker-in-Ok-Kept
invariant_of-worker-in-Ok-Kept g c = let n = c.args.task.now.op.receiver in let old = c.in-Ok.taken.0 in
    let kept = by_kept (is_closed old c.args.task.now.after) (section (program_view c.args.program.now) c.args.frozen.now n old.object c.args.task.now.op.op c.args.task.now.op.args c.args.left) c.args.task.now old c.add.new.log _ c.in-Ok-Kept.ensures.exact c.in-Ok-Kept.field-0-is in
    let next = same_by (cells_key c.args.self.now) c.take.new.seat.me.0.given n c.of-found.result.value c.add.new.log (ap (λ (m : Mine). m.0.given) c.in-Ok.ensures.me.1 ∙ c.requires.place.1) (c.of-found.ensures ∙ sym kept.1) in
    let held = c.in-Ok.ensures.me.1 in let me = c.release_kept.ensures.noted [] next in record {
      live = ap (λ (m : Mine). m.0.live) me ∙ (ap (λ (m : Mine). m.0.live) held ∙ c.args.worker.now.live);
      rests = ap (λ (m : Mine). m.0.at) me;
      empty = ap (λ (m : Mine). length m.1) me;
      in_order = subst InOrder (sym (ap (λ (m : Mine). m.0.noted) me ∙ (ap (λ (m : Mine). m.0.noted ++ []) held ∙ append-nil c.args.worker.now.inner.me.0.noted))) c.args.worker.now.in_order;
    }

pub invariant_of-worker-in-Err-add : goal.invariant_of-worker-in-Err-add
invariant_of-worker-in-Err-add g c = let held = c.in-Ok.ensures.me.1 in let me = c.release_same-in-Err-add.ensures.noted in record {
  live = ap (λ (m : Mine). m.0.live) me ∙ (ap (λ (m : Mine). m.0.live) held ∙ c.args.worker.now.live);
  rests = ap (λ (m : Mine). m.0.at) me;
  empty = ap (λ (m : Mine). length m.1) me;
  in_order = subst InOrder (sym (ap (λ (m : Mine). m.0.noted) me ∙ ap (λ (m : Mine). m.0.noted) held)) c.args.worker.now.in_order;
}

pub returns-in-Ok-Ran-clause-same : goal.returns-in-Ok-Ran-clause-same
returns-in-Ok-Ran-clause-same g c = let key = cells_key c.args.self.now in let found = c.of-found.result.value in let n = c.args.task.now.op.receiver in let q = c.requires.given in let e = c.in-Ok-Ran.ensures in
    let is_ran = subst (λ (a : Added). IsRan a c.in-Ok-Ran.tasks.items c.in-Ok-Ran.steps) (sym c.in-Ok-Ran.field-0-is) (refl, refl) in
    let ran = ran_of key (program_view c.args.program.now) c.args.frozen.now c.args.task.now c.args.left found c.in-Ok.taken.0 c.add.new.log _ c.in-Ok-Ran.tasks.items c.in-Ok-Ran.steps c.of-found.ensures q.0 q.1 e.exact is_ran in
    let was = told key _ n c.in-Ok.taken.0 c.requires.place.1 c.in-Ok.ensures.legal in
    let legal = still_legal key (program_view c.args.program.now) c.args.frozen.now c.args.task.now c.in-Ok.taken.0 c.add.new.log q.0 q.1 c.requires.may_run was
    (ap (λ (l : CellLog). l.opened) ran.3 ∙ ap (λ (l : CellLog). l.opened) c.of-found.ensures) (e.legal, e.agrees) in
    let next = grown_by key c.take.new.seat.me.0.given n found c.add.new.log (the_ran c.args.task.now found ran.1) (ap (λ (m : Mine). m.0.given) c.in-Ok.ensures.me.1 ∙ c.requires.place.1) (ran_grows key _ c.args.task.now found c.add.new.log _ _ ran legal) in
    let note : Note = note_of n found (the_ran c.args.task.now found ran.1) in
    let me = c.release.ensures.noted (note ∷ []) next in let held = c.in-Ok.ensures.me.1 in
    same_seat c.args.worker.now _ (noting (holding c.args.worker.now.inner.me.0 c.in-Ok.taken.1.class c.in-Ok.ensures.me.0) (note ∷ [])) (c.release.ensures.table ∙ c.take.ensures.table) (ap (λ (m : Mine). m.0) me ∙ ap (λ (m : Mine). noting m.0 (note ∷ [])) held) refl refl refl refl refl

pub returns-in-Ok-Stuck-clause-same : goal.returns-in-Ok-Stuck-clause-same
returns-in-Ok-Stuck-clause-same g c = let key = cells_key c.args.self.now in let found = c.of-found.result.value in let n = c.args.task.now.op.receiver in let q = c.requires.given in let e = c.in-Ok-Stuck.ensures in
    let stuck = stuck_of key (program_view c.args.program.now) c.args.frozen.now c.args.task.now c.args.left found c.in-Ok.taken.0 c.add.new.log _ c.in-Ok-Stuck.stop c.of-found.ensures q.0 q.1 e.exact c.in-Ok-Stuck.field-0-is in
    let was = told key _ n c.in-Ok.taken.0 c.requires.place.1 c.in-Ok.ensures.legal in
    let legal = still_legal key (program_view c.args.program.now) c.args.frozen.now c.args.task.now c.in-Ok.taken.0 c.add.new.log q.0 q.1 c.requires.may_run was
    (ap (λ (l : CellLog). l.opened) stuck.2 ∙ ap (λ (l : CellLog). l.opened) c.of-found.ensures) (e.legal, e.agrees) in
    let next = grown_by key c.take.new.seat.me.0.given n found c.add.new.log (stuck_entry c.args.task.now (next_clock found c.args.task.now.after) c.in-Ok-Stuck.stop) (ap (λ (m : Mine). m.0.given) c.in-Ok.ensures.me.1 ∙ c.requires.place.1) (stuck_grows key c.args.task.now found c.add.new.log _ stuck.0 stuck.2 legal) in
    let note : Note = note_of n found (stuck_entry c.args.task.now (next_clock found c.args.task.now.after) c.in-Ok-Stuck.stop) in
    let me = c.release_stuck.ensures.noted (note ∷ []) next in let held = c.in-Ok.ensures.me.1 in
    same_seat c.args.worker.now _ (noting (holding c.args.worker.now.inner.me.0 c.in-Ok.taken.1.class c.in-Ok.ensures.me.0) (note ∷ [])) (c.release_stuck.ensures.table ∙ c.take.ensures.table) (ap (λ (m : Mine). m.0) me ∙ ap (λ (m : Mine). noting m.0 (note ∷ [])) held) refl refl refl refl refl

pub returns-then-task-clause-same : goal.returns-then-task-clause-same
returns-then-task-clause-same g c = let held = c.in-Ok.ensures.me.1 in
    same_seat c.args.worker.now _ (let_go (holding c.args.worker.now.inner.me.0 c.in-Ok.taken.1.class c.in-Ok.ensures.me.0)) (c.release_same.ensures.table ∙ c.take.ensures.table) (ap (λ (m : Mine). m.0) c.release_same.ensures.noted ∙ ap (λ (m : Mine). let_go m.0) held) refl refl refl refl refl

pub returns-in-Ok-Kept-clause-same : goal.returns-in-Ok-Kept-clause-same
returns-in-Ok-Kept-clause-same g c = let n = c.args.task.now.op.receiver in let held = c.in-Ok.ensures.me.1 in let place = last_place n c.add.new.log in let old = c.in-Ok.taken.0 in
    let kept = by_kept (is_closed old c.args.task.now.after) (section (program_view c.args.program.now) c.args.frozen.now n old.object c.args.task.now.op.op c.args.task.now.op.args c.args.left) c.args.task.now old c.add.new.log _ c.in-Ok-Kept.ensures.exact c.in-Ok-Kept.field-0-is in
    let next = same_by (cells_key c.args.self.now) c.take.new.seat.me.0.given n c.of-found.result.value c.add.new.log (ap (λ (m : Mine). m.0.given) c.in-Ok.ensures.me.1 ∙ c.requires.place.1) (c.of-found.ensures ∙ sym kept.1) in
    same_seat c.args.worker.now _ (keeping (holding c.args.worker.now.inner.me.0 c.in-Ok.taken.1.class c.in-Ok.ensures.me.0) [] place) (c.release_kept.ensures.table ∙ c.take.ensures.table) (ap (λ (m : Mine). m.0) (c.release_kept.ensures.noted [] next) ∙ ap (λ (m : Mine). keeping m.0 [] place) held) refl refl refl refl refl

pub returns-clause-same : goal.returns-clause-same
returns-clause-same g c = let n = c.args.task.now.op.receiver in let held = c.in-Ok.ensures.me.1 in
    same_seat c.args.worker.now _ (let_go (holding c.args.worker.now.inner.me.0 c.in-Ok.taken.1.class c.in-Ok.ensures.me.0)) (c.release_same-in-Err-add.ensures.table ∙ c.take.ensures.table) (ap (λ (m : Mine). m.0) c.release_same-in-Err-add.ensures.noted ∙ ap (λ (m : Mine). let_go m.0) held) refl refl refl refl refl

pub returns-clause-refused : goal.returns-clause-refused
returns-clause-refused g c = let held = c.in-Ok.ensures.me.1 in let me = c.release_same-in-Err-add.ensures.noted in
    (ap (λ (m : Mine). m.0.noted) me ∙ ap (λ (m : Mine). m.0.noted) held, ap (λ (m : Mine). m.0.kept) me ∙ ap (λ (m : Mine). m.0.kept) held)

same_given : (a b : Given) → Some a ≡ Some b → a ≡ b
same_given a b e = cc

pub take-requires-clause-now : goal.take-requires-clause-now
take-requires-clause-now g c = λ given is. let key = cells_key c.args.self.now in ap (λ (x : Given). now_of x) (same_given given key (sym is ∙ c.requires.place.1)) ∙ c.requires.now

pub take-requires-clause-inside : goal.take-requires-clause-inside
take-requires-clause-inside g c = let key = cells_key c.args.self.now in
    let l = receiver_in (program_of key) (frozen_of key) (call_of c.args.task.now) c.requires.may_run.typed in
    let n = ap (λ (os : List Object). length os) c.requires.given.1 in omega (arith, l, n)

pub invariant_of-worker : goal.invariant_of-worker
invariant_of-worker g c = let me = c.in-Err.ensures.refused in record {
  live = ap (λ (m : Mine). m.0.live) me ∙ c.args.worker.now.live;
  rests = ap (λ (m : Mine). m.0.at) me;
  empty = ap (λ (m : Mine). length m.1) me;
  in_order = subst InOrder (sym (ap (λ (m : Mine). m.0.noted) me)) c.args.worker.now.in_order;
}

pub returns-in-Err-clause-same : goal.returns-in-Err-clause-same
returns-in-Err-clause-same g c = let me = c.in-Err.ensures.refused in
    same_seat c.args.worker.now _ (let_go c.args.worker.now.inner.me.0) c.take.ensures.table (ap (λ (m : Mine). m.0) me) refl refl refl refl refl

pub returns-in-Err-clause-refused : goal.returns-in-Err-clause-refused
returns-in-Err-clause-refused g c = let me = c.in-Err.ensures.refused in (ap (λ (m : Mine). m.0.noted) me, ap (λ (m : Mine). m.0.kept) me)

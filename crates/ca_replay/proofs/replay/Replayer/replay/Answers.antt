use Rattle.std.proofs.Common.{◌≡◌, ◌≤◌, ◌-◌, length, take, drop, List, Option, Some, None, Result, Ok, Err, OnOk, refl, ap, sym, subst, ◌∙◌, true, false, is_some, ℕ, arith}
use Rattle.ca_program.specs.View.{program_view}
use Rattle.ca_parallel.specs.Calls.{RunsTo, invocations_of}
use Rattle.ca_parallel.specs.Lists.{note}
use Rattle.ca_beside.specs.Beside.{present}
use Rattle.ca_trace.specs.Engines.{Replayed, still_bad}
use Rattle.ca_replay.specs.Following.{kept, FollowedIs}
use Rattle.ca_replay.proofs.Engine.{begun, from_start, stopped_at, block_runs, block_shapes, block_followed, range_is}
use Rattle.ca_replay.proofs.replay.Replayer.replay.Goals as goal

on_any : {T E : Type 0} (r : Result T E) (P : Type 0) → P → OnOk r P
on_any (Ok x) P p = p
on_any (Err e) P p = tt

some_bad : (b : Option ℕ) → is_some b ≡ true → (n : ℕ) × (b ≡ Some n)
some_bad None e = absurd (let z = e in cc)
some_bad (Some n) e = (n, refl)

none_bad : (b : Option ℕ) → is_some b ≡ false → b ≡ None
none_bad None e = refl
none_bad (Some n) e = absurd (let z = e in cc)

pub returns-then-is_some-clause-accounts : goal.returns-then-is_some-clause-accounts
returns-then-is_some-clause-accounts c =
    let b = some_bad c.args.self.now.bad (sym c.is_some.ensures ∙ c.if-is_some.true) in
    on_any c.complete_here.result _ (still_bad b.0 b.1 refl)

pub follow-requires : goal.follow-requires
follow-requires c =
    let r = c.requires in
    record { program = r.program; stands = begun (program_view c.args.program.now) r.program c.args.heap.now r.heap c.args.first.now r.typed r.parallel c.args.left (present c.args.heap.now c.in_ok-machine.machine.beside) (invocations_of c.in_ok-machine.machine.waiting.items) c.in_ok-machine.ensures.heap c.in_ok-machine.ensures.waits }

pub finish-requires : goal.finish-requires
finish-requires c =
    let p = program_view c.args.program.now in
    let h = c.args.heap.now in
    let r = c.requires in
    let m = c.in_ok-machine in
    let seen = take (length c.deref.result.now - c.args.self.now.place) (drop c.args.self.now.place c.deref.result.now) in
    let after = present h c.follow.new.machine.beside in
    let followed = from_start p h (present h m.machine.beside) (invocations_of c.args.first.now) (invocations_of m.machine.waiting.items) c.args.left seen after c.in_ok-went.went m.ensures.heap m.ensures.waits c.in_ok-went.ensures in
    let there = subst (λ f. FollowedIs p (note h (invocations_of c.args.first.now) c.args.left) seen after f) c.in-Whole.is followed in
    block_shapes p r.program h r.heap c.args.first.now r.typed r.parallel c.args.left seen after c.in-Whole.lines c.in-Whole.steps there

pub returns-in-Whole-clause-answer : goal.returns-in-Whole-clause-answer
returns-in-Whole-clause-answer c =
    let p = program_view c.args.program.now in
    let h = c.args.heap.now in
    let r = c.requires in
    let m = c.in_ok-machine in
    let seen = take (length c.deref.result.now - c.args.self.now.place) (drop c.args.self.now.place c.deref.result.now) in
    let after = present h c.follow.new.machine.beside in
    let followed = from_start p h (present h m.machine.beside) (invocations_of c.args.first.now) (invocations_of m.machine.waiting.items) c.args.left seen after c.in_ok-went.went m.ensures.heap m.ensures.waits c.in_ok-went.ensures in
    let there = subst (λ f. FollowedIs p (note h (invocations_of c.args.first.now) c.args.left) seen after f) c.in-Whole.is followed in
    subst (λ q. RunsTo p h (invocations_of c.args.first.now) c.args.left q c.in-Whole.steps) (sym c.finish.ensures)
    (block_runs p r.program h r.heap c.args.first.now r.typed r.parallel c.args.left seen after c.in-Whole.lines c.in-Whole.steps there)

pub returns-in-Whole-clause-accounts : goal.returns-in-Whole-clause-accounts
returns-in-Whole-clause-accounts c =
    let p = program_view c.args.program.now in
    let h = c.args.heap.now in
    let r = c.requires in
    let m = c.in_ok-machine in
    let seen = take (length c.deref.result.now - c.args.self.now.place) (drop c.args.self.now.place c.deref.result.now) in
    let after = present h c.follow.new.machine.beside in
    let followed = from_start p h (present h m.machine.beside) (invocations_of c.args.first.now) (invocations_of m.machine.waiting.items) c.args.left seen after c.in_ok-went.went m.ensures.heap m.ensures.waits c.in_ok-went.ensures in
    let there = subst (λ f. FollowedIs p (note h (invocations_of c.args.first.now) c.args.left) seen after f) c.in-Whole.is followed in
    block_followed p r.program h r.heap c.args.first.now r.typed r.parallel c.args.left seen after c.in-Whole.lines c.in-Whole.steps there
    c.args.self.now.lines.items c.args.self.now.place c.args.self.now.bad (none_bad c.args.self.now.bad (sym c.is_some.ensures ∙ c.if-is_some.false)) (sym (range_is c.deref.result.now c.args.self.now.lines.items c.args.self.now.place c.deref.ensures.value))

pub fall_back-requires : goal.fall_back-requires
fall_back-requires c =
    let p = program_view c.args.program.now in
    let h = c.args.heap.now in
    let m = c.in_ok-machine in
    let seen = take (length c.deref.result.now - c.args.self.now.place) (drop c.args.self.now.place c.deref.result.now) in
    let after = present h c.follow.new.machine.beside in
    let followed = from_start p h (present h m.machine.beside) (invocations_of c.args.first.now) (invocations_of m.machine.waiting.items) c.args.left seen after c.in_ok-went.went m.ensures.heap m.ensures.waits c.in_ok-went.ensures in
    let r = c.requires in
    record {
      program = r.program;
      heap = r.heap;
      typed = r.typed;
      parallel = r.parallel;
      fine = none_bad c.args.self.now.bad (sym c.is_some.ensures ∙ c.if-is_some.false);
      stopped = stopped_at p (note h (invocations_of c.args.first.now) c.args.left) seen (drop c.args.self.now.place c.args.self.now.lines.items) after h c.in_ok-went.went c.in-Stopped.at c.in-Stopped.is (range_is c.deref.result.now c.args.self.now.lines.items c.args.self.now.place c.deref.ensures.value) followed;
    }

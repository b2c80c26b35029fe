use Rattle.std.proofs.Common.{◌≡◌, ◌≤◌, ◌-◌, length, drop, List, Some, refl, ap, sym, subst, ◌∙◌, true, false, arith}
use Rattle.std.proofs.lemmas.List.{length-drop}
use Rattle.ca_program.specs.View.{program_view}
use Rattle.ca_parallel.specs.Calls.{invocations_of}
use Rattle.ca_parallel.specs.Lists.{note}
use Rattle.ca_serial.specs.Extents.{Answers}
use Rattle.ca_replay.specs.Following.{is_word}
use Rattle.ca_replay.proofs.Engine.{halts_within, kept_bad, kept_word, kept_other, range_is}
use Rattle.ca_replay.proofs.replay.Replayer.fall_back.Goals as goal

pub overflow_add-self : goal.overflow_add-self
overflow_add-self c =
    let all = c.args.self.now.lines in
    let w : c.args.at ≤ length (drop c.args.self.now.place all.items) = halts_within (program_view c.args.program.now) (note c.args.heap.now (invocations_of c.args.first.now) c.args.left) (drop c.args.self.now.place all.items) c.args.heap.now c.args.at c.requires.stopped in
    let d : length (drop c.args.self.now.place all.items) ≡ length all.items - c.args.self.now.place = length-drop c.args.self.now.place all.items in
    let b : c.args.self.now.place ≤ length all.items = c.args.self.now.within in
    omega (arith, w, d, b, all.ok.0, all.small)

pub returns-in-Done-clause-accounts : goal.returns-in-Done-clause-accounts
returns-in-Done-clause-accounts c =
    let p = program_view c.args.program.now in
    let h = c.args.heap.now in
    let r = c.requires in
    kept_bad p r.program h r.heap c.args.first.now r.typed r.parallel c.args.left (drop c.args.self.now.place c.args.self.now.lines.items) c.args.at h r.stopped c.args.self.now.lines.items c.args.self.now.place c.args.self.now.bad (Some _) r.fine refl refl c.complete_here.new.heap c.in-Done.steps
    (subst (λ a. Answers p h (invocations_of c.args.first.now) c.args.left c.complete_here.new.heap a) c.in-Done.is c.in_ok-answer.ensures.answer)

pub returns-then-declines-clause-accounts : goal.returns-then-declines-clause-accounts
returns-then-declines-clause-accounts c =
    let p = program_view c.args.program.now in
    let r = c.requires in
    kept_word p r.program c.args.heap.now r.heap c.args.first.now r.typed r.parallel c.args.left (drop c.args.self.now.place c.args.self.now.lines.items) c.args.self.now.lines.items c.args.self.now.place c.args.self.now.bad r.fine refl (c.in_ok-answer.ensures.declined c.in-Declined.is)
    (ap is_word (sym (range_is c.deref.result.now c.args.self.now.lines.items c.args.self.now.place c.deref.ensures.value)) ∙ (sym c.declines.ensures ∙ c.if-declines.true))

pub returns-else-declines-clause-accounts : goal.returns-else-declines-clause-accounts
returns-else-declines-clause-accounts c =
    let p = program_view c.args.program.now in
    let r = c.requires in
    kept_other p r.program c.args.heap.now r.heap c.args.first.now r.typed r.parallel c.args.left (drop c.args.self.now.place c.args.self.now.lines.items) c.args.self.now.lines.items c.args.self.now.place c.args.self.now.bad r.fine refl (c.in_ok-answer.ensures.declined c.in-Declined.is) (Some _) refl
    (ap is_word (sym (range_is c.deref.result.now c.args.self.now.lines.items c.args.self.now.place c.deref.ensures.value)) ∙ (sym c.declines.ensures ∙ c.if-declines.false))

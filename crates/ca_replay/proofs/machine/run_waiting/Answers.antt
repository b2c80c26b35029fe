use Rattle.std.proofs.Common.{◌≡◌, ℕ, subst, refl, arith}
use Rattle.std.specs.Prelude.{slice_get, Some}
use Rattle.ca_program.specs.View.{program_view}
use Rattle.ca_parallel.specs.declared.op.Op.{Op}
use Rattle.ca_beside.specs.Beside.{present, Sectioned}
use Rattle.ca_sections.specs.declared.operations.SectionAnswer.TheVariants.{Done, Trapped, Spent}
use Rattle.ca_replay.proofs.Steps.{absent, stops, runs_out, ran_this, place_left}
use Rattle.ca_replay.proofs.machine.run_waiting.Goals as goal

pub returns-in_default-clause-answer : goal.returns-in_default-clause-answer
returns-in_default-clause-answer c = (
  absent (program_view c.args.program.now) c.args.heap.now (present c.args.heap.now c.args.beside.now) c.args.waiting.now.items c.args.op.now c.args.left
      (subst (λ (l : _). (n : ℕ) → ¬ (slice_get l n ≡ Some c.args.op.now)) c.as_slice-2.ensures.value c.in_default.ensures),
  record { heap = refl; waits = refl },
)

pub run-requires : goal.run-requires
run-requires c = c.requires.within c.in-Some.place c.args.op.now (subst (λ (l : _). slice_get l c.in-Some.place ≡ Some c.args.op.now) c.as_slice-2.ensures.value c.in-Some.ensures)

pub take_out-requires : goal.take_out-requires
take_out-requires c = place_left (program_view c.args.program.now) c.args.heap.now (present c.args.heap.now c.args.beside.now) c.args.waiting.now.items c.run.new.waiting.items c.args.op.now c.args.left c.in-Some.place c.in-Done.steps (present c.args.heap.now c.run.new.self)
    (subst (λ (l : _). slice_get l c.in-Some.place ≡ Some c.args.op.now) c.as_slice-2.ensures.value c.in-Some.ensures)
    (subst (λ a. Sectioned (program_view c.args.program.now) c.args.heap.now (present c.args.heap.now c.args.beside.now) c.args.op.now c.args.left c.args.waiting.now.items (present c.args.heap.now c.run.new.self) c.run.new.waiting.items a) c.in-Done.is c.in_ok-steps.ensures.ran)

pub returns-in-Done-clause-answer : goal.returns-in-Done-clause-answer
returns-in-Done-clause-answer c = ran_this (program_view c.args.program.now) c.args.heap.now (present c.args.heap.now c.args.beside.now) c.args.waiting.now.items c.args.op.now c.args.left c.in-Some.place
    (subst (λ (l : _). slice_get l c.in-Some.place ≡ Some c.args.op.now) c.as_slice-2.ensures.value c.in-Some.ensures)
    (present c.args.heap.now c.run.new.self) c.run.new.waiting.items c.take_out.new.waiting.items c.in-Done.steps
    (subst (λ a. Sectioned (program_view c.args.program.now) c.args.heap.now (present c.args.heap.now c.args.beside.now) c.args.op.now c.args.left c.args.waiting.now.items (present c.args.heap.now c.run.new.self) c.run.new.waiting.items a) c.in-Done.is c.in_ok-steps.ensures.ran)
    c.take_out.ensures

pub returns-in-Trapped-clause-answer : goal.returns-in-Trapped-clause-answer
returns-in-Trapped-clause-answer c = stops (program_view c.args.program.now) c.args.heap.now (present c.args.heap.now c.args.beside.now) c.args.waiting.now.items c.args.op.now c.args.left c.in-Some.place
    (subst (λ (l : _). slice_get l c.in-Some.place ≡ Some c.args.op.now) c.as_slice-2.ensures.value c.in-Some.ensures)
    (present c.args.heap.now c.run.new.self) c.run.new.waiting.items c.in-Trapped.trap
    (subst (λ a. Sectioned (program_view c.args.program.now) c.args.heap.now (present c.args.heap.now c.args.beside.now) c.args.op.now c.args.left c.args.waiting.now.items (present c.args.heap.now c.run.new.self) c.run.new.waiting.items a) c.in-Trapped.is c.in_ok-steps.ensures.ran)

pub returns-in-Spent-clause-answer : goal.returns-in-Spent-clause-answer
returns-in-Spent-clause-answer c = runs_out (program_view c.args.program.now) c.args.heap.now (present c.args.heap.now c.args.beside.now) c.args.waiting.now.items c.args.op.now c.args.left c.in-Some.place
    (subst (λ (l : _). slice_get l c.in-Some.place ≡ Some c.args.op.now) c.as_slice-2.ensures.value c.in-Some.ensures)
    (present c.args.heap.now c.run.new.self) c.run.new.waiting.items
    (subst (λ a. Sectioned (program_view c.args.program.now) c.args.heap.now (present c.args.heap.now c.args.beside.now) c.args.op.now c.args.left c.args.waiting.now.items (present c.args.heap.now c.run.new.self) c.run.new.waiting.items a) c.in-Spent.is c.in_ok-steps.ensures.ran)

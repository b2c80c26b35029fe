use Rattle.std.proofs.Common.{◌≡◌, ◌-◌, suc, refl, ap, arith}
use Rattle.ca_program.specs.View.{program_view}
use Rattle.ca_meaning.specs.Serial.{fresh}
use Rattle.ca_parallel.specs.Calls.{invocation_of}
use Rattle.ca_steps.specs.declared.here.Here.{Here}
use Rattle.ca_steps.specs.Stands.{here_state}
use Rattle.ca_sections.proofs.InOrder.{call_too_many}
use Rattle.ca_sections.proofs.Called.{call_told}
use Rattle.std.proofs.lemmas.Result.{err_from_is_err_and}
use Rattle.ca_run.proofs.in_place.run_call.Goals as goal

pub returns-then-left-eq0 : goal.returns-then-left-eq0
returns-then-left-eq0 g c =
    let h = c.args.access.now.heap.now in
    record {
      ran = call_too_many (program_view c.args.program.now) h h (invocation_of c.args.op.now) c.args.left (omega arith);
      before = refl;
      same_heap = refl;
      same_kept = refl;
      same_program = refl;
    }

pub returns-in_default : goal.returns-in_default
returns-in_default g c = record { ran = tt; before = refl; same_heap = refl; same_kept = refl; same_program = refl }

pub returns-in_default-number_of : goal.returns-in_default-number_of
returns-in_default-number_of g c = record { ran = tt; before = refl; same_heap = refl; same_kept = refl; same_program = refl }

pub returns-in_err-enter : goal.returns-in_err-enter
returns-in_err-enter g c =
    let p = err_from_is_err_and c.from_residual.result c.from_residual.ensures.1 in
    record { ran = rw p.1 tt; before = refl; same_heap = refl; same_kept = refl; same_program = refl }

pub run_from-halt-requires : goal.run_from-halt-requires
run_from-halt-requires g c =
    let starts = c.in-Some.ensures.some in
    record { laid = starts.runs; within = starts.within; first = (c.in_ok-enter.ensures (program_view c.args.program.now) starts.laid).first; fits = tt }

pub returns : goal.returns
returns g c =
    let p = program_view c.args.program.now in
    let h = c.args.access.now.heap.now in
    let starts = c.in-Some.ensures.some in
    let least : c.args.left ≡ suc (c.args.left - 1) = omega arith in
    let run = c.run_from-halt in
    let m = run.new.frames in
    let after = run.new.access.heap.now in
    let halted = run.ensures.halted (fresh h) in
    let there : Here = record { at = m.at; base = halted.0; left = m.left } in
    record {
      ran = call_told p c.requires.program _ _ c.in-Some-number_of.number h c.requires.heap c.args.op.now c.requires.typed c.args.left c.enter.new.frames starts (c.in_ok-enter.ensures p starts.laid) c.in-Some-number_of.ensures.some least c.args.access.now.program.now (ap program_view c.requires.same) run.result (here_state there m.number m.below m.slots.items (fresh after)) after refl halted.1 m.left refl c.left_of.result c.left_of.ensures;
      before = ap (λ l. l.before) run.ensures.fixed;
      same_heap = ap (λ l. l.heap) run.ensures.fixed;
      same_kept = ap (λ l. l.kept) run.ensures.fixed;
      same_program = ap (λ l. l.program) run.ensures.fixed;
    }

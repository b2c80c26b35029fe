use Rattle.std.proofs.Common.{◌≡◌, ◌-◌, ℕ, suc, Option, Some, None, Result, Ok, refl, ap, sym, subst, arith}
use Rattle.std.specs.Prelude.{IfOk}
use Rattle.std.proofs.lemmas.Result.{err_from_is_err_and}
use Rattle.ca_program.specs.View.{program_view}
use Rattle.ca_meaning.specs.Serial.{fresh}
use Rattle.ca_parallel.specs.Calls.{invocation_of}
use Rattle.ca_steps.specs.declared.here.Here.{Here}
use Rattle.ca_steps.specs.Stands.{here_state}
use Rattle.ca_sections.proofs.InOrder.{call_too_many}
use Rattle.ca_sections.specs.InOrder.{LeftBy}
use Rattle.ca_sections.proofs.Called.{call_told}
use Rattle.ca_replica.specs.Applied.{sums}
use Rattle.ca_replica.specs.InPlace.{Keeps}
use Rattle.ca_replica.proofs.in_place.run_call.Goals as goal

pub returns-then-left-eq0 : goal.returns-then-left-eq0
returns-then-left-eq0 g c =
    let a = c.args.access.now in
    let h = sums a.ground.extent.now.written a.ground.frozen.now a.copies.now in
    record {
      ran = call_too_many (program_view c.args.program.now) h h (invocation_of c.args.op.now) c.args.left (omega arith);
      before = refl;
      there = c.requires.keeps.there;
      same_written = refl;
      same_frozen = refl;
      same_copies = refl;
      same_olds = refl;
    }

pub returns-in_default : goal.returns-in_default
returns-in_default g c =
    record {
      ran = tt;
      before = refl;
      there = c.requires.keeps.there;
      same_written = refl;
      same_frozen = refl;
      same_copies = refl;
      same_olds = refl;
    }

pub returns-in_default-number_of : goal.returns-in_default-number_of
returns-in_default-number_of g c =
    record {
      ran = tt;
      before = refl;
      there = c.requires.keeps.there;
      same_written = refl;
      same_frozen = refl;
      same_copies = refl;
      same_olds = refl;
    }

pub returns-in_err-enter : goal.returns-in_err-enter
returns-in_err-enter g c =
    let p = err_from_is_err_and c.from_residual.result c.from_residual.ensures.1 in
    record {
      ran = rw p.1 tt;
      before = refl;
      there = c.requires.keeps.there;
      same_written = refl;
      same_frozen = refl;
      same_copies = refl;
      same_olds = refl;
    }

pub run_from-halt-requires : goal.run_from-halt-requires
run_from-halt-requires g c =
    let starts = c.in-Some.ensures.some in
    record { laid = starts.runs; within = starts.within; first = (c.in_ok-enter.ensures (program_view c.args.program.now) starts.laid).first; fits = c.requires.keeps }

pub returns-in-Ends : goal.returns-in-Ends
returns-in-Ends g c =
    let p = program_view c.args.program.now in
    let a = c.args.access.now in
    let h = sums a.ground.extent.now.written a.ground.frozen.now a.copies.now in
    let starts = c.in-Some.ensures.some in
    let least : c.args.left ≡ suc (c.args.left - 1) = omega arith in
    let run = c.run_from-halt in
    let m = run.new.frames in
    let b = run.new.access in
    let after = sums b.ground.extent.now.written b.ground.frozen.now b.copies.now in
    let kept : Keeps b.ground.extent.now.written b.ground.frozen.now b.ground.marks.now b.copies.now b.olds.now = run.ensures.still.1 in
    let halted = run.ensures.halted (fresh h) in
    let there : Here = record { at = m.at; base = halted.0; left = m.left } in
    let came : Result (Option ℕ) (Unit {0}) = Ok (Some m.left) in
    let told : IfOk came (λ still. LeftBy run.result m.left still) = subst (λ x. LeftBy x m.left (Some m.left)) (sym c.in-Ends.is) refl in
    record {
      ran = call_told p c.requires.program _ _ c.in-Some-number_of.number h c.requires.heap c.args.op.now c.requires.typed c.args.left c.enter.new.frames starts (c.in_ok-enter.ensures p starts.laid) c.in-Some-number_of.ensures.some least a.program.now (ap program_view c.requires.same) run.result (here_state there m.number m.below m.slots.items (fresh after)) after refl halted.1 m.left refl came told;
      before = ap (λ l. l.before) run.ensures.fixed;
      there = kept.there;
      same_written = ap (λ l. l.written) run.ensures.fixed;
      same_frozen = ap (λ l. l.frozen) run.ensures.fixed;
      same_copies = ap (λ l. l.copies) run.ensures.fixed;
      same_olds = ap (λ l. l.olds) run.ensures.fixed;
    }

pub returns-in-Traps : goal.returns-in-Traps
returns-in-Traps g c =
    let p = program_view c.args.program.now in
    let a = c.args.access.now in
    let h = sums a.ground.extent.now.written a.ground.frozen.now a.copies.now in
    let starts = c.in-Some.ensures.some in
    let least : c.args.left ≡ suc (c.args.left - 1) = omega arith in
    let run = c.run_from-halt in
    let m = run.new.frames in
    let b = run.new.access in
    let after = sums b.ground.extent.now.written b.ground.frozen.now b.copies.now in
    let kept : Keeps b.ground.extent.now.written b.ground.frozen.now b.ground.marks.now b.copies.now b.olds.now = run.ensures.still.1 in
    let halted = run.ensures.halted (fresh h) in
    let there : Here = record { at = m.at; base = halted.0; left = m.left } in
    let came : Result (Option ℕ) (Unit {0}) = Ok None in
    let told : IfOk came (λ still. LeftBy run.result m.left still) = subst (λ x. LeftBy x m.left None) (sym c.in-Traps.is) refl in
    record {
      ran = call_told p c.requires.program _ _ c.in-Some-number_of.number h c.requires.heap c.args.op.now c.requires.typed c.args.left c.enter.new.frames starts (c.in_ok-enter.ensures p starts.laid) c.in-Some-number_of.ensures.some least a.program.now (ap program_view c.requires.same) run.result (here_state there m.number m.below m.slots.items (fresh after)) after refl halted.1 m.left refl came told;
      before = ap (λ l. l.before) run.ensures.fixed;
      there = kept.there;
      same_written = ap (λ l. l.written) run.ensures.fixed;
      same_frozen = ap (λ l. l.frozen) run.ensures.fixed;
      same_copies = ap (λ l. l.copies) run.ensures.fixed;
      same_olds = ap (λ l. l.olds) run.ensures.fixed;
    }

pub returns-in-Spends : goal.returns-in-Spends
returns-in-Spends g c =
    let p = program_view c.args.program.now in
    let a = c.args.access.now in
    let h = sums a.ground.extent.now.written a.ground.frozen.now a.copies.now in
    let starts = c.in-Some.ensures.some in
    let least : c.args.left ≡ suc (c.args.left - 1) = omega arith in
    let run = c.run_from-halt in
    let m = run.new.frames in
    let b = run.new.access in
    let after = sums b.ground.extent.now.written b.ground.frozen.now b.copies.now in
    let kept : Keeps b.ground.extent.now.written b.ground.frozen.now b.ground.marks.now b.copies.now b.olds.now = run.ensures.still.1 in
    let halted = run.ensures.halted (fresh h) in
    let there : Here = record { at = m.at; base = halted.0; left = m.left } in
    let came : Result (Option ℕ) (Unit {0}) = Ok None in
    let told : IfOk came (λ still. LeftBy run.result m.left still) = subst (λ x. LeftBy x m.left None) (sym c.in-Spends.is) refl in
    record {
      ran = call_told p c.requires.program _ _ c.in-Some-number_of.number h c.requires.heap c.args.op.now c.requires.typed c.args.left c.enter.new.frames starts (c.in_ok-enter.ensures p starts.laid) c.in-Some-number_of.ensures.some least a.program.now (ap program_view c.requires.same) run.result (here_state there m.number m.below m.slots.items (fresh after)) after refl halted.1 m.left refl came told;
      before = ap (λ l. l.before) run.ensures.fixed;
      there = kept.there;
      same_written = ap (λ l. l.written) run.ensures.fixed;
      same_frozen = ap (λ l. l.frozen) run.ensures.fixed;
      same_copies = ap (λ l. l.copies) run.ensures.fixed;
      same_olds = ap (λ l. l.olds) run.ensures.fixed;
    }

pub returns-in-Leaves : goal.returns-in-Leaves
returns-in-Leaves g c =
    let run = c.run_from-halt in
    let b = run.new.access in
    let kept : Keeps b.ground.extent.now.written b.ground.frozen.now b.ground.marks.now b.copies.now b.olds.now = run.ensures.still.1 in
    record {
      ran = tt;
      before = ap (λ l. l.before) run.ensures.fixed;
      there = kept.there;
      same_written = ap (λ l. l.written) run.ensures.fixed;
      same_frozen = ap (λ l. l.frozen) run.ensures.fixed;
      same_copies = ap (λ l. l.copies) run.ensures.fixed;
      same_olds = ap (λ l. l.olds) run.ensures.fixed;
    }

pub returns-in-Fails : goal.returns-in-Fails
returns-in-Fails g c =
    let run = c.run_from-halt in
    let b = run.new.access in
    let kept : Keeps b.ground.extent.now.written b.ground.frozen.now b.ground.marks.now b.copies.now b.olds.now = run.ensures.still.1 in
    record {
      ran = tt;
      before = ap (λ l. l.before) run.ensures.fixed;
      there = kept.there;
      same_written = ap (λ l. l.written) run.ensures.fixed;
      same_frozen = ap (λ l. l.frozen) run.ensures.fixed;
      same_copies = ap (λ l. l.copies) run.ensures.fixed;
      same_olds = ap (λ l. l.olds) run.ensures.fixed;
    }

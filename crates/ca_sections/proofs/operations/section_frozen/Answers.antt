use Rattle.std.proofs.Common.{◌≡◌, suc, ◌-◌, [], drop, length, take, refl, sym, ap, ◌∙◌, subst, arith, Vec, Global}
use Rattle.std.specs.Prelude.{IfOk, OnErr, map}
use Rattle.std.proofs.Math.Seq.{take-length}
use Rattle.std.proofs.lemmas.List.{drop_all}
use Rattle.ca_program.specs.View.{program_view}
use Rattle.ca_meaning.specs.Expressions.{slots_in}
use Rattle.ca_meaning.specs.Sections.{section}
use Rattle.ca_parallel.specs.Calls.{invocations_of}
use Rattle.ca_parallel.specs.declared.op.Op.{Op}
use Rattle.ca_undo.specs.Olds.{put_back, AllThere}
use Rattle.ca_steps.specs.Lists.{has_some}
use Rattle.ca_steps.specs.Stands.{back_seen}
use Rattle.ca_sections.specs.declared.operations.SectionAnswer.TheVariants.{Spent}
use Rattle.ca_sections.specs.Answers.{FrozenIs}
use Rattle.ca_sections.specs.declared.access.Own.TheVariants.{Frozen}
use Rattle.ca_sections.specs.Running.{Settled, fore_in, standing}
use Rattle.ca_sections.proofs.Settling.{err_told, frozen_so}
use Rattle.ca_sections.proofs.operations.section_frozen.Goals as goal

pub returns-then-left-eq0 : goal.returns-then-left-eq0
returns-then-left-eq0 c =
    let op = c.args.op.now in
    let ops = c.args.out.now.items in
    let none : c.args.left ≡ 0 = omega arith in
    record {
      answer = λ free o found. subst (λ n. FrozenIs Spent (section (program_view c.args.program.now) c.args.frozen.now op.receiver o op.op op.args n) ops ops) (sym none) refl;
      kept = tt;
    }

pub run-ran-requires : goal.run-ran-requires
run-ran-requires c =
    let starts = c.in-Some.ensures.some in
    let entered = c.in_ok-enter.ensures.entered (program_view c.args.program.now) starts.laid in
    record {
      laid = starts.runs;
      within = starts.within;
      first = entered.first;
      fits = record { stands = sym (ap (λ bs. standing Frozen (has_some (map back_seen bs))) entered.below); there = subst (λ os. AllThere os c.in_ok-none.none) (sym c.forget.ensures) tt };
    }

pub settle-requires : goal.settle-requires
settle-requires c = record { there = c.run-ran.ensures.there }

pub shape_of-desk : goal.shape_of-desk
shape_of-desk c = sym (c.settle.ensures.same_spare ∙ ap (λ l. l.spare) c.run-ran.ensures.lasts)

pub shape_of-desk-2 : goal.shape_of-desk-2
shape_of-desk-2 c = sym (c.settle.ensures.same_olds ∙ ap (λ l. l.olds) c.run-ran.ensures.lasts)

pub returns : goal.returns
returns c =
    let starts = c.in-Some.ensures.some in
    let p = program_view c.args.program.now in
    let op = c.args.op.now in
    let entered = c.in_ok-enter.ensures.entered p starts.laid in
    let run = c.run-ran.ensures in
    let least : c.args.left ≡ suc (c.args.left - 1) = omega arith in
    let out = c.args.out.now.items in
    let given = c.out-1.given.0 in
    let final : given ≡ c.settle.new.self.listed.now = c.out-1.given.1 (sym (c.settle.ensures.same_list ∙ ap (λ l. l.listed) c.run-ran.ensures.lasts)) in
    let now = given.items in
    let told : c.settle.new.self.listed.now.items ≡ now = ap (λ (v : Vec Op Global). v.items) (sym final) in
    let after = c.settle.new.self.slots.now in
    let a1 = c.run-ran.new.access in
    let all : c.len-first.result ≡ length out = omega arith in
    let none : drop c.len-first.result out ≡ [] = drop_all c.len-first.result out (omega (arith, all)) in
    let fore : fore_in a1 ≡ out = ap (λ l. l.fore) run.lasts ∙ (ap (λ n. take n out) all ∙ take-length out) in
    let settled = subst (λ ns. IfOk c.settle.result (λ answer. Settled c.run-ran.result.ended answer c.args.left c.run-ran.result.left a1 after out ns)) told (subst (λ os. IfOk c.settle.result (λ answer. Settled c.run-ran.result.ended answer c.args.left c.run-ran.result.left a1 after os c.settle.new.self.listed.now.items)) fore c.settle.ensures.settled) in
    let kept = subst (λ ns. OnErr c.settle.result ((after ≡ put_back a1.olds.now a1.slots.now) × (ns ≡ out))) told (subst (λ os. OnErr c.settle.result ((after ≡ put_back a1.olds.now a1.slots.now) × (c.settle.new.self.listed.now.items ≡ os))) fore c.settle.ensures.kept) in
    record {
      answer = λ free o found. frozen_so p _ _ c.in-Some-number_of.number c.args.frozen.now op c.args.left o c.enter.new.self.frames c.run-ran.new.frames _ _ a1 starts entered c.in-Some-number_of.ensures.some least c.run-ran.result run.came run.lasts (λ i. record { own = slots_in (found i); listed = invocations_of (none i) }) _ after out now settled;
      kept = err_told _ (now ≡ out) _ (λ k. k.1) kept;
    }

use Rattle.std.proofs.Common.{◌≡◌, suc, ◌-◌, [], drop, length, take, refl, sym, ap, ◌∙◌, subst, arith, Vec, Global}
use Rattle.std.specs.Prelude.{IfOk, OnErr, map}
use Rattle.std.proofs.Math.Seq.{take-length}
use Rattle.std.proofs.lemmas.List.{drop_all}
use Rattle.ca_program.specs.View.{program_view}
use Rattle.ca_meaning.specs.Sections.{section}
use Rattle.ca_parallel.specs.Calls.{invocations_of}
use Rattle.ca_parallel.specs.declared.op.Op.{Op}
use Rattle.ca_undo.specs.Olds.{put_back, AllThere}
use Rattle.ca_steps.specs.Lists.{has_some}
use Rattle.ca_steps.specs.Stands.{back_seen}
use Rattle.ca_sections.specs.declared.operations.SectionAnswer.TheVariants.{Spent}
use Rattle.ca_sections.specs.Answers.{SectionIs}
use Rattle.ca_sections.specs.declared.access.Own.TheVariants.{Handed}
use Rattle.ca_sections.specs.Running.{Settled, fore_in, standing}
use Rattle.ca_sections.proofs.Settling.{handed_is, kept_so, undo_so}
use Rattle.ca_sections.proofs.operations.section.Goals as goal

pub returns-then-left-eq0 : goal.returns-then-left-eq0
returns-then-left-eq0 c =
    let o = c.args.object.now in
    let op = c.args.op.now in
    let ops = c.args.out.now.items in
    let none : c.args.left ≡ 0 = omega arith in
    record {
      answer = subst (λ n. SectionIs Spent (section (program_view c.args.program.now) c.args.frozen.now op.receiver o op.op op.args n) o o ops ops) (sym none) (refl, refl);
      kept = tt;
      undo = λ steps e. cc;
    }

pub run-ran-requires : goal.run-ran-requires
run-ran-requires c =
    let starts = c.in-Some.ensures.some in
    let entered = c.in_ok-enter.ensures.entered (program_view c.args.program.now) starts.laid in
    record {
      laid = starts.runs;
      within = starts.within;
      first = entered.first;
      fits = record { stands = sym (ap (λ bs. standing Handed (has_some (map back_seen bs))) entered.below); there = subst (λ os. AllThere os c.args.object.now.slots) (sym c.forget.ensures) tt };
    }

pub settle-requires : goal.settle-requires
settle-requires c = record { there = c.run-ran.ensures.there }

pub shape_of-desk : goal.shape_of-desk
shape_of-desk c = sym (c.settle.ensures.same_spare ∙ ap (λ l. l.spare) c.run-ran.ensures.lasts)

pub shape_of-object : goal.shape_of-object
shape_of-object c = sym (c.settle.ensures.same_slots ∙ ap (λ l. l.slots) c.run-ran.ensures.lasts)

pub shape_of-desk-2 : goal.shape_of-desk-2
shape_of-desk-2 c = sym (c.settle.ensures.same_olds ∙ ap (λ l. l.olds) c.run-ran.ensures.lasts)

pub returns : goal.returns
returns c =
    let starts = c.in-Some.ensures.some in
    let p = program_view c.args.program.now in
    let op = c.args.op.now in
    let o = c.args.object.now in
    let m = c.enter.new.self.frames in
    let entered = c.in_ok-enter.ensures.entered p starts.laid in
    let run = c.run-ran.ensures in
    let least : c.args.left ≡ suc (c.args.left - 1) = omega arith in
    let out = c.args.out.now.items in
    let given = c.out-1.given.0 in
    let final : given ≡ c.settle.new.self.listed.now = c.out-1.given.1 (sym (c.settle.ensures.same_list ∙ ap (λ l. l.listed) c.run-ran.ensures.lasts)) in
    let now = given.items in
    let told : c.settle.new.self.listed.now.items ≡ now = ap (λ (v : Vec Op Global). v.items) (sym final) in
    let after = c.settle.new.self.slots.now in
    let a1 = c.run-ran.new.access in
    let before : put_back c.forget.new.self o.slots ≡ o.slots = ap (λ os. put_back os o.slots) c.forget.ensures in
    let all : c.len-first.result ≡ length out = omega arith in
    let none : drop c.len-first.result out ≡ [] = drop_all c.len-first.result out (omega (arith, all)) in
    let fore : fore_in a1 ≡ out = ap (λ l. l.fore) run.lasts ∙ (ap (λ n. take n out) all ∙ take-length out) in
    let settled = subst (λ ns. IfOk c.settle.result (λ answer. Settled c.run-ran.result.ended answer c.args.left c.run-ran.result.left a1 after out ns)) told (subst (λ os. IfOk c.settle.result (λ answer. Settled c.run-ran.result.ended answer c.args.left c.run-ran.result.left a1 after os c.settle.new.self.listed.now.items)) fore c.settle.ensures.settled) in
    let kept = subst (λ ns. OnErr c.settle.result ((after ≡ put_back a1.olds.now a1.slots.now) × (ns ≡ out))) told (subst (λ os. OnErr c.settle.result ((after ≡ put_back a1.olds.now a1.slots.now) × (c.settle.new.self.listed.now.items ≡ os))) fore c.settle.ensures.kept) in
    record {
      answer = handed_is p _ _ c.in-Some-number_of.number c.args.frozen.now op c.args.left o m c.run-ran.new.frames _ _ a1 starts entered c.in-Some-number_of.ensures.some least c.run-ran.result run.came run.lasts (λ i. record { own = o.slots; listed = invocations_of (none i) }) _ after out now settled refl before;
      kept = kept_so a1 _ o _ after (now ≡ out) run.lasts before kept;
      undo = undo_so _ c.args.left _ a1 _ o _ after out now _ c.settle.new.self.olds.now run.lasts before run.there refl settled c.settle.ensures.olds;
    }

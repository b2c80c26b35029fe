use Rattle.std.proofs.Common.{◌≡◌, [], drop, length, take, refl, sym, ap, ◌∙◌, subst, arith, Vec, Global}
use Rattle.std.specs.Prelude.{IfOk, OnErr, map}
use Rattle.std.proofs.Math.Seq.{take-length}
use Rattle.std.proofs.lemmas.List.{drop_all}
use Rattle.ca_program.specs.Kinds.{kinds_in}
use Rattle.ca_program.specs.Plain.{PlainProgram}
use Rattle.ca_meaning.specs.Functions.{own_of}
use Rattle.ca_meaning.specs.Sections.{Section, loop_section, section_start}
use Rattle.ca_parallel.specs.Calls.{invocations_of}
use Rattle.ca_parallel.specs.declared.op.Op.{Op}
use Rattle.ca_code.specs.Codes.{code_seen}
use Rattle.ca_code_laws.specs.Told.{Holds}
use Rattle.ca_undo.specs.Olds.{put_back, AllThere}
use Rattle.ca_steps.specs.Lists.{has_some}
use Rattle.ca_steps.specs.Stands.{back_seen, here_state, seen}
use Rattle.ca_sections.specs.Answers.{LoopIs, LocalsAre}
use Rattle.ca_sections.specs.declared.access.Own.TheVariants.{Frozen}
use Rattle.ca_sections.specs.Running.{Settled, fore_in, standing}
use Rattle.ca_sections.proofs.Entering.{base_none, below_none, first_still, locals_held}
use Rattle.ca_sections.proofs.Looping.{kept_second, locals_are, loop_is, read_behind, settled_done, still_went}
use Rattle.ca_sections.proofs.Settling.{ok_told}
use Rattle.ca_sections.proofs.desk.Desk.run_loop.Goals as goal

pub run-ran-requires : goal.run-ran-requires
run-ran-requires c =
    let made = c.in_ok-make.ensures in
    let put = c.in_ok-put_locals.ensures in
    let below = below_none _ _ _ _ _ made put in
    record {
      laid = c.requires.runs;
      within = omega arith;
      first = first_still _ _ _ _ _ made put;
      fits = record { stands = sym (ap (λ bs. standing Frozen (has_some (map back_seen bs))) below); there = subst (λ os. AllThere os c.in_ok-none.none) (sym c.forget.ensures) tt };
    }

pub settle-requires : goal.settle-requires
settle-requires c = record { there = c.run-ran.ensures.there }

pub shape_of-self : goal.shape_of-self
shape_of-self c = sym (c.settle.ensures.same_spare ∙ ap (λ l. l.spare) c.run-ran.ensures.lasts)

pub shape_of-self-2 : goal.shape_of-self-2
shape_of-self-2 c = sym (c.settle.ensures.same_olds ∙ ap (λ l. l.olds) c.run-ran.ensures.lasts)

pub returns : goal.returns
returns c =
    let code = code_seen c.args.laid.now.code in
    let h = c.args.frozen.now in
    let tys = c.args.types.now in
    let ls = c.args.locals.now in
    let x0 : Section = record { own = own_of h c.args.this; listed = invocations_of (drop c.len-first.result c.args.out.now.items) } in
    let a1 = c.run-ran.new.access in
    let m0 = c.put_locals.new.self in
    let m1 = c.run-ran.new.frames in
    let n = c.in-Some.number in
    let named = c.in-Some.ensures.some in
    let ended = c.locals_behind-ended.result in
    let left = c.run-ran.result.left in
    let values = c.locals_behind-ended.new.values.items in
    let out = c.args.out.now.items in
    let given = c.out-2-1.given.0 in
    let final : given ≡ c.settle.new.self.listed.now = c.out-2-1.given.1 (sym (c.settle.ensures.same_list ∙ ap (λ l. l.listed) c.run-ran.ensures.lasts)) in
    let now = given.items in
    let told : c.settle.new.self.listed.now.items ≡ now = ap (λ (v : Vec Op Global). v.items) (sym final) in
    let after = c.settle.new.self.slots.now in
    let made = c.in_ok-make.ensures in
    let put = c.in_ok-put_locals.ensures in
    let below = below_none _ _ _ _ _ made put in
    let base : m1.base ≡ 0 = c.run-ran.ensures.base ∙ base_none _ _ _ _ _ made put in
    let all : c.len-first.result ≡ length out = omega arith in
    let none : drop c.len-first.result out ≡ [] = drop_all c.len-first.result out (omega (arith, all)) in
    let hand : x0 ≡ section_start (own_of h c.args.this) = λ i. record { own = own_of h c.args.this; listed = invocations_of (none i) } in
    let came = c.run-ran.ensures.came in
    let went = still_went h code (here_state (record { at = c.args.place; base = 0; left = c.args.left }) n m0.below m0.slots.items x0) came.state c.run-ran.result.ended ended c.locals_behind-ended.ensures.ran came.went in
    let fore : fore_in a1 ≡ out = ap (λ l. l.fore) c.run-ran.ensures.lasts ∙ (ap (λ n. take n out) all ∙ take-length out) in
    let settled = subst (λ ns. IfOk c.settle.result (λ answer. Settled ended answer c.args.left left a1 after out ns)) told (subst (λ os. IfOk c.settle.result (λ answer. Settled ended answer c.args.left left a1 after os c.settle.new.self.listed.now.items)) fore c.settle.ensures.settled) in
    let kept = subst (λ ns. OnErr c.settle.result ((after ≡ put_back a1.olds.now a1.slots.now) × (ns ≡ out))) told (subst (λ os. OnErr c.settle.result ((after ≡ put_back a1.olds.now a1.slots.now) × (c.settle.new.self.listed.now.items ≡ os))) fore c.settle.ensures.kept) in
    let held : (p : PlainProgram) → Holds (kinds_in p tys).locals (seen m0.slots.items) 0 ls × (length ls ≡ length tys) = λ p. locals_held p tys ls _ _ _ made put in
    record {
      answer = λ stays p line loop fit laid stands none.
          ok_told (λ a. Settled ended a c.args.left left a1 after out now) (λ a. LoopIs a (loop_section p h c.args.this ls line loop c.args.left) out now) c.settle.result
          (λ a s. loop_is p code c.args.place n h c.args.this tys line loop ls c.args.left m0 x0 fit laid stands below named (held p) hand ended left came.state a1 a after out now came.left_is came.world_is went s) settled;
      locals = λ stays p line loop fit laid stands none.
          ok_told (λ a. Settled ended a c.args.left left a1 after out now) (λ a. LocalsAre a (loop_section p h c.args.this ls line loop c.args.left) values) c.settle.result
          (λ a s. locals_are p code c.args.place n h c.args.this tys line loop ls c.args.left m0 x0 fit laid stands below named (held p) hand ended came.state m1 a values came.slots_are base went (λ u e. read_behind ended c.locals_behind-ended.ensures.read u e) (settled_done ended a c.args.left left a1 after out now s)) settled;
      kept = kept_second (after ≡ put_back a1.olds.now a1.slots.now) (now ≡ out) c.settle.result kept;
    }

pub returns-then-place-len : goal.returns-then-place-len
returns-then-place-len c = record { answer = λ stays p line loop fit laid stands none. tt; locals = λ stays p line loop fit laid stands none. tt; kept = refl }

use Rattle.std.proofs.Common.{◌≡◌, ℕ, ◌+◌, Some, None, inl, inr, refl, sym, ap, ◌∙◌, subst, rules, w64}
use mir.Val.{SFits}
use Rattle.std.proofs.lemmas.Int.{to_z-of_z}
use Rattle.std.proofs.lemmas.Option.{get_or_from_slice_get}
use Rattle.std.proofs.lemmas.Result.{IfOk-weaker}
use Rattle.std.specs.Prelude.{◌⊎◌, pos, slice_get}
use Rattle.ca_program.specs.Instructions.{Code, NewItem}
use Rattle.ca_program.specs.View.{program_view}
use Rattle.ca_model.specs.Heaps.{created}
use Rattle.ca_model.specs.declared.value.Value.TheVariants.{Long}
use Rattle.ca_meaning.specs.Expressions.{indexed, items_in}
use Rattle.ca_meaning.specs.Functions.{own_of}
use Rattle.ca_meaning.specs.Serial.{World, in_heap}
use Rattle.ca_code_laws.specs.Machine.{act}
use Rattle.ca_code_laws.specs.Runs.{run_access}
use Rattle.ca_steps.specs.declared.calls.Went.{Went}
use Rattle.ca_steps.specs.Lacking.{IsShort, LacksItem}
use Rattle.ca_steps.specs.Leaving.{Acts, made_in}
use Rattle.ca_steps.specs.Stands.{state_of}
use Rattle.ca_steps.specs.Telling.{IsTold}
use Rattle.ca_steps.proofs.Calling.{acts_by}
use Rattle.ca_steps.proofs.Creating.{index_found, index_not_found}
use Rattle.ca_steps.proofs.Failing.{short_by}
use Rattle.ca_steps.proofs.run.InRun.new_item.Goals as goal

pub unreachable-unreachable : goal.unreachable-unreachable
unreachable-unreachable c = subst IsTold c.in-Unknown.is c.own_look.ensures.told

pub returns-in_default : goal.returns-in_default
returns-in_default c =
    let old = c.args.frames.now in
    record { acts = λ code line w. inl (short_by old c.args.i (λ n e. c.in_default.not-Some n (c.number.ensures ∙ e))); program = refl }

pub returns-in-Holds : goal.returns-in-Holds
returns-in-Holds c =
    let p = program_view c.args.self.now.program.now in
    let old = c.args.frames.now in
    let h = c.args.self.now.heap in
    let small : SFits w64 c.in-Some.index = search rules in
    let index = get_or_from_slice_get old.slots.items (old.base + c.args.i) c.in-Some.index (pos 0) (sym c.number.ensures ∙ c.in-Some.is) in
    let M = λ (place : ℕ). LacksItem (created p c.args.class h) old.this c.args.f place in
    let L = IsShort old c.args.i ⊎ ((place : ℕ) × M place) in
    record {
      acts = IfOk-weaker c.new_in.result
          (λ (went : Went). (line : ℕ) (w : World) → Acts (M c.in-Holds.place) line (λ next. made_in p line c.args.f c.in-Holds.place c.args.class next (state_of old (in_heap w h))) c.new_in.new.frames (in_heap w c.new_in.new.self.heap) went)
          (λ (went : Went). (code : Code) (line : ℕ) (w : World) → Acts L line (λ next. act (run_access p) code line (Some (NewItem c.args.f c.args.i c.args.class)) next (state_of old (in_heap w h))) c.new_in.new.frames (in_heap w c.new_in.new.self.heap) went)
          (λ went a code line w.
          let found = ap (λ x. indexed line (items_in (slice_get (own_of h old.this) c.args.f.field)) (Long x) old.left) index ∙ rw (to_z-of_z w64 c.in-Some.index small) at (c.in-Holds.ensures.looks line old.left) in
          acts_by (M c.in-Holds.place) L line (λ next. made_in p line c.args.f c.in-Holds.place c.args.class next (state_of old (in_heap w h))) (λ next. act (run_access p) code line (Some (NewItem c.args.f c.args.i c.args.class)) next (state_of old (in_heap w h))) c.new_in.new.frames (in_heap w c.new_in.new.self.heap) went
          (λ lacks. inr (c.in-Holds.place, lacks)) (index_found p line c.args.class old h w code c.args.f c.args.i c.in-Holds.place _ found) (a line w)) c.new_in.ensures.acts;
      program = c.new_in.ensures.program;
    }

pub returns-in-Outside : goal.returns-in-Outside
returns-in-Outside c =
    let p = program_view c.args.self.now.program.now in
    let old = c.args.frames.now in
    let h = c.args.self.now.heap in
    let small : SFits w64 c.in-Some.index = search rules in
    let index = get_or_from_slice_get old.slots.items (old.base + c.args.i) c.in-Some.index (pos 0) (sym c.number.ensures ∙ c.in-Some.is) in
    record {
      acts = λ code line w.
          let found = ap (λ x. indexed line (items_in (slice_get (own_of h old.this) c.args.f.field)) (Long x) old.left) index ∙ rw (to_z-of_z w64 c.in-Some.index small) at (c.in-Outside.ensures.looks line old.left) in
          index_not_found p line c.args.class old h w code c.args.f c.args.i found;
      program = refl;
    }

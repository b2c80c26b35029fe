-- A call that takes no lock lists others and changes nothing: these wait in its place.
use Rattle.std.proofs.Common.{◌≡◌, ◌≤◌, ◌+◌, ◌-◌, ◌∙◌, ℕ, List, [], ◌∷◌, length, get_or, Option, Some, None, append-nil, refl, ap, sym, subst, arith}
use Rattle.std.specs.Prelude.{Contains, slice_get, slice_set}
use Rattle.ca_lists.proofs.Members.{has_first}
use Rattle.ca_lists.proofs.Places.{item_there}
use Rattle.ca_program.specs.declared.program.OpId.{OpId}
use Rattle.ca_program.specs.Plain.{PlainProgram}
use Rattle.ca_model.specs.declared.value.Object.{Object}
use Rattle.ca_meaning.specs.Agree.{Agree}
use Rattle.ca_meaning.specs.Expressions.{Invocation}
use Rattle.ca_meaning.specs.Multisets.{weight}
use Rattle.ca_meaning.specs.Sections.{Outcome, Sectioned, done, stopped, over, section}
use Rattle.ca_parallel.specs.declared.op.Op.{Op}
use Rattle.ca_parallel.specs.Bodies.{targets_of_all}
use Rattle.ca_parallel.specs.Calls.{invocation_of, invocations_of}
use Rattle.ca_parallel.specs.Extents.{Extent, operation_body}
use Rattle.ca_parallel.specs.Free.{IsFree}
use Rattle.ca_order_laws.proofs.CallThenList.{set_same}
use Rattle.ca_order_laws.proofs.Setting.{method_at}
use Rattle.ca_logs.specs.Laws.{leaving}
use Rattle.ca_logs.proofs.FreeSections.{free_sections}
use Rattle.ca_sections.specs.Answers.{FrozenIs}
use Rattle.ca_sections.specs.declared.operations.SectionAnswer.{SectionAnswer}
use Rattle.ca_sections.specs.declared.operations.SectionAnswer.TheVariants as answer
use Rattle.ca_cells.proofs.Applies.{receiver_in}
use Rattle.ca_run.specs.Turns.{RanThis, RanTo}
use Rattle.ca_run.proofs.Going.{one_run, ran_within}
use Rattle.ca_workers.specs.clauses.Ahead.{WaitFrom, with_steps}
use Rattle.ca_workers.specs.clauses.Runs.{DoneWithin, IsSetting, MayWait, Placed}
use Rattle.ca_workers.proofs.Going.{then_done, then_none, waits_on}

-- the calls of a list of one
pub only_one : (ops : List Op) (op : Op) → length ops ≡ 1 → op ≡ get_or ops 0 op → invocations_of ops ≡ invocation_of op ∷ []
only_one [] op e is = absurd (omega (arith, e))
only_one (o ∷ []) op e is = ap (λ (z : Op). invocation_of z ∷ []) (sym is)
only_one (o ∷ q ∷ os) op e is = absurd (omega (arith, e))

abbrev object_in : Object → Sectioned → Object
object_in o (done m) = m.object
object_in o (stopped t) = o
object_in o over = o

module _ (p : PlainProgram) (x : Extent) (h : List Object) (set : IsSetting p x h) (op : Op) (w : MayWait p x h h (invocation_of op ∷ [])) (nothing : targets_of_all (operation_body p op.op) ≡ []) (free : IsFree p x.written op.op) (left steps : ℕ) (listed : List Op) where
  abbrev i : Invocation
  i = invocation_of op

  -- the section leaves its object as it is
  same_object : (o : Object) → slice_get h op.receiver ≡ Some o → (m : Outcome) → section p h op.receiver o op.op op.args left ≡ done m → m.object ≡ o
  same_object o found m e =
      let inside : Contains x.ops op.op = w.inside i (has_first i []) in
      let itself : Agree x.written o o = record { class = refl; constants = λ f c free. refl } in
      let same : section p h op.receiver o op.op op.args left ≡ leaving o (section p h op.receiver o op.op op.args left) =
      free_sections p set.program set.roots x set.extent h i inside (set.parallel.separable op.op inside) free o o (method_at p h i o found w.typed.0) itself left in
      ap (object_in o) (sym e ∙ (same ∙ ap (leaving o) e))

  ran : (o : Object) → slice_get h op.receiver ≡ Some o → (s : Sectioned) → section p h op.receiver o op.op op.args left ≡ s → FrozenIs (answer.Done steps) s [] listed → RanTo p h h (i ∷ []) left h (invocations_of listed) steps
  ran o found (done m) e f =
      let stays : slice_set h op.receiver m.object ≡ h = ap (λ (z : Object). slice_set h op.receiver z) (same_object o found m e) ∙ set_same h op.receiver o found in
      let one : RanThis p h h (i ∷ []) left i h (invocations_of listed) steps = record {
        others = [];
        object = o;
        outcome = m;
        waited = record { weighed = λ g. refl };
        found = found;
        section = e;
        heap = sym stays;
        waits = record { weighed = λ g. ap (weight g) (f.1 ∙ sym (append-nil m.listed)) };
        steps_are = f.0;
      } in
      record { order = i ∷ []; run = one_run p h h (i ∷ []) left i h (invocations_of listed) steps one; within = ran_within p h h (i ∷ []) left i h (invocations_of listed) steps one }
  ran o found (stopped t) e f = absurd f
  ran o found over e f = absurd f

  -- what the call told of it
  pub opened : (before : List Op) → before ≡ [] → (a : SectionAnswer) → a ≡ answer.Done steps
      → (targets_of_all (operation_body p op.op) ≡ [] → (o : Object) → slice_get h op.receiver ≡ Some o → FrozenIs a (section p h op.receiver o op.op op.args left) before listed) → RanTo p h h (i ∷ []) left h (invocations_of listed) steps
  opened before none a is told =
      let there = item_there h op.receiver (receiver_in p h i w.typed.0) in
      ran there.0 there.1 (section p h op.receiver there.0 op.op op.args left) refl
      (subst (λ (os : List Op). FrozenIs (answer.Done steps) (section p h op.receiver there.0 op.op op.args left) os listed) none
      (subst (λ (b : SectionAnswer). FrozenIs b (section p h op.receiver there.0 op.op op.args left) before listed) is (told nothing there.0 there.1)))

-- those that it lists may wait in its place
pub opened_waits : (p : PlainProgram) (h : List Object) (roots : List OpId) (ws : List Invocation) → WaitFrom p h roots ws → (budget : ℕ) (rest : List Invocation) (steps : ℕ) → RanTo p h h ws budget h rest steps → WaitFrom p h roots rest
opened_waits p h roots ws w budget rest steps r = record {
  extent = w.extent;
  setting = w.setting;
  waits = waits_on p w.extent h w.setting h ws w.waits budget h rest steps r;
  own = λ x of. ((w.own x of).0, waits_on p x h (w.own x of).0 h ws (w.own x of).1 budget h rest steps r);
}

-- what is done with those that it lists, is done with it
pub placed_behind : (p : PlainProgram) (x : Extent) (h : List Object) (set : IsSetting p x h) (ws : List Invocation) (w : MayWait p x h h ws) (budget : ℕ) (rest : List Invocation) (steps : ℕ) → RanTo p h h ws budget h rest steps →
    (last : List Object) (ended : Option ℕ) → Placed p h h rest (budget - steps) last ended → Placed p h h ws budget last (with_steps budget (budget - steps) ended)
placed_behind p x h set ws w budget rest steps r last None d = then_none p h x set ws w budget h rest steps r last d
placed_behind p x h set ws w budget rest steps r last (Some more) d =
    let within = r.within in
    let few : more ≤ budget - steps = d.1 in
    let same : steps + more ≡ budget - ((budget - steps) - more) = omega (arith, within, few) in
    subst (λ (k : ℕ). DoneWithin p h h ws budget last k) same (then_done p h x set ws w budget h rest steps r last more d)

-- Lines of a block that are followed one by one.
use Rattle.std.proofs.Common.{◌≡◌, ℕ, suc, ◌+◌, ◌-◌, ◌<◌, ◌≤◌, true, List, [], ◌∷◌, ◌++◌, length, drop, refl, ap, sym, subst, ◌∙◌, arith, append_assoc, length-append, get_or}
use Rattle.std.proofs.lemmas.List.{map-append, length-map, drop_more, drop_all}
use Rattle.ca_program.specs.Plain.{PlainProgram}
use Rattle.ca_model.specs.declared.value.Object.{Object}
use Rattle.ca_meaning.specs.Expressions.{Invocation}
use Rattle.ca_parallel.specs.declared.op.Op.{Op}
use Rattle.ca_parallel.specs.Calls.{invocation_of, invocations_of}
use Rattle.ca_order_laws.specs.Pending.{PendingRun, rests}
use Rattle.ca_order_laws.proofs.PendingRuns.{rounds}
use Rattle.ca_trace.specs.declared.line.Line.{Line}
use Rattle.ca_trace.specs.declared.line.Line.TheVariants.{Block, End, Step, Declined, Done, Trapped, Spent, Close}
use Rattle.ca_trace.specs.Lines.{step_of, steps_of}
use Rattle.ca_trace.specs.Laws.{RunsNow}
use Rattle.ca_run.specs.Turns.{RanThis}
use Rattle.ca_run.proofs.Going.{ran_within, one_run}
use Rattle.ca_replay.specs.Following.{starts_block, Halts, Passed, HaltsAt, BlockThere}

-- the lines before place `at` are the beginning of a block whose operations ran, and those behind it are ahead
pub record Behind (p : PlainProgram) (frozen h : List Object) (is : List Invocation) (left : ℕ) (lines : List Line) (mid : List Object) (rest : List Invocation) (still at : ℕ) : Type 0 where
  pub passed : Passed p frozen h is left lines mid rest still at
  pub ahead : drop at lines ≡ passed.behind

starts : (lines : List Line) → starts_block lines ≡ true → lines ≡ Block ∷ drop 1 lines
starts [] e = absurd (let z = e in cc)
starts (Block ∷ ls) e = refl
starts (End ∷ ls) e = absurd (let z = e in cc)
starts (Step o ∷ ls) e = absurd (let z = e in cc)
starts (Declined ∷ ls) e = absurd (let z = e in cc)
starts (Done n ∷ ls) e = absurd (let z = e in cc)
starts (Trapped t ∷ ls) e = absurd (let z = e in cc)
starts (Spent n ∷ ls) e = absurd (let z = e in cc)
starts (Close ∷ ls) e = absurd (let z = e in cc)

pub some_lines : (lines : List Line) → starts_block lines ≡ true → 1 ≤ length lines
some_lines [] e = absurd (let z = e in cc)
some_lines (l ∷ ls) e = omega arith

module _ (p : PlainProgram) (frozen h : List Object) (is : List Invocation) (left : ℕ) (lines : List Line) where
  pub at_start : starts_block lines ≡ true → Behind p frozen h is left lines h is left 1
  at_start e = record {
    passed = record { ops = []; behind = drop 1 lines; steps = 0; there = starts lines e; count = refl; run = rests is (record { weighed = λ f. refl }); sum = omega arith };
    ahead = refl;
  }

  module _ (mid : List Object) (rest : List Invocation) (still at : ℕ) (b : Behind p frozen h is left lines mid rest still at) where
    -- the line at the place
    next : (l : Line) → at < length lines → l ≡ get_or lines at l → b.passed.behind ≡ l ∷ drop (at + 1) lines
    next l lt is2 = sym b.ahead ∙ (drop_more lines at l lt ∙ ap (λ (x : Line). x ∷ drop (at + 1) lines) (sym is2))

    pub one_on : (o : Op) (after : List Object) (more : List Invocation) (steps : ℕ) (l : Line) → l ≡ Step o → at < length lines → l ≡ get_or lines at l → RanThis p frozen mid rest still (invocation_of o) after more steps → Behind p frozen h is left lines after more (still - steps) (at + 1)
    one_on o after more steps l is2 lt here r =
        let one : PendingRun p frozen after more (invocation_of o ∷ []) mid rest steps = one_run p frozen mid rest still (invocation_of o) after more steps r in
        let order : invocations_of b.passed.ops ++ invocation_of o ∷ [] ≡ invocations_of (b.passed.ops ++ o ∷ []) = sym (map-append invocation_of b.passed.ops (o ∷ [])) in
        let le : steps ≤ still = ran_within p frozen mid rest still (invocation_of o) after more steps r in
        let sum = b.passed.sum in let count = b.passed.count in
        let long = length-append b.passed.ops (o ∷ []) in
        record {
          passed = record {
            ops = b.passed.ops ++ o ∷ [];
            behind = drop (at + 1) lines;
            steps = b.passed.steps + steps;
            there = b.passed.there ∙ ap (λ (z : List Line). Block ∷ z) (ap (λ (z : List Line). steps_of b.passed.ops ++ z) (next l lt here ∙ ap (λ (x : Line). x ∷ drop (at + 1) lines) is2)
                ∙ (sym (append_assoc (steps_of b.passed.ops) (Step o ∷ []) (drop (at + 1) lines)) ∙ ap (λ (z : List Line). z ++ drop (at + 1) lines) (sym (map-append step_of b.passed.ops (o ∷ [])))));
            count = (let z : at + 1 ≡ length (b.passed.ops ++ o ∷ []) + 1 = omega (arith, count, long) in z);
            run = subst (λ os. PendingRun p frozen after more os h is (b.passed.steps + steps)) order (rounds p frozen h mid after is rest more (invocations_of b.passed.ops) (invocation_of o ∷ []) b.passed.steps steps b.passed.run one);
            sum = (let z : (b.passed.steps + steps) + (still - steps) ≡ left = omega (arith, sum, le) in z);
          };
          ahead = refl;
        }

    halts_by : (tail : List Line) → b.passed.behind ≡ tail → Halts p frozen mid rest still tail → HaltsAt p frozen h is left lines at
    halts_by tail e k = record { mid = mid; rest = rest; still = still; passed = b.passed; halts = subst (λ t. Halts p frozen mid rest still t) (sym e) k }

    pub at_the_end : length lines ≤ at → HaltsAt p frozen h is left lines at
    at_the_end le = halts_by [] (sym b.ahead ∙ drop_all at lines le) tt

    module _ (l : Line) (lt : at < length lines) (here : l ≡ get_or lines at l) where
      there : (x : Line) → l ≡ x → b.passed.behind ≡ x ∷ drop (at + 1) lines
      there x e = next l lt here ∙ ap (λ (y : Line). y ∷ drop (at + 1) lines) e

      pub by_step : (o : Op) → l ≡ Step o → ¬ RunsNow p frozen mid rest still (invocation_of o) → HaltsAt p frozen h is left lines at
      by_step o e none = halts_by (Step o ∷ drop (at + 1) lines) (there (Step o) e) none

      pub by_end : l ≡ End → ¬ (rest ≡ []) → HaltsAt p frozen h is left lines at
      by_end e some = halts_by (End ∷ drop (at + 1) lines) (there End e) some

      pub by_other : ((o : Op) → ¬ (l ≡ Step o)) → ¬ (l ≡ End) → HaltsAt p frozen h is left lines at
      by_other no_step no_end = halts_by (l ∷ drop (at + 1) lines) (there l refl) (from l no_step no_end)
        where
          from : (x : Line) → ((o : Op) → ¬ (x ≡ Step o)) → ¬ (x ≡ End) → Halts p frozen mid rest still (x ∷ drop (at + 1) lines)
          from Block a c = tt
          from End a c = absurd (c refl)
          from (Step o) a c = absurd (a o refl)
          from Declined a c = tt
          from (Done n) a c = tt
          from (Trapped t) a c = tt
          from (Spent n) a c = tt
          from Close a c = tt

      pub whole : l ≡ End → rest ≡ [] → BlockThere p frozen h is left lines mid (at + 1) (left - still)
      whole e none =
          let sum = b.passed.sum in let count = b.passed.count in
          let steps : b.passed.steps ≡ left - still = omega (arith, sum) in
          let long = length-append (steps_of b.passed.ops) (End ∷ []) in
          let mapped : length (steps_of b.passed.ops) ≡ length b.passed.ops = length-map b.passed.ops step_of in
          record {
            ops = b.passed.ops;
            behind = drop (at + 1) lines;
            there = b.passed.there ∙ ap (λ (z : List Line). Block ∷ z) (ap (λ (z : List Line). steps_of b.passed.ops ++ z) (there End e) ∙ sym (append_assoc (steps_of b.passed.ops) (End ∷ []) (drop (at + 1) lines)));
            counted = (let z : at + 1 ≡ suc (length (steps_of b.passed.ops ++ End ∷ [])) = omega (arith, count, long, mapped) in z);
            run = subst (λ n. PendingRun p frozen mid [] (invocations_of b.passed.ops) h is n) steps (subst (λ r. PendingRun p frozen mid r (invocations_of b.passed.ops) h is b.passed.steps) none b.passed.run);
            within = (let z : left - still ≤ left = omega arith in z);
          }

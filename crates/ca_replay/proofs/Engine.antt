-- What a replay keeps of a list.
use Rattle.std.proofs.Common.{◌≡◌, ℕ, zero, suc, ◌+◌, ◌-◌, ◌<◌, ◌≤◌, ◌⊎◌, inl, inr, Bool, true, false, List, [], ◌∷◌, ◌++◌, length, take, drop, map, Option, Some, None, refl, ap, sym, subst, ◌∙◌, arith, append_assoc, append-nil, length-append}
use Rattle.std.proofs.lemmas.List.{length-map, length-drop, take_rest}
use Rattle.ca_program.specs.declared.program.OpId.{OpId}
use Rattle.ca_program.specs.Plain.{PlainProgram}
use Rattle.ca_model.specs.declared.value.Object.{Object}
use Rattle.ca_model.specs.Typed.{TypedHeap}
use Rattle.ca_meaning.specs.Expressions.{Invocation}
use Rattle.ca_meaning.specs.ProgramTyped.{ProgramTyped}
use Rattle.ca_meaning.specs.Serial.{Note}
use Rattle.ca_meaning.specs.WellTyped.{AllWellTyped}
use Rattle.ca_parallel.specs.declared.op.Op.{Op}
use Rattle.ca_parallel.specs.Calls.{RunsTo, invocation_of, invocations_of, operation_of}
use Rattle.ca_parallel.specs.Lists.{note}
use Rattle.ca_parallel.specs.Notes.{op_of, NoteGood}
use Rattle.ca_parallel.specs.Parallel.{ParallelFrom}
use Rattle.ca_order_laws.proofs.Standing.{runs_stay}
use Rattle.ca_serial.specs.Extents.{IsNotDone}
use Rattle.ca_beside.specs.Beside.{SameShapes}
use Rattle.ca_run.proofs.Answering.{same_shapes}
use Rattle.ca_trace.specs.declared.line.Line.{Line}
use Rattle.ca_trace.specs.declared.line.Line.TheVariants.{Block, End, Step, Declined, Done, Trapped, Spent, Close}
use Rattle.ca_trace.specs.Lines.{step_of, steps_of, block_of, LinesOf, not_done}
use Rattle.ca_trace.specs.Bad.{FirstBad, NoneInFront}
use Rattle.ca_trace.specs.Engines.{Replay, Replayed, still_bad, follows, refused}
use Rattle.ca_trace.specs.Laws.{RunsNow, Going, DoesntGoOn}
use Rattle.ca_trace.proofs.Existing.{all_inside, itself}
use Rattle.ca_trace.proofs.Going.{refused_there, refused_at_end, refused_at_first, done_in_full}
use Rattle.ca_order_laws.specs.Pending.{rests}
use Rattle.ca_replay.specs.declared.following.Followed.{Followed}
use Rattle.ca_replay.specs.Steps.{Stands}
use Rattle.ca_replay.specs.Following.{starts_block, is_word, kept, Halts, HaltsAt, BlockThere, FollowedFrom, FollowedIs}
use Rattle.ca_replay.specs.declared.following.Followed.TheVariants.{Whole, Stopped}

same_ops : (first : List Op) → map operation_of first ≡ map op_of (invocations_of first)
same_ops [] = refl
same_ops (o ∷ os) = ap (λ (l : List OpId). o.op ∷ l) (same_ops os)

declined_word : (lines : List Line) → is_word lines ≡ true → lines ≡ Declined ∷ drop 1 lines
declined_word [] e = absurd (let z = e in cc)
declined_word (Block ∷ ls) e = absurd (let z = e in cc)
declined_word (End ∷ ls) e = absurd (let z = e in cc)
declined_word (Step o ∷ ls) e = absurd (let z = e in cc)
declined_word (Declined ∷ ls) e = refl
declined_word (Done n ∷ ls) e = absurd (let z = e in cc)
declined_word (Trapped t ∷ ls) e = absurd (let z = e in cc)
declined_word (Spent n ∷ ls) e = absurd (let z = e in cc)
declined_word (Close ∷ ls) e = absurd (let z = e in cc)

no_word : (l : Line) (ls : List Line) → is_word (l ∷ ls) ≡ false → ¬ (l ≡ Declined)
no_word l ls e q = absurd (let z = ap (λ (x : Line). is_word (x ∷ ls)) q in cc)

no_block : (l : Line) (ls : List Line) → starts_block (l ∷ ls) ≡ false → ¬ (l ≡ Block)
no_block l ls e q = absurd (let z = ap (λ (x : Line). starts_block (x ∷ ls)) q in cc)

-- halting as the laws say it
halting : (p : PlainProgram) (n : Note) (mid : List Object) (rest : List Invocation) (still s : ℕ) → s + still ≡ n.left → (l : Line) (ls : List Line) → Halts p n.heap mid rest still (l ∷ ls) → DoesntGoOn p n mid rest s l
halting p n mid rest still s sum Block ls h = tt
halting p n mid rest still s sum End ls h = h
halting p n mid rest still s sum (Step o) ls h = subst (λ k. ¬ RunsNow p n.heap mid rest k (invocation_of o)) (let z : still ≡ n.left - s = omega (arith, sum) in z) h
halting p n mid rest still s sum Declined ls h = tt
halting p n mid rest still s sum (Done k) ls h = tt
halting p n mid rest still s sum (Trapped t) ls h = tt
halting p n mid rest still s sum (Spent k) ls h = tt
halting p n mid rest still s sum Close ls h = tt

-- what was followed from a machine at its start was followed of the list
pub from_start : (p : PlainProgram) (h g : List Object) (is js : List Invocation) (left : ℕ) (lines : List Line) (after : List Object) (f : Followed) → g ≡ h → js ≡ is → FollowedFrom p h g js left lines after f → FollowedIs p (note h is left) lines after f
from_start p h g is js left lines after f e k s = subst (λ x. FollowedFrom p h x is left lines after f) e (subst (λ y. FollowedFrom p h g y left lines after f) k s)

-- the place where a block halts is among the lines or right behind them
pub halts_within : (p : PlainProgram) (n : Note) (lines : List Line) (after : List Object) (at : ℕ) → FollowedIs p n lines after (Stopped at) → at ≤ length lines
halts_within p n lines after at (inl (none, b)) = omega (arith, none)
halts_within p n lines after at (inr k) =
    let a = ap length k.passed.there in let b = length-append (steps_of k.passed.ops) k.passed.behind in let c = k.passed.count in
    let d : length (steps_of k.passed.ops) ≡ length k.passed.ops = length-map k.passed.ops step_of in
    omega (arith, a, b, c, d)

pub block_within : (p : PlainProgram) (frozen h : List Object) (is : List Invocation) (left : ℕ) (lines : List Line) (after : List Object) (count steps : ℕ) → BlockThere p frozen h is left lines after count steps → count ≤ length lines
block_within p frozen h is left lines after count steps b =
    let a = ap length b.there in let c = length-append (block_of b.ops) b.behind in let d = b.counted in
    omega (arith, a, c, d)

module _ (p : PlainProgram) (program : ProgramTyped p) (h : List Object) (heap : TypedHeap p h) (first : List Op) (typed : AllWellTyped p h (invocations_of first)) (from : ParallelFrom p (map operation_of first)) (left : ℕ) where
  abbrev n : Note
  n = note h (invocations_of first) left

  good : NoteGood p n
  good = record { heap = heap; typed = typed; parallel = subst (λ ops. ParallelFrom p ops) (same_ops first) from }

  -- a machine at its start stands
  pub begun : (g : List Object) (js : List Invocation) → g ≡ h → js ≡ invocations_of first → Stands p h g js
  begun g js e k = subst (λ x. Stands p h x js) (sym e) (subst (λ y. Stands p h h y) (sym k)
      (record { first = invocations_of first; order = []; steps = 0; heap = heap; typed = typed; parallel = good.parallel; run = rests (invocations_of first) (record { weighed = λ f. refl }) }))

  module _ (lines : List Line) (after : List Object) (count steps : ℕ) (b : BlockThere p h h (invocations_of first) left lines after count steps) where
    pub block_runs : RunsTo p h (invocations_of first) left after steps
    block_runs = (done_in_full p program n good b.ops after steps b.run b.within).0

    block_lines : LinesOf p n (block_of b.ops)
    block_lines = (done_in_full p program n good b.ops after steps b.run b.within).1

    pub block_shapes : SameShapes h after
    block_shapes =
        let g = good.parallel in
        same_shapes p g.extent h after heap (runs_stay p program g.roots g.extent g.is g.parallel h h heap (itself p g.extent n good) (invocations_of first) typed (all_inside g.extent (invocations_of first) g.holds) after [] (invocations_of b.ops) steps b.run).0

    pub block_followed : (all : List Line) (place : ℕ) (bad : Option ℕ) → bad ≡ None → drop place all ≡ lines → Replayed (kept all place bad) p h (invocations_of first) left (kept all (place + count) bad)
    block_followed all place bad none is = follows (block_of b.ops) b.behind none (is ∙ b.there) block_lines (ap (λ k. kept all (place + k) bad) b.counted)

  module _ (lines : List Line) (at : ℕ) (after : List Object) (s : FollowedIs p n lines after (Stopped at)) where
    refused_where : (last : List Object) (steps : ℕ) → RunsTo p h (invocations_of first) left last steps → NoneInFront (LinesOf p n) lines × FirstBad (LinesOf p n) lines at
    refused_where last steps r = by s
      where
        at_first_line : (ls : List Line) → starts_block ls ≡ false → NoneInFront (LinesOf p n) ls × FirstBad (LinesOf p n) ls 0
        at_first_line [] e = (refused_at_first p program n good).1
        at_first_line (l ∷ ls) e = (refused_at_first p program n good).0 l ls (inr ((last, steps, r), no_block l ls e))

        halted : (k : HaltsAt p h h (invocations_of first) left lines at) (tail : List Line) → k.passed.behind ≡ tail → NoneInFront (LinesOf p n) lines × FirstBad (LinesOf p n) lines at
        halted k [] e =
            let g : Going p n k.passed.ops k.mid k.rest k.passed.steps = record { last = last; steps = steps; is_done = r; run = k.passed.run } in
            let whole : Block ∷ steps_of k.passed.ops ≡ lines = sym (k.passed.there ∙ ap (λ (z : List Line). Block ∷ z) (ap (λ (z : List Line). steps_of k.passed.ops ++ z) e ∙ append-nil (steps_of k.passed.ops))) in
            subst (λ m. NoneInFront (LinesOf p n) lines × FirstBad (LinesOf p n) lines m) (sym k.passed.count)
            (subst (λ z. NoneInFront (LinesOf p n) z × FirstBad (LinesOf p n) z (length k.passed.ops + 1)) whole (refused_at_end p program n good k.passed.ops k.mid k.rest k.passed.steps g))
        halted k (l ∷ ls) e =
            let g : Going p n k.passed.ops k.mid k.rest k.passed.steps = record { last = last; steps = steps; is_done = r; run = k.passed.run } in
            let never : DoesntGoOn p n k.mid k.rest k.passed.steps l = halting p n k.mid k.rest k.still k.passed.steps k.passed.sum l ls (subst (λ z. Halts p h k.mid k.rest k.still z) e k.halts) in
            let whole : Block ∷ (steps_of k.passed.ops ++ l ∷ ls) ≡ lines = sym (k.passed.there ∙ ap (λ (z : List Line). Block ∷ (steps_of k.passed.ops ++ z)) e) in
            subst (λ m. NoneInFront (LinesOf p n) lines × FirstBad (LinesOf p n) lines m) (sym k.passed.count)
            (subst (λ z. NoneInFront (LinesOf p n) z × FirstBad (LinesOf p n) z (length k.passed.ops + 1)) whole (refused_there p program n good k.passed.ops k.mid k.rest k.passed.steps g l ls never))

        by : FollowedIs p n lines after (Stopped at) → NoneInFront (LinesOf p n) lines × FirstBad (LinesOf p n) lines at
        by (inl (none, e)) = subst (λ m. NoneInFront (LinesOf p n) lines × FirstBad (LinesOf p n) lines m) (sym none) (at_first_line lines e)
        by (inr k) = halted k k.passed.behind refl

    -- the list is done: the line where the block halts is the first bad one
    pub kept_bad : (all : List Line) (place : ℕ) (bad now : Option ℕ) → bad ≡ None → drop place all ≡ lines → now ≡ Some (place + at) → (last : List Object) (steps : ℕ) → RunsTo p h (invocations_of first) left last steps → Replayed (kept all place bad) p h (invocations_of first) left (kept all place now)
    kept_bad all place bad now none is same last steps r =
        let w = refused_where last steps r in
        refused at none (subst (λ l. NoneInFront (LinesOf p n) l) (sym is) w.0) (subst (λ l. FirstBad (LinesOf p n) l at) (sym is) w.1) (ap (λ b. kept all place b) same)

  -- the list isn't done
  module _ (lines all : List Line) (place : ℕ) (bad : Option ℕ) (none : bad ≡ None) (is : drop place all ≡ lines) (undone : IsNotDone p h (invocations_of first) left) where
    pub kept_word : is_word lines ≡ true → Replayed (kept all place bad) p h (invocations_of first) left (kept all (place + 1) bad)
    kept_word e = follows (Declined ∷ []) (drop 1 lines) none (is ∙ declined_word lines e) (not_done undone) refl

    refused_first : (ls : List Line) → is_word ls ≡ false → NoneInFront (LinesOf p n) ls × FirstBad (LinesOf p n) ls 0
    refused_first [] e = (refused_at_first p program n good).1
    refused_first (l ∷ ls) e = (refused_at_first p program n good).0 l ls (inl (undone, no_word l ls e))

    pub kept_other : (now : Option ℕ) → now ≡ Some place → is_word lines ≡ false → Replayed (kept all place bad) p h (invocations_of first) left (kept all place now)
    kept_other now same e =
        let w = refused_first lines e in
        let here : place ≡ place + 0 = omega arith in
        refused 0 none (subst (λ l. NoneInFront (LinesOf p n) l) (sym is) w.0) (subst (λ l. FirstBad (LinesOf p n) l 0) (sym is) w.1) (ap (λ b. kept all place b) (same ∙ ap (λ (k : ℕ). Some k) here))

-- the lines from a place on, as a slice
pub range_is : (seen all : List Line) (place : ℕ) → seen ≡ all → take (length seen - place) (drop place seen) ≡ drop place all
range_is seen all place e = take_rest seen place ∙ ap (λ (l : List Line). drop place l) e

-- where lines stopped, whatever the heap
pub stopped_at : (p : PlainProgram) (n : Note) (seen lines : List Line) (after h : List Object) (f : Followed) (at : ℕ) → f ≡ Stopped at → seen ≡ lines → FollowedIs p n seen after f → FollowedIs p n lines h (Stopped at)
stopped_at p n seen lines after h f at e s k = subst (λ ls. FollowedIs p n ls h (Stopped at)) s (subst (λ g. FollowedIs p n seen after g) e k)

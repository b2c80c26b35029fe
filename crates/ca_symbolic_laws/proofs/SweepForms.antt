-- What a loop that sweeps by its form puts, and that a call loop is none.
use Rattle.std.proofs.Common.{◌≡◌, ℕ, Bool, true, false, [], ◌∷◌, ◌++◌, Option, Some, None, refl, ap, ◌∙◌}
use Rattle.std.specs.Prelude.{if◌then◌else◌}
use Rattle.ca_program.specs.declared.program.FieldId.{FieldId}
use Rattle.ca_program.specs.declared.program.FirstPart.{FirstPart}
use Rattle.ca_program.specs.declared.program.LocalId.{LocalId}
use Rattle.ca_program.specs.declared.program.LoopId.{LoopId}
use Rattle.ca_program.specs.Plain.{Expression, Statement, block, invoke, for_loop, no_statements, statement_and}
use Rattle.ca_parallel.specs.Bodies.{targets_of}
use Rattle.ca_parallel.specs.Loops.{IsCall, CallsAlone}
use Rattle.ca_sweep.specs.Sweeps.{PlainSweep, Counts, by_one, puts_one_more, Adds, adds, takes_off, puts_sum, puts_difference, AddsAlone, bare, in_block, IsSweep, a_sweep}
use Rattle.ca_sweep.specs.Found.{Beginning, beginning, bound, counts_up, addition, addition_alone, with_addition, with_bound, with_beginning, if_sums, sweep_at}

next_targets : (i : LocalId) (x : Statement) → Counts i x → targets_of x ≡ []
next_targets i _ (by_one line) = refl
next_targets i _ (puts_one_more line) = refl

add_targets : (i : LocalId) (f : FieldId) (e : Expression) (minus : Bool) (x : Statement) → Adds i f e minus x → targets_of x ≡ f ∷ []
add_targets i f e _ _ (adds line) = refl
add_targets i f e _ _ (takes_off line) = refl
add_targets i f e _ _ (puts_sum line) = refl
add_targets i f e _ _ (puts_difference line) = refl

alone_targets : (i : LocalId) (f : FieldId) (e : Expression) (minus : Bool) (x : Statement) → AddsAlone i f e minus x → targets_of x ≡ f ∷ []
alone_targets i f e minus _ (bare x a) = add_targets i f e minus x a
alone_targets i f e minus _ (in_block line x a) = ap (λ xs. xs ++ []) (add_targets i f e minus x a)

pub sweep_targets : (w : PlainSweep) (x : Statement) → IsSweep w x → targets_of x ≡ w.field ∷ []
sweep_targets w _ (a_sweep own site at next body c a) = ap (λ xs. xs ++ targets_of body) (next_targets w.counter next c) ∙ alone_targets w.counter w.field w.addend w.minus body a

-- a body of calls adds nothing
one_call : (x : Statement) (i : LocalId) → IsCall x → addition x i ≡ None
one_call (invoke line e op es) i c = refl
one_call x i c = absurd c

calls_add : (x : Statement) (i : LocalId) → CallsAlone x → addition_alone x i ≡ None
calls_add (invoke line e op es) i c = refl
calls_add (block line (statement_and x no_statements)) i c = one_call x i c.0
calls_add (block line (statement_and x (statement_and y xs))) i c = refl
calls_add x i c = absurd c

no_addition : (b : Beginning) (to : Expression) (next x : Statement) (u : Bool) → addition_alone x b.counter ≡ None → (if u then with_addition b to (addition_alone x b.counter) else None) ≡ None
no_addition b to next x true e = ap (with_addition b to) e
no_addition b to next x false e = refl

no_bound : (b : Beginning) (o : Option Expression) (next x : Statement) → addition_alone x b.counter ≡ None → with_bound b o next x ≡ None
no_bound b None next x e = refl
no_bound b (Some to) next x e = no_addition b to next x (counts_up next b.counter) e

no_beginning : (o : Option Beginning) (c : Expression) (next x : Statement) → CallsAlone x → with_beginning o c next x ≡ None
no_beginning None c next x a = refl
no_beginning (Some b) c next x a = no_bound b (bound c b.counter) next x (calls_add x b.counter a)

pub calls_sweep_nothing : (own : ℕ) (site : LoopId) (part : FirstPart) (first : Statement) (c : Expression) (next x : Statement) → CallsAlone x → sweep_at (for_loop own site part first c next x) ≡ None
calls_sweep_nothing own site part first c next x a = ap (if_sums None []) (no_beginning (beginning part first) c next x a)

-- A sweep by the form of its loop.
use Rattle.std.proofs.Common.{ℕ}
use Rattle.ca_tree.specs.declared.tree.AssignOp.TheVariants.{Put}
use Rattle.ca_tree.specs.declared.tree.BinaryOp.TheVariants.{Less}
use Rattle.ca_program.specs.declared.program.LoopId.{LoopId}
use Rattle.ca_program.specs.declared.program.FirstPart.TheVariants.{Declares}
use Rattle.ca_program.specs.Plain.{local, binary, Statement, put_local, for_loop}
use Rattle.ca_sweep.specs.Sweeps.{PlainSweep, Counts, AddsAlone, IsSweep, a_sweep}

pub data Shown (w : PlainSweep) : Statement → Type 0 where
  shown : (own_line : ℕ) (site : LoopId) (at_line : ℕ) (next body : Statement) → Counts w.counter next → AddsAlone w.counter w.field w.addend w.minus body →
      Shown w (for_loop own_line site Declares (put_local at_line w.counter Put w.from) (binary Less (local w.counter) w.to) next body)

pub shown_of : (w : PlainSweep) (loop : Statement) → IsSweep w loop → Shown w loop
shown_of w _ (a_sweep own_line site at_line next body counts alone) = shown own_line site at_line next body counts alone

-- Fewer marks than these: a run goes on into what isn't marked.
use Rattle.std.specs.Prelude.{◌≡◌, Contains}
use Rattle.ca_program.specs.declared.program.OpId.{OpId}
use Rattle.ca_parallel.specs.Lists.{PlainMarks}

-- each operation is one of those that are marked, and the loops are the same
pub record FewerMarks (fewer all : PlainMarks) : Type 0 where
  pub ops : (op : OpId) → Contains fewer.ops op → Contains all.ops op
  pub loops : fewer.loops ≡ all.loops

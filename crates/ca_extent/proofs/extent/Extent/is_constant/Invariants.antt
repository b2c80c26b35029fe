use Rattle.std.proofs.Common.{take}
use Rattle.std.specs.Prelude.{Contains}
use Rattle.ca_extent.proofs.extent.Extent.is_constant.Given as goal

abbrev pub invariant-loop-f : goal.invariant-loop-f
invariant-loop-f l = Contains (take l.f-index l.self.written) l.field → ⊥

-- The extent of some operations as one value: its lists rise, so none repeats.
use Rattle.std.specs.Prelude.{ℕ, suc, ◌≡◌, ◌<◌, ◌⊎◌, List, slice_get, Some}
use Rattle.ca_program.specs.declared.program.FieldId.{FieldId}
use Rattle.ca_program.specs.declared.program.FunctionId.{FunctionId}
use Rattle.ca_program.specs.declared.program.OpId.{OpId}
use Rattle.ca_program.specs.Plain.{PlainProgram}
use Rattle.ca_parallel.specs.Extents.{Extent, IsExtentOf}

-- each item comes before the next
pub record Rises {A : Type 0} (Before : A → A → Type 0) (xs : List A) : Type 0 where
  pub rises : (n : ℕ) (x y : A) → slice_get xs n ≡ Some x → slice_get xs (suc n) ≡ Some y → Before x y

abbrev pub OpBefore : OpId → OpId → Type 0
OpBefore a b = a.0 < b.0

abbrev pub FunctionBefore : FunctionId → FunctionId → Type 0
FunctionBefore m n = m.0 < n.0

-- by class, and in a class by place
abbrev pub FieldBefore : FieldId → FieldId → Type 0
FieldBefore f g = (f.class.0 < g.class.0) ⊎ ((f.class ≡ g.class) × (f.field < g.field))

pub record ExtentOf (p : PlainProgram) (roots : List OpId) (x : Extent) : Type 0 where
  pub holds : IsExtentOf p roots x
  pub ops : Rises OpBefore x.ops
  pub functions : Rises FunctionBefore x.functions
  pub written : Rises FieldBefore x.written

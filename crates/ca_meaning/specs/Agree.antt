-- Objects and heaps that hold the same but for fields that are written.
use Rattle.std.specs.Prelude.{ℕ, ◌≡◌, List, length, Some, slice_get, Contains}
use Rattle.ca_program.specs.declared.program.FieldId.{FieldId}
use Rattle.ca_model.specs.declared.value.Object.{Object}

-- two objects of one class, in which the fields that are not written hold the same
pub record Agree (written : List FieldId) (o q : Object) : Type 0 where
  pub class : o.class ≡ q.class
  pub constants : (f : FieldId) → f.class ≡ o.class → ¬ Contains written f → slice_get o.slots f.field ≡ slice_get q.slots f.field

-- the heap has an object n, and it agrees
pub record AgreesAt (written : List FieldId) (o : Object) (h : List Object) (n : ℕ) : Type 0 where
  pub other : Object
  pub there : slice_get h n ≡ Some other
  pub agree : Agree written o other

-- as many objects, each of which agrees
pub record HeapsAgree (written : List FieldId) (h g : List Object) : Type 0 where
  pub as_many : length h ≡ length g
  pub each : (n : ℕ) (o : Object) → slice_get h n ≡ Some o → AgreesAt written o g n

-- The pairs of an extent: every two of its operations that are of one class, also one with itself.
use Rattle.std.specs.Prelude.{Bool, false, if◌then◌else◌, nat_eq, List, [], ◌∷◌, ◌++◌, Option, Some, slice_get}
use Rattle.ca_program.specs.declared.program.OpId.{OpId}
use Rattle.ca_program.specs.Plain.{PlainProgram, PlainMethod}

pub record Pair : Type 0 where
  pub a : OpId
  pub b : OpId

abbrev pub is_one_class : Option PlainMethod → Option PlainMethod → Bool
is_one_class (Some m) (Some n) = nat_eq m.class.0 n.class.0
is_one_class _ _ = false

-- both are operations of one class
abbrev pub of_one_class : PlainProgram → OpId → OpId → Bool
of_one_class p a b = is_one_class (slice_get p.ops a.0) (slice_get p.ops b.0)

-- the pairs of an operation with some others, in their order
abbrev pub pairs_with : PlainProgram → OpId → List OpId → List Pair
pairs_with p a [] = []
pairs_with p a (b ∷ bs) = if of_one_class p a b then record { a = a; b = b } ∷ pairs_with p a bs else pairs_with p a bs

-- The pairs of some operations: by the first of the two and then by the second, which doesn't come before it.
abbrev pub pairs_in : PlainProgram → List OpId → List Pair
pairs_in p [] = []
pairs_in p (a ∷ bs) = pairs_with p a (a ∷ bs) ++ pairs_in p bs

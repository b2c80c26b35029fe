-- What an array stands on is smaller than it.
use Rattle.std.specs.Prelude.{◌≤◌, max}
use Rattle.std.proofs.Common.{arith}
use Rattle.ca_forms.specs.declared.array.ArrayNode.{ArrayNode}
use Rattle.ca_forms.specs.declared.array.ArrayNode.TheVariants as array
use Rattle.ca_forms.specs.declared.array.Array.TheDeep.{deep-ArrayNode}
use Rattle.ca_forms.specs.ArraysSeen.{array_of}
use Rattle.ca_forms.specs.Arrays.{array_size}

pub array_falls : (n : ArrayNode) → max (deep-ArrayNode n) 0 ≤ array_size (array_of n)
array_falls (array.Items s g n) = omega arith
array_falls (array.Put a i x) = omega arith
array_falls (array.Sums a rs) = omega arith
array_falls (array.Choice c a b) = omega arith

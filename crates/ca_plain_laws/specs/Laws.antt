-- What is sure of plain pairs: everything that the verdict "they commute" asks for.
use Rattle.std.specs.Prelude.{◌≡◌, ℕ, false, List, None, map}
use Rattle.ca_program.specs.declared.program.FieldId.{FieldId}
use Rattle.ca_program.specs.declared.program.FieldInfo.{FieldInfo}
use Rattle.ca_program.specs.declared.program.OpId.{OpId}
use Rattle.ca_program.specs.Plain.{PlainProgram}
use Rattle.ca_parallel.specs.Separable.{Separable}
use Rattle.ca_norm.specs.Terms.{PlainTerm}
use Rattle.ca_norm.specs.Forms.{norm}
use Rattle.ca_shared_terms.specs.Starts.{starts}
use Rattle.ca_symbolic.specs.Runs.{executed, demanded_by, is_heavy_by, first_other_loop}
use Rattle.ca_plain_laws.specs.PlainPairs.{IsPlainPair}

-- One operation and then another, whose parameters are the atoms of these groups, from what the fields hold at the start:
-- no term of a result is too heavy.
pub record IsLight (p : PlainProgram) (a : OpId) (g : ℕ) (b : OpId) (h : ℕ) (fields : List PlainTerm) : Type 0 where
  pub first : is_heavy_by p a g fields ≡ false
  pub second : is_heavy_by p b h (executed p a g fields).fields ≡ false

-- The fields end in the same normal forms in both orders, and each operation demands the same before and behind the
-- other.
pub record LooksSame (p : PlainProgram) (a : OpId) (g : ℕ) (b : OpId) (h : ℕ) (fields : List PlainTerm) : Type 0 where
  pub forms : map norm (executed p b h (executed p a g fields).fields).fields ≡ map norm (executed p a g (executed p b h fields).fields).fields
  pub first_demands : demanded_by p a g (executed p b h fields).fields ≡ demanded_by p a g fields
  pub second_demands : demanded_by p b h (executed p a g fields).fields ≡ demanded_by p b h fields

-- The operations of a plain pair are separable, and have no loops.
abbrev pub PlainPairsAreSeparable : Type 0
PlainPairsAreSeparable = (p : PlainProgram) (written : List FieldId) (a b : OpId) → IsPlainPair p written a b → Separable p written a × Separable p written b

abbrev pub PlainPairsHaveNoLoops : Type 0
PlainPairsHaveNoLoops = (p : PlainProgram) (written : List FieldId) (a b : OpId) → IsPlainPair p written a b → (first_other_loop p written a ≡ None) × (first_other_loop p written b ≡ None)

-- No term of a plain pair is too heavy, in either order.
abbrev pub PlainPairsAreLight : Type 0
PlainPairsAreLight = (p : PlainProgram) (written : List FieldId) (a b : OpId) (fields : List FieldInfo) → IsPlainPair p written a b → IsLight p a 1 b 2 (starts 0 fields) × IsLight p b 2 a 1 (starts 0 fields)

-- Both orders of a plain pair look the same.
abbrev pub PlainPairsLookSame : Type 0
PlainPairsLookSame = (p : PlainProgram) (written : List FieldId) (a b : OpId) (fields : List FieldInfo) → IsPlainPair p written a b → LooksSame p a 1 b 2 (starts 0 fields)

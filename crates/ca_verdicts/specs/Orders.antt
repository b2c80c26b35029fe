-- What one operation leaves and demands on terms of the fields, and what one and then another do.
use Rattle.std.specs.Prelude.{ℕ, Bool, ◌||◌, List, [], ◌++◌, Option, Some, None, slice_get}
use Rattle.ca_program.specs.declared.program.FieldInfo.{FieldInfo}
use Rattle.ca_program.specs.declared.program.OpId.{OpId}
use Rattle.ca_program.specs.Plain.{PlainProgram, PlainMethod}
use Rattle.ca_model.specs.Heaps.{fields_of}
use Rattle.ca_norm.specs.Terms.{PlainTerm}
use Rattle.ca_shared_terms.specs.Starts.{starts}
use Rattle.ca_symbolic.specs.States.{PlainDemand}
use Rattle.ca_symbolic.specs.Runs.{executed, demanded_by, is_heavy_by}

-- the terms of the fields in the end, what is demanded, and whether one of these or of those made on the way weighs too much
pub record Effect : Type 0 where
  pub fields : List PlainTerm
  pub demands : List PlainDemand
  pub heavy : Bool

-- one operation and then another, each with the group of its parameters
abbrev pub in_order : PlainProgram → OpId → ℕ → OpId → ℕ → List PlainTerm → Effect
in_order p a g b h fields =
    let between = (executed p a g fields).fields in
    record {
      fields = (executed p b h between).fields;
      demands = demanded_by p a g fields ++ demanded_by p b h between;
      heavy = is_heavy_by p a g fields || is_heavy_by p b h between;
    }

abbrev pub fields_at : PlainProgram → Option PlainMethod → List FieldInfo
fields_at p None = []
fields_at p (Some m) = fields_of (slice_get p.classes m.class.0)

-- the fields of the operation's class as they are at the start
abbrev pub start_of : PlainProgram → OpId → List PlainTerm
start_of p a = starts 0 (fields_at p (slice_get p.ops a.0))

-- The two orders of a pair. In each the parameters of a have group 1, and those of b group 2.
abbrev pub first_order : PlainProgram → OpId → OpId → Effect
first_order p a b = in_order p a 1 b 2 (start_of p a)

abbrev pub second_order : PlainProgram → OpId → OpId → Effect
second_order p a b = in_order p b 2 a 1 (start_of p a)

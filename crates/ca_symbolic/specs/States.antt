-- What symbolic execution keeps, a term for each field and each local, and what it demands.
use Rattle.std.specs.Prelude.{ℕ, ◌+◌, List, [], ◌∷◌, ◌++◌, map, take, drop, false, pos, Option, Some, None, slice_get}
use Rattle.ca_program.specs.declared.program.FieldId.{FieldId}
use Rattle.ca_program.specs.declared.program.FunctionId.{FunctionId}
use Rattle.ca_program.specs.declared.program.OpId.{OpId}
use Rattle.ca_program.specs.declared.program.LoopId.{LoopId}
use Rattle.ca_program.specs.declared.program.ValueType.{ValueType}
use Rattle.ca_program.specs.declared.program.ValueType.TheVariants as type
use Rattle.ca_program.specs.Plain.{PlainMethod}
use Rattle.ca_forms.specs.declared.sort.Sort.TheVariants.{Pointer}
use Rattle.ca_norm.specs.Terms.{PlainTerm, number, truth, null, atom}
use Rattle.ca_shared_terms.specs.Starts.{sort_of_type, or_null}

pub record State : Type 0 where
  pub fields : List PlainTerm
  pub locals : List PlainTerm

-- What an execution may ask for: that a pointer is not null, that an index lies in a field that is an array, a call of a
-- value method, a call of an operation, a call loop, and that a range lies in a field that is an array.
pub data DemandKind : Type 0 where
  not_null : DemandKind
  in_range : FieldId → DemandKind
  calls : FunctionId → DemandKind
  invokes : OpId → DemandKind
  loops : LoopId → DemandKind
  sweeps : FieldId → DemandKind

-- A demand, under the condition of the path to it. Its parts are the pointer; the index; the receiver and then the
-- arguments; the values of the locals that a loop reads; or the bounds of a range.
pub record PlainDemand : Type 0 where
  pub guard : PlainTerm
  pub kind : DemandKind
  pub parts : List PlainTerm

abbrev pub demand : PlainTerm → DemandKind → List PlainTerm → PlainDemand
demand guard kind parts = record { guard = guard; kind = kind; parts = parts }

-- the term at a place, null where there is none
abbrev pub term_at : List PlainTerm → ℕ → PlainTerm
term_at ts n = or_null (slice_get ts n)

-- the receiver
abbrev pub receiver : PlainTerm
receiver = atom Pointer 0 0

-- what a local holds before it is put
abbrev pub start_term : ValueType → PlainTerm
start_term type.Long = number (pos 0)
start_term type.Bool = truth false
start_term (type.Pointer c) = null

-- the parameters as atoms of a group, the first of which has the number n
abbrev pub parameters : ℕ → ℕ → List ValueType → List PlainTerm
parameters group n [] = []
parameters group n (ty ∷ tys) = atom (sort_of_type ty) group n ∷ parameters group (n + 1) tys

-- The locals that an operation begins with: its parameters, which are the atoms of that group, and what the other locals
-- start with.
abbrev pub first_locals : ℕ → Option PlainMethod → List PlainTerm
first_locals group None = []
first_locals group (Some m) = parameters group 0 (take m.params m.body.locals) ++ map start_term (drop m.params m.body.locals)

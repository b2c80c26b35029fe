-- What the run of an operation leaves, demands and makes, from terms that its fields hold before.
use Rattle.std.specs.Prelude.{ℕ, Bool, true, List, [], ◌++◌, Option, Some, None, slice_get}
use Rattle.std.specs.List.{list_any}
use Rattle.ca_program.specs.declared.program.OpId.{OpId}
use Rattle.ca_program.specs.declared.program.FieldId.{FieldId}
use Rattle.ca_program.specs.Plain.{PlainProgram, PlainMethod}
use Rattle.ca_parallel.specs.Extents.{operation_body}
use Rattle.ca_norm.specs.Terms.{PlainTerm, truth}
use Rattle.ca_symbolic.specs.declared.running.Side.{Side}
use Rattle.ca_symbolic.specs.declared.running.Side.TheVariants as side
use Rattle.ca_symbolic.specs.States.{State, PlainDemand, first_locals}
use Rattle.ca_symbolic.specs.Execution.{after_all}
use Rattle.ca_symbolic.specs.Demands.{demanded_all}
use Rattle.ca_symbolic.specs.Made.{made_by}
use Rattle.ca_symbolic.specs.OtherLoops.{other_loop_in}
use Rattle.ca_shared_terms.specs.Heavy.{is_heavy}

-- these fields, and no locals
abbrev pub fresh : List PlainTerm → State
fresh ts = record { fields = ts; locals = [] }

abbrev pub with_locals : State → List PlainTerm → State
with_locals s ts = record { fields = s.fields; locals = ts }

-- the group of the parameters of the first or the second operation of a pair
abbrev pub group_of : Side → ℕ
group_of side.First = 1
group_of side.Second = 2

-- the state in which an operation begins, whose parameters have that group
abbrev pub begins : PlainProgram → OpId → ℕ → List PlainTerm → State
begins p op g fields = record { fields = fields; locals = first_locals g (slice_get p.ops op.0) }

abbrev pub executed : PlainProgram → OpId → ℕ → List PlainTerm → State
executed p op g fields = after_all p (begins p op g fields) (operation_body p op)

abbrev pub demanded_by : PlainProgram → OpId → ℕ → List PlainTerm → List PlainDemand
demanded_by p op g fields = demanded_all p (begins p op g fields) (truth true) (operation_body p op)

-- The terms of a run's result: those that are made on the way, and those that its fields hold behind it, put or not. A local
-- that isn't put holds a number, a truth value, null or an atom.
abbrev pub terms_by : PlainProgram → OpId → ℕ → List PlainTerm → List PlainTerm
terms_by p op g fields = made_by p (begins p op g fields) (truth true) (operation_body p op) ++ (executed p op g fields).fields

abbrev pub is_heavy_by : PlainProgram → OpId → ℕ → List PlainTerm → Bool
is_heavy_by p op g fields = list_any is_heavy (terms_by p op g fields)

abbrev pub params_of : Option PlainMethod → ℕ
params_of None = 0
params_of (Some m) = m.params

-- the line of the first loop of an operation, of an extent that writes these fields, that is neither a call loop nor a sweep
abbrev pub first_other_loop : PlainProgram → List FieldId → OpId → Option ℕ
first_other_loop p written op = other_loop_in (params_of (slice_get p.ops op.0)) written (operation_body p op)

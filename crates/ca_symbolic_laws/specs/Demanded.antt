-- What the demands of a body take and list in a run: those under true guards, and no others.
use Rattle.std.specs.Prelude.{ℕ, zero, suc, ◌-◌, pos, Bool, true, false, nat_lt, if◌then◌else◌, List, [], ◌∷◌, ◌++◌, length, map, Option, Some, None}
use Rattle.std.specs.Option.{option_or}
use Rattle.ca_program.specs.declared.program.FunctionId.{FunctionId}
use Rattle.ca_program.specs.declared.program.LoopId.{LoopId}
use Rattle.ca_program.specs.Plain.{PlainMethod, Statement}
use Rattle.ca_model.specs.declared.value.Value.{Value as Datum}
use Rattle.ca_model.specs.declared.value.Value.TheVariants.{Long, Bool as Truth, Null, Ref}
use Rattle.ca_meaning.specs.Expressions.{Out, gives, traps, over, Invocation, invocation}
use Rattle.ca_meaning.specs.Flows.{line_of}
use Rattle.ca_meaning.specs.Functions.{functions_of}
use Rattle.ca_meaning.specs.ProgramTyped.{field_info}
use Rattle.ca_meaning.specs.Sections.{LoopSectioned, loop_done, loop_stopped, loop_over, loop_section}
use Rattle.ca_parallel.specs.Bodies.{fors_in_all}
use Rattle.ca_parallel.specs.Lists.{has_site}
use Rattle.ca_norm.specs.Meanings.{Valuation, mean}
use Rattle.ca_norm.specs.Environments.{Environment}
use Rattle.ca_sweep.specs.Means.{length_in, sweep_cost_of}
use Rattle.ca_symbolic.specs.States.{DemandKind, not_null, in_range, calls, invokes, loops, sweeps, PlainDemand}
use Rattle.ca_symbolic.specs.Demands.{loop_reads}
use Rattle.ca_symbolic_laws.specs.Costs.{plus}

-- Checks, which take no step

abbrev pub is_free : Bool → Option ℕ
is_free true = Some 0
is_free false = None

abbrev pub names_object : Datum → Option ℕ
names_object (Ref n) = Some 0
names_object d = None

abbrev pub has_item : Option ℕ → ℕ → Bool
has_item None i = false
has_item (Some n) i = nat_lt i n

abbrev pub is_index : Option ℕ → Datum → Option ℕ
is_index n (Long (pos i)) = is_free (has_item n i)
is_index n d = None

-- Calls of value methods

abbrev pub steps_taken : {A : Type 0} → ℕ → Out A → Option ℕ
steps_taken budget (gives v k) = Some (budget - k)
steps_taken budget (traps t) = None
steps_taken budget over = None

-- the steps of a call but for its own, where it ends within the steps of the environment
abbrev pub call_cost : Environment → FunctionId → Datum → List Datum → Option ℕ
call_cost s m (Ref r) xs = steps_taken s.steps ((functions_of s.program.functions s.heap).call m r xs s.steps)
call_cost s m d xs = None

-- Call loops

-- a `for` of an operation, and how many locals the operation has
pub record LoopPlace : Type 0 where
  pub loop : Statement
  pub locals : ℕ

abbrev pub loop_among : ℕ → LoopId → List Statement → Option LoopPlace
loop_among n site [] = None
loop_among n site (x ∷ xs) = if has_site x site then Some record { loop = x; locals = n } else loop_among n site xs

-- the first `for` of the operations with this number
abbrev pub loop_at : List PlainMethod → LoopId → Option LoopPlace
loop_at [] site = None
loop_at (m ∷ ms) site = option_or (loop_among (length m.body.locals) site (fors_in_all m.body.statements)) (loop_at ms site)

-- n locals, of which those that are told hold the values in their order, and the others null; the first of them has the number k
abbrev pub spread_out : (ℕ → Bool) → ℕ → ℕ → List Datum → List Datum
spread_out is_read k zero ds = []
spread_out is_read k (suc n) [] = Null ∷ spread_out is_read (suc k) n []
spread_out is_read k (suc n) (d ∷ ds) = if is_read k then d ∷ spread_out is_read (suc k) n ds else Null ∷ spread_out is_read (suc k) n (d ∷ ds)

abbrev pub section_at : Environment → Option LoopPlace → List Datum → LoopSectioned
section_at s None xs = loop_over
section_at s (Some l) xs =
    loop_section s.program s.heap (Ref s.receiver) (spread_out (loop_reads l.loop) 0 l.locals xs) (line_of l.loop) l.loop s.steps

-- the section of the call loop with this number, where the locals that it reads hold these values, within the steps of
-- the environment
abbrev pub loop_within : Environment → LoopId → List Datum → LoopSectioned
loop_within s site xs = section_at s (loop_at s.program.ops site) xs

abbrev pub loop_steps : LoopSectioned → Option ℕ
loop_steps (loop_done m) = Some m.steps
loop_steps (loop_stopped t) = None
loop_steps loop_over = None

abbrev pub loop_lists : LoopSectioned → List Invocation
loop_lists (loop_done m) = m.listed
loop_lists (loop_stopped t) = []
loop_lists loop_over = []

-- Demands

-- what a demand takes, by the values of its parts; nothing where it fails
abbrev pub kind_cost : Environment → DemandKind → List Datum → Option ℕ
kind_cost s not_null (d ∷ xs) = names_object d
kind_cost s (in_range f) (d ∷ xs) = is_index (length_in (field_info s.program f)) d
kind_cost s (calls m) (d ∷ xs) = plus (Some 1) (call_cost s m d xs)
kind_cost s (invokes op) (d ∷ xs) = Some 0
kind_cost s (loops site) xs = loop_steps (loop_within s site xs)
kind_cost s (sweeps f) (d ∷ []) = None
kind_cost s (sweeps f) (d ∷ e ∷ xs) = sweep_cost_of (length_in (field_info s.program f)) d e
kind_cost s kind [] = None

-- the object that a pointer names; a call through null is never made
abbrev pub object_in : Datum → ℕ
object_in (Ref n) = n
object_in d = 0

abbrev pub kind_lists : Environment → DemandKind → List Datum → List Invocation
kind_lists s (invokes op) (d ∷ xs) = invocation (object_in d) op xs ∷ []
kind_lists s (loops site) xs = loop_lists (loop_within s site xs)
kind_lists s kind xs = []

abbrev pub if_true : {A : Type 0} → Datum → A → A → A
if_true (Truth true) a b = a
if_true d a b = b

abbrev pub parts_meant : Valuation → PlainDemand → List Datum
parts_meant v d = map (mean v) d.parts

abbrev pub demand_cost : Environment → Valuation → PlainDemand → Option ℕ
demand_cost s v d = if_true (mean v d.guard) (kind_cost s d.kind (parts_meant v d)) (Some 0)

abbrev pub demand_lists : Environment → Valuation → PlainDemand → List Invocation
demand_lists s v d = if_true (mean v d.guard) (kind_lists s d.kind (parts_meant v d)) []

-- the steps that the demands take
abbrev pub cost : Environment → Valuation → List PlainDemand → Option ℕ
cost s v [] = Some 0
cost s v (d ∷ ds) = plus (demand_cost s v d) (cost s v ds)

-- the operations that they list
abbrev pub lists : Environment → Valuation → List PlainDemand → List Invocation
lists s v [] = []
lists s v (d ∷ ds) = demand_lists s v d ++ lists s v ds

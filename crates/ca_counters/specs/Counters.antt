-- A program whose objects count, and heaps of such objects.
--
-- class Counter {
-- public:
--   long n;
--   void add() { n += 1; }
--   void twice() { n += 1; this->add(); }
--   void two() { this->add(); this->add(); }
-- };
use Rattle.std.specs.Prelude.{◌≡◌, ℕ, List, [], ◌∷◌, None, pos, replicate, Contains}
use Rattle.ca_tree.specs.declared.tree.AssignOp.TheVariants.{Add}
use Rattle.ca_program.specs.declared.program.ClassId.{ClassId}
use Rattle.ca_program.specs.declared.program.FieldId.{FieldId}
use Rattle.ca_program.specs.declared.program.OpId.{OpId}
use Rattle.ca_program.specs.declared.program.ValueType.TheVariants.{Long}
use Rattle.ca_program.specs.Plain.{PlainProgram, PlainClass, PlainMethod, number, this, no_expressions, Statement, Statements, put_field, invoke, no_statements, statement_and}
use Rattle.ca_model.specs.declared.value.Value.TheVariants.{Long as LongValue}
use Rattle.ca_model.specs.declared.value.Slot.TheVariants.{One}
use Rattle.ca_model.specs.declared.value.Object.{Object}
use Rattle.ca_cells.specs.Rounds.{program_of, extent_of, frozen_of}
use Rattle.ca_cells.specs.declared.rule.Given.{Given}

abbrev pub counter : ClassId
counter = record { 0 = 0 }

abbrev pub number_field : FieldId
number_field = record { class = counter; field = 0 }

abbrev pub add : OpId
add = record { 0 = 0 }

abbrev pub twice : OpId
twice = record { 0 = 1 }

-- each of the three by its number
abbrev pub operation : ℕ → OpId
operation n = record { 0 = n }

abbrev pub method : Statements → PlainMethod
method ss = record { class = counter; name = []; params = 0; body = record { locals = []; statements = ss }; result = None }

abbrev pub counts_one : Statement
counts_one = put_field 1 number_field Add (number (pos 1))

-- n += 1, and then the rest
abbrev pub counts : Statements → Statements
counts rest = statement_and counts_one rest

-- this->add(); and then the rest
abbrev pub calls_add : Statements → Statements
calls_add rest = statement_and (invoke 1 this add no_expressions) rest

abbrev pub counter_class : PlainClass
counter_class = record { name = []; fields = record { name = []; ty = Long; length = None } ∷ [] }

abbrev pub counters : PlainProgram
counters = record {
  classes = counter_class ∷ [];
  ops = method (counts no_statements) ∷ method (counts (calls_add no_statements)) ∷ method (calls_add (calls_add no_statements)) ∷ [];
  functions = [];
  main = record { locals = []; statements = no_statements };
}

-- an object that has counted nothing
abbrev pub start : Object
start = record { class = counter; slots = One (LongValue (pos 0)) ∷ [] }

abbrev pub starts : ℕ → List Object
starts n = replicate n start

-- cells that were made for so many of these objects, and an extent that has this operation
pub record IsSetFor (op : OpId) (key : Given) (n : ℕ) : Type 0 where
  pub program : program_of key ≡ counters
  pub frozen : frozen_of key ≡ starts n
  pub inside : Contains (extent_of key).ops op

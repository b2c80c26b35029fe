-- The types of a sweep's parts, and that they read nothing behind a call.
use Rattle.std.proofs.Common.{◌≡◌, ℕ, Bool, List, Some, sym, ◌∙◌, subst}
use Rattle.std.specs.Prelude.{◌||◌}
use Rattle.ca_tree.specs.declared.tree.AssignOp.TheVariants.{Put}
use Rattle.ca_tree.specs.declared.tree.BinaryOp.TheVariants.{Less}
use Rattle.ca_program.specs.declared.program.FieldId.{FieldId}
use Rattle.ca_program.specs.declared.program.LocalId.{LocalId}
use Rattle.ca_program.specs.declared.program.ValueType.{ValueType}
use Rattle.ca_program.specs.declared.program.ValueType.TheVariants as type
use Rattle.ca_program.specs.Plain.{PlainProgram, Expression, local, binary, Statement, put_local}
use Rattle.ca_meaning.specs.ProgramTyped.{IsArray, OwnTarget, field_info, Scope, ExpressionTyped, StatementTyped}
use Rattle.ca_parallel.specs.Separable.{holds_call, IsClean, IsSeparated}
use Rattle.ca_sweep.specs.Sweeps.{PlainSweep, Adds, adds, takes_off, puts_sum, puts_difference, AddsAlone, bare, in_block}
use Rattle.ca_sweep.proofs.Shown.{Shown, shown}

-- where a sweep adds, and what
pub record AddTyped (p : PlainProgram) (scope : Scope) (f : FieldId) (e : Expression) : Type 0 where
  pub target : OwnTarget scope f
  pub array : IsArray (field_info p f) type.Long
  pub addend : ExpressionTyped p scope e type.Long

add_typed : (p : PlainProgram) (scope : Scope) (i : LocalId) (f : FieldId) (e : Expression) (minus : Bool) (b : Statement) → Adds i f e minus b → StatementTyped p scope b → AddTyped p scope f e
add_typed p scope i f e _ _ (adds line) t = record { target = t.1; array = subst (IsArray (field_info p f)) t.4.0 t.2; addend = subst (ExpressionTyped p scope e) t.4.0 t.4.1 }
add_typed p scope i f e _ _ (takes_off line) t = record { target = t.1; array = subst (IsArray (field_info p f)) t.4.0 t.2; addend = subst (ExpressionTyped p scope e) t.4.0 t.4.1 }
add_typed p scope i f e _ _ (puts_sum line) t = record { target = t.1; array = subst (IsArray (field_info p f)) t.4.1.1.1 t.2; addend = subst (ExpressionTyped p scope e) t.4.1.1.0 t.4.1.3 }
add_typed p scope i f e _ _ (puts_difference line) t = record { target = t.1; array = subst (IsArray (field_info p f)) t.4.1.1.1 t.2; addend = subst (ExpressionTyped p scope e) t.4.1.1.0 t.4.1.3 }

alone_typed : (p : PlainProgram) (scope : Scope) (i : LocalId) (f : FieldId) (e : Expression) (minus : Bool) (b : Statement) → AddsAlone i f e minus b → StatementTyped p scope b → AddTyped p scope f e
alone_typed p scope i f e minus _ (bare b a) t = add_typed p scope i f e minus b a t
alone_typed p scope i f e minus _ (in_block line b a) t = add_typed p scope i f e minus b a t.0

pub record SweepTyped (p : PlainProgram) (scope : Scope) (w : PlainSweep) : Type 0 where
  pub part : AddTyped p scope w.field w.addend
  pub from : ExpressionTyped p scope w.from type.Long
  pub to : ExpressionTyped p scope w.to type.Long

same_type : (a b : ValueType) → Some a ≡ Some b → a ≡ b
same_type a b e = cc

-- the counter has one type, which is that of its beginning and of the condition
from_typed : (p : PlainProgram) (scope : Scope) (w : PlainSweep) (at_line : ℕ) → StatementTyped p scope (put_local at_line w.counter Put w.from) → ExpressionTyped p scope (binary Less (local w.counter) w.to) type.Bool → ExpressionTyped p scope w.from type.Long
from_typed p scope w at_line f c = subst (ExpressionTyped p scope w.from) (same_type f.0 c.0 (sym f.1 ∙ c.2) ∙ c.1.0) f.2.1

to_typed : (p : PlainProgram) (scope : Scope) (w : PlainSweep) → ExpressionTyped p scope (binary Less (local w.counter) w.to) type.Bool → ExpressionTyped p scope w.to type.Long
to_typed p scope w c = subst (ExpressionTyped p scope w.to) c.1.0 c.3

pub sweep_typed : (p : PlainProgram) (scope : Scope) (w : PlainSweep) (loop : Statement) → Shown w loop → StatementTyped p scope loop → SweepTyped p scope w
sweep_typed p scope w _ (shown own_line site at_line next body counts alone) t = record {
  part = alone_typed p scope w.counter w.field w.addend w.minus body alone t.3;
  from = from_typed p scope w at_line t.0 t.1;
  to = to_typed p scope w t.1;
}

-- Accesses

pub record SweepClean (p : PlainProgram) (written : List FieldId) (called : Bool) (w : PlainSweep) : Type 0 where
  pub from : IsClean p written called w.from
  pub to : IsClean p written called w.to
  pub addend : IsClean p written called w.addend

add_clean : (p : PlainProgram) (written : List FieldId) (called : Bool) (i : LocalId) (f : FieldId) (e : Expression) (minus : Bool) (b : Statement) → Adds i f e minus b → IsSeparated p written called b → IsClean p written called e
add_clean p written called i f e _ _ (adds line) k = k.2
add_clean p written called i f e _ _ (takes_off line) k = k.2
add_clean p written called i f e _ _ (puts_sum line) k = k.2.2
add_clean p written called i f e _ _ (puts_difference line) k = k.2.2

alone_clean : (p : PlainProgram) (written : List FieldId) (called : Bool) (i : LocalId) (f : FieldId) (e : Expression) (minus : Bool) (b : Statement) → AddsAlone i f e minus b → IsSeparated p written called b → IsClean p written called e
alone_clean p written called i f e minus _ (bare b a) k = add_clean p written called i f e minus b a k
alone_clean p written called i f e minus _ (in_block line b a) k = add_clean p written called i f e minus b a k.0

pub sweep_clean : (p : PlainProgram) (written : List FieldId) (called : Bool) (w : PlainSweep) (loop : Statement) → Shown w loop → IsSeparated p written called loop → SweepClean p written (called || holds_call loop) w
sweep_clean p written called w _ (shown own_line site at_line next body counts alone) k = record {
  from = k.0;
  to = k.1.2;
  addend = alone_clean p written _ w.counter w.field w.addend w.minus body alone k.3;
}

-- Summed bodies: what they do with a written field is to add to it, and what they add, all else that they evaluate, and
-- whom they call don't depend on any written field.
use Rattle.std.specs.Prelude.{◌≡◌, List, true, Contains}
use Rattle.ca_tree.specs.declared.tree.AssignOp.{AssignOp}
use Rattle.ca_tree.specs.declared.tree.AssignOp.TheVariants.{Put, Add, Sub, Mul, BitAnd, BitOr, BitXor}
use Rattle.ca_tree.specs.declared.tree.BinaryOp.{BinaryOp}
use Rattle.ca_tree.specs.declared.tree.BinaryOp.TheVariants.{Plus, Minus}
use Rattle.ca_program.specs.declared.program.FieldId.{FieldId}
use Rattle.ca_program.specs.declared.program.OpId.{OpId}
use Rattle.ca_program.specs.Plain.{PlainProgram, Expression, Expressions, number, truth, null, this, local, own, own_item, read, read_item, value_call, unary, binary, no_expressions, expression_and, Statement, Statements, block, put_local, put_field, put_item, new_local, new_field, new_item, invoke, if_else, while_loop, for_loop, return_value, print_value, no_statements, statement_and}
use Rattle.ca_parallel.specs.Extents.{operation_body}
use Rattle.ca_parallel.specs.Separable.{IsClean, AreClean, Separable}

-- the operator adds or takes off
abbrev pub IsSum : BinaryOp → Type 0
IsSum Plus = Unit {0}
IsSum Minus = Unit {0}
IsSum _ = ⊥

-- the right side of `f = f + e` or `f = f - e`
abbrev pub IsSumWith : PlainProgram → List FieldId → FieldId → Expression → Type 0
IsSumWith p written f (binary op (own g) e) = IsSum op × (g ≡ f) × IsClean p written true e
IsSumWith p written f _ = ⊥

-- an assignment that adds to the field, or takes off
abbrev pub IsAdding : PlainProgram → List FieldId → FieldId → AssignOp → Expression → Type 0
IsAdding p written f Add e = IsClean p written true e
IsAdding p written f Sub e = IsClean p written true e
IsAdding p written f Put e = IsSumWith p written f e
IsAdding p written f Mul e = ⊥
IsAdding p written f BitAnd e = ⊥
IsAdding p written f BitOr e = ⊥
IsAdding p written f BitXor e = ⊥

abbrev mutual
  pub IsSummed : PlainProgram → List FieldId → Statement → Type 0
  IsSummed p written (block line ss) = AreSummed p written ss
  IsSummed p written (put_local line l op e) = IsClean p written true e
  IsSummed p written (put_field line f op e) = IsAdding p written f op e
  IsSummed p written (put_item line f i op e) = ⊥
  IsSummed p written (new_local line l c) = ⊥
  IsSummed p written (new_field line f c) = ⊥
  IsSummed p written (new_item line f i c) = ⊥
  IsSummed p written (invoke line e op arguments) = IsClean p written true e × AreClean p written true arguments
  IsSummed p written (if_else line c a b) = IsClean p written true c × IsSummed p written a × IsSummed p written b
  IsSummed p written (while_loop line c b) = IsClean p written true c × IsSummed p written b
  IsSummed p written (for_loop line site part first c next b) =
      IsSummed p written first × IsClean p written true c × IsSummed p written next × IsSummed p written b
  IsSummed p written (return_value line e) = IsClean p written true e
  IsSummed p written (print_value line e) = ⊥

  pub AreSummed : PlainProgram → List FieldId → Statements → Type 0
  AreSummed p written no_statements = Unit {0}
  AreSummed p written (statement_and s ss) = IsSummed p written s × AreSummed p written ss

abbrev pub Summed : PlainProgram → List FieldId → OpId → Type 0
Summed p written op = AreSummed p written (operation_body p op)

-- ---- the same by what a body touches, for operations that are separable

abbrev mutual
  -- the expression reads no written field
  pub Untouched : List FieldId → Expression → Type 0
  Untouched written (number n) = Unit {0}
  Untouched written (truth b) = Unit {0}
  Untouched written null = Unit {0}
  Untouched written this = Unit {0}
  Untouched written (local l) = Unit {0}
  Untouched written (own f) = ¬ Contains written f
  Untouched written (own_item f i) = (¬ Contains written f) × Untouched written i
  Untouched written (read e f) = (¬ Contains written f) × Untouched written e
  Untouched written (read_item e f i) = (¬ Contains written f) × Untouched written e × Untouched written i
  Untouched written (value_call e m arguments) = Untouched written e × AllUntouched written arguments
  Untouched written (unary op e) = Untouched written e
  Untouched written (binary op a b) = Untouched written a × Untouched written b

  pub AllUntouched : List FieldId → Expressions → Type 0
  AllUntouched written no_expressions = Unit {0}
  AllUntouched written (expression_and e es) = Untouched written e × AllUntouched written es

abbrev pub SumsWith : List FieldId → FieldId → Expression → Type 0
SumsWith written f (binary op (own g) e) = IsSum op × (g ≡ f) × Untouched written e
SumsWith written f _ = ⊥

abbrev pub Adds : List FieldId → FieldId → AssignOp → Expression → Type 0
Adds written f Add e = Untouched written e
Adds written f Sub e = Untouched written e
Adds written f Put e = SumsWith written f e
Adds written f Mul e = ⊥
Adds written f BitAnd e = ⊥
Adds written f BitOr e = ⊥
Adds written f BitXor e = ⊥

-- each access to a written field is the target or the first read of a sum
abbrev mutual
  pub OnlySums : List FieldId → Statement → Type 0
  OnlySums written (block line ss) = AllOnlySums written ss
  OnlySums written (put_local line l op e) = Untouched written e
  OnlySums written (put_field line f op e) = Adds written f op e
  OnlySums written (put_item line f i op e) = ⊥
  OnlySums written (new_local line l c) = Unit {0}
  OnlySums written (new_field line f c) = ⊥
  OnlySums written (new_item line f i c) = ⊥
  OnlySums written (invoke line e op arguments) = Untouched written e × AllUntouched written arguments
  OnlySums written (if_else line c a b) = Untouched written c × OnlySums written a × OnlySums written b
  OnlySums written (while_loop line c b) = Untouched written c × OnlySums written b
  OnlySums written (for_loop line site part first c next b) =
      OnlySums written first × Untouched written c × OnlySums written next × OnlySums written b
  OnlySums written (return_value line e) = Untouched written e
  OnlySums written (print_value line e) = Untouched written e

  pub AllOnlySums : List FieldId → Statements → Type 0
  AllOnlySums written no_statements = Unit {0}
  AllOnlySums written (statement_and s ss) = OnlySums written s × AllOnlySums written ss

-- every operation of an extent does
abbrev pub HasOnlySums : PlainProgram → List FieldId → OpId → Type 0
HasOnlySums p written op = AllOnlySums written (operation_body p op)

abbrev pub SeparableSumsAreSummed : Type 0
SeparableSumsAreSummed = (p : PlainProgram) (written : List FieldId) (op : OpId) → Separable p written op → HasOnlySums p written op → Summed p written op

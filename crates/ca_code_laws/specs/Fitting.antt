-- Texts that fit their layout: what an instruction reads as a kind has that kind in the layout, locals are among those of the body,
-- and methods that are called are there, with as many arguments. No type of an object is asked.
use Rattle.std.specs.Prelude.{◌≡◌, ◌<◌, ◌≤◌, ℕ, suc, Bool, true, false, List, length, Option, Some, None, slice_get}
use Rattle.ca_program.specs.declared.program.ValueType.{ValueType}
use Rattle.ca_program.specs.Plain.{PlainProgram, PlainMethod, Expression, Expressions, number, truth, null, this, local, own, own_item, read, read_item, value_call, unary, binary, no_expressions, expression_and, Statement, Statements, block, put_local, put_field, put_item, new_local, new_field, new_item, invoke, if_else, while_loop, for_loop, return_value, print_value, no_statements, statement_and}
use Rattle.ca_program.specs.Kinds.{Kind, Kinds, as_long, as_truth, as_pointer, kinds_in, kind_at, kind_of, unary_kind}
use Rattle.ca_program.specs.Layout.{how_many, is_lazy}

-- there is such a method, and it takes so many arguments, which stand in its first locals
abbrev pub Takes : Option PlainMethod → ℕ → Type 0
Takes None n = ⊥
Takes (Some m) n = (m.params ≡ n) × (m.params ≤ length m.body.locals)

-- expressions of these kinds
abbrev pub AreOf : Kinds → (ℕ → Kind) → Expressions → Type 0
AreOf ks κs no_expressions = Unit {0}
AreOf ks κs (expression_and e es) = (kind_of ks e ≡ κs 0) × AreOf ks (λ i. κs (suc i)) es

module _ (p : PlainProgram) (tys : List ValueType) where
  abbrev ks : Kinds
  ks = kinds_in p tys

  abbrev mutual
    pub Fits : Expression → Type 0
    Fits (number v) = Unit {0}
    Fits (truth b) = Unit {0}
    Fits null = Unit {0}
    Fits this = Unit {0}
    Fits (local l) = l.0 < length tys
    Fits (own f) = Unit {0}
    Fits (own_item f i) = (kind_of ks i ≡ as_long) × Fits i
    Fits (read e f) = (kind_of ks e ≡ as_pointer) × Fits e
    Fits (read_item e f i) = (kind_of ks e ≡ as_pointer) × (kind_of ks i ≡ as_long) × Fits e × Fits i
    Fits (value_call e m es) = (kind_of ks e ≡ as_pointer) × Takes (slice_get p.functions m.0) (how_many es) × AreOf ks (ks.params m) es × Fits e × FitAll es
    Fits (unary op e) = (kind_of ks e ≡ unary_kind op) × Fits e
    Fits (binary op a b) = (is_lazy op ≡ true → kind_of ks a ≡ as_truth) × Fits a × Fits b

    pub FitAll : Expressions → Type 0
    FitAll no_expressions = Unit {0}
    FitAll (expression_and e es) = Fits e × FitAll es

  -- In an operation nothing is made or printed; in a value method that and what else acts is left out. What is given back is of this
  -- kind.
  module _ (acts : Bool) (result : Kind) where
    abbrev Acts : Bool → Type 0 → Type 0
    Acts true T = T
    Acts _ T = Unit {0}

    abbrev mutual
      pub FitsStatement : Statement → Type 0
      FitsStatement (block line ss) = FitStatements ss
      FitsStatement (put_local line l op e) = (l.0 < length tys) × (kind_of ks e ≡ ks.locals l.0) × Fits e
      FitsStatement (put_field line f op e) = Acts acts (Fits e)
      FitsStatement (put_item line f i op e) = Acts acts ((kind_of ks i ≡ as_long) × Fits i × Fits e)
      FitsStatement (new_local line l c) = Acts acts ⊥
      FitsStatement (new_field line f c) = Acts acts ⊥
      FitsStatement (new_item line f i c) = Acts acts ⊥
      FitsStatement (print_value line e) = Acts acts ⊥
      FitsStatement (invoke line e op es) = Acts acts ((kind_of ks e ≡ as_pointer) × Takes (slice_get p.ops op.0) (how_many es) × AreOf ks (ks.arguments op) es × Fits e × FitAll es)
      FitsStatement (if_else line c a b) = (kind_of ks c ≡ as_truth) × Fits c × FitsStatement a × FitsStatement b
      FitsStatement (while_loop line c b) = (kind_of ks c ≡ as_truth) × Fits c × FitsStatement b
      FitsStatement (for_loop line site part first c next b) = FitsStatement first × (kind_of ks c ≡ as_truth) × Fits c × FitsStatement next × FitsStatement b
      FitsStatement (return_value line e) = (kind_of ks e ≡ result) × Fits e

      pub FitStatements : Statements → Type 0
      FitStatements no_statements = Unit {0}
      FitStatements (statement_and x rest) = FitsStatement x × FitStatements rest

-- the body of a method fits
pub record FitsMethod (p : PlainProgram) (acts : Bool) (m : PlainMethod) : Type 0 where
  pub parameters : m.params ≤ length m.body.locals
  pub body : FitStatements p m.body.locals acts (kind_at m.result) m.body.statements

-- the bodies of all value methods do
pub record FunctionsFit (p : PlainProgram) : Type 0 where
  pub each : (i : ℕ) (m : PlainMethod) → slice_get p.functions i ≡ Some m → FitsMethod p false m

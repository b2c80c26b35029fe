-- Typed texts fit their layout: the bodies of value methods, and what is separated, so that nothing is made or printed.
use Rattle.std.proofs.Common.{◌≡◌, suc, ◌≤◌, length, Option, Some, None, refl, sym, ap, ◌∙◌, subst}
use Rattle.std.specs.Prelude.{Bool, true, false, ◌||◌, List, slice_get}
use Rattle.std.proofs.lemmas.Option.{slice_get_within}
use Rattle.ca_program.specs.declared.program.ClassId.{ClassId}
use Rattle.ca_program.specs.declared.program.FieldId.{FieldId}
use Rattle.ca_program.specs.declared.program.OpId.{OpId}
use Rattle.ca_program.specs.declared.program.ValueType.{ValueType}
use Rattle.ca_program.specs.declared.program.ValueType.TheVariants.{Long as LongType, Bool as BoolType, Pointer}
use Rattle.ca_program.specs.Plain.{PlainProgram, PlainMethod, Expression, Expressions, number, truth, null, this, local, own, own_item, read, read_item, value_call, unary, binary, no_expressions, expression_and, Statement, Statements, block, put_local, put_field, put_item, new_local, new_field, new_item, invoke, if_else, while_loop, for_loop, return_value, print_value, no_statements, statement_and}
use Rattle.ca_program.specs.Kinds.{as_pointer, kind_at, kind_type, param_kind}
use Rattle.ca_program.specs.Layout.{how_many}
use Rattle.ca_meaning.specs.Functions.{body_of}
use Rattle.ca_meaning.specs.ProgramTyped.{Scope, IsFunction, IsOperation, ExpressionTyped, ExpressionsTyped, StatementTyped, StatementsTyped, ProgramTyped, scope_of, signed_type}
use Rattle.ca_parallel.specs.Separable.{IsSeparated, AreSeparated, Separable, holds_call}
use Rattle.ca_code_laws.specs.Fitting.{FitAll, Fits, FitsMethod, FitsStatement, FitStatements, FunctionsFit, Takes}
use Rattle.ca_code_laws.proofs.Steps.{length_taken}
use Rattle.ca_code_laws.proofs.Typed.{arguments_fit, function_params, kind_is, lazy_side, operation_params, signed_kind}

module _ (p : PlainProgram) (s : Scope) where
  counted : (es : Expressions) (tys : List ValueType) → ExpressionsTyped p s es tys → length tys ≡ how_many es
  counted no_expressions tys t = ap length t
  counted (expression_and e es) tys t = ap length t.2 ∙ ap suc (counted es t.1 t.4)

  function_takes : (o : Option PlainMethod) → ((m : PlainMethod) → o ≡ Some m → m.params ≤ length m.body.locals) → (c : ClassId) (tys : List ValueType) (ty : ValueType) (es : Expressions) → IsFunction o c tys ty → ExpressionsTyped p s es tys → Takes o (how_many es)
  function_takes None le c tys ty es t all = absurd t
  function_takes (Some m) le c tys ty es t all =
      (sym (length_taken m.params m.body.locals (le m refl)) ∙ (ap length t.1 ∙ counted es tys all), le m refl)

  operation_takes : (o : Option PlainMethod) → ((m : PlainMethod) → o ≡ Some m → m.params ≤ length m.body.locals) → (c : ClassId) (tys : List ValueType) (es : Expressions) → IsOperation o c tys → ExpressionsTyped p s es tys → Takes o (how_many es)
  operation_takes None le c tys es t all = absurd t
  operation_takes (Some m) le c tys es t all =
      (sym (length_taken m.params m.body.locals (le m refl)) ∙ (ap length t.1 ∙ counted es tys all), le m refl)

module _ (p : PlainProgram) (program : ProgramTyped p) (s : Scope) where
  mutual
    fits : (e : Expression) (ty : ValueType) → ExpressionTyped p s e ty → Fits p s.locals e
    fits (number n) ty t = tt
    fits (truth b) ty t = tt
    fits null ty t = tt
    fits this ty t = tt
    fits (local l) ty t = slice_get_within s.locals l.0 ty t
    fits (own f) ty t = tt
    fits (own_item f i) ty t = (kind_is p s i LongType t.2, fits i LongType t.2)
    fits (read e f) ty t = (kind_is p s e (Pointer f.class) t.0, fits e (Pointer f.class) t.0)
    fits (read_item e f i) ty t =
        (kind_is p s e (Pointer f.class) t.0, kind_is p s i LongType t.2, fits e (Pointer f.class) t.0, fits i LongType t.2)
    fits (value_call e m es) ty t = (
      kind_is p s e (Pointer t.0) t.3,
      function_takes p s (slice_get p.functions m.0) (λ f is. (program.functions m.0 f is).method.parameters) t.0 t.1 ty es t.2 t.4,
      arguments_fit p s es t.1 (λ i. param_kind (slice_get p.functions m.0) i) t.4 (function_params (slice_get p.functions m.0) t.0 t.1 ty t.2),
      fits e (Pointer t.0) t.3,
      fit_all es t.1 t.4,
    )
    fits (unary op e) ty t = (kind_is p s e (signed_type op) t.1 ∙ sym (signed_kind op), fits e (signed_type op) t.1)
    fits (binary op a b) ty t =
        (λ lazy. kind_is p s a t.0 t.2 ∙ ap kind_type (lazy_side op t.0 ty t.1 lazy), fits a t.0 t.2, fits b t.0 t.3)

    fit_all : (es : Expressions) (tys : List ValueType) → ExpressionsTyped p s es tys → FitAll p s.locals es
    fit_all no_expressions tys t = tt
    fit_all (expression_and e es) tys t = (fits e t.0 t.3, fit_all es t.1 t.4)

  -- a body of a value method
  mutual
    value_fits : (x : Statement) → StatementTyped p s x → FitsStatement p s.locals false (kind_at s.result) x
    value_fits (block line ss) t = values_fit ss t
    value_fits (put_local line l op e) t =
        (slice_get_within s.locals l.0 t.0 t.1, kind_is p s e t.0 t.2.1 ∙ sym (ap kind_at t.1), fits e t.0 t.2.1)
    value_fits (put_field line f op e) t = tt
    value_fits (put_item line f i op e) t = tt
    value_fits (new_local line l c) t = tt
    value_fits (new_field line f c) t = tt
    value_fits (new_item line f i c) t = tt
    value_fits (print_value line e) t = tt
    value_fits (invoke line e op es) t = tt
    value_fits (if_else line c a b) t = (kind_is p s c BoolType t.0, fits c BoolType t.0, value_fits a t.1, value_fits b t.2)
    value_fits (while_loop line c b) t = (kind_is p s c BoolType t.0, fits c BoolType t.0, value_fits b t.1)
    value_fits (for_loop line site part first c next b) t =
        (value_fits first t.0, kind_is p s c BoolType t.1, fits c BoolType t.1, value_fits next t.2, value_fits b t.3)
    value_fits (return_value line e) t = (kind_is p s e t.0 t.2 ∙ sym (ap kind_at t.1), fits e t.0 t.2)

    values_fit : (xs : Statements) → StatementsTyped p s xs → FitStatements p s.locals false (kind_at s.result) xs
    values_fit no_statements t = tt
    values_fit (statement_and x rest) t = (value_fits x t.0, values_fit rest t.1)

  -- what is separated makes and prints nothing
  mutual
    pub separated_fits : (written : List FieldId) (after : Bool) (x : Statement) → StatementTyped p s x → IsSeparated p written after x → FitsStatement p s.locals true (kind_at s.result) x
    separated_fits written after (block line ss) t q = all_separated_fit written after ss t q
    separated_fits written after (put_local line l op e) t q =
        (slice_get_within s.locals l.0 t.0 t.1, kind_is p s e t.0 t.2.1 ∙ sym (ap kind_at t.1), fits e t.0 t.2.1)
    separated_fits written after (put_field line f op e) t q = fits e t.0 t.3.1
    separated_fits written after (put_item line f i op e) t q = (kind_is p s i LongType t.3, fits i LongType t.3, fits e t.0 t.4.1)
    separated_fits written after (new_local line l c) t q = absurd q
    separated_fits written after (new_field line f c) t q = absurd q
    separated_fits written after (new_item line f i c) t q = absurd q
    separated_fits written after (print_value line e) t q = absurd q
    separated_fits written after (invoke line e op es) t q = (
      kind_is p s e (Pointer t.0) t.4,
      operation_takes p s (slice_get p.ops op.0) (λ o is. (program.ops op.0 o is).method.parameters) t.0 t.1 es t.3 t.5,
      arguments_fit p s es t.1 (λ i. param_kind (slice_get p.ops op.0) i) t.5 (operation_params (slice_get p.ops op.0) t.0 t.1 t.3),
      fits e (Pointer t.0) t.4,
      fit_all es t.1 t.5,
    )
    separated_fits written after (if_else line c a b) t q =
        (kind_is p s c BoolType t.0, fits c BoolType t.0, separated_fits written after a t.1 q.1, separated_fits written after b t.2 q.2)
    separated_fits written after (while_loop line c b) t q = (kind_is p s c BoolType t.0, fits c BoolType t.0, separated_fits written (after || holds_call b) b t.1 q.1)
    separated_fits written after (for_loop line site part first c next b) t q =
        let looped = after || holds_call (for_loop line site part first c next b) in
        (separated_fits written looped first t.0 q.0, kind_is p s c BoolType t.1, fits c BoolType t.1, separated_fits written looped next t.2 q.2, separated_fits written looped b t.3 q.3)
    separated_fits written after (return_value line e) t q = (kind_is p s e t.0 t.2 ∙ sym (ap kind_at t.1), fits e t.0 t.2)

    all_separated_fit : (written : List FieldId) (after : Bool) (xs : Statements) → StatementsTyped p s xs → AreSeparated p written after xs → FitStatements p s.locals true (kind_at s.result) xs
    all_separated_fit written after no_statements t q = tt
    all_separated_fit written after (statement_and x rest) t q = (separated_fits written after x t.0 q.0, all_separated_fit written (after || holds_call x) rest t.1 q.1)

-- all value methods
pub functions_fit : (p : PlainProgram) → ProgramTyped p → FunctionsFit p
functions_fit p program = record {
  each = λ i m is.
      let f = program.functions i m is in
      record { parameters = f.method.parameters; body = values_fit p program (scope_of m) m.body.statements f.method.body };
}

-- separable operations
pub operation_fits : (p : PlainProgram) → ProgramTyped p → (written : List FieldId) (op : OpId) → Separable p written op → (m : PlainMethod) → slice_get p.ops op.0 ≡ Some m → FitsMethod p true m
operation_fits p program written op separable m is =
    let o = program.ops op.0 m is in
    let separated : AreSeparated p written false m.body.statements = subst (λ (z : Option PlainMethod). AreSeparated p written false (body_of z)) is separable in
    record { parameters = o.method.parameters; body = all_separated_fit p program (scope_of m) written false m.body.statements o.method.body separated }

-- marked loops, which stand in operations and in `main`
pub loop_fits : (p : PlainProgram) → ProgramTyped p → (s : Scope) → s.result ≡ None → (written : List FieldId) (after : Bool) (loop : Statement) → StatementTyped p s loop → IsSeparated p written after loop → FitsStatement p s.locals true as_pointer loop
loop_fits p program s none written after loop t q =
    subst (λ κ. FitsStatement p s.locals true κ loop) (ap kind_at none) (separated_fits p program s written after loop t q)

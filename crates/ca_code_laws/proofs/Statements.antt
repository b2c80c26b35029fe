-- The instructions of a statement of a typed program do what it means, whatever its values and its acts mean.
use Rattle.std.proofs.Common.{◌≡◌, ℕ, ◌+◌, ◌<◌, ◌≤◌, List, ◌++◌, length, Some, None, sym, ap, ◌∙◌, inl, inr}
use Rattle.std.specs.Prelude.{true, Bool}
use Rattle.std.proofs.lemmas.Option.{slice_get_within}
use Rattle.ca_tree.specs.declared.tree.AssignOp.{AssignOp}
use Rattle.ca_program.specs.declared.program.LocalId.{LocalId}
use Rattle.ca_program.specs.Plain.{Expression, Statement, Statements, block, put_local, if_else, while_loop, for_loop, return_value, PlainProgram}
use Rattle.ca_model.specs.declared.value.Value.{Value as Datum}
use Rattle.ca_meaning.specs.Operators.{assigned}
use Rattle.ca_meaning.specs.Expressions.{gives, value_at}
use Rattle.ca_meaning.specs.Flows.{Flow, Parts, exec, exec_all, turn}
use Rattle.ca_program.specs.declared.program.ValueType.{ValueType}
use Rattle.ca_program.specs.declared.program.ValueType.TheVariants.{Bool as BoolType}
use Rattle.ca_model.specs.declared.value.Object.{Object}
use Rattle.ca_model.specs.Typed.{HasType}
use Rattle.ca_meaning.specs.ProgramTyped.{Scope, ExpressionTyped, StatementTyped, StatementsTyped}
use Rattle.ca_meaning_laws.proofs.Values.{assigned_typed, local_typed}
use Rattle.ca_meaning_laws.proofs.Heaps.{extends_self}
use Rattle.ca_meaning_laws.proofs.Statements.{PartsTyped, exec_typed}
use Rattle.ca_code_laws.specs.Words.{has_kind}
use Rattle.ca_program.specs.Kinds.{Kind, kind_at, Kinds, kinds_in, kind_of}
use Rattle.ca_program.specs.Instructions.{Code, Placed, HasAt}
use Rattle.ca_program.specs.Layout.{stands, expression_code, operand_code, Acts, Hands, statement_code, statements_code}
use Rattle.ca_code_laws.specs.Machine.{Store, Back, Accesses, State}
use Rattle.ca_code_laws.specs.Told.{Holds}
use Rattle.ca_code_laws.proofs.Steps.{Reaches, Flows}
use Rattle.ca_code_laws.proofs.Instead.{nothing_else, only}
use Rattle.ca_code_laws.proofs.Typed.{of_kind, given, Sound, goes_sound, kind_is}
use Rattle.ca_code_laws.proofs.Quiet.{May, MayAll}
use Rattle.ca_code_laws.proofs.Evaluated.{Valued, Stood}
use Rattle.ca_code_laws.proofs.Executed.{LocalsAt, body_of_loop, tail_of_loop, IsLoop, IsAct, acted, StatementParts, Means, statement_does, statements_do, loop_does}

module _ {S P : Type 0} (acc : Accesses S) (code : Code) (pr : PlainProgram) (makes : Bool) (w : P → S) (a : Acts) (hd : Hands) (parts : Parts P) (sc : Scope) (heap : P → List Object) (Good : P → Type 0) (me : Datum) (below : List Back) (base n top : ℕ) where
  -- the kinds in the body
  abbrev pub ks : Kinds
  ks = kinds_in pr sc.locals

  -- the kind of what it gives back
  abbrev pub ret : Kind
  ret = kind_at sc.result

  -- a good state, and typed locals
  abbrev pub Here : List Datum → P → Type 0
  Here ls p = Sound heap Good sc ls p

  -- a typed statement that may stand here
  abbrev pub Fits : Statement → Type 0
  Fits x = StatementTyped pr sc x × May makes x

  abbrev pub FitAll : Statements → Type 0
  FitAll xs = StatementsTyped pr sc xs × MayAll makes xs

  -- the body at a place
  abbrev pub at_place : ℕ → ℕ → Store → P → State S
  at_place at k f p = record { at = at; base = base; left = k; this = me; below = below; slots = f; world = w p }

  -- what the parts of its meaning are laid out to
  pub record PartsRun : Type 0 where
    pub types : PartsTyped heap Good pr sc parts
    pub wide : length sc.locals ≡ top
    pub values : (e : Expression) (ty : ValueType) → ExpressionTyped pr sc e ty → (line to : ℕ) (ls : List Datum) (p : P) (at k : ℕ) (f : Store) → HasAt code at (expression_code ks line e to top) → length ls ≡ top → Here ls p → to ≤ top → k ≤ n → Holds ks.locals f base ls → Reaches acc code (at_place at k f p) (length (expression_code ks line e to top)) (Valued base f to top (kind_of ks e)) (parts.value line ls p e k)
    pub operands : (e : Expression) (ty : ValueType) → ExpressionTyped pr sc e ty → (line : ℕ) (ls : List Datum) (p : P) (at k : ℕ) (f : Store) → HasAt code at (operand_code ks line e top) → length ls ≡ top → Here ls p → k ≤ n → Holds ks.locals f base ls → Reaches acc code (at_place at k f p) (length (operand_code ks line e top)) (Stood base f (stands e top) top (kind_of ks e)) (parts.value line ls p e k)
    pub acts : (x : Statement) (line : ℕ) (ls : List Datum) (p : P) (at k : ℕ) (f : Store) → IsAct x → HasAt code at (a line x top) → Fits x → length ls ≡ top → Here ls p → k ≤ n → Holds ks.locals f base ls → Flows acc code w ret (at_place at k f p) (length (a line x top)) (LocalsAt ks base top) (acted parts line ls p x k)
    pub agains : (x : Statement) (line : ℕ) (ls : List Datum) (p : P) (at k : ℕ) (f : Store) → IsLoop x → HasAt code at (body_of_loop ks a hd line x top ++ tail_of_loop ks a hd line x top) → Fits x → length ls ≡ top → Here ls p → k < n → Holds ks.locals f base ls → Flows acc code w ret (at_place (at + length (body_of_loop ks a hd line x top)) k f p) (length (tail_of_loop ks a hd line x top)) (LocalsAt ks base top) (parts.again line ls p x k)
    pub begins : (line : ℕ) (ls : List Datum) (p : P) (x : Statement) (k : ℕ) (plain : Flow P) → hd line x top ≡ None → parts.begin line ls p x k plain ≡ plain
    pub handed : (line : ℕ) (ls : List Datum) (p : P) (x : Statement) (at k : ℕ) (f : Store) (plain : Flow P) (cx : List Placed) → hd line x top ≡ Some cx → HasAt code at cx → Fits x → length ls ≡ top → Here ls p → k ≤ n → Holds ks.locals f base ls → Flows acc code w ret (at_place at k f p) (length cx) (LocalsAt ks base top) (parts.begin line ls p x k plain)

  module _ (run : PartsRun) where
    -- an expression of some type
    abbrev E : Expression → Type 0
    E e = (ty : ValueType) × ExpressionTyped pr sc e ty

    parts_of : (x : Statement) → Fits x → StatementParts pr sc.locals ret E Fits FitAll x
    parts_of (block l ss) t = t
    parts_of (put_local z l op e) t = (slice_get_within sc.locals l.0 t.0.0 t.0.1, kind_is pr sc e t.0.0 t.0.2.1 ∙ sym (ap kind_at t.0.1), (t.0.0, t.0.2.1))
    parts_of (if_else l c x y) t = (kind_is pr sc c BoolType t.0.0, (BoolType, t.0.0), (t.0.1, t.1.0), (t.0.2, t.1.1))
    parts_of (while_loop l c b) t = (kind_is pr sc c BoolType t.0.0, (BoolType, t.0.0), (t.0.1, t.1))
    parts_of (for_loop l site part first c next b) t = ((t.0.0, t.1.0), kind_is pr sc c BoolType t.0.1, (BoolType, t.0.1), (t.0.2, t.1.1), (t.0.3, t.1.2))
    parts_of (return_value l e) t = (kind_is pr sc e t.0.0 t.0.2 ∙ sym (ap kind_at t.0.1), (t.0.0, t.0.2))
    parts_of other t = tt

    -- what is put into a local has its kind
    keeps : (z : ℕ) (l : LocalId) (op : AssignOp) (e : Expression) → Fits (put_local z l op e) → (line : ℕ) (ls : List Datum) (p : P) (k j : ℕ) (v : Datum) → Here ls p → parts.value line ls p e k ≡ gives v j → has_kind (ks.locals l.0) (assigned op (value_at ls l.0) v) ≡ true
    keeps z l op e t line ls p k j v good is =
        let x = assigned op (value_at ls l.0) v in
        let right = given (λ v. HasType (heap p) v t.0.0) (parts.value line ls p e k) v j (run.types.values line ls p e t.0.0 k good.0 good.1 t.0.2.1) is in
        let of_type : HasType (heap p) x t.0.0 = assigned_typed (heap p) op (value_at ls l.0) v t.0.0 t.0.2.0 (local_typed (heap p) ls sc.locals l.0 t.0.0 good.1 t.0.1) right in
        ap (λ y. has_kind y x) (ap kind_at t.0.1) ∙ of_kind (heap p) x t.0.0 of_type

    means : Means acc code (nothing_else acc code) pr sc.locals ret w a hd parts me below base n top E Fits FitAll Here
    means = record {
      wide = run.wide;
      parts_of = parts_of;
      more = λ x rest t. ((t.0.0, t.1.0), (t.0.1, t.1.1));
      values = λ e t line to ls p at k f h len good le left holds. inr (run.values e t.0 t.1 line to ls p at k f h len good le left holds);
      operands = λ e t line ls p at k f h len good left holds. inr (run.operands e t.0 t.1 line ls p at k f h len good left holds);
      acting = λ x line ls p at k f is h t len good left holds. inr (run.acts x line ls p at k f is h t len good left holds);
      agains = λ x line ls p at k f is h t len good lt holds. inr (run.agains x line ls p at k f is h t len good lt holds);
      begins = λ line ls p x k plain none. run.begins line ls p x k plain none;
      handed = λ line ls p x at k f plain cx some h t len good left holds. inr (run.handed line ls p x at k f plain cx some h t len good left holds);
      leaves = λ x t line ls p k good. goes_sound heap Good sc (heap p) (exec parts line ls p x k) (exec_typed heap Good pr sc parts run.types (heap p) x t.0 line ls p k good.0 (extends_self (heap p)) good.1);
      keeps = λ z l op e t line ls p k j v good is. inl (keeps z l op e t line ls p k j v good is);
    }

    pub statement_runs : (x : Statement) (line : ℕ) (ls : List Datum) (p : P) (at k : ℕ) (f : Store) → HasAt code at (statement_code ks a hd line x top) → Fits x → length ls ≡ top → Here ls p → k ≤ n → Holds ks.locals f base ls → Flows acc code w ret (at_place at k f p) (length (statement_code ks a hd line x top)) (LocalsAt ks base top) (exec parts line ls p x k)
    statement_runs x line ls p at k f h t len good left holds =
        only (statement_does acc code (nothing_else acc code) pr sc.locals ret w a hd parts me below base n top E Fits FitAll Here means x line ls p at k f h t len good left holds)

    pub statements_run : (xs : Statements) (ls : List Datum) (p : P) (at k : ℕ) (f : Store) → HasAt code at (statements_code ks a hd xs top) → FitAll xs → length ls ≡ top → Here ls p → k ≤ n → Holds ks.locals f base ls → Flows acc code w ret (at_place at k f p) (length (statements_code ks a hd xs top)) (LocalsAt ks base top) (exec_all parts ls p xs k)
    statements_run xs ls p at k f h t len good left holds =
        only (statements_do acc code (nothing_else acc code) pr sc.locals ret w a hd parts me below base n top E Fits FitAll Here means xs ls p at k f h t len good left holds)

    -- a loop that comes again
    pub loop_runs : (x : Statement) (line : ℕ) (ls : List Datum) (p : P) (at k : ℕ) (f : Store) → IsLoop x → HasAt code at (body_of_loop ks a hd line x top ++ tail_of_loop ks a hd line x top) → Fits x → length ls ≡ top → Here ls p → k ≤ n → Holds ks.locals f base ls → Flows acc code w ret (at_place (at + length (body_of_loop ks a hd line x top)) k f p) (length (tail_of_loop ks a hd line x top)) (LocalsAt ks base top) (turn parts line ls p x k)
    loop_runs x line ls p at k f is h t len good left holds =
        only (loop_does acc code (nothing_else acc code) pr sc.locals ret w a hd parts me below base n top E Fits FitAll Here means x line ls p at k f is h t len good left holds)

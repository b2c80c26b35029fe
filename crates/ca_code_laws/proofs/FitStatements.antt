-- The instructions of a statement that fits its layout do what it means, or the machine wants memory, whatever its values and its
-- acts mean. No loop is handed on.
use Rattle.std.proofs.Common.{◌≡◌, ℕ, ◌+◌, ◌<◌, ◌≤◌, List, ◌++◌, length, inr}
use Rattle.std.proofs.lemmas.Option.{none-some}
use Rattle.std.specs.Prelude.{Bool}
use Rattle.ca_program.specs.declared.program.ValueType.{ValueType}
use Rattle.ca_program.specs.Plain.{Expression, Statement, Statements, block, put_local, if_else, while_loop, for_loop, return_value, PlainProgram}
use Rattle.ca_model.specs.declared.value.Value.{Value as Datum}
use Rattle.ca_meaning.specs.Flows.{Flow, Parts, exec, exec_all, turn}
use Rattle.ca_program.specs.Kinds.{Kind, Kinds, kinds_in, kind_of}
use Rattle.ca_program.specs.Instructions.{Code, HasAt}
use Rattle.ca_program.specs.Layout.{stands, expression_code, operand_code, Acts, no_hands, statement_code, statements_code}
use Rattle.ca_code_laws.specs.Machine.{Store, Back, Accesses, State}
use Rattle.ca_code_laws.specs.Told.{Holds}
use Rattle.ca_code_laws.specs.Fitting.{Fits, FitsStatement, FitStatements}
use Rattle.ca_code_laws.proofs.Steps.{goes_anyhow}
use Rattle.ca_code_laws.proofs.Evaluated.{Valued, Stood}
use Rattle.ca_code_laws.proofs.Executed.{LocalsAt, body_of_loop, tail_of_loop, IsLoop, IsAct, acted, StatementParts, Means, statement_does, statements_do, loop_does}
use Rattle.ca_code_laws.proofs.Instead.{or_wants, Gets, Does}

module _ {S P : Type 0} (acc : Accesses S) (code : Code) (pr : PlainProgram) (w : P → S) (a : Acts) (parts : Parts P) (tys : List ValueType) (acts : Bool) (ret : Kind) (me : Datum) (below : List Back) (base n top : ℕ) where
  -- the kinds in the body
  abbrev ks : Kinds
  ks = kinds_in pr tys

  -- a statement that fits
  abbrev Fit : Statement → Type 0
  Fit x = FitsStatement pr tys acts ret x

  abbrev FitEach : Statements → Type 0
  FitEach xs = FitStatements pr tys acts ret xs

  -- the body at a place
  abbrev at_place : ℕ → ℕ → Store → P → State S
  at_place at k f p = record { at = at; base = base; left = k; this = me; below = below; slots = f; world = w p }

  -- what the parts of its meaning are laid out to
  pub record PartsFit : Type 0 where
    pub wide : length tys ≡ top
    pub values : (e : Expression) → Fits pr tys e → (line to : ℕ) (ls : List Datum) (p : P) (at k : ℕ) (f : Store) → HasAt code at (expression_code ks line e to top) → length ls ≡ top → to ≤ top → k ≤ n → Holds ks.locals f base ls → Gets acc code (or_wants acc code) (at_place at k f p) (length (expression_code ks line e to top)) (Valued base f to top (kind_of ks e)) (parts.value line ls p e k)
    pub operands : (e : Expression) → Fits pr tys e → (line : ℕ) (ls : List Datum) (p : P) (at k : ℕ) (f : Store) → HasAt code at (operand_code ks line e top) → length ls ≡ top → k ≤ n → Holds ks.locals f base ls → Gets acc code (or_wants acc code) (at_place at k f p) (length (operand_code ks line e top)) (Stood base f (stands e top) top (kind_of ks e)) (parts.value line ls p e k)
    pub acting : (x : Statement) (line : ℕ) (ls : List Datum) (p : P) (at k : ℕ) (f : Store) → IsAct x → HasAt code at (a line x top) → Fit x → length ls ≡ top → k ≤ n → Holds ks.locals f base ls → Does acc code (or_wants acc code) w ret (at_place at k f p) (length (a line x top)) (LocalsAt ks base top) (acted parts line ls p x k)
    pub agains : (x : Statement) (line : ℕ) (ls : List Datum) (p : P) (at k : ℕ) (f : Store) → IsLoop x → HasAt code at (body_of_loop ks a no_hands line x top ++ tail_of_loop ks a no_hands line x top) → Fit x → length ls ≡ top → k < n → Holds ks.locals f base ls → Does acc code (or_wants acc code) w ret (at_place (at + length (body_of_loop ks a no_hands line x top)) k f p) (length (tail_of_loop ks a no_hands line x top)) (LocalsAt ks base top) (parts.again line ls p x k)
    pub begins : (line : ℕ) (ls : List Datum) (p : P) (x : Statement) (k : ℕ) (plain : Flow P) → parts.begin line ls p x k plain ≡ plain

  module _ (run : PartsFit) where
    -- nothing is asked of a state
    abbrev Here : List Datum → P → Type 0
    Here ls p = Unit {0}

    parts_of : (x : Statement) → Fit x → StatementParts pr tys ret (Fits pr tys) Fit FitEach x
    parts_of (block l ss) t = t
    parts_of (put_local z l op e) t = t
    parts_of (if_else l c x y) t = t
    parts_of (while_loop l c b) t = t
    parts_of (for_loop l site part first c next b) t = t
    parts_of (return_value l e) t = t
    parts_of other t = tt

    means : Means acc code (or_wants acc code) pr tys ret w a no_hands parts me below base n top (Fits pr tys) Fit FitEach Here
    means = record {
      wide = run.wide;
      parts_of = parts_of;
      more = λ x rest t. t;
      values = λ e t line to ls p at k f h len good le left holds. run.values e t line to ls p at k f h len le left holds;
      operands = λ e t line ls p at k f h len good left holds. run.operands e t line ls p at k f h len left holds;
      acting = λ x line ls p at k f is h t len good left holds. run.acting x line ls p at k f is h t len left holds;
      agains = λ x line ls p at k f is h t len good lt holds. run.agains x line ls p at k f is h t len lt holds;
      begins = λ line ls p x k plain none. run.begins line ls p x k plain;
      handed = λ line ls p x at k f plain cx some h t len good left holds. absurd (none-some _ some);
      leaves = λ x t line ls p k good. goes_anyhow (exec parts line ls p x k);
      keeps = λ z l op e t line ls p k j v good is. inr (λ s w. w);
    }

    pub statement_fits : (x : Statement) (line : ℕ) (ls : List Datum) (p : P) (at k : ℕ) (f : Store) → HasAt code at (statement_code ks a no_hands line x top) → Fit x → length ls ≡ top → k ≤ n → Holds ks.locals f base ls → Does acc code (or_wants acc code) w ret (at_place at k f p) (length (statement_code ks a no_hands line x top)) (LocalsAt ks base top) (exec parts line ls p x k)
    statement_fits x line ls p at k f h t len left holds =
        statement_does acc code (or_wants acc code) pr tys ret w a no_hands parts me below base n top (Fits pr tys) Fit FitEach Here means x line ls p at k f h t len tt left holds

    pub statements_fit : (xs : Statements) (ls : List Datum) (p : P) (at k : ℕ) (f : Store) → HasAt code at (statements_code ks a no_hands xs top) → FitEach xs → length ls ≡ top → k ≤ n → Holds ks.locals f base ls → Does acc code (or_wants acc code) w ret (at_place at k f p) (length (statements_code ks a no_hands xs top)) (LocalsAt ks base top) (exec_all parts ls p xs k)
    statements_fit xs ls p at k f h t len left holds =
        statements_do acc code (or_wants acc code) pr tys ret w a no_hands parts me below base n top (Fits pr tys) Fit FitEach Here means xs ls p at k f h t len tt left holds

    -- a loop that comes again
    pub loop_fits : (x : Statement) (line : ℕ) (ls : List Datum) (p : P) (at k : ℕ) (f : Store) → IsLoop x → HasAt code at (body_of_loop ks a no_hands line x top ++ tail_of_loop ks a no_hands line x top) → Fit x → length ls ≡ top → k ≤ n → Holds ks.locals f base ls → Does acc code (or_wants acc code) w ret (at_place (at + length (body_of_loop ks a no_hands line x top)) k f p) (length (tail_of_loop ks a no_hands line x top)) (LocalsAt ks base top) (turn parts line ls p x k)
    loop_fits x line ls p at k f is h t len left holds =
        loop_does acc code (or_wants acc code) pr tys ret w a no_hands parts me below base n top (Fits pr tys) Fit FitEach Here means x line ls p at k f is h t len tt left holds

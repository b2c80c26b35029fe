-- What the statements that only steer do, whatever the others change: blocks, puts to locals, `if`,
-- `while`, `for` and `return`. Each statement runs on a line, that of its own first token but for the two
-- parts of a `for`, which run on the line of the `for`.
use Rattle.std.specs.Prelude.{ℕ, true, List, slice_set}
use Rattle.ca_program.specs.declared.program.OpId.{OpId}
pub use Rattle.ca_program.specs.Lines.{line_of}
use Rattle.ca_program.specs.Plain.{Expression, Expressions, Statement, Statements, block, put_local, put_field, put_item, new_local, new_field, new_item, invoke, if_else, while_loop, for_loop, return_value, print_value, no_statements, statement_and}
use Rattle.ca_model.specs.declared.value.Value.{Value as Datum}
use Rattle.ca_model.specs.declared.value.Value.TheVariants.{Bool as Truth}
use Rattle.ca_model.specs.declared.value.Trap.{Trap}
use Rattle.ca_meaning.specs.Operators.{assigned}
use Rattle.ca_meaning.specs.Expressions.{Out, gives, traps, over, take_step, value_at}

-- how a statement ends in a state S: it goes on with these locals and steps left, it gives a value back,
-- it stops by a trap, or a step is too many
pub data Flow (S : Type 0) : Type 0 where
  goes_on : List Datum → S → ℕ → Flow S
  gives_back : Datum → S → ℕ → Flow S
  stops : Trap → S → Flow S
  runs_out : S → Flow S

abbrev pub and_on : {S : Type 0} → Flow S → (List Datum → S → ℕ → Flow S) → Flow S
and_on (goes_on ls s k) f = f ls s k
and_on (gives_back v s k) f = gives_back v s k
and_on (stops t s) f = stops t s
and_on (runs_out s) f = runs_out s

-- a statement that evaluates first
abbrev pub with : {A S : Type 0} → Out A → S → (A → ℕ → Flow S) → Flow S
with (gives v k) s f = f v k
with (traps t) s f = stops t s
with over s f = runs_out s

abbrev pub choose : {S : Type 0} → Datum → Flow S → Flow S → Flow S
choose (Truth true) a b = a
choose _ a b = b

-- What the meaning of a body is made of, each with its line, the locals and the state:
-- the value of an expression; what puts to fields, creations and prints do; what a call of an operation
-- does; what a loop means when it comes again, after a turn; and what a `for` means when it begins,
-- from what it means by its parts.
pub record Parts (S : Type 0) : Type 0 where
  pub value : ℕ → List Datum → S → Expression → ℕ → Out Datum
  pub act : ℕ → List Datum → S → Statement → ℕ → Flow S
  pub call : ℕ → List Datum → S → Expression → OpId → Expressions → ℕ → Flow S
  pub again : ℕ → List Datum → S → Statement → ℕ → Flow S
  pub begin : ℕ → List Datum → S → Statement → ℕ → Flow S → Flow S

-- a loop from its condition on: a condition that is true takes a step, then the body runs, and then the
-- loop comes again
abbrev pub turn_of : {S : Type 0} → Parts S → Expression → (List Datum → S → ℕ → Flow S) → Statement → ℕ → List Datum → S → ℕ → Flow S
turn_of p c body loop line ls s k =
    with (p.value line ls s c k) s (λ v k.
    choose v (with (take_step k) s (λ _ k. and_on (body ls s k) (λ ls s k. p.again line ls s loop k))) (goes_on ls s k))

abbrev mutual
  pub exec : {S : Type 0} → Parts S → ℕ → List Datum → S → Statement → ℕ → Flow S
  exec p line ls s (block _ ss) k = exec_all p ls s ss k
  exec p line ls s (put_local _ l op e) k = with (p.value line ls s e k) s (λ v k. goes_on (slice_set ls l.0 (assigned op (value_at ls l.0) v)) s k)
  exec p line ls s (if_else _ c a b) k =
      with (p.value line ls s c k) s (λ v k. choose v (exec p (line_of a) ls s a k) (exec p (line_of b) ls s b k))
  exec p line ls s (while_loop own c b) k = turn_of p c (λ ls s k. exec p (line_of b) ls s b k) (while_loop own c b) line ls s k
  exec p line ls s (for_loop own site part first c next b) k =
      p.begin line ls s (for_loop own site part first c next b) k
      (and_on (exec p line ls s first k)
      (turn_of p c (λ ls s k. and_on (exec p (line_of b) ls s b k) (λ ls s k. exec p line ls s next k)) (for_loop own site part first c next b) line))
  exec p line ls s (return_value _ e) k = with (p.value line ls s e k) s (λ v k. gives_back v s k)
  exec p line ls s (invoke _ e op arguments) k = p.call line ls s e op arguments k
  exec p line ls s (put_field own f op e) k = p.act line ls s (put_field own f op e) k
  exec p line ls s (put_item own f i op e) k = p.act line ls s (put_item own f i op e) k
  exec p line ls s (new_local own l c) k = p.act line ls s (new_local own l c) k
  exec p line ls s (new_field own f c) k = p.act line ls s (new_field own f c) k
  exec p line ls s (new_item own f i c) k = p.act line ls s (new_item own f i c) k
  exec p line ls s (print_value own e) k = p.act line ls s (print_value own e) k

  pub exec_all : {S : Type 0} → Parts S → List Datum → S → Statements → ℕ → Flow S
  exec_all p ls s no_statements k = goes_on ls s k
  exec_all p ls s (statement_and x rest) k = and_on (exec p (line_of x) ls s x k) (λ ls s k. exec_all p ls s rest k)

-- A loop that comes again. Behind its body a `for` runs its next part, on its own line.
abbrev pub turn : {S : Type 0} → Parts S → ℕ → List Datum → S → Statement → ℕ → Flow S
turn p line ls s (while_loop own c b) k = turn_of p c (λ ls s k. exec p (line_of b) ls s b k) (while_loop own c b) line ls s k
turn p line ls s (for_loop own site part first c next b) k =
    turn_of p c (λ ls s k. and_on (exec p (line_of b) ls s b k) (λ ls s k. exec p line ls s next k)) (for_loop own site part first c next b) line ls s k
turn p line ls s other k = goes_on ls s k

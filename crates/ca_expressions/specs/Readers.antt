-- What the clauses of parsing functions speak of: what a call answers, and what may follow.
use Rattle.std.specs.Prelude.{ℕ, List, Result, Ok, Err}
use Rattle.std.specs.Borrow.{Bor}
use Rattle.std.specs.declared.boxed.Box.{Box}
use Rattle.std.specs.Global.{Global}
use Rattle.ca_tree.specs.Plain.{Expression}
use Rattle.ca_tree.specs.View.{expression_view}
use Rattle.ca_tree.specs.declared.tree.ExprNode.{ExprNode}
use Rattle.ca_descent.specs.Exact.{Grammar, Unlimited, Before, Failure, NoMemory, Wrong, TooDeep, Answer, Got, Failed}
use Rattle.ca_tree.specs.declared.token.Token.{Token}
use Rattle.ca_expressions.specs.Terminals.{goes_on}
use Rattle.ca_expressions.specs.declared.tokens.Fault.{Fault}
use Rattle.ca_expressions.specs.declared.tokens.Fault.TheVariants.{Memory}
use Rattle.ca_expressions.specs.declared.tokens.Fault.TheVariants.{Wrong as WrongFault, TooDeep as TooDeepFault}

-- the failure of a failed call
abbrev pub failure : Fault → Failure Token
failure Memory = NoMemory
failure (WrongFault rest) = Wrong rest.now
failure (TooDeepFault rest) = TooDeep rest.now

-- the answer of a call, with the tree seen by view
abbrev pub answer : {X A : Type 0} → (X → A) → Result (X × Bor (List Token)) Fault → Answer Token A
answer view (Ok p) = Got (view p.0) p.1.now
answer view (Err e) = Failed (failure e)

-- derivations of G behind which stands no token that goes on with an expression of level k
abbrev pub Closed : {A : Type 0} → ℕ → (List Token → A → List Token → Type 0) → Grammar Token A
Closed k G = Before (goes_on k) (Unlimited G)

-- an expression in a box
abbrev pub node_view : Box ExprNode Global → Expression
node_view b = expression_view b.value

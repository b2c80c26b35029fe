-- Call loops: `for (long i = e1; i < e2; i++)`, whose body is one call of an operation, or a block of one or more.
use Rattle.std.specs.Prelude.{◌≡◌, pos}
use Rattle.ca_tree.specs.declared.tree.AssignOp.TheVariants.{Put, Add}
use Rattle.ca_tree.specs.declared.tree.BinaryOp.TheVariants.{Less, Plus}
use Rattle.ca_program.specs.declared.program.LocalId.{LocalId}
use Rattle.ca_program.specs.declared.program.FirstPart.{FirstPart}
use Rattle.ca_program.specs.declared.program.FirstPart.TheVariants.{Declares}
use Rattle.ca_program.specs.Plain.{Expression, number, local, binary, Statement, Statements, block, put_local, invoke, for_loop, no_statements, statement_and}

-- the first part declares the counter, with a value of its own
abbrev pub Begins : FirstPart → Statement → LocalId → Type 0
Begins Declares (put_local line l Put e) i = l ≡ i
Begins _ _ i = ⊥

-- the condition
abbrev pub Compares : Expression → LocalId → Type 0
Compares (binary Less (local l) e) i = l ≡ i
Compares _ i = ⊥

-- the next part: `i += 1`, as which `i++` is read too, or `i = i + 1`
abbrev pub CountsUp : Statement → LocalId → Type 0
CountsUp (put_local line l Add (number n)) i = (l ≡ i) × (n ≡ pos 1)
CountsUp (put_local line l Put (binary Plus (local m) (number n))) i = (l ≡ i) × (m ≡ i) × (n ≡ pos 1)
CountsUp _ i = ⊥

abbrev pub IsCall : Statement → Type 0
IsCall (invoke line e op arguments) = Unit {0}
IsCall _ = ⊥

abbrev pub AreCalls : Statements → Type 0
AreCalls no_statements = Unit {0}
AreCalls (statement_and s ss) = IsCall s × AreCalls ss

abbrev pub CallsAlone : Statement → Type 0
CallsAlone (invoke line e op arguments) = Unit {0}
CallsAlone (block line (statement_and s ss)) = IsCall s × AreCalls ss
CallsAlone _ = ⊥

pub record IsCallLoopOf (part : FirstPart) (first : Statement) (c : Expression) (next body : Statement) : Type 0 where
  pub counter : LocalId
  pub begins : Begins part first counter
  pub compares : Compares c counter
  pub counts : CountsUp next counter
  pub calls : CallsAlone body

abbrev pub IsCallLoop : Statement → Type 0
IsCallLoop (for_loop line site part first c next body) = IsCallLoopOf part first c next body
IsCallLoop _ = ⊥

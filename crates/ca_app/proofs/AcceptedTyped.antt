-- The program of an accepted text is well typed, its loops are numbered, and counters stay in their loops.
use Rattle.std.proofs.Common.{ℕ, List}
use Rattle.ca_program.specs.Plain.{PlainProgram}
use Rattle.ca_meaning.specs.ProgramTyped.{ProgramTyped}
use Rattle.ca_typing.proofs.Numbers.{loops_are_numbered}
use Rattle.ca_typing.proofs.ScopedPrograms.{operations_are_scoped}
use Rattle.ca_typing.proofs.Texts.{text_is_typed}
use Rattle.ca_plan.specs.Checked.{Checked}
use Rattle.ca_app.specs.Accepted.{Accepted}

pub accepted_is_typed : {text : List ℕ} {p : PlainProgram} → Accepted text p → ProgramTyped p
accepted_is_typed {text} {p} a = text_is_typed text a.has_tree.tokens 0 a.tree p a.has_tree.has_tokens.lexed a.has_tree.derived a.resolved

pub accepted_is_checked : {text : List ℕ} {p : PlainProgram} → Accepted text p → Checked p
accepted_is_checked {p = p} a =
    let loops = loops_are_numbered a.tree p a.resolved in
    record {
      typed = accepted_is_typed a;
      numbered = loops.rise;
      one = loops.one;
      scoped = operations_are_scoped a.tree p a.resolved;
    }

-- A body that is found to return does so as it is resolved.
use Rattle.std.proofs.Common.{◌≡◌, List, [], ◌∷◌, true, subst}
use Rattle.std.proofs.lemmas.Bool.{and_parts}
use Rattle.ca_tree.specs.Plain.{Statement, Statements, block, if_else, return_value, no_statements, statement_and}
use Rattle.ca_program.specs.Plain as program
use Rattle.ca_meaning.specs.ProgramTyped.{Returns, LastReturns}
use Rattle.ca_resolve.specs.Judged.{fine, unless}
use Rattle.ca_types.specs.Rules.{returns, last_returns, return_stands}
use Rattle.ca_types.specs.Statements.{Env, enter_block, leave_block, behind, judge_wanted, judge_condition, statements_in, judge_statement, judge_statements}
use Rattle.ca_typing.proofs.Judging.{within_fine, made_fine, unless_fine, if_fine}
use Rattle.ca_typing.proofs.Statements.{from_none, none_behind, statements_fine}

one_before : (x : program.Statement) (xs : List program.Statement) → LastReturns (statements_in xs) → LastReturns (statements_in (x ∷ xs))
one_before x [] h = absurd h
one_before x (y ∷ ys) h = h

mutual
  statement_returns : (c : Env) (s : Statement) (x : program.Statement) → judge_statement c s ≡ fine x → returns s ≡ true → Returns x
  statement_returns c (block at ss) x h r =
      let w = made_fine (judge_statements (enter_block c) ss) (λ all. program.block at.line (statements_in all)) x h in
      subst Returns w.2 (statements_return (enter_block c) ss w.0 w.1 r)
  statement_returns c (if_else at e a b) x h r =
      let test = judge_condition c.scope e in
      let yes_part = judge_statement (enter_block c) a in
      let no_part = judge_statement (enter_block (leave_block c (behind (enter_block c) a))) b in
      let w = if_fine at.line test yes_part no_part x h in
      let k = and_parts (returns a) (returns b) r in
      subst Returns w.is (statement_returns (enter_block c) a w.one w.one_is k.0, statement_returns (enter_block (leave_block c (behind (enter_block c) a))) b w.other w.other_is k.1)
  statement_returns c (return_value at e) x h r =
      let w = within_fine (judge_wanted c.scope c.result e) (λ v. unless (return_stands c.result at) (program.return_value at.line v)) x h in
      subst Returns (unless_fine (return_stands c.result at) (program.return_value at.line w.0) x w.2) tt
  statement_returns c s x h r = absurd (cc)

  pub statements_return : (c : Env) (ss : Statements) (all : List program.Statement) → judge_statements c ss ≡ fine all → last_returns ss ≡ true → LastReturns (statements_in all)
  statements_return c no_statements all h r = absurd (cc)
  statements_return c (statement_and s no_statements) all h r =
      let w = statements_fine c [] s no_statements all (from_none c (statement_and s no_statements) all h) in
      subst (λ xs. LastReturns (statements_in xs)) (none_behind (behind c s) (w.0 ∷ []) all w.2) (statement_returns c s w.0 w.1 r)
  statements_return c (statement_and s (statement_and t ss)) all h r =
      let w = statements_fine c [] s (statement_and t ss) all (from_none c (statement_and s (statement_and t ss)) all h) in
      let more = statements_return (behind c s) (statement_and t ss) w.2.these w.2.judged r in
      subst (λ xs. LastReturns (statements_in xs)) w.2.is (one_before w.0 w.2.these more)

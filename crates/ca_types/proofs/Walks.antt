-- A walk over the statements of a list.
use Rattle.std.proofs.Common.{◌≡◌, ℕ, ◌+◌, ◌<◌, ◌≤◌, List, [], ◌∷◌, ◌++◌, Bool, false, drop, length, get_or, refl, sym, ◌∙◌, ap, append_assoc, append-nil}
use Rattle.std.proofs.lemmas.List.{drop_all}
use Rattle.ca_lists.proofs.Places.{item_and_rest}
use Rattle.ca_tree.specs.declared.tree.StmtNode.{StmtNode}
use Rattle.ca_tree.specs.Plain.{Statement, Statements, no_statements, statement_and}
use Rattle.ca_tree.specs.View.{statement_view, statements_view}
use Rattle.ca_program.specs.Plain as program
use Rattle.ca_resolve.specs.Judged.{Judged}
use Rattle.ca_types.specs.Rules.{returns, last_returns}
use Rattle.ca_types.specs.Statements.{Env, behind, behind_all, judge_statement, judge_each}

next_statement : (xs : List StmtNode) (i : ℕ) (s : StmtNode) → i < length xs → s ≡ get_or xs i s → statements_view (drop i xs) ≡ statement_and (statement_view s) (statements_view (drop (i + 1) xs))
next_statement xs i s h e = ap statements_view (item_and_rest xs i s h e)

-- the statements of a list from i on, behind others that were judged so, are all that is left of the whole
pub record Left (c0 : Env) (all : Statements) (c : Env) (front : List (Judged program.Statement)) (rest : Statements) : Type 0 where
  pub judged : judge_each c0 all ≡ front ++ judge_each c rest
  pub standing : behind_all c0 all ≡ behind_all c rest

pub step : (c0 c c' : Env) (all : Statements) (front : List (Judged program.Statement)) (xs : List StmtNode) (i : ℕ) (s : StmtNode) → i < length xs → s ≡ get_or xs i s
    → c' ≡ behind c (statement_view s) → Left c0 all c front (statements_view (drop i xs))
    → Left c0 all c' (front ++ judge_statement c (statement_view s) ∷ []) (statements_view (drop (i + 1) xs))
step c0 c c' all front xs i s h e b l =
    let n = next_statement xs i s h e in
    let rest = statements_view (drop (i + 1) xs) in
    let here = judge_statement c (statement_view s) in
    record {
      judged = l.judged ∙ (ap (λ z. front ++ judge_each c z) n ∙ (ap (λ d. front ++ (here ∷ judge_each d rest)) (sym b) ∙ sym (append_assoc front (here ∷ []) (judge_each c' rest))));
      standing = l.standing ∙ (ap (behind_all c) n ∙ ap (λ d. behind_all d rest) (sym b));
    }

pub ended : (c0 c : Env) (all : Statements) (front : List (Judged program.Statement)) (xs : List StmtNode) (i : ℕ) → length xs ≤ i → Left c0 all c front (statements_view (drop i xs))
    → (judge_each c0 all ≡ front) × (behind_all c0 all ≡ c)
ended c0 c all front xs i h l =
    let e = ap statements_view (drop_all i xs h) in
    (l.judged ∙ (ap (λ z. front ++ judge_each c z) e ∙ append-nil front), l.standing ∙ ap (behind_all c) e)

-- whether the last of statements returns, or with none whether the one before them did
abbrev pub last_behind : Bool → Statements → Bool
last_behind before no_statements = before
last_behind before (statement_and s ss) = last_behind (returns s) ss

pub last_is : (before : Bool) (s : Statement) (ss : Statements) → last_behind before (statement_and s ss) ≡ last_returns (statement_and s ss)
last_is before s no_statements = refl
last_is before s (statement_and t ss) = last_is (returns s) t ss

pub all_last : (ss : Statements) → last_behind false ss ≡ last_returns ss
all_last no_statements = refl
all_last (statement_and s ss) = last_is false s ss

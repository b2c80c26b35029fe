-- The loops of a typed body are typed.
use Rattle.std.proofs.Common.{[], ◌∷◌, ◌++◌, subst, ⊎_elim}
use Rattle.std.specs.Prelude.{Contains}
use Rattle.std.proofs.lemmas.List.Elements.{Contains-append_cases}
use Rattle.ca_lists.proofs.Members.{has_nothing, has_only}
use Rattle.ca_program.specs.Plain.{PlainProgram, Statement, Statements, block, put_local, put_field, put_item, new_local, new_field, new_item, invoke, if_else, while_loop, for_loop, return_value, print_value, no_statements, statement_and}
use Rattle.ca_meaning.specs.ProgramTyped.{Scope, StatementTyped, StatementsTyped}
use Rattle.ca_parallel.specs.Bodies.{fors_in, fors_in_all}

module _ (p : PlainProgram) (s : Scope) where
  mutual
    loop_typed : (x : Statement) → StatementTyped p s x → (loop : Statement) → Contains (fors_in x) loop → StatementTyped p s loop
    loop_typed (block line ss) typed loop c = loops_typed ss typed loop c
    loop_typed (if_else line e a b) typed loop c =
        ⊎_elim (λ c. loop_typed a typed.1 loop c) (λ c. loop_typed b typed.2 loop c) (Contains-append_cases (fors_in a) (fors_in b) loop c)
    loop_typed (while_loop line e b) typed loop c = loop_typed b typed.1 loop c
    loop_typed (for_loop line site part first e next b) typed loop c =
        let all : Statement = for_loop line site part first e next b in
        ⊎_elim (λ c. subst (λ x. StatementTyped p s x) (has_only all loop c) typed)
        (λ c. ⊎_elim (λ c. loop_typed first typed.0 loop c) (λ c. ⊎_elim (λ c. loop_typed next typed.2 loop c) (λ c. loop_typed b typed.3 loop c) (Contains-append_cases (fors_in next) (fors_in b) loop c)) (Contains-append_cases (fors_in first) (fors_in next ++ fors_in b) loop c))
        (Contains-append_cases (all ∷ []) (fors_in first ++ (fors_in next ++ fors_in b)) loop c)
    loop_typed (put_local line l op e) typed loop c = absurd (has_nothing loop c)
    loop_typed (put_field line f op e) typed loop c = absurd (has_nothing loop c)
    loop_typed (put_item line f i op e) typed loop c = absurd (has_nothing loop c)
    loop_typed (new_local line l k) typed loop c = absurd (has_nothing loop c)
    loop_typed (new_field line f k) typed loop c = absurd (has_nothing loop c)
    loop_typed (new_item line f i k) typed loop c = absurd (has_nothing loop c)
    loop_typed (invoke line e op es) typed loop c = absurd (has_nothing loop c)
    loop_typed (return_value line e) typed loop c = absurd (has_nothing loop c)
    loop_typed (print_value line e) typed loop c = absurd (has_nothing loop c)

    pub loops_typed : (xs : Statements) → StatementsTyped p s xs → (loop : Statement) → Contains (fors_in_all xs) loop → StatementTyped p s loop
    loops_typed no_statements typed loop c = absurd (has_nothing loop c)
    loops_typed (statement_and x rest) typed loop c =
        ⊎_elim (λ c. loop_typed x typed.0 loop c) (λ c. loops_typed rest typed.1 loop c) (Contains-append_cases (fors_in x) (fors_in_all rest) loop c)

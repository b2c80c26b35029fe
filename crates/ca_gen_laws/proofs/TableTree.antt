-- The tree of the class of tables.
use Rattle.std.proofs.Common.{ℕ, List, [], ◌∷◌, refl, arith, inl}
use Rattle.std.specs.Prelude.{Some, None, pos, codes}
use Rattle.ca_descent.specs.Exact.{sees, separated, separated_none, following, following_end}
use Rattle.ca_tree.specs.declared.token.Token.{Token}
use Rattle.ca_tree.specs.declared.tree.TypeNode.TheVariants.{Long, Pointer}
use Rattle.ca_tree.specs.declared.tree.AssignOp.TheVariants.{Put, Add}
use Rattle.ca_tree.specs.declared.tree.BinaryOp.TheVariants.{Less, Plus}
use Rattle.ca_tree.specs.Plain.{ClassTree, number, named, method, index, binary, no_expressions, expression_and, value, new, local, assign, call_statement, for_loop, no_statements, statement_and, field_member, method_member}
use Rattle.ca_expressions.specs.Grammar.{operands, operands_end, operands_more, unary_last, a_literal, a_chain, name_chain, tails_end, tails_more, method_tail, index_tail, args, listed, further_none, further}
use Rattle.ca_parse.specs.Grammar.{long, pointer, expression, creation_call, begins, puts, increments, assigns, assign_line, first_local, an_assign, a_call, a_for, a_statement, items_end, items_and, lines_end, lines_and, param, signature, array, fields, operation, Declaration, a_class}
use Rattle.ca_gen_laws.proofs.Chunks.{spread, tokens_at}
use Rattle.ca_gen_laws.proofs.Scans.{table_kinds}
use Rattle.ca_gen_laws.proofs.Deriving.{a_factor, a_summand, from_sum, from_comparison, chain_alone, a_name, a_number, short}

abbrev pub table_tree : ℕ → (ℕ → Token) → ClassTree
table_tree size f = record {
  name = codes "Table";
  at = (f 1).at;
  members =
      field_member (record { ty = Pointer (codes "Node") (f 5).at; name = codes "at"; at = (f 7).at; length = Some (pos size) })
      ∷ method_member (record {
        result = None;
        name = codes "fill";
        at = (f 13).at;
        params = [];
        body =
            statement_and (for_loop (f 17).at
            (local (f 19).at Long (codes "i") (f 20).at (Some (value (number (f 22).at (pos 0)))))
            (binary (f 25).at Less (named (f 24).at (codes "i")) (number (f 26).at (pos size)))
            (assign (f 28).at (named (f 28).at (codes "i")) Add (value (number (f 29).at (pos 1))))
            (assign (f 31).at (index (f 32).at (named (f 31).at (codes "at")) (named (f 33).at (codes "i"))) Put (new (codes "Node") (f 37).at)))
            no_statements;
      })
      ∷ method_member (record {
        result = None;
        name = codes "link";
        at = (f 43).at;
        params =
            record { ty = Long; name = codes "i"; at = (f 46).at }
            ∷ record { ty = Long; name = codes "l"; at = (f 49).at }
            ∷ record { ty = Long; name = codes "r"; at = (f 52).at } ∷ [];
        body =
            statement_and (call_statement (f 55).at (method (f 59).at (index (f 56).at (named (f 55).at (codes "at")) (named (f 57).at (codes "i"))) (codes "set")
            (expression_and (binary (f 63).at Plus (named (f 62).at (codes "i")) (number (f 64).at (pos 1)))
            (expression_and (index (f 67).at (named (f 66).at (codes "at")) (named (f 68).at (codes "l")))
            (expression_and (index (f 72).at (named (f 71).at (codes "at")) (named (f 73).at (codes "r"))) no_expressions)))))
            no_statements;
      })
      ∷ [];
}

pub table_derives : (size : ℕ) (f : ℕ → Token) (r : List Token) → Declaration 0 (spread f (table_kinds size) r) (table_tree size f ∷ []) r
table_derives size f r =
    a_class (sees refl) (sees refl) (sees refl) (sees refl) (sees refl)
    (lines_and (fields (pointer (sees refl) (sees refl)) (sees refl) (array (sees refl) (sees refl) (sees refl)) (following_end (sees refl)))
    (lines_and (operation (sees refl) (sees refl) (signature (sees refl) (separated_none (sees refl)) (sees refl)
    (items_and (a_statement (a_for (inl (omega arith)) (sees refl) (sees refl)
    (first_local (begins (long (sees refl)) (sees refl) (sees refl) (expression (short (tokens_at f (table_kinds size) 22 1) _ (λ z. a_number) (omega arith))) (sees refl)))
    (short (tokens_at f (table_kinds size) 24 3) _ (λ z. (from_comparison (operands (omega arith) (a_summand (unary_last (a_chain (name_chain (sees refl) tails_end)))) (operands_more (sees refl) (a_summand (unary_last (a_literal (sees refl)))) operands_end)))) (omega arith))
    (sees refl)
    (assigns (short (tokens_at f (table_kinds size) 28 1) _ (λ z. (name_chain (sees refl) tails_end)) (omega arith)) refl (increments (sees refl)))
    (sees refl)
    (an_assign (assign_line (assigns (short (tokens_at f (table_kinds size) 31 4) _ (λ z. (name_chain (sees refl) (tails_more (index_tail (sees refl) a_name (sees refl)) tails_end))) (omega arith)) refl (puts (sees refl) (creation_call (sees refl) (sees refl) (sees refl) (sees refl)))) (sees refl)))))
    (items_end (sees refl)))))
    (lines_and (operation (sees refl) (sees refl) (signature (sees refl)
    (separated (param (long (sees refl)) (sees refl)) (following (sees refl) (param (long (sees refl)) (sees refl)) (following (sees refl) (param (long (sees refl)) (sees refl)) (following_end (sees refl)))))
    (sees refl)
    (items_and (a_statement (a_call (short (tokens_at f (table_kinds size) 55 21) _ (λ z. (name_chain (sees refl) (tails_more (index_tail (sees refl) a_name (sees refl)) (tails_more (method_tail (sees refl) (sees refl) (args (sees refl) (listed (from_sum (operands (omega arith) (a_factor (unary_last (a_chain (name_chain (sees refl) tails_end)))) (operands_more (sees refl) (a_factor (unary_last (a_literal (sees refl)))) operands_end))) (further (sees refl) (chain_alone (name_chain (sees refl) (tails_more (index_tail (sees refl) a_name (sees refl)) tails_end))) (further (sees refl) (chain_alone (name_chain (sees refl) (tails_more (index_tail (sees refl) a_name (sees refl)) tails_end))) (further_none (sees refl))))))) tails_end)))) (omega arith)) refl (sees refl)))
    (items_end (sees refl)))))
    (lines_end (sees refl)))))
    (sees refl)

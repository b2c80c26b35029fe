-- The tree of the class of nodes.
use Rattle.std.proofs.Common.{ℕ, List, [], ◌∷◌, true, refl, arith, inl}
use Rattle.std.specs.Prelude.{None, codes}
use Rattle.ca_descent.specs.Exact.{sees, separated, following, following_end}
use Rattle.ca_tree.specs.declared.token.Token.{Token}
use Rattle.ca_tree.specs.declared.tree.TypeNode.TheVariants.{Long, Bool as Truth, Pointer}
use Rattle.ca_tree.specs.declared.tree.AssignOp.TheVariants.{Put, Add}
use Rattle.ca_tree.specs.declared.tree.UnaryOp.TheVariants.{Not}
use Rattle.ca_tree.specs.Plain.{ClassTree, truth, named, method, unary, no_expressions, expression_and, value, block, assign, call_statement, if_only, no_statements, statement_and, field_member, method_member}
use Rattle.ca_expressions.specs.Grammar.{unary_first, unary_last, a_literal, a_chain, name_chain, tails_end, tails_more, method_tail, args, listed, further_none}
use Rattle.ca_parse.specs.Grammar.{long, bool, pointer, expression, puts, changes, assigns, assign_line, a_block, an_assign, a_call, an_if, a_statement, items_end, items_and, lines_end, lines_and, param, signature, scalar, fields, operation, Declaration, a_class}
use Rattle.ca_gen_laws.proofs.Chunks.{spread, tokens_at}
use Rattle.ca_gen_laws.proofs.Scans.{node_kinds}
use Rattle.ca_gen_laws.proofs.Deriving.{alone, a_name, short}

abbrev pub node_tree : (ℕ → Token) → ClassTree
node_tree f = record {
  name = codes "Node";
  at = (f 1).at;
  members =
      field_member (record { ty = Truth; name = codes "mark"; at = (f 6).at; length = None })
      ∷ field_member (record { ty = Long; name = codes "value"; at = (f 9).at; length = None })
      ∷ field_member (record { ty = Long; name = codes "sum"; at = (f 12).at; length = None })
      ∷ field_member (record { ty = Pointer (codes "Node") (f 14).at; name = codes "left"; at = (f 16).at; length = None })
      ∷ field_member (record { ty = Pointer (codes "Node") (f 18).at; name = codes "right"; at = (f 20).at; length = None })
      ∷ method_member (record {
        result = None;
        name = codes "set";
        at = (f 23).at;
        params =
            record { ty = Long; name = codes "v"; at = (f 26).at }
            ∷ record { ty = Pointer (codes "Node") (f 28).at; name = codes "l"; at = (f 30).at }
            ∷ record { ty = Pointer (codes "Node") (f 32).at; name = codes "r"; at = (f 34).at } ∷ [];
        body =
            statement_and (assign (f 37).at (named (f 37).at (codes "value")) Put (value (named (f 39).at (codes "v"))))
            (statement_and (assign (f 41).at (named (f 41).at (codes "left")) Put (value (named (f 43).at (codes "l"))))
            (statement_and (assign (f 45).at (named (f 45).at (codes "right")) Put (value (named (f 47).at (codes "r")))) no_statements));
      })
      ∷ method_member (record {
        result = None;
        name = codes "visit";
        at = (f 51).at;
        params = record { ty = Long; name = codes "p"; at = (f 54).at } ∷ [];
        body =
            statement_and (assign (f 57).at (named (f 57).at (codes "sum")) Add (value (named (f 59).at (codes "p"))))
            (statement_and (if_only (f 61).at (unary (f 63).at Not (named (f 64).at (codes "mark")))
            (block (f 66).at
            (statement_and (assign (f 67).at (named (f 67).at (codes "mark")) Put (value (truth (f 69).at true)))
            (statement_and (call_statement (f 71).at (method (f 72).at (named (f 71).at (codes "left")) (codes "visit") (expression_and (named (f 75).at (codes "value")) no_expressions)))
            (statement_and (call_statement (f 78).at (method (f 79).at (named (f 78).at (codes "right")) (codes "visit") (expression_and (named (f 82).at (codes "value")) no_expressions)))
            no_statements)))))
            no_statements);
      })
      ∷ [];
}

pub node_derives : (f : ℕ → Token) (r : List Token) → Declaration 0 (spread f node_kinds r) (node_tree f ∷ []) r
node_derives f r =
    a_class (sees refl) (sees refl) (sees refl) (sees refl) (sees refl)
    (lines_and (fields (bool (sees refl)) (sees refl) scalar (following_end (sees refl)))
    (lines_and (fields (long (sees refl)) (sees refl) scalar (following_end (sees refl)))
    (lines_and (fields (long (sees refl)) (sees refl) scalar (following_end (sees refl)))
    (lines_and (fields (pointer (sees refl) (sees refl)) (sees refl) scalar (following_end (sees refl)))
    (lines_and (fields (pointer (sees refl) (sees refl)) (sees refl) scalar (following_end (sees refl)))
    (lines_and (operation (sees refl) (sees refl) (signature (sees refl)
    (separated (param (long (sees refl)) (sees refl)) (following (sees refl) (param (pointer (sees refl) (sees refl)) (sees refl)) (following (sees refl) (param (pointer (sees refl) (sees refl)) (sees refl)) (following_end (sees refl)))))
    (sees refl)
    (items_and (a_statement (an_assign (assign_line (assigns (short (tokens_at f node_kinds 37 1) _ (λ z. (name_chain (sees refl) tails_end)) (omega arith)) refl (puts (sees refl) (expression (short (tokens_at f node_kinds 39 1) _ (λ z. a_name) (omega arith))))) (sees refl))))
    (items_and (a_statement (an_assign (assign_line (assigns (short (tokens_at f node_kinds 41 1) _ (λ z. (name_chain (sees refl) tails_end)) (omega arith)) refl (puts (sees refl) (expression (short (tokens_at f node_kinds 43 1) _ (λ z. a_name) (omega arith))))) (sees refl))))
    (items_and (a_statement (an_assign (assign_line (assigns (short (tokens_at f node_kinds 45 1) _ (λ z. (name_chain (sees refl) tails_end)) (omega arith)) refl (puts (sees refl) (expression (short (tokens_at f node_kinds 47 1) _ (λ z. a_name) (omega arith))))) (sees refl))))
    (items_end (sees refl)))))))
    (lines_and (operation (sees refl) (sees refl) (signature (sees refl)
    (separated (param (long (sees refl)) (sees refl)) (following_end (sees refl)))
    (sees refl)
    (items_and (a_statement (an_assign (assign_line (assigns (short (tokens_at f node_kinds 57 1) _ (λ z. (name_chain (sees refl) tails_end)) (omega arith)) refl (changes (sees refl) (short (tokens_at f node_kinds 59 1) _ (λ z. a_name) (omega arith)))) (sees refl))))
    (items_and (a_statement (an_if (inl (omega arith)) (sees refl) (sees refl) (short (tokens_at f node_kinds 63 2) _ (λ z. alone (unary_first (sees refl) (unary_last (a_chain (name_chain (sees refl) tails_end))))) (omega arith)) (sees refl)
    (a_block (inl (omega arith)) (sees refl)
    (items_and (a_statement (an_assign (assign_line (assigns (short (tokens_at f node_kinds 67 1) _ (λ z. (name_chain (sees refl) tails_end)) (omega arith)) refl (puts (sees refl) (expression (short (tokens_at f node_kinds 69 1) _ (λ z. alone (unary_last (a_literal (sees refl)))) (omega arith))))) (sees refl))))
    (items_and (a_statement (a_call (short (tokens_at f node_kinds 71 6) _ (λ z. (name_chain (sees refl) (tails_more (method_tail (sees refl) (sees refl) (args (sees refl) (listed a_name (further_none (sees refl))))) tails_end))) (omega arith)) refl (sees refl)))
    (items_and (a_statement (a_call (short (tokens_at f node_kinds 78 6) _ (λ z. (name_chain (sees refl) (tails_more (method_tail (sees refl) (sees refl) (args (sees refl) (listed a_name (further_none (sees refl))))) tails_end))) (omega arith)) refl (sees refl)))
    (items_end (sees refl))))))))
    (items_end (sees refl))))))
    (lines_end (sees refl)))))))))
    (sees refl)

-- A worked example: the smallest text with the greatest number, `int main(){print(9223372036854775807);}`.
use Rattle.std.proofs.Common.{◌≡◌, ℕ, pos, ◌+◌, List, [], ◌∷◌, inl, refl, arith}
use Rattle.std.specs.Prelude.{ℤ, codes}
use Rattle.ca_descent.specs.Exact.{sees}
use Rattle.ca_tree.specs.declared.name.Place.{Place}
use Rattle.ca_tree.specs.declared.token.Token.{Token}
use Rattle.ca_tree.specs.declared.token.Kind.{Kind}
use Rattle.ca_tree.specs.declared.token.Kind.TheVariants.{Number, Key, Sign}
use Rattle.ca_tree.specs.declared.token.Keyword.TheVariants.{Int, Main, Print}
use Rattle.ca_tree.specs.declared.token.Sign.TheVariants.{OpenBrace, CloseBrace, OpenParenthesis, CloseParenthesis, Semicolon}
use Rattle.ca_tree.specs.Plain.{TextTree, number, print_value, no_statements, statement_and}
use Rattle.ca_program.specs.Plain as program
use Rattle.ca_program.specs.Plain.{PlainProgram}
use Rattle.ca_lex.specs.Pieces.{piece_of}
use Rattle.ca_lex.specs.Tokens.{Tokens, at_end, blank, token}
use Rattle.ca_expressions.specs.Grammar.{Expr, operands, one_operand, operands_end, unary_last, a_literal}
use Rattle.ca_parse.specs.Grammar.{DerivesWithin, program as a_program, lines_end, lines_and, one, main_item, a_statement, a_print}
use Rattle.ca_meaning.specs.ProgramTyped.{ProgramTyped}
use Rattle.ca_resolve.specs.Judged.{fine}
use Rattle.ca_types.specs.Classes.{judge}
use Rattle.ca_typing.proofs.Texts.{text_is_typed}

abbrev place : ℕ → Place
place column = record { line = 1; column = column }

-- the token behind so many bytes of the line
abbrev behind : ℕ → ℕ → Kind → Token
behind n len kind = record { kind = kind; at = place (n + 1); start = n; len = len }

abbrev text : List ℕ
text = codes "int main(){print(9223372036854775807);}"

abbrev greatest : Token
greatest = behind 17 19 (Number (pos 9223372036854775807))

abbrev tokens : List Token
tokens =
    behind 0 3 (Key Int) ∷ behind 4 4 (Key Main) ∷ behind 8 1 (Sign OpenParenthesis) ∷ behind 9 1 (Sign CloseParenthesis) ∷ behind 10 1 (Sign OpenBrace)
    ∷ behind 11 5 (Key Print) ∷ behind 16 1 (Sign OpenParenthesis) ∷ greatest ∷ behind 36 1 (Sign CloseParenthesis) ∷ behind 37 1 (Sign Semicolon)
    ∷ behind 38 1 (Sign CloseBrace) ∷ []

abbrev tree : ℤ → TextTree
tree n = record { classes = []; main = statement_and (print_value (place 12) (number (place 18) n)) no_statements }

abbrev printing : ℤ → PlainProgram
printing n = record {
  classes = [];
  ops = [];
  functions = [];
  main = record { locals = []; statements = program.statement_and (program.print_value 1 (program.number n)) program.no_statements };
}

its_tokens : Tokens text tokens
unfolding piece_of
its_tokens = token refl (blank refl (token refl (token refl (token refl (token refl (token refl (token refl (token refl (token refl (token refl (token refl at_end)))))))))))

a_number : (r : List Token) → Expr (greatest ∷ r) (number (place 18) (pos 9223372036854775807)) r
a_number r =
    operands (omega arith) (operands (omega arith) (operands (omega arith) (operands (omega arith) (operands (omega arith) (operands (omega arith) (operands (omega arith) (operands (omega arith) (operands (omega arith)
    (one_operand (omega arith) (unary_last (a_literal (sees refl)))) operands_end) operands_end) operands_end) operands_end) operands_end) operands_end) operands_end) operands_end) operands_end

its_tree : DerivesWithin tokens (tree (pos 9223372036854775807))
its_tree =
    a_program (lines_end (sees refl)) (sees refl) (sees refl) (sees refl) (sees refl)
    (lines_and (one (main_item (a_statement (a_print (sees refl) (sees refl) (record { front = greatest ∷ []; cut = refl; derives = a_number; within = inl (omega arith) }) (sees refl) (sees refl)))))
    (lines_end (sees refl)))

-- the checker asks nothing of a number, so it is the text that bounds it
any_number : (n : ℤ) → judge (tree n) ≡ fine (printing n)
any_number n = refl

greatest_is_typed : ProgramTyped (printing (pos 9223372036854775807))
greatest_is_typed = text_is_typed text tokens 0 (tree (pos 9223372036854775807)) (printing (pos 9223372036854775807)) its_tokens its_tree (any_number (pos 9223372036854775807))

-- The canonical tokens of a tree.
use Rattle.std.specs.Prelude.{ℕ, ◌+◌, ℤ, pos, List, [], ◌∷◌, ◌++◌, Bool, true, false, nat_lt, Option, Some, None}
use Rattle.std.specs.Ordering.{int_eq}
use Rattle.ca_tree.specs.declared.token.Kind.{Kind}
use Rattle.ca_tree.specs.declared.token.Kind.TheVariants.{Word, Number, Key, Sign}
use Rattle.ca_tree.specs.declared.token.Keyword.{Keyword}
use Rattle.ca_tree.specs.declared.token.Keyword.TheVariants as key
use Rattle.ca_tree.specs.declared.token.Sign.TheVariants as sign
use Rattle.ca_tree.specs.declared.tree.TypeNode.{TypeNode}
use Rattle.ca_tree.specs.declared.tree.TypeNode.TheVariants.{Long, Bool as BoolType, Pointer}
use Rattle.ca_tree.specs.declared.tree.FieldNode.{FieldNode}
use Rattle.ca_tree.specs.declared.tree.ParamNode.{ParamNode}
use Rattle.ca_tree.specs.Plain.{Expression, Expressions, RightSide, Statement, Statements, MethodTree, MemberTree, ClassTree, TextTree, number, truth, null, this, named, call, field, method, index, unary, binary, no_expressions, expression_and, value, new, empty, block, local, assign, call_statement, if_only, if_else, while_loop, for_loop, return_value, print_value, no_statements, statement_and, field_member, method_member}
use Rattle.ca_tree.specs.declared.operators.Writing.{Writing}
use Rattle.ca_tree.specs.declared.operators.Writing.TheVariants.{Between, Before}
use Rattle.ca_tree.specs.Operators.{level, writing, unary_level, unary_sign, assign_sign}

-- A literal, and an operator whose key word stands before its sides, binds more tightly than a unary operator and less than
-- `->` and an index, before which it has round brackets.
abbrev pub literal_level : ℕ
literal_level = unary_level + 1

-- `->` and an index bind most tightly
abbrev pub tail_level : ℕ
tail_level = unary_level + 2

-- how tightly the outermost operator of an expression binds; what a tail may follow without brackets binds as tails do
abbrev pub binds : Expression → ℕ
binds (binary at o a b) = level o
binds (unary at o e) = unary_level
binds (number at n) = literal_level
binds (truth at b) = literal_level
binds (null at) = literal_level
binds other = tail_level

abbrev pub in_parentheses : List Kind → List Kind
in_parentheses ks = Sign sign.OpenParenthesis ∷ (ks ++ Sign sign.CloseParenthesis ∷ [])

-- an operand, in round brackets where its operator binds less tightly than is asked
abbrev pub bracketed : Bool → List Kind → List Kind
bracketed true ks = in_parentheses ks
bracketed false ks = ks

abbrev pub spell_truth : Bool → Kind
spell_truth true = Key key.True
spell_truth false = Key key.False

-- An operator of level k: between its sides, which bind as tightly as m and n, or as a key word before both in round brackets
abbrev pub spelled_by : Writing → (k m n : ℕ) → List Kind → List Kind → List Kind
spelled_by (Between s) k m n ks ls = bracketed (nat_lt m k) ks ++ (Sign s ∷ bracketed (nat_lt n (k + 1)) ls)
spelled_by (Before w) k m n ks ls = Key w ∷ Sign sign.OpenParenthesis ∷ (ks ++ (Sign sign.Comma ∷ (ls ++ Sign sign.CloseParenthesis ∷ [])))

-- A left operand is to bind as tightly as its operator, a right operand more tightly.
abbrev mutual
  pub spell_expression : Expression → List Kind
  spell_expression (number at n) = Number n ∷ []
  spell_expression (truth at b) = spell_truth b ∷ []
  spell_expression (null at) = Key key.Nullptr ∷ []
  spell_expression (this at) = Key key.This ∷ []
  spell_expression (named at n) = Word n ∷ []
  spell_expression (call at n es) = Word n ∷ in_parentheses (spell_list es)
  spell_expression (field at e n) = bracketed (nat_lt (binds e) tail_level) (spell_expression e) ++ (Sign sign.Arrow ∷ Word n ∷ [])
  spell_expression (method at e n es) = bracketed (nat_lt (binds e) tail_level) (spell_expression e) ++ (Sign sign.Arrow ∷ Word n ∷ in_parentheses (spell_list es))
  spell_expression (index at e i) = bracketed (nat_lt (binds e) tail_level) (spell_expression e) ++ (Sign sign.OpenBracket ∷ (spell_expression i ++ Sign sign.CloseBracket ∷ []))
  spell_expression (unary at o e) = Sign (unary_sign o) ∷ bracketed (nat_lt (binds e) unary_level) (spell_expression e)
  spell_expression (binary at o a b) = spelled_by (writing o) (level o) (binds a) (binds b) (spell_expression a) (spell_expression b)

  -- with commas between them
  pub spell_list : Expressions → List Kind
  spell_list no_expressions = []
  spell_list (expression_and e es) = spell_expression e ++ spell_others es

  -- with a comma before each
  pub spell_others : Expressions → List Kind
  spell_others no_expressions = []
  spell_others (expression_and e es) = Sign sign.Comma ∷ (spell_expression e ++ spell_others es)

abbrev pub spell_type : TypeNode → List Kind
spell_type Long = Key key.Long ∷ []
spell_type BoolType = Key key.Bool ∷ []
spell_type (Pointer name at) = Word name ∷ Sign sign.Times ∷ []

-- a creation is written with `( )`
abbrev pub spell_right : RightSide → List Kind
spell_right (value e) = spell_expression e
spell_right (new name at) = Key key.New ∷ Word name ∷ in_parentheses []

abbrev pub spell_start : Option RightSide → List Kind
spell_start None = []
spell_start (Some r) = Sign sign.Assign ∷ spell_right r

-- a declaration or an assignment without its `;`
abbrev pub spell_header : Statement → List Kind
spell_header (local at ty name name_at v) = spell_type ty ++ (Word name ∷ spell_start v)
spell_header (assign at target o r) = spell_expression target ++ (Sign (assign_sign o) ∷ spell_right r)
spell_header other = []

abbrev pub in_braces : List Kind → List Kind
in_braces ks = Sign sign.OpenBrace ∷ (ks ++ Sign sign.CloseBrace ∷ [])

abbrev pub ended : List Kind → List Kind
ended ks = ks ++ Sign sign.Semicolon ∷ []

-- a key word and an expression in round brackets
abbrev pub condition : Keyword → Expression → List Kind
condition k e = Key k ∷ in_parentheses (spell_expression e)

-- the head of a `for`
abbrev pub spell_for : Statement → Expression → Statement → List Kind
spell_for first c next = Key key.For ∷ Sign sign.OpenParenthesis ∷ (ended (spell_header first) ++ (spell_expression c ++ (Sign sign.Semicolon ∷ (spell_header next ++ Sign sign.CloseParenthesis ∷ []))))

-- a statement with no other inside
abbrev pub spell_line : Statement → List Kind
spell_line (empty at) = Sign sign.Semicolon ∷ []
spell_line (local at ty name name_at v) = ended (spell_header (local at ty name name_at v))
spell_line (assign at target o r) = ended (spell_header (assign at target o r))
spell_line (call_statement at e) = ended (spell_expression e)
spell_line (return_value at e) = Key key.Return ∷ ended (spell_expression e)
spell_line (print_value at e) = ended (condition key.Print e)
spell_line other = []

abbrev mutual
  pub spell_statement : Statement → List Kind
  spell_statement (block at ss) = in_braces (spell_statements ss)
  spell_statement (if_only at c s) = condition key.If c ++ spell_statement s
  spell_statement (if_else at c s t) = condition key.If c ++ (spell_statement s ++ (Key key.Else ∷ spell_statement t))
  spell_statement (while_loop at c s) = condition key.While c ++ spell_statement s
  spell_statement (for_loop at first c next s) = spell_for first c next ++ spell_statement s
  spell_statement other = spell_line other

  pub spell_statements : Statements → List Kind
  spell_statements no_statements = []
  spell_statements (statement_and s ss) = spell_statement s ++ spell_statements ss

abbrev pub spell_length : Option ℤ → List Kind
spell_length None = []
spell_length (Some n) = Sign sign.OpenBracket ∷ Number n ∷ Sign sign.CloseBracket ∷ []

-- one field
abbrev pub spell_field : FieldNode → List Kind
spell_field f = spell_type f.ty ++ (Word f.name ∷ ended (spell_length f.length))

abbrev pub spell_result : Option TypeNode → List Kind
spell_result None = Key key.Void ∷ []
spell_result (Some ty) = spell_type ty

abbrev pub spell_param : ParamNode → List Kind
spell_param p = spell_type p.ty ++ (Word p.name ∷ [])

-- with a comma before each
abbrev pub spell_other_params : List ParamNode → List Kind
spell_other_params [] = []
spell_other_params (p ∷ ps) = Sign sign.Comma ∷ (spell_param p ++ spell_other_params ps)

-- with commas between them
abbrev pub spell_params : List ParamNode → List Kind
spell_params [] = []
spell_params (p ∷ ps) = spell_param p ++ spell_other_params ps

abbrev pub spell_method : MethodTree → List Kind
spell_method m = spell_result m.result ++ (Word m.name ∷ (in_parentheses (spell_params m.params) ++ in_braces (spell_statements m.body)))

abbrev pub spell_member : MemberTree → List Kind
spell_member (field_member f) = spell_field f
spell_member (method_member m) = spell_method m

abbrev pub spell_members : List MemberTree → List Kind
spell_members [] = []
spell_members (m ∷ ms) = spell_member m ++ spell_members ms

abbrev pub spell_class : ClassTree → List Kind
spell_class c = Key key.Class ∷ Word c.name ∷ ended (in_braces (Key key.Public ∷ Sign sign.Colon ∷ spell_members c.members))

abbrev pub spell_classes : List ClassTree → List Kind
spell_classes [] = []
spell_classes (c ∷ cs) = spell_class c ++ spell_classes cs

abbrev pub is_zero : Expression → Bool
is_zero (number at n) = int_eq n (pos 0)
is_zero other = false

-- whether it is `return` of the number 0
abbrev pub returns_zero : Statement → Bool
returns_zero (return_value at e) = is_zero e
returns_zero other = false

-- whether the last of the statements is
abbrev pub ends_in_zero : Statements → Bool
ends_in_zero no_statements = false
ends_in_zero (statement_and s no_statements) = returns_zero s
ends_in_zero (statement_and s (statement_and t ss)) = ends_in_zero (statement_and t ss)

-- The optional end of `main` stands where its last statement is itself a `return` of the number 0.
abbrev pub spell_end : Bool → List Kind
spell_end false = []
spell_end true = Key key.Return ∷ Number (pos 0) ∷ Sign sign.Semicolon ∷ []

abbrev pub spell_main : Statements → List Kind
spell_main ss = Key key.Int ∷ Key key.Main ∷ (in_parentheses [] ++ in_braces (spell_statements ss ++ spell_end (ends_in_zero ss)))

abbrev pub spell : TextTree → List Kind
spell t = spell_classes t.classes ++ spell_main t.main

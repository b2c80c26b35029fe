-- Canonical texts of some trees.
use Rattle.std.proofs.Common.{◌≡◌, List, [], ◌∷◌, refl}
use Rattle.std.specs.Prelude.{codes, pos, Option, Some, None}
use Rattle.std.specs.Fmt.{digits}
use Rattle.ca_tree.specs.declared.tree.TypeNode.TheVariants.{Long, Pointer}
use Rattle.ca_tree.specs.declared.tree.AssignOp.TheVariants.{Add}
use Rattle.ca_tree.specs.declared.tree.BinaryOp.TheVariants.{Plus, Minus, Times, Less, Equal, BitAnd, BitOr, BitXor, Max, Min}
use Rattle.ca_tree.specs.declared.tree.UnaryOp.TheVariants as unary_op
use Rattle.ca_tree.specs.Plain.{Expression, Statement, TextTree, number, named, call, field, method, index, unary, binary, no_expressions, expression_and, value, new, empty, block, local, assign, call_statement, if_only, if_else, return_value, no_statements, statement_and, field_member, method_member}
use Rattle.ca_tree.specs.declared.name.Place.{Place}
use Rattle.ca_canonical.specs.declared.marks.Mark.{Mark}
use Rattle.ca_canonical.specs.declared.marks.Mark.TheVariants.{Lock, Unlock, Spawn, Parallel}
use Rattle.ca_canonical.specs.Marks.{Marking}
use Rattle.ca_canonical.specs.Annotated.{annotated}
use Rattle.ca_canonical.specs.Texts.{text_of, text_of_pieces}
use Rattle.ca_canonical.specs.Spell.{spell, spell_expression, spell_statement}
use Rattle.ca_canonical.specs.Bare.{nowhere}

abbrev a : Expression
a = named nowhere (codes "a")

abbrev b : Expression
b = named nowhere (codes "b")

abbrev c : Expression
c = named nowhere (codes "c")

left_operands_alike : text_of (spell_expression (binary nowhere Minus (binary nowhere Minus a b) c)) ≡ codes "a - b - c "
left_operands_alike = refl

right_operands_alike : text_of (spell_expression (binary nowhere Minus a (binary nowhere Minus b c))) ≡ codes "a - ( b - c ) "
right_operands_alike = refl

binds_less : text_of (spell_expression (binary nowhere Times (binary nowhere Plus a b) (binary nowhere Less a c))) ≡ codes "( a + b ) * ( a < c ) "
binds_less = refl

binds_more : text_of (spell_expression (binary nowhere Plus (binary nowhere Times a b) (binary nowhere Times b c))) ≡ codes "a * b + b * c "
binds_more = refl

under_unary : text_of (spell_expression (unary nowhere unary_op.Not (unary nowhere unary_op.Not (binary nowhere Less a b)))) ≡ codes "! ! ( a < b ) "
under_unary = refl

-- a key word before its sides with its brackets is an operand without an operator ..
key_word_before : text_of (spell_expression (binary nowhere Times (binary nowhere Max (binary nowhere Plus a b) (binary nowhere Min b c)) c)) ≡ codes "max ( a + b , min ( b , c ) ) * c "
key_word_before = refl

key_word_under_unary : text_of (spell_expression (unary nowhere unary_op.Minus (binary nowhere Max a b))) ≡ codes "- max ( a , b ) "
key_word_under_unary = refl

-- .. but has brackets round it before a tail
key_word_before_arrow : text_of (spell_expression (field nowhere (binary nowhere Max a b) (codes "f"))) ≡ codes "( max ( a , b ) ) -> f "
key_word_before_arrow = refl

key_word_before_index : text_of (spell_expression (index nowhere (binary nowhere Max a b) c)) ≡ codes "( max ( a , b ) ) [ c ] "
key_word_before_index = refl

bits_bind_less : text_of (spell_expression (binary nowhere BitAnd a (binary nowhere Equal b c))) ≡ codes "a & b == c "
bits_bind_less = refl

bits_by_level : text_of (spell_expression (binary nowhere BitAnd (binary nowhere BitOr a b) (binary nowhere BitXor b c))) ≡ codes "( a | b ) & ( b ^ c ) "
bits_by_level = refl

before_tails : text_of (spell_expression (index nowhere (field nowhere (unary nowhere unary_op.Minus a) (codes "f")) (number nowhere (pos 1)))) ≡ codes "( - a ) -> f [ 1 ] "
unfolding digits
before_tails = refl

literal_before_tail : text_of (spell_expression (index nowhere (number nowhere (pos 1)) a)) ≡ codes "( 1 ) [ a ] "
unfolding digits
literal_before_tail = refl

-- an `else` belongs to the nearest `if`
nearest_if : text_of (spell_statement (if_only nowhere a (if_else nowhere b (empty nowhere) (block nowhere no_statements)))) ≡ codes "if ( a ) if ( b ) ;\nelse {\n}\n"
nearest_if = refl

abbrev main_of : Statement → TextTree
main_of s = record { classes = []; main = statement_and s no_statements }

returns_one : text_of (spell (main_of (return_value nowhere (number nowhere (pos 1))))) ≡ codes "int main ( ) {\nreturn 1 ;\n}\n"
unfolding digits
returns_one = refl

-- a last `return 0 ;` is written twice
returns_zero : text_of (spell (main_of (return_value nowhere (number nowhere (pos 0))))) ≡ codes "int main ( ) {\nreturn 0 ;\nreturn 0 ;\n}\n"
unfolding digits
returns_zero = refl

block_before_empty : text_of (spell (record { classes = []; main = statement_and (block nowhere no_statements) (statement_and (empty nowhere) no_statements) })) ≡ codes "int main ( ) {\n{\n} ;\n}\n"
block_before_empty = refl

abbrev call_add : Expression → Statement
call_add e = call_statement nowhere (call nowhere (codes "add") (expression_and e no_expressions))

abbrev v : Expression
v = named nowhere (codes "v")

-- class A { public: long n; void add(long v) { n += v; } void two(long v) { add(v); add(v + 1); } };
-- int main() { A *a = new A(); a->two(3); }
abbrev two_adds : TextTree
two_adds = record {
  classes = record {
    name = codes "A";
    at = nowhere;
    members = field_member (record { ty = Long; name = codes "n"; at = nowhere; length = None })
        ∷ method_member (record { result = None; name = codes "add"; at = nowhere; params = record { ty = Long; name = codes "v"; at = nowhere } ∷ []; body = statement_and (assign nowhere (named nowhere (codes "n")) Add (value v)) no_statements })
        ∷ method_member (record { result = None; name = codes "two"; at = nowhere; params = record { ty = Long; name = codes "v"; at = nowhere } ∷ []; body = statement_and (call_add v) (statement_and (call_add (binary nowhere Plus v (number nowhere (pos 1)))) no_statements) })
        ∷ [];
  } ∷ [];
  main = statement_and (local nowhere (Pointer (codes "A") nowhere) (codes "a") nowhere (Some (new (codes "A") nowhere)))
      (statement_and (call_statement nowhere (method nowhere a (codes "two") (expression_and (number nowhere (pos 3)) no_expressions))) no_statements);
}

two_adds_text : text_of (spell two_adds) ≡ codes "class A {\npublic :\nlong n ;\nvoid add ( long v ) {\nn += v ;\n}\nvoid two ( long v ) {\nadd ( v ) ;\nadd ( v + 1 ) ;\n}\n} ;\nint main ( ) {\nA * a = new A ( ) ;\na -> two ( 3 ) ;\n}\n"
unfolding digits
two_adds_text = refl

-- marks before calls, in the body of a method but where another call stands in front, and in `main`
abbrev before_calls : Option Place → Option Statement → Statement → List Mark
before_calls (Some at) (Some (call_statement at1 e1)) (call_statement at2 e) = []
before_calls (Some at) front (call_statement at2 e) = Unlock ∷ Spawn ∷ []
before_calls None front (call_statement at2 e) = Parallel ∷ []
before_calls body front other = []

abbrev some_marks : Marking
some_marks = record { before = before_calls; opening = λ at. Lock ∷ []; closing = λ at. Unlock ∷ [] }

two_adds_marked : text_of_pieces (annotated some_marks two_adds) ≡ codes "class A {\npublic :\nlong n ;\nvoid add ( long v ) {\n/*@lock*/ n += v ;\n/*@unlock*/ }\nvoid two ( long v ) {\n/*@lock*/ /*@unlock*/ /*@spawn*/ add ( v ) ;\nadd ( v + 1 ) ;\n/*@unlock*/ }\n} ;\nint main ( ) {\nA * a = new A ( ) ;\n/*@parallel*/ a -> two ( 3 ) ;\n}\n"
unfolding digits
two_adds_marked = refl

-- Worked examples: the first program, from its bytes to what its run writes, summaries, and refusals.
use Rattle.std.proofs.Common.{◌≡◌, ℕ, List, [], ◌∷◌, Some, None, refl, codes, drop}
use Rattle.std.specs.Prelude.{pos, negsuc, true}
use Rattle.std.specs.Fmt.{digits}
use Rattle.std.specs.Int.{int_wrap}
use Rattle.ca_tree.specs.declared.name.Place.{Place}
use Rattle.ca_tree.specs.declared.token.Kind.TheVariants.{Word, Key, Sign}
use Rattle.ca_tree.specs.declared.token.Keyword.TheVariants.{Class}
use Rattle.ca_tree.specs.declared.token.Sign.TheVariants.{OpenBrace}
use Rattle.ca_tree.specs.declared.tree.TypeNode.TheVariants.{Long, Pointer}
use Rattle.ca_tree.specs.declared.tree.AssignOp.TheVariants.{Put}
use Rattle.ca_tree.specs.declared.tree.BinaryOp.TheVariants.{Plus}
use Rattle.ca_tree.specs.Plain.{TextTree, number, named, method, binary, no_expressions, expression_and, value, new, local, assign, call_statement, no_statements, statement_and, field_member, method_member}
use Rattle.ca_program.specs.declared.program.ClassId.{ClassId}
use Rattle.ca_program.specs.declared.program.FieldId.{FieldId}
use Rattle.ca_program.specs.declared.program.OpId.{OpId}
use Rattle.ca_program.specs.declared.program.LocalId.{LocalId}
use Rattle.ca_program.specs.declared.program.ValueType.TheVariants.{Long as LongType, Pointer as PointerType}
use Rattle.ca_program.specs.Plain as program
use Rattle.ca_model.specs.declared.value.Value.TheVariants.{Long as Number, Bool as Truth, Ref}
use Rattle.ca_model.specs.declared.value.Slot.TheVariants.{One, Many}
use Rattle.ca_model.specs.declared.value.Object.{Object}
use Rattle.ca_lex.specs.Pieces.{piece_of, token_of, blank_of}
use Rattle.ca_resolve.specs.Judged.{fine}
use Rattle.ca_types.specs.Classes.{judge}
use Rattle.ca_meaning.specs.Output.{output}
use Rattle.ca_app.specs.Accepted.{token_place}
use Rattle.ca_app.specs.Refusals.{refusal_reply}
use Rattle.ca_app.specs.Summary.{total_of, summary_text}
use Rattle.ca_app.specs.Verified.{at_line, nowhere, no_reply}

text : List ℕ
text = codes "class Acc {\npublic:\n  long sum;\n  Acc *peer;\n  void add(long p) { sum = sum + p; }\n  void tie(Acc *q) { peer = q; }\n};\nint main() {\n  Acc *a = new Acc();\n  Acc *b = new Acc();\n  a->add(3);\n  b->add(4);\n  a->tie(b);\n  a->add(5);\n  return 0;\n}\n"

-- its first tokens
first_piece : piece_of text ≡ token_of 5 (Key Class)
unfolding text piece_of
first_piece = refl

second_piece : piece_of (drop 5 text) ≡ blank_of 1
unfolding text piece_of
second_piece = refl

third_piece : piece_of (drop 6 text) ≡ token_of 3 (Word (codes "Acc"))
unfolding text piece_of
third_piece = refl

fourth_piece : piece_of (drop 10 text) ≡ token_of 1 (Sign OpenBrace)
unfolding text piece_of
fourth_piece = refl

-- its tree
abbrev place : ℕ → ℕ → Place
place line column = record { line = line; column = column }

abbrev tree : TextTree
tree = record {
  classes = record {
    name = codes "Acc";
    at = place 1 7;
    members =
        field_member (record { ty = Long; name = codes "sum"; at = place 3 8; length = None })
        ∷ field_member (record { ty = Pointer (codes "Acc") (place 4 3); name = codes "peer"; at = place 4 8; length = None })
        ∷ method_member (record {
          result = None;
          name = codes "add";
          at = place 5 8;
          params = record { ty = Long; name = codes "p"; at = place 5 17 } ∷ [];
          body = statement_and (assign (place 5 22) (named (place 5 22) (codes "sum")) Put
              (value (binary (place 5 32) Plus (named (place 5 28) (codes "sum")) (named (place 5 34) (codes "p"))))) no_statements;
        })
        ∷ method_member (record {
          result = None;
          name = codes "tie";
          at = place 6 8;
          params = record { ty = Pointer (codes "Acc") (place 6 12); name = codes "q"; at = place 6 17 } ∷ [];
          body = statement_and (assign (place 6 22) (named (place 6 22) (codes "peer")) Put (value (named (place 6 29) (codes "q")))) no_statements;
        })
        ∷ [];
  } ∷ [];
  main =
      statement_and (local (place 9 3) (Pointer (codes "Acc") (place 9 3)) (codes "a") (place 9 8) (Some (new (codes "Acc") (place 9 16))))
      (statement_and (local (place 10 3) (Pointer (codes "Acc") (place 10 3)) (codes "b") (place 10 8) (Some (new (codes "Acc") (place 10 16))))
      (statement_and (call_statement (place 11 3) (method (place 11 4) (named (place 11 3) (codes "a")) (codes "add") (expression_and (number (place 11 10) (pos 3)) no_expressions)))
      (statement_and (call_statement (place 12 3) (method (place 12 4) (named (place 12 3) (codes "b")) (codes "add") (expression_and (number (place 12 10) (pos 4)) no_expressions)))
      (statement_and (call_statement (place 13 3) (method (place 13 4) (named (place 13 3) (codes "a")) (codes "tie") (expression_and (named (place 13 10) (codes "b")) no_expressions)))
      (statement_and (call_statement (place 14 3) (method (place 14 4) (named (place 14 3) (codes "a")) (codes "add") (expression_and (number (place 14 10) (pos 5)) no_expressions)))
      no_statements)))));
}

-- the numbers of its class, its fields, its operations, and of the first and the second local of a body
abbrev class : ClassId
class = record { 0 = 0 }

abbrev sum : FieldId
sum = record { class = class; field = 0 }

abbrev peer : FieldId
peer = record { class = class; field = 1 }

abbrev add : OpId
add = record { 0 = 0 }

abbrev tie : OpId
tie = record { 0 = 1 }

abbrev a : LocalId
a = record { 0 = 0 }

abbrev b : LocalId
b = record { 0 = 1 }

abbrev first_program : program.PlainProgram
first_program = record {
  classes = record {
    name = codes "Acc";
    fields = record { name = codes "sum"; ty = LongType; length = None } ∷ record { name = codes "peer"; ty = PointerType class; length = None } ∷ [];
  } ∷ [];
  ops = record {
    class = class;
    name = codes "add";
    params = 1;
    body = record {
      locals = LongType ∷ [];
      statements = program.statement_and (program.put_field 5 sum Put (program.binary Plus (program.own sum) (program.local a))) program.no_statements;
    };
    result = None;
  } ∷ record {
    class = class;
    name = codes "tie";
    params = 1;
    body = record {
      locals = PointerType class ∷ [];
      statements = program.statement_and (program.put_field 6 peer Put (program.local a)) program.no_statements;
    };
    result = None;
  } ∷ [];
  functions = [];
  main = record {
    locals = PointerType class ∷ PointerType class ∷ [];
    statements =
        program.statement_and (program.new_local 9 a class)
        (program.statement_and (program.new_local 10 b class)
        (program.statement_and (program.invoke 11 (program.local a) add (program.expression_and (program.number (pos 3)) program.no_expressions))
        (program.statement_and (program.invoke 12 (program.local b) add (program.expression_and (program.number (pos 4)) program.no_expressions))
        (program.statement_and (program.invoke 13 (program.local a) tie (program.expression_and (program.local b) program.no_expressions))
        (program.statement_and (program.invoke 14 (program.local a) add (program.expression_and (program.number (pos 5)) program.no_expressions))
        program.no_statements)))));
  };
}

-- its program
resolves : judge tree ≡ fine first_program
resolves = refl

-- its run takes four steps
runs : output first_program 4 ≡ record { status = 0; bytes = codes "#0 Acc sum=8 peer=#1\n#1 Acc sum=4 peer=null\n" }
unfolding digits int_wrap
runs = refl

spends : output first_program 3 ≡ record { status = 4; bytes = codes "spent 3\n" }
unfolding digits int_wrap
spends = refl

-- what `load 0 1 1` leaves: a table of one node, whose value is 1 and whose sum is 3
abbrev one_node : List Object
one_node =
    record { class = record { 0 = 1 }; slots = Many (Ref 1 ∷ []) ∷ [] }
    ∷ record { class = class; slots = One (Truth true) ∷ One (Number (pos 1)) ∷ One (Number (pos 3)) ∷ One (Ref 1) ∷ One (Ref 1) ∷ [] } ∷ []

-- and what it tells after seven steps
loads_one_node : summary_text one_node 7 ≡ codes "load objects=2 steps=7 total=4\n"
unfolding digits int_wrap
loads_one_node = refl

-- items of arrays count, and sums wrap
wraps_items : total_of (record { class = class; slots = One (Number (pos 1)) ∷ Many (Number (pos 9223372036854775806) ∷ Number (pos 1) ∷ []) ∷ [] } ∷ []) ≡ negsuc 9223372036854775807
unfolding int_wrap
wraps_items = refl

-- refusals
overflow : refusal_reply (place 1 23) 2 ≡ record { status = 1; bytes = codes "error 1:23 E02\n" }
unfolding digits
overflow = refl

overlong : refusal_reply (place 0 0) 4 ≡ record { status = 8; bytes = codes "limit 0:0 E04\n" }
unfolding digits
overlong = refl

nested : refusal_reply (place 1 212) 11 ≡ record { status = 8; bytes = codes "limit 1:212 E11\n" }
unfolding digits
nested = refl

mistyped : refusal_reply (place 1 23) 25 ≡ record { status = 1; bytes = codes "error 1:23 E25\n" }
unfolding digits
mistyped = refl

crowded : refusal_reply (place 257 7) 50 ≡ record { status = 8; bytes = codes "limit 257:7 E50\n" }
unfolding digits
crowded = refl

-- a text without tokens is refused behind its last byte
end : token_place (codes "\n") [] 0 ≡ place 2 1
end = refl

-- ---- what `verify` tells

-- the seventh line behind the first one of a schedule is its eighth
a_bad_line : no_reply 6 ≡ record { status = 9; bytes = codes "no 8\n" }
unfolding digits
a_bad_line = refl

an_ill_formed_line : refusal_reply (at_line 3) 61 ≡ record { status = 1; bytes = codes "error 3:1 E61\n" }
unfolding digits
an_ill_formed_line = refl

no_schedule : refusal_reply nowhere 60 ≡ record { status = 1; bytes = codes "error 0:0 E60\n" }
unfolding digits
no_schedule = refl

-- Worked examples of what a small tree resolves to, and of the violations in it.
--
--     1 class A {
--     2 public:
--     3   long s;
--     4   void add(long p) {
--     5     s = s + p;
--     6   }
--     7 };
--     8 int main() {
--     9   A *a = new A();
--    10   a->add(3);
--    11 }
use Rattle.std.proofs.Common.{◌≡◌, ℕ, true, false, List, [], ◌∷◌, Some, None, pos, refl}
use Rattle.ca_tree.specs.declared.name.Place.{Place}
use Rattle.ca_tree.specs.declared.tree.TypeNode.TheVariants.{Long, Bool, Pointer}
use Rattle.ca_tree.specs.declared.tree.AssignOp.TheVariants.{Put, Add, BitOr}
use Rattle.ca_tree.specs.declared.tree.BinaryOp.TheVariants.{Plus, Less}
use Rattle.ca_tree.specs.Plain.{TextTree, MemberTree, Statement, Expression, Expressions, number, truth, null, named, method, binary, no_expressions, expression_and, value, new, empty, block, local, assign, call_statement, if_else, for_loop, return_value, no_statements, statement_and, field_member, method_member}
use Rattle.ca_program.specs.declared.program.ValueType.TheVariants.{Long as LongValue, Pointer as PointerTo}
use Rattle.ca_program.specs.declared.program.FirstPart.TheVariants.{Declares}
use Rattle.ca_program.specs.Plain as program
use Rattle.ca_resolve.specs.Judged.{fine}
use Rattle.ca_types.specs.Rules.{last_returns}
use Rattle.ca_types.specs.Classes.{judge, Violations}

abbrev place : ℕ → ℕ → Place
place line column = record { line = line; column = column }

abbrev field_s : MemberTree
field_s = field_member (record { ty = Long; name = 115 ∷ []; at = place 3 8; length = None })

-- `void add(long p) { s = VALUE; }`
abbrev method_add : Expression → MemberTree
method_add e =
    method_member (record {
      result = None;
      name = 97 ∷ 100 ∷ 100 ∷ [];
      at = place 4 8;
      params = record { ty = Long; name = 112 ∷ []; at = place 4 17 } ∷ [];
      body = statement_and (assign (place 5 5) (named (place 5 5) (115 ∷ [])) Put (value e)) no_statements;
    })

abbrev s_plus_p : Expression
s_plus_p = binary (place 5 11) Plus (named (place 5 9) (115 ∷ [])) (named (place 5 13) (112 ∷ []))

-- `class A { public: long s; void add(long p) { s = VALUE; } }; int main() { A *a = new NAME(); a->add(ARGUMENTS); }`
abbrev text : Expression → List ℕ → Expressions → TextTree
text e name args =
    record {
      classes = record { name = 65 ∷ []; at = place 1 7; members = field_s ∷ method_add e ∷ [] } ∷ [];
      main =
          statement_and (local (place 9 3) (Pointer (65 ∷ []) (place 9 3)) (97 ∷ []) (place 9 6) (Some (new name (place 9 14))))
          (statement_and (call_statement (place 10 3) (method (place 10 4) (named (place 10 3) (97 ∷ [])) (97 ∷ 100 ∷ 100 ∷ []) args)) no_statements);
    }

abbrev three : Expressions
three = expression_and (number (place 10 10) (pos 3)) no_expressions

-- it resolves: names are numbers, and each statement has its line
whole_text : judge (text s_plus_p (65 ∷ []) three)
    ≡ fine (record {
      classes = record { name = 65 ∷ []; fields = record { name = 115 ∷ []; ty = LongValue; length = None } ∷ [] } ∷ [];
      ops = record {
        class = record { 0 = 0 };
        name = 97 ∷ 100 ∷ 100 ∷ [];
        params = 1;
        body = record {
          locals = LongValue ∷ [];
          statements = program.statement_and (program.put_field 5 (record { class = record { 0 = 0 }; field = 0 }) Put (program.binary Plus (program.own (record { class = record { 0 = 0 }; field = 0 })) (program.local (record { 0 = 0 })))) program.no_statements;
        };
        result = None;
      } ∷ [];
      functions = [];
      main = record {
        locals = PointerTo (record { 0 = 0 }) ∷ [];
        statements =
            program.statement_and (program.new_local 9 (record { 0 = 0 }) (record { 0 = 0 }))
            (program.statement_and (program.invoke 10 (program.local (record { 0 = 0 })) (record { 0 = 0 }) (program.expression_and (program.number (pos 3)) program.no_expressions)) program.no_statements);
      };
    })
whole_text = refl

-- `new B()`: no such class
undefined_class : Violations (text s_plus_p (66 ∷ []) three) ≡ record { at = place 9 14; code = 21 } ∷ []
undefined_class = refl

-- `a->add()`: an argument is missing
argument_missing : Violations (text s_plus_p (65 ∷ []) no_expressions) ≡ record { at = place 10 4; code = 26 } ∷ []
argument_missing = refl

-- `s = nullptr` and `a->add(b)`: both are given
two_violations : Violations (text (null (place 5 9)) (65 ∷ []) (expression_and (named (place 10 10) (98 ∷ [])) no_expressions))
    ≡ record { at = place 5 9; code = 25 } ∷ record { at = place 10 10; code = 24 } ∷ []
two_violations = refl

-- a `main` of statements alone
abbrev main_of : Statement → Statement → TextTree
main_of s t = record { classes = []; main = statement_and s (statement_and t no_statements) }

abbrev x : List ℕ
x = 120 ∷ []

-- `{ long x; } x = 1;`: the local isn't seen behind its block
behind_its_block : Violations (main_of (block (place 1 1) (statement_and (local (place 1 3) Long x (place 1 8) None) no_statements)) (assign (place 1 13) (named (place 1 13) x) Put (value (number (place 1 17) (pos 1)))))
    ≡ record { at = place 1 13; code = 24 } ∷ []
behind_its_block = refl

-- `long x; long x = x;`: the second stands in the block of the first, whose value it sees
declared_twice : Violations (main_of (local (place 1 1) Long x (place 1 6) None) (local (place 1 9) Long x (place 1 14) (Some (value (named (place 1 18) x)))))
    ≡ record { at = place 1 14; code = 23 } ∷ []
declared_twice = refl

-- `bool x; x |= 1;`: a compound assignment is to a number
truth_target : Violations (main_of (local (place 1 1) Bool x (place 1 6) None) (assign (place 1 9) (named (place 1 9) x) BitOr (value (number (place 1 14) (pos 1)))))
    ≡ record { at = place 1 9; code = 25 } ∷ []
truth_target = refl

-- `;` and `for (long x; x < 3; x += 1) ;`: the loop is the first, and declares its local, which begins at 0
loop : judge (main_of (empty (place 1 1))
    (for_loop (place 1 3) (local (place 1 8) Long x (place 1 13) None) (binary (place 1 18) Less (named (place 1 16) x) (number (place 1 20) (pos 3))) (assign (place 1 23) (named (place 1 23) x) Add (value (number (place 1 28) (pos 1)))) (empty (place 1 31))))
    ≡ fine (record {
      classes = [];
      ops = [];
      functions = [];
      main = record {
        locals = LongValue ∷ [];
        statements =
            program.statement_and (program.block 1 program.no_statements)
            (program.statement_and (program.for_loop 1 (record { 0 = 0 }) Declares (program.put_local 1 (record { 0 = 0 }) Put (program.number (pos 0))) (program.binary Less (program.local (record { 0 = 0 })) (program.number (pos 3)))
            (program.put_local 1 (record { 0 = 0 }) Add (program.number (pos 1))) (program.block 1 program.no_statements)) program.no_statements);
      };
    })
loop = refl

-- `if (true) return 1; else { return 1; }` returns, and `{ return 1; ; }` doesn't
abbrev return_one : Statement
return_one = return_value (place 1 1) (number (place 1 8) (pos 1))

both_branches_return : last_returns (statement_and (if_else (place 1 1) (truth (place 1 5) true) return_one (block (place 1 20) (statement_and return_one no_statements))) no_statements) ≡ true
both_branches_return = refl

empty_at_the_end : last_returns (statement_and return_one (statement_and (empty (place 1 11)) no_statements)) ≡ false
empty_at_the_end = refl

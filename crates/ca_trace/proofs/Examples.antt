-- Worked examples: the schedule of a small program, its text, and lines that go wrong.
use Rattle.std.proofs.Common.{◌≡◌, ℕ, List, [], ◌∷◌, ◌++◌, None, inl, refl, codes, pos}
use Rattle.std.specs.Int.{int_wrap}
use Rattle.std.specs.Fmt.{digits}
use Rattle.ca_lists.proofs.Places.{heads, tails}
use Rattle.ca_tree.specs.declared.tree.AssignOp.TheVariants.{Add}
use Rattle.ca_program.specs.declared.program.ValueType.TheVariants.{Long, Pointer}
use Rattle.ca_program.specs.declared.program.ClassId.{ClassId}
use Rattle.ca_program.specs.declared.program.FieldId.{FieldId}
use Rattle.ca_program.specs.declared.program.OpId.{OpId}
use Rattle.ca_program.specs.Plain.{PlainProgram, PlainMethod, Expression, number, this, local, no_expressions, expression_and, Statement, Statements, put_field, new_local, invoke, no_statements, statement_and}
use Rattle.ca_model.specs.declared.value.Value.TheVariants.{Long as Number, Null, Ref}
use Rattle.ca_model.specs.declared.value.Slot.TheVariants.{One}
use Rattle.ca_model.specs.declared.value.Trap.{Trap}
use Rattle.ca_model.specs.declared.value.TrapKind.TheVariants.{NullPointer}
use Rattle.ca_model.specs.declared.value.Object.{Object}
use Rattle.ca_meaning.specs.Expressions.{Invocation, invocation}
use Rattle.ca_meaning.specs.Serial.{Note}
use Rattle.ca_parallel.specs.declared.op.Op.{Op}
use Rattle.ca_parallel.specs.Lists.{PlainMarks, note, lists}
use Rattle.ca_order_laws.specs.Pending.{PendingRun, rests, runs}
use Rattle.ca_trace.specs.declared.line.Line.{Line}
use Rattle.ca_trace.specs.declared.line.Line.TheVariants.{Block, End, Step, Declined, Done, Trapped, Spent, Close}
use Rattle.ca_trace.specs.Lines.{LinesOf, ran, LinesOfAll, of_none, of_more, last_lines, Follows}
use Rattle.ca_trace.specs.Bad.{FirstBad, at_line, at_end, Begins}
use Rattle.ca_trace.specs.Texts.{line_text, schedule_text, HasHeader}

-- class A { public: long n; void add(long x) { n += x; } void twice(long x) { add(x); add(x); } };
abbrev class_a : ClassId
class_a = record { 0 = 0 }

abbrev n : FieldId
n = record { class = class_a; field = 0 }

abbrev add : OpId
add = record { 0 = 0 }

abbrev twice : OpId
twice = record { 0 = 1 }

abbrev method : List ℕ → Statements → PlainMethod
method name statements = record { class = class_a; name = name; params = 1; body = record { locals = Long ∷ []; statements = statements }; result = None }

abbrev x : Expression
x = local (record { 0 = 0 })

abbrev add_x : Statement
add_x = invoke 2 this add (expression_and x no_expressions)

-- int main() { A *a = new A(); a->twice(3); }
abbrev program : PlainProgram
program = record {
  classes = record { name = codes "A"; fields = record { name = codes "n"; ty = Long; length = None } ∷ [] } ∷ [];
  ops = method (codes "add") (statement_and (put_field 1 n Add x) no_statements)
      ∷ method (codes "twice") (statement_and add_x (statement_and add_x no_statements))
      ∷ [];
  functions = [];
  main = record { locals = Pointer class_a ∷ []; statements = statement_and (new_local 3 (record { 0 = 0 }) class_a) (statement_and (invoke 4 (local (record { 0 = 0 })) twice (expression_and (number (pos 3)) no_expressions)) no_statements) };
}

-- the call of `twice` is marked
abbrev marks : PlainMarks
marks = record { ops = twice ∷ []; loops = [] }

abbrev object : ℕ → Object
object m = record { class = class_a; slots = One (Number (pos m)) ∷ [] }

abbrev heap : ℕ → List Object
heap m = object m ∷ []

abbrev call : OpId → Op
call op = record { receiver = 0; op = op; args = Number (pos 3) ∷ [] }

abbrev of : OpId → Invocation
of op = invocation 0 op (Number (pos 3) ∷ [])

abbrev handed : Note
handed = note (heap 0) (of twice ∷ []) 10

one_list : lists program marks 10 ≡ handed ∷ []
unfolding int_wrap
one_list = refl

-- the call runs, and then the two that it lists
its_run : PendingRun program (heap 0) (heap 6) [] (of twice ∷ of add ∷ of add ∷ []) (heap 0) (of twice ∷ []) 3
unfolding int_wrap
its_run =
    runs (of twice) (of add ∷ of add ∷ []) (heap 0) (of twice ∷ []) [] (object 0) (record { object = object 0; listed = of add ∷ of add ∷ []; steps = 1 }) 2 (record { weighed = λ f. refl }) refl (10, refl)
    (runs (of add) (of add ∷ []) (heap 0) (of add ∷ of add ∷ []) (of add ∷ []) (object 0) (record { object = object 3; listed = []; steps = 1 }) 1 (record { weighed = λ f. refl }) refl (10, refl)
    (runs (of add) [] (heap 3) (of add ∷ []) [] (object 3) (record { object = object 6; listed = []; steps = 1 }) 0 (record { weighed = λ f. refl }) refl (10, refl)
    (rests [] (record { weighed = λ f. refl }))))

abbrev schedule : List Line
schedule = Block ∷ Step (call twice) ∷ Step (call add) ∷ Step (call add) ∷ End ∷ Done 3 ∷ Close ∷ []

-- the schedule follows the program
it_follows : Follows program marks 10 schedule
unfolding int_wrap
it_follows = record {
  front = Block ∷ Step (call twice) ∷ Step (call add) ∷ Step (call add) ∷ End ∷ [];
  of_lists = of_more handed [] (Block ∷ Step (call twice) ∷ Step (call add) ∷ Step (call add) ∷ End ∷ []) []
      (ran (call twice ∷ call add ∷ call add ∷ []) (heap 6) (heap 6) 3 3 (record { prints = []; left = 7; run = refl; taken = refl }) its_run) of_none;
  whole = refl;
}

-- its text
its_text : schedule_text program schedule ≡ codes "/*schedule\nblock\n#0 A::twice(3)\n#0 A::add(3)\n#0 A::add(3)\nend\ndone 3\n*/\n"
unfolding digits
its_text = refl

-- lines of other kinds
of_values : line_text program (Step (record { receiver = 12; op = add; args = Null ∷ Ref 7 ∷ [] })) ≡ codes "#12 A::add(null,#7)\n"
unfolding digits
of_values = refl

of_a_trap : line_text program (Trapped (record { line = 40; kind = NullPointer })) ≡ codes "trap 40 NullPointer\n"
unfolding digits
of_a_trap = refl

of_others : (line_text program Declined ≡ codes "declined\n") × (line_text program (Spent 5) ≡ codes "spent 5\n")
unfolding digits
of_others = (refl, refl)

-- ---- the first bad line

-- a run that took three steps isn't told by four: that line is the first bad one
too_many_steps : FirstBad (λ ls. ls ≡ Done 3 ∷ Close ∷ []) (Done 4 ∷ Close ∷ []) 0
too_many_steps = at_line [] (Done 4) (Close ∷ []) refl refl (record { more = Done 3 ∷ Close ∷ []; is = refl }) (λ b. let q : Done 4 ≡ Done 3 = heads b.is in cc)

-- lines that end too early have the number behind the last one
too_early : FirstBad (λ ls. ls ≡ Done 3 ∷ Close ∷ []) (Done 3 ∷ []) 1
too_early = at_end refl (record { more = Close ∷ []; is = refl }) (λ e. let q : [] ≡ Close ∷ [] = tails e in cc)

-- a first line without its line feed is one
alone : HasHeader (codes "/*schedule")
alone = inl refl

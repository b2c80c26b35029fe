-- A section whose statements are separable behind a call is the same on two objects with the constants of the extent, and
-- changes neither.
use Rattle.std.proofs.Common.{◌≡◌, ℕ, zero, suc, List, [], ◌∷◌, ◌++◌, Option, Some, None, refl, ap, sym, subst, ◌∙◌, false, true}
use Rattle.std.specs.Prelude.{slice_get, Contains}
use Rattle.ca_program.specs.declared.program.ClassId.{ClassId}
use Rattle.ca_program.specs.declared.program.FieldId.{FieldId}
use Rattle.ca_program.specs.declared.program.OpId.{OpId}
use Rattle.ca_program.specs.declared.program.ValueType.{ValueType}
use Rattle.ca_program.specs.declared.program.ValueType.TheVariants.{Long as LongType, Bool as BoolType, Pointer}
use Rattle.ca_program.specs.Plain.{PlainProgram, PlainMethod, Expression, Expressions, number, truth, null, this, local, own, own_item, read, read_item, value_call, unary, binary, no_expressions, expression_and, Statement, Statements, block, put_local, put_field, put_item, new_local, new_field, new_item, invoke, if_else, while_loop, for_loop, return_value, print_value, no_statements, statement_and}
use Rattle.ca_model.specs.declared.value.Value.{Value as Datum}
use Rattle.ca_model.specs.declared.value.Value.TheVariants.{Long, Bool as Truth, Null, Ref}
use Rattle.ca_model.specs.declared.value.Slot.{Slot}
use Rattle.ca_model.specs.declared.value.Trap.{Trap}
use Rattle.ca_model.specs.declared.value.Object.{Object}
use Rattle.ca_meaning.specs.Agree.{Agree}
use Rattle.ca_meaning.specs.Operators.{operated}
use Rattle.ca_meaning.specs.Expressions.{Out, gives, traps, over, ◌>>=◌, take_step, one_in, items_in, indexed, pointed, decided, unless_decided, answer, Calls, eval, eval_all, Invocation, due}
use Rattle.ca_meaning.specs.Flows.{Flow, goes_on, gives_back, stops, runs_out, and_on, with, choose, Parts, line_of, exec, exec_all, turn}
use Rattle.ca_meaning.specs.Functions.{body_of, locals_of, functions_of}
use Rattle.ca_meaning.specs.Sections.{Section, section_start, section_place, section_parts_with, section_parts, section_run, Again, loops, loops_of, sectioned}
use Rattle.ca_meaning.specs.WellTyped.{IsMethodOf}
use Rattle.ca_meaning.specs.ProgramTyped.{Scope, ExpressionTyped, ExpressionsTyped, StatementTyped, StatementsTyped, scope_of, MethodTyped, OperationTyped, ProgramTyped, signed_type}
use Rattle.ca_parallel.specs.Separable.{IsClean, AreClean, IsSeparated, AreSeparated}
use Rattle.ca_parallel.proofs.FreeBodies.{free_behind}
use Rattle.ca_order_laws.proofs.Likes.{then_both}
use Rattle.ca_order_laws.proofs.Kept.{IsKept, AreKept}
use Rattle.ca_order_laws.proofs.Sections.{body_kept}
use Rattle.ca_logs.specs.Laws.{leaving, FreeSections}

-- the same state with the slots of two objects
abbrev pub at : List Slot → List Invocation → Section
at slots is = record { own = slots; listed = is }

-- two flows end alike, one with one object's slots and the other with the other's
pub data Twins (o u : List Slot) : Flow Section → Flow Section → Type 0 where
  twins_go : (ls : List Datum) (is : List Invocation) (k : ℕ) → Twins o u (goes_on ls (at o is) k) (goes_on ls (at u is) k)
  twins_back : (v : Datum) (is : List Invocation) (k : ℕ) → Twins o u (gives_back v (at o is) k) (gives_back v (at u is) k)
  twins_stop : (t : Trap) (is : List Invocation) → Twins o u (stops t (at o is)) (stops t (at u is))
  twins_over : (is : List Invocation) → Twins o u (runs_out (at o is)) (runs_out (at u is))

module _ (o u : List Slot) where
  twins_with : {A : Type 0} (is : List Invocation) (a b : Out A) (f g : A → ℕ → Flow Section) → a ≡ b → ((v : A) (k : ℕ) → Twins o u (f v k) (g v k)) → Twins o u (with a (at o is) f) (with b (at u is) g)
  twins_with is a b f g e h = subst (λ z. Twins o u (with a (at o is) f) (with z (at u is) g)) e (from a)
    where
      from : (a : Out _) → Twins o u (with a (at o is) f) (with a (at u is) g)
      from (gives v k) = h v k
      from (traps t) = twins_stop t is
      from over = twins_over is

  twins_choose : (v : Datum) (a b c d : Flow Section) → Twins o u a b → Twins o u c d → Twins o u (choose v a c) (choose v b d)
  twins_choose (Truth true) a b c d x y = x
  twins_choose (Truth false) a b c d x y = y
  twins_choose (Long n) a b c d x y = y
  twins_choose (Ref n) a b c d x y = y
  twins_choose Null a b c d x y = y

  twins_on : (a b : Flow Section) (f g : List Datum → Section → ℕ → Flow Section) → Twins o u a b → ((ls : List Datum) (is : List Invocation) (k : ℕ) → Twins o u (f ls (at o is) k) (g ls (at u is) k)) → Twins o u (and_on a f) (and_on b g)
  twins_on a b f g (twins_go ls is k) h = h ls is k
  twins_on a b f g (twins_back v is k) h = twins_back v is k
  twins_on a b f g (twins_stop t is) h = twins_stop t is
  twins_on a b f g (twins_over is) h = twins_over is

  -- what two calls list
  twins_list : (ls : List Datum) (is : List Invocation) (i : Invocation) (k : ℕ) → Twins o u (goes_on ls (at o (is ++ i ∷ [])) k) (goes_on ls (at u (is ++ i ∷ [])) k)
  twins_list ls is i k = twins_go ls _ k

module _ (p : PlainProgram) (written : List FieldId) (h : List Object) (r : Datum) (s : Scope) (o u : List Slot)
    (same : (f : FieldId) → s.class ≡ Some f.class → ¬ Contains written f → slice_get o f.field ≡ slice_get u f.field) where
  abbrev c : Calls
  c = (functions_of p.functions h).call

  mutual
    value_same : (line : ℕ) (ls : List Datum) (e : Expression) (ty : ValueType) → ExpressionTyped p s e ty → IsClean p written true e → (k : ℕ) → eval c (section_place h r o line ls) e k ≡ eval c (section_place h r u line ls) e k
    value_same line ls (number n) ty t a k = refl
    value_same line ls (truth x) ty t a k = refl
    value_same line ls null ty t a k = refl
    value_same line ls this ty t a k = refl
    value_same line ls (local l) ty t a k = refl
    value_same line ls (own f) ty t a k = ap (λ z. gives (one_in z) k) (same f t.0 a)
    value_same line ls (own_item f i) ty t a k =
        then_both _ _ _ _ (value_same line ls i LongType t.2 a.1 k) (λ v k. ap (λ z. indexed line (items_in z) v k >>= λ item k. gives item.value k) (same f t.0 a.0))
    value_same line ls (read e f) ty t a k = then_both _ _ _ _ (value_same line ls e (Pointer f.class) t.0 a.1 k) (λ v k. refl)
    value_same line ls (read_item e f i) ty t a k =
        then_both _ _ _ _ (value_same line ls e (Pointer f.class) t.0 a.1 k)
        (λ v k. then_both (pointed line v k) (pointed line v k) _ _ refl (λ n k. then_both _ _ _ _ (value_same line ls i LongType t.2 a.2 k) (λ w k. refl)))
    value_same line ls (value_call e m es) ty t a k =
        then_both _ _ _ _ (value_same line ls e (Pointer t.0) t.3 a.1 k) (λ v k. then_both _ _ _ _ (values_same line ls es t.1 t.4 a.2 k) (λ vs k. refl))
    value_same line ls (unary op e) ty t a k = then_both _ _ _ _ (value_same line ls e (signed_type op) t.1 a k) (λ v k. refl)
    value_same line ls (binary op x y) ty t a k =
        then_both _ _ _ _ (value_same line ls x t.0 t.2 a.1 k) (λ v k. ap (λ z. unless_decided (decided op v) k (z >>= λ w k. answer line (operated op v w) k)) (value_same line ls y t.0 t.3 a.2 k))

    values_same : (line : ℕ) (ls : List Datum) (es : Expressions) (tys : List ValueType) → ExpressionsTyped p s es tys → AreClean p written true es → (k : ℕ) → eval_all c (section_place h r o line ls) es k ≡ eval_all c (section_place h r u line ls) es k
    values_same line ls no_expressions tys t a k = refl
    values_same line ls (expression_and e es) tys t a k = then_both _ _ _ _ (value_same line ls e t.0 t.3 a.0 k) (λ v k. then_both _ _ _ _ (values_same line ls es t.1 t.4 a.1 k) (λ vs k. refl))

  due_same : (line : ℕ) (ls : List Datum) (e : Expression) (op : OpId) (es : Expressions) (class : ClassId) (tys : List ValueType) → ExpressionTyped p s e (Pointer class) → ExpressionsTyped p s es tys → IsClean p written true e → AreClean p written true es → (k : ℕ) → due c (section_place h r o line ls) e op es k ≡ due c (section_place h r u line ls) e op es k
  due_same line ls e op es class tys t ts a w k = then_both _ _ _ _ (value_same line ls e (Pointer class) t a k) (λ v k. then_both _ _ _ _ (values_same line ls es tys ts w k) (λ vs k. refl))

  module _ (ops : List OpId) where
    abbrev AgainTwins : Again → Type 0
    AgainTwins a = (line : ℕ) (ls : List Datum) (is : List Invocation) (y : Statement) (k : ℕ) → StatementTyped p s y → IsSeparated p written true y → IsKept written ops y → Twins o u (a line ls (at o is) y k) (a line ls (at u is) y k)

    module _ (again : Again) (all : AgainTwins again) where
      abbrev q : Parts Section
      q = section_parts_with p h r again

      mutual
        exec_same : (y : Statement) → StatementTyped p s y → IsSeparated p written true y → IsKept written ops y → (line : ℕ) (ls : List Datum) (is : List Invocation) (k : ℕ) → Twins o u (exec q line ls (at o is) y k) (exec q line ls (at u is) y k)
        exec_same (block l ss) t a w line ls is k = all_exec_same ss t a w ls is k
        exec_same (put_local l i op e) t a w line ls is k = twins_with o u is _ _ _ _ (value_same line ls e t.0 t.2.1 a k) (λ v k. twins_go _ is k)
        exec_same (put_field l f op e) t a w line ls is k = absurd (a.0 w)
        exec_same (put_item l f i op e) t a w line ls is k = absurd (a.0 w)
        exec_same (invoke l e op es) t a w line ls is k = twins_with o u is _ _ _ _ (due_same line ls e op es t.0 t.1 t.4 t.5 a.0 a.1 k) (λ i k. twins_list o u ls is i k)
        exec_same (if_else l d x y) t a w line ls is k =
            twins_with o u is _ _ _ _ (value_same line ls d BoolType t.0 a.0 k) (λ v k. twins_choose o u v _ _ _ _ (exec_same x t.1 a.1 w.0 (line_of x) ls is k) (exec_same y t.2 a.2 w.1 (line_of y) ls is k))
        exec_same (while_loop l d y) t a w line ls is k =
            twins_with o u is _ _ _ _ (value_same line ls d BoolType t.0 a.0 k) (λ v k. twins_choose o u v _ _ _ _
            (twins_with o u is (take_step k) (take_step k) _ _ refl (λ _ k. twins_on o u _ _ _ _ (exec_same y t.1 a.1 w (line_of y) ls is k) (λ ls is k. all line ls is (while_loop l d y) k t a w)))
            (twins_go ls is k))
        exec_same (for_loop l site part first d next y) t a w line ls is k =
            twins_on o u _ _ _ _ (exec_same first t.0 a.0 w.0 line ls is k)
            (λ ls is k. twins_with o u is _ _ _ _ (value_same line ls d BoolType t.1 a.1 k) (λ v k. twins_choose o u v _ _ _ _
            (twins_with o u is (take_step k) (take_step k) _ _ refl (λ _ k. twins_on o u _ _ _ _
            (twins_on o u _ _ _ _ (exec_same y t.3 a.3 w.2 (line_of y) ls is k) (λ ls is k. exec_same next t.2 a.2 w.1 line ls is k))
            (λ ls is k. all line ls is (for_loop l site part first d next y) k t a w)))
            (twins_go ls is k)))
        exec_same (return_value l e) t a w line ls is k = twins_with o u is _ _ _ _ (value_same line ls e t.0 t.2 a k) (λ v k. twins_back v is k)
        exec_same (new_local l i d) t a w line ls is k = absurd a
        exec_same (new_field l f d) t a w line ls is k = absurd a
        exec_same (new_item l f i d) t a w line ls is k = absurd a
        exec_same (print_value l e) t a w line ls is k = absurd a

        all_exec_same : (ys : Statements) → StatementsTyped p s ys → AreSeparated p written true ys → AreKept written ops ys → (ls : List Datum) (is : List Invocation) (k : ℕ) → Twins o u (exec_all q ls (at o is) ys k) (exec_all q ls (at u is) ys k)
        all_exec_same no_statements t a w ls is k = twins_go ls is k
        all_exec_same (statement_and y rest) t a w ls is k = twins_on o u _ _ _ _ (exec_same y t.0 a.0 w.0 (line_of y) ls is k) (λ ls is k. all_exec_same rest t.1 a.1 w.1 ls is k)

      turn_same : (y : Statement) → StatementTyped p s y → IsSeparated p written true y → IsKept written ops y → (line : ℕ) (ls : List Datum) (is : List Invocation) (k : ℕ) → Twins o u (turn q line ls (at o is) y k) (turn q line ls (at u is) y k)
      turn_same (while_loop l d y) t a w line ls is k = exec_same (while_loop l d y) t a w line ls is k
      turn_same (for_loop l site part first d next y) t a w line ls is k =
          twins_with o u is _ _ _ _ (value_same line ls d BoolType t.1 a.1 k) (λ v k. twins_choose o u v _ _ _ _
          (twins_with o u is (take_step k) (take_step k) _ _ refl (λ _ k. twins_on o u _ _ _ _
          (twins_on o u _ _ _ _ (exec_same y t.3 a.3 w.2 (line_of y) ls is k) (λ ls is k. exec_same next t.2 a.2 w.1 line ls is k))
          (λ ls is k. all line ls is (for_loop l site part first d next y) k t a w)))
          (twins_go ls is k))
      turn_same (block l ss) t a w line ls is k = twins_go ls is k
      turn_same (put_local l i op e) t a w line ls is k = twins_go ls is k
      turn_same (put_field l f op e) t a w line ls is k = twins_go ls is k
      turn_same (put_item l f i op e) t a w line ls is k = twins_go ls is k
      turn_same (invoke l e op es) t a w line ls is k = twins_go ls is k
      turn_same (if_else l d x y) t a w line ls is k = twins_go ls is k
      turn_same (return_value l e) t a w line ls is k = twins_go ls is k
      turn_same (new_local l i d) t a w line ls is k = absurd a
      turn_same (new_field l f d) t a w line ls is k = absurd a
      turn_same (new_item l f i d) t a w line ls is k = absurd a
      turn_same (print_value l e) t a w line ls is k = absurd a

    loops_same : (n : ℕ) → AgainTwins (loops n p h r)
    loops_same zero = λ line ls is y k t a w. twins_over is
    loops_same (suc n) = λ line ls is y k t a w. turn_same (loops n p h r) (loops_same n) y t a w line ls is k

    loops_of_same : AgainTwins (loops_of p h r)
    loops_of_same = λ line ls is y k t a w. loops_same (suc k) line ls is y k t a w

    pub statements_same : (ys : Statements) → StatementsTyped p s ys → AreSeparated p written true ys → AreKept written ops ys → (ls : List Datum) (is : List Invocation) (k : ℕ) → Twins o u (exec_all (section_parts p h r) ls (at o is) ys k) (exec_all (section_parts p h r) ls (at u is) ys k)
    statements_same ys t a w ls is k = all_exec_same (loops_of p h r) loops_of_same ys t a w ls is k

-- what twins end with
sectioned_twins : (o u : Object) (a b : Flow Section) (budget : ℕ) → o.class ≡ u.class → Twins o.slots u.slots a b → sectioned o.class budget a ≡ leaving o (sectioned u.class budget b)
sectioned_twins o u a b budget e (twins_go ls is k) = refl
sectioned_twins o u a b budget e (twins_back v is k) = refl
sectioned_twins o u a b budget e (twins_stop t is) = refl
sectioned_twins o u a b budget e (twins_over is) = refl

run_twins : (p : PlainProgram) (program : ProgramTyped p) (written : List FieldId) (ops : List OpId) (h : List Object) (i : Invocation) (o u : Object) (m : Option PlainMethod) → slice_get p.ops i.op.0 ≡ m → IsMethodOf m o.class → Agree written o u → AreSeparated p written true (body_of m) → AreKept written ops (body_of m) → (k : ℕ)
    → Twins o.slots u.slots (exec_all (section_parts p h (Ref i.receiver)) (locals_of m i.arguments) (section_start o.slots) (body_of m) k) (exec_all (section_parts p h (Ref i.receiver)) (locals_of m i.arguments) (section_start u.slots) (body_of m) k)
run_twins p program written ops h i o u None e of_class agree a w k = absurd of_class
run_twins p program written ops h i o u (Some m) e of_class agree a w k =
    let mt : OperationTyped p m = program.ops i.op.0 m e in
    let mm : MethodTyped p m = mt.method in
    let same_class : (f : FieldId) → Some m.class ≡ Some f.class → f.class ≡ o.class = λ f q. let z : m.class ≡ f.class = cc in sym z ∙ of_class in
    statements_same p written h (Ref i.receiver) (scope_of m) o.slots u.slots (λ f class free. agree.constants f (same_class f class) free) ops m.body.statements mm.body a w (locals_of (Some m) i.arguments) _ k

pub free_sections : FreeSections
free_sections p program roots x is frozen i inside separable free o u of_class agree budget =
    sectioned_twins o u (section_run p frozen i o.slots budget) (section_run p frozen i u.slots budget) budget agree.class
    (twins_with o.slots u.slots [] (take_step budget) (take_step budget) _ _ refl
    (λ _ k. run_twins p program x.written x.ops frozen i o u (slice_get p.ops i.op.0) refl of_class agree (free_behind p x.written i.op separable free) (body_kept p roots x is i.op inside) k))

-- A call loop does the same on other locals and own slots, where it names and reads the same.
use Rattle.std.proofs.Common.{◌≡◌, ℕ, zero, suc, ◌+◌, Bool, true, false, List, [], ◌∷◌, ◌++◌, length, refl, sym, ap, ◌∙◌, arith, subst, append_assoc}
use Rattle.std.specs.Prelude.{slice_set, ◌||◌, nat_eq, if◌then◌else◌}
use Rattle.std.proofs.lemmas.Bool.Decides.{nat_tests}
use Rattle.ca_program.specs.declared.program.FieldId.{FieldId}
use Rattle.ca_program.specs.declared.program.FirstPart.{FirstPart}
use Rattle.ca_program.specs.declared.program.LoopId.{LoopId}
use Rattle.ca_program.specs.declared.program.ValueType.TheVariants as type
use Rattle.ca_program.specs.Plain.{PlainProgram, PlainMethod, Expression, Statement, Statements, block, put_local, put_field, put_item, new_local, new_field, new_item, invoke, if_else, while_loop, for_loop, return_value, print_value, no_statements, statement_and}
use Rattle.ca_model.specs.declared.value.Value.{Value as Datum}
use Rattle.ca_model.specs.declared.value.Value.TheVariants.{Long, Bool as Truth, Null, Ref}
use Rattle.ca_model.specs.declared.value.Slot.{Slot}
use Rattle.ca_model.specs.declared.value.Object.{Object}
use Rattle.ca_model.specs.declared.value.Trap.{Trap}
use Rattle.ca_meaning.specs.Operators.{assigned}
use Rattle.ca_meaning.specs.Expressions.{Out, gives, traps, over, take_step, value_at, Invocation}
use Rattle.ca_meaning.specs.Flows as flows
use Rattle.ca_meaning.specs.Flows.{Flow, goes_on, gives_back, stops, runs_out, and_on, with, exec, exec_all, line_of}
use Rattle.ca_meaning.specs.Functions.{functions_of}
use Rattle.ca_meaning.specs.ProgramTyped.{ExpressionTyped, StatementTyped, StatementsTyped, scope_of}
use Rattle.ca_meaning.specs.Sections.{Section, section_parts_with, section_parts, Again, loops, loops_of}
use Rattle.ca_parallel.specs.Scoped.{names, names_outside, any_names_outside}
use Rattle.ca_parallel.specs.Separable.{IsClean, holds_call, IsSeparated, AreSeparated}
use Rattle.ca_symbolic_laws.specs.Costs.{hidden}
use Rattle.ca_symbolic_laws.proofs.Named.{SameAt, SameConstants, eval_same, due_same}
use Rattle.ca_symbolic_laws.proofs.Fits.{or_first as or_left, or_second as or_right}

-- as many locals, the same where the test says so
pub record SameLocals (t : ℕ → Bool) (ls ms : List Datum) : Type 0 where
  pub long : length ls ≡ length ms
  pub same : SameAt t ls ms

zero_other : (i : ℕ) → nat_eq zero (suc i) ≡ false
zero_other i = grind (arith, nat_tests)

other_zero : (n : ℕ) → nat_eq (suc n) zero ≡ false
other_zero n = grind (arith, nat_tests)

set_same : (t : ℕ → Bool) (ls ms : List Datum) (n : ℕ) (d : Datum) → length ls ≡ length ms → ((i : ℕ) → nat_eq n i ≡ false → t i ≡ true → value_at ls i ≡ value_at ms i) → SameAt t (slice_set ls n d) (slice_set ms n d)
set_same t [] [] n d e h = λ i f. refl
set_same t [] (y ∷ ms) n d e h = cc
set_same t (x ∷ ls) [] n d e h = cc
set_same t (x ∷ ls) (y ∷ ms) zero d e h = λ i. at i
  where
    at : (i : ℕ) → t i ≡ true → value_at (d ∷ ls) i ≡ value_at (d ∷ ms) i
    at zero f = refl
    at (suc i) f = h (suc i) (zero_other i) f
set_same t (x ∷ ls) (y ∷ ms) (suc n) d e h = λ i. at i (set_same (λ j. t (suc j)) ls ms n d (omega (arith, e)) (λ j g f. h (suc j) (let z : nat_eq (suc n) (suc j) ≡ nat_eq n j = grind (arith, nat_tests) in z ∙ g) f))
  where
    at : (i : ℕ) → SameAt (λ j. t (suc j)) (slice_set ls n d) (slice_set ms n d) → t i ≡ true → value_at (x ∷ slice_set ls n d) i ≡ value_at (y ∷ slice_set ms n d) i
    at zero r f = h zero (other_zero n) f
    at (suc i) r f = r i f

set_long : (ls : List Datum) (n : ℕ) (d : Datum) → length (slice_set ls n d) ≡ length ls
set_long [] n d = refl
set_long (x ∷ ls) zero d = refl
set_long (x ∷ ls) (suc n) d = ap suc (set_long ls n d)

-- a put of a hidden local isn't seen
hides : (x d : Datum) (b : Bool) → b ≡ true → (if b then Null else d) ≡ (if b then Null else x)
hides x d true e = refl
hides x d false e = cc

pub hidden_put : (h : ℕ → Bool) (n : ℕ) (ls : List Datum) (l : ℕ) (d : Datum) → h (n + l) ≡ true → hidden h n (slice_set ls l d) ≡ hidden h n ls
hidden_put h n [] l d e = refl
hidden_put h n (x ∷ ls) zero d e = ap (λ z. z ∷ hidden h (n + 1) ls) (hides x d (h n) (ap h (let z : n ≡ n + zero = omega arith in z) ∙ e))
hidden_put h n (x ∷ ls) (suc l) d e = ap (λ z. (if h n then Null else x) ∷ z) (hidden_put h (n + 1) ls l d (ap h (let z : n + 1 + l ≡ n + suc l = omega arith in z) ∙ e))

module _ (h : ℕ → Bool) (seen : List Datum) (t : ℕ → Bool) (a b : List Slot) (l : List Invocation) where
  -- Two flows that end alike, but for locals that the test leaves out: the first on the slots a and behind the list l, the
  -- second on the slots b and behind none. But for what is hidden, the first one's locals are those that are seen.
  pub data Alike : Flow Section → Flow Section → Type 0 where
    both_on : (ls ms : List Datum) (q : List Invocation) (k : ℕ) → SameLocals t ls ms → hidden h 0 ls ≡ seen → Alike (goes_on ls (record { own = a; listed = l ++ q }) k) (goes_on ms (record { own = b; listed = q }) k)
    both_back : (v : Datum) (r s : Section) (k : ℕ) → Alike (gives_back v r k) (gives_back v s k)
    both_stop : (x : Trap) (r s : Section) → Alike (stops x r) (stops x s)
    both_out : (r s : Section) → Alike (runs_out r) (runs_out s)

  abbrev pub one : List Invocation → Section
  one q = record { own = a; listed = l ++ q }

  abbrev pub other : List Invocation → Section
  other q = record { own = b; listed = q }

  pub on_alike : (f g : Flow Section) (F G : List Datum → Section → ℕ → Flow Section) → Alike f g → ((ls ms : List Datum) (q : List Invocation) (k : ℕ) → SameLocals t ls ms → hidden h 0 ls ≡ seen → Alike (F ls (one q) k) (G ms (other q) k)) → Alike (and_on f F) (and_on g G)
  on_alike f g F G (both_on ls ms q k e v) d = d ls ms q k e v
  on_alike f g F G (both_back v r s k) d = both_back v r s k
  on_alike f g F G (both_stop x r s) d = both_stop x r s
  on_alike f g F G (both_out r s) d = both_out r s

  pub with_alike : {A : Type 0} (o u : Out A) (r s : Section) (F G : A → ℕ → Flow Section) → o ≡ u → ((v : A) (k : ℕ) → Alike (F v k) (G v k)) → Alike (with o r F) (with u s G)
  with_alike o u r s F G e d = subst (λ z. Alike (with z r F) (with u s G)) (sym e) (at u)
    where
      at : (u : Out _) → Alike (with u r F) (with u s G)
      at (gives v k) = d v k
      at (traps x) = both_stop x r s
      at over = both_out r s

  choose_alike : (v : Datum) (f g c d : Flow Section) → Alike f g → Alike c d → Alike (flows.choose v f c) (flows.choose v g d)
  choose_alike (Truth true) f g c d x y = x
  choose_alike (Truth false) f g c d x y = y
  choose_alike (Long n) f g c d x y = y
  choose_alike Null f g c d x y = y
  choose_alike (Ref n) f g c d x y = y

  -- what the parts of a call loop are made of: calls, and puts of hidden locals
  abbrev mutual
    pub Simple : Statement → Type 0
    Simple (block line ss) = AllSimple ss
    Simple (put_local line n op e) = h n.0 ≡ true
    Simple (invoke line e op es) = Unit {0}
    Simple x = ⊥

    pub AllSimple : Statements → Type 0
    AllSimple no_statements = Unit {0}
    AllSimple (statement_and x xs) = Simple x × AllSimple xs

  itself : (n : ℕ) → nat_eq n n ≡ true
  itself n = grind (arith, nat_tests)

  module _ (p : PlainProgram) (heap : List Object) (me : Datum) (m : PlainMethod) (written : List FieldId) (agree : SameConstants m written a b) where
    -- a put of a hidden local
    pub put_alike : (n : ℕ) (d : Datum) (ls ms : List Datum) (q : List Invocation) (k : ℕ) → h n ≡ true → length ls ≡ length ms → ((i : ℕ) → nat_eq n i ≡ false → t i ≡ true → value_at ls i ≡ value_at ms i) → hidden h 0 ls ≡ seen → Alike (goes_on (slice_set ls n d) (one q) k) (goes_on (slice_set ms n d) (other q) k)
    put_alike n d ls ms q k e long same v =
        both_on _ _ q k (record { long = set_long ls n d ∙ long ∙ sym (set_long ms n d); same = set_same t ls ms n d long same })
        (hidden_put h 0 ls n d (ap h (let z : 0 + n ≡ n = omega arith in z) ∙ e) ∙ v)

    module _ (again : Again) where
      mutual
        exec_alike : (x : Statement) (called : Bool) → called ≡ true → StatementTyped p (scope_of m) x → IsSeparated p written called x → Simple x → ((i : ℕ) → names_outside x i ≡ true → t i ≡ true) → (line : ℕ) (ls ms : List Datum) (q : List Invocation) (k : ℕ) → SameLocals t ls ms → hidden h 0 ls ≡ seen →
            Alike (exec (section_parts_with p heap me again) line ls (one q) x k) (exec (section_parts_with p heap me again) line ms (other q) x k)
        exec_alike (block at ss) called must y c z w line ls ms q k e v = all_alike ss called must y c z w ls ms q k e v
        exec_alike (put_local at n op x) called must y c z w line ls ms q k e v =
            with_alike _ _ (one q) (other q) _ _ (eval_same p m written (functions_of p.functions heap).call heap me a b agree called must line ls ms x y.0 y.2.1 c (λ i f. e.same i (w i (or_right (nat_eq n.0 i) (names x i) f))) k)
            (λ d j. subst (λ old. Alike (goes_on (slice_set ls n.0 (assigned op (value_at ls n.0) d)) (one q) j) (goes_on (slice_set ms n.0 (assigned op old d)) (other q) j)) (e.same n.0 (w n.0 (or_left (nat_eq n.0 n.0) (names x n.0) (itself n.0))))
            (put_alike n.0 _ ls ms q j z e.long (λ i g f. e.same i f) v))
        exec_alike (invoke at x op es) called must y c z w line ls ms q k e v =
            with_alike _ _ (one q) (other q) _ _ (due_same p m written (functions_of p.functions heap).call heap me a b agree called must line ls ms x op es (type.Pointer y.0) y.1 y.4 y.5 c.0 c.1 (λ i f. e.same i (w i f)) k)
            (λ i j. subst (λ r. Alike (goes_on ls (record { own = a; listed = r }) j) (goes_on ms (other (q ++ i ∷ [])) j)) (sym (append_assoc l q (i ∷ []))) (both_on ls ms (q ++ i ∷ []) j e v))
        exec_alike (put_field at f op x) called must y c z w line ls ms q k e v = absurd z
        exec_alike (put_item at f i op x) called must y c z w line ls ms q k e v = absurd z
        exec_alike (new_local at n d) called must y c z w line ls ms q k e v = absurd z
        exec_alike (new_field at f d) called must y c z w line ls ms q k e v = absurd z
        exec_alike (new_item at f i d) called must y c z w line ls ms q k e v = absurd z
        exec_alike (if_else at d x y') called must y c z w line ls ms q k e v = absurd z
        exec_alike (while_loop at d x) called must y c z w line ls ms q k e v = absurd z
        exec_alike (for_loop at site part first d next x) called must y c z w line ls ms q k e v = absurd z
        exec_alike (return_value at x) called must y c z w line ls ms q k e v = absurd z
        exec_alike (print_value at x) called must y c z w line ls ms q k e v = absurd z

        all_alike : (xs : Statements) (called : Bool) → called ≡ true → StatementsTyped p (scope_of m) xs → AreSeparated p written called xs → AllSimple xs → ((i : ℕ) → any_names_outside xs i ≡ true → t i ≡ true) → (ls ms : List Datum) (q : List Invocation) (k : ℕ) → SameLocals t ls ms → hidden h 0 ls ≡ seen →
            Alike (exec_all (section_parts_with p heap me again) ls (one q) xs k) (exec_all (section_parts_with p heap me again) ms (other q) xs k)
        all_alike no_statements called must y c z w ls ms q k e v = both_on ls ms q k e v
        all_alike (statement_and x xs) called must y c z w ls ms q k e v =
            on_alike _ _ _ _ (exec_alike x called must y.0 c.0 z.0 (λ i f. w i (or_left (names_outside x i) (any_names_outside xs i) f)) (line_of x) ls ms q k e v)
            (λ hs bs u j g o. all_alike xs (called || holds_call x) (or_left called (holds_call x) must) y.1 c.1 z.1 (λ i f. w i (or_right (names_outside x i) (any_names_outside xs i) f)) hs bs u j g o)

    module _ (own line : ℕ) (site : LoopId) (part : FirstPart) (first : Statement) (c : Expression) (next x : Statement) (called : Bool) (must : called ≡ true)
        (typed_c : ExpressionTyped p (scope_of m) c type.Bool) (typed_next : StatementTyped p (scope_of m) next) (typed_x : StatementTyped p (scope_of m) x)
        (clean_c : IsClean p written called c) (clean_next : IsSeparated p written called next) (clean_x : IsSeparated p written called x)
        (simple_next : Simple next) (simple : Simple x)
        (in_c : (i : ℕ) → names c i ≡ true → t i ≡ true) (in_next : (i : ℕ) → names_outside next i ≡ true → t i ≡ true) (in_x : (i : ℕ) → names_outside x i ≡ true → t i ≡ true) where
      abbrev this_loop : Statement
      this_loop = for_loop own site part first c next x

      turn_alike : (again : Again) → ((ls ms : List Datum) (q : List Invocation) (k : ℕ) → SameLocals t ls ms → hidden h 0 ls ≡ seen → Alike (again line ls (one q) this_loop k) (again line ms (other q) this_loop k)) → (ls ms : List Datum) (q : List Invocation) (k : ℕ) → SameLocals t ls ms → hidden h 0 ls ≡ seen →
          Alike (flows.turn (section_parts_with p heap me again) line ls (one q) this_loop k) (flows.turn (section_parts_with p heap me again) line ms (other q) this_loop k)
      turn_alike again r ls ms q k e v =
          with_alike _ _ (one q) (other q) _ _ (eval_same p m written (functions_of p.functions heap).call heap me a b agree called must line ls ms c type.Bool typed_c clean_c (λ i f. e.same i (in_c i f)) k)
          (λ d j. choose_alike d _ _ _ _ (with_alike (take_step j) (take_step j) (one q) (other q) _ _ refl (λ u n.
          on_alike _ _ _ _ (on_alike _ _ _ _ (exec_alike again x called must typed_x clean_x simple in_x (line_of x) ls ms q n e v) (λ hs bs y i g o. exec_alike again next called must typed_next clean_next simple_next in_next line hs bs y i g o)) (λ hs bs y i g o. r hs bs y i g o)))
          (both_on ls ms q j e v))

      loops_alike : (n : ℕ) (ls ms : List Datum) (q : List Invocation) (k : ℕ) → SameLocals t ls ms → hidden h 0 ls ≡ seen → Alike (loops n p heap me line ls (one q) this_loop k) (loops n p heap me line ms (other q) this_loop k)
      loops_alike zero ls ms q k e v = both_out (one q) (other q)
      loops_alike (suc n) ls ms q k e v = turn_alike (loops n p heap me) (loops_alike n) ls ms q k e v

      pub rest_alike : (ls ms : List Datum) (q : List Invocation) (k : ℕ) → SameLocals t ls ms → hidden h 0 ls ≡ seen →
          Alike (flows.turn (section_parts p heap me) line ls (one q) this_loop k) (flows.turn (section_parts p heap me) line ms (other q) this_loop k)
      rest_alike ls ms q k e v = turn_alike (loops_of p heap me) (λ es fs y i w o. loops_alike (suc i) es fs y i w o) ls ms q k e v

-- A call loop in a body does what its demand means.
use Rattle.std.proofs.Common.{◌≡◌, ℕ, suc, ◌≤◌, Bool, true, false, List, [], ◌++◌, length, Option, Some, None, refl, sym, ap, ◌∙◌, arith, subst}
use Rattle.std.specs.Prelude.{slice_set, nat_eq}
use Rattle.ca_tree.specs.declared.tree.AssignOp.TheVariants.{Put}
use Rattle.ca_program.specs.declared.program.FieldId.{FieldId}
use Rattle.ca_program.specs.declared.program.FirstPart.TheVariants.{Declares}
use Rattle.ca_program.specs.declared.program.LocalId.{LocalId}
use Rattle.ca_program.specs.declared.program.LoopId.{LoopId}
use Rattle.ca_program.specs.declared.program.ValueType.TheVariants as type
use Rattle.ca_program.specs.Plain.{PlainProgram, PlainMethod, Expression, Statement, Statements, block, put_local, invoke, for_loop, no_statements, statement_and}
use Rattle.ca_model.specs.declared.value.Value.{Value as Datum}
use Rattle.ca_model.specs.declared.value.Slot.{Slot}
use Rattle.ca_model.specs.declared.value.Object.{Object}
use Rattle.ca_meaning.specs.Operators.{assigned}
use Rattle.ca_meaning.specs.Expressions.{Out, gives, over, value_at, Invocation}
use Rattle.ca_meaning.specs.Flows.{Flow, goes_on, gives_back, stops, runs_out, exec}
use Rattle.ca_meaning.specs.Functions.{functions_of}
use Rattle.ca_meaning.specs.ProgramTyped.{ExpressionTyped, StatementTyped, scope_of}
use Rattle.ca_meaning.specs.Sections.{Section, section_parts, loop_sectioned, loop_run}
use Rattle.ca_meaning.proofs.Putting.{put_stores}
use Rattle.ca_meaning_laws.specs.Budgets.{Taken, on_with, Reached}
use Rattle.ca_meaning_laws.proofs.Bigs.{loop_run_steady}
use Rattle.ca_parallel.specs.Loops.{CountsUp, IsCall, AreCalls, CallsAlone}
use Rattle.ca_parallel.specs.Scoped.{names, names_outside}
use Rattle.ca_parallel.specs.Separable.{IsClean, IsSeparated}
use Rattle.ca_symbolic_laws.specs.Costs.{left, with_left, value_of, hidden, state_of}
use Rattle.ca_symbolic_laws.specs.Demanded.{steps_taken, loop_steps, loop_lists}
use Rattle.ca_symbolic_laws.proofs.Bounded.{bounded}
use Rattle.ca_symbolic_laws.proofs.Named.{SameAt, SameConstants, eval_same}
use Rattle.ca_symbolic_laws.proofs.LoopRuns.{Alike, both_on, both_back, both_stop, both_out, Simple, AllSimple, on_alike, with_alike, put_alike, rest_alike}
use Rattle.ca_tree.specs.declared.tree.AssignOp.TheVariants.{Add}
use Rattle.ca_tree.specs.declared.tree.BinaryOp.TheVariants.{Plus}
use Rattle.ca_program.specs.Plain.{number, local, binary}

-- What a section of a loop takes and lists

abbrev pub listed_by : Flow Section → Out (List Invocation)
listed_by (goes_on ls q k) = gives q.listed k
listed_by (gives_back d q k) = over
listed_by (stops t q) = over
listed_by (runs_out q) = over

steps_same : (budget : ℕ) (f : Flow Section) → steps_taken budget (listed_by f) ≡ loop_steps (loop_sectioned budget f)
steps_same budget (goes_on ls q k) = refl
steps_same budget (gives_back d q k) = refl
steps_same budget (stops t q) = refl
steps_same budget (runs_out q) = refl

lists_same : (budget : ℕ) (f : Flow Section) (w : List Invocation) (j : ℕ) → listed_by f ≡ gives w j → w ≡ loop_lists (loop_sectioned budget f)
lists_same budget (goes_on ls q k) w j e = let h : q.listed ≡ w = cc in sym h
lists_same budget (gives_back d q k) w j e = cc
lists_same budget (stops t q) w j e = cc
lists_same budget (runs_out q) w j e = cc

-- a flow that goes on
pub record GoesOn (f : Flow Section) (w : List Invocation) (j : ℕ) : Type 0 where
  pub locals : List Datum
  pub section : Section
  pub is : f ≡ goes_on locals section j
  pub listed : section.listed ≡ w

goes_on_so : (f : Flow Section) (w : List Invocation) (j : ℕ) → listed_by f ≡ gives w j → GoesOn f w j
goes_on_so (goes_on ls q k) w j e = let h : q.listed ≡ w = cc in let same : k ≡ j = cc in record { locals = ls; section = q; is = ap (goes_on ls q) same; listed = h }
goes_on_so (gives_back d q k) w j e = cc
goes_on_so (stops t q) w j e = cc
goes_on_so (runs_out q) w j e = cc

module _ (p : PlainProgram) (h : List Object) (me : Datum) (ms : List Datum) (line : ℕ) (loop : Statement) where
  steady : (w : List Invocation) (k j : ℕ) → listed_by (loop_run p h me ms line loop k) ≡ gives w j → Taken (λ n. listed_by (loop_run p h me ms line loop n)) w k j
  steady w k j e =
      let g : GoesOn (loop_run p h me ms line loop k) w j = goes_on_so (loop_run p h me ms line loop k) w j e in
      let r : Reached (λ n. loop_run p h me ms line loop n) (on_with g.locals g.section) k j = (loop_run_steady p h me ms line loop (suc k)).reached k (omega arith) (on_with g.locals g.section) j g.is in
      record { s = r.s; is = r.is; takes = record { at = λ i. ap listed_by (r.reaches.at i) ∙ ap (λ z. gives z i) g.listed } }

  -- within a budget the loop takes the steps of its section and lists what that lists
  pub loop_takes : (budget k : ℕ) → k ≤ budget → value_of (listed_by (loop_run p h me ms line loop k)) ≡ with_left (loop_lists (loop_sectioned budget (loop_run p h me ms line loop budget))) (left (loop_steps (loop_sectioned budget (loop_run p h me ms line loop budget))) k)
  loop_takes budget k l =
      bounded (λ n. listed_by (loop_run p h me ms line loop n)) steady budget k l (loop_lists (loop_sectioned budget (loop_run p h me ms line loop budget))) (λ w j e. lists_same budget (loop_run p h me ms line loop budget) w j e)
      ∙ ap (λ c. with_left (loop_lists (loop_sectioned budget (loop_run p h me ms line loop budget))) (left c k)) (steps_same budget (loop_run p h me ms line loop budget))

-- Two runs that are alike

abbrev pub lifted : List Datum → List Slot → List Invocation → Option (List Invocation × ℕ) → Option ((List Datum × Section) × ℕ)
lifted seen a l None = None
lifted seen a l (Some r) = Some ((seen, record { own = a; listed = l ++ r.0 }), r.1)

pub lifted_left : (seen : List Datum) (a : List Slot) (l q : List Invocation) (o : Option ℕ) → lifted seen a l (with_left q o) ≡ with_left (seen, record { own = a; listed = l ++ q }) o
lifted_left seen a l q None = refl
lifted_left seen a l q (Some k) = refl

pub alike_lifted : (h : ℕ → Bool) (seen : List Datum) (t : ℕ → Bool) (a b : List Slot) (l : List Invocation) (f g : Flow Section) → Alike h seen t a b l f g → state_of h f ≡ lifted seen a l (value_of (listed_by g))
alike_lifted h seen t a b l _ _ (both_on ls ms q k e v) = ap (λ z. Some ((z, record { own = a; listed = l ++ q }), k)) v
alike_lifted h seen t a b l _ _ (both_back v r s k) = refl
alike_lifted h seen t a b l _ _ (both_stop x r s) = refl
alike_lifted h seen t a b l _ _ (both_out r s) = refl

-- A call loop

module _ (h : ℕ → Bool) (seen : List Datum) (t : ℕ → Bool) (a b : List Slot) (l : List Invocation) where
  simple_calls : (xs : Statements) → AreCalls xs → AllSimple h seen t a b l xs
  simple_calls no_statements c = tt
  simple_calls (statement_and x xs) c = (one x c.0, simple_calls xs c.1)
    where
      one : (x : Statement) → IsCall x → Simple h seen t a b l x
      one (invoke line e op es) c = tt
      one x c = absurd c

  pub simple_body : (x : Statement) → CallsAlone x → Simple h seen t a b l x
  simple_body (invoke line e op es) c = tt
  simple_body (block line (statement_and x xs)) c = simple_calls (statement_and x xs) c
  simple_body x c = absurd c

  simple_next : (x : Statement) (i : LocalId) → CountsUp x i → h i.0 ≡ true → Simple h seen t a b l x
  simple_next (put_local line n Add (number k)) i c e = ap (λ z. h z.0) c.0 ∙ e
  simple_next (put_local line n Put (binary Plus (local o) (number k))) i c e = ap (λ z. h z.0) c.0 ∙ e
  simple_next x i c e = absurd c

  module _ (p : PlainProgram) (heap : List Object) (me : Datum) (m : PlainMethod) (written : List FieldId) (agree : SameConstants m written a b)
      (own line : ℕ) (site : LoopId) (at : ℕ) (i : LocalId) (e : Expression) (c : Expression) (next x : Statement) (called : Bool) (must : called ≡ true)
      (typed_e : StatementTyped p (scope_of m) (put_local at i Put e)) (typed_c : ExpressionTyped p (scope_of m) c type.Bool) (typed_next : StatementTyped p (scope_of m) next) (typed_x : StatementTyped p (scope_of m) x)
      (clean_e : IsClean p written called e) (clean_c : IsClean p written called c) (clean_next : IsSeparated p written called next) (clean_x : IsSeparated p written called x)
      (ups : CountsUp next i) (calls : CallsAlone x) (hides : h i.0 ≡ true)
      (in_c : (n : ℕ) → names c n ≡ true → t n ≡ true) (in_next : (n : ℕ) → names_outside next n ≡ true → t n ≡ true) (in_x : (n : ℕ) → names_outside x n ≡ true → t n ≡ true) where
    abbrev loop : Statement
    loop = for_loop own site Declares (put_local at i Put e) c next x

    -- a loop whose first part puts its counter: what it names must be the same before it, but for the counter
    pub for_alike : (ls ms : List Datum) (k : ℕ) → length ls ≡ length ms → SameAt (names e) ls ms → ((n : ℕ) → nat_eq i.0 n ≡ false → t n ≡ true → value_at ls n ≡ value_at ms n) → hidden h 0 ls ≡ seen →
        Alike h seen t a b l (exec (section_parts p heap me) line ls (record { own = a; listed = l ++ [] }) loop k) (exec (section_parts p heap me) line ms (record { own = b; listed = [] }) loop k)
    for_alike ls ms k long first same v =
        on_alike h seen t a b l _ _ _ _
        (with_alike h seen t a b l _ _ (record { own = a; listed = l ++ [] }) (record { own = b; listed = [] }) _ _ (eval_same p m written (functions_of p.functions heap).call heap me a b agree called must line ls ms e typed_e.0 typed_e.2.1 clean_e first k)
        (λ d j. subst (λ z. Alike h seen t a b l (goes_on (slice_set ls i.0 z) (record { own = a; listed = l ++ [] }) j) (goes_on (slice_set ms i.0 (assigned Put (value_at ms i.0) d)) (record { own = b; listed = [] }) j)) (sym (put_stores (value_at ls i.0) d))
        (subst (λ z. Alike h seen t a b l (goes_on (slice_set ls i.0 d) (record { own = a; listed = l ++ [] }) j) (goes_on (slice_set ms i.0 z) (record { own = b; listed = [] }) j)) (sym (put_stores (value_at ms i.0) d))
        (put_alike h seen t a b l p heap me m written agree i.0 d ls ms [] j hides long same v))))
        (λ hs bs q j g o. rest_alike h seen t a b l p heap me m written agree own line site Declares (put_local at i Put e) c next x called must typed_c typed_next typed_x clean_c clean_next clean_x (simple_next next i ups hides) (simple_body x calls) in_c in_next in_x hs bs q j g o)

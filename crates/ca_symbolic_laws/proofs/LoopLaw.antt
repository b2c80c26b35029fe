-- Each call loop of a body does what its demand means.
use Rattle.std.proofs.Common.{◌≡◌, ℕ, ◌≤◌, Bool, true, false, List, [], ◌∷◌, ◌++◌, length, map, Option, Some, None, refl, sym, ap, ap₂, ◌∙◌, subst, append-nil, zero-add, inl, inr, ⊎_elim}
use Rattle.std.specs.Prelude.{◌||◌, nat_eq, cond, if◌then◌else◌, ◌⊎◌, Contains}
use Rattle.ca_tree.specs.declared.tree.AssignOp.TheVariants.{Put}
use Rattle.ca_program.specs.declared.program.FieldId.{FieldId}
use Rattle.ca_program.specs.declared.program.FirstPart.{FirstPart}
use Rattle.ca_program.specs.declared.program.FirstPart.TheVariants.{Declares}
use Rattle.ca_program.specs.declared.program.LocalId.{LocalId}
use Rattle.ca_program.specs.declared.program.LoopId.{LoopId}
use Rattle.ca_program.specs.Plain.{PlainProgram, PlainMethod, Expression, Statement, block, put_local, invoke, for_loop, statement_and}
use Rattle.ca_model.specs.declared.value.Value.{Value as Datum}
use Rattle.ca_model.specs.declared.value.Value.TheVariants.{Bool as Truth, Ref}
use Rattle.ca_model.specs.declared.value.Slot.{Slot}
use Rattle.ca_meaning.specs.Expressions.{value_at, Invocation}
use Rattle.ca_meaning.specs.Flows.{exec}
use Rattle.ca_meaning.specs.Sections.{section_parts, LoopSectioned, loop_run}
use Rattle.ca_parallel.specs.Loops.{CountsUp, IsCall, CallsAlone, IsCallLoopOf}
use Rattle.ca_parallel.specs.Scoped.{names, names_outside}
use Rattle.ca_symbolic_laws.specs.Costs.{left, with_left, hidden, state_of}
use Rattle.ca_symbolic_laws.specs.Demanded.{loop_steps, loop_lists}
use Rattle.ca_symbolic_laws.proofs.Named.{SameAt, SameConstants}
use Rattle.ca_symbolic_laws.proofs.LoopRuns.{Alike}
use Rattle.std.proofs.lemmas.Bool.{eqb-true, or_parts}
use Rattle.ca_program.specs.declared.program.FieldInfo.{FieldInfo}
use Rattle.ca_program.specs.declared.program.OpId.{OpId}
use Rattle.ca_meaning.specs.Functions.{own_of}
use Rattle.ca_meaning.specs.Sections.{loop_section}
use Rattle.ca_parallel.specs.Bodies.{calls_of, calls_of_all}
use Rattle.ca_parallel.specs.Marks.{HasSite}
use Rattle.ca_parallel.specs.Scoped.{counts}
use Rattle.ca_parallel.specs.Separable.{is_some_of, holds_call}
use Rattle.ca_norm.specs.Terms.{PlainTerm}
use Rattle.ca_norm.specs.Meanings.{Valuation, mean}
use Rattle.ca_norm.specs.Environments.{Environment}
use Rattle.ca_symbolic.specs.States.{State, loops, sweeps}
use Rattle.ca_symbolic.specs.Execution.{term_of, with_field, sweep_term, after_loop}
use Rattle.ca_sweep.specs.Sweeps.{PlainSweep}
use Rattle.ca_sweep.specs.Found.{sweep_in, sweep_at}
use Rattle.ca_sweep.proofs.Finding.{sweeps_are_wide, forms_are_sweeps, itself}
use Rattle.ca_symbolic_laws.proofs.SweepForms.{calls_sweep_nothing}
use Rattle.ca_sweep.proofs.Shown.{shown_of}
use Rattle.ca_symbolic_laws.proofs.SweepMeans.{means_of}
use Rattle.ca_symbolic_laws.proofs.SweepTerms.{sweep_means}
use Rattle.ca_symbolic.specs.Demands.{loop_reads, loop_parts, demanded_loop}
use Rattle.ca_symbolic.specs.OtherLoops.{is_call_loop, if_no_sweep}
use Rattle.ca_symbolic.proofs.CallLoops.{call_loops_are_told}
use Rattle.ca_symbolic_laws.specs.Meant.{slots_meant}
use Rattle.ca_symbolic_laws.specs.Demanded.{loop_at, spread_out, section_at, loop_within, cost, lists}
use Rattle.ca_symbolic_laws.specs.Laws.{fields_in, Typed, StateTyped, LocalsAre}
use Rattle.ca_symbolic_laws.proofs.Runs.{Runs}
use Rattle.ca_symbolic_laws.proofs.Demands.{told, one_asked}
use Rattle.ca_symbolic_laws.proofs.Expressions.{hidden_at}
use Rattle.ca_symbolic_laws.proofs.Fits.{Fits, or_first as or_left, or_second as or_right}
use Rattle.ca_symbolic_laws.proofs.Statements.{IsMeant, LoopsAreMeant}
use Rattle.ca_symbolic_laws.proofs.LoopReads.{Begun, begun, begun_of, next_names, spread_at, spread_long, hidden_long, mapped_long, typed_long, reads_first, reads_condition, reads_body}
use Rattle.ca_symbolic_laws.proofs.LoopsMeant.{loop_takes, lifted, lifted_left, alike_lifted, for_alike}

cleared : (x y : Bool) → (x ≡ true → y ≡ false) → y ≡ true → x ≡ false
cleared true y h e = let z : true ≡ false = sym e ∙ h refl in cc
cleared false y h e = refl

never : (x y : Bool) → (x ≡ true → y ≡ true) → y ≡ false → x ≡ false
never true y h e = let z : true ≡ false = sym (h refl) ∙ e in cc
never false y h e = refl

some_behind : (xs ys : List OpId) → is_some_of ys ≡ true → is_some_of (xs ++ ys) ≡ true
some_behind [] ys e = e
some_behind (x ∷ xs) ys e = refl

some_before : (xs ys : List OpId) → is_some_of xs ≡ true → is_some_of (xs ++ ys) ≡ true
some_before [] ys e = cc
some_before (x ∷ xs) ys e = refl

call_called : (x : Statement) → IsCall x → is_some_of (calls_of x) ≡ true
call_called (invoke line e op es) c = refl
call_called x c = absurd c

body_called : (x : Statement) → CallsAlone x → is_some_of (calls_of x) ≡ true
body_called (invoke line e op es) c = refl
body_called (block line (statement_and x xs)) c = some_before (calls_of x) (calls_of_all xs) (call_called x c.0)
body_called x c = absurd c

module _ (s : Environment) (v : Valuation) (runs : Runs s v) (m : PlainMethod) (typed : Typed s m) (written : List FieldId) (t : ℕ → Bool) (all : List Statement)
    (found : (x : Statement) (site : LoopId) → Contains all x → HasSite x site → loop_at s.program.ops site ≡ Some (record { loop = x; locals = length m.body.locals })) where
  abbrev p : PlainProgram
  p = s.program

  abbrev fs : List FieldInfo
  fs = fields_in s m.class

  abbrev me : Datum
  me = Ref s.receiver

  -- where a loop may stand: the constants are those of the heap
  abbrev pub Stands : State → Type 0
  Stands st = SameConstants m written (slots_meant v st.fields fs) (own_of s.heap me)

  -- what a loop does, if it sweeps so
  abbrev Meant : State → PlainTerm → List Datum → List Invocation → Statement → Option PlainSweep → ℕ → Type 0
  Meant st g ls l (for_loop own site part first c next x) o k =
      state_of t (exec (section_parts p s.heap me) own ls (record { own = slots_meant v st.fields fs; listed = l }) (for_loop own site part first c next x) k)
      ≡ with_left (hidden t 0 (map (mean v) (after_loop p st o).locals), record { own = slots_meant v (after_loop p st o).fields fs; listed = l ++ lists s v (demanded_loop p st g site (for_loop own site part first c next x) o) })
      (left (cost s v (demanded_loop p st g site (for_loop own site part first c next x) o)) k)
  Meant st g ls l x o k = ⊥

  module _ (own : ℕ) (site : LoopId) (at : ℕ) (i : LocalId) (e c : Expression) (next x : Statement) (called : Bool) (f : Fits s m written t all called (for_loop own site Declares (put_local at i Put e) c next x))
      (ups : CountsUp next i) (calls : CallsAlone x) (st : State) (is : StateTyped s v m st) (stands : Stands st) (ls : List Datum) (same : LocalsAre v t ls st.locals) where
    abbrev loop : Statement
    loop = for_loop own site Declares (put_local at i Put e) c next x

    abbrev reads : ℕ → Bool
    reads = loop_reads loop

    abbrev values : List Datum
    values = map (mean v) (loop_parts st loop)

    abbrev ms : List Datum
    ms = spread_out reads 0 (length m.body.locals) values

    abbrev named : ℕ → Bool
    named n = names c n || (names_outside next n || names_outside x n)

    hides : t i.0 ≡ true
    hides = f.counted i.0 (or_left (nat_eq i.0 i.0) (counts x i.0) (itself i.0))

    -- a local that the first part names isn't hidden, and so isn't the counter
    shown_first : (n : ℕ) → names e n ≡ true → t n ≡ false
    shown_first n q = cleared (t n) (names e n) (λ z. (or_parts (names e n) _ (f.apart n z)).0) q

    no_counter : (n : ℕ) → t n ≡ false → nat_eq i.0 n ≡ false
    no_counter n q = cleared (nat_eq i.0 n) (t i.0) (λ z. ap t (eqb-true i.0 n z) ∙ q) hides

    -- nor is any other that the loop names
    shown_rest : (n : ℕ) → nat_eq i.0 n ≡ false → named n ≡ true → t n ≡ false
    shown_rest n o q = cleared (t n) (named n) (λ z. ap (λ b. cond b false (named n)) (sym o) ∙ (or_parts (names e n) _ (f.apart n z)).1) q

    long : length st.locals ≡ length m.body.locals
    long = typed_long s.heap v st.locals m.body.locals is.locals

    -- a local that the loop reads is the same
    read_same : (n : ℕ) → t n ≡ false → reads n ≡ true → value_at ls n ≡ value_at ms n
    read_same n o q =
        hidden_at t 0 ls (map (mean v) st.locals) n same (ap t (zero-add n) ∙ o)
        ∙ sym (ap (λ k. value_at (spread_out reads 0 k values) n) (sym long) ∙ spread_at v reads 0 st.locals n (ap reads (zero-add n) ∙ q))

    first_same : SameAt (names e) ls ms
    first_same n q = let o : t n ≡ false = shown_first n q in read_same n o (reads_first own site at i e c next x n (no_counter n o) q)

    split : (a b d : Bool) → a || (b || d) ≡ true → b ≡ false → (a ≡ true) ⊎ (d ≡ true)
    split true b d q z = inl refl
    split false true d q z = cc
    split false false d q z = inr q

    rest_same : (n : ℕ) → nat_eq i.0 n ≡ false → named n ≡ true → value_at ls n ≡ value_at ms n
    rest_same n o q =
        let hide : t n ≡ false = shown_rest n o q in
        let later : names_outside next n ≡ false = never (names_outside next n) (nat_eq i.0 n) (λ z. next_names next i n ups z) o in
        ⊎_elim (λ z. read_same n hide (reads_condition own site at i e c next x n o z)) (λ z. read_same n hide (reads_body own site at i e c next x n o calls z)) (split (names c n) (names_outside next n) (names_outside x n) q later)

    same_long : length ls ≡ length ms
    same_long = sym (hidden_long t 0 ls) ∙ ap length same ∙ hidden_long t 0 (map (mean v) st.locals) ∙ mapped_long v st.locals ∙ long ∙ sym (spread_long reads 0 (length m.body.locals) values)

    must : called || holds_call loop ≡ true
    must = or_right called (holds_call loop) (some_behind (calls_of next) (calls_of x) (body_called x calls))

    alike : (l : List Invocation) (k : ℕ) → Alike t (hidden t 0 (map (mean v) st.locals)) named (slots_meant v st.fields fs) (own_of s.heap me) l (exec (section_parts p s.heap me) own ls (record { own = slots_meant v st.fields fs; listed = l ++ [] }) loop k) (loop_run p s.heap me ms own loop k)
    alike l k =
        for_alike t (hidden t 0 (map (mean v) st.locals)) named (slots_meant v st.fields fs) (own_of s.heap me) l p s.heap me m written stands own own site at i e c next x (called || holds_call loop) must
        f.typed.0 f.typed.1 f.typed.2 f.typed.3 f.separated.0 f.separated.1 f.separated.2 f.separated.3 ups calls hides
        (λ n q. or_left (names c n) _ q) (λ n q. or_right (names c n) _ (or_left (names_outside next n) _ q)) (λ n q. or_right (names c n) _ (or_right (names_outside next n) (names_outside x n) q))
        ls ms k same_long first_same rest_same same

    for_at : Contains all loop → (g : PlainTerm) → mean v g ≡ Truth true → (l : List Invocation) (k : ℕ) → k ≤ s.steps → Meant st g ls l loop None k
    for_at inside g y l k b =
        let a : List Slot = slots_meant v st.fields fs in
        let seen : List Datum = hidden t 0 (map (mean v) st.locals) in
        let answer : LoopSectioned = loop_section p s.heap me ms own loop s.steps in
        let here : loop_within s site values ≡ answer = ap (λ o. section_at s o values) (found loop site inside refl) in
        ap (λ z. state_of t (exec (section_parts p s.heap me) own ls (record { own = a; listed = z }) loop k)) (sym (append-nil l))
        ∙ alike_lifted t seen named a (own_of s.heap me) l _ _ (alike l k)
        ∙ ap (lifted seen a l) (loop_takes p s.heap me ms own loop s.steps k b)
        ∙ lifted_left seen a l (loop_lists answer) (left (loop_steps answer) k)
        ∙ ap₂ (λ q o. with_left (seen, record { own = a; listed = l ++ q }) (left o k))
        (sym (ap (λ z. z ++ []) (told s v g (loops site) (loop_parts st loop) y) ∙ append-nil _ ∙ ap loop_lists here))
        (sym (one_asked s v g (loops site) (loop_parts st loop) y ∙ ap loop_steps here))

    pub for_is : Contains all loop → (g : PlainTerm) → mean v g ≡ Truth true → (l : List Invocation) (k : ℕ) → k ≤ s.steps → IsMeant s v runs m typed written t all st g ls l loop k
    for_is inside g y l k b = subst (λ o. Meant st g ls l loop o k) (sym (calls_sweep_nothing own site Declares (put_local at i Put e) c next x calls)) (for_at inside g y l k b)

  by_counter : (own : ℕ) (site : LoopId) (part : FirstPart) (first : Statement) (c : Expression) (next x : Statement) (i : LocalId) → Begun i part first → CountsUp next i → CallsAlone x → Contains all (for_loop own site part first c next x) → (called : Bool) → Fits s m written t all called (for_loop own site part first c next x) →
      (st : State) → StateTyped s v m st → Stands st → (g : PlainTerm) → mean v g ≡ Truth true → (ls : List Datum) → LocalsAre v t ls st.locals → (l : List Invocation) (k : ℕ) → k ≤ s.steps → IsMeant s v runs m typed written t all st g ls l (for_loop own site part first c next x) k
  by_counter own site _ _ c next x i (begun at j e q) ups calls inside called f st is stands g y ls same l k b =
      for_is own site at j e c next x called f (subst (CountsUp next) (sym q) ups) calls st is stands ls same inside g y l k b

  sweep_meant : (own : ℕ) (site : LoopId) (part : FirstPart) (first : Statement) (c : Expression) (next x : Statement) (called : Bool) → Fits s m written t all called (for_loop own site part first c next x) →
      (st : State) → StateTyped s v m st → (g : PlainTerm) → mean v g ≡ Truth true → (ls : List Datum) → LocalsAre v t ls st.locals → (l : List Invocation) (k : ℕ) → (w : PlainSweep) → sweep_at (for_loop own site part first c next x) ≡ Some w → Meant st g ls l (for_loop own site part first c next x) (Some w) k
  sweep_meant own site part first c next x called f st is g y ls same l k w e =
      let z = forms_are_sweeps (for_loop own site part first c next x) w e in
      let asks : List PlainTerm = term_of p st w.from ∷ term_of p st w.to ∷ [] in
      means_of s v runs m typed written called w (for_loop own site part first c next x) (shown_of w _ z.0) (record { is = z.0; sums = z.1; typed = f.typed; separated = f.separated }) st is t f.counted f.apart (sweep_term p st w) (sweep_means s v st w) ls same l own k
      ∙ ap₂ (λ a b. with_left (hidden t 0 (map (mean v) st.locals), record { own = slots_meant v (with_field st w.field.field (sweep_term p st w)).fields fs; listed = a }) (left b k))
      (sym (ap (λ a. l ++ (a ++ [])) (told s v g (sweeps w.field) asks y) ∙ append-nil l)) (sym (one_asked s v g (sweeps w.field) asks y))

  -- where nothing is swept, the loop is a call loop
  call_known : (b : Bool) (o : Option PlainSweep) (line : ℕ) → (if b then None else if_no_sweep o line) ≡ None → o ≡ None → b ≡ true
  call_known true o line e h = refl
  call_known false None line e h = cc
  call_known false (Some w) line e h = cc

  not_in : (params : ℕ) (x : Statement) → sweep_at x ≡ None → (o : Option PlainSweep) → sweep_in params written x ≡ o → o ≡ None
  not_in params x e None h = refl
  not_in params x e (Some w) h = let no : None ≡ Some w = sym e ∙ sweeps_are_wide params written x w h in cc

  -- each loop of the body does what its demand means
  pub loops_are_meant : LoopsAreMeant s v runs m typed written t all Stands
  loops_are_meant own site part first c next x inside called f st is stands g y ls same l k b = by (sweep_at (for_loop own site part first c next x)) refl
    where
      by : (o : Option PlainSweep) → sweep_at (for_loop own site part first c next x) ≡ o → IsMeant s v runs m typed written t all st g ls l (for_loop own site part first c next x) k
      by (Some w) e = subst (λ o. Meant st g ls l (for_loop own site part first c next x) o k) (sym e) (sweep_meant own site part first c next x called f st is g y ls same l k w e)
      by None e =
          let known : is_call_loop (for_loop own site part first c next x) ≡ true = call_known (is_call_loop (for_loop own site part first c next x)) (sweep_in m.params written (for_loop own site part first c next x)) own f.known (not_in m.params (for_loop own site part first c next x) e (sweep_in m.params written (for_loop own site part first c next x)) refl) in
          let call : IsCallLoopOf part first c next x = (call_loops_are_told (for_loop own site part first c next x)).0 known in
          by_counter own site part first c next x call.counter (begun_of part first call.counter call.begins) call.counts call.calls inside called f st is stands g y ls same l k b

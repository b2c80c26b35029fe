-- A sweep within a body, over terms.
use Rattle.std.proofs.Common.{◌≡◌, ℕ, zero, suc, ◌+◌, ◌-◌, ◌<◌, ◌≤◌, Bool, true, false, List, [], ◌∷◌, length, map, Option, Some, None, ℤ, pos, refl, sym, ap, ap₂, ◌∙◌, arith, subst, slice_set, FitsSigned, w64}
use Rattle.std.specs.Prelude.{slice_get, nat_eq, nat_le, cond, ◌||◌, IsSome}
use Rattle.std.proofs.lemmas.Bool.Decides.{nat_tests}
use Rattle.std.proofs.lemmas.Bool.{eqb-true, or_parts}
use Rattle.std.proofs.lemmas.Int.{SFits-int_wrap}
use Rattle.ca_tree.specs.declared.tree.AssignOp.TheVariants.{Put}
use Rattle.ca_tree.specs.declared.tree.BinaryOp.TheVariants.{Less, Plus}
use Rattle.ca_program.specs.declared.program.FieldId.{FieldId}
use Rattle.ca_program.specs.declared.program.FieldInfo.{FieldInfo}
use Rattle.ca_program.specs.declared.program.LoopId.{LoopId}
use Rattle.ca_program.specs.declared.program.FirstPart.TheVariants.{Declares}
use Rattle.ca_program.specs.declared.program.ValueType.{ValueType}
use Rattle.ca_program.specs.declared.program.ValueType.TheVariants as type
use Rattle.ca_program.specs.Plain.{PlainProgram, PlainMethod, Expression, local, own, binary, Statement, put_local, for_loop}
use Rattle.ca_model.specs.declared.value.Value.{Value as Datum}
use Rattle.ca_model.specs.declared.value.Value.TheVariants.{Long, Bool as Truth, Null, Ref}
use Rattle.ca_model.specs.declared.value.Slot.{Slot}
use Rattle.ca_model.specs.declared.value.Slot.TheVariants.{Many}
use Rattle.ca_model.specs.declared.value.Object.{Object}
use Rattle.ca_model.specs.Typed.{HasType}
use Rattle.ca_meaning.specs.Expressions.{Invocation}
use Rattle.ca_meaning.specs.Flows.{Flow, goes_on, gives_back, stops, runs_out, exec}
use Rattle.ca_meaning.specs.Functions.{functions_of}
use Rattle.ca_meaning.specs.ProgramTyped.{IsArray, field_info, ExpressionTyped, scope_of}
use Rattle.ca_meaning.specs.Sections.{Section, section_place, section_parts}
use Rattle.ca_parallel.specs.Scoped.{names, counts as counts_in, names_outside}
use Rattle.ca_parallel.specs.Separable.{holds_call, IsClean}
use Rattle.ca_norm.specs.Terms.{PlainTerm, truth}
use Rattle.ca_norm.specs.Meanings.{Valuation, number_of, mean}
use Rattle.ca_norm.specs.Environments.{Environment}
use Rattle.ca_symbolic.specs.States.{State, term_at}
use Rattle.ca_symbolic.specs.Execution.{term_of, with_field}
use Rattle.ca_symbolic_laws.specs.Costs.{left_if, left, with_left, value_of, hidden, state_of}
use Rattle.ca_symbolic_laws.specs.Meant.{item_meant, items_meant, slot_meant, slots_meant, TermTyped, FieldsTyped}
use Rattle.ca_symbolic_laws.specs.Demanded.{cost}
use Rattle.ca_symbolic_laws.specs.Laws.{fields_in, Typed, StateTyped, LocalsAre}
use Rattle.ca_symbolic.proofs.Sweeping.{no_demands}
use Rattle.ca_symbolic_laws.proofs.Budgets.{nothing_left}
use Rattle.ca_symbolic_laws.proofs.Runs.{Runs}
use Rattle.ca_symbolic_laws.proofs.Terms.{mean_typed, item_has, own_info}
use Rattle.ca_symbolic_laws.proofs.Expressions.{Unnamed, eval_is}
use Rattle.ca_symbolic_laws.proofs.LoopReads.{hidden_long, mapped_long, typed_long}
use Rattle.ca_sweep.specs.Sweeps.{PlainSweep, Counts, Adds, adds, takes_off, puts_sum, puts_difference, AddsAlone, bare, in_block}
use Rattle.ca_sweep.specs.Means.{sum_value, all_but, Table, items_from, between, swept, operate, added, with_items, sweep_cost, length_in, sweep_cost_of}
use Rattle.ca_sweep.specs.Laws.{GoesOn, Sweeps, sweeps, fails, Stands}
use Rattle.ca_sweep.proofs.Shown.{Shown, shown}
use Rattle.ca_sweep.proofs.Typed.{SweepTyped, SweepClean, sweep_typed, sweep_clean}
use Rattle.ca_sweep.proofs.Sums.{Summed, a_number, a_local, a_field, a_sum, a_product, sum_summed, sum_gives, not_false as not_counter}
use Rattle.ca_sweep.proofs.Runs.{sweeps_are_swept}
use Rattle.ca_symbolic_laws.proofs.SweepPlaces.{MeansSwept, MayStand}
use Rattle.ca_symbolic_laws.proofs.LoopRuns.{hidden_put}

-- Names of a sweep's parts

named_in : (s : PlainSweep) (minus : Bool) (b : Statement) → Adds s.counter s.field s.addend minus b → (n : ℕ) → names_outside b n ≡ false → names s.addend n ≡ false
named_in s _ _ (adds line) n e = (or_parts (nat_eq s.counter.0 n) (names s.addend n) e).1
named_in s _ _ (takes_off line) n e = (or_parts (nat_eq s.counter.0 n) (names s.addend n) e).1
named_in s _ _ (puts_sum line) n e = (or_parts (nat_eq s.counter.0 n) (names s.addend n) ((or_parts (nat_eq s.counter.0 n) _ e).1)).1
named_in s _ _ (puts_difference line) n e = (or_parts (nat_eq s.counter.0 n) (names s.addend n) ((or_parts (nat_eq s.counter.0 n) _ e).1)).1

named_alone : (s : PlainSweep) (minus : Bool) (b : Statement) → AddsAlone s.counter s.field s.addend minus b → (n : ℕ) → names_outside b n ≡ false → names s.addend n ≡ false
named_alone s minus _ (bare b a) n e = named_in s minus b a n e
named_alone s minus _ (in_block line b a) n e = named_in s minus b a n (or_parts (names_outside b n) false e).0

-- a sum doesn't name the counter
unnamed_counter : (i : ℕ) (e : Expression) → Summed (all_but i) e → names e i ≡ false
unnamed_counter i _ (a_number n) = refl
unnamed_counter i _ (a_local l e) = let z : nat_eq i l.0 ≡ nat_eq l.0 i = grind (arith, nat_tests) in sym z ∙ not_counter (nat_eq i l.0) e
unnamed_counter i _ (a_field f e) = refl
unnamed_counter i _ (a_sum a b x y) = ap₂ (λ u w. u || w) (unnamed_counter i a x) (unnamed_counter i b y)
unnamed_counter i _ (a_product a b x y) = ap₂ (λ u w. u || w) (unnamed_counter i a x) (unnamed_counter i b y)

-- Values

is_long : (h : List Object) (d : Datum) → HasType h d type.Long → (d ≡ Long (number_of d)) × FitsSigned w64 (number_of d)
is_long h (Long n) t = (refl, t)
is_long h (Truth b) t = absurd t
is_long h Null t = absurd t
is_long h (Ref r) t = absurd t

first_value : Option (Datum × ℕ) → Datum
first_value None = Null
first_value (Some r) = r.0

gives_value : (v w : Datum) (k j : ℕ) (a b : Option (Datum × ℕ)) → a ≡ Some (v, k) → b ≡ Some (w, j) → a ≡ b → v ≡ w
unfolding first_value
gives_value v w k j a b e f h = ap first_value (sym e ∙ h ∙ f)

-- Slots

items_are : (v : Valuation) (t : PlainTerm) (u : Table) (k n : ℕ) → ((z : ℤ) → item_meant v t z ≡ u z) → items_meant v t k n ≡ items_from u k n
items_are v t u k zero e = refl
items_are v t u k (suc n) e = ap₂ (λ x xs. x ∷ xs) (e (pos k)) (items_are v t u (suc k) n e)

slot_is : (v : Valuation) (ts : List PlainTerm) (fs : List FieldInfo) (f n : ℕ) (ty : ValueType) (h : List Object) → FieldsTyped h v ts fs → IsArray (slice_get fs f) ty → length_in (slice_get fs f) ≡ Some n → slice_get (slots_meant v ts fs) f ≡ Some (Many (items_from (item_meant v (term_at ts f)) 0 n))
slot_is v [] [] f n ty h t a e = absurd a
slot_is v [] (x ∷ fs) f n ty h t a e = absurd t
slot_is v (y ∷ ts) [] f n ty h t a e = absurd a
slot_is v (y ∷ ts) (x ∷ fs) zero n ty h t a e = ap (λ o. Some (slot_meant v y o)) e ∙ ap (λ xs. Some (Many xs)) (items_are v y (item_meant v y) 0 n (λ z. refl))
slot_is v (y ∷ ts) (x ∷ fs) (suc f) n ty h t a e = slot_is v ts fs f n ty h t.1 a e

-- the slots with a term put into one field
slots_set : (v : Valuation) (ts : List PlainTerm) (fs : List FieldInfo) (f n : ℕ) (t : PlainTerm) (u : Table) → length_in (slice_get fs f) ≡ Some n → ((z : ℤ) → item_meant v t z ≡ u z) → with_items (slots_meant v ts fs) f u n ≡ slots_meant v (slice_set ts f t) fs
slots_set v [] [] f n t u e i = refl
slots_set v [] (x ∷ fs) f n t u e i = refl
slots_set v (y ∷ ts) [] zero n t u e i = refl
slots_set v (y ∷ ts) [] (suc f) n t u e i = refl
slots_set v (y ∷ ts) (x ∷ fs) zero n t u e i = ap (λ s. s ∷ slots_meant v ts fs) (ap Many (sym (items_are v t u 0 n i)) ∙ ap (slot_meant v t) (sym e))
slots_set v (y ∷ ts) (x ∷ fs) (suc f) n t u e i = ap (λ ss. slot_meant v y x.length ∷ ss) (slots_set v ts fs f n t u e i)

array_long : (o : Option FieldInfo) (ty : ValueType) → IsArray o ty → (n : ℕ) × (length_in o ≡ Some n)
array_long None ty a = absurd a
array_long (Some f) ty a = some f.length a.1
  where
    some : (o : Option ℕ) → IsSome o → (n : ℕ) × (o ≡ Some n)
    some None i = cc
    some (Some n) i = (n, refl)

pub array_set : (h : List Object) (v : Valuation) (ts : List PlainTerm) (fs : List FieldInfo) (f : ℕ) (t : PlainTerm) (ty : ValueType) → FieldsTyped h v ts fs → IsArray (slice_get fs f) ty → ((z : ℤ) → HasType h (item_meant v t z) ty) → FieldsTyped h v (slice_set ts f t) fs
array_set h v [] [] f t ty k i e = tt
array_set h v [] (x ∷ fs) f t ty k i e = absurd k
array_set h v (y ∷ ts) [] f t ty k i e = absurd k
array_set h v (y ∷ ts) (x ∷ fs) zero t ty k i e = (array_typed x.length i.1, k.1)
  where
    array_typed : (len : Option ℕ) → IsSome len → TermTyped h v t x.ty len
    array_typed None n = cc
    array_typed (Some m) n = λ z. subst (λ y. HasType h (item_meant v t z) y) (sym i.0) (e z)
array_set h v (y ∷ ts) (x ∷ fs) (suc f) t ty k i e = (k.0, array_set h v ts fs f t ty k.1 i e)

-- Locals

there_below : (tys : List ValueType) (i : ℕ) (ty : ValueType) → slice_get tys i ≡ Some ty → i < length tys
there_below [] i ty e = cc
there_below (x ∷ tys) zero ty e = omega arith
there_below (x ∷ tys) (suc i) ty e = let l = there_below tys i ty e in omega (arith, l)

pub le_of : (s k : ℕ) → s ≤ k → nat_le s k ≡ true
le_of s k e = grind (arith, nat_tests)

more_than : (s k : ℕ) → k < s → nat_le s k ≡ false
more_than s k e = grind (arith, nat_tests)

-- what a flow leaves, where it goes on exactly where a cost is met
ended : (t : ℕ → Bool) (s : PlainSweep) (ls : List Datum) (slots : List Slot) (listed : List Invocation) (len : ℕ) (u : Table) (from to : ℤ) (d : Datum) (k : ℕ) (f : Flow Section) → t s.counter.0 ≡ true → Sweeps s ls slots listed len u from to (λ z. d) k f →
    state_of t f ≡ with_left (hidden t 0 ls, record { own = with_items slots s.field.field (swept u from to d) len; listed = listed }) (left (sweep_cost len from to) k)
ended t s ls slots listed len u from to d k _ h (sweeps c n priced within) =
    ap (λ x. Some ((x, record { own = with_items slots s.field.field (swept u from to d) len; listed = listed }), k - n)) (hidden_put t 0 ls s.counter.0 c (let z : 0 + s.counter.0 ≡ s.counter.0 = omega arith in ap t z ∙ h))
    ∙ ap (λ b. with_left (hidden t 0 ls, record { own = with_items slots s.field.field (swept u from to d) len; listed = listed }) (left_if b (k - n))) (sym (le_of n k within))
    ∙ ap (λ o. with_left (hidden t 0 ls, record { own = with_items slots s.field.field (swept u from to d) len; listed = listed }) (left o k)) (sym priced)
ended t s ls slots listed len u from to d k f h (fails _ stays short) =
    gone f stays ∙ ap (with_left (hidden t 0 ls, record { own = with_items slots s.field.field (swept u from to d) len; listed = listed })) (sym (none_left (sweep_cost len from to) short))
  where
    gone : (f : Flow Section) → ¬ GoesOn f → state_of t f ≡ None
    gone (goes_on ls q k) n = absurd (n tt)
    gone (gives_back v q k) n = refl
    gone (stops e q) n = refl
    gone (runs_out q) n = refl

    none_left : (c : Option ℕ) → ((n : ℕ) → c ≡ Some n → k < n) → left c k ≡ None
    none_left None l = refl
    none_left (Some n) l = ap (λ b. left_if b (k - n)) (more_than n k (l n refl))

operate_long : (h : List Object) (a b : Datum) → HasType h a type.Long → HasType h b type.Long → HasType h (operate Plus a b) type.Long
operate_long h (Long a) (Long b) t u = SFits-int_wrap w64 _
operate_long h (Long a) (Truth b) t u = absurd u
operate_long h (Long a) Null t u = absurd u
operate_long h (Long a) (Ref b) t u = absurd u
operate_long h (Truth a) e t u = absurd t
operate_long h Null e t u = absurd t
operate_long h (Ref a) e t u = absurd t

added_long : (h : List Object) (minus : Bool) (a : Datum) → HasType h a type.Long → HasType h (added minus a) type.Long
added_long h false a t = t
added_long h true (Long a) t = SFits-int_wrap w64 _
added_long h true (Truth b) t = absurd t
added_long h true Null t = absurd t
added_long h true (Ref r) t = absurd t

cond_long : (h : List Object) (b : Bool) (x y : Datum) → HasType h x type.Long → HasType h y type.Long → HasType h (cond b x y) type.Long
cond_long h true x y t u = t
cond_long h false x y t u = u

module _ (s : Environment) (v : Valuation) (in_run : Runs s v) (m : PlainMethod) (typed : Typed s m) (written : List FieldId) (called : Bool) (w : PlainSweep)
    (own_line : ℕ) (site : LoopId) (at_line : ℕ) (next body : Statement) (counts : Counts w.counter next) (alone : AddsAlone w.counter w.field w.addend w.minus body)
    (may : MayStand s m written called w (for_loop own_line site Declares (put_local at_line w.counter Put w.from) (binary Less (local w.counter) w.to) next body))
    (st : State) (is : StateTyped s v m st) where
  abbrev p : PlainProgram
  p = s.program

  abbrev fs : List FieldInfo
  fs = fields_in s m.class

  abbrev loop : Statement
  loop = for_loop own_line site Declares (put_local at_line w.counter Put w.from) (binary Less (local w.counter) w.to) next body

  abbrev looped : Bool
  looped = called || holds_call loop

  typed_so : SweepTyped p (scope_of m) w
  typed_so = sweep_typed p (scope_of m) w loop (shown own_line site at_line next body counts alone) may.typed

  clean : SweepClean p written looped w
  clean = sweep_clean p written called w loop (shown own_line site at_line next body counts alone) may.separated

  array_is : IsArray (slice_get fs w.field.field) type.Long
  array_is = own_info s v in_run m typed st is written called w.field (λ o. IsArray o type.Long) typed_so.part.target.1 typed_so.part.array

  long_is : length_in (slice_get fs w.field.field) ≡ length_in (field_info p w.field)
  long_is = own_info s v in_run m typed st is written called w.field (λ o. length_in o ≡ length_in (field_info p w.field)) typed_so.part.target.1 refl

  abbrev old : PlainTerm
  old = term_at st.fields w.field.field

  old_typed : (z : ℤ) → HasType s.heap (item_meant v old z) type.Long
  old_typed z = item_has s.heap v st.fields fs w.field.field type.Long is.fields array_is z

  from_long : HasType s.heap (mean v (term_of p st w.from)) type.Long
  from_long = mean_typed s v in_run m typed st is written looped w.from type.Long typed_so.from clean.from

  to_long : HasType s.heap (mean v (term_of p st w.to)) type.Long
  to_long = mean_typed s v in_run m typed st is written looped w.to type.Long typed_so.to clean.to

  addend_long : HasType s.heap (mean v (term_of p st w.addend)) type.Long
  addend_long = mean_typed s v in_run m typed st is written looped w.addend type.Long typed_so.part.addend clean.addend

  -- a term of the swept array is typed
  pub typed_behind : (x : PlainTerm) → MeansSwept s v st w x → StateTyped s v m (with_field st w.field.field x)
  typed_behind x means = record {
    fields = array_set s.heap v st.fields fs w.field.field x type.Long is.fields array_is (λ z. subst (λ d. HasType s.heap d type.Long) (sym (means z))
        (cond_long s.heap (between (number_of (mean v (term_of p st w.from))) (number_of (mean v (term_of p st w.to))) z) _ _ (operate_long s.heap (item_meant v old z) _ (old_typed z) (added_long s.heap w.minus _ addend_long)) (old_typed z)));
    locals = is.locals;
  }

  module _ (t : ℕ → Bool) (counted : (n : ℕ) → counts_in loop n ≡ true → t n ≡ true) (apart : (n : ℕ) → t n ≡ true → names_outside loop n ≡ false) where
    -- Who is hidden

    hides : t w.counter.0 ≡ true
    hides = counted w.counter.0 (first_or (nat_eq w.counter.0 w.counter.0) _ (let z : nat_eq w.counter.0 w.counter.0 ≡ true = grind (arith, nat_tests) in z))
      where
        first_or : (a b : Bool) → a ≡ true → a || b ≡ true
        first_or a b e = rw e refl

    outside : (n : ℕ) → t n ≡ true → (names w.from n ≡ false) × (nat_eq w.counter.0 n ≡ false → (names w.to n ≡ false) × (names w.addend n ≡ false))
    outside n e =
        let both = or_parts (names w.from n) (cond (nat_eq w.counter.0 n) false (names (binary Less (local w.counter) w.to) n || (names_outside next n || names_outside body n))) (apart n e) in (
          both.0,
          λ o.
              let all = sym (ap (λ b. cond b false (names (binary Less (local w.counter) w.to) n || (names_outside next n || names_outside body n))) o) ∙ both.1 in
              let two = or_parts (names (binary Less (local w.counter) w.to) n) (names_outside next n || names_outside body n) all in
              ((or_parts (nat_eq w.counter.0 n) (names w.to n) two.0).1, named_alone w w.minus body alone n ((or_parts (names_outside next n) (names_outside body n) two.1).1)),
        )

    unnamed : (x : Expression) → Summed (all_but w.counter.0) x → ((n : ℕ) → t n ≡ true → nat_eq w.counter.0 n ≡ false → names x n ≡ false) → Unnamed t (names x)
    unnamed x sum h n e = by (nat_eq w.counter.0 n) refl
      where
        by : (b : Bool) → nat_eq w.counter.0 n ≡ b → names x n ≡ false
        by true q = ap (names x) (sym (eqb-true w.counter.0 n q)) ∙ unnamed_counter w.counter.0 x sum
        by false q = h n e q

    module _ (ls : List Datum) (same : LocalsAre v t ls st.locals) where
      value_is : (x : Expression) → Summed (all_but w.counter.0) x → ExpressionTyped p (scope_of m) x type.Long → IsClean p written looped x → Unnamed t (names x) → sum_value (slots_meant v st.fields fs) ls x ≡ mean v (term_of p st x)
      value_is x sum ty clean u =
          gives_value _ _ 0 0 _ _ (ap value_of (sum_gives (all_but w.counter.0) (functions_of p.functions s.heap).call (section_place s.heap (Ref s.receiver) (slots_meant v st.fields fs) 0 ls) x sum 0))
          (eval_is s v in_run m typed st is written looped t ls same 0 x type.Long ty clean u (truth true) refl 0 (omega arith)
          ∙ ap (λ ds. with_left (mean v (term_of p st x)) (left (cost s v ds) 0)) (no_demands (all_but w.counter.0) p st (truth true) x sum)
          ∙ ap (with_left (mean v (term_of p st x))) (nothing_left 0)) refl

      sum_from : Summed (all_but w.counter.0) w.from
      sum_from = sum_summed (all_but w.counter.0) w.from may.sums.0

      sum_to : Summed (all_but w.counter.0) w.to
      sum_to = sum_summed (all_but w.counter.0) w.to may.sums.1

      sum_addend : Summed (all_but w.counter.0) w.addend
      sum_addend = sum_summed (all_but w.counter.0) w.addend may.sums.2

      abbrev from : ℤ
      from = number_of (mean v (term_of p st w.from))

      abbrev to : ℤ
      to = number_of (mean v (term_of p st w.to))

      abbrev x : ℤ
      x = number_of (mean v (term_of p st w.addend))

      below : w.counter.0 < length ls
      below =
          let long : length ls ≡ length m.body.locals = sym (hidden_long t 0 ls) ∙ ap length same ∙ hidden_long t 0 (map (mean v) st.locals) ∙ mapped_long v st.locals ∙ typed_long s.heap v st.locals m.body.locals is.locals in
          let there = there_below m.body.locals w.counter.0 may.typed.0.0 may.typed.0.1 in
          omega (arith, long, there)

      stands : (n : ℕ) → length_in (slice_get fs w.field.field) ≡ Some n → Stands w ls (slots_meant v st.fields fs) n (item_meant v old) from to x
      stands n e = record {
        slot = slot_is v st.fields fs w.field.field n type.Long s.heap is.fields array_is e;
        longs = λ i l. let z = is_long s.heap (item_meant v old (pos i)) (old_typed (pos i)) in (number_of (item_meant v old (pos i)), z.0);
        counter = below;
        sums = may.sums;
        from_is = value_is w.from sum_from typed_so.from clean.from (λ n e. (outside n e).0) ∙ (is_long s.heap _ from_long).0;
        to_is = value_is w.to sum_to typed_so.to clean.to (unnamed w.to sum_to (λ n e o. ((outside n e).1 o).0)) ∙ (is_long s.heap _ to_long).0;
        addend_is = value_is w.addend sum_addend typed_so.part.addend clean.addend (unnamed w.addend sum_addend (λ n e o. ((outside n e).1 o).1)) ∙ (is_long s.heap _ addend_long).0;
        to_fits = (is_long s.heap _ to_long).1;
      }

      pub means_so : (y : PlainTerm) → MeansSwept s v st w y → (listed : List Invocation) (line k : ℕ) →
          state_of t (exec (section_parts p s.heap (Ref s.receiver)) line ls (record { own = slots_meant v st.fields fs; listed = listed }) loop k)
          ≡ with_left (hidden t 0 (map (mean v) (with_field st w.field.field y).locals), record { own = slots_meant v (with_field st w.field.field y).fields fs; listed = listed }) (left (sweep_cost_of (length_in (field_info p w.field)) (mean v (term_of p st w.from)) (mean v (term_of p st w.to))) k)
      means_so y means listed line k =
          let n : ℕ = (array_long (slice_get fs w.field.field) type.Long array_is).0 in
          let e : length_in (slice_get fs w.field.field) ≡ Some n = (array_long (slice_get fs w.field.field) type.Long array_is).1 in
          let d : Datum = added w.minus (Long x) in
          let table : Table = swept (item_meant v old) from to d in
          let runs_so = sweeps_are_swept p s.heap (Ref s.receiver) line w loop may.is ls (slots_meant v st.fields fs) listed n (item_meant v old) from to x (stands n e) k in
          let added_so : added w.minus (mean v (term_of p st w.addend)) ≡ d = ap (added w.minus) (is_long s.heap _ addend_long).0 in
          let items : (z : ℤ) → item_meant v y z ≡ table z = λ z. means z ∙ ap (λ a. swept (item_meant v old) from to a z) added_so in
          ended t w ls (slots_meant v st.fields fs) listed n (item_meant v old) from to d k _ hides runs_so
          ∙ ap₂ (λ a b. with_left (a, record { own = b; listed = listed }) (left (sweep_cost n from to) k)) same (slots_set v st.fields fs w.field.field n y table e items)
          ∙ ap (λ o. with_left (hidden t 0 (map (mean v) st.locals), record { own = slots_meant v (with_field st w.field.field y).fields fs; listed = listed }) (left o k))
          (ap₂ (sweep_cost_of (Some n)) (sym (is_long s.heap _ from_long).0) (sym (is_long s.heap _ to_long).0) ∙ ap (λ o. sweep_cost_of o (mean v (term_of p st w.from)) (mean v (term_of p st w.to))) (sym e ∙ long_is))

pub means_of : (s : Environment) (v : Valuation) → Runs s v → (m : PlainMethod) → Typed s m → (written : List FieldId) (called : Bool) (w : PlainSweep) (loop : Statement) → Shown w loop → MayStand s m written called w loop →
    (st : State) → StateTyped s v m st → (t : ℕ → Bool) → ((n : ℕ) → counts_in loop n ≡ true → t n ≡ true) → ((n : ℕ) → t n ≡ true → names_outside loop n ≡ false) → (y : PlainTerm) → MeansSwept s v st w y → (ls : List Datum) → LocalsAre v t ls st.locals → (listed : List Invocation) (line k : ℕ) →
    state_of t (exec (section_parts s.program s.heap (Ref s.receiver)) line ls (record { own = slots_meant v st.fields (fields_in s m.class); listed = listed }) loop k)
    ≡ with_left (hidden t 0 (map (mean v) (with_field st w.field.field y).locals), record { own = slots_meant v (with_field st w.field.field y).fields (fields_in s m.class); listed = listed })
    (left (sweep_cost_of (length_in (field_info s.program w.field)) (mean v (term_of s.program st w.from)) (mean v (term_of s.program st w.to))) k)
means_of s v in_run m typed written called w _ (shown own_line site at_line next body counts alone) may st is t counted apart y means ls same listed line k =
    means_so s v in_run m typed written called w own_line site at_line next body counts alone may st is t counted apart ls same y means listed line k

pub typed_of : (s : Environment) (v : Valuation) → Runs s v → (m : PlainMethod) → Typed s m → (written : List FieldId) (called : Bool) (w : PlainSweep) (loop : Statement) → Shown w loop → MayStand s m written called w loop →
    (st : State) → StateTyped s v m st → (y : PlainTerm) → MeansSwept s v st w y → StateTyped s v m (with_field st w.field.field y)
typed_of s v in_run m typed written called w _ (shown own_line site at_line next body counts alone) may st is y means =
    typed_behind s v in_run m typed written called w own_line site at_line next body counts alone may st is y means

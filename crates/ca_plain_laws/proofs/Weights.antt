-- No term of a plain pair is too heavy. An update adds at most 803 nodes to a field, no more products than nodes, and one
-- level; the two bodies have 64 statements at most, so a field comes to 51,393 nodes at most, and to 466 levels.
use Rattle.std.proofs.Common.{◌≡◌, ◌≤◌, ℕ, zero, suc, ◌+◌, ◌*◌, Bool, true, false, List, [], ◌∷◌, ◌++◌, map, take, drop, pos, refl, sym, ap, ap₂, ◌∙◌, arith, subst, slice_set}
use Rattle.std.specs.Prelude.{slice_get, nat_lt, ◌||◌, flat_map, Option, Some}
use Rattle.std.specs.List.{list_any}
use Rattle.std.proofs.lemmas.Bool.Decides.{nat_tests}
use Rattle.std.proofs.lemmas.List.Folds.{list_any-append}
use Rattle.ca_program.specs.declared.program.FieldId.{FieldId}
use Rattle.ca_program.specs.declared.program.FieldInfo.{FieldInfo}
use Rattle.ca_program.specs.declared.program.OpId.{OpId}
use Rattle.ca_program.specs.declared.program.ValueType.{ValueType}
use Rattle.ca_program.specs.declared.program.ValueType.TheVariants as type
use Rattle.ca_program.specs.Plain.{PlainProgram, PlainMethod, Expression, Expressions, no_expressions, expression_and, Statement, Statements}
use Rattle.ca_meaning.specs.Functions.{body_of}
use Rattle.ca_parallel.specs.Extents.{operation_body}
use Rattle.ca_norm.specs.Terms.{PlainTerm, mul, truth, neg}
use Rattle.ca_norm.specs.Weights.{spread, nodes, depth, weight_of}
use Rattle.ca_shared_terms.specs.Starts.{sort_of_type, sort_of_slot, starts}
use Rattle.ca_symbolic.specs.States.{State, term_at, PlainDemand, start_term, parameters, first_locals}
use Rattle.ca_symbolic.specs.Execution.{term_of, addend_term, after, after_all}
use Rattle.ca_symbolic.specs.Demands.{terms_in, demanded_all}
use Rattle.ca_symbolic.specs.Made.{steps_made_all, made_by}
use Rattle.ca_symbolic.specs.Runs.{begins, executed, is_heavy_by}
use Rattle.ca_shared_terms.specs.Heavy.{is_heavy}
use Rattle.ca_plain_laws.specs.PlainPairs.{IsShortSum, AreShortSums, IsConstant, Kind, IsUpdateOf, adds, takes_off, puts_sum, puts_difference, multiplies, puts_product, joins, puts_joined, adds_to_item, puts_item_sum, takes_off_item, puts_item_difference, adds_to_range, puts_literal, AreCalls, no_calls, call_and, AreUpdatesAndCalls, calls, update_and, count_of, IsPlain}
use Rattle.ca_plain_laws.specs.Laws.{IsLight, PlainPairsAreLight}
use Rattle.ca_plain_laws.proofs.Atoms.{IsSimple, simple_number, simple_truth, simple_null, simple_atom, one_node, one_product, one_deep, IsBegun, Agree, literal_simple, atom_simple, sum_is_small, atom_unguarded, sums_unguarded}
use Rattle.ca_plain_laws.proofs.Updates.{Change, plus, minus, by, with_operator, at, over, to, changed, change_of, after_is}
use Rattle.ca_plain_laws.proofs.Kept.{after_agrees, body_agrees, calls_keep}
use Rattle.ca_plain_laws.proofs.Asked.{asked, demanded_is, call_is, step_is}

-- Terms

-- the term of a short sum, or its negation
pub record IsLow (t : PlainTerm) : Type 0 where
  pub nodes_few : nodes t ≤ 401
  pub spread_few : spread t ≤ nodes t
  pub depth_few : depth t ≤ 401

-- the term of a field behind k updates
pub record IsBounded (k : ℕ) (t : PlainTerm) : Type 0 where
  pub nodes_few : nodes t ≤ 1 + 803 * k
  pub spread_few : spread t ≤ nodes t
  pub depth_few : depth t ≤ 402 + k

abbrev IsFine : Change → Type 0
IsFine (plus x) = IsLow x
IsFine (minus x) = IsLow x
IsFine (by x) = IsSimple x
IsFine (with_operator o x) = IsLow x
IsFine (at i x) = IsLow i × IsLow x
IsFine (over f t x) = IsSimple f × IsSimple t × IsLow x
IsFine (to x) = IsSimple x

pub not_above : (n : ℕ) → n ≤ 65536 → nat_lt 65536 n ≡ false
not_above n l = grind (arith, nat_tests)

low_light : (t : PlainTerm) → IsLow t → is_heavy t ≡ false
low_light t h = not_above (weight_of t) (omega (arith, h.nodes_few, h.spread_few, h.depth_few))

bounded_light : (k : ℕ) (t : PlainTerm) → IsBounded k t → k ≤ 64 → is_heavy t ≡ false
bounded_light k t h l = not_above (weight_of t) (omega (arith, h.nodes_few, h.spread_few, h.depth_few, l))

fields_light : (k : ℕ) (ts : List PlainTerm) → k ≤ 64 → ((n : ℕ) → IsBounded k (term_at ts n)) → list_any is_heavy ts ≡ false
fields_light k [] l h = refl
fields_light k (t ∷ ts) l h = ap₂ (λ a b. a || b) (bounded_light k t (h 0) l) (fields_light k ts l (λ n. h (suc n)))

simple_bounded : (k : ℕ) (t : PlainTerm) → IsSimple t → IsBounded k t
simple_bounded k t h = record {
  nodes_few = omega (arith, one_node h);
  spread_few = omega (arith, one_node h, one_product h);
  depth_few = omega (arith, one_deep h);
}

simple_low : (t : PlainTerm) → IsSimple t → IsLow t
simple_low t h = record {
  nodes_few = omega (arith, one_node h);
  spread_few = omega (arith, one_node h, one_product h);
  depth_few = omega (arith, one_deep h);
}

bounded_more : (k l : ℕ) (t : PlainTerm) → k ≤ l → IsBounded k t → IsBounded l t
bounded_more k l t m h = record {
  nodes_few = omega (arith, m, h.nodes_few);
  spread_few = h.spread_few;
  depth_few = omega (arith, m, h.depth_few);
}

times_one : (t x : PlainTerm) → spread x ≡ 1 → spread (mul t x) ≡ spread t
times_one t x e = let one : spread t * 1 ≡ spread t = omega arith in ap (λ n. spread t * n) e ∙ one

bounded_changed : (c : Change) (k : ℕ) (t : PlainTerm) → IsFine c → IsBounded k t → IsBounded (suc k) (changed c t)
bounded_changed (plus x) k t h g = record {
  nodes_few = omega (arith, h.nodes_few, g.nodes_few);
  spread_few = omega (arith, h.spread_few, g.spread_few);
  depth_few = omega (arith, h.depth_few, g.depth_few);
}
bounded_changed (minus x) k t h g = record {
  nodes_few = omega (arith, h.nodes_few, g.nodes_few);
  spread_few = omega (arith, h.spread_few, g.spread_few);
  depth_few = omega (arith, h.depth_few, g.depth_few);
}
bounded_changed (by x) k t h g = record {
  nodes_few = omega (arith, one_node h, g.nodes_few);
  spread_few = omega (arith, times_one t x (one_product h), g.spread_few);
  depth_few = omega (arith, one_deep h, g.depth_few);
}
bounded_changed (with_operator o x) k t h g = record {
  nodes_few = omega (arith, h.nodes_few, g.nodes_few);
  spread_few = omega (arith, h.spread_few, g.spread_few);
  depth_few = omega (arith, h.depth_few, g.depth_few);
}
bounded_changed (at i x) k t h g = record {
  nodes_few = omega (arith, h.0.nodes_few, h.1.nodes_few, g.nodes_few);
  spread_few = omega (arith, h.0.spread_few, h.1.spread_few, g.spread_few);
  depth_few = omega (arith, h.0.depth_few, h.1.depth_few, g.depth_few);
}
bounded_changed (over f u x) k t h g = record {
  nodes_few = omega (arith, one_node h.0, one_node h.1, h.2.nodes_few, g.nodes_few);
  spread_few = omega (arith, one_node h.0, one_node h.1, one_product h.0, one_product h.1, h.2.spread_few, g.spread_few);
  depth_few = omega (arith, one_deep h.0, one_deep h.1, h.2.depth_few, g.depth_few);
}
bounded_changed (to x) k t h g = simple_bounded (suc k) x h

-- Lists

abbrev AllLight : List PlainTerm → Type 0
AllLight [] = Unit {0}
AllLight (t ∷ ts) = (is_heavy t ≡ false) × AllLight ts

light_append : (ts us : List PlainTerm) → AllLight ts → AllLight us → AllLight (ts ++ us)
light_append [] us g h = h
light_append (t ∷ ts) us g h = (g.0, light_append ts us g.1 h)

light_any : (ts : List PlainTerm) → AllLight ts → list_any is_heavy ts ≡ false
light_any [] h = refl
light_any (t ∷ ts) h = ap₂ (λ a b. a || b) h.0 (light_any ts h.1)

abbrev AllParts : List PlainDemand → Type 0
AllParts [] = Unit {0}
AllParts (d ∷ ds) = AllLight d.parts × AllParts ds

parts_append : (ds es : List PlainDemand) → AllParts ds → AllParts es → AllParts (ds ++ es)
parts_append [] es g h = h
parts_append (d ∷ ds) es g h = (g.0, parts_append ds es g.1 h)

parts_light : (ds : List PlainDemand) → AllParts ds → AllLight (flat_map (λ d. d.parts) ds)
parts_light [] h = tt
parts_light (d ∷ ds) h = light_append d.parts (flat_map (λ e. e.parts) ds) h.0 (parts_light ds h.1)

module _ (Good : PlainTerm → Type 0) where
  -- a list in which a good term is put
  set_good : (ts : List PlainTerm) (n k : ℕ) (t : PlainTerm) → Good t → ((i : ℕ) → Good (term_at ts i)) → Good (term_at (slice_set ts n t) k)
  set_good [] n k t h g = g k
  set_good (u ∷ ts) zero zero t h g = h
  set_good (u ∷ ts) zero (suc k) t h g = g (suc k)
  set_good (u ∷ ts) (suc n) zero t h g = g zero
  set_good (u ∷ ts) (suc n) (suc k) t h g = set_good ts n k t h (λ i. g (suc i))

-- The terms that an operation begins with

start_simple : (ty : ValueType) → IsSimple (start_term ty)
start_simple type.Long = simple_number (pos 0)
start_simple type.Bool = simple_truth false
start_simple (type.Pointer c) = simple_null

others_simple : (tys : List ValueType) (n : ℕ) → IsSimple (term_at (map start_term tys) n)
others_simple [] n = simple_null
others_simple (ty ∷ tys) zero = start_simple ty
others_simple (ty ∷ tys) (suc n) = others_simple tys n

parameters_simple : (g k : ℕ) (tys us : List ValueType) (n : ℕ) → IsSimple (term_at (parameters g k tys ++ map start_term us) n)
parameters_simple g k [] us n = others_simple us n
parameters_simple g k (ty ∷ tys) us zero = simple_atom (sort_of_type ty) g k
parameters_simple g k (ty ∷ tys) us (suc n) = parameters_simple g (k + 1) tys us n

pub starts_simple : (k : ℕ) (fs : List FieldInfo) (n : ℕ) → IsSimple (term_at (starts k fs) n)
starts_simple k [] n = simple_null
starts_simple k (f ∷ fs) zero = simple_atom (sort_of_slot f.ty f.length) 3 k
starts_simple k (f ∷ fs) (suc n) = starts_simple (k + 1) fs n

-- the fields behind k updates
pub record AreBounded (k : ℕ) (s : State) : Type 0 where
  pub bounded : (n : ℕ) → IsBounded k (term_at s.fields n)

module _ (p : PlainProgram) (written : List FieldId) (m : PlainMethod) where
  begun_with : (s t : State) → Agree written m s t → IsBegun written m t → IsBegun written m s
  begun_with s t h g = record {
    locals = λ n. subst (λ ts. IsSimple (term_at ts n)) (sym h.locals) (g.locals n);
    constants = λ f c. subst IsSimple (sym (h.constants f c)) (g.constants f c);
  }

  short_low : (s : State) {e : Expression} → IsBegun written m s → IsShortSum written m e → IsLow (term_of p s e)
  short_low s h g =
      let small = sum_is_small p written m s h g.0 in
      record {
        nodes_few = omega (arith, small.nodes_are, g.1);
        spread_few = omega (arith, small.nodes_are, small.spread_few);
        depth_few = omega (arith, small.depth_few, g.1);
      }

  negation_low : (s : State) {e : Expression} → IsBegun written m s → IsShortSum written m e → IsLow (neg (term_of p s e))
  negation_low s h g =
      let small = sum_is_small p written m s h g.0 in
      record {
        nodes_few = omega (arith, small.nodes_are, g.1);
        spread_few = omega (arith, small.nodes_are, small.spread_few);
        depth_few = omega (arith, small.depth_few, g.1);
      }

  addend_low : (minus : Bool) (t : PlainTerm) → IsSimple t → IsLow (addend_term minus t)
  addend_low false t h = simple_low t h
  addend_low true t h = record {
    nodes_few = omega (arith, one_node h);
    spread_few = omega (arith, one_node h, one_product h);
    depth_few = omega (arith, one_deep h);
  }

  fine_change : (s : State) {f : FieldId} {k : Kind} {x : Statement} → IsBegun written m s → (u : IsUpdateOf written m f k x) → IsFine (change_of p written m s u)
  fine_change s h (adds line e g) = short_low s h g
  fine_change s h (takes_off line e g) = short_low s h g
  fine_change s h (puts_sum line e g) = short_low s h g
  fine_change s h (puts_difference line e g) = short_low s h g
  fine_change s h (multiplies line e g) = atom_simple p written m s h g
  fine_change s h (puts_product line e g) = atom_simple p written m s h g
  fine_change s h (joins line o a e i g) = short_low s h g
  fine_change s h (puts_joined line o e g) = short_low s h g
  fine_change s h (adds_to_item line i e g k) = (short_low s h g, short_low s h k)
  fine_change s h (puts_item_sum line i e g k) = (short_low s h g, short_low s h k)
  fine_change s h (takes_off_item line i e g k) = (short_low s h g, negation_low s h k)
  fine_change s h (puts_item_difference line i e g k) = (short_low s h g, negation_low s h k)
  fine_change s h (adds_to_range w i e f t d) =
      (atom_simple p written m s h f.0, atom_simple p written m s h t.0, addend_low w.minus (term_of p s w.addend) (atom_simple p written m s h d.0))
  fine_change s h (puts_literal line e g) = literal_simple p written m s g

  one_step : (k : ℕ) (s : State) {f : FieldId} {q : Kind} {x : Statement} → IsBegun written m s → AreBounded k s → (u : IsUpdateOf written m f q x) → IsBounded (suc k) (changed (change_of p written m s u) (term_at s.fields f.field))
  one_step k s {f} h g u = bounded_changed (change_of p written m s u) k (term_at s.fields f.field) (fine_change s h u) (g.bounded f.field)

  after_bounded : (k : ℕ) (s : State) {f : FieldId} {q : Kind} {x : Statement} → IsBegun written m s → AreBounded k s → IsUpdateOf written m f q x → AreBounded (suc k) (after p s x)
  after_bounded k s {f} h g u =
      subst (AreBounded (suc k)) (sym (after_is p written m s u))
      (record { bounded = λ n. set_good (IsBounded (suc k)) s.fields f.field n (changed (change_of p written m s u) (term_at s.fields f.field)) (one_step k s h g u) (λ i. bounded_more k (suc k) (term_at s.fields i) (omega arith) (g.bounded i)) })

  asked_light : (s : State) (g : PlainTerm) {f : FieldId} {k : Kind} {x : Statement} → IsBegun written m s → (u : IsUpdateOf written m f k x) → AllParts (asked p written m s g u)
  asked_light s g h (adds line e k) = tt
  asked_light s g h (takes_off line e k) = tt
  asked_light s g h (puts_sum line e k) = tt
  asked_light s g h (puts_difference line e k) = tt
  asked_light s g h (multiplies line e k) = tt
  asked_light s g h (puts_product line e k) = tt
  asked_light s g h (joins line o a e i k) = tt
  asked_light s g h (puts_joined line o e k) = tt
  asked_light s g h (adds_to_item line i e k l) = ((low_light (term_of p s i) (short_low s h k), tt), tt)
  asked_light s g h (puts_item_sum line i e k l) =
      ((low_light (term_of p s i) (short_low s h k), tt), ((low_light (term_of p s i) (short_low s h k), tt), tt))
  asked_light s g h (takes_off_item line i e k l) = ((low_light (term_of p s i) (short_low s h k), tt), tt)
  asked_light s g h (puts_item_difference line i e k l) =
      ((low_light (term_of p s i) (short_low s h k), tt), ((low_light (term_of p s i) (short_low s h k), tt), tt))
  asked_light s g h (adds_to_range w i e f t d) =
      ((low_light (term_of p s w.from) (simple_low (term_of p s w.from) (atom_simple p written m s h f.0)), (low_light (term_of p s w.to) (simple_low (term_of p s w.to) (atom_simple p written m s h t.0)), tt)), tt)
  asked_light s g h (puts_literal line e k) = tt

  arguments_light : (s : State) (es : Expressions) → IsBegun written m s → AreShortSums written m es → AllLight (terms_in p s es)
  arguments_light s no_expressions h g = tt
  arguments_light s (expression_and e es) h g = (low_light (term_of p s e) (short_low s h g.0), arguments_light s es h g.1)

  -- a body that is begun behind k updates
  module _ (kinds : ℕ → Kind) where
    calls_light : (s : State) (g : PlainTerm) {xs : Statements} → IsBegun written m s → AreCalls written m xs → AllLight (steps_made_all p s g xs) × AllParts (demanded_all p s g xs)
    calls_light s g h no_calls = (tt, tt)
    calls_light s g h (call_and {xs} line e op arguments a k c) =
        let rest = calls_light s g h c in
        let receiver : is_heavy (term_of p s e) ≡ false = low_light (term_of p s e) (simple_low (term_of p s e) (atom_simple p written m s h a)) in (
          subst (λ ts. AllLight (ts ++ steps_made_all p s g xs)) (sym (ap₂ (λ ts us. ts ++ us) (atom_unguarded p written m s g a) (sums_unguarded p written m s g arguments k))) rest.0,
          subst (λ ds. AllParts (ds ++ demanded_all p s g xs)) (sym (call_is p written m s g line e op arguments a k)) ((receiver, tt), ((receiver, arguments_light s arguments h k), rest.1)),
        )

    body_light : (k : ℕ) (s : State) (g : PlainTerm) {xs : Statements} → IsBegun written m s → AreBounded k s → k + count_of xs ≤ 64 → AreUpdatesAndCalls written m kinds xs → AllLight (steps_made_all p s g xs) × AllParts (demanded_all p s g xs)
    body_light k s g h b l (calls c) = calls_light s g h c
    body_light k s g h b l (update_and {x} {xs} f w u d) =
        let rest = body_light (suc k) (after p s x) g (begun_with (after p s x) s (after_agrees p written m s f w u) h) (after_bounded k s h b u) (omega (arith, l)) d in (
          subst (λ ts. AllLight (ts ++ steps_made_all p (after p s x) g xs)) (sym (step_is p written m s g u)) (bounded_light (suc k) _ (one_step k s h b u) (omega (arith, l)), rest.0),
          subst (λ ds. AllParts (ds ++ demanded_all p (after p s x) g xs)) (sym (demanded_is p written m s g u)) (parts_append (asked p written m s g u) (demanded_all p (after p s x) g xs) (asked_light s g h u) rest.1),
        )

    body_bounded : (k : ℕ) (s : State) {xs : Statements} → IsBegun written m s → AreBounded k s → AreUpdatesAndCalls written m kinds xs → AreBounded (k + count_of xs) (after_all p s xs)
    body_bounded k s {xs} h b (calls c) = subst (AreBounded (k + count_of xs)) (sym (calls_keep p written m s c)) (record { bounded = λ n. bounded_more k (k + count_of xs) (term_at s.fields n) (omega arith) (b.bounded n) })
    body_bounded k s h b (update_and {x} {xs} f w u d) =
        let more : suc k + count_of xs ≡ k + suc (count_of xs) = omega arith in
        subst (λ n. AreBounded n (after_all p (after p s x) xs)) more (body_bounded (suc k) (after p s x) (begun_with (after p s x) s (after_agrees p written m s f w u) h) (after_bounded k s h b u) d)

    all_light : (k : ℕ) (s : State) (g : PlainTerm) {xs : Statements} → IsBegun written m s → AreBounded k s → k + count_of xs ≤ 64 → AreUpdatesAndCalls written m kinds xs → list_any is_heavy (made_by p s g xs) ≡ false
    all_light k s g {xs} h b l d =
        let made = body_light k s g h b l d in
        light_any (made_by p s g xs) (light_append (steps_made_all p s g xs) (flat_map (λ e. e.parts) (demanded_all p s g xs)) made.0 (parts_light (demanded_all p s g xs) made.1))

-- An operation whose body is such a body

first_simple : (g : ℕ) (m : PlainMethod) (n : ℕ) → IsSimple (term_at (first_locals g (Some m)) n)
first_simple g m n = parameters_simple g 0 (take m.params m.body.locals) (drop m.params m.body.locals) n

module _ (p : PlainProgram) (written : List FieldId) (kinds : ℕ → Kind) (m : PlainMethod) (op : OpId) (g : ℕ) (found : slice_get p.ops op.0 ≡ Some m) (plain : IsPlain written kinds m) (fields : List PlainTerm) where
  pub body_found : operation_body p op ≡ m.body.statements
  body_found = ap body_of found

  pub operation_begun : ((f : FieldId) → IsConstant written m f → IsSimple (term_at fields f.field)) → IsBegun written m (begins p op g fields)
  operation_begun h = record {
    locals = λ n. subst (λ (o : Option PlainMethod). IsSimple (term_at (first_locals g o) n)) (sym found) (first_simple g m n);
    constants = h;
  }

  operation_light : (k : ℕ) → IsBegun written m (begins p op g fields) → AreBounded k (begins p op g fields) → k ≤ 32 → is_heavy_by p op g fields ≡ false
  operation_light k h b l =
      let made : list_any is_heavy (made_by p (begins p op g fields) (truth true) (operation_body p op)) ≡ false =
      subst (λ xs. list_any is_heavy (made_by p (begins p op g fields) (truth true) xs) ≡ false) (sym body_found) (all_light p written m kinds k (begins p op g fields) (truth true) h b (omega (arith, l, plain.few)) plain.body) in
      let behind : AreBounded (k + count_of m.body.statements) (executed p op g fields) =
      subst (λ xs. AreBounded (k + count_of m.body.statements) (after_all p (begins p op g fields) xs)) (sym body_found) (body_bounded p written m kinds k (begins p op g fields) h b plain.body) in
      list_any-append is_heavy (made_by p (begins p op g fields) (truth true) (operation_body p op)) (executed p op g fields).fields
      ∙ ap₂ (λ x y. x || y) made (fields_light (k + count_of m.body.statements) (executed p op g fields).fields (omega (arith, l, plain.few)) behind.bounded)

  operation_bounded : IsBegun written m (begins p op g fields) → AreBounded 0 (begins p op g fields) → AreBounded 32 (executed p op g fields)
  operation_bounded h b =
      subst (λ xs. AreBounded 32 (after_all p (begins p op g fields) xs)) (sym body_found)
      (let behind = body_bounded p written m kinds 0 (begins p op g fields) h b plain.body in
      record { bounded = λ n. bounded_more (0 + count_of m.body.statements) 32 (term_at (after_all p (begins p op g fields) m.body.statements).fields n) (omega (arith, plain.few)) (behind.bounded n) })

  pub operation_agrees : Agree written m (executed p op g fields) (begins p op g fields)
  operation_agrees = subst (λ xs. Agree written m (after_all p (begins p op g fields) xs) (begins p op g fields)) (sym body_found) (body_agrees p written m kinds (begins p op g fields) plain.body)

-- constants of one method are constants of another of its class
pub other_constant : (written : List FieldId) (m n : PlainMethod) (f : FieldId) → m.class ≡ n.class → IsConstant written n f → IsConstant written m f
other_constant written m n f e c = (c.0 ∙ sym e, c.1)

-- one operation and then another
both_light : (p : PlainProgram) (written : List FieldId) (kinds : ℕ → Kind) (m n : PlainMethod) (a b : OpId) (g h : ℕ) (fs : List FieldInfo) → slice_get p.ops a.0 ≡ Some m → slice_get p.ops b.0 ≡ Some n → m.class ≡ n.class → IsPlain written kinds m → IsPlain written kinds n → IsLight p a g b h (starts 0 fs)
both_light p written kinds m n a b g h fs e f same one two =
    let fields : List PlainTerm = starts 0 fs in
    let between : List PlainTerm = (executed p a g fields).fields in
    let begun : IsBegun written m (begins p a g fields) = operation_begun p written kinds m a g e one fields (λ i c. starts_simple 0 fs i.field) in
    let none : AreBounded 0 (begins p a g fields) = record { bounded = λ i. simple_bounded 0 (term_at fields i) (starts_simple 0 fs i) } in
    let behind : AreBounded 32 (executed p a g fields) = operation_bounded p written kinds m a g e one fields begun none in
    let kept = operation_agrees p written kinds m a g e one fields in
    let begun_again : IsBegun written n (begins p b h between) =
    operation_begun p written kinds n b h f two between (λ i c. subst IsSimple (sym (kept.constants i (other_constant written m n i same c))) (starts_simple 0 fs i.field)) in
    record {
      first = operation_light p written kinds m a g e one fields 0 begun none (omega arith);
      second = operation_light p written kinds n b h f two between 32 begun_again (record { bounded = λ i. behind.bounded i }) (omega arith);
    }

pub plain_pairs_are_light : PlainPairsAreLight
plain_pairs_are_light p written a b fs h = (
  both_light p written h.kinds h.first h.second a b 1 2 fs h.first_is h.second_is h.one_class h.first_plain h.second_plain,
  both_light p written h.kinds h.second h.first b a 2 1 fs h.second_is h.first_is (sym h.one_class) h.second_plain h.first_plain,
)

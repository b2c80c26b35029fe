-- All turns of a sweep, and its beginning.
use Rattle.std.proofs.Common.{◌≡◌, ℕ, zero, suc, ◌+◌, ◌-◌, ◌<◌, ◌≤◌, Bool, true, false, List, length, Option, Some, None, ℤ, pos, negsuc, refl, sym, ap, ap₂, ◌∙◌, arith, subst, slice_set, FitsSigned, w64, inl, inr}
use Rattle.std.specs.Prelude.{slice_get, int_lt, nat_le, ◌⊎◌, if◌then◌else◌}
use Rattle.std.proofs.lemmas.Bool.Decides.{nat_tests}
use Rattle.std.proofs.lemmas.Int.{ints}
use Rattle.ca_tree.specs.declared.tree.AssignOp.TheVariants.{Put}
use Rattle.ca_tree.specs.declared.tree.BinaryOp.TheVariants.{Less, Plus}
use Rattle.ca_program.specs.declared.program.LoopId.{LoopId}
use Rattle.ca_program.specs.declared.program.FirstPart.TheVariants.{Declares}
use Rattle.ca_program.specs.Plain.{PlainProgram, local, binary, Statement, put_local, for_loop}
use Rattle.ca_model.specs.declared.value.Value.{Value as Datum}
use Rattle.ca_model.specs.declared.value.Value.TheVariants.{Long}
use Rattle.ca_model.specs.declared.value.Slot.{Slot}
use Rattle.ca_model.specs.declared.value.Slot.TheVariants.{Many}
use Rattle.ca_model.specs.declared.value.Object.{Object}
use Rattle.ca_meaning.specs.Operators.{assigned}
use Rattle.ca_meaning.specs.Expressions.{gives, Invocation, value_at}
use Rattle.ca_meaning.specs.Flows.{Flow, goes_on, and_on, with, exec, turn}
use Rattle.ca_meaning.specs.Functions.{functions_of}
use Rattle.ca_meaning.specs.Sections.{Section, section_place, section_value, section_parts}
use Rattle.ca_meaning.proofs.Putting.{put_stores}
use Rattle.ca_sweep.specs.Sweeps.{PlainSweep, Counts, AddsAlone, a_sweep}
use Rattle.ca_sweep.specs.Means.{Table, items_from, swept_by, operate, added, with_items, range_cost, sweep_cost, sum_value, all_but}
use Rattle.ca_sweep.specs.Laws.{GoesOn, Sweeps, sweeps, fails, Stands, SweepsAreSwept}
use Rattle.ca_sweep.proofs.Tables.{Changed, swept_changed, swept_before, items_same, none_swept, set_itself, below as before_end}
use Rattle.ca_sweep.proofs.Sums.{Summed, sum_summed, sum_gives, sum_same}
use Rattle.ca_sweep.proofs.Turns.{AddendGives, Stuck, stuck_back, stuck_stop, stuck_out, last_turn, no_step, next_turn, stuck_turn, past, negative}

at_end : (b : ℕ) → int_lt (pos b) (pos b) ≡ false
at_end b = grind (arith, nat_tests)

fits_before : (m b : ℕ) → m < b → FitsSigned w64 (pos b) → FitsSigned w64 (pos (suc m))
fits_before m b l f = omega (arith, ints, l, f.sfits)

-- where the loop stands: its field holds these numbers, its counter is a local, and its bounds are numbers
pub record Bounded (s : PlainSweep) (ls : List Datum) (own : List Slot) (len : ℕ) (t : Table) (from to : ℤ) : Type 0 where
  pub slot : slice_get own s.field.field ≡ Some (Many (items_from t 0 len))
  pub longs : (n : ℕ) → n < len → (z : ℤ) × (t (pos n) ≡ Long z)
  pub counter : s.counter.0 < length ls
  pub sum_from : Summed (all_but s.counter.0) s.from
  pub sum_to : Summed (all_but s.counter.0) s.to
  pub from_is : sum_value own ls s.from ≡ Long from
  pub to_is : sum_value own ls s.to ≡ Long to
  pub to_fits : FitsSigned w64 to

module _ (p : PlainProgram) (h : List Object) (this : Datum) (line : ℕ) (s : PlainSweep) (ls : List Datum) (own : List Slot) (listed : List Invocation) (len : ℕ) (t : Table) (from to : ℤ) (x : ℤ → ℤ) (stands : Bounded s ls own len t from to) (addend_gives : AddendGives p h this s ls own listed len x)
    (own_line : ℕ) (site : LoopId) (at_line : ℕ) (next body : Statement) (counts : Counts s.counter next) (alone : AddsAlone s.counter s.field s.addend s.minus body) where
  abbrev d : ℤ → Datum
  d z = added s.minus (Long (x z))

  abbrev first : Statement
  first = put_local at_line s.counter Put s.from

  abbrev loop : Statement
  loop = for_loop own_line site Declares first (binary Less (local s.counter) s.to) next body

  abbrev locals : ℤ → List Datum
  locals n = slice_set ls s.counter.0 (Long n)

  abbrev at : Table → Section
  at u = record { own = with_items own s.field.field u len; listed = listed }

  abbrev turned : ℤ → Table → ℕ → Flow Section
  turned n u k = turn (section_parts p h this) line (locals n) (at u) loop k

  abbrev table : ℕ → ℕ → Table
  table a m = swept_by t (pos a) (pos m) d

  abbrev IsStuck : Flow Section → Type 0
  IsStuck f = Stuck f

  last_is : (n : ℤ) (u : Table) (k : ℕ) → int_lt n to ≡ false → turned n u k ≡ goes_on (locals n) (at u) k
  last_is n u k e = last_turn p h this line s ls own listed len t to x stands.slot stands.counter stands.sum_to stands.to_is addend_gives own_line site first next body counts alone n u k e

  step_is : (a m k b : ℕ) → to ≡ pos b → a ≤ m → m < b → m < len → turned (pos m) (table a m) (suc k) ≡ turned (pos (suc m)) (table a (suc m)) k
  step_is a m k b e l below within =
      let z = stands.longs m within in
      next_turn p h this line s ls own listed len t to x stands.slot stands.counter stands.sum_to stands.to_is addend_gives own_line site first next body counts alone
      (table a m) (table a (suc m)) m k z.0 (ap (int_lt (pos m)) e ∙ before_end m b below) within (fits_before m b below (subst (FitsSigned w64) e stands.to_fits)) (swept_before t a m d ∙ z.1)
      (subst (λ v. Changed (table a m) (table a (suc m)) m (operate Plus v (d (pos m)))) z.1 (swept_changed t a m d l))

  -- the turns that are left are all taken
  done : (a j m k r b : ℕ) → to ≡ pos b → a ≤ m → m + j ≡ b → b ≤ len → k ≡ j + r → turned (pos m) (table a m) k ≡ goes_on (locals (pos b)) (at (table a b)) r
  done a zero m k r b e l end within steps =
      let same : m ≡ b = omega (arith, end) in
      let left : k ≡ r = omega (arith, steps) in
      ap₂ (λ n i. turned (pos n) (table a n) i) same left ∙ last_is (pos b) (table a b) r (ap (int_lt (pos b)) e ∙ at_end b)
  done a (suc j) m zero r b e l end within steps = absurd (omega (arith, steps))
  done a (suc j) m (suc k) r b e l end within steps =
      step_is a m k b e l (omega (arith, end)) (omega (arith, end, within)) ∙ done a j (suc m) k r b e (omega (arith, l)) (omega (arith, end)) within (omega (arith, steps))

  -- or the steps don't suffice, or an index lies past the items
  never : (a k m b : ℕ) → to ≡ pos b → a ≤ m → m < b → (len < b) ⊎ (k + m < b) → IsStuck (turned (pos m) (table a m) k)
  never a zero m b e l below why =
      no_step p h this line s ls own listed len t to x stands.slot stands.counter stands.sum_to stands.to_is addend_gives own_line site first next body counts alone (pos m) (table a m) (ap (int_lt (pos m)) e ∙ before_end m b below)
  never a (suc k) m b e l below why = by (nat_le len m) refl (λ q r. never a k (suc m) b e (omega (arith, l)) q r)
    where
      more : (len < b) ⊎ (suc k + m < b) → m < len → (suc m < b) × ((len < b) ⊎ (k + suc m < b))
      more (inl q) r = (omega (arith, q, r), inl q)
      more (inr q) r = (omega (arith, q), inr (omega (arith, q)))

      by : (c : Bool) → nat_le len m ≡ c → (suc m < b → (len < b) ⊎ (k + suc m < b) → IsStuck (turned (pos (suc m)) (table a (suc m)) k)) → IsStuck (turned (pos m) (table a m) (suc k))
      by true q again =
          let out : len ≤ m = grind (arith, nat_tests) in
          stuck_turn p h this line s ls own listed len t to x stands.slot stands.counter stands.sum_to stands.to_is addend_gives own_line site first next body counts alone (table a m) (pos m) k (ap (int_lt (pos m)) e ∙ before_end m b below)
          (past p h this line s ls own listed len t to x stands.slot stands.counter stands.sum_to stands.to_is addend_gives own_line site first next body counts alone (table a m) m out)
      by false q again =
          let inside : m < len = grind (arith, nat_tests) in
          let rest = more why inside in
          subst IsStuck (sym (step_is a m k b e l below inside)) (again rest.0 rest.1)

  -- no state is left by what is stuck
  stays : (f : Flow Section) → IsStuck f → GoesOn f → ⊥
  stays _ (stuck_back v q k) g = g
  stays _ (stuck_stop e q) g = g
  stays _ (stuck_out q) g = g

  abbrev Ends : ℕ → Flow Section → Type 0
  Ends k f = Sweeps s ls own listed len t from to d k f

  failed : (k : ℕ) (f : Flow Section) → IsStuck f → ((n : ℕ) → sweep_cost len from to ≡ Some n → k < n) → Ends k f
  failed k f is c = fails f (stays f is) c

  -- where nothing lies between the bounds, the section is as it was
  as_it_was : (u : Table) → ((k : ℤ) → t k ≡ u k) → record { own = own; listed = listed } ≡ at u
  as_it_was u e =
      ap (λ o. record { own = o; listed = listed }) (set_itself own s.field.field (Many (items_from t 0 len)) stands.slot ∙ ap (λ xs. slice_set own s.field.field (Many xs)) (items_same t u 0 len (λ i. e (pos i))))

  abbrev begun : ℕ → Flow Section
  begun k = turn (section_parts p h this) line (locals from) (record { own = own; listed = listed }) loop k

  began : (u : Table) (k : ℕ) → ((z : ℤ) → t z ≡ u z) → begun k ≡ turned from u k
  began u k e = ap (λ q. turn (section_parts p h this) line (locals from) q loop k) (as_it_was u e)

  all_left : (k : ℕ) → k - 0 ≡ k
  all_left k = omega arith

  empty : (k : ℕ) → int_lt from to ≡ false → Ends k (begun k)
  empty k e =
      let u : Table = swept_by t from to d in
      let cost : sweep_cost len from to ≡ Some 0 = ap (λ b. if b then range_cost len from to else Some 0) e in
      subst (Ends k) (sym (began u k (none_swept t from to d e) ∙ last_is from u k e ∙ ap (goes_on (locals from) (at u)) (sym (all_left k)))) (sweeps (Long from) 0 cost (omega arith))

  by_range : (c : Option ℕ) → int_lt from to ≡ true → range_cost len from to ≡ c → sweep_cost len from to ≡ c
  by_range c e r = ap (λ b. if b then range_cost len from to else Some 0) e ∙ r

  itself : (a : ℕ) (z : ℤ) → t z ≡ table a a z
  itself a z = none_swept t (pos a) (pos a) d (at_end a) z

  below_of : (a b : ℕ) → int_lt (pos a) (pos b) ≡ true → a < b
  below_of a b e = omega (arith, ints, e)

  range : (a b k : ℕ) → from ≡ pos a → to ≡ pos b → int_lt from to ≡ true → Ends k (begun k)
  range a b k ef et e = inside (nat_le b len) refl
    where
      below : a < b
      below = below_of a b (sym (ap₂ int_lt ef et) ∙ e)

      start : begun k ≡ turned (pos a) (table a a) k
      start = began (table a a) k (itself a) ∙ ap (λ z. turned z (table a a) k) ef

      cost : (c : Bool) → nat_le b len ≡ c → sweep_cost len from to ≡ (if c then Some (b - a) else None)
      cost c q = by_range _ e (ap₂ (range_cost len) ef et ∙ ap (λ z. if z then Some (b - a) else None) q)

      enough : nat_le b len ≡ true → (c : Bool) → nat_le (b - a) k ≡ c → Ends k (begun k)
      enough q true r =
          let within : b ≤ len = grind (arith, nat_tests) in
          let steps : b - a ≤ k = grind (arith, nat_tests) in
          let goes : begun k ≡ goes_on (locals (pos b)) (at (table a b)) (k - (b - a)) = start ∙ done a (b - a) a k (k - (b - a)) b et (omega arith) (omega (arith, below)) within (omega (arith, steps)) in
          let same : at (table a b) ≡ at (swept_by t from to d) = ap₂ (λ y z. at (swept_by t y z d)) (sym ef) (sym et) in
          subst (Ends k) (sym (goes ∙ ap (λ q. goes_on (locals (pos b)) q (k - (b - a))) same)) (sweeps (Long (pos b)) (b - a) (cost true q) steps)
      enough q false r =
          let short : k < b - a = grind (arith, nat_tests) in
          let stuck : IsStuck (begun k) = subst IsStuck (sym start) (never a k a b et (omega arith) below (inr (omega (arith, short)))) in
          failed k (begun k) stuck (λ n c. let same : Some (b - a) ≡ Some n = sym (cost true q) ∙ c in let is : b - a ≡ n = cc in omega (arith, is, short))

      inside : (c : Bool) → nat_le b len ≡ c → Ends k (begun k)
      inside true q = enough q (nat_le (b - a) k) refl
      inside false q =
          let beyond : len < b = grind (arith, nat_tests) in
          let stuck : IsStuck (begun k) = subst IsStuck (sym start) (never a k a b et (omega arith) below (inl beyond)) in
          failed k (begun k) stuck (λ n c. let no : None ≡ Some n = sym (cost false q) ∙ c in cc)

  whole : (k : ℕ) (z w : ℤ) → from ≡ z → to ≡ w → (c : Bool) → int_lt from to ≡ c → Ends k (begun k)
  whole k z w ef et false e = empty k e
  whole k (pos a) (pos b) ef et true e = range a b k ef et e
  whole k (pos a) (negsuc b) ef et true e = let no : int_lt (pos a) (negsuc b) ≡ true = sym (ap₂ int_lt ef et) ∙ e in absurd (omega (arith, ints, no))
  whole zero (negsuc a) w ef et true e =
      failed zero (begun zero) (subst IsStuck (sym (started zero)) (no_step p h this line s ls own listed len t to x stands.slot stands.counter stands.sum_to stands.to_is addend_gives own_line site first next body counts alone from u e)) (λ n c. none n c)
    where
      u : Table
      u = t

      started : (k : ℕ) → begun k ≡ turned from t k
      started k = began t k (λ z. refl)

      none : (n : ℕ) → sweep_cost len from to ≡ Some n → zero < n
      none n c = let cost : sweep_cost len from to ≡ None = by_range None e (ap (λ z. range_cost len z to) ef) in let no : None ≡ Some n = sym cost ∙ c in cc
  whole (suc k) (negsuc a) w ef et true e =
      failed (suc k) (begun (suc k)) (subst IsStuck (sym started) (subst (λ z. IsStuck (turned z t (suc k))) (sym ef) (stuck_turn p h this line s ls own listed len t to x stands.slot stands.counter stands.sum_to stands.to_is addend_gives own_line site first next body counts alone t (negsuc a) k (ap (λ z. int_lt z to) (sym ef) ∙ e)
      (negative p h this line s ls own listed len t to x stands.slot stands.counter stands.sum_to stands.to_is addend_gives own_line site first next body counts alone t a)))) (λ n c. none n c)
    where
      started : begun (suc k) ≡ turned from t (suc k)
      started = began t (suc k) (λ z. refl)

      none : (n : ℕ) → sweep_cost len from to ≡ Some n → suc k < n
      none n c = let cost : sweep_cost len from to ≡ None = by_range None e (ap (λ z. range_cost len z to) ef) in let no : None ≡ Some n = sym cost ∙ c in cc

  -- the loop from its first part on
  pub loop_ends : (k : ℕ) → Ends k (exec (section_parts p h this) line ls (record { own = own; listed = listed }) loop k)
  loop_ends k =
      let q : Section = record { own = own; listed = listed } in
      let first_is : section_value p h this line ls q s.from k ≡ gives (Long from) k =
      sum_gives (all_but s.counter.0) (functions_of p.functions h).call (section_place h this own line ls) s.from stands.sum_from k ∙ ap (λ v. gives v k) stands.from_is in
      let begins : exec (section_parts p h this) line ls q loop k ≡ begun k =
      ap (λ o. and_on (with o q (λ v k. goes_on (slice_set ls s.counter.0 (assigned Put (value_at ls s.counter.0) v)) q k)) (λ ls q k. turn (section_parts p h this) line ls q loop k)) first_is
      ∙ ap (λ v. turn (section_parts p h this) line (slice_set ls s.counter.0 v) q loop k) (put_stores (value_at ls s.counter.0) (Long from)) in
      subst (Ends k) (sym begins) (whole k from to refl refl (int_lt from to) refl)

bounded : (s : PlainSweep) (ls : List Datum) (own : List Slot) (len : ℕ) (t : Table) (from to x : ℤ) → Stands s ls own len t from to x → Bounded s ls own len t from to
bounded s ls own len t from to x stands = record {
  slot = stands.slot;
  longs = stands.longs;
  counter = stands.counter;
  sum_from = sum_summed (all_but s.counter.0) s.from stands.sums.0;
  sum_to = sum_summed (all_but s.counter.0) s.to stands.sums.1;
  from_is = stands.from_is;
  to_is = stands.to_is;
  to_fits = stands.to_fits;
}

-- a sum of products that doesn't name the counter gives the same at each index
always_gives : (p : PlainProgram) (h : List Object) (this : Datum) (s : PlainSweep) (ls : List Datum) (own : List Slot) (listed : List Invocation) (len : ℕ) (t : Table) (from to x : ℤ) → Stands s ls own len t from to x → AddendGives p h this s ls own listed len (λ z. x)
always_gives p h this s ls own listed len t from to x stands line u m inside k =
    let is = sum_summed (all_but s.counter.0) s.addend stands.sums.2 in
    sum_gives (all_but s.counter.0) (functions_of p.functions h).call (section_place h this (with_items own s.field.field u len) line (slice_set ls s.counter.0 (Long (pos m)))) s.addend is k
    ∙ ap (λ v. gives v k) (sum_same s.counter.0 own ls s.field.field (items_from t 0 len) (items_from u 0 len) (Long (pos m)) stands.slot s.addend is ∙ stands.addend_is)

pub sweeps_are_swept : SweepsAreSwept
sweeps_are_swept p h this line s _ (a_sweep own_line site at_line next body counts alone) ls own listed len t from to x stands k =
    loop_ends p h this line s ls own listed len t from to (λ z. x) (bounded s ls own len t from to x stands) (always_gives p h this s ls own listed len t from to x stands) own_line site at_line next body counts alone k

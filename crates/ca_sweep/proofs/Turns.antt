-- One turn of a sweep.
use Rattle.std.proofs.Common.{◌≡◌, ℕ, zero, suc, ◌+◌, ◌-◌, ◌<◌, ◌≤◌, Bool, true, false, List, length, Some, ℤ, pos, negsuc, ◌+ℤ◌, ◌-ℤ◌, neg_ℤ, refl, sym, ap, ◌∙◌, arith, subst, slice_set, FitsSigned, w64, set-set}
use Rattle.std.specs.Prelude.{slice_get, int_lt, nat_eq}
use Rattle.std.specs.Int.{int_wrap}
use Rattle.std.proofs.lemmas.Int.{ints, int_wrap_fits, int_wrap-add_right}
use Rattle.ca_lists.proofs.Places.{get_set_here}
use Rattle.ca_tree.specs.declared.tree.AssignOp.{AssignOp}
use Rattle.ca_tree.specs.declared.tree.AssignOp.TheVariants.{Put, Add, Sub}
use Rattle.ca_tree.specs.declared.tree.BinaryOp.TheVariants.{Less, Plus, Minus}
use Rattle.ca_tree.specs.declared.tree.UnaryOp.TheVariants as sign
use Rattle.ca_program.specs.declared.program.LoopId.{LoopId}
use Rattle.ca_program.specs.declared.program.FirstPart.TheVariants.{Declares}
use Rattle.ca_program.specs.Plain.{PlainProgram, Expression, number, local, own_item, binary, Statement, put_item, for_loop}
use Rattle.ca_model.specs.declared.value.Value.{Value as Datum}
use Rattle.ca_model.specs.declared.value.Value.TheVariants.{Long, Bool as Truth}
use Rattle.ca_model.specs.declared.value.Slot.{Slot}
use Rattle.ca_model.specs.declared.value.Slot.TheVariants.{Many}
use Rattle.ca_model.specs.declared.value.Object.{Object}
use Rattle.ca_model.specs.declared.value.Trap.{Trap}
use Rattle.ca_model.specs.declared.value.TrapKind.TheVariants.{OutOfRange}
use Rattle.ca_model.specs.Slots.{put_slot}
use Rattle.ca_meaning.specs.Operators.{operated, assigned, signed}
use Rattle.ca_meaning.specs.Expressions.{gives, traps, ◌>>=◌, answer, decided, unless_decided, trap_at, take_step, value_at, items_in, found, Invocation}
use Rattle.ca_meaning.specs.Flows.{Flow, goes_on, gives_back, stops, runs_out, and_on, with, choose, Parts, line_of, exec, turn}
use Rattle.ca_meaning.specs.Functions.{functions_of}
use Rattle.ca_meaning.specs.Sections.{Section, with_own, section_place, section_value, section_item_at, section_parts, loops_of}
use Rattle.ca_meaning.proofs.Fix.{section_loop_runs}
use Rattle.ca_meaning.proofs.Putting.{put_stores}
use Rattle.ca_sweep.specs.Sweeps.{PlainSweep, Counts, by_one, puts_one_more, Adds, adds, takes_off, puts_sum, puts_difference, AddsAlone, bare, in_block}
use Rattle.ca_sweep.specs.Means.{Table, items_from, operate, added, with_items, sum_value, all_but}
use Rattle.ca_sweep.proofs.Tables.{item_there, item_gone, Changed, items_set, value_set, put_set}
use Rattle.ca_sweep.proofs.Sums.{Summed, both_give, sum_gives, sum_same}

taken_off : (z x : ℤ) → operate Plus (Long z) (signed sign.Minus (Long x)) ≡ Long (int_wrap w64 (z -ℤ x))
taken_off z x = ap Long (int_wrap-add_right w64 z (neg_ℤ x) ∙ ap (int_wrap w64) (let e : z +ℤ neg_ℤ x ≡ z -ℤ x = omega (arith, ints) in e))

pub one_more : (m : ℕ) → FitsSigned w64 (pos (suc m)) → int_wrap w64 (pos m +ℤ pos 1) ≡ pos (suc m)
one_more m f =
    let e : m + 1 ≡ suc m = omega arith in
    let same : pos m +ℤ pos 1 ≡ pos (suc m) = ap pos e in
    ap (int_wrap w64) same ∙ int_wrap_fits w64 (pos (suc m)) f

-- a statement that doesn't go on
pub data Stuck : Flow Section → Type 0 where
  stuck_back : (v : Datum) (q : Section) (k : ℕ) → Stuck (gives_back v q k)
  stuck_stop : (e : Trap) (q : Section) → Stuck (stops e q)
  stuck_out : (q : Section) → Stuck (runs_out q)

stuck_on : (f : Flow Section) (G : List Datum → Section → ℕ → Flow Section) → Stuck f → Stuck (and_on f G)
stuck_on _ G (stuck_back v q k) = stuck_back v q k
stuck_on _ G (stuck_stop e q) = stuck_stop e q
stuck_on _ G (stuck_out q) = stuck_out q

-- what the addend gives, wherever the counter is an index and whatever the turns before have left in the array
abbrev pub AddendGives : PlainProgram → List Object → Datum → PlainSweep → List Datum → List Slot → List Invocation → ℕ → (ℤ → ℤ) → Type 0
AddendGives p h this s ls own listed len x =
    (line : ℕ) (u : Table) (m : ℕ) → m < len → (k : ℕ) → section_value p h this line (slice_set ls s.counter.0 (Long (pos m))) (record { own = with_items own s.field.field u len; listed = listed }) s.addend k ≡ gives (Long (x (pos m))) k

module _ (p : PlainProgram) (h : List Object) (this : Datum) (line : ℕ) (s : PlainSweep) (ls : List Datum) (own : List Slot) (listed : List Invocation) (len : ℕ) (t : Table) (to : ℤ) (x : ℤ → ℤ)
    (there : slice_get own s.field.field ≡ Some (Many (items_from t 0 len))) (counted : s.counter.0 < length ls)
    (sum_to : Summed (all_but s.counter.0) s.to) (to_is : sum_value own ls s.to ≡ Long to) (addend_gives : AddendGives p h this s ls own listed len x) where
  abbrev pub parts : Parts Section
  parts = section_parts p h this

  abbrev pub d : ℤ → Datum
  d z = added s.minus (Long (x z))

  -- the locals with the counter at a number, and the section with a table in the field
  abbrev pub locals : ℤ → List Datum
  locals n = slice_set ls s.counter.0 (Long n)

  abbrev pub at : Table → Section
  at u = record { own = with_items own s.field.field u len; listed = listed }

  value_is : (lb : ℕ) (n : ℤ) (u : Table) (e : Expression) → Summed (all_but s.counter.0) e → (k : ℕ) → section_value p h this lb (locals n) (at u) e k ≡ gives (sum_value own ls e) k
  value_is lb n u e is k =
      sum_gives (all_but s.counter.0) (functions_of p.functions h).call (section_place h this (at u).own lb (locals n)) e is k
      ∙ ap (λ v. gives v k) (sum_same s.counter.0 own ls s.field.field (items_from t 0 len) (items_from u 0 len) (Long n) there e is)

  counter_is : (lb : ℕ) (n : ℤ) (u : Table) (k : ℕ) → section_value p h this lb (locals n) (at u) (local s.counter) k ≡ gives (Long n) k
  counter_is lb n u k = ap (λ v. gives v k) (value_set ls s.counter.0 (Long n) counted)

  slot_is : (u : Table) → slice_get (at u).own s.field.field ≡ Some (Many (items_from u 0 len))
  slot_is u = get_set_here own s.field.field (Many (items_from t 0 len)) (Many (items_from u 0 len)) there

  item_is : (lb : ℕ) (u : Table) (m : ℕ) (k : ℕ) → m < len → section_item_at lb (at u) s.field (Long (pos m)) k ≡ gives (record { place = m; value = u (pos m) }) k
  item_is lb u m k l =
      ap (λ o. found lb m (slice_get (items_in o) m) k) (slot_is u) ∙ ap (λ o. found lb m o k) (item_there u 0 len m l ∙ ap (λ z. Some (u (pos z))) (let e : 0 + m ≡ m = omega arith in e))

  no_item : (lb : ℕ) (u : Table) (m : ℕ) (k : ℕ) → len ≤ m → section_item_at lb (at u) s.field (Long (pos m)) k ≡ traps (trap_at lb OutOfRange)
  no_item lb u m k l = ap (λ o. found lb m (slice_get (items_in o) m) k) (slot_is u) ∙ ap (λ o. found lb m o k) (item_gone u 0 len m l)

  -- a put at the counter, whose right side gives a value
  put_is : (lb own_line : ℕ) (u : Table) (m : ℕ) (op : AssignOp) (e : Expression) (v : Datum) (k : ℕ) → m < len → ((j : ℕ) → section_value p h this lb (locals (pos m)) (at u) e j ≡ gives v j) →
      exec parts lb (locals (pos m)) (at u) (put_item own_line s.field (local s.counter) op e) k ≡ goes_on (locals (pos m)) (with_own (at u) (put_slot (at u).own s.field.field m (assigned op (u (pos m)) v))) k
  put_is lb own_line u m op e v k l is =
      ap (λ o. with o (at u) (λ v k. with (section_item_at lb (at u) s.field v k) (at u) (λ item k. with (section_value p h this lb (locals (pos m)) (at u) e k) (at u) (λ v k. goes_on (locals (pos m)) (with_own (at u) (put_slot (at u).own s.field.field item.place (assigned op item.value v))) k)))) (counter_is lb (pos m) u k)
      ∙ ap (λ o. with o (at u) (λ item k. with (section_value p h this lb (locals (pos m)) (at u) e k) (at u) (λ v k. goes_on (locals (pos m)) (with_own (at u) (put_slot (at u).own s.field.field item.place (assigned op item.value v))) k))) (item_is lb u m k l)
      ∙ ap (λ o. with o (at u) (λ v k. goes_on (locals (pos m)) (with_own (at u) (put_slot (at u).own s.field.field m (assigned op (u (pos m)) v))) k)) (is k)

  -- a put whose index is none
  put_traps : (lb own_line : ℕ) (u : Table) (n : ℤ) (op : AssignOp) (e : Expression) (k : ℕ) → ((j : ℕ) → section_item_at lb (at u) s.field (Long n) j ≡ traps (trap_at lb OutOfRange)) →
      exec parts lb (locals n) (at u) (put_item own_line s.field (local s.counter) op e) k ≡ stops (trap_at lb OutOfRange) (at u)
  put_traps lb own_line u n op e k is =
      ap (λ o. with o (at u) (λ v k. with (section_item_at lb (at u) s.field v k) (at u) (λ item k. with (section_value p h this lb (locals n) (at u) e k) (at u) (λ v k. goes_on (locals n) (with_own (at u) (put_slot (at u).own s.field.field item.place (assigned op item.value v))) k)))) (counter_is lb n u k)
      ∙ ap (λ o. with o (at u) (λ item k. with (section_value p h this lb (locals n) (at u) e k) (at u) (λ v k. goes_on (locals n) (with_own (at u) (put_slot (at u).own s.field.field item.place (assigned op item.value v))) k))) (is k)

  own_item_is : (lb : ℕ) (u : Table) (m k : ℕ) → m < len → section_value p h this lb (locals (pos m)) (at u) (own_item s.field (local s.counter)) k ≡ gives (u (pos m)) k
  own_item_is lb u m k l =
      ap (λ o. o >>= λ v k. section_item_at lb (at u) s.field v k >>= λ item k. gives item.value k) (counter_is lb (pos m) u k)
      ∙ ap (λ o. o >>= λ item k. gives item.value k) (item_is lb u m k l)

  stored : (lb own_line : ℕ) (u w : Table) (m : ℕ) (op : AssignOp) (e : Expression) (v y : Datum) (k : ℕ) → m < len → ((j : ℕ) → section_value p h this lb (locals (pos m)) (at u) e j ≡ gives v j) → assigned op (u (pos m)) v ≡ y → Changed u w m y →
      exec parts lb (locals (pos m)) (at u) (put_item own_line s.field (local s.counter) op e) k ≡ goes_on (locals (pos m)) (at w) k
  stored lb own_line u w m op e v y k l is new c =
      put_is lb own_line u m op e v k l is
      ∙ ap (λ o. goes_on (locals (pos m)) (record { own = o; listed = listed }) k)
      (ap (put_slot (at u).own s.field.field m) new ∙ put_set own s.field.field m (items_from u 0 len) y
      ∙ ap (λ xs. slice_set own s.field.field (Many xs)) (items_set u w y 0 len m (record { here = ap (λ z. w (pos z)) (let e : 0 + m ≡ m = omega arith in e) ∙ c.here; other = λ n h. c.other n (ap (λ z. nat_eq z n) (let e : m ≡ 0 + m = omega arith in e) ∙ h) })))

  -- what the body's put does at an index
  adds_is : (lb : ℕ) (b : Statement) → Adds s.counter s.field s.addend s.minus b → (u w : Table) (m k : ℕ) (z : ℤ) → m < len → u (pos m) ≡ Long z → Changed u w m (operate Plus (Long z) (d (pos m))) → exec parts lb (locals (pos m)) (at u) b k ≡ goes_on (locals (pos m)) (at w) k
  adds_is lb b a u w m k z l is c = by s.minus refl b a
    where
      by : (minus : Bool) → s.minus ≡ minus → (b : Statement) → Adds s.counter s.field s.addend minus b → exec parts lb (locals (pos m)) (at u) b k ≡ goes_on (locals (pos m)) (at w) k
      by _ e _ (adds own_line) =
          stored lb own_line u w m Add s.addend (Long (x (pos m))) (operate Plus (Long z) (d (pos m))) k l (addend_gives lb u m l) (ap (λ v. assigned Add v (Long (x (pos m)))) is ∙ ap (λ b. operate Plus (Long z) (added b (Long (x (pos m))))) (sym e)) c
      by _ e _ (takes_off own_line) =
          stored lb own_line u w m Sub s.addend (Long (x (pos m))) (operate Plus (Long z) (d (pos m))) k l (addend_gives lb u m l) (ap (λ v. assigned Sub v (Long (x (pos m)))) is ∙ sym (taken_off z (x (pos m))) ∙ ap (λ b. operate Plus (Long z) (added b (Long (x (pos m))))) (sym e)) c
      by _ e _ (puts_sum own_line) =
          stored lb own_line u w m Put (binary Plus (own_item s.field (local s.counter)) s.addend) (operate Plus (u (pos m)) (Long (x (pos m)))) (operate Plus (Long z) (d (pos m))) k l
          (λ j. both_give (functions_of p.functions h).call (section_place h this (at u).own lb (locals (pos m))) Plus (own_item s.field (local s.counter)) s.addend j _ _ tt (own_item_is lb u m j l) (addend_gives lb u m l j))
          (put_stores (u (pos m)) _ ∙ ap (λ v. operate Plus v (Long (x (pos m)))) is ∙ ap (λ b. operate Plus (Long z) (added b (Long (x (pos m))))) (sym e)) c
      by _ e _ (puts_difference own_line) =
          stored lb own_line u w m Put (binary Minus (own_item s.field (local s.counter)) s.addend) (operate Minus (u (pos m)) (Long (x (pos m)))) (operate Plus (Long z) (d (pos m))) k l
          (λ j. both_give (functions_of p.functions h).call (section_place h this (at u).own lb (locals (pos m))) Minus (own_item s.field (local s.counter)) s.addend j _ _ tt (own_item_is lb u m j l) (addend_gives lb u m l j))
          (put_stores (u (pos m)) _ ∙ ap (λ v. operate Minus v (Long (x (pos m)))) is ∙ sym (taken_off z (x (pos m))) ∙ ap (λ b. operate Plus (Long z) (added b (Long (x (pos m))))) (sym e)) c

  -- and where the counter is no index
  adds_traps : (lb : ℕ) (b : Statement) → Adds s.counter s.field s.addend s.minus b → (u : Table) (n : ℤ) (k : ℕ) → ((j : ℕ) → section_item_at lb (at u) s.field (Long n) j ≡ traps (trap_at lb OutOfRange)) → exec parts lb (locals n) (at u) b k ≡ stops (trap_at lb OutOfRange) (at u)
  adds_traps lb b a u n k is = by s.minus b a
    where
      by : (minus : Bool) (b : Statement) → Adds s.counter s.field s.addend minus b → exec parts lb (locals n) (at u) b k ≡ stops (trap_at lb OutOfRange) (at u)
      by _ _ (adds own_line) = put_traps lb own_line u n Add s.addend k is
      by _ _ (takes_off own_line) = put_traps lb own_line u n Sub s.addend k is
      by _ _ (puts_sum own_line) = put_traps lb own_line u n Put (binary Plus (own_item s.field (local s.counter)) s.addend) k is
      by _ _ (puts_difference own_line) = put_traps lb own_line u n Put (binary Minus (own_item s.field (local s.counter)) s.addend) k is

  alone_is : (b : Statement) → AddsAlone s.counter s.field s.addend s.minus b → (u w : Table) (m k : ℕ) (z : ℤ) → m < len → u (pos m) ≡ Long z → Changed u w m (operate Plus (Long z) (d (pos m))) → exec parts (line_of b) (locals (pos m)) (at u) b k ≡ goes_on (locals (pos m)) (at w) k
  alone_is _ (bare b a) u w m k z l is c = adds_is (line_of b) b a u w m k z l is c
  alone_is _ (in_block own_line b a) u w m k z l is c = ap (λ f. and_on f (λ ls q k. goes_on ls q k)) (adds_is (line_of b) b a u w m k z l is c)

  alone_stuck : (b : Statement) → AddsAlone s.counter s.field s.addend s.minus b → (u : Table) (n : ℤ) (k : ℕ) → ((lb j : ℕ) → section_item_at lb (at u) s.field (Long n) j ≡ traps (trap_at lb OutOfRange)) → Stuck (exec parts (line_of b) (locals n) (at u) b k)
  alone_stuck _ (bare b a) u n k is = subst Stuck (sym (adds_traps (line_of b) b a u n k (is (line_of b)))) (stuck_stop _ _)
  alone_stuck _ (in_block own_line b a) u n k is = stuck_on _ (λ ls q k. goes_on ls q k) (subst Stuck (sym (adds_traps (line_of b) b a u n k (is (line_of b)))) (stuck_stop _ _))

  -- the counter counts up
  counted_up : (c : Statement) → Counts s.counter c → (u : Table) (m k : ℕ) → FitsSigned w64 (pos (suc m)) → exec parts line (locals (pos m)) (at u) c k ≡ goes_on (locals (pos (suc m))) (at u) k
  counted_up _ (by_one own_line) u m k f =
      ap (λ v. goes_on (slice_set (locals (pos m)) s.counter.0 (assigned Add v (Long (pos 1)))) (at u) k) (value_set ls s.counter.0 (Long (pos m)) counted)
      ∙ ap (λ v. goes_on v (at u) k) (set-set ls s.counter.0 _ _ ∙ ap (λ n. slice_set ls s.counter.0 (Long n)) (one_more m f))
  counted_up _ (puts_one_more own_line) u m k f =
      ap (λ o. with o (at u) (λ v k. goes_on (slice_set (locals (pos m)) s.counter.0 (assigned Put (value_at (locals (pos m)) s.counter.0) v)) (at u) k))
      (both_give (functions_of p.functions h).call (section_place h this (at u).own line (locals (pos m))) Plus (local s.counter) (number (pos 1)) k (Long (pos m)) (Long (pos 1)) tt (counter_is line (pos m) u k) refl)
      ∙ ap (λ v. goes_on (slice_set (locals (pos m)) s.counter.0 v) (at u) k) (put_stores (value_at (locals (pos m)) s.counter.0) _)
      ∙ ap (λ v. goes_on v (at u) k) (set-set ls s.counter.0 _ _ ∙ ap (λ n. slice_set ls s.counter.0 (Long n)) (one_more m f))

  condition_is : (n : ℤ) (u : Table) (k : ℕ) → section_value p h this line (locals n) (at u) (binary Less (local s.counter) s.to) k ≡ gives (Truth (int_lt n to)) k
  condition_is n u k =
      ap (λ o. o >>= λ v k. unless_decided (decided Less v) k (section_value p h this line (locals n) (at u) s.to k >>= λ w k. answer line (operated Less v w) k)) (counter_is line n u k)
      ∙ ap (λ o. o >>= λ w k. answer line (operated Less (Long n) w) k) (value_is line n u s.to sum_to k ∙ ap (λ v. gives v k) to_is)

  module _ (own_line : ℕ) (site : LoopId) (first next body : Statement) (counts : Counts s.counter next) (alone : AddsAlone s.counter s.field s.addend s.minus body) where
    abbrev pub loop : Statement
    loop = for_loop own_line site Declares first (binary Less (local s.counter) s.to) next body

    -- the body and then the next part, and the loop again
    abbrev goes : List Datum → Section → ℕ → Flow Section
    goes = λ ls q k. and_on (and_on (exec parts (line_of body) ls q body k) (λ ls q k. exec parts line ls q next k)) (λ ls q k. loops_of p h this line ls q loop k)

    turn_if : (n : ℤ) (u : Table) (k : ℕ) (b : Bool) → int_lt n to ≡ b → turn parts line (locals n) (at u) loop k ≡ choose (Truth b) (with (take_step k) (at u) (λ _ k. goes (locals n) (at u) k)) (goes_on (locals n) (at u) k)
    turn_if n u k b e =
        ap (λ o. with o (at u) (λ v k. choose v (with (take_step k) (at u) (λ _ k. goes (locals n) (at u) k)) (goes_on (locals n) (at u) k))) (condition_is n u k)
        ∙ ap (λ b. choose (Truth b) (with (take_step k) (at u) (λ _ k. goes (locals n) (at u) k)) (goes_on (locals n) (at u) k)) e

    -- the counter has come to the end
    pub last_turn : (n : ℤ) (u : Table) (k : ℕ) → int_lt n to ≡ false → turn parts line (locals n) (at u) loop k ≡ goes_on (locals n) (at u) k
    last_turn n u k e = turn_if n u k false e

    pub no_step : (n : ℤ) (u : Table) → int_lt n to ≡ true → Stuck (turn parts line (locals n) (at u) loop zero)
    no_step n u e = subst Stuck (sym (turn_if n u zero true e)) (stuck_out (at u))

    -- one more turn
    pub next_turn : (u w : Table) (m k : ℕ) (z : ℤ) → int_lt (pos m) to ≡ true → m < len → FitsSigned w64 (pos (suc m)) → u (pos m) ≡ Long z → Changed u w m (operate Plus (Long z) (d (pos m))) → turn parts line (locals (pos m)) (at u) loop (suc k) ≡ turn parts line (locals (pos (suc m))) (at w) loop k
    next_turn u w m k z e l f is c =
        turn_if (pos m) u (suc k) true e
        ∙ ap (λ o. and_on (and_on o (λ ls q k. exec parts line ls q next k)) (λ ls q k. loops_of p h this line ls q loop k)) (alone_is body alone u w m k z l is c)
        ∙ ap (λ o. and_on o (λ ls q k. loops_of p h this line ls q loop k)) (counted_up next counts w m k f)
        ∙ section_loop_runs p h this line (locals (pos (suc m))) (at w) loop k

    -- a turn whose counter is no index
    pub stuck_turn : (u : Table) (n : ℤ) (k : ℕ) → int_lt n to ≡ true → ((lb j : ℕ) → section_item_at lb (at u) s.field (Long n) j ≡ traps (trap_at lb OutOfRange)) → Stuck (turn parts line (locals n) (at u) loop (suc k))
    stuck_turn u n k e is =
        subst Stuck (sym (turn_if n u (suc k) true e)) (stuck_on _ (λ ls q k. loops_of p h this line ls q loop k) (stuck_on _ (λ ls q k. exec parts line ls q next k) (alone_stuck body alone u n k is)))

    pub past : (u : Table) (m : ℕ) → len ≤ m → (lb j : ℕ) → section_item_at lb (at u) s.field (Long (pos m)) j ≡ traps (trap_at lb OutOfRange)
    past u m l lb j = no_item lb u m j l

    pub negative : (u : Table) (m : ℕ) → (lb j : ℕ) → section_item_at lb (at u) s.field (Long (negsuc m)) j ≡ traps (trap_at lb OutOfRange)
    negative u m lb j = refl

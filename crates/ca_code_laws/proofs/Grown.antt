-- Prints and notes only grow: whatever the machine does, those that there are stay the first.
use Rattle.std.proofs.Common.{◌≡◌, ℕ, zero, suc, ◌+◌, ◌-◌, List, [], ◌∷◌, ◌++◌, length, map, Option, Some, None, refl, sym, ap, ◌∙◌, subst, arith, append-nil, append_assoc}
use Rattle.std.specs.Prelude.{ℤ, Bool, true, false, cond, slice_get}
use Rattle.ca_program.specs.declared.program.OpId.{OpId}
use Rattle.ca_program.specs.Plain.{PlainProgram, Statement}
use Rattle.ca_program.specs.Layout.{MainLaidOut}
use Rattle.ca_program.specs.Kinds.{Kind, as_long, as_truth, as_pointer, unary_kind, binary_kind}
use Rattle.ca_program.specs.Instructions.{Instruction, Constant, Receiver, Move, Own, OwnItem, Field, Item, Unary, Binary, Update, Check, CheckItem, Decide, Jump, Unless, Turn, Call, Return, Lack, Leave, PutField, PutItem, NewLocal, NewField, NewItem, Print, Invoke, Heed, Hand, Begin, Handed, Code}
use Rattle.ca_model.specs.declared.value.Value.{Value as Datum}
use Rattle.ca_model.specs.declared.value.Value.TheVariants.{Long, Bool as Truth, Null, Ref}
use Rattle.ca_model.specs.declared.value.Object.{Object}
use Rattle.ca_model.specs.Heaps.{created}
use Rattle.ca_meaning.specs.Operators.{operated, signed, assigned}
use Rattle.ca_meaning.specs.Expressions.{Out, gives, traps, over, ◌>>=◌, take_step, one_in, items_in, slot_of, pointed, indexed, answer, decided, Invocation}
use Rattle.ca_meaning.specs.Flows.{Flow, goes_on, gives_back, stops, runs_out}
use Rattle.ca_meaning.specs.Serial.{Note, World, fresh, in_heap, printed, put_own, serial, serial_ops}
use Rattle.ca_model.specs.Slots.{start_of}
use Rattle.ca_meaning.specs.Sections.{LoopOutcome, LoopSectioned, loop_done, loop_stopped, loop_over, loop_section}
use Rattle.ca_meaning.specs.ProgramTyped.{ProgramTyped}
use Rattle.ca_parallel.specs.Lists.{PlainMarks, no_marks, note, noted, either, world_after, noted_run}
use Rattle.ca_parallel.proofs.Noted.{none_all, notes_change_nothing}
use Rattle.ca_parallel.specs.Marks.{SoundMarks}
use Rattle.ca_parallel.proofs.Moved.{Prints, Notes, shifted, moved as moved_run, serial_ops_moved}
use Rattle.ca_note_laws.specs.Listing.{CallLoopsPutNothing, puts_nothing, with_list}
use Rattle.ca_note_laws.proofs.Listing.{lists_first}
use Rattle.ca_code_laws.specs.Words.{word, has_kind, all_have}
use Rattle.ca_code_laws.specs.Machine.{Store, store, Back, enters, Begun, behind, plainly, Accesses, State, Outcome, Finished, Trapped, Spent, Wanting, Unfinished, Stuck, Next, moved, slot, after, put_as, giving, deciding, if_true, entering, returning, leaving, call_of, invoking, handed_call, loaded, row, beginning_by, handing, own_slots, item_named, object_named, act, line_in, runs, Comes, Ends}
use Rattle.ca_code_laws.specs.Noted.{EndsNoted}
use Rattle.ca_code_laws.specs.Runs.{Into, behind_or, begun_with, begun_by, with_call, handed_by, run_into, beginning, outcome_of, ended_as}
use Rattle.ca_code_laws.specs.Heeding.{HeedingLaidOut, MainHeeds}
use Rattle.ca_code_laws.specs.Told.{IsLaidOut, Front}
use Rattle.ca_code_laws.proofs.Steps.{joins_end}
use Rattle.ca_code_laws.proofs.Heeding.{main_heeds}
use Rattle.ca_code_laws.proofs.Operations.{main_runs}
use Rattle.ca_code_laws.proofs.OneEnd.{ended_is, one_end}

-- the world with another heap
in_front : (w : World) (h : List Object) → Front w (in_heap w h)
in_front w h = record { prints = []; notes = []; printed = sym (append-nil w.prints); noted = sym (append-nil w.notes) }

stays : (w : World) → Front w w
stays w = in_front w w.heap

one_print : (w : World) (v : Datum) → Front w (printed w v)
one_print w v = record { prints = v ∷ []; notes = []; printed = refl; noted = sym (append-nil w.notes) }

one_note : (w : World) (n : Note) → Front w (noted w n)
one_note w n = record { prints = []; notes = n ∷ []; printed = sym (append-nil w.prints); noted = refl }

pub then_front : {w x y : World} → Front w x → Front x y → Front w y
then_front {w} a b = record {
  prints = a.prints ++ b.prints;
  notes = a.notes ++ b.notes;
  printed = b.printed ∙ ap (λ ps. ps ++ b.prints) a.printed ∙ append_assoc w.prints a.prints b.prints;
  noted = b.noted ∙ ap (λ ns. ns ++ b.notes) a.noted ∙ append_assoc w.notes a.notes b.notes;
}

-- ---- operations in order

abbrev FlowFront : World → Flow World → Type 0
FlowFront w (goes_on ls x k) = Front w x
FlowFront w (gives_back v x k) = Front w x
FlowFront w (stops t x) = Front w x
FlowFront w (runs_out x) = Front w x

module _ (p : PlainProgram) (w : World) where
  abbrev before : Prints
  before ps = w.prints ++ ps

  abbrev noted_before : Notes
  noted_before ns = w.notes ++ ns

  moved_front : (o : Flow World) → FlowFront w (moved_run before noted_before o)
  moved_front (goes_on ls x k) = record { prints = x.prints; notes = x.notes; printed = refl; noted = refl }
  moved_front (gives_back v x k) = record { prints = x.prints; notes = x.notes; printed = refl; noted = refl }
  moved_front (stops t x) = record { prints = x.prints; notes = x.notes; printed = refl; noted = refl }
  moved_front (runs_out x) = record { prints = x.prints; notes = x.notes; printed = refl; noted = refl }

  is_moved : shifted before noted_before (fresh w.heap) ≡ w
  is_moved =
      ap (λ (ps : List Datum). record { heap = w.heap; prints = ps; notes = w.notes ++ [] }) (append-nil w.prints)
      ∙ ap (λ (ns : List Note). record { heap = w.heap; prints = w.prints; notes = ns }) (append-nil w.notes)

  ops_front : (is : List Invocation) (k : ℕ) → FlowFront w (serial_ops p is w k)
  ops_front is k =
      let same : moved_run before noted_before (serial_ops p is (fresh w.heap) k) ≡ serial_ops p is w k =
      serial_ops_moved before noted_before (λ qs v. sym (append_assoc w.prints qs (v ∷ []))) p is (fresh w.heap) k ∙ ap (λ x. serial_ops p is x k) is_moved in
      subst (λ o. FlowFront w o) same (moved_front (serial_ops p is (fresh w.heap) k))

-- ---- what is handed on

abbrev BegunFront : World → Begun World → Type 0
BegunFront w (behind ls x k) = Front w x
BegunFront w (plainly x) = Front w x

or_front : (w x : World) (ls : List Datum) → Front w x → (o : Flow World) → FlowFront x o → BegunFront w (behind_or ls x o)
or_front w x ls a (goes_on ms y k) g = then_front a g
or_front w x ls a (gives_back v y k) g = a
or_front w x ls a (stops t y) g = a
or_front w x ls a (runs_out y) g = a

further : (w x : World) → Front w x → (b : Begun World) → BegunFront x b → BegunFront w b
further w x a (behind ls y k) g = then_front a g
further w x a (plainly y) g = then_front a g

either_front : (w : World) (b : Bool) (x y : Begun World) → BegunFront w x → BegunFront w y → BegunFront w (either b x y)
either_front w true x y f g = f
either_front w false x y f g = g

-- with a note of it, whether it is gone into or not
pub noted_front : (into : Into) (p : PlainProgram) (w : World) (ls : List Datum) (is : List Invocation) (k : ℕ)
    → BegunFront (noted w (note w.heap is k)) (either (into (length w.notes)) (plainly (noted w (note w.heap is k))) (behind_or ls (noted w (note w.heap is k)) (serial_ops p is (noted w (note w.heap is k)) k)))
noted_front into p w ls is k =
    let x = noted w (note w.heap is k) in
    either_front x (into (length w.notes)) (plainly x) (behind_or ls x (serial_ops p is x k)) (stays x) (or_front x x ls (stays x) (serial_ops p is x k) (ops_front p x is k))

handed_front : (into : Into) (p : PlainProgram) (w : World) (i : Invocation) (k : ℕ) → BegunFront w (handed_by into p w i k)
handed_front into p w i k = further w (with_call w i k) (one_note w (note w.heap (i ∷ []) k)) (handed_by into p w i k) (noted_front into p w [] (i ∷ []) k)

begun_front : (into : Into) (p : PlainProgram) (me : Datum) (line : ℕ) (ls : List Datum) (w : World) (loop : Statement) (k : ℕ) → BegunFront w (begun_by into p me line ls w loop k)
begun_front into p me line ls w loop k = by (puts_nothing loop) (loop_section p w.heap me ls line loop k)
  where
    by : (b : Bool) (o : LoopSectioned) → BegunFront w (either b (begun_with into p w k o) (plainly w))
    by false o = stays w
    by true (loop_done m) = further w (with_list w k m) (one_note w (note w.heap m.listed (k - m.steps))) (begun_with into p w k (loop_done m)) (noted_front into p w m.locals m.listed (k - m.steps))
    by true (loop_stopped t) = stays w
    by true loop_over = stays w

-- ---- instructions

-- an end with such a world
abbrev pub Grown : World → Outcome World → Type 0
Grown w (Finished x k) = Front w x
Grown w (Trapped t x) = Front w x
Grown w (Spent x) = Front w x
Grown w Wanting = Unit {0}
Grown w (Unfinished s) = Front w s.world
Grown w Stuck = Unit {0}

from : (w x : World) → Front w x → (o : Outcome World) → Grown x o → Grown w o
from w x a (Finished y k) g = then_front a g
from w x a (Trapped t y) g = then_front a g
from w x a (Spent y) g = then_front a g
from w x a Wanting g = tt
from w x a (Unfinished s) g = then_front a g
from w x a Stuck g = tt

after_grows : {A : Type 0} (w : World) (o : Out A) (f : A → ℕ → Outcome World) → ((v : A) (k : ℕ) → Grown w (f v k)) → Grown w (after o w f)
after_grows w (gives v k) f h = h v k
after_grows w (traps t) f h = stays w
after_grows w over f h = stays w

cond_grows : (w : World) (b : Bool) (x y : Outcome World) → Grown w x → Grown w y → Grown w (cond b x y)
cond_grows w true x y g h = g
cond_grows w false x y g h = h

choice_grows : (w : World) (v : Datum) (x y : Outcome World) → Grown w x → Grown w y → Grown w (if_true v x y)
choice_grows w (Truth true) x y g h = g
choice_grows w (Truth false) x y g h = h
choice_grows w (Long n) x y g h = h
choice_grows w (Ref n) x y g h = h
choice_grows w Null x y g h = h

module _ (into : Into) (p : PlainProgram) (c : Code) (next : Next World) (grows : (t : State World) → Grown t.world (next t)) where
  abbrev acc : Accesses World
  acc = run_into into p

  put_grows : (κ : Kind) (s : State World) (d n : ℕ) (v : Datum) (k : ℕ) → Grown s.world (put_as κ s next d n v k)
  put_grows κ s d n v k =
      let t = moved s (s.at + 1 + n) k (store s.slots (s.base + d) (word v)) s.world in
      cond_grows s.world (has_kind κ v) (next t) Wanting (grows t) tt

  giving_grows : (κ : Kind) (s : State World) (d : ℕ) (o : Out Datum) → Grown s.world (giving κ s next d o)
  giving_grows κ s d o = after_grows s.world o (put_as κ s next d 0) (λ v k. put_grows κ s d 0 v k)

  deciding_grows : (s : State World) (d n : ℕ) (o : Option Datum) → Grown s.world (deciding s next d n o)
  deciding_grows s d n (Some v) = put_grows as_truth s d n v s.left
  deciding_grows s d n None = grows (moved s (s.at + 1) s.left s.slots s.world)

  entering_grows : (o : Option ℕ) (s : State World) (this : Datum) (first : ℕ) (wants : Bool) (to k : ℕ) → Grown s.world (entering o s next this first wants to k)
  entering_grows None s this first wants to k = tt
  entering_grows (Some start) s this first wants to k =
      grows (record { at = start; base = s.base + (first + 1); left = k; this = this; below = record { at = s.at + 1; base = s.base; this = s.this; wants = wants; to = to } ∷ s.below; slots = s.slots; world = s.world })

  returning_grows : (bs : List Back) (s : State World) (v : ℤ) → Grown s.world (returning bs s next v)
  returning_grows [] s v = stays s.world
  returning_grows (b ∷ bs) s v =
      let t : State World = record { at = b.at; base = b.base; left = s.left; this = b.this; below = bs; slots = store s.slots (b.base + b.to) v; world = s.world } in
      cond_grows s.world b.wants (next t) (Spent s.world) (grows t) (stays s.world)

  leaving_grows : (bs : List Back) (s : State World) → Grown s.world (leaving bs s next)
  leaving_grows [] s = stays s.world
  leaving_grows (b ∷ bs) s = grows (record { at = b.at; base = b.base; left = s.left; this = b.this; below = bs; slots = s.slots; world = s.world })

  -- the state behind a change of the world
  on_grows : (w : World) (s : State World) (at k : ℕ) (f : Store) (x : World) → Front w x → Grown w (next (moved s at k f x))
  on_grows w s at k f x a = from w x a (next (moved s at k f x)) (grows (moved s at k f x))

  invoking_grows : (w : World) (start : Option ℕ) (s : State World) (r first k : ℕ) (x : World) → Front w x → Grown w (invoking start s next r first k (enters x))
  invoking_grows w start s r first zero x a = a
  invoking_grows w start s r first (suc k) x a =
      from w x a (entering start (moved s s.at k s.slots x) next (Ref r) first false 0 k) (entering_grows start (moved s s.at k s.slots x) (Ref r) first false 0 k)

  pub handed_grows : (w : World) (start : Option ℕ) (s : State World) (r first k : ℕ) (b : Begun World) → BegunFront w b → Grown w (handed_call start s next r first k b)
  handed_grows w start s r first k (behind ls x j) a = on_grows w s (s.at + 1) j s.slots x a
  handed_grows w start s r first k (plainly x) a = invoking_grows w start s r first k x a

  pub beginning_grows : (w : World) (κs : List Kind) (s : State World) (n : ℕ) (b : Begun World) → BegunFront w b → Grown w (beginning_by κs s next n b)
  beginning_grows w κs s n (behind ls x k) a =
      cond_grows w (all_have κs ls) (next (moved s (s.at + 1 + n) k (loaded s.slots s.base ls) x)) Wanting (on_grows w s (s.at + 1 + n) k (loaded s.slots s.base ls) x a) tt
  beginning_grows w κs s n (plainly x) a = on_grows w s (s.at + 1) s.left s.slots x a

  handing_grows : (line : ℕ) (s : State World) (n : ℕ) (o : Option (Option Handed)) → Grown s.world (handing acc line s next n o)
  handing_grows line s n None = tt
  handing_grows line s n (Some None) = tt
  handing_grows line s n (Some (Some h)) =
      beginning_grows s.world h.locals s n (begun_by into p s.this line (row s.slots s.base h.locals) s.world h.loop s.left) (begun_front into p s.this line (row s.slots s.base h.locals) s.world h.loop s.left)

  pub act_grows : (line : ℕ) (i : Option Instruction) (s : State World) → Grown s.world (act acc c line i next s)
  act_grows line None s = tt
  act_grows line (Some (Constant d n)) s = grows (moved s (s.at + 1) s.left (store s.slots (s.base + d) n) s.world)
  act_grows line (Some (Receiver d)) s = giving_grows as_pointer s d (gives s.this s.left)
  act_grows line (Some (Move d a)) s = grows (moved s (s.at + 1) s.left (store s.slots (s.base + d) (s.slots (s.base + a))) s.world)
  act_grows line (Some (Own d κ f)) s = giving_grows κ s d (gives (one_in (slice_get (own_slots acc s) f.field)) s.left)
  act_grows line (Some (OwnItem d κ f a)) s = giving_grows κ s d (item_named acc s line f a >>= λ item k. gives item.value k)
  act_grows line (Some (Field d a κ f)) s = giving_grows κ s d (object_named s line a >>= λ n k. gives (one_in (slot_of s.world.heap n f)) k)
  act_grows line (Some (Item d a κ f b)) s =
      giving_grows κ s d (object_named s line a >>= λ n k. indexed line (items_in (slot_of s.world.heap n f)) (slot s as_long b) k >>= λ item k. gives item.value k)
  act_grows line (Some (Unary d op a)) s = giving_grows (unary_kind op) s d (gives (signed op (slot s (unary_kind op) a)) s.left)
  act_grows line (Some (Binary d op x y a b)) s = giving_grows (binary_kind op) s d (answer line (operated op (slot s x a) (slot s y b)) s.left)
  act_grows line (Some (Update l op κ a)) s = giving_grows κ s l (gives (assigned op (slot s κ l) (slot s κ a)) s.left)
  act_grows line (Some (Check a)) s =
      after_grows s.world (object_named s line a) (λ n k. next (moved s (s.at + 1) k s.slots s.world)) (λ n k. grows (moved s (s.at + 1) k s.slots s.world))
  act_grows line (Some (CheckItem f a)) s =
      after_grows s.world (item_named acc s line f a) (λ item k. next (moved s (s.at + 1) k s.slots s.world)) (λ item k. grows (moved s (s.at + 1) k s.slots s.world))
  act_grows line (Some (Decide d op a n)) s = deciding_grows s d n (decided op (slot s as_truth a))
  act_grows line (Some (Jump n)) s = grows (moved s (s.at + 1 + n) s.left s.slots s.world)
  act_grows line (Some (Unless a n)) s =
      let t = moved s (s.at + 1) s.left s.slots s.world in
      let u = moved s (s.at + 1 + n) s.left s.slots s.world in
      choice_grows s.world (slot s as_truth a) (next t) (next u) (grows t) (grows u)
  act_grows line (Some (Turn a n)) s =
      let u = moved s (s.at + 1) s.left s.slots s.world in
      choice_grows s.world (slot s as_truth a) (after (take_step s.left) s.world (λ _ k. next (moved s (s.at - n) k s.slots s.world))) (next u)
      (after_grows s.world (take_step s.left) (λ _ k. next (moved s (s.at - n) k s.slots s.world)) (λ _ k. grows (moved s (s.at - n) k s.slots s.world))) (grows u)
  act_grows line (Some (Call m first to)) s =
      after_grows s.world (object_named s line first >>= λ n k. take_step k >>= λ _ k. gives n k) (λ n k. entering (slice_get c.functions m.0) s next (Ref n) first true to k)
      (λ n k. entering_grows (slice_get c.functions m.0) s (Ref n) first true to k)
  act_grows line (Some (Return a)) s = returning_grows s.below s (s.slots (s.base + a))
  act_grows line (Some Lack) s = tt
  act_grows line (Some Leave) s = leaving_grows s.below s
  act_grows line (Some (PutField f op κ a)) s =
      let h = put_own s.world.heap s.this f 0 (assigned op (one_in (slice_get (own_slots acc s) f.field)) (slot s κ a)) in
      on_grows s.world s (s.at + 1) s.left s.slots (in_heap s.world h) (in_front s.world h)
  act_grows line (Some (PutItem f i op κ a)) s =
      after_grows s.world (item_named acc s line f i) (λ item k. next (moved s (s.at + 1) k s.slots (in_heap s.world (put_own s.world.heap s.this f item.place (assigned op item.value (slot s κ a))))))
      (λ item k. on_grows s.world s (s.at + 1) k s.slots (in_heap s.world (put_own s.world.heap s.this f item.place (assigned op item.value (slot s κ a)))) (in_front s.world (put_own s.world.heap s.this f item.place (assigned op item.value (slot s κ a)))))
  act_grows line (Some (NewLocal l class)) s =
      after_grows s.world (acc.room line s.world class s.left) (λ n k. next (moved s (s.at + 1) k (store s.slots (s.base + l) (word (Ref n))) (in_heap s.world (created p class s.world.heap))))
      (λ n k. on_grows s.world s (s.at + 1) k (store s.slots (s.base + l) (word (Ref n))) (in_heap s.world (created p class s.world.heap)) (in_front s.world (created p class s.world.heap)))
  act_grows line (Some (NewField f class)) s =
      after_grows s.world (acc.room line s.world class s.left) (λ n k. next (moved s (s.at + 1) k s.slots (in_heap s.world (put_own (created p class s.world.heap) s.this f 0 (Ref n)))))
      (λ n k. on_grows s.world s (s.at + 1) k s.slots (in_heap s.world (put_own (created p class s.world.heap) s.this f 0 (Ref n))) (in_front s.world (put_own (created p class s.world.heap) s.this f 0 (Ref n))))
  act_grows line (Some (NewItem f i class)) s =
      after_grows s.world (item_named acc s line f i) (λ item k. after (acc.room line s.world class k) s.world (λ n k. next (moved s (s.at + 1) k s.slots (in_heap s.world (put_own (created p class s.world.heap) s.this f item.place (Ref n))))))
      (λ item k. after_grows s.world (acc.room line s.world class k) (λ n k. next (moved s (s.at + 1) k s.slots (in_heap s.world (put_own (created p class s.world.heap) s.this f item.place (Ref n)))))
      (λ n k. on_grows s.world s (s.at + 1) k s.slots (in_heap s.world (put_own (created p class s.world.heap) s.this f item.place (Ref n))) (in_front s.world (put_own (created p class s.world.heap) s.this f item.place (Ref n)))))
  act_grows line (Some (Print κ a)) s = on_grows s.world s (s.at + 1) s.left s.slots (printed s.world (slot s κ a)) (one_print s.world (slot s κ a))
  act_grows line (Some (Invoke op first)) s =
      after_grows s.world (object_named s line first) (λ n k. invoking (slice_get c.ops op.0) s next n first k (enters s.world)) (λ n k. invoking_grows s.world (slice_get c.ops op.0) s n first k s.world (stays s.world))
  act_grows line (Some (Heed op first)) s =
      after_grows s.world (object_named s line first) (λ n k. invoking (slice_get c.heeding op.0) s next n first k (enters s.world)) (λ n k. invoking_grows s.world (slice_get c.heeding op.0) s n first k s.world (stays s.world))
  act_grows line (Some (Hand op first)) s =
      after_grows s.world (object_named s line first) (λ n k. handed_call (slice_get c.ops op.0) s next n first k (handed_by into p s.world (call_of c s op first n) k))
      (λ n k. handed_grows s.world (slice_get c.ops op.0) s n first k (handed_by into p s.world (call_of c s op first n) k) (handed_front into p s.world (call_of c s op first n) k))
  act_grows line (Some (Begin n)) s = handing_grows line s n (slice_get c.loops s.at)

-- ---- runs

module _ (into : Into) (p : PlainProgram) (c : Code) where
  pub runs_grow : (n : ℕ) (s : State World) → Grown s.world (runs (run_into into p) c n s)
  runs_grow zero s = stays s.world
  runs_grow (suc n) s = act_grows into p c (runs (run_into into p) c n) (runs_grow n) (line_in (slice_get c.lines s.at)) (slice_get c.items s.at) s

  pub end_grows : (s : State World) (o : Outcome World) → Ends (run_into into p) c s o → Grown s.world o
  end_grows s o ends = subst (λ o. Grown s.world o) (ends.by 0) (runs_grow (ends.count + suc 0) s)

-- a state that is come to ends as that does which it comes from
pub ends_after : {S : Type 0} (acc : Accesses S) (c : Code) (s t : State S) (o : Outcome S) → Comes acc c s t → Ends acc c s o → Ends acc c t o
ends_after acc c s t o a b = record {
  count = b.count;
  by = λ k.
      let e : a.count + (b.count + suc k) ≡ b.count + suc (a.count + k) = omega arith in
      sym (a.by (b.count + suc k)) ∙ (ap (λ n. runs acc c n s) e ∙ b.by (a.count + k));
}

out_front : (w : World) (o : Flow World) → Grown w (outcome_of o) → Front w (world_after o)
out_front w (goes_on ls x k) g = g
out_front w (gives_back v x k) g = g
out_front w (stops t x) g = g
out_front w (runs_out x) g = g

-- a run that begins with one instruction
begins_with : (into : Into) (p : PlainProgram) (c : Code) (s : State World) (o : Outcome World) (w : World) → Ends (run_into into p) c s o → ((next : Next World) → ((t : State World) → Grown t.world (next t)) → Grown w (act (run_into into p) c (line_in (slice_get c.lines s.at)) (slice_get c.items s.at) next s)) → Grown w o
begins_with into p c s o w ends h =
    let e : ends.count + suc 0 ≡ suc ends.count = omega arith in
    subst (λ o. Grown w o) (sym (ap (λ n. runs (run_into into p) c n s) e) ∙ ends.by 0) (h (runs (run_into into p) c ends.count) (runs_grow into p c ends.count))

-- code that heeds marks does what the run with marks does, and without marks the plain code does
pub marked_ends : (p : PlainProgram) → ProgramTyped p → (marks : PlainMarks) → SoundMarks p marks → CallLoopsPutNothing → (code : Code) → IsLaidOut p code → HeedingLaidOut marks p code → (at : ℕ) → MainHeeds marks p code at → EndsNoted p marks code at
marked_ends p typed marks sound puts code is heeding at main into k =
    subst (λ o. Ends (run_into into p) code (beginning at k) (outcome_of o)) (lists_first p typed marks sound puts into k) (main_heeds into p code typed is.functions is.ops marks heeding at k main)

pub plain_ends : (p : PlainProgram) → ProgramTyped p → (code : Code) → IsLaidOut p code → (at : ℕ) → MainLaidOut p code at → EndsNoted p no_marks code at
plain_ends p typed code is at main into k =
    subst (λ o. Ends (run_into into p) code (beginning at k) (outcome_of o)) (sym (none_all p Null p.main.statements (map start_of p.main.locals) (fresh []) k)) (main_runs into p code typed is.functions is.ops at k main)

module _ (p : PlainProgram) (marks : PlainMarks) (code : Code) (at budget : ℕ) (heeds : EndsNoted p marks code at) (into : Into) where
  whole : Ends (run_into into p) code (beginning at budget) (outcome_of (noted_run p marks budget))
  whole = heeds into budget

  -- what was printed and noted up to a state that is come to
  pub stands_in_front : (s : State World) → Comes (run_into into p) code (beginning at budget) s → Front s.world (world_after (noted_run p marks budget))
  stands_in_front s comes =
      let o = noted_run p marks budget in
      out_front s.world o (end_grows into p code s (outcome_of o) (ends_after (run_into into p) code (beginning at budget) s (outcome_of o) comes whole))

  -- and how it ends, with its notes
  pub ends_noted : (s : State World) (o : Outcome World) → Comes (run_into into p) code (beginning at budget) s → Ends (run_into into p) code s o → o ≡ outcome_of (noted_run p marks budget)
  ends_noted s o comes ends = one_end (run_into into p) code (beginning at budget) o (outcome_of (noted_run p marks budget)) (joins_end (run_into into p) code comes ends) whole

  -- as the serial run does
  pub ends_serially : (s : State World) (o : Outcome World) → Comes (run_into into p) code (beginning at budget) s → Ends (run_into into p) code s o → serial p budget ≡ ended_as budget o
  ends_serially s o comes ends =
      sym (notes_change_nothing p marks budget) ∙ (sym (ended_is budget (noted_run p marks budget)) ∙ ap (ended_as budget) (sym (ends_noted s o comes ends)))

  -- a note that the machine is about to take stands behind those that it took
  noted_next : (s : State World) (n : Note) → Comes (run_into into p) code (beginning at budget) s → ((next : Next World) → ((t : State World) → Grown t.world (next t)) → Grown (noted s.world n) (act (run_into into p) code (line_in (slice_get code.lines s.at)) (slice_get code.items s.at) next s)) → Front (noted s.world n) (world_after (noted_run p marks budget))
  noted_next s n comes h =
      let o = noted_run p marks budget in
      let ends = ends_after (run_into into p) code (beginning at budget) s (outcome_of o) comes whole in
      out_front (noted s.world n) o (begins_with into p code s (outcome_of o) (noted s.world n) ends h)

  -- that of a call
  pub call_noted : (s : State World) → Comes (run_into into p) code (beginning at budget) s → (op : OpId) (first r : ℕ) → slice_get code.items s.at ≡ Some (Hand op first) → slot s as_pointer first ≡ Ref r → Front (noted s.world (note s.world.heap (call_of code s op first r ∷ []) s.left)) (world_after (noted_run p marks budget))
  call_noted s comes op first r stands names =
      let i = call_of code s op first r in
      let n = note s.world.heap (i ∷ []) s.left in
      noted_next s n comes
      (λ next grows.
      let line = line_in (slice_get code.lines s.at) in
      let is : act (run_into into p) code line (slice_get code.items s.at) next s ≡ handed_call (slice_get code.ops op.0) s next r first s.left (handed_by into p s.world i s.left) =
      ap (λ i. act (run_into into p) code line i next s) stands
      ∙ ap (λ v. after (pointed line v s.left) s.world (λ r k. handed_call (slice_get code.ops op.0) s next r first k (handed_by into p s.world (call_of code s op first r) k))) names in
      subst (λ o. Grown (noted s.world n) o) (sym is)
      (handed_grows into p code next grows (noted s.world n) (slice_get code.ops op.0) s r first s.left (handed_by into p s.world i s.left) (noted_front into p s.world [] (i ∷ []) s.left)))

  -- that of a loop whose section is done
  pub loop_noted : (s : State World) → Comes (run_into into p) code (beginning at budget) s → (n line : ℕ) (h : Handed) (m : LoopOutcome) → slice_get code.items s.at ≡ Some (Begin n) → slice_get code.lines s.at ≡ Some line → slice_get code.loops s.at ≡ Some (Some h) → puts_nothing h.loop ≡ true → loop_section p s.world.heap s.this (row s.slots s.base h.locals) line h.loop s.left ≡ loop_done m → Front (noted s.world (note s.world.heap m.listed (s.left - m.steps))) (world_after (noted_run p marks budget))
  loop_noted s comes n line h m stands on_line is put done =
      let x = note s.world.heap m.listed (s.left - m.steps) in
      let ls = row s.slots s.base h.locals in
      let given = begun_with into p s.world s.left (loop_done m) in
      noted_next s x comes
      (λ next grows.
      let does : act (run_into into p) code (line_in (slice_get code.lines s.at)) (slice_get code.items s.at) next s ≡ beginning_by h.locals s next n given =
      ap (λ l. act (run_into into p) code (line_in l) (slice_get code.items s.at) next s) on_line
      ∙ (ap (λ i. act (run_into into p) code line i next s) stands
      ∙ (ap (λ o. handing (run_into into p) line s next n o) is
      ∙ (ap (λ b. beginning_by h.locals s next n (either b (begun_with into p s.world s.left (loop_section p s.world.heap s.this ls line h.loop s.left)) (plainly s.world))) put
      ∙ ap (λ o. beginning_by h.locals s next n (begun_with into p s.world s.left o)) done))) in
      subst (λ o. Grown (noted s.world x) o) (sym does)
      (beginning_grows into p code next grows (noted s.world x) h.locals s n given (noted_front into p s.world m.locals m.listed (s.left - m.steps))))

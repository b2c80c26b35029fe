-- What notes nothing is the same, whatever of what is handed on is gone into: an instruction goes on alike, ends alike, or takes a note.
use Rattle.std.proofs.Common.{◌≡◌, ℕ, zero, suc, ◌+◌, ◌-◌, List, [], ◌∷◌, ◌++◌, length, Option, Some, None, refl, sym, ap, ◌∙◌, subst, arith, length-append}
use Rattle.std.proofs.lemmas.Option.{same_Some, none-some}
use Rattle.std.specs.Prelude.{ℤ, Bool, true, false, cond, slice_get}
use Rattle.ca_program.specs.Plain.{PlainProgram}
use Rattle.ca_program.specs.Kinds.{Kind, as_long, as_truth, as_pointer, unary_kind, binary_kind}
use Rattle.ca_program.specs.Instructions.{Instruction, Constant, Receiver, Move, Own, OwnItem, Field, Item, Unary, Binary, Update, Check, CheckItem, Decide, Jump, Unless, Turn, Call, Return, Lack, Leave, PutField, PutItem, NewLocal, NewField, NewItem, Print, Invoke, Heed, Hand, Begin, Handed, Code}
use Rattle.ca_model.specs.declared.value.Value.{Value as Datum}
use Rattle.ca_model.specs.declared.value.Value.TheVariants.{Long, Bool as Truth, Null, Ref}
use Rattle.ca_model.specs.Heaps.{created}
use Rattle.ca_meaning.specs.Operators.{operated, signed, assigned}
use Rattle.ca_meaning.specs.Expressions.{Out, gives, traps, over, ◌>>=◌, take_step, one_in, items_in, slot_of, indexed, answer, decided, Invocation}
use Rattle.ca_meaning.specs.Serial.{Note, World, in_heap, printed, put_own}
use Rattle.ca_meaning.specs.Sections.{LoopSectioned, loop_done, loop_stopped, loop_over, loop_section}
use Rattle.ca_parallel.specs.Lists.{note, noted, either}
use Rattle.ca_note_laws.specs.Listing.{puts_nothing}
use Rattle.ca_code_laws.specs.Words.{word, has_kind}
use Rattle.ca_code_laws.specs.Machine.{store, Back, enters, plainly, State, Outcome, Finished, Trapped, Spent, Wanting, Unfinished, Stuck, Next, moved, slot, after, put_as, giving, deciding, if_true, entering, returning, leaving, call_of, invoking, handed_call, row, beginning_by, handing, own_slots, item_named, object_named, act, line_in, runs, Comes, Ends}
use Rattle.ca_code_laws.specs.Runs.{Into, never, begun_with, handed_by, run_access, run_into}
use Rattle.ca_code_laws.specs.Told.{Front, notes_in}
use Rattle.ca_code_laws.proofs.Grown.{Grown, noted_front, handed_grows, beginning_grows, runs_grow}

-- ---- a note more

longer : (w : World) (n : Note) (x : World) → Front (noted w n) x → x.notes ≡ w.notes → ⊥
longer w n x f e =
    let one : length x.notes ≡ length ((w.notes ++ n ∷ []) ++ f.notes) = ap length f.noted in
    let two : length x.notes ≡ length w.notes = ap length e in
    omega (arith, one, two, length-append (w.notes ++ n ∷ []) f.notes, length-append w.notes (n ∷ []))

noted_more : (w : World) (n : Note) (o : Outcome World) → Grown (noted w n) o → notes_in o ≡ Some w.notes → ⊥
noted_more w n (Finished x k) g e = longer w n x g (same_Some _ _ e)
noted_more w n (Trapped t x) g e = longer w n x g (same_Some _ _ e)
noted_more w n (Spent x) g e = longer w n x g (same_Some _ _ e)
noted_more w n Wanting g e = none-some _ e
noted_more w n (Unfinished s) g e = longer w n s.world g (same_Some _ _ e)
noted_more w n Stuck g e = none-some _ e

-- ---- an instruction in both

abbrev IsEnd : Outcome World → Type 0
IsEnd (Unfinished s) = ⊥
IsEnd _ = Unit {0}

not_here : (o : Outcome World) (t : State World) → IsEnd o → o ≡ Unfinished t → ⊥
not_here (Finished x k) t is e = cc
not_here (Trapped y x) t is e = cc
not_here (Spent x) t is e = cc
not_here Wanting t is e = cc
not_here (Unfinished s) t is e = is
not_here Stuck t is e = cc

-- in this world, by what is next
data Shape (w : World) (f g : Next World → Outcome World) : Type 0 where
  goes : (t : State World) → t.world.notes ≡ w.notes → ((next : Next World) → f next ≡ next t) → ((next : Next World) → g next ≡ next t) → Shape w f g
  ends : (o : Outcome World) → IsEnd o → ((next : Next World) → f next ≡ o) → ((next : Next World) → g next ≡ o) → Shape w f g
  takes : (n : Note) → ((next : Next World) → ((t : State World) → Grown t.world (next t)) → Grown (noted w n) (f next)) → Shape w f g

to_state : (w : World) (t : State World) → t.world.notes ≡ w.notes → Shape w (λ next. next t) (λ next. next t)
to_state w t e = goes t e (λ next. refl) (λ next. refl)

to_end : (w : World) (o : Outcome World) → IsEnd o → Shape w (λ next. o) (λ next. o)
to_end w o is = ends o is (λ next. refl) (λ next. refl)

after_shape : {A : Type 0} (w v : World) (o : Out A) (f g : A → ℕ → Next World → Outcome World) → ((x : A) (k : ℕ) → Shape w (f x k) (g x k)) → Shape w (λ next. after o v (λ x k. f x k next)) (λ next. after o v (λ x k. g x k next))
after_shape w v (gives x k) f g h = h x k
after_shape w v (traps t) f g h = to_end w (Trapped t v) tt
after_shape w v over f g h = to_end w (Spent v) tt

cond_shape : (w : World) (b : Bool) (f g x y : Next World → Outcome World) → Shape w f g → Shape w x y → Shape w (λ next. cond b (f next) (x next)) (λ next. cond b (g next) (y next))
cond_shape w true f g x y h i = h
cond_shape w false f g x y h i = i

choice_shape : (w : World) (v : Datum) (f g x y : Next World → Outcome World) → Shape w f g → Shape w x y → Shape w (λ next. if_true v (f next) (x next)) (λ next. if_true v (g next) (y next))
choice_shape w (Truth true) f g x y h i = h
choice_shape w (Truth false) f g x y h i = i
choice_shape w (Long n) f g x y h i = i
choice_shape w (Ref n) f g x y h i = i
choice_shape w Null f g x y h i = i

put_shape : (κ : Kind) (s : State World) (d n : ℕ) (v : Datum) (k : ℕ) → Shape s.world (λ next. put_as κ s next d n v k) (λ next. put_as κ s next d n v k)
put_shape κ s d n v k =
    let t = moved s (s.at + 1 + n) k (store s.slots (s.base + d) (word v)) s.world in
    cond_shape s.world (has_kind κ v) (λ next. next t) (λ next. next t) (λ next. Wanting) (λ next. Wanting) (to_state s.world t refl) (to_end s.world Wanting tt)

giving_shape : (κ : Kind) (s : State World) (d : ℕ) (o : Out Datum) → Shape s.world (λ next. giving κ s next d o) (λ next. giving κ s next d o)
giving_shape κ s d o = after_shape s.world s.world o (λ v k next. put_as κ s next d 0 v k) (λ v k next. put_as κ s next d 0 v k) (λ v k. put_shape κ s d 0 v k)

deciding_shape : (s : State World) (d n : ℕ) (o : Option Datum) → Shape s.world (λ next. deciding s next d n o) (λ next. deciding s next d n o)
deciding_shape s d n (Some v) = put_shape as_truth s d n v s.left
deciding_shape s d n None = to_state s.world (moved s (s.at + 1) s.left s.slots s.world) refl

entering_shape : (w : World) (o : Option ℕ) (s : State World) (this : Datum) (first : ℕ) (wants : Bool) (to k : ℕ) → s.world.notes ≡ w.notes → Shape w (λ next. entering o s next this first wants to k) (λ next. entering o s next this first wants to k)
entering_shape w None s this first wants to k e = to_end w Stuck tt
entering_shape w (Some start) s this first wants to k e =
    to_state w (record { at = start; base = s.base + (first + 1); left = k; this = this; below = record { at = s.at + 1; base = s.base; this = s.this; wants = wants; to = to } ∷ s.below; slots = s.slots; world = s.world }) e

returning_shape : (bs : List Back) (s : State World) (v : ℤ) → Shape s.world (λ next. returning bs s next v) (λ next. returning bs s next v)
returning_shape [] s v = to_end s.world (Spent s.world) tt
returning_shape (b ∷ bs) s v =
    let t : State World = record { at = b.at; base = b.base; left = s.left; this = b.this; below = bs; slots = store s.slots (b.base + b.to) v; world = s.world } in
    cond_shape s.world b.wants (λ next. next t) (λ next. next t) (λ next. Spent s.world) (λ next. Spent s.world) (to_state s.world t refl) (to_end s.world (Spent s.world) tt)

leaving_shape : (bs : List Back) (s : State World) → Shape s.world (λ next. leaving bs s next) (λ next. leaving bs s next)
leaving_shape [] s = to_end s.world (Finished s.world s.left) tt
leaving_shape (b ∷ bs) s = to_state s.world (record { at = b.at; base = b.base; left = s.left; this = b.this; below = bs; slots = s.slots; world = s.world }) refl

invoking_shape : (start : Option ℕ) (s : State World) (r first k : ℕ) → Shape s.world (λ next. invoking start s next r first k (enters s.world)) (λ next. invoking start s next r first k (enters s.world))
invoking_shape start s r first zero = to_end s.world (Spent s.world) tt
invoking_shape start s r first (suc k) = entering_shape s.world start (moved s s.at k s.slots s.world) (Ref r) first false 0 k refl

module _ (into : Into) (p : PlainProgram) (c : Code) where
  -- a call that is handed on takes a note, and so does a loop whose section is done
  handed_shape : (start : Option ℕ) (s : State World) (r first k : ℕ) (i : Invocation) → Shape s.world (λ next. handed_call start s next r first k (handed_by never p s.world i k)) (λ next. handed_call start s next r first k (handed_by into p s.world i k))
  handed_shape start s r first k i =
      let n = note s.world.heap (i ∷ []) k in
      takes n (λ next grows. handed_grows never p c next grows (noted s.world n) start s r first k (handed_by never p s.world i k) (noted_front never p s.world [] (i ∷ []) k))

  handing_shape : (line : ℕ) (s : State World) (n : ℕ) (o : Option (Option Handed)) → Shape s.world (λ next. handing (run_access p) line s next n o) (λ next. handing (run_into into p) line s next n o)
  handing_shape line s n None = to_end s.world Stuck tt
  handing_shape line s n (Some None) = to_end s.world Stuck tt
  handing_shape line s n (Some (Some h)) = by (puts_nothing h.loop) (loop_section p s.world.heap s.this (row s.slots s.base h.locals) line h.loop s.left)
    where
      plain : Shape s.world (λ next. next (moved s (s.at + 1) s.left s.slots s.world)) (λ next. next (moved s (s.at + 1) s.left s.slots s.world))
      plain = to_state s.world (moved s (s.at + 1) s.left s.slots s.world) refl

      by : (b : Bool) (o : LoopSectioned) → Shape s.world (λ next. beginning_by h.locals s next n (either b (begun_with never p s.world s.left o) (plainly s.world))) (λ next. beginning_by h.locals s next n (either b (begun_with into p s.world s.left o) (plainly s.world)))
      by false o = plain
      by true (loop_done m) =
          let x = note s.world.heap m.listed (s.left - m.steps) in
          takes x (λ next grows. beginning_grows never p c next grows (noted s.world x) h.locals s n (begun_with never p s.world s.left (loop_done m)) (noted_front never p s.world m.locals m.listed (s.left - m.steps)))
      by true (loop_stopped t) = plain
      by true loop_over = plain

  act_shape : (line : ℕ) (i : Option Instruction) (s : State World) → Shape s.world (λ next. act (run_access p) c line i next s) (λ next. act (run_into into p) c line i next s)
  act_shape line None s = to_end s.world Stuck tt
  act_shape line (Some (Constant d n)) s = to_state s.world (moved s (s.at + 1) s.left (store s.slots (s.base + d) n) s.world) refl
  act_shape line (Some (Receiver d)) s = giving_shape as_pointer s d (gives s.this s.left)
  act_shape line (Some (Move d a)) s = to_state s.world (moved s (s.at + 1) s.left (store s.slots (s.base + d) (s.slots (s.base + a))) s.world) refl
  act_shape line (Some (Own d κ f)) s = giving_shape κ s d (gives (one_in (slice_get (own_slots (run_access p) s) f.field)) s.left)
  act_shape line (Some (OwnItem d κ f a)) s = giving_shape κ s d (item_named (run_access p) s line f a >>= λ item k. gives item.value k)
  act_shape line (Some (Field d a κ f)) s = giving_shape κ s d (object_named s line a >>= λ n k. gives (one_in (slot_of s.world.heap n f)) k)
  act_shape line (Some (Item d a κ f b)) s =
      giving_shape κ s d (object_named s line a >>= λ n k. indexed line (items_in (slot_of s.world.heap n f)) (slot s as_long b) k >>= λ item k. gives item.value k)
  act_shape line (Some (Unary d op a)) s = giving_shape (unary_kind op) s d (gives (signed op (slot s (unary_kind op) a)) s.left)
  act_shape line (Some (Binary d op x y a b)) s = giving_shape (binary_kind op) s d (answer line (operated op (slot s x a) (slot s y b)) s.left)
  act_shape line (Some (Update l op κ a)) s = giving_shape κ s l (gives (assigned op (slot s κ l) (slot s κ a)) s.left)
  act_shape line (Some (Check a)) s =
      after_shape s.world s.world (object_named s line a) (λ n k next. next (moved s (s.at + 1) k s.slots s.world)) (λ n k next. next (moved s (s.at + 1) k s.slots s.world))
      (λ n k. to_state s.world (moved s (s.at + 1) k s.slots s.world) refl)
  act_shape line (Some (CheckItem f a)) s =
      after_shape s.world s.world (item_named (run_access p) s line f a) (λ item k next. next (moved s (s.at + 1) k s.slots s.world)) (λ item k next. next (moved s (s.at + 1) k s.slots s.world))
      (λ item k. to_state s.world (moved s (s.at + 1) k s.slots s.world) refl)
  act_shape line (Some (Decide d op a n)) s = deciding_shape s d n (decided op (slot s as_truth a))
  act_shape line (Some (Jump n)) s = to_state s.world (moved s (s.at + 1 + n) s.left s.slots s.world) refl
  act_shape line (Some (Unless a n)) s =
      let t = moved s (s.at + 1) s.left s.slots s.world in
      let u = moved s (s.at + 1 + n) s.left s.slots s.world in
      choice_shape s.world (slot s as_truth a) (λ next. next t) (λ next. next t) (λ next. next u) (λ next. next u) (to_state s.world t refl) (to_state s.world u refl)
  act_shape line (Some (Turn a n)) s =
      let u = moved s (s.at + 1) s.left s.slots s.world in
      choice_shape s.world (slot s as_truth a) (λ next. after (take_step s.left) s.world (λ _ k. next (moved s (s.at - n) k s.slots s.world))) (λ next. after (take_step s.left) s.world (λ _ k. next (moved s (s.at - n) k s.slots s.world))) (λ next. next u) (λ next. next u)
      (after_shape s.world s.world (take_step s.left) (λ _ k next. next (moved s (s.at - n) k s.slots s.world)) (λ _ k next. next (moved s (s.at - n) k s.slots s.world)) (λ _ k. to_state s.world (moved s (s.at - n) k s.slots s.world) refl)) (to_state s.world u refl)
  act_shape line (Some (Call m first to)) s =
      after_shape s.world s.world (object_named s line first >>= λ n k. take_step k >>= λ _ k. gives n k) (λ n k next. entering (slice_get c.functions m.0) s next (Ref n) first true to k) (λ n k next. entering (slice_get c.functions m.0) s next (Ref n) first true to k)
      (λ n k. entering_shape s.world (slice_get c.functions m.0) s (Ref n) first true to k refl)
  act_shape line (Some (Return a)) s = returning_shape s.below s (s.slots (s.base + a))
  act_shape line (Some Lack) s = to_end s.world Wanting tt
  act_shape line (Some Leave) s = leaving_shape s.below s
  act_shape line (Some (PutField f op κ a)) s =
      to_state s.world (moved s (s.at + 1) s.left s.slots (in_heap s.world (put_own s.world.heap s.this f 0 (assigned op (one_in (slice_get (own_slots (run_access p) s) f.field)) (slot s κ a))))) refl
  act_shape line (Some (PutItem f i op κ a)) s =
      after_shape s.world s.world (item_named (run_access p) s line f i) (λ item k next. next (moved s (s.at + 1) k s.slots (in_heap s.world (put_own s.world.heap s.this f item.place (assigned op item.value (slot s κ a)))))) (λ item k next. next (moved s (s.at + 1) k s.slots (in_heap s.world (put_own s.world.heap s.this f item.place (assigned op item.value (slot s κ a))))))
      (λ item k. to_state s.world (moved s (s.at + 1) k s.slots (in_heap s.world (put_own s.world.heap s.this f item.place (assigned op item.value (slot s κ a))))) refl)
  act_shape line (Some (NewLocal l class)) s =
      after_shape s.world s.world ((run_access p).room line s.world class s.left) (λ n k next. next (moved s (s.at + 1) k (store s.slots (s.base + l) (word (Ref n))) (in_heap s.world (created p class s.world.heap)))) (λ n k next. next (moved s (s.at + 1) k (store s.slots (s.base + l) (word (Ref n))) (in_heap s.world (created p class s.world.heap))))
      (λ n k. to_state s.world (moved s (s.at + 1) k (store s.slots (s.base + l) (word (Ref n))) (in_heap s.world (created p class s.world.heap))) refl)
  act_shape line (Some (NewField f class)) s =
      after_shape s.world s.world ((run_access p).room line s.world class s.left) (λ n k next. next (moved s (s.at + 1) k s.slots (in_heap s.world (put_own (created p class s.world.heap) s.this f 0 (Ref n))))) (λ n k next. next (moved s (s.at + 1) k s.slots (in_heap s.world (put_own (created p class s.world.heap) s.this f 0 (Ref n)))))
      (λ n k. to_state s.world (moved s (s.at + 1) k s.slots (in_heap s.world (put_own (created p class s.world.heap) s.this f 0 (Ref n)))) refl)
  act_shape line (Some (NewItem f i class)) s =
      after_shape s.world s.world (item_named (run_access p) s line f i) (λ item k next. after ((run_access p).room line s.world class k) s.world (λ n k. next (moved s (s.at + 1) k s.slots (in_heap s.world (put_own (created p class s.world.heap) s.this f item.place (Ref n)))))) (λ item k next. after ((run_access p).room line s.world class k) s.world (λ n k. next (moved s (s.at + 1) k s.slots (in_heap s.world (put_own (created p class s.world.heap) s.this f item.place (Ref n))))))
      (λ item k. after_shape s.world s.world ((run_access p).room line s.world class k) (λ n k next. next (moved s (s.at + 1) k s.slots (in_heap s.world (put_own (created p class s.world.heap) s.this f item.place (Ref n))))) (λ n k next. next (moved s (s.at + 1) k s.slots (in_heap s.world (put_own (created p class s.world.heap) s.this f item.place (Ref n)))))
      (λ n k. to_state s.world (moved s (s.at + 1) k s.slots (in_heap s.world (put_own (created p class s.world.heap) s.this f item.place (Ref n)))) refl))
  act_shape line (Some (Print κ a)) s = to_state s.world (moved s (s.at + 1) s.left s.slots (printed s.world (slot s κ a))) refl
  act_shape line (Some (Invoke op first)) s =
      after_shape s.world s.world (object_named s line first) (λ n k next. invoking (slice_get c.ops op.0) s next n first k (enters s.world)) (λ n k next. invoking (slice_get c.ops op.0) s next n first k (enters s.world))
      (λ n k. invoking_shape (slice_get c.ops op.0) s n first k)
  act_shape line (Some (Heed op first)) s =
      after_shape s.world s.world (object_named s line first) (λ n k next. invoking (slice_get c.heeding op.0) s next n first k (enters s.world)) (λ n k next. invoking (slice_get c.heeding op.0) s next n first k (enters s.world))
      (λ n k. invoking_shape (slice_get c.heeding op.0) s n first k)
  act_shape line (Some (Hand op first)) s =
      after_shape s.world s.world (object_named s line first) (λ n k next. handed_call (slice_get c.ops op.0) s next n first k (handed_by never p s.world (call_of c s op first n) k)) (λ n k next. handed_call (slice_get c.ops op.0) s next n first k (handed_by into p s.world (call_of c s op first n) k))
      (λ n k. handed_shape (slice_get c.ops op.0) s n first k (call_of c s op first n))
  act_shape line (Some (Begin n)) s = handing_shape line s n (slice_get c.loops s.at)

  -- the instruction where a state stands
  here_shape : (s : State World) → Shape s.world (λ next. act (run_access p) c (line_in (slice_get c.lines s.at)) (slice_get c.items s.at) next s) (λ next. act (run_into into p) c (line_in (slice_get c.lines s.at)) (slice_get c.items s.at) next s)
  here_shape s = act_shape (line_in (slice_get c.lines s.at)) (slice_get c.items s.at) s

  -- ---- runs

  abbrev Same : ℕ → Type 0
  Same n = (s : State World) (o : Outcome World) → runs (run_access p) c n s ≡ o → notes_in o ≡ Some s.world.notes → runs (run_into into p) c n s ≡ o

  ends_on : (n : ℕ) → Same n → (s : State World) (o : Outcome World) → runs (run_access p) c (suc n) s ≡ o → notes_in o ≡ Some s.world.notes → Shape s.world (λ next. act (run_access p) c (line_in (slice_get c.lines s.at)) (slice_get c.items s.at) next s) (λ next. act (run_into into p) c (line_in (slice_get c.lines s.at)) (slice_get c.items s.at) next s) → runs (run_into into p) c (suc n) s ≡ o
  ends_on n before s o e k (goes t same f g) =
      g (runs (run_into into p) c n) ∙ before t o (sym (f (runs (run_access p) c n)) ∙ e) (k ∙ ap Some (sym same))
  ends_on n before s o e k (ends x is f g) = g (runs (run_into into p) c n) ∙ (sym (f (runs (run_access p) c n)) ∙ e)
  ends_on n before s o e k (takes x grow) =
      absurd (noted_more s.world x o (subst (λ o. Grown (noted s.world x) o) e (grow (runs (run_access p) c n) (runs_grow never p c n))) k)

  same_end : (n : ℕ) → Same n
  same_end zero s o e k = e
  same_end (suc n) s o e k = ends_on n (same_end n) s o e k (here_shape s)

  pub ends_unnoted : (s : State World) (o : Outcome World) → Ends (run_access p) c s o → notes_in o ≡ Some s.world.notes → Ends (run_into into p) c s o
  ends_unnoted s o a k = record { count = a.count; by = λ m. same_end (a.count + suc m) s o (a.by m) k }

  abbrev Arrives : ℕ → Type 0
  Arrives n = (s t : State World) → ((k : ℕ) → runs (run_access p) c (n + k) s ≡ runs (run_access p) c k t) → t.world.notes ≡ s.world.notes → (k : ℕ) → runs (run_into into p) c (n + k) s ≡ runs (run_into into p) c k t

  arrives_on : (n : ℕ) → Arrives n → (s t : State World) → ((k : ℕ) → runs (run_access p) c (suc n + k) s ≡ runs (run_access p) c k t) → t.world.notes ≡ s.world.notes → (k : ℕ) → Shape s.world (λ next. act (run_access p) c (line_in (slice_get c.lines s.at)) (slice_get c.items s.at) next s) (λ next. act (run_into into p) c (line_in (slice_get c.lines s.at)) (slice_get c.items s.at) next s) → runs (run_into into p) c (suc n + k) s ≡ runs (run_into into p) c k t
  arrives_on n before s t a same k = by
    where
      less : (k : ℕ) → suc n + k ≡ suc (n + k)
      less k = omega arith

      acts : (k : ℕ) → runs (run_access p) c (suc (n + k)) s ≡ runs (run_access p) c k t
      acts k = ap (λ m. runs (run_access p) c m s) (sym (less k)) ∙ a k

      by : Shape s.world (λ next. act (run_access p) c (line_in (slice_get c.lines s.at)) (slice_get c.items s.at) next s) (λ next. act (run_into into p) c (line_in (slice_get c.lines s.at)) (slice_get c.items s.at) next s) → runs (run_into into p) c (suc n + k) s ≡ runs (run_into into p) c k t
      by (goes u kept f g) =
          ap (λ m. runs (run_into into p) c m s) (less k)
          ∙ (g (runs (run_into into p) c (n + k)) ∙ before u t (λ j. sym (f (runs (run_access p) c (n + j))) ∙ acts j) (same ∙ sym kept) k)
      by (ends x is f g) = absurd (not_here x t is (sym (f (runs (run_access p) c (n + 0))) ∙ acts 0))
      by (takes x grow) =
          let grown : Grown (noted s.world x) (Unfinished t) = subst (λ o. Grown (noted s.world x) o) (acts 0) (grow (runs (run_access p) c (n + 0)) (runs_grow never p c (n + 0))) in
          absurd (longer s.world x t.world grown same)

  same_place : (n : ℕ) → Arrives n
  same_place zero s t a same k =
      let none : 0 + k ≡ k = omega arith in
      let is : Unfinished s ≡ Unfinished t = a 0 in
      let one : s ≡ t = state_is is in
      ap (λ m. runs (run_into into p) c m s) none ∙ ap (runs (run_into into p) c k) one
    where
      state_is : Unfinished s ≡ Unfinished t → s ≡ t
      state_is e = cc
  same_place (suc n) s t a same k = arrives_on n (same_place n) s t a same k (here_shape s)

  pub comes_unnoted : (s t : State World) → Comes (run_access p) c s t → t.world.notes ≡ s.world.notes → Comes (run_into into p) c s t
  comes_unnoted s t a same = record { count = a.count; by = same_place a.count s t a.by same }

-- What tasks of one object add to its history, and to a seat's notes.
use Rattle.std.proofs.Common.{◌≡◌, ℕ, zero, suc, ◌+◌, ◌<◌, Bool, true, List, [], ◌∷◌, ◌++◌, All, drop, length, Option, Some, sym, refl, ap, ◌∙◌, subst, arith, length-append, append_assoc, append-nil}
use Rattle.std.proofs.lemmas.List.Elements.{All-append, All-weaker}
use Rattle.ca_logs.specs.declared.log.Task.{Task}
use Rattle.ca_logs.specs.declared.log.Stop.{Stop}
use Rattle.ca_logs.specs.declared.log.CellLog.{CellLog}
use Rattle.ca_logs.specs.Entries.{HasReceiver, call_of}
use Rattle.ca_cells.specs.Rounds.{MayRun, program_of, frozen_of}
use Rattle.ca_cells.specs.Notes.{InOrder, IsKept, last_place, note_of}
use Rattle.ca_cells.specs.Items.{Runs, all_ran, one_ran, one_stuck, one_kept, is_closed_to, entry_ran, entry_stuck}
use Rattle.ca_cells.specs.clauses.Courses.{RunsTo}
use Rattle.ca_cells.specs.declared.cells.course.Course.{Course as Ended}
use Rattle.ca_cells.specs.clauses.Plays.{Chain, no_more, one_more, ChainBy}
use Rattle.ca_cells.specs.declared.rule.Given.{Given}
use Rattle.ca_cells.specs.declared.rule.Note.{Note}
use Rattle.ca_cells.proofs.Applies.{in_order_more, receiver_in}

all_head : (P : Task → Type 0) (x : Task) (xs : List Task) → All P (x ∷ xs) → P x
all_head P x xs h = h 0 x (omega arith)

all_tail : (P : Task → Type 0) (x : Task) (xs : List Task) → All P (x ∷ xs) → All P xs
all_tail P x xs h = λ k d l. h (suc k) d (omega arith)

one_note : (P : Note → Type 0) (x : Note) → P x → All P (x ∷ [])
one_note P x h zero d l = h
one_note P x h (suc k) d l = absurd (omega arith)

module _ (given : Given) (left cell : ℕ) where
  -- the entries are added one behind the other
  pub runs_chain : {old new : CellLog} {tasks made kept : List Task} {notes : List Note} {stop : Option Stop} → Runs given left cell old tasks notes made stop kept new → All (HasReceiver cell) tasks → Chain given cell old notes new
  runs_chain (all_ran log) of = no_more log
  runs_chain (one_ran old task tasks m notes made stop kept new takes section legal more) of =
      one_more old _ new (entry_ran given left cell task old m) notes
      (record { receiver = all_head (HasReceiver cell) task tasks of; takes_one = takes; opened = refl; entries = refl; legal = legal })
      (runs_chain more (all_tail (HasReceiver cell) task tasks of))
  runs_chain (one_stuck old task tasks why takes section legal) of =
      one_more old _ _ (entry_stuck given left cell task old why) []
      (record { receiver = all_head (HasReceiver cell) task tasks of; takes_one = takes; opened = refl; entries = refl; legal = legal }) (no_more _)
  runs_chain (one_kept old task tasks closed) of = no_more old

  -- the notes of a seat stay in order
  pub chain_in_order : {old new : CellLog} {notes : List Note} (xs : List Note) → Chain given cell old notes new → InOrder xs → All (λ (x : Note). x.cell ≡ cell → x.place < length old.entries) xs → InOrder (xs ++ notes)
  chain_in_order xs (no_more log) o b = subst InOrder (sym (append-nil xs)) o
  chain_in_order xs (one_more old mid new entry notes g more) o b =
      let note : Note = note_of cell old entry in
      let longer : length mid.entries ≡ length old.entries + 1 = ap length g.entries ∙ length-append old.entries (entry ∷ []) in
      subst InOrder (append_assoc xs (note ∷ []) notes) (chain_in_order (xs ++ note ∷ []) more (in_order_more xs note o b)
      (All-append (λ (x : Note). x.cell ≡ cell → x.place < length mid.entries) xs (note ∷ [])
      (All-weaker (λ (x : Note). x.cell ≡ cell → x.place < length old.entries) (λ (x : Note). x.cell ≡ cell → x.place < length mid.entries) (λ x h e. let z = h e in omega arith) xs b)
      (one_note (λ (x : Note). x.cell ≡ cell → x.place < length mid.entries) note (λ e. omega arith))))

pub chain_by : (key : Given) (g : Option Given) (n : ℕ) (old new : CellLog) (notes : List Note) → g ≡ Some key → Chain key n old notes new → ChainBy g n old notes new
chain_by key g n old new notes e h = subst (λ (x : Option Given). ChainBy x n old notes new) (sym e) h

-- the first task's receiver is there
pub first_receiver : (key : Given) (tasks : List Task) (cell : ℕ) → All (HasReceiver cell) tasks → All (MayRun key) tasks → 0 < length tasks → cell < length (frozen_of key)
first_receiver key [] cell a b l = absurd (omega arith)
first_receiver key (task ∷ tasks) cell a b l =
    subst (λ (n : ℕ). n < length (frozen_of key)) (all_head (HasReceiver cell) task tasks a) (let m : MayRun key task = all_head (MayRun key) task tasks b in receiver_in (program_of key) (frozen_of key) (call_of task) m.typed)

-- the receiver that was read is theirs
pub these_have : (tasks slice : List Task) (cell read : ℕ) → slice ≡ tasks → All (HasReceiver cell) tasks → ((n : ℕ) → All (HasReceiver n) slice → read ≡ n) → All (HasReceiver read) tasks
these_have tasks slice cell read same a f = subst (λ (n : ℕ). All (HasReceiver n) tasks) (sym (f cell (subst (All (HasReceiver cell)) (sym same) a))) a

-- what the tasks of a slice did, of the list
pub record Course (key : Given) (left cell : ℕ) (old new : CellLog) (tasks made kept : List Task) (stop : Option Stop) (closed : Bool) : Type 0 where
  pub notes : List Note
  pub runs : Runs key left cell old tasks notes made stop kept new
  pub chain : Chain key cell old notes new
  pub closed_is : closed ≡ is_closed_to stop kept
  pub closing : closed ≡ true → IsKept new (last_place cell new)
  pub may_run : All (MayRun key) made

pub course_of : (key : Given) (left cell : ℕ) (old new : CellLog) (tasks slice made kept : List Task) (c : Ended) → slice ≡ tasks → All (HasReceiver cell) tasks → kept ≡ drop c.count tasks → RunsTo key left cell old slice made c new → Course key left cell old new tasks made kept c.stop c.closed
course_of key left cell old new tasks slice made kept c same of kept_is r =
    let these : drop c.count slice ≡ kept = ap (drop c.count) same ∙ sym kept_is in
    let runs : Runs key left cell old tasks r.notes made c.stop kept new = subst (λ ts. Runs key left cell old ts r.notes made c.stop kept new) same (subst (λ ks. Runs key left cell old slice r.notes made c.stop ks new) these r.runs) in record {
      notes = r.notes;
      runs = runs;
      chain = runs_chain key left cell runs of;
      closed_is = r.closed ∙ ap (is_closed_to c.stop) these;
      closing = r.closing;
      may_run = r.may_run;
    }

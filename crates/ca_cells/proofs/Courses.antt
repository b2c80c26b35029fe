-- Tasks of one object, one after the other.
use Rattle.std.proofs.Common.{◌≡◌, ℕ, zero, suc, ◌+◌, ◌<◌, ◌≤◌, Bool, true, false, true≢false, not, cond, List, [], ◌∷◌, ◌++◌, All, take, drop, get_or, length, Option, Some, None, Result, Ok, Err, IfOk, OnErr, sym, refl, ap, ◌∙◌, subst, arith, length-append, append_assoc, append-nil, eq-eqb}
use Rattle.std.specs.Result.{is_err}
use lib.Seq.{take-append_seam}
use Rattle.std.proofs.lemmas.List.{take-append-drop}
use Rattle.std.proofs.lemmas.List.Elements.{All-append}
use Rattle.ca_program.specs.Plain.{PlainProgram}
use Rattle.ca_model.specs.declared.value.Object.{Object}
use Rattle.ca_meaning.specs.Sections.{section}
use Rattle.ca_meaning.specs.Agree.{AgreesAt}
use Rattle.ca_meaning.specs.WellTyped.{AllWellTyped}
use Rattle.ca_parallel.specs.Extents.{Extent}
use Rattle.ca_order_laws.specs.Order.{AllInside}
use Rattle.ca_undo.specs.Olds.{put_back, AllThere}
use Rattle.ca_undo.specs.declared.olds.Old.{Old}
use Rattle.ca_sections.specs.Answers.{CanUndo}
use Rattle.ca_sections.proofs.Later.{back_later, there_later}
use Rattle.ca_sections.specs.declared.desk.Desk.{Desk}
use Rattle.ca_logs.specs.declared.log.Task.{Task}
use Rattle.ca_logs.specs.declared.log.Stop.{Stop}
use Rattle.ca_logs.specs.declared.log.Entry.{Entry}
use Rattle.ca_logs.specs.declared.log.CellLog.{CellLog}
use Rattle.ca_logs.specs.Lasts.{last_of}
use Rattle.ca_logs.specs.Entries.{has_stop, with_entry, task_calls}
use Rattle.ca_logs.specs.Telling.{IsMark, stopped_in}
use Rattle.ca_logs.specs.declared.entries.Mark.{Mark}
use Rattle.ca_logs.specs.Legal.{LegalCell}
use Rattle.ca_cells.specs.Histories.{is_closed, is_last_clock}
use Rattle.ca_cells.specs.Adds.{Adds, IsRan}
use Rattle.ca_cells.specs.Rounds.{SeparableIn, IsRound, IsLegal, MayRun, program_of, frozen_of}
use Rattle.ca_cells.specs.Notes.{IsKept, last_place, note_of}
use Rattle.ca_cells.specs.Items.{Runs, all_ran, one_ran, one_stuck, one_kept, is_closed_to, entry_ran, entry_stuck, made_by}
use Rattle.ca_cells.specs.clauses.Courses.{RunsTo, Nexts, RanNext, StuckNext, ClosedNext, Behind, Backable, Undoable}
use Rattle.ca_cells.specs.declared.rule.Given.{Given}
use Rattle.ca_cells.specs.declared.rule.Note.{Note}
use Rattle.ca_cells.specs.declared.adding.Added.{Added}
use Rattle.ca_cells.specs.declared.adding.Added.TheVariants as added
use Rattle.ca_cells.specs.declared.cells.course.Next.{Next}
use Rattle.ca_cells.specs.declared.cells.course.Next.TheVariants as next
use Rattle.ca_cells.proofs.Applies.{ran_of, stuck_of, by_kept, closed_kept, still_legal, all_may_run}
use Rattle.ca_cells.proofs.Histories.{not_closed}

-- what is known of the next task's history
pub record Setting (key : Given) (p : PlainProgram) (frozen : List Object) (cell : ℕ) (task : Task) (old : CellLog) : Type 0 where
  pub program : program_of key ≡ p
  pub heap : frozen_of key ≡ frozen
  pub round : IsRound key
  pub legal : IsLegal key cell old
  pub may_run : MayRun key task
  pub receiver : task.op.receiver ≡ cell

module _ (key : Given) (p : PlainProgram) (frozen : List Object) (cell left : ℕ) (task : Task) (old new : CellLog) (s : Setting key p frozen cell task old) where
  here : IsLegal key task.op.receiver old
  here = subst (λ (n : ℕ). IsLegal key n old) (sym s.receiver) s.legal

  there : IsLegal key task.op.receiver new → IsLegal key cell new
  there h = subst (λ (n : ℕ). IsLegal key n new) s.receiver h

  pub cell_of : LegalCell p frozen task.op.receiver old
  cell_of = subst (λ (q : PlainProgram). LegalCell q frozen task.op.receiver old) s.program (subst (λ (h : List Object). LegalCell (program_of key) h task.op.receiver old) s.heap here.legal)

  pub ran_next : (answer : Added) (had made tasks : List Task) (n : ℕ) → Adds p frozen task left old new answer → IsRan answer tasks n → LegalCell p frozen task.op.receiver new
      → ((x : Extent) → SeparableIn p x task.op.op → AgreesAt x.written old.object frozen task.op.receiver → AgreesAt x.written new.object frozen task.op.receiver)
      → AllWellTyped p frozen (task_calls tasks) → ((x : Extent) → SeparableIn p x task.op.op → AllInside x (task_calls tasks)) → made ≡ had ++ tasks → RanNext key left cell task old new had made
  ran_next answer had made tasks n a r legal agrees typed inside joined =
      let b = ran_of key p frozen task left old old new answer tasks n refl s.program s.heap a r in record {
        outcome = b.1;
        takes_one = b.0;
        section = b.2;
        new_is = b.3;
        legal = there (still_legal key p frozen task old new s.program s.heap s.may_run (s.round, here) (ap (λ (l : CellLog). l.opened) b.3) (legal, agrees));
        made_is = joined ∙ ap (λ (l : List Task). had ++ l) b.4;
        may_run = subst (All (MayRun key)) b.4 (all_may_run key p frozen task tasks s.program s.heap s.may_run s.round (typed, inside));
      }

  pub stuck_next : (answer : Added) (had : List Task) (why : Stop) → Adds p frozen task left old new answer → answer ≡ added.Stuck why → LegalCell p frozen task.op.receiver new
      → ((x : Extent) → SeparableIn p x task.op.op → AgreesAt x.written old.object frozen task.op.receiver → AgreesAt x.written new.object frozen task.op.receiver) → StuckNext key left cell task old new had had why
  stuck_next answer had why a e legal agrees =
      let b = stuck_of key p frozen task left old old new answer why refl s.program s.heap a e in record {
        takes_one = b.0;
        section = b.1;
        new_is = b.2;
        legal = there (still_legal key p frozen task old new s.program s.heap s.may_run (s.round, here) (ap (λ (l : CellLog). l.opened) b.2) (legal, agrees));
        made_is = refl;
      }

  pub closed_next : (answer : Added) (had : List Task) (closed : Bool) → Adds p frozen task left old new answer → answer ≡ added.Kept → closed ≡ not (is_last_clock task.after) → ClosedNext key left cell task old new had had closed
  closed_next answer had closed a e own =
      let b = by_kept (is_closed old task.after) (section p frozen task.op.receiver old.object task.op.op task.op.args left) task old new answer a e in record {
        closed_is = b.0;
        new_is = b.1;
        made_is = refl;
        own = own;
        closing = λ t. subst (λ (n : ℕ). IsKept old (last_place n old)) s.receiver (closed_kept task.op.receiver old task.after b.0 (λ last. absurd (true≢false (sym (sym own ∙ t) ∙ ap not (eq-eqb task.after 18446744073709551615 last)))));
      }

-- ---- one behind the other

module _ (key : Given) (left cell : ℕ) where
  runs_then : {a b : CellLog} {ts ms : List Task} {ns : List Note} (c : CellLog) (us ms2 kept : List Task) (ns2 : List Note) (stop : Option Stop) → Runs key left cell a ts ns ms None [] b → Runs key left cell b us ns2 ms2 stop kept c → Runs key left cell a (ts ++ us) (ns ++ ns2) (ms ++ ms2) stop kept c
  runs_then c us ms2 kept ns2 stop (all_ran log) r = r
  runs_then c us ms2 kept ns2 stop (one_ran old task tasks m notes made quiet nothing new takes section legal more) r =
      subst (λ l. Runs key left cell old (task ∷ (tasks ++ us)) (note_of cell old (entry_ran key left cell task old m) ∷ (notes ++ ns2)) l stop kept c) (sym (append_assoc (made_by key left cell task old m) made ms2))
      (one_ran old task (tasks ++ us) m (notes ++ ns2) (made ++ ms2) stop kept c takes section legal (runs_then c us ms2 kept ns2 stop more r))

  drop_at : (tasks : List Task) (n : ℕ) (d : Task) → n < length tasks → drop n tasks ≡ get_or tasks n d ∷ drop (suc n) tasks
  drop_at [] n d l = absurd (omega arith)
  drop_at (t ∷ ts) zero d l = refl
  drop_at (t ∷ ts) (suc n) d l = drop_at ts n d (omega arith)

  take_at : (tasks : List Task) (n : ℕ) (d : Task) → n < length tasks → take (suc n) tasks ≡ take n tasks ++ get_or tasks n d ∷ []
  take_at [] n d l = absurd (omega arith)
  take_at (t ∷ ts) zero d l = refl
  take_at (t ∷ ts) (suc n) d l = ap (λ (r : List Task). t ∷ r) (take_at ts n d (omega arith))

  one_more_ran : (found log new : CellLog) (ts had made : List Task) (task : Task) → Behind key left cell found ts had log → RanNext key left cell task log new had made → Behind key left cell found (ts ++ task ∷ []) made new
  one_more_ran found log new ts had made task b r =
      let mid : CellLog = with_entry log (entry_ran key left cell task log r.outcome) r.outcome.object in
      let ns : List Note = b.notes ++ note_of cell log (entry_ran key left cell task log r.outcome) ∷ [] in
      let next : Runs key left cell log (task ∷ []) (note_of cell log (entry_ran key left cell task log r.outcome) ∷ []) (made_by key left cell task log r.outcome ++ []) None [] mid =
      one_ran log task [] r.outcome [] [] None [] _ r.takes_one r.section (subst (IsLegal key cell) r.new_is r.legal) (all_ran _) in
      let all : Runs key left cell found (ts ++ task ∷ []) ns (had ++ (made_by key left cell task log r.outcome ++ [])) None [] mid = runs_then mid (task ∷ []) _ [] _ None b.runs next in
      let these : had ++ (made_by key left cell task log r.outcome ++ []) ≡ made = ap (λ (l : List Task). had ++ l) (append-nil (made_by key left cell task log r.outcome)) ∙ sym r.made_is in record {
        notes = ns;
        runs = subst (λ l. Runs key left cell found (ts ++ task ∷ []) ns made None [] l) (sym r.new_is) (subst (λ l. Runs key left cell found (ts ++ task ∷ []) ns l None [] mid) these all);
        legal = r.legal;
        may_run = subst (All (MayRun key)) (sym r.made_is) (All-append (MayRun key) had (made_by key left cell task log r.outcome) b.may_run r.may_run);
      }

  pub behind_more : (found log new : CellLog) (tasks had made : List Task) (n : ℕ) (d : Task) → n < length tasks → Behind key left cell found (take n tasks) had log → RanNext key left cell (get_or tasks n d) log new had made → Behind key left cell found (take (suc n) tasks) made new
  behind_more found log new tasks had made n d l b r = subst (λ ts. Behind key left cell found ts made new) (sym (take_at tasks n d l)) (one_more_ran found log new (take n tasks) had made (get_or tasks n d) b r)

  -- all tasks ran
  pub all_behind : (found log : CellLog) (tasks made : List Task) (n : ℕ) → n ≡ length tasks → Behind key left cell found (take n tasks) made log → RunsTo key left cell found tasks made (record { stop = None; count = n; closed = false }) log
  all_behind found log tasks made n e b =
      let whole : take n tasks ≡ tasks = ap (λ k. take k tasks) e ∙ take_whole tasks in
      let rest : drop n tasks ≡ [] = ap (λ k. drop k tasks) e ∙ drop_whole tasks in record {
        notes = b.notes;
        runs = subst (λ k. Runs key left cell found tasks b.notes made None k log) (sym rest) (subst (λ ts. Runs key left cell found ts b.notes made None [] log) whole b.runs);
        count = omega arith;
        closed = sym (ap (is_closed_to None) rest);
        closing = λ t. absurd (true≢false (sym t));
        may_run = b.may_run;
      }
    where
      take_whole : (xs : List Task) → take (length xs) xs ≡ xs
      take_whole [] = refl
      take_whole (x ∷ xs) = ap (λ (l : List Task). x ∷ l) (take_whole xs)

      drop_whole : (xs : List Task) → drop (length xs) xs ≡ []
      drop_whole [] = refl
      drop_whole (x ∷ xs) = drop_whole xs

  split_at : (tasks : List Task) (n : ℕ) (d : Task) → n < length tasks → take n tasks ++ (get_or tasks n d ∷ drop (suc n) tasks) ≡ tasks
  split_at tasks n d l = ap (λ (r : List Task). take n tasks ++ r) (sym (drop_at tasks n d l)) ∙ take-append-drop n tasks

  -- a section stopped
  pub stuck_behind : (found log new : CellLog) (tasks had made : List Task) (n : ℕ) (d : Task) (why : Stop) → n < length tasks → Behind key left cell found (take n tasks) had log → StuckNext key left cell (get_or tasks n d) log new had made why
      → RunsTo key left cell found tasks made (record { stop = Some why; count = n + 1; closed = false }) new
  stuck_behind found log new tasks had made n d why l b s =
      let task : Task = get_or tasks n d in
      let mid : CellLog = with_entry log (entry_stuck key left cell task log why) log.object in
      let note : Note = note_of cell log (entry_stuck key left cell task log why) in let ns : List Note = b.notes ++ note ∷ [] in
      let next : Runs key left cell log (task ∷ drop (suc n) tasks) (note ∷ []) [] (Some why) (drop (suc n) tasks) mid =
      one_stuck log task (drop (suc n) tasks) why s.takes_one s.section (subst (IsLegal key cell) s.new_is s.legal) in
      let all : Runs key left cell found (take n tasks ++ (task ∷ drop (suc n) tasks)) ns (had ++ []) (Some why) (drop (suc n) tasks) mid = runs_then mid (task ∷ drop (suc n) tasks) [] (drop (suc n) tasks) (note ∷ []) (Some why) b.runs next in
      let these : had ++ [] ≡ made = append-nil had ∙ sym s.made_is in
      let behind : drop (suc n) tasks ≡ drop (n + 1) tasks = ap (λ k. drop k tasks) (let z : suc n ≡ n + 1 = omega arith in z) in record {
        notes = ns;
        runs = subst (λ k. Runs key left cell found tasks ns made (Some why) k new) behind (subst (λ z. Runs key left cell found tasks ns made (Some why) (drop (suc n) tasks) z) (sym s.new_is)
            (subst (λ m. Runs key left cell found tasks ns m (Some why) (drop (suc n) tasks) mid) these (subst (λ ts. Runs key left cell found ts ns (had ++ []) (Some why) (drop (suc n) tasks) mid) (split_at tasks n d l) all)));
        count = omega arith;
        closed = refl;
        closing = λ t. absurd (true≢false (sym t));
        may_run = subst (All (MayRun key)) (sym s.made_is) b.may_run;
      }

  -- a task is kept
  pub closed_behind : (found log new : CellLog) (tasks had made : List Task) (n : ℕ) (d : Task) (closed : Bool) → n < length tasks → Behind key left cell found (take n tasks) had log → ClosedNext key left cell (get_or tasks n d) log new had made closed
      → RunsTo key left cell found tasks made (record { stop = None; count = n; closed = closed }) new
  closed_behind found log new tasks had made n d closed l b s =
      let task : Task = get_or tasks n d in
      let next : Runs key left cell log (task ∷ drop (suc n) tasks) [] [] None (task ∷ drop (suc n) tasks) log = one_kept log task (drop (suc n) tasks) s.closed_is in
      let all = runs_then log (task ∷ drop (suc n) tasks) [] (task ∷ drop (suc n) tasks) [] None b.runs next in
      let these : had ++ [] ≡ made = append-nil had ∙ sym s.made_is in
      let rest : task ∷ drop (suc n) tasks ≡ drop n tasks = sym (drop_at tasks n d l) in record {
        notes = b.notes ++ [];
        runs = subst (λ k. Runs key left cell found tasks (b.notes ++ []) made None k new) rest (subst (λ z. Runs key left cell found tasks (b.notes ++ []) made None (task ∷ drop (suc n) tasks) z) (sym s.new_is)
            (subst (λ m. Runs key left cell found tasks (b.notes ++ []) m None (task ∷ drop (suc n) tasks) log) these (subst (λ ts. Runs key left cell found ts (b.notes ++ []) (had ++ []) None (task ∷ drop (suc n) tasks) log) (split_at tasks n d l) all)));
        count = omega arith;
        closed = s.own ∙ ap (is_closed_to None) rest;
        closing = λ t. subst (λ (z : CellLog). IsKept z (last_place cell z)) (sym s.new_is) (s.closing t);
        may_run = subst (All (MayRun key)) (sym s.made_is) b.may_run;
      }

  -- nothing ran yet
  pub none_behind : (found : CellLog) (made : List Task) → length made ≡ 0 → IsLegal key cell found → Behind key left cell found [] made found
  none_behind found [] e l = record { notes = []; runs = all_ran found; legal = l; may_run = λ k d h. absurd (omega arith) }
  none_behind found (t ∷ ts) e l = absurd (omega arith)

-- ---- taking back

take_longer_list : (xs ys zs : List Entry) → take (length xs) ys ≡ xs → length xs ≤ length ys → take (length xs) (ys ++ zs) ≡ xs
take_longer_list [] ys zs e l = refl
take_longer_list (x ∷ xs) [] zs e l = absurd (omega arith)
take_longer_list (x ∷ xs) (y ∷ ys) zs e l =
    let h : y ≡ x = ap (λ l. get_or l 0 x) e in let t : take (length xs) ys ≡ xs = ap (drop 1) e in
    ap (λ (z : Entry). z ∷ take (length xs) (ys ++ zs)) h ∙ ap (λ (l : List Entry). x ∷ l) (take_longer_list xs ys zs t (omega arith))

-- the old values of the last section come before the others
pub later_backable : (desk : Desk) (olds : List Old) (log found : CellLog) → Undoable desk olds log found → Backable (desk.state.olds ++ olds) log found
later_backable desk olds log found u =
    let b = u.back in record {
      there = there_later desk.state.olds olds log.object.slots u.can.there (subst (AllThere olds) (sym u.can.back) b.there);
      back = back_later desk.state.olds olds log.object.slots ∙ ap (put_back olds) u.can.back ∙ b.back;
      class = u.can.class ∙ b.class;
      opened = b.opened;
      entries = b.entries;
      longer = b.longer;
    }

-- the last section is undone
pub undone_backable : (desk : Desk) (olds : List Old) (log new found : CellLog) → (u : Undoable desk olds log found) → new ≡ record { opened = log.opened; object = u.before; entries = log.entries } → Backable olds new found
undone_backable desk olds log new found u e = subst (λ z. Backable olds z found) (sym e) u.back

-- one section more
pub ran_undoable : (key : Given) (left cell : ℕ) (desk : Desk) (olds : List Old) (task : Task) (log new found : CellLog) (had made : List Task) → Backable olds log found → RanNext key left cell task log new had made → CanUndo desk new.object log.object → Undoable desk olds new found
ran_undoable key left cell desk olds task log new found had made b r can =
    let es : new.entries ≡ log.entries ++ entry_ran key left cell task log r.outcome ∷ [] = ap (λ (l : CellLog). l.entries) r.new_is in record {
      before = log.object;
      can = can;
      back = record {
        there = b.there;
        back = b.back;
        class = b.class;
        opened = ap (λ (l : CellLog). l.opened) r.new_is ∙ b.opened;
        entries = ap (take (length found.entries)) es ∙ take_longer_list found.entries log.entries _ b.entries b.longer;
        longer = let a = ap length es in let c = length-append log.entries (entry_ran key left cell task log r.outcome ∷ []) in let d = b.longer in omega arith;
      };
    }

pub nothing_backable : (log : CellLog) → Backable [] log log
nothing_backable log = record { there = tt; back = refl; class = refl; opened = refl; entries = take_own log.entries; longer = omega arith }
  where
    take_own : (xs : List Entry) → take (length xs) xs ≡ xs
    take_own [] = refl
    take_own (x ∷ xs) = ap (λ (l : List Entry). x ∷ l) (take_own xs)

-- with the slots put back and the entries cut off it is the one that was found
pub taken_back : (olds : List Old) (log found : CellLog) (count : ℕ) → Backable olds log found → count ≡ length found.entries → record { opened = log.opened; object = record { class = log.object.class; slots = put_back olds log.object.slots }; entries = take count log.entries } ≡ found
taken_back olds log found count b e =
    ap (λ o. record { opened = o; object = record { class = log.object.class; slots = put_back olds log.object.slots }; entries = take count log.entries }) b.opened
    ∙ ap (λ c. record { opened = found.opened; object = record { class = c; slots = put_back olds log.object.slots }; entries = take count log.entries }) b.class
    ∙ ap (λ s. record { opened = found.opened; object = record { class = found.object.class; slots = s }; entries = take count log.entries }) b.back
    ∙ ap (λ l. record { opened = found.opened; object = found.object; entries = l }) (ap (λ k. take k log.entries) e ∙ b.entries)

-- ---- marks

not_stopped : (last : Option Entry) → has_stop last ≡ false → stopped_in last ≡ None
not_stopped None e = refl
not_stopped (Some x) e = ap (λ b. cond b (Some x) None) e

-- a history that takes an entry has a mark
pub marked : (log : CellLog) (after : ℕ) (mark : Mark) → is_closed log after ≡ false → (stopped_in (last_of log.entries) ≡ None → IsMark log.entries mark) → IsMark log.entries mark
marked log after mark open_one h = h (not_stopped (last_of log.entries) (not_closed log after open_one))

-- the entries before the last one
marked_one : (old new : List Entry) (mark : Mark) (entry : Entry) → new ≡ old ++ entry ∷ [] → IsMark old mark → take mark.count new ≡ old
marked_one old new mark entry e m = ap (λ k. take k new) m.count ∙ ap (take (length old)) e ∙ take-append_seam old (entry ∷ [])

pub mark_of_one : (old new : List Entry) (mark : Mark) (entry : Entry) → new ≡ old ++ entry ∷ [] → IsMark old mark → IsMark (take mark.count new) mark
mark_of_one old new mark entry e m = subst (λ es. IsMark es mark) (sym (marked_one old new mark entry e m)) m

-- those that were found
pub mark_of_found : (olds : List Old) (log found : CellLog) (mark : Mark) → Backable olds log found → IsMark found.entries mark → IsMark (take mark.count log.entries) mark
mark_of_found olds log found mark b m = subst (λ es. IsMark es mark) (sym (ap (λ k. take k log.entries) m.count ∙ b.entries)) m

-- a desk with the same old values undoes the same
pub same_undo : (desk new : Desk) (now before : Object) → new.state.olds ≡ desk.state.olds → CanUndo desk now before → CanUndo new now before
same_undo desk new now before e c = record { there = subst (λ os. AllThere os now.slots) (sym e) c.there; back = ap (λ os. put_back os now.slots) e ∙ c.back; class = c.class }

-- the desk gives room for old values, and none are there yet
pub with_room : (desk new : Desk) (olds : List Old) (log found : CellLog) → new.state.olds ≡ desk.state.olds → olds ≡ [] → Undoable desk [] log found → Undoable new olds log found
with_room desk new olds log found e none u = record {
  before = u.before;
  can = same_undo desk new log.object u.before e u.can;
  back = subst (λ (os : List Old). Backable os (record { opened = log.opened; object = u.before; entries = log.entries }) found) (sym none) u.back;
}

-- the last section is undone and its entry cut off
pub undone_next : (old mid : CellLog) (object : Object) (mark : Mark) (entry : Entry) → mid.opened ≡ old.opened → mid.entries ≡ old.entries ++ entry ∷ [] → object ≡ old.object → IsMark old.entries mark → record { opened = mid.opened; object = object; entries = take mark.count mid.entries } ≡ old
undone_next old mid object mark entry a b c m =
    ap (λ o. record { opened = o; object = object; entries = take mark.count mid.entries }) a ∙ ap (λ o. record { opened = old.opened; object = o; entries = take mark.count mid.entries }) c
    ∙ ap (λ l. record { opened = old.opened; object = old.object; entries = l }) (marked_one old.entries mid.entries mark entry b m)

-- ---- behind others

pub on_ok : {A E : Type 0} (r : Result A E) (P Q : A → Type 0) → IfOk r P → ((v : A) → P v → Q v) → IfOk r Q
on_ok (Ok v) P Q a f = f v a
on_ok (Err e) P Q a f = tt

two_ok : {A E : Type 0} (r : Result A E) (P Q R : A → Type 0) → IfOk r P → IfOk r Q → ((v : A) → P v → Q v → R v) → IfOk r R
two_ok (Ok v) P Q R a b f = f v a b
two_ok (Err e) P Q R a b f = tt

on_err : {A E : Type 0} (r : Result A E) (P Q : Type 0) → OnErr r P → (P → Q) → OnErr r Q
on_err (Ok v) P Q a f = tt
on_err (Err e) P Q a f = f a

-- the old values that were added
added_backable : (desk : Desk) (olds now : List Old) (log found : CellLog) → Undoable desk olds log found → now ≡ desk.state.olds ++ olds → Backable now log found
added_backable desk olds now log found u e = subst (λ z. Backable z log found) (sym e) (later_backable desk olds log found u)

pub ran_as : (key : Given) (left cell : ℕ) (task : Task) (old new : CellLog) (had made : List Task) (n : Next) → Nexts key left cell task old new had made n → n ≡ next.Ran → RanNext key left cell task old new had made
ran_as key left cell task old new had made n h e = subst (Nexts key left cell task old new had made) e h

pub behind_undo : {E : Type 0} (key : Given) (left cell : ℕ) (before desk : Desk) (olds now : List Old) (task : Task) (log new found : CellLog) (had made : List Task) (r : Result Next E) → Undoable before olds log found → now ≡ before.state.olds ++ olds
    → IfOk r (λ n. Nexts key left cell task log new had made n) → IfOk r (λ n. n ≡ next.Ran → CanUndo desk new.object log.object) → IfOk r (λ n. n ≡ next.Ran → Undoable desk now new found)
behind_undo key left cell before desk olds now task log new found had made r u e a b =
    two_ok r (λ n. Nexts key left cell task log new had made n) (λ n. n ≡ next.Ran → CanUndo desk new.object log.object) (λ n. n ≡ next.Ran → Undoable desk now new found) a b
    (λ n h can is. ran_undoable key left cell desk now task log new found had made (added_backable before olds now log found u e) (ran_as key left cell task log new had made n h is) (can is))

pub behind_back : {E : Type 0} (before : Desk) (olds now : List Old) (log new found : CellLog) (r : Result Next E) → Undoable before olds log found → now ≡ before.state.olds ++ olds → OnErr r (new ≡ log) → OnErr r (Backable now new found)
behind_back before olds now log new found r u e a = on_err r (new ≡ log) (Backable now new found) a (λ same. subst (λ z. Backable now z found) (sym same) (added_backable before olds now log found u e))

pub err_gives : {A E : Type 0} (r : Result A E) (P : Type 0) → is_err r ≡ true → OnErr r P → P
err_gives (Ok v) P e h = absurd (true≢false (sym e))
err_gives (Err x) P e h = h

pub ok_gives : {A E : Type 0} (r : Result A E) (P : Type 0) → is_err r ≡ false → IfOk r (λ _. P) → P
ok_gives (Ok v) P e h = h
ok_gives (Err x) P e h = absurd (true≢false e)

-- ---- the loop

module _ (key : Given) (left cell : ℕ) (found log new : CellLog) (tasks had made : List Task) (n : ℕ) (t : Task) (is : t ≡ get_or tasks n t) (there : n < length tasks) (b : Behind key left cell found (take n tasks) had log) (step : Next) (h : Nexts key left cell t log new had made step) where
  at_place : Nexts key left cell (get_or tasks n t) log new had made step
  at_place = subst (λ x. Nexts key left cell x log new had made step) is h

  pub loop_on : step ≡ next.Ran → Behind key left cell found (take (n + 1) tasks) made new
  loop_on e = subst (λ k. Behind key left cell found (take k tasks) made new) (let z : suc n ≡ n + 1 = omega arith in z) (behind_more key left cell found log new tasks had made n t there b (subst (Nexts key left cell (get_or tasks n t) log new had made) e at_place))

  pub loop_sticks : (why : Stop) → step ≡ next.Stuck why → RunsTo key left cell found tasks made (record { stop = Some why; count = n + 1; closed = false }) new
  loop_sticks why e = stuck_behind key left cell found log new tasks had made n t why there b (subst (Nexts key left cell (get_or tasks n t) log new had made) e at_place)

  pub loop_closes : (closed : Bool) → step ≡ next.Closed closed → RunsTo key left cell found tasks made (record { stop = None; count = n; closed = closed }) new
  loop_closes closed e = closed_behind key left cell found log new tasks had made n t closed there b (subst (Nexts key left cell (get_or tasks n t) log new had made) e at_place)

-- What a task does, or tasks of one receiver by one claim: their entries are noted or stand in the seat's loose list.
use Rattle.std.proofs.Common.{◌≡◌, ℕ, ◌+◌, Bool, true, false, true≢false, ◌||◌, List, [], ◌∷◌, ◌++◌, All, Option, Some, None, is_some, cond, map, sym, refl, ap, ◌∙◌, subst, arith}
use Rattle.std.proofs.lemmas.List.Elements.{All-append, All-contains, Contains-push, All-head, All-tail, All-cons}
use Rattle.std.proofs.lemmas.Option.{same_Some}
use Rattle.ca_meaning.specs.Multisets.{weight}
use Rattle.ca_meaning.specs.Sections.{section}
use Rattle.ca_order_laws.proofs.Weights.{weight_append}
use Rattle.ca_parallel.specs.Free.{IsFree}
use Rattle.ca_logs.specs.declared.log.Task.{Task}
use Rattle.ca_logs.specs.declared.log.Stop.{Stop}
use Rattle.ca_logs.specs.declared.log.Entry.{Entry}
use Rattle.ca_logs.specs.declared.log.CellLog.{CellLog}
use Rattle.ca_logs.specs.Entries.{HasReceiver, has_stop, with_entry}
use Rattle.ca_logs.specs.Lasts.{last_of}
use Rattle.ca_logs.specs.Loose.{LegalLoose, StopsLast, frozen_section}
use Rattle.ca_logs.specs.Telling.{stopped_in}
use Rattle.ca_logs.proofs.Stops.{stops_more}
use Rattle.ca_cells.specs.declared.rule.Given.{Given}
use Rattle.ca_cells.specs.declared.rule.Note.{Note}
use Rattle.ca_cells.specs.declared.cells.Cells.{Cells}
use Rattle.ca_cells.specs.declared.cells.Seat.{Seat}
use Rattle.ca_cells.specs.declared.cells.Applied.{Applied}
use Rattle.ca_cells.specs.declared.cells.Applied.TheVariants.{Ran, Stuck, Kept}
use Rattle.ca_cells.specs.Free.{AppliesFree, free_ran, free_stuck, is_closed_free}
use Rattle.ca_cells.specs.Histories.{is_last_clock, next_clock, ran_entry, stuck_entry, op_of}
use Rattle.ca_cells.specs.Items.{AppliesAll, Runs, all_ran, one_ran, one_stuck, one_kept, made_by}
use Rattle.ca_cells.specs.Notes.{note_of}
use Rattle.ca_cells.specs.Rounds.{MayRun, program_of, frozen_of, extent_of}
use Rattle.ca_cells.specs.Seats.{Applies, IsOf, IsSameSeat, IsStop, section_on, view_of, notes_of, loose_of, cells_key}
use Rattle.ca_deques.specs.Settings.{Setting, Fits, AllFit}
use Rattle.ca_pool.specs.Work.{setting_of, IsLoose, AreNoted, StopsFree, StopsWithin, noted_weight, listed_weight, ran_weight, made_weight, ran_by, listed_at}
use Rattle.ca_pool.specs.Parts.{Did, made_in, kept_in, seat_key}
use Rattle.ca_cells.proofs.Chains.{one_of}

pub may_run : (s : Setting) (given : Given) (t : Task) → s ≡ setting_of given → Fits s t → MayRun given t
may_run s given t e f = let g : Fits (setting_of given) t = subst (λ (x : Setting). Fits x t) e f in record { typed = g.typed; inside = g.inside }

pub all_fit_from : (given : Given) (ts : List Task) → All (MayRun given) ts → AllFit (setting_of given) ts
all_fit_from given ts h k d l = let m : MayRun given _ = h k d l in record { typed = m.typed; inside = m.inside }

pub fits_may_run : (s : Setting) (given : Given) (ts : List Task) → s ≡ setting_of given → AllFit s ts → All (MayRun given) ts
fits_may_run s given ts e h k d l = may_run s given _ e (h k d l)

pub all_fit : (s : Setting) (given : Given) (ts : List Task) → s ≡ setting_of given → All (MayRun given) ts → AllFit s ts
all_fit s given ts e h = subst (λ (x : Setting). AllFit x ts) (sym e) (all_fit_from given ts h)

pub same_seat_key : (old new : Seat) → IsSameSeat old new → seat_key new ≡ seat_key old
same_seat_key old new s = ap (λ b. (b, (view_of new).number, (view_of new).out)) s.boss ∙ (ap (λ n. ((view_of old).boss, n, (view_of new).out)) s.number ∙ ap (λ (l : List ℕ). ((view_of old).boss, (view_of old).number, l)) s.out)

pub still_of : (cells : Cells) (old new : Seat) → IsOf cells old → IsSameSeat old new → IsOf cells new
still_of cells old new o s = (s.table ∙ o.0, s.given ∙ o.1)

pub all_none : {A : Type 0} (P : A → Type 0) → All P []
all_none P k d l = absurd (omega (arith, l))

one_more_weight : {A : Type 0} (g : A → ℕ) (olds news : List A) (n : A) → news ≡ olds ++ n ∷ [] → weight g news ≡ weight g olds + g n
one_more_weight g olds news n e = omega (arith, ap (weight g) e, weight_append g olds (n ∷ []))

one_more_has : {A : Type 0} (P : A → Type 0) (olds news : List A) (n : A) → news ≡ olds ++ n ∷ [] → P n → All P olds → All P news
one_more_has P olds news n e p h = subst (All P) (sym e) (All-append P olds (n ∷ []) h (one_of P n p))

pub none_some : (why : Stop) → None ≡ Some why → ⊥
none_some why e = cc

-- ---- several tasks by one claim

module _ (given : Given) (left cell : ℕ) where
  -- what ran or stopped and what is kept is what there was
  runs_weigh : (old new : CellLog) (tasks : List Task) (notes : List Note) (made : List Task) (stop : Option Stop) (kept : List Task) → Runs given left cell old tasks notes made stop kept new
      → (h : Task → ℕ) → weight h tasks ≡ weight (noted_weight h) notes + weight h kept
  runs_weigh old new tasks notes made stop kept (all_ran log) h = omega arith
  runs_weigh old new tasks notes made stop kept (one_ran from task more m ns ms s k to fresh sec legal rest) h = omega (arith, runs_weigh _ _ _ _ _ _ _ rest h)
  runs_weigh old new tasks notes made stop kept (one_stuck from task more why fresh sec legal) h = omega arith
  runs_weigh old new tasks notes made stop kept (one_kept from task more closed) h = omega arith

  runs_list : (old new : CellLog) (tasks : List Task) (notes : List Note) (made : List Task) (stop : Option Stop) (kept : List Task) → Runs given left cell old tasks notes made stop kept new
      → (h : Task → ℕ) → weight h made ≡ weight (listed_weight h) notes
  runs_list old new tasks notes made stop kept (all_ran log) h = refl
  runs_list old new tasks notes made stop kept (one_ran from task more m ns ms s k to fresh sec legal rest) h = omega (arith, runs_list _ _ _ _ _ _ _ rest h, weight_append h (made_by given left cell task from m) ms)
  runs_list old new tasks notes made stop kept (one_stuck from task more why fresh sec legal) h = refl
  runs_list old new tasks notes made stop kept (one_kept from task more closed) h = refl

  -- tasks that are kept are some of these
  runs_keep : (P : Task → Type 0) (old new : CellLog) (tasks : List Task) (notes : List Note) (made : List Task) (stop : Option Stop) (kept : List Task) → Runs given left cell old tasks notes made stop kept new → All P tasks → All P kept
  runs_keep P old new tasks notes made stop kept (all_ran log) h = h
  runs_keep P old new tasks notes made stop kept (one_ran from task more m ns ms s k to fresh sec legal rest) h = runs_keep P _ _ _ _ _ _ _ rest (All-tail P task more h)
  runs_keep P old new tasks notes made stop kept (one_stuck from task more why fresh sec legal) h = All-tail P task more h
  runs_keep P old new tasks notes made stop kept (one_kept from task more closed) h = h

  -- a noted stop is that of its section
  runs_stop : (old new : CellLog) (tasks : List Task) (notes : List Note) (made : List Task) (stop : Option Stop) (kept : List Task) → Runs given left cell old tasks notes made stop kept new
      → All (MayRun given) tasks → All (HasReceiver cell) tasks → All (StopsWithin given left) notes
  runs_stop old new tasks notes made stop kept (all_ran log) m r = all_none (StopsWithin given left)
  runs_stop old new tasks notes made stop kept (one_ran from task more m ns ms s k to fresh sec legal rest) may one =
      All-cons (StopsWithin given left) _ ns (λ why e. absurd (none_some why e)) (runs_stop _ _ _ _ _ _ _ rest (All-tail (MayRun given) task more may) (All-tail (HasReceiver cell) task more one))
  runs_stop old new tasks notes made stop kept (one_stuck from task more why fresh sec legal) may one = All-cons (StopsWithin given left) _ [] (λ other e. record {
    may_run = All-head (MayRun given) task more may;
    section = subst (IsStop _) (same_Some why other e) (subst (λ (n : ℕ). IsStop (section (program_of given) (frozen_of given) n from.object task.op.op task.op.args left) why) (All-head (HasReceiver cell) task more one) sec);
  }) (all_none (StopsWithin given left))
  runs_stop old new tasks notes made stop kept (one_kept from task more closed) may one = all_none (StopsWithin given left)

-- ---- one task without a lock

-- an entry comes behind those of which the last one has no stop
not_closed : (es : List Entry) (after : ℕ) → is_closed_free es after ≡ false → stopped_in (last_of es) ≡ None
not_closed es after h = from (last_of es) h
  where
    no_stop : (e : Entry) → (is_some e.stop || is_last_clock after) ≡ false → cond (is_some e.stop) (Some e) None ≡ None
    no_stop e q = of (is_some e.stop) q
      where
        of : (b : Bool) → (b || is_last_clock after) ≡ false → cond b (Some e) None ≡ None
        of false z = refl
        of true z = absurd (true≢false z)

    from : (q : Option Entry) → (has_stop q || is_last_clock after) ≡ false → stopped_in q ≡ None
    from None z = refl
    from (Some e) z = no_stop e z

abbrev LegalIn : Given → Entry → Type 0
LegalIn given e = LegalLoose (program_of given) (extent_of given) (frozen_of given) e

legal_all : (given : Given) (left : ℕ) (es : List Entry) → All (IsLoose given left) es → All (LegalIn given) es
legal_all given left es h k d l = let z : IsLoose given left _ = h k d l in z.legal

legal_last : (given : Given) (old new : List Entry) (e : Entry) → new ≡ old ++ e ∷ [] → All (LegalIn given) new → LegalIn given e
legal_last given old new e is h = All-contains (LegalIn given) (old ++ e ∷ []) e (subst (All (LegalIn given)) is h) (Contains-push old e)

-- a loose entry more
one_looser : (given : Given) (left : ℕ) (notes : List Note) (old new : List Entry) (e : Entry) (after : ℕ) → new ≡ old ++ e ∷ [] → is_closed_free old after ≡ false → (All (LegalIn given) old → All (LegalIn given) new)
    → ((why : Stop) → e.stop ≡ Some why → StopsFree given left e.task why) → AreNoted given left notes old → AreNoted given left notes new
one_looser given left notes old new e after is fresh legal stops h = record {
  stops = h.stops;
  sound = one_more_has (IsLoose given left) old new e is (record { legal = legal_last given old new e is (legal (legal_all given left old h.sound)); stops = stops }) h.sound;
  last = subst StopsLast (sym is) (stops_more old e (not_closed old after fresh) h.last);
}

-- ---- what was done

module _ (s : Setting) (cells : Cells) (left : ℕ) (seat after : Seat) where
  abbrev key : Given
  key = cells_key cells

  -- several tasks
  pub did_all : (tasks made : List Task) (stop : Option Stop) (kept : List Task) → s ≡ setting_of key → AllFit s tasks → IsOf cells seat → IsSameSeat seat after → loose_of after ≡ loose_of seat
      → AppliesAll key tasks left seat after made stop kept → Did s (Some cells) left tasks seat after made kept
  did_all tasks made stop kept es fits of same loose a = record {
    seat_of = still_of cells seat after of same;
    same = same_seat_key seat after same;
    made_fit = all_fit s key made es a.may_run;
    kept_fit = runs_keep key left a.cell (Fits s) a.found a.last tasks a.notes made stop kept a.runs fits;
    stops = λ h. subst (λ (l : List Entry). AreNoted key left (notes_of after) l) (sym loose) (record {
      stops = subst (All (StopsWithin key left)) (sym a.noted) (All-append (StopsWithin key left) (notes_of seat) a.notes h.stops (runs_stop key left a.cell a.found a.last tasks a.notes made stop kept a.runs (fits_may_run s key tasks es fits) a.one));
      sound = h.sound;
      last = h.last;
    });
    ran = λ h. omega (arith, ap (weight (noted_weight h)) a.noted, weight_append (noted_weight h) (notes_of seat) a.notes, runs_weigh key left a.cell a.found a.last tasks a.notes made stop kept a.runs h, ap (weight (ran_weight h)) loose);
    listed = λ h. omega (arith, ap (weight (listed_weight h)) a.noted, weight_append (listed_weight h) (notes_of seat) a.notes, runs_list key left a.cell a.found a.last tasks a.notes made stop kept a.runs h, ap (weight (made_weight h)) loose);
  }

  module _ (task : Task) (es : s ≡ setting_of key) (fits : Fits s task) (of : IsOf cells seat) (same : IsSameSeat seat after) where
    abbrev DidOne : List Task → List Task → Type 0
    DidOne made kept = Did s (Some cells) left (task ∷ []) seat after made kept

    -- a note more
    noted_one : (n : Note) (made : List Task) → notes_of after ≡ notes_of seat ++ n ∷ [] → loose_of after ≡ loose_of seat → StopsWithin key left n → AllFit s made → ((h : Task → ℕ) → noted_weight h n ≡ h task)
        → ((h : Task → ℕ) → listed_weight h n ≡ weight h made) → DidOne made []
    noted_one n made noted loose stops fit ran listed = record {
      seat_of = still_of cells seat after of same;
      same = same_seat_key seat after same;
      made_fit = fit;
      kept_fit = all_none (Fits s);
      stops = λ h. subst (λ (l : List Entry). AreNoted key left (notes_of after) l) (sym loose) (record {
        stops = one_more_has (StopsWithin key left) (notes_of seat) (notes_of after) n noted stops h.stops;
        sound = h.sound;
        last = h.last;
      });
      ran = λ h. omega (arith, one_more_weight (noted_weight h) (notes_of seat) (notes_of after) n noted, ap (weight (ran_weight h)) loose, ran h);
      listed = λ h. omega (arith, one_more_weight (listed_weight h) (notes_of seat) (notes_of after) n noted, ap (weight (made_weight h)) loose, listed h);
    }

    -- a loose entry more
    loose_one : (e : Entry) (made : List Task) → notes_of after ≡ notes_of seat → loose_of after ≡ loose_of seat ++ e ∷ [] → is_closed_free (loose_of seat) task.after ≡ false
        → (All (LegalIn key) (loose_of seat) → All (LegalIn key) (loose_of after))
        → ((why : Stop) → e.stop ≡ Some why → StopsFree key left e.task why) → AllFit s made → ((h : Task → ℕ) → ran_weight h e ≡ h task) → ((h : Task → ℕ) → made_weight h e ≡ weight h made) → DidOne made []
    loose_one e made noted added fresh legal stops fit ran listed = record {
      seat_of = still_of cells seat after of same;
      same = same_seat_key seat after same;
      made_fit = fit;
      kept_fit = all_none (Fits s);
      stops = λ h. subst (λ (ns : List Note). AreNoted key left ns (loose_of after)) (sym noted) (one_looser key left (notes_of seat) (loose_of seat) (loose_of after) e task.after added fresh legal stops h);
      ran = λ h. omega (arith, one_more_weight (ran_weight h) (loose_of seat) (loose_of after) e added, ap (weight (noted_weight h)) noted, ran h);
      listed = λ h. omega (arith, one_more_weight (made_weight h) (loose_of seat) (loose_of after) e added, ap (weight (listed_weight h)) noted, listed h);
    }

    -- no entry
    kept_one : (back : Task) → back ≡ task → notes_of after ≡ notes_of seat → loose_of after ≡ loose_of seat → DidOne [] (back ∷ [])
    kept_one back is noted loose = record {
      seat_of = still_of cells seat after of same;
      same = same_seat_key seat after same;
      made_fit = all_none (Fits s);
      kept_fit = one_of (Fits s) back (subst (Fits s) (sym is) fits);
      stops = λ h. subst (λ (ns : List Note). AreNoted key left ns (loose_of after)) (sym noted) (subst (AreNoted key left (notes_of seat)) (sym loose) h);
      ran = λ h. omega (arith, ap (weight (noted_weight h)) noted, ap (weight (ran_weight h)) loose, ap h is);
      listed = λ h. omega (arith, ap (weight (listed_weight h)) noted, ap (weight (made_weight h)) loose);
    }

    -- one task in its cell
    pub did_one : (a : Applied) → loose_of after ≡ loose_of seat → Applies key task left seat after a → DidOne (made_in a) (kept_in a)
    did_one (Ran tasks steps) loose r = noted_one (note_of task.op.receiver r.found (ran_entry task (next_clock r.found task.after) r.outcome.steps (map op_of r.outcome.listed))) tasks.items r.noted loose
        (λ why e. absurd (none_some why e)) (all_fit s key tasks.items es r.may_run) (λ h. refl) (λ h. ap (weight h) (sym r.tasks))
    did_one (Stuck why) loose r = noted_one (note_of task.op.receiver r.found (stuck_entry task (next_clock r.found task.after) why)) [] r.noted loose
        (λ other e. record { may_run = may_run s key task es fits; section = subst (IsStop (section_on key task left seat after r.found)) (same_Some why other e) r.section }) (all_none (Fits s)) (λ h. refl) (λ h. refl)
    did_one (Kept back) loose r = kept_one back r.same r.noted loose

    -- one task without a lock
    pub did_free : (a : Applied) → notes_of after ≡ notes_of seat → AppliesFree key task left (loose_of seat) (loose_of after) a
        → (All (LegalIn key) (loose_of seat) → All (LegalIn key) (loose_of after)) → DidOne (made_in a) (kept_in a)
    did_free (Ran tasks steps) noted r legal = loose_one (free_ran task r.outcome) tasks.items noted r.loose r.takes_one legal
        (λ why e. absurd (none_some why e)) (all_fit s key tasks.items es r.may_run) (λ h. refl) (λ h. ap (weight h) (sym r.tasks))
    did_free (Stuck why) noted r legal = loose_one (free_stuck task why) [] noted r.loose r.takes_one legal
        (λ other e. record { may_run = may_run s key task es fits; section = subst (IsStop (frozen_section (program_of key) (frozen_of key) task left)) (same_Some why other e) r.section }) (all_none (Fits s)) (λ h. refl) (λ h. refl)
    did_free (Kept back) noted r legal = kept_one back r.same noted r.loose

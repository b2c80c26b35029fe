-- A run on its way: the machine came from its beginning to where it stands, and what was written and handed on is what it printed
-- and noted.
use Rattle.std.proofs.Common.{◌≡◌, ◌≢◌, ◌≤◌, ◌<◌, ℕ, suc, ◌+◌, ◌-◌, List, [], ◌∷◌, ◌++◌, length, map, Bool, true, false, Option, Some, refl, ap, sym, subst, ◌∙◌, ⊎_elim, arith, append-nil, length-append}
use Rattle.std.specs.Prelude.{cond, eqb}
use Rattle.std.proofs.lemmas.Bool.Decides.{eqb_tells}
use Rattle.ca_base.specs.Devices.{grown, Began}
use Rattle.ca_program.specs.declared.program.OpId.{OpId}
use Rattle.ca_program.specs.declared.program.ValueType.{ValueType}
use Rattle.ca_program.specs.Plain.{PlainProgram, Statement}
use Rattle.ca_program.specs.Kinds.{kind_type}
use Rattle.ca_program.specs.Instructions.{Code}
use Rattle.ca_model.specs.declared.value.Value.{Value as Datum}
use Rattle.ca_model.specs.declared.value.Object.{Object}
use Rattle.ca_meaning.specs.Expressions.{Invocation}
use Rattle.ca_meaning.specs.ProgramTyped.{ProgramTyped}
use Rattle.ca_meaning.specs.Sections.{LoopSectioned, loop_done, loop_stopped, loop_over}
use Rattle.ca_meaning.specs.Serial.{Note, World, fresh, in_heap, printed, serial}
use Rattle.ca_meaning.specs.Output.{print_text, prints_text}
use Rattle.ca_parallel.specs.Accounts.{Reached, ReachedPart, at_first, by_one}
use Rattle.ca_parallel.specs.Lists.{PlainMarks, lists, note, either}
use Rattle.ca_parallel.specs.Marks.{SoundMarks}
use Rattle.ca_note_laws.specs.Listing.{puts_nothing}
use Rattle.ca_code_laws.specs.Machine.{State, Outcome, Spent, Comes, Ends}
use Rattle.ca_code_laws.specs.Runs.{Into, run_access, run_into, beginning, ended_as}
use Rattle.ca_code_laws.specs.Told.{notes_in}
use Rattle.ca_code_laws.proofs.Grown.{call_noted, loop_noted}
use Rattle.ca_code_laws.proofs.Steps.{stays as stands, joins}
use Rattle.ca_code_laws.proofs.Unnoted.{comes_unnoted, ends_unnoted}
use Rattle.ca_serial.specs.declared.running.Outcome.{Outcome as Held}
use Rattle.ca_serial.specs.declared.running.Outcome.TheVariants.{Spent as Exhausted}
use Rattle.ca_serial.specs.Runs.{prints_of, run_with}
use Rattle.ca_serial.proofs.Endings.{told_more, told_so, ended_so, written_nothing}
use Rattle.ca_serial.proofs.Handings.{part_of, whole_of, part_on, reached_on, Split}
use Rattle.ca_steps.specs.declared.frames.Frames.{Frames}
use Rattle.ca_steps.specs.Stands.{state_of}
use Rattle.ca_steps.specs.Ways.{BeginsAt, HandsAt, GoesIn, into_call, into_loop, Way, stays, comes, goes_in}
use Rattle.ca_serial.specs.Codes.{IsRun}
use Rattle.ca_serial.specs.clauses.Handing.{Chose, with_note, with_notes, due_at}
use Rattle.ca_serial.specs.clauses.Loops.{section_at, notes_of, begun_notes}
use Rattle.ca_serial.proofs.Ends.{world_in, began_here, began_print, notes_here, ends_so, notes_whole}
use Rattle.ca_serial.proofs.Hands.{call_inside}
use Rattle.ca_serial.proofs.Listed.{loop_inside}

-- ---- what was gone into so far

-- of the first so many notes
abbrev pub Alike : Into → Into → ℕ → Type 0
Alike into gone n = (j : ℕ) → j < n → into j ≡ gone j

-- and this one
abbrev pub and_this : Into → ℕ → Bool → Into
and_this gone n b = λ j. cond (eqb j n) b (gone j)

this_is : (gone : Into) (n j : ℕ) (b : Bool) → j ≡ n → and_this gone n b j ≡ b
this_is gone n j b e = ⊎_elim (λ t. ap (λ q. cond q b (gone j)) t.0) (λ t. absurd (t.1 e)) (eqb_tells j n)

others_are : (gone : Into) (n j : ℕ) (b : Bool) → j ≢ n → and_this gone n b j ≡ gone j
others_are gone n j b ne = ⊎_elim (λ t. absurd (ne t.1)) (λ t. ap (λ q. cond q b (gone j)) t.0) (eqb_tells j n)

pub those_before : (into gone : Into) (n k : ℕ) (b : Bool) → n ≤ k → Alike into (and_this gone n b) k → Alike into gone n
those_before into gone n k b le alike j lt = alike j (omega (arith, lt, le)) ∙ others_are gone n j b (λ e. absurd (omega (arith, lt, e)))

-- where notes are taken
pub is_chosen : (into gone : Into) (old ns : List Note) (b : Bool) → Alike into (and_this gone (length old) b) (length (old ++ ns)) → Chose into (length old) b ns
is_chosen into gone old [] b alike = tt
is_chosen into gone old (x ∷ ns) b alike =
    let more : length (old ++ x ∷ ns) ≡ length old + suc (length ns) = length-append old (x ∷ ns) in
    alike (length old) (omega (arith, more)) ∙ this_is gone (length old) (length old) b refl

-- ---- the run

-- With a budget it came to these frames and this heap from where `main` begins, having gone into these, whatever comes of others. What was
-- written before is old, what is now; the account was a, and is b.
pub record Going {A : Type 0} (S : A → PlainProgram → List Object → List Invocation → ℕ → A → Type 0) (p : PlainProgram) (code : Code) (at budget : ℕ) (a : A) (old : Option (List ℕ)) (m : Frames) (h : List Object) (b : A) (now : Option (List ℕ)) : Type 0 where
  pub world : World
  pub gone : Into
  pub came : (into : Into) → Alike into gone (length world.notes) → Comes (run_into into p) code (beginning at budget) (state_of m (in_heap world h))
  pub told : now ≡ grown old (prints_text world.prints)
  pub reached : Reached S p a world.notes b

-- An end: its outcome is that of the serial run, all of its prints were written, and all notes were handed on.
pub record Ending {A : Type 0} (S : A → PlainProgram → List Object → List Invocation → ℕ → A → Type 0) (p : PlainProgram) (marks : PlainMarks) (budget : ℕ) (a b : A) (old now : Option (List ℕ)) (held : Held) : Type 0 where
  pub outcome : serial p budget ≡ run_with (prints_of (serial p budget)) held
  pub whole : now ≡ grown old (prints_text (prints_of (serial p budget)))
  pub account : Reached S p a (lists p marks budget) b

-- an account that stays as it is, whatever is handed on
abbrev pub Same : {A : Type 0} → (A → PlainProgram → List Object → List Invocation → ℕ → A → Type 0) → A → Type 0
Same S b = (q : PlainProgram) (g : List Object) (is : List Invocation) (k : ℕ) → S b q g is k b

reached_so : {A : Type 0} (S : A → PlainProgram → List Object → List Invocation → ℕ → A → Type 0) (p : PlainProgram) (b : A) → Same S b → (ns : List Note) → Reached S p b ns b
reached_so S p b same [] = at_first
reached_so S p b same (n ∷ ns) = reached_on p b b b (n ∷ []) ns (by_one n at_first (same p n.heap n.first n.left)) (reached_so S p b same ns)

module _ {A : Type 0} {S : A → PlainProgram → List Object → List Invocation → ℕ → A → Type 0} {p : PlainProgram} {code : Code} {at budget : ℕ} {a : A} {old : Option (List ℕ)} where
  pub begins : (m : Frames) (h : List Object) → state_of m (fresh h) ≡ beginning at budget → Going S p code at budget a old m h a old
  begins m h e = record {
    world = fresh h;
    gone = λ n. false;
    came = λ into alike. subst (λ (s : State World). Comes (run_into into p) code s (state_of m (fresh h))) e (stands (run_into into p) code (state_of m (fresh h)));
    told = written_nothing old;
    reached = at_first;
  }

  module _ {m : Frames} {h : List Object} {b : A} {now : Option (List ℕ)} (i : Going S p code at budget a old m h b now) (m2 : Frames) (h2 : List Object) where
    -- it goes on
    pub on : Comes (run_access p) code (state_of m (in_heap i.world h)) (state_of m2 (in_heap i.world h2)) → Going S p code at budget a old m2 h2 b now
    on e = record {
      world = i.world;
      gone = i.gone;
      came = λ into alike. joins (run_into into p) code (i.came into alike) (comes_unnoted into p code (state_of m (in_heap i.world h)) (state_of m2 (in_heap i.world h2)) e refl);
      told = i.told;
      reached = i.reached;
    }

    -- it prints a value, which is written
    pub prints_on : (v : Datum) (now2 : Option (List ℕ)) → Comes (run_access p) code (state_of m (in_heap i.world h)) (state_of m2 (printed (in_heap i.world h2) v)) → now2 ≡ grown now (print_text v) → Going S p code at budget a old m2 h2 b now2
    prints_on v now2 e more = record {
      world = printed i.world v;
      gone = i.gone;
      came = λ into alike. joins (run_into into p) code (i.came into alike) (comes_unnoted into p code (state_of m (in_heap i.world h)) (state_of m2 (printed (in_heap i.world h2) v)) e refl);
      told = told_more old now now2 i.world.prints v i.told more;
      reached = i.reached;
    }

    -- it hands on with these notes, or goes into what gives them
    pub notes_on : (q : Bool) (ns : List Note) (b2 : A) → ((into : Into) → Chose into (length i.world.notes) q ns → Comes (run_into into p) code (state_of m (in_heap i.world h)) (state_of m2 (in_heap (with_notes i.world ns) h2))) → Reached S p b ns b2 → Going S p code at budget a old m2 h2 b2 now
    notes_on q ns b2 e more = record {
      world = with_notes i.world ns;
      gone = and_this i.gone (length i.world.notes) q;
      came = λ into alike.
          let long : length (i.world.notes ++ ns) ≡ length i.world.notes + length ns = length-append i.world.notes ns in
          joins (run_into into p) code (i.came into (those_before into i.gone (length i.world.notes) (length (i.world.notes ++ ns)) q (omega (arith, long)) alike)) (e into (is_chosen into i.gone i.world.notes ns q alike));
      told = i.told;
      reached = reached_on p a b b2 i.world.notes ns i.reached more;
    }

    -- it hands operations on, with a note
    pub hands_on : (is : List Invocation) (k : ℕ) (b2 : A) → ((into : Into) → into (length i.world.notes) ≡ false → Comes (run_into into p) code (state_of m (in_heap i.world h)) (state_of m2 (in_heap (with_note (in_heap i.world h) is k) h2))) → S b p h is k b2 → Going S p code at budget a old m2 h2 b2 now
    hands_on is k b2 e step = notes_on false (note h is k ∷ []) b2 e (by_one (note h is k) at_first step)

  -- it goes into what is handed on, whose account stays as it is
  inside : {m : Frames} {h : List Object} {b : A} {now : Option (List ℕ)} (i : Going S p code at budget a old m h b now) (m2 : Frames) → Same S b → GoesIn code m m2 → Going S p code at budget a old m2 h b now
  inside {m} {h} {b} {now} i m2 same (into_call op first r hands enters) =
      let ns = note h (due_at code m op first r ∷ []) m.left ∷ [] in
      let x = with_note (in_heap i.world h) (due_at code m op first r ∷ []) m.left in
      notes_on i m2 h true ns b (λ into within. call_inside p code m op first r hands h i.world into within m2 (λ next. enters (in_heap i.world h) x next)) (by_one (note h (due_at code m op first r ∷ []) m.left) at_first (same p h (due_at code m op first r ∷ []) m.left))
  inside {m} {h} {b} {now} i m2 same (into_loop n line loop tys begins is) =
      let ns = begun_notes p h m tys line loop in
      notes_on i m2 h true ns b (λ into chose. loop_inside p code m n line loop tys begins h i.world into m2 is chose) (reached_so S p b same ns)

  pub way_on : {m : Frames} {h : List Object} {b : A} {now : Option (List ℕ)} → Going S p code at budget a old m h b now → (m2 : Frames) (h2 : List Object) → Way (Same S b) p code m h m2 h2 → Going S p code at budget a old m2 h2 b now
  way_on i m2 h2 stays = i
  way_on i m2 h2 (comes w e) = let j = way_on i _ _ w in on j m2 h2 (e j.world)
  way_on i m2 h2 (goes_in w same g) = inside (way_on i _ _ w) m2 same g

  module _ {marks : PlainMarks} (typed : ProgramTyped p) (sound : SoundMarks p marks) (laid : IsRun marks p code at) {m : Frames} {h : List Object} {b : A} {now : Option (List ℕ)} (i : Going S p code at budget a old m h b now) where
    abbrev here : State World
    here = state_of m (in_heap i.world h)

    came_here : Comes (run_into i.gone p) code (beginning at budget) here
    came_here = i.came i.gone (λ j lt. refl)

    -- ---- where it gives up

    pub part_written : Began old now (prints_text (prints_of (serial p budget)))
    part_written = began_here p typed marks sound code at budget laid i.gone here came_here old now i.told

    pub part_handed : ReachedPart S p a (lists p marks budget) b
    part_handed = part_of p a b i.world.notes (lists p marks budget) i.reached (notes_here p typed marks sound code at budget laid i.gone here came_here)

    -- a value was not written whole
    pub print_begun : (m2 : Frames) (h2 : List Object) (v : Datum) (now2 : Option (List ℕ)) → Comes (run_access p) code here (state_of m2 (printed (in_heap i.world h2) v)) → Began now now2 (print_text v) → Began old now2 (prints_text (prints_of (serial p budget)))
    print_begun m2 h2 v now2 e part =
        let there = state_of m2 (printed (in_heap i.world h2) v) in
        began_print p typed marks sound code at budget laid i.gone there (in_heap i.world h2) v refl (joins (run_into i.gone p) code came_here (comes_unnoted i.gone p code here there e refl)) old now now2 i.told part

    -- where these notes stand behind those that were taken, a part of them was handed on
    pub notes_handed : (ns : List Note) (b2 : A) → Split (lists p marks budget) (i.world.notes ++ ns) → ReachedPart S p b ns b2 → ReachedPart S p a (lists p marks budget) b2
    notes_handed ns b2 split part = part_on p a b b2 i.world.notes ns (lists p marks budget) i.reached part split

    -- ---- what is handed on next

    -- a call, with its note
    pub call_next : (op : OpId) (first r : ℕ) → HandsAt code m op first r → Split (lists p marks budget) (i.world.notes ++ note h (due_at code m op first r ∷ []) m.left ∷ [])
    call_next op first r hands =
        let f = call_noted p marks code at budget laid.ends i.gone here came_here op first r hands.stands hands.names in
        record { rest = f.notes; whole = f.noted }

    -- what a loop lists, with its notes
    pub loop_next : (n line : ℕ) (loop : Statement) (tys : List ValueType) → BeginsAt code m n line loop tys → Split (lists p marks budget) (i.world.notes ++ begun_notes p h m tys line loop)
    loop_next n line loop tys b = by (puts_nothing loop) refl (section_at p h m tys line loop) refl
      where
        none : (ns : List Note) → ns ≡ [] → Split (lists p marks budget) (i.world.notes ++ ns)
        none ns e =
            let s : Split (lists p marks budget) i.world.notes = notes_here p typed marks sound code at budget laid i.gone here came_here in
            record { rest = s.rest; whole = s.whole ∙ ap (λ l. l ++ s.rest) (sym (ap (λ l. i.world.notes ++ l) e ∙ append-nil i.world.notes)) }

        by : (put : Bool) → puts_nothing loop ≡ put → (o : LoopSectioned) → section_at p h m tys line loop ≡ o → Split (lists p marks budget) (i.world.notes ++ begun_notes p h m tys line loop)
        by false put o e = none (begun_notes p h m tys line loop) (ap (λ b. either b (notes_of h m.left (section_at p h m tys line loop)) []) put)
        by true put (loop_stopped t) e = none (begun_notes p h m tys line loop) (ap (λ b. either b (notes_of h m.left (section_at p h m tys line loop)) []) put ∙ ap (notes_of h m.left) e)
        by true put loop_over e = none (begun_notes p h m tys line loop) (ap (λ b. either b (notes_of h m.left (section_at p h m tys line loop)) []) put ∙ ap (notes_of h m.left) e)
        by true put (loop_done o) e =
            let f = loop_noted p marks code at budget laid.ends i.gone here came_here n line (record { loop = loop; locals = map kind_type tys }) o b.stands b.on_line b.is put e in
            let is : begun_notes p h m tys line loop ≡ note h o.listed (m.left - o.steps) ∷ [] = ap (λ b. either b (notes_of h m.left (section_at p h m tys line loop)) []) put ∙ ap (notes_of h m.left) e in
            subst (λ (ns : List Note). Split (lists p marks budget) (i.world.notes ++ ns)) (sym is) (record { rest = f.notes; whole = f.noted })

    -- ---- how it ends

    -- with a note that is handed on, or with none
    pub ends_by : (q : Bool) (ns : List Note) (o : Outcome World) (x : World) (held : Held) (b2 : A) → ((into : Into) → Chose into (length i.world.notes) q ns → Ends (run_into into p) code here o) → world_in o here.world ≡ x → x.prints ≡ i.world.prints → Reached S p a x.notes b2 → ended_as budget o ≡ run_with i.world.prints held → Ending S p marks budget a b2 old now held
    ends_by q ns o x held b2 e is same reached shows =
        let n = length i.world.notes in
        let into = and_this i.gone n q in
        let long : length (i.world.notes ++ ns) ≡ n + length ns = length-append i.world.notes ns in
        let there = i.came into (those_before into i.gone n (length (i.world.notes ++ ns)) q (omega (arith, long)) (λ j lt. refl)) in
        let end = e into (is_chosen into i.gone i.world.notes ns q (λ j lt. refl)) in
        let so : run_with i.world.prints held ≡ serial p budget = sym (ends_so p typed marks sound code at budget laid into here o there end ∙ shows) in
        record {
          outcome = ended_so (serial p budget) i.world.prints held so;
          whole = told_so old now i.world.prints (serial p budget) held i.told so;
          account = whole_of p a b2 x.notes (lists p marks budget) reached (notes_whole p typed marks sound code at budget laid into here o x is there end);
        }

    -- in a call that is handed on, whose steps were the last
    pub spends_by : (is : List Invocation) (k : ℕ) (g : List Object) (b2 : A) → ((into : Into) → into (length i.world.notes) ≡ false → Ends (run_into into p) code here (Spent (in_heap (with_note (in_heap i.world h) is k) g))) → S b p h is k b2 → Ending S p marks budget a b2 old now Exhausted
    spends_by is k g b2 e step =
        let x = in_heap (with_note (in_heap i.world h) is k) g in
        ends_by false (note h is k ∷ []) (Spent x) x Exhausted b2 e refl refl (by_one (note h is k) i.reached step) refl

    -- with none
    pub ends : (o : Outcome World) (x : World) (held : Held) → Ends (run_access p) code here o → notes_in o ≡ Some i.world.notes → world_in o here.world ≡ x → x.prints ≡ i.world.prints → x.notes ≡ i.world.notes → ended_as budget o ≡ run_with i.world.prints held → Ending S p marks budget a b old now held
    ends o x held e silent is same noted shows =
        ends_by false [] o x held b (λ into chose. ends_unnoted into p code here o e silent) is same (subst (λ ns. Reached S p a ns b) (sym noted) i.reached) shows

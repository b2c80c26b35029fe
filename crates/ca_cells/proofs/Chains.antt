-- Entries that are added to a history one behind the other, and their notes.
use Rattle.std.proofs.Common.{◌≡◌, ◌≢◌, ℕ, zero, suc, ◌+◌, false, cond, List, [], ◌∷◌, ◌++◌, All, map, length, take, drop, get_or, Option, Some, sym, refl, ap, ◌∙◌, subst, arith, append-nil, append_assoc, length-append, eq-eqb, ne_eqb}
use Rattle.std.specs.List.{slice_get as std_get}
use Rattle.std.proofs.lemmas.List.{length-map}
use Rattle.std.proofs.lemmas.List.Elements.{All-append}
use Rattle.std.specs.declared.snapshot.Snapshot.{Snapshot}
use Rattle.ca_lists.proofs.Places.{get_in_front, get_last}
use Rattle.ca_model.specs.declared.value.Object.{Object}
use Rattle.ca_meaning.specs.Multisets.{weight}
use Rattle.ca_logs.specs.Lasts.{last_of}
use Rattle.ca_logs.specs.Entries.{has_stop, is_stuck}
use Rattle.ca_logs.specs.Legal.{Ran, LegalCell}
use Rattle.ca_logs.specs.declared.log.Entry.{Entry}
use Rattle.ca_logs.specs.declared.log.CellLog.{CellLog}
use Rattle.ca_logs.proofs.Growing.{not_stuck, one_left}
use Rattle.ca_cells.specs.Rounds.{program_of, frozen_of, IsLegal}
use Rattle.ca_cells.specs.Notes.{IsNoted, IsKept, note_of, place_weight, below}
use Rattle.ca_cells.specs.clauses.Plays.{Grows, Chain, no_more, one_more, ChainBy}
use Rattle.ca_cells.specs.declared.rule.Note.{Note}
use Rattle.ca_cells.specs.declared.rule.Given.{Given}
use Rattle.ca_cells.specs.declared.rule.Place.{Place}
use Rattle.ca_cells.proofs.Histories.{not_closed}
use Rattle.ca_cells.proofs.Sums.{take_longer, take_all, below_more}

pub one_of : {A : Type 0} (P : A → Type 0) (x : A) → P x → All P (x ∷ [])
one_of P x h zero d l = h
one_of P x h (suc k) d l = absurd (omega arith)

-- what is noted of a history is so of a longer one
notes_stay : (given : Given) (i : ℕ) (old new : CellLog) (entry : Entry) → Grows given i old entry new → (note : Note) → IsNoted given old note → IsNoted given new note
notes_stay given i old new entry c note h = (
  ap (λ (l : List Entry). std_get l note.place) c.entries ∙ get_in_front old.entries (entry ∷ []) note.place note.entry h.0,
  h.1,
  subst (λ (l : List Entry). Ran (program_of given) (frozen_of given) note.cell new.opened.value 0 l note.found h.1) (sym (ap (take note.place) c.entries ∙ take_longer old.entries (entry ∷ []) note.place note.entry h.0))
      (subst (λ (o : Snapshot Object). Ran (program_of given) (frozen_of given) note.cell o.value 0 (take note.place old.entries) note.found h.1) (sym c.opened) h.2),
)

kept_stay : (given : Given) (i : ℕ) (old new : CellLog) (entry : Entry) → Grows given i old entry new → (place : Place) → IsKept old place → IsKept new place
kept_stay given i old new entry c place h = (h.0, ap (λ (l : List Entry). std_get l place.place) c.entries ∙ get_in_front old.entries (entry ∷ []) place.place h.0 h.1, h.2)

-- the entry that is added is noted with the object that the entries before it leave
new_noted : (given : Given) (i : ℕ) (old new : CellLog) (entry : Entry) → Grows given i old entry new → IsLegal given i old → IsNoted given new (note_of i old entry)
new_noted given i old new entry c legal = let t = not_stuck (program_of given) (frozen_of given) i old legal.legal (not_closed old entry.task.after c.takes_one) in (
  ap (λ (l : List Entry). std_get l (length old.entries)) c.entries ∙ get_last old.entries entry,
  legal.legal.clock,
  subst (λ (l : List Entry). Ran (program_of given) (frozen_of given) i new.opened.value 0 l old.object legal.legal.clock) (sym (ap (take (length old.entries)) c.entries ∙ (take_all old.entries (entry ∷ []) ∙ t.0)))
      (subst (λ (o : Snapshot Object). Ran (program_of given) (frozen_of given) i o.value 0 legal.legal.ran old.object legal.legal.clock) (sym c.opened) legal.legal.sections),
)

-- ---- entries that are added one behind the other

pub chain_given : (g : Option Given) (given : Given) (i : ℕ) (old new : CellLog) (notes : List Note) → g ≡ Some given → ChainBy g i old notes new → Chain given i old notes new
chain_given g given i old new notes e h = subst (λ (x : Option Given). ChainBy x i old notes new) e h

module _ (given : Given) (i : ℕ) where
  chain_entries : {old new : CellLog} {notes : List Note} → Chain given i old notes new → new.entries ≡ old.entries ++ map (λ (n : Note). n.entry) notes
  chain_entries (no_more log) = sym (append-nil log.entries)
  chain_entries (one_more old mid new entry notes g more) =
      chain_entries more ∙ ap (λ (l : List Entry). l ++ map (λ (n : Note). n.entry) notes) g.entries ∙ append_assoc old.entries (entry ∷ []) (map (λ (n : Note). n.entry) notes)

  chain_long : (old new : CellLog) (notes : List Note) → Chain given i old notes new → length new.entries ≡ length old.entries + length notes
  chain_long old new notes c =
      let a : length new.entries ≡ length (old.entries ++ map (λ (n : Note). n.entry) notes) = ap length (chain_entries c) in
      let b = length-append old.entries (map (λ (n : Note). n.entry) notes) in let d = length-map notes (λ (n : Note). n.entry) in omega arith

  pub chain_legal : {old new : CellLog} {notes : List Note} → IsLegal given i old → Chain given i old notes new → IsLegal given i new
  chain_legal l (no_more log) = l
  chain_legal l (one_more old mid new entry notes g more) = chain_legal g.legal more

  pub chain_stays : {old new : CellLog} {notes : List Note} → Chain given i old notes new → (note : Note) → IsNoted given old note → IsNoted given new note
  chain_stays (no_more log) note h = h
  chain_stays (one_more old mid new entry notes g more) note h = chain_stays more note (notes_stay given i old mid entry g note h)

  pub chain_kept : {old new : CellLog} {notes : List Note} → Chain given i old notes new → (place : Place) → IsKept old place → IsKept new place
  chain_kept (no_more log) place h = h
  chain_kept (one_more old mid new entry notes g more) place h = chain_kept more place (kept_stay given i old mid entry g place h)

  pub chain_noted : {old new : CellLog} {notes : List Note} → IsLegal given i old → Chain given i old notes new → All (λ (note : Note). (note.cell ≡ i) × IsNoted given new note) notes
  chain_noted l (no_more log) = λ k d h. absurd (omega arith)
  chain_noted l (one_more old mid new entry notes g more) =
      All-append (λ (note : Note). (note.cell ≡ i) × IsNoted given new note) (note_of i old entry ∷ []) notes
      (one_of (λ (note : Note). (note.cell ≡ i) × IsNoted given new note) (note_of i old entry) (refl, chain_stays more (note_of i old entry) (new_noted given i old mid entry g l))) (chain_noted g.legal more)

  -- what the places weigh that are noted
  pub chain_weight : {old new : CellLog} {notes : List Note} (f : ℕ → ℕ) → Chain given i old notes new → weight (place_weight f i) notes + below f (length old.entries) ≡ below f (length new.entries)
  chain_weight f (no_more log) = omega arith
  chain_weight f (one_more old mid new entry notes g more) =
      let own : place_weight f i (note_of i old entry) ≡ f (length old.entries) = ap (λ b. cond b (f (length old.entries)) 0) (eq-eqb i i refl) in
      let longer : length mid.entries ≡ length old.entries + 1 = ap length g.entries ∙ length-append old.entries (entry ∷ []) in
      omega (arith, own, chain_weight f more, ap (below f) longer, below_more f (length old.entries))

  pub chain_else : {old new : CellLog} {notes : List Note} (f : ℕ → ℕ) (r : ℕ) → r ≢ i → Chain given i old notes new → weight (place_weight f r) notes ≡ 0
  chain_else f r ne (no_more log) = refl
  chain_else f r ne (one_more old mid new entry notes g more) =
      let other : place_weight f r (note_of i old entry) ≡ 0 = ap (λ b. cond b (f (length old.entries)) 0) (ne_eqb i r (λ e. ne (sym e))) in
      omega (arith, other, chain_else f r ne more)

  -- ---- the notes are those of the two histories

  -- no stop, since one more entry comes behind it
  data Further (log : CellLog) : List Note → Type 0 where
    ends_here : Further log []
    goes_further : (note : Note) (notes : List Note) → is_stuck log ≡ false → Further log (note ∷ notes)

  further : {old new : CellLog} {notes : List Note} → Chain given i old notes new → Further old notes
  further (no_more log) = ends_here
  further (one_more old mid new entry notes g more) = goes_further _ notes (not_closed old entry.task.after g.takes_one)

  same_log : (a b : CellLog) → a.opened ≡ b.opened → a.object ≡ b.object → a.entries ≡ b.entries → a ≡ b
  same_log a b x y z = ap (λ o. record { opened = o; object = a.object; entries = a.entries }) x ∙ ap (λ o. record { opened = b.opened; object = o; entries = a.entries }) y ∙ ap (λ l. record { opened = b.opened; object = b.object; entries = l }) z

  -- legal histories with the same entries, of which the last has no stop, have one object
  one_object : (a b : CellLog) → LegalCell (program_of given) (frozen_of given) i a → LegalCell (program_of given) (frozen_of given) i b → a.opened ≡ b.opened → a.entries ≡ b.entries → is_stuck a ≡ false → a.object ≡ b.object
  one_object a b la lb opened entries no_stop =
      let x = not_stuck (program_of given) (frozen_of given) i a la no_stop in
      let y = not_stuck (program_of given) (frozen_of given) i b lb (ap (λ (l : List Entry). has_stop (last_of l)) (sym entries) ∙ no_stop) in
      let runs : Ran (program_of given) (frozen_of given) i a.opened.value 0 a.entries b.object lb.clock =
      subst (λ (l : List Entry). Ran (program_of given) (frozen_of given) i a.opened.value 0 l b.object lb.clock) (sym (entries ∙ y.0))
      (subst (λ (o : Snapshot Object). Ran (program_of given) (frozen_of given) i o.value 0 lb.ran b.object lb.clock) (sym opened) lb.sections) in
      (one_left (program_of given) (frozen_of given) i a.opened.value 0 a.entries a.object b.object la.clock lb.clock
      (subst (λ (l : List Entry). Ran (program_of given) (frozen_of given) i a.opened.value 0 l a.object la.clock) (sym x.0) la.sections) runs).0

  heads_of : (xs : List Entry) (a b : Entry) (cs bs : List Entry) → xs ++ a ∷ cs ≡ xs ++ b ∷ bs → a ≡ b
  heads_of [] a b cs bs e = ap (λ l. get_or l 0 a) e
  heads_of (x ∷ xs) a b cs bs e = heads_of xs a b cs bs (ap (drop 1) e)

  pub one_chain : {old old2 new new2 : CellLog} {ns ms : List Note} → Chain given i old ns new → Chain given i old2 ms new2 → old.opened ≡ old2.opened → old.entries ≡ old2.entries → IsLegal given i old → IsLegal given i old2 → new ≡ new2 → ns ≡ ms
  one_chain (no_more log) (no_more log2) o e l l2 f = refl
  one_chain (no_more log) (one_more old mid new entry notes g more) o e l l2 f =
      let a = chain_long old new (note_of i old entry ∷ notes) (one_more old mid new entry notes g more) in let b : length log.entries ≡ length old.entries = ap length e in let c : length log.entries ≡ length new.entries = ap (λ (l : CellLog). length l.entries) f in
      absurd (omega arith)
  one_chain (one_more old mid new entry notes g more) (no_more log) o e l l2 f =
      let a = chain_long old new (note_of i old entry ∷ notes) (one_more old mid new entry notes g more) in let b : length old.entries ≡ length log.entries = ap length e in let c : length new.entries ≡ length log.entries = ap (λ (l : CellLog). length l.entries) f in
      absurd (omega arith)
  one_chain (one_more old mid new entry notes g more) (one_more old2 mid2 new2 entry2 notes2 g2 more2) o e l l2 f =
      let object : old.object ≡ old2.object = one_object old old2 l.legal l2.legal o e (not_closed old entry.task.after g.takes_one) in
      let same : old ≡ old2 = same_log old old2 o object e in
      let all : old.entries ++ (entry ∷ map (λ (n : Note). n.entry) notes) ≡ old.entries ++ (entry2 ∷ map (λ (n : Note). n.entry) notes2) =
      sym (chain_entries (one_more old mid new entry notes g more)) ∙ ap (λ (l : CellLog). l.entries) f ∙ chain_entries (one_more old2 mid2 new2 entry2 notes2 g2 more2) ∙ ap (λ (l : List Entry). l ++ (entry2 ∷ map (λ (n : Note). n.entry) notes2)) (sym e) in
      let head : entry ≡ entry2 = heads_of old.entries entry entry2 _ _ all in
      let opened : mid.opened ≡ mid2.opened = g.opened ∙ o ∙ sym g2.opened in
      let entries : mid.entries ≡ mid2.entries = g.entries ∙ ap (λ (l : List Entry). l ++ entry ∷ []) e ∙ ap (λ (x : Entry). old2.entries ++ x ∷ []) head ∙ sym g2.entries in
      let tails : notes ≡ notes2 = one_chain more more2 opened entries g.legal g2.legal f in
      ap (λ (l : CellLog). note_of i l entry ∷ notes) same ∙ ap (λ (x : Entry). note_of i old2 x ∷ notes) head ∙ ap (λ (l : List Note). note_of i old2 entry2 ∷ l) tails

-- the notes that are told are those that were made
pub same_chain : (given : Given) (i : ℕ) (g : Option Given) (old old' log log' : CellLog) (notes notes' : List Note) → g ≡ Some given → IsLegal given i old → old ≡ old' → log ≡ log' → ChainBy g i old notes log → ChainBy g i old' notes' log' → notes ≡ notes'
same_chain given i g old old' log log' notes notes' e legal a b c d =
    one_chain given i (chain_given g given i old log notes e c) (chain_given g given i old' log' notes' e d) (ap (λ (l : CellLog). l.opened) a) (ap (λ (l : CellLog). l.entries) a) legal (subst (IsLegal given i) a legal) b

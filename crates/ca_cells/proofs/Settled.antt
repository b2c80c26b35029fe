-- What holds of each history that is gathered.
use Rattle.std.proofs.Common.{◌≡◌, ◌<◌, ℕ, true, List, [], All, length, reverse, Some, sym, ap, subst, ◌∙◌}
use Rattle.std.specs.Prelude.{slice_get}
use Rattle.std.specs.List.Sorted.{IsPermutation}
use mathlib.Core.Option.{some-injective}
use Rattle.atomic_table.specs.Table.{Seen, Final}
use Rattle.ca_model.specs.declared.value.Object.{Object}
use Rattle.ca_logs.specs.declared.log.CellLog.{CellLog}
use Rattle.ca_logs.specs.Touched.{Touched, logs_of}
use Rattle.ca_cells.specs.Rounds.{IsLegal, now_of}
use Rattle.ca_cells.specs.Notes.{IsNoted, IsKept, below}
use Rattle.ca_cells.specs.clauses.Shelves.{found, all_touched, joined_shelves}
use Rattle.ca_cells.specs.clauses.Rule.{Stands, noted_weight, Ruled}
use Rattle.ca_cells.specs.declared.rule.Given.{Given}
use Rattle.ca_cells.specs.declared.rule.Note.{Note}
use Rattle.ca_cells.specs.declared.rule.Place.{Place}
use Rattle.ca_cells.specs.declared.rule.View.{View}
use Rattle.ca_cells.specs.declared.slot.Held.{Held}
use Rattle.ca_cells.proofs.Begun.{stands_alike}
use Rattle.ca_cells.proofs.Drains.{all_from}
use Rattle.ca_cells.proofs.Joining.{closes, closes_shelves}
use Rattle.ca_cells.proofs.Turned.{Slot}

-- it is legal, and the seat's notes are its entries
pub record Settled (key : Given) (v : View) (i : ℕ) (log : CellLog) : Type 0 where
  pub legal : IsLegal key i log
  pub once : (f : ℕ → ℕ) → noted_weight f i v ≡ below f (length log.entries)
  pub noted : All (λ (note : Note). note.cell ≡ i → IsNoted key log note) v.noted
  pub kept : All (λ (place : Place). place.cell ≡ i → IsKept log place) v.kept

pub settled : (key : Given) (ws : List ℕ) (shelves : List Slot) (id : ℕ) (v : View) → v.boss ≡ true → v.out ≡ [] → v.at ≡ 0 → 0 < length shelves → Final (Seen (Ruled key) id v) ws shelves
    → (xs : List Held) → IsPermutation (joined_shelves shelves) xs → (now : List Object) → now ≡ now_of key → (ts : List Touched) → ts ≡ all_touched (reverse xs)
    → (i : ℕ) (log : CellLog) → slice_get (logs_of now ts) i ≡ Some log → Settled key v i log
settled key ws shelves id v is_boss none_out none_held some_class fin xs p now is ts these i log e =
    let there : slice_get (logs_of (now_of key) (all_touched (reverse xs))) i ≡ Some log = sym (ap (λ (os : List Object). slice_get (logs_of os ts) i) is ∙ ap (λ (l : List Touched). slice_get (logs_of (now_of key) l) i) these) ∙ e in
    let at = all_from (now_of key) shelves xs (closes_shelves key ws shelves id v is_boss none_out none_held fin) some_class p i log there in
    let t = closes key ws shelves id v is_boss none_out none_held some_class fin i at.0 in
    let same_shelf : t.1 ≡ at.1 = some-injective t.1 at.1 (sym t.2 ∙ at.2) in
    let same : t.0 ≡ log = stands_alike key i (found at.1 i) t.0 log (subst (λ (s : Slot). Stands key i (found s i) t.0) same_shelf t.3) at.3 in
    record {
      legal = subst (IsLegal key i) same t.4;
      once = λ f. t.5 f ∙ ap (λ (l : CellLog). below f (length l.entries)) same;
      noted = subst (λ (l : CellLog). All (λ (note : Note). note.cell ≡ i → IsNoted key l note) v.noted) same t.6;
      kept = subst (λ (l : CellLog). All (λ (place : Place). place.cell ≡ i → IsKept l place) v.kept) same t.7;
    }

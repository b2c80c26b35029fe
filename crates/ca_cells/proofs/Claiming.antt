-- The history that is taken off a claimed shelf.
use Rattle.std.proofs.Common.{◌≡◌, ◌+◌, ◌%◌, ◌<◌, true, ℕ, List, [], ◌∷◌, All, length, Option, Some, None, refl, sym, ap, subst, ◌∙◌}
use Rattle.ca_model.specs.declared.value.Object.{Object}
use Rattle.ca_logs.specs.declared.log.CellLog.{CellLog}
use Rattle.ca_cells.specs.Rounds.{now_of, IsLegal}
use Rattle.ca_cells.specs.clauses.Shelves.{found, AreOnce, Without}
use Rattle.ca_cells.specs.clauses.Rule.{Stands}
use Rattle.ca_cells.specs.clauses.Plays.{ClaimedBy, StandsBy, LegalBy, IsInside, Holds, Mine, holding}
use Rattle.ca_cells.specs.declared.rule.Given.{Given}
use Rattle.ca_cells.specs.declared.rule.Note.{Note}
use Rattle.ca_cells.specs.declared.slot.Held.{Held}
use Rattle.ca_cells.specs.declared.slot.Out.{Out}

pub claimed_once : (g : Option Given) (classes class : ℕ) (shelf : List Held) (noted : List Note) → ClaimedBy g classes class shelf noted → AreOnce shelf
claimed_once None classes class shelf noted c = absurd c
claimed_once (Some given) classes class shelf noted c = c.shelf.once

pub record Taken (g : Option Given) (shelf : List Held) (noted : List Note) (number : ℕ) (log : CellLog) : Type 0 where
  pub stood : StandsBy g number (found shelf number) log
  pub legal : LegalBy g number log
  pub later : All (λ (note : Note). note.cell ≡ number → note.place < length log.entries) noted

pub taken : (g : Option Given) (now : List Object) (classes class : ℕ) (shelf : List Held) (noted : List Note) (number : ℕ) (log : CellLog) → ((given : Given) → g ≡ Some given → now_of given ≡ now) → ClaimedBy g classes class shelf noted → IsInside g number
    → number % classes ≡ class → ((given : Given) (history : CellLog) → now_of given ≡ now → Stands given number (found shelf number) history → log ≡ history) → Taken g shelf noted number log
taken None now classes class shelf noted number log is c of e one = absurd c
taken (Some given) now classes class shelf noted number log is c of e one =
    let t = c.each number (of, e) in let same : log ≡ t.0 = one given t.0 (is given refl) t.1 in record {
      stood = subst (Stands given number (found shelf number)) (sym same) t.1;
      legal = (c.round, subst (IsLegal given number) (sym same) t.2);
      later = subst (λ (l : CellLog). All (λ (note : Note). note.cell ≡ number → note.place < length l.entries) noted) (sym same) t.3;
    }

-- what a seat holds that claimed a class and took a history out of its shelf
pub holds_taken : (classes class : ℕ) (old me : Mine) (shelf : List Held) (number : ℕ) (log : CellLog) (out : Out) → old.0.live ≡ true → me ≡ (holding old.0 class shelf, (class, []) ∷ []) → number % classes ≡ class → class < classes
    → out.class ≡ class → Without shelf number out.others.items → StandsBy old.0.given number (found shelf number) log → Holds classes me number log out
holds_taken classes class old me shelf number log out live held rest less is without stood = record {
  live = ap (λ (m : Mine). m.0.live) held ∙ live;
  at = ap (λ (m : Mine). m.0.at) held ∙ ap (λ (n : ℕ). n + 1) (sym is);
  carries = ap (λ (m : Mine). m.1) held ∙ ap (λ (n : ℕ). (n, []) ∷ []) (sym is);
  class = (rest ∙ sym is, subst (λ (n : ℕ). n < classes) (sym is) less);
  without = subst (λ (m : Mine). Without m.0.shelf number out.others.items) (sym held) without;
  stood = subst (λ (m : Mine). StandsBy m.0.given number (found m.0.shelf number) log) (sym held) stood;
}

-- it is told of the whole shelf what was told of an equal one
pub stands_in : (now : List Object) (these shelf : List Held) (number : ℕ) (log : CellLog) → these ≡ shelf → ((given : Given) (history : CellLog) → now_of given ≡ now → Stands given number (found these number) history → log ≡ history)
    → (given : Given) (history : CellLog) → now_of given ≡ now → Stands given number (found shelf number) history → log ≡ history
stands_in now these shelf number log same one = subst (λ (s : List Held). (given : Given) (history : CellLog) → now_of given ≡ now → Stands given number (found s number) history → log ≡ history) same one

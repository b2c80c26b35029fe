use Rattle.std.proofs.Common.{◌≡◌, ℕ, ◌+◌, [], ◌∷◌, ◌++◌, length, sym, ap, ◌∙◌, arith, subst, length-append}
use Rattle.ca_cells.specs.clauses.Shelves.{AreVacant}
use Rattle.ca_cells.proofs.Opening.{vacant_more}
use Rattle.ca_cells.proofs.Turned.{Slot}
use Rattle.ca_cells.proofs.cells.making.empty_shelves.Goals as goal

pub loop-class-preserved : goal.loop-class-preserved
loop-class-preserved c = let i = c.loop-class.invariant in let p : c.push.new.self.items ≡ c.loop-class.shelves.items ++ [] ∷ [] = c.in_ok-push.ensures.items ∙ ap (λ (x : Slot). c.loop-class.shelves.items ++ x ∷ []) c.none.ensures in (
  ap length p ∙ (length-append c.loop-class.shelves.items ([] ∷ []) ∙ ap (λ (n : ℕ). n + 1) i.0),
  (let t = c.loop-class-test.true in omega arith),
  subst AreVacant (sym p) (vacant_more c.loop-class.shelves.items i.2),
)

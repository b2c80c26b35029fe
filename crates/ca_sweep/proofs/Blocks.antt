-- Statements in memory, and what they are viewed as.
use Rattle.std.proofs.Common.{◌≡◌, List, [], ◌∷◌, length, None, refl, ap, ◌∙◌, Global}
use Rattle.std.specs.declared.vec.Vec.{Vec}
use Rattle.ca_program.specs.declared.program.LocalId.{LocalId}
use Rattle.ca_program.specs.declared.program.Stmt.{Stmt}
use Rattle.ca_program.specs.declared.program.StmtForm.{Block}
use Rattle.ca_program.specs.Plain.{block}
use Rattle.ca_program.specs.View.{form_view, statement_view, statements_view}
use Rattle.ca_program.proofs.Rows.{block_is}
use Rattle.ca_sweep.specs.Found.{addition_in}

pub block_view : (s : Stmt) (v : Vec Stmt Global) → s.kind ≡ Block v → statement_view s ≡ block s.line (statements_view v.items)
block_view s v is = ap (λ k. form_view k s.line) is ∙ block_is s.line v

pub not_one : (xs : List Stmt) (i : LocalId) → (length xs ≡ 1 → ⊥) → addition_in (statements_view xs) i ≡ None
not_one [] i h = refl
not_one (x ∷ []) i h = absurd (h refl)
not_one (x ∷ y ∷ xs) i h = refl

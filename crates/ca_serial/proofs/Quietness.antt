-- Statements in memory that put nothing into fields.
use Rattle.std.proofs.Common.{◌≡◌, List, [], ◌∷◌, ◌++◌, refl, ap, ◌∙◌, Global}
use Rattle.std.specs.Prelude.{true, ◌&&◌}
use Rattle.std.specs.declared.vec.Vec.{Vec}
use Rattle.ca_program.specs.declared.program.Stmt.{Stmt}
use Rattle.ca_program.specs.declared.program.StmtForm.{Block}
use Rattle.ca_program.specs.Plain.{block}
use Rattle.ca_program.specs.View.{form_view, statement_view, statements_view}
use Rattle.ca_program.proofs.Rows.{block_is}
use Rattle.ca_note_laws.specs.Listing.{is_empty}

pub block_view : (s : Stmt) (v : Vec Stmt Global) → s.kind ≡ Block v → statement_view s ≡ block s.line (statements_view v.items)
block_view s v is = ap (λ k. form_view k s.line) is ∙ block_is s.line v

pub none_of_both : {A : Type 0} (xs ys : List A) → is_empty (xs ++ ys) ≡ (is_empty xs && is_empty ys)
none_of_both [] ys = refl
none_of_both (x ∷ xs) ys = refl

pub is_none : {A : Type 0} (xs : List A) → is_empty xs ≡ true → xs ≡ []
is_none [] e = refl
is_none (x ∷ xs) e = cc

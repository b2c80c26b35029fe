-- Marks, the pieces of a text, and which marks stand where.
use Rattle.std.specs.Prelude.{ℕ, List, [], ◌∷◌, map, Option, Some, None, codes}
use Rattle.std.specs.Borrow.{Bor}
use Rattle.ca_tree.specs.declared.name.Place.{Place}
use Rattle.ca_tree.specs.declared.token.Kind.{Kind}
use Rattle.ca_tree.specs.declared.tree.StmtNode.{StmtNode}
use Rattle.ca_tree.specs.Plain.{Statement}
use Rattle.ca_tree.specs.View.{statement_view}
use Rattle.ca_canonical.specs.declared.marks.Mark.{Mark}
use Rattle.ca_canonical.specs.declared.marks.Mark.TheVariants.{Lock, Unlock, Spawn, Parallel}

abbrev pub mark_text : Mark → List ℕ
mark_text Lock = codes "/*@lock*/"
mark_text Unlock = codes "/*@unlock*/"
mark_text Spawn = codes "/*@spawn*/"
mark_text Parallel = codes "/*@parallel*/"

-- what a text is made of
pub data Piece : Type 0 where
  token : Kind → Piece
  mark : Mark → Piece

abbrev pub tokens : List Kind → List Piece
tokens ks = map token ks

abbrev pub marks : List Mark → List Piece
marks ms = map mark ms

-- the tokens among pieces
abbrev pub unmarked : List Piece → List Kind
unmarked [] = []
unmarked (token k ∷ ps) = k ∷ unmarked ps
unmarked (mark m ∷ ps) = unmarked ps

-- Which marks stand before each statement of a body, behind the `{` of a method's body and before its `}`. A body is named
-- by the place of its method's name, and that of `main` by none. Told is also which statement stands in front in the same
-- list; none does at the beginning of a list, of a branch and of the body of a loop.
pub record Marking : Type 0 where
  pub before : Option Place → Option Statement → Statement → List Mark
  pub opening : Place → List Mark
  pub closing : Place → List Mark

abbrev pub no_marks : Marking
no_marks = record { before = λ body front s. []; opening = λ body. []; closing = λ body. [] }

-- the statement in front, as a plain one
abbrev pub front_view : Option (Bor StmtNode) → Option Statement
front_view None = None
front_view (Some s) = Some (statement_view s.now)

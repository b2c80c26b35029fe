-- A comment that is no mark, and a mark with its space.
use Rattle.std.proofs.Common.{◌≡◌, ℕ, List, [], ◌∷◌, ◌++◌, refl, codes}
use Rattle.ca_canonical.specs.declared.marks.Mark.TheVariants.{Lock}
use Rattle.ca_canonical.specs.Erased.{Erased, at_end, a_mark, a_comment, a_byte}

-- `a` behind a mark and its space, and a mark within another comment
without_mark : Erased (codes "/*@lock*/ a//@/*@lock*/") (codes "a//@/*@lock*/")
without_mark = a_mark Lock (codes " a//@/*@lock*/") (a_byte refl (a_comment refl refl at_end))

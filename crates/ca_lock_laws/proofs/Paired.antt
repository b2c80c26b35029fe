-- A body and what it resolves to have the same calls and loops.
use Rattle.std.proofs.Common.{◌≡◌, ℕ, List, [], ◌∷◌, ◌++◌, map, refl, sym, ap, ap₂, ◌∙◌}
use Rattle.std.proofs.lemmas.List.{append-nil, map-append}
use Rattle.ca_tree.specs.declared.name.Place.{Place}
use Rattle.ca_tree.specs.Plain as tree
use Rattle.ca_tree.specs.Plain.{MethodTree, TextTree}
use Rattle.ca_program.specs.Plain as program
use Rattle.ca_program.specs.Plain.{PlainMethod, PlainProgram}
use Rattle.ca_lock_laws.specs.Paths.{IsPut, puts_local, puts_field, puts_item, creates_local, creates_field, creates_item, IsLine, declared, assigned, printed}
use Rattle.ca_lock_laws.specs.Resolves.{Resolves, an_empty, a_line, a_call, a_return, a_block, an_if, an_else, a_while, a_for, AllResolve, none, and_all, AllBodies, operations_of, ProgramResolves}
use Rattle.ca_lock_laws.specs.Sites.{sites_of, sites_of_all, lines_of, lines_of_all, SameSites, ProgramSites}

abbrev line_at : Place → ℕ
line_at at = at.line

put_has_none : {x : program.Statement} → IsPut x → [] ≡ lines_of x
put_has_none (puts_local line n op e) = refl
put_has_none (puts_field line f op e) = refl
put_has_none (puts_item line f i op e) = refl
put_has_none (creates_local line n c) = refl
put_has_none (creates_field line f c) = refl
put_has_none (creates_item line f i c) = refl

line_has_none : {s : tree.Statement} {x : program.Statement} → IsLine s x → map line_at (sites_of s) ≡ lines_of x
line_has_none (declared at ty name name_at v h) = put_has_none h
line_has_none (assigned at target op r h) = put_has_none h
line_has_none (printed at e line v) = refl

two : (ats bs : List Place) (xs ys : List ℕ) → map line_at ats ≡ xs → map line_at bs ≡ ys → map line_at (ats ++ bs) ≡ xs ++ ys
two ats bs xs ys a b = map-append line_at ats bs ∙ ap₂ (λ u v. u ++ v) a b

mutual
  paired : {s : tree.Statement} {x : program.Statement} → Resolves s x → map line_at (sites_of s) ≡ lines_of x
  paired (an_empty at) = refl
  paired (a_line h) = line_has_none h
  paired (a_call at e receiver op arguments) = refl
  paired (a_return at e v) = refl
  paired (a_block at h) = all_paired h
  paired (an_if at e c {s} {x} h) = paired h ∙ sym (append-nil (lines_of x))
  paired (an_else at e c {s} {t} {x} {y} h g) = two (sites_of s) (sites_of t) (lines_of x) (lines_of y) (paired h) (paired g)
  paired (a_while at e c h) = paired h
  paired (a_for at e site part c a b h) = ap (λ ns. at.line ∷ ns) (paired h)

  pub all_paired : {ss : tree.Statements} {xs : program.Statements} → AllResolve ss xs → map line_at (sites_of_all ss) ≡ lines_of_all xs
  all_paired none = refl
  all_paired (and_all {s} {x} {ss} {xs} h hs) = two (sites_of s) (sites_of_all ss) (lines_of x) (lines_of_all xs) (paired h) (all_paired hs)

bodies : (ms : List MethodTree) (xs : List PlainMethod) → AllBodies AllResolve ms xs → AllBodies SameSites ms xs
bodies [] [] h = tt
bodies [] (x ∷ xs) h = absurd h
bodies (m ∷ ms) [] h = absurd h
bodies (m ∷ ms) (x ∷ xs) h = (all_paired h.0, bodies ms xs h.1)

pub sites_paired : (t : TextTree) (p : PlainProgram) → ProgramResolves t p → ProgramSites t p
sites_paired t p h = record { operations = bodies (operations_of t.classes) p.ops h.operations; main = all_paired h.main }

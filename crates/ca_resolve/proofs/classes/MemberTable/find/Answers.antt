use Rattle.std.proofs.Common.{map, sym, ◌∙◌, ap}
use Rattle.std.specs.List.{slice_get}
use Rattle.ca_resolve.specs.Scopes.{same_name}
use Rattle.ca_resolve.specs.View.{meaning_view}
use Rattle.ca_resolve.proofs.Lookups.{lookup_at, lookup_none, seen_at}
use Rattle.ca_resolve.proofs.classes.MemberTable.find.Goals as goal

pub returns-in-Some : goal.returns-in-Some
returns-in-Some c =
    seen_at meaning_view c.args.self.now.meanings.items c.in-Some.number c.at.result (c.at.ensures ∙ ap (λ ms. slice_get ms c.in-Some.number) c.deref.ensures.value)
    ∙ sym (lookup_at (λ n. same_name n c.args.name.now) c.args.self.now.names (map meaning_view c.args.self.now.meanings.items) c.in-Some.number (sym c.number.ensures ∙ c.in-Some.is))

pub returns-in-None : goal.returns-in-None
returns-in-None c =
    sym (lookup_none (λ n. same_name n c.args.name.now) c.args.self.now.names (map meaning_view c.args.self.now.meanings.items) (sym c.number.ensures ∙ c.in-None.is))

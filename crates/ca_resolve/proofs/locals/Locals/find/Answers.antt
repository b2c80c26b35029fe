use Rattle.std.proofs.Common.{◌∙◌, ap, sym, slice_get}
use Rattle.std.specs.Option.{option_map}
use Rattle.ca_resolve.specs.Scopes.{find_local}
use Rattle.ca_resolve.specs.LocalView.{local_view}
use Rattle.ca_resolve.proofs.Innermost.{found_at, none_found, at}
use Rattle.ca_resolve.proofs.locals.Locals.find.Goals as goal

pub returns-in-Some : goal.returns-in-Some
returns-in-Some c =
    let ss = c.self.inside.all.items in
    let m = c.self.inside.innermost in
    let name = c.args.name.now in
    let i = c.in-Some.number.now in
    ap (option_map local_view) (c.local_at.ensures ∙ ap (λ xs. option_map (λ s. s.local) (slice_get xs i)) c.deref.ensures.value)
    ∙ (found_at ss name i (sym (c.self.invariant.0 name) ∙ (ap (at m) (sym c.as_bytes.ensures) ∙ sym c.in-Some.ensures.value)) ∙ ap (λ ls. find_local ls name) c.self.view_is)

pub returns-in-None : goal.returns-in-None
returns-in-None c =
    let ss = c.self.inside.all.items in
    let m = c.self.inside.innermost in
    let name = c.args.name.now in
    none_found ss name (sym (c.self.invariant.0 name) ∙ (ap (at m) (sym c.as_bytes.ensures) ∙ sym c.in-None.ensures.value)) ∙ ap (λ ls. find_local ls name) c.self.view_is

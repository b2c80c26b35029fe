use Rattle.std.proofs.Common.{sym, subst, Some, None, ◌++◌, ◌∷◌, []}
use Rattle.ca_resolve.specs.clauses.Shadows.{FindsLocals}
use Rattle.ca_resolve.proofs.Innermost.{left, left_view, updated, ok_or, not_absent}
use Rattle.ca_resolve.proofs.locals.Locals.pop.Goals as goal

pub invariant_of-self : goal.invariant_of-self
invariant_of-self c =
    let m = c.self.inside.innermost in
    let n = c.insert.new.self in
    let ss = c.pop.new.self.items in
    let s = c.in-Some.shadow in
    let cs = c.as_bytes-name.result.now in
    let whole : FindsLocals m (ss ++ s ∷ []) = subst (FindsLocals m) c.in-Some.ensures.items c.self.invariant in
    left m n ss s whole
    (updated m n s.local.name.now cs s.hides (Some c.in-Some-hides.number) c.as_bytes-name.ensures (sym c.in-Some-hides.is)
    (ok_or c.insert.result _ _ c.insert.ensures.updates c.insert.ensures.absent (not_absent m ss s cs whole c.as_bytes-name.ensures)))

pub invariant_of-self-in-None : goal.invariant_of-self-in-None
invariant_of-self-in-None c =
    let m = c.self.inside.innermost in
    let n = c.remove.new.self in
    let ss = c.pop.new.self.items in
    let s = c.in-Some.shadow in
    let cs = c.as_bytes-name.result.now in
    let whole : FindsLocals m (ss ++ s ∷ []) = subst (FindsLocals m) c.in-Some.ensures.items c.self.invariant in
    left m n ss s whole (updated m n s.local.name.now cs s.hides None c.as_bytes-name.ensures (sym c.in-None.is) c.remove.ensures.updates)

pub returns-in-Some-hides : goal.returns-in-Some-hides
returns-in-Some-hides c = left_view c.self.inside.all.items c.pop.new.self.items c.in-Some.shadow c.args.self.now c.self.view_is c.in-Some.ensures.items

pub returns-in-None : goal.returns-in-None
returns-in-None c = left_view c.self.inside.all.items c.pop.new.self.items c.in-Some.shadow c.args.self.now c.self.view_is c.in-Some.ensures.items

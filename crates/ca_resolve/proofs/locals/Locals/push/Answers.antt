use Rattle.std.proofs.Common.{◌≡◌, ◌∷◌, ◌∙◌, ap, sym, subst, arith, length, Some, ℕ}
use Rattle.ca_resolve.specs.declared.locals.Shadow.{Shadow}
use Rattle.ca_resolve.specs.LocalView.{local_view}
use Rattle.ca_resolve.specs.clauses.Shadows.{innermost_first, FindsLocals}
use Rattle.ca_resolve.proofs.Innermost.{at, pushed, updated, ok_holds, one_inside}
use Rattle.ca_resolve.proofs.locals.Locals.push.Goals as goal

pub invariant_of-self-else-is_err : goal.invariant_of-self-else-is_err
invariant_of-self-else-is_err c =
    let s : Shadow = record { local = c.args.local; hides = c.copied-hides.result } in
    let m = c.self.inside.innermost in
    let n = c.insert.new.self in
    let ss = c.self.inside.all.items in
    let number : c.len-number.result ≡ length ss = omega (arith, c.len-number.ensures, c.self.inside.all.ok) in
    subst (FindsLocals n) (sym c.in_ok-push.ensures.items)
    (pushed m n ss s c.self.invariant (c.copied-hides.ensures ∙ (c.get.ensures.value ∙ ap (at m) c.as_bytes-name.ensures))
    (updated m n c.args.local.name.now c.as_bytes-name.result.now (Some (length ss)) (Some c.len-number.result) c.as_bytes-name.ensures (ap (λ (k : ℕ). Some k) number)
    (ok_holds c.insert.result _ (sym c.is_err.ensures.value ∙ c.if-is_err.false) c.insert.ensures.updates)))

pub returns : goal.returns
returns c =
    let s : Shadow = record { local = c.args.local; hides = c.copied-hides.result } in
    ap innermost_first c.in_ok-push.ensures.items ∙ (one_inside c.self.inside.all.items s ∙ ap (λ ls. local_view c.args.local ∷ ls) c.self.view_is)

use Rattle.std.proofs.Common.{◌≡◌, IfOk, ap, subst}
use Rattle.std.proofs.lemmas.Result.{err_from_is_err_and}
use Rattle.ca_resolve.specs.Judged.{fine, within}
use Rattle.ca_resolve.proofs.Judging.{both_exit, both_fine}
use Rattle.ca_types.specs.Classes.{Members, Parts}
use Rattle.ca_types.specs.clauses.Adding.{with_class}
use Rattle.ca_types.specs.clauses.View.{parts_view, members_view}
use Rattle.ca_types.proofs.Answering.{made}
use Rattle.ca_types.proofs.classes.with_class.Goals as goal

pub returns-in_err-parts : goal.returns-in_err-parts
returns-in_err-parts c = λ j k x y.
    let err = c.in_err-parts.field-0.0 in
    let p = err_from_is_err_and c.from_residual.result c.from_residual.ensures.1 in
    rw (p.1, p.2)
    (both_exit parts_view members_view c.args.front c.args.members c.both.result err j k _ c.in_err-parts.was c.both.ensures x y)

pub returns-in-Ok : goal.returns-in-Ok
returns-in-Ok c = λ j k x y.
    let parts = c.in_ok-parts.parts in
    let members = c.in_ok-parts.members in
    let known = both_fine parts_view members_view c.args.front c.args.members c.both.result (parts, members) j k c.in_ok-parts.was c.both.ensures x y in
    made parts_view c.put_class.result _ (with_class (parts_view parts) c.args.name.now (members_view members))
    (ap (λ q. within q (λ (p : Parts × Members). fine (with_class p.0 c.args.name.now p.1))) known)
    (subst (λ name. IfOk c.put_class.result (λ r. parts_view r ≡ with_class (parts_view parts) name (members_view members))) c.in-Ok.ensures c.put_class.ensures.parts) c.put_class.ensures.memory

use Rattle.std.proofs.Common.{ap, subst, sym, ◌∙◌, arith}
use Rattle.std.specs.Prelude.{slice_get}
use Rattle.ca_replica.specs.declared.marks.FieldMark.TheVariants.{Free}
use Rattle.ca_replica.specs.Calls.{IsMarked}
use Rattle.ca_replica.proofs.InPlace.{marked_on, none_more}
use Rattle.ca_replica.proofs.marks.widen.Goals as goal

pub places-init : goal.places-init
places-init c = (λ n k e. e, λ n k e. e)

pub places-preserved : goal.places-preserved
places-preserved c =
    let old = c.places.marks.items in
    let is = c.in_ok-push.ensures.items in (
      λ n k e. subst (λ xs. IsMarked k (slice_get xs n)) (sym is) (marked_on old Free n k (c.places.invariant.0 n k e)),
      λ n k e. c.places.invariant.1 n k (none_more old n k (ap (λ xs. slice_get xs n) (sym is) ∙ e)),
    )

pub returns-in_err-push-clause-kept : goal.returns-in_err-push-clause-kept
returns-in_err-push-clause-kept c = λ n k e. subst (λ xs. IsMarked k (slice_get xs n)) (sym c.in_err-push.ensures.items) (c.places.invariant.0 n k e)

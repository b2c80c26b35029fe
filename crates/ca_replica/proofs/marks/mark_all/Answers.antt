use Rattle.std.proofs.Common.{◌<◌, ◌≤◌, length, sym, subst, arith}
use Rattle.std.proofs.lemmas.Result.{err_from_is_err_and}
use Rattle.ca_replica.proofs.InPlace.{MarkedSoFar, all_marked, marked_more_at, none_marked}
use Rattle.ca_replica.proofs.marks.mark_all.Goals as goal

pub fields-init : goal.fields-init
fields-init c = subst (λ xs. MarkedSoFar c.args.fields.now 0 xs) (sym c.new-marks.ensures.items) (none_marked c.args.fields.now)

pub fields-preserved : goal.fields-preserved
fields-preserved c =
    let fs = c.args.fields.now in
    let i = c.fields.field-index in
    let lt : i < length fs = omega arith in
    let m = c.in_ok-mark_field.ensures in
    marked_more_at fs i _ c.fields.marks.items c.mark_field.new.marks.items lt m.kept m.only m.marked c.fields.invariant

pub returns-in_err-mark_field : goal.returns-in_err-mark_field
returns-in_err-mark_field c = let p = err_from_is_err_and c.from_residual.result c.from_residual.ensures.1 in rw p.1 tt

pub returns : goal.returns
returns c =
    let fs = c.args.fields.now in
    let le : length fs ≤ c.fields.field-index = omega arith in
    all_marked fs c.fields.field-index c.fields.marks.items le c.fields.invariant

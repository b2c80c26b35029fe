use Rattle.std.proofs.Common.{◌≡◌, Some, inl, sym, ap, subst, refl, ◌∙◌}
use Rattle.std.specs.Prelude.{slice_get}
use Rattle.ca_model.proofs.Stores.{found}
use Rattle.ca_beside.proofs.Present.{set_at}
use Rattle.ca_replica.specs.declared.marks.FieldMark.TheVariants.{Free, Of, Several}
use Rattle.ca_replica.specs.Calls.{IsMarked}
use Rattle.ca_replica.proofs.InPlace.{set_kept, set_only}
use Rattle.ca_replica.proofs.marks.mark_at.Goals as goal

pub returns-in-Free : goal.returns-in-Free
returns-in-Free c =
    let xs = c.args.marks.now.items in
    let place = c.args.place in
    let here : slice_get xs place ≡ Some Free = found xs place c.index-there.result.now c.requires c.index-there.ensures ∙ ap Some c.in-Free.is in
    record {
      kept = λ n k e. set_kept xs place n c.args.class k here e;
      only = λ n k e. set_only xs place n c.args.class k e;
      marked = subst (IsMarked c.args.class) (sym (set_at xs place (Of c.args.class) c.requires)) refl;
    }

pub mark_more-requires : goal.mark_more-requires
mark_more-requires c = record { within = c.requires; there = found c.args.marks.now.items c.args.place c.index-there.result.now c.requires c.index-there.ensures ∙ ap Some c.in-Of.is }

pub returns-in-Of : goal.returns-in-Of
returns-in-Of c =
    let m = c.mark_more.ensures in
    record { kept = m.kept; only = λ n k e. inl (m.only n k e); marked = m.marked }

pub returns-in-Several : goal.returns-in-Several
returns-in-Several c =
    let xs = c.args.marks.now.items in
    let here : slice_get xs c.args.place ≡ Some Several = found xs c.args.place c.index-there.result.now c.requires c.index-there.ensures ∙ ap Some c.in-Several.is in
    record { kept = λ n k e. e; only = λ n k e. inl e; marked = subst (IsMarked c.args.class) (sym here) tt }

use Rattle.std.proofs.Common.{sym, subst}
use Rattle.ca_beside.proofs.Present.{set_at}
use Rattle.ca_replica.specs.declared.marks.FieldMark.TheVariants.{Several}
use Rattle.ca_replica.specs.Calls.{IsMarked}
use Rattle.ca_replica.proofs.InPlace.{one_class, several_kept, several_only}
use Rattle.ca_replica.proofs.marks.mark_more.Goals as goal

pub returns-then-one-class : goal.returns-then-one-class
returns-then-one-class c =
    let xs = c.args.marks.now.items in
    record {
      kept = λ n k e. several_kept xs c.args.place n k e;
      only = λ n k e. several_only xs c.args.place n k e;
      marked = subst (IsMarked c.args.class) (sym (set_at xs c.args.place Several c.requires.within)) tt;
    }

pub returns-else-one-class : goal.returns-else-one-class
returns-else-one-class c = record {
  kept = λ n k e. e;
  only = λ n k e. e;
  marked = subst (IsMarked c.args.class) (sym c.requires.there) (sym (one_class c.args.one c.args.class c.if-one-class.false));
}

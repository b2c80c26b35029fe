use Rattle.std.proofs.Common.{◌≡◌, IfOk, ap, refl, subst}
use Rattle.ca_tree.specs.View.{class_view}
use Rattle.ca_resolve.proofs.Tables.{one_more_seen, all_seen}
use Rattle.ca_resolve.proofs.Index.{names_of}
use Rattle.ca_resolve.proofs.classes.names_of.Goals as goal

pub loop-class-preserved : goal.loop-class-preserved
loop-class-preserved c =
    one_more_seen class_view (λ t. t.name) (λ n. n.now) c.args.classes.now c.loop-class.class-index c.class-item.result c.loop-class.all.items _ _
    c.loop-class-test.true c.class-item.is refl (rw c.in_ok-push.was at c.push.ensures.items) c.loop-class.invariant

pub loop-class-init : goal.loop-class-init
loop-class-init c = ap names_of c.new-all.ensures.items

pub returns : goal.returns
returns c =
    subst (λ ns. IfOk c.new.result (λ names. names ≡ ns))
    (all_seen class_view (λ t. t.name) (λ n. n.now) c.args.classes.now c.loop-class.class-index c.loop-class.all.items c.loop-class-test.false c.loop-class.invariant) c.new.ensures

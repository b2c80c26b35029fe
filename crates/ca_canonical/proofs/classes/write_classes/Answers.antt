use Rattle.std.proofs.Common.{map, arith}
use Rattle.ca_tree.specs.View.{class_view}
use Rattle.ca_canonical.specs.Annotated.{marked_classes}
use Rattle.ca_canonical.proofs.Writing.{all_left, none_left}
use Rattle.ca_canonical.proofs.Lists.{class_written, no_class_left}
use Rattle.ca_canonical.proofs.classes.write_classes.Goals as goal

pub classes-init : goal.classes-init
classes-init g c = all_left c.args.pen.now (marked_classes (g.M.Marks.marking c.args.marks.now) (map class_view c.args.classes.now))

pub classes-preserved : goal.classes-preserved
classes-preserved g c = class_written (g.M.Marks.marking c.args.marks.now) c.args.classes.now c.classes.class-index c.class-item.result (omega arith) c.class-item.is c.classes.invariant c.write_class.ensures

pub returns : goal.returns
returns g c = none_left c.classes.invariant (no_class_left (g.M.Marks.marking c.args.marks.now) c.args.classes.now c.classes.class-index (omega arith))

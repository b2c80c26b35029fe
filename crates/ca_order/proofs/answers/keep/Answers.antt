use Rattle.ca_forms.proofs.Told.{on_ok}
use Rattle.ca_norm.specs.Terms.{shape}
use Rattle.ca_order.proofs.Seen.{known_more}
use Rattle.ca_order.proofs.answers.keep.Goals as goal

pub returns-then-not-keeps : goal.returns-then-not-keeps
returns-then-not-keeps c = λ same known. known

pub returns : goal.returns
returns c =
    on_ok c.add.result _ _
    (λ put same known. known_more c.args.points.now (shape c.args.first.now) (shape c.args.second.now) c.args.ranks.now c.class_of.result c.args.seen.now.items c.add.new.items.items put c.class_of.ensures.ranks c.class_of.ensures.asked same c.requires known)
    c.add.ensures

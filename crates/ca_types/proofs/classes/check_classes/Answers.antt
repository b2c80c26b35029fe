use Rattle.std.proofs.Common.{ap, map, sym, subst, ◌∙◌}
use Rattle.ca_tree.specs.View.{class_view}
use Rattle.ca_resolve.specs.Judged.{Answers, fine}
use Rattle.ca_resolve.specs.View.{classes_view}
use Rattle.ca_types.specs.Classes.{no_parts, behind_class, first_class, judge_class}
use Rattle.ca_types.specs.clauses.Adding.{add_class}
use Rattle.ca_types.specs.clauses.View.{class_env, parts_view}
use Rattle.ca_types.proofs.Gathered.{classes_gathered}
use Rattle.ca_types.proofs.Lists.{next_item, rest_step, rest_end, none_left}
use Rattle.ca_types.proofs.classes.check_classes.Goals as goal

pub loop-class-preserved : goal.loop-class-preserved
loop-class-preserved c =
    let s = class_env c.loop-class.walk in
    let t = class_view c.class-item.result in
    let front = c.loop-class.invariant.0 in (
      add_class s front t,
      c.with_class-answers.ensures front (judge_class s t) c.loop-class.invariant.1 c.in_ok-answer.ensures.judged,
      rest_step behind_class add_class (first_class (classes_view c.args.table.now)) s (class_env c.check_class.new.walk) (fine no_parts) front (map class_view c.args.classes.now) t _ _
          (next_item class_view c.args.classes.now c.loop-class.class-index c.class-item.result c.loop-class-test.true c.class-item.is)
          c.in_ok-answer.ensures.behind c.loop-class.invariant.2,
    )

pub returns-clause-judged : goal.returns-clause-judged
returns-clause-judged c =
    let e = rest_end behind_class add_class (first_class (classes_view c.args.table.now)) (class_env c.loop-class.walk) (fine no_parts) c.loop-class.invariant.0 (map class_view c.args.classes.now) _ (none_left class_view c.args.classes.now c.loop-class.class-index c.loop-class-test.false) c.loop-class.invariant.2 in
    subst (λ j. Answers parts_view c.loop-class.answers j) (sym (classes_gathered (first_class (classes_view c.args.table.now)) (map class_view c.args.classes.now) ∙ e.0)) c.loop-class.invariant.1

pub returns-clause-loops : goal.returns-clause-loops
returns-clause-loops c =
    let e = rest_end behind_class add_class (first_class (classes_view c.args.table.now)) (class_env c.loop-class.walk) (fine no_parts) c.loop-class.invariant.0 (map class_view c.args.classes.now) _ (none_left class_view c.args.classes.now c.loop-class.class-index c.loop-class-test.false) c.loop-class.invariant.2 in
    ap (λ z. z.loops) (sym e.1)

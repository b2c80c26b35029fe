use Rattle.std.proofs.Common.{Result, ap, subst, sym}
use Rattle.ca_tree.specs.View.{member_view, method_view as tree_method}
use Rattle.ca_program.specs.declared.program.FieldInfo.{FieldInfo}
use Rattle.ca_program.specs.declared.program.Method.{Method}
use Rattle.ca_program.specs.View.{method_view}
use Rattle.ca_resolve.specs.declared.errors.CheckError.{CheckError}
use Rattle.ca_resolve.specs.Judged.{Answers}
use Rattle.ca_types.specs.Classes.{judge_field_member, judge_method}
use Rattle.ca_types.specs.clauses.Adding.{add_member}
use Rattle.ca_types.specs.clauses.View.{member_env, members_view}
use Rattle.ca_types.proofs.Answering.{if_made}
use Rattle.ca_types.proofs.classes.check_member.Goals as goal

pub returns-in_ok-front-in-Field-clause-judged : goal.returns-in_ok-front-in-Field-clause-judged
returns-in_ok-front-in-Field-clause-judged c = λ j x.
    let s = member_env c.args.standing.now in
    let k = judge_field_member s c.in-Field.field in
    let kept = c.in_ok-front-in-Field.ensures in
    subst (λ m. Answers members_view c.with_field.result (add_member s j m)) (sym (ap member_view c.in-Field.is))
    (c.with_field.ensures j k (subst (λ z. Answers members_view z j) (sym kept.value) x)
    (if_made (λ (z : Result FieldInfo CheckError). Answers (λ f. f) z k) c.next_field.result c.in_ok-front-in-Field.field kept.made c.next_field.ensures.judged))

pub returns-in_ok-front-in-Method-clause-judged : goal.returns-in_ok-front-in-Method-clause-judged
returns-in_ok-front-in-Method-clause-judged c = λ j x.
    let s = member_env c.args.standing.now in
    let k = judge_method s (tree_method c.in-Method.method) in
    let kept = c.in_ok-front-in-Method.ensures in
    subst (λ m. Answers members_view c.with_method.result (add_member s j m)) (sym (ap member_view c.in-Method.is))
    (c.with_method.ensures j k (subst (λ z. Answers members_view z j) (sym kept.value) x)
    (if_made (λ (z : Result Method CheckError). Answers method_view z k) c.next_method.result c.in_ok-front-in-Method.method kept.made c.next_method.ensures.judged))

use Rattle.std.proofs.Common.{◌≡◌, Option, Some, Vec, Global, subst, ◌∙◌, ap}
use Rattle.ca_tree.specs.View.{method_view as tree_method, statements_view}
use Rattle.ca_program.specs.declared.program.Stmt.{Stmt}
use Rattle.ca_program.specs.declared.program.ValueType.{ValueType}
use Rattle.ca_resolve.specs.Judged.{Answers, both}
use Rattle.ca_types.specs.Statements.{behind_all, judge_statements}
use Rattle.ca_types.specs.Classes.{beginning, behind_parameters, judge_parameters, judge_result_type, method_begin, body_begin, method_end}
use Rattle.ca_types.specs.clauses.View.{env_view, member_env, all_view}
use Rattle.ca_types.proofs.Answering.{joined}
use Rattle.ca_types.proofs.members.check_method.Goals as goal

pub returns-clause-judged : goal.returns-clause-judged
returns-clause-judged c =
    let s = member_env c.args.standing.now in
    let m = tree_method c.args.method.now in
    let begun : env_view c.new-walk.result ≡ method_begin s m = c.new-walk.ensures ∙ ap (λ z. beginning s.classes (Some s.class) s.loops z) c.result_ty-ty.ensures in
    let entered : env_view c.check_parameters.new.walk ≡ body_begin s m =
    c.in_ok-params.ensures.behind ∙ (ap (λ z. behind_parameters z c.deref.result.now) begun ∙ ap (λ ps. behind_parameters (method_begin s m) ps) c.deref.ensures.value) in
    let left : env_view c.check_statements.new.walk ≡ method_end s m =
    c.in_ok-stmts.ensures.behind ∙ (ap (λ z. behind_all z (statements_view c.deref-2.result.now)) entered ∙ ap (λ ss. behind_all (body_begin s m) (statements_view ss)) c.deref-2.ensures.value) in
    let i = judge_result_type s.classes.names m.result in
    let j = judge_parameters (method_begin s m) m.params in
    let k = judge_statements (body_begin s m) m.body in
    let params : Answers (λ (u : Unit {0}). u) c.in_ok-params.params j =
    subst (λ ps. Answers (λ (u : Unit {0}). u) c.in_ok-params.params (judge_parameters (method_begin s m) ps)) c.deref.ensures.value
    (subst (λ z. Answers (λ (u : Unit {0}). u) c.in_ok-params.params (judge_parameters z c.deref.result.now)) begun c.in_ok-params.ensures.judged) in
    let stmts : Answers all_view c.in_ok-stmts.stmts k =
    subst (λ ss. Answers all_view c.in_ok-stmts.stmts (judge_statements (body_begin s m) (statements_view ss))) c.deref-2.ensures.value
    (subst (λ z. Answers all_view c.in_ok-stmts.stmts (judge_statements z (statements_view c.deref-2.result.now))) entered c.in_ok-stmts.ensures.judged) in
    let inner = joined (λ (u : Unit {0}). u) all_view c.in_ok-params.params c.in_ok-stmts.stmts c.both.result j k c.both.ensures params stmts in
    let all = joined (λ (t : Option ValueType). t) (λ (p : Unit {0} × Vec Stmt Global). (p.0, all_view p.1)) c.check_result_type-written.result c.both.result c.both-parts.result i (both j k) c.both-parts.ensures c.check_result_type-written.ensures inner in
    c.method_of-answer.ensures (both i (both j k)) all (ap (λ z. z.locals) left)

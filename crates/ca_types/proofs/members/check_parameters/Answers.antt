use Rattle.std.proofs.Common.{◌∙◌, ap, refl, sym, subst}
use Rattle.std.proofs.lemmas.List.{drop_all}
use Rattle.ca_lists.proofs.Places.{item_and_rest}
use Rattle.ca_resolve.specs.Judged.{Answers, fine}
use Rattle.ca_types.specs.Statements.{declare}
use Rattle.ca_types.specs.Classes.{behind_parameter, judge_parameter}
use Rattle.ca_types.specs.clauses.Adding.{add_parameter}
use Rattle.ca_types.specs.clauses.View.{env_view}
use Rattle.ca_types.proofs.Gathered.{parameters_gathered}
use Rattle.ca_types.proofs.Lists.{rest_start, rest_step, rest_end}
use Rattle.ca_types.proofs.members.check_parameters.Goals as goal

pub loop-param-init : goal.loop-param-init
loop-param-init c = (fine tt, refl, rest_start behind_parameter add_parameter (env_view c.args.walk.now) (fine tt) c.args.params.now)

pub loop-param-preserved : goal.loop-param-preserved
loop-param-preserved c =
    let s = env_view c.loop-param.walk in
    let p = c.param-item.result in
    let front = c.loop-param.invariant.0 in (
      add_parameter s front p,
      c.and_also-answers.ensures front (judge_parameter s p) c.loop-param.invariant.1 c.check_parameter-answer.ensures,
      rest_step behind_parameter add_parameter (env_view c.args.walk.now) s (env_view c.declare.new.self) (fine tt) front c.args.params.now p _ _
          (item_and_rest c.args.params.now c.loop-param.param-index p c.loop-param-test.true c.param-item.is)
          (c.in_ok-declare.ensures ∙ ap (λ z. declare s z p.name) c.ty_of-ty.ensures) c.loop-param.invariant.2,
    )

pub returns-clause-judged : goal.returns-clause-judged
returns-clause-judged c =
    let e = rest_end behind_parameter add_parameter (env_view c.args.walk.now) (env_view c.loop-param.walk) (fine tt) c.loop-param.invariant.0 c.args.params.now _ (drop_all c.loop-param.param-index c.args.params.now c.loop-param-test.false) c.loop-param.invariant.2 in
    subst (λ j. Answers (λ u. u) c.loop-param.answers j) (sym (parameters_gathered (env_view c.args.walk.now) c.args.params.now ∙ e.0)) c.loop-param.invariant.1

pub returns-clause-behind : goal.returns-clause-behind
returns-clause-behind c =
    let e = rest_end behind_parameter add_parameter (env_view c.args.walk.now) (env_view c.loop-param.walk) (fine tt) c.loop-param.invariant.0 c.args.params.now _ (drop_all c.loop-param.param-index c.args.params.now c.loop-param-test.false) c.loop-param.invariant.2 in
    sym e.1

use Rattle.std.proofs.Common.{ap, ◌∙◌, sym}
use Rattle.ca_tree.specs.View.{expression_view}
use Rattle.ca_resolve.specs.Judged.{unless, beside}
use Rattle.ca_resolve.specs.Scopes.{Target, Ty}
use Rattle.ca_resolve.specs.Values.{judge_target, place_of}
use Rattle.ca_resolve.specs.View.{target_view}
use Rattle.ca_types.specs.Rules.{compound_agrees, writes_no_field}
use Rattle.ca_types.specs.clauses.View.{env_view}
use Rattle.ca_types.proofs.Answering.{pair_breaks, pair_stands, own_tells, within_ok}
use Rattle.ca_resolve.proofs.InMemory.{place_is}
use Rattle.ca_types.proofs.puts.check_put_target.Goals as goal

pub returns-in-Ok : goal.returns-in-Ok
returns-in-Ok c =
    let s = env_view c.args.walk.now in
    let e = expression_view c.args.e.now in
    let at = c.args.e.now.at in
    let v : Target × Ty = target_view c.in_ok-target.target in
    within_ok (judge_target s.scope e) (λ (t : Target × Ty). beside (compound_agrees c.args.op t.1 (place_of e)) (unless (writes_no_field s.result t.0 (place_of e)) t)) v
    (ap (λ z. judge_target z e) (sym c.scope.ensures) ∙ c.in_ok-target.ensures)
    ∙ (rw (place_is c.args.e.now)
    (pair_stands c.compound_agrees-compound.result c.writes_no_field-written.result c.both.result c.in-Ok.field-0 (compound_agrees c.args.op v.1 at) (writes_no_field s.result v.0 at) v
    c.both.ensures c.compound_agrees-compound.ensures c.writes_no_field-written.ensures c.in-Ok.is))

pub returns-in-Err : goal.returns-in-Err
returns-in-Err c =
    let s = env_view c.args.walk.now in
    let e = expression_view c.args.e.now in
    let at = c.args.e.now.at in
    let v : Target × Ty = target_view c.in_ok-target.target in
    own_tells c.in-Err.e (judge_target s.scope e) (λ (t : Target × Ty). beside (compound_agrees c.args.op t.1 (place_of e)) (unless (writes_no_field s.result t.0 (place_of e)) t)) v
    (ap (λ z. judge_target z e) (sym c.scope.ensures) ∙ c.in_ok-target.ensures)
    (rw (place_is c.args.e.now)
    (pair_breaks c.compound_agrees-compound.result c.writes_no_field-written.result c.both.result c.in-Err.e (compound_agrees c.args.op v.1 at) (writes_no_field s.result v.0 at) v
    c.both.ensures c.compound_agrees-compound.ensures c.writes_no_field-written.ensures c.in-Err.is))

use Rattle.std.proofs.Common.{◌≡◌, List, ℕ, Option, Vec, Global, is_some, length, refl, sym, subst, ◌∙◌, ap}
use Rattle.std.proofs.lemmas.Result.{err_from_is_err_and}
use Rattle.ca_tree.specs.View.{method_view as tree_method}
use Rattle.ca_program.specs.declared.program.ClassId.{ClassId}
use Rattle.ca_program.specs.declared.program.Body.{Body}
use Rattle.ca_program.specs.declared.program.Method.{Method}
use Rattle.ca_program.specs.declared.program.Stmt.{Stmt}
use Rattle.ca_program.specs.declared.program.ValueType.{ValueType}
use Rattle.ca_program.specs.Plain as program
use Rattle.ca_program.specs.View.{method_view}
use Rattle.ca_resolve.specs.Judged.{Answers, fine, beside, unless}
use Rattle.ca_types.specs.Rules.{member_once, ends_with_return}
use Rattle.ca_types.specs.Classes.{method_limit, method_of}
use Rattle.ca_types.specs.clauses.View.{member_env, all_view, method_parts_view}
use Rattle.ca_types.proofs.Answering.{own_tells, within_ok, besides, beside_exit, pair_breaks, pair_stands, made_so}
use Rattle.ca_types.proofs.Nodes.{statements_are}
use Rattle.ca_types.proofs.members.method_of.Goals as goal

abbrev Parts : Type 0
Parts = Option ValueType × (Unit {0} × List program.Statement)

-- equal parts make one method
made : (class : ClassId) (name : List ℕ) (params : ℕ) (locals locals' : List ValueType) (ss ss' : program.Statements) (result : Option ValueType)
    → locals ≡ locals' → ss ≡ ss'
    → (let one : program.PlainMethod = record { class = class; name = name; params = params; body = record { locals = locals; statements = ss }; result = result } in one)
    ≡ (let other : program.PlainMethod = record { class = class; name = name; params = params; body = record { locals = locals'; statements = ss' }; result = result } in other)
made class name params locals locals' ss ss' result t u = rw (t, u) refl

pub returns-in_err-result_type : goal.returns-in_err-result_type
returns-in_err-result_type c = λ j h l.
    let s = member_env c.args.standing.now in
    let m = tree_method c.args.method.now in
    let limit = method_limit s.numbers m.result m.at in
    let once = member_once s.names s.number m.name m.at in
    let ends = ends_with_return (is_some m.result) m.body m.at in
    let give : Parts → program.PlainMethod = λ q. method_of s m q.0 q.1.1 in
    let err = c.in_err-result_type.field-0.0 in
    let p = err_from_is_err_and c.from_residual.result c.from_residual.ensures.1 in
    rw (p.1, p.2)
    (beside_exit method_parts_view c.method_limit-limit.result c.args.parts c.both.result err limit j _ c.in_err-result_type.was c.both.ensures c.method_limit-limit.ensures h)

pub returns-in-Err : goal.returns-in-Err
returns-in-Err c = λ j h l.
    let s = member_env c.args.standing.now in
    let m = tree_method c.args.method.now in
    let limit = method_limit s.numbers m.result m.at in
    let once = member_once s.names s.number m.name m.at in
    let ends = ends_with_return (is_some m.result) m.body m.at in
    let give : Parts → program.PlainMethod = λ q. method_of s m q.0 q.1.1 in
    let q : Parts = (c.in_ok-result_type.result_type, (tt, all_view c.in_ok-result_type.stmts)) in
    let all = besides method_parts_view c.method_limit-limit.result c.args.parts c.both.result limit j c.both.ensures c.method_limit-limit.ensures h in
    let known : beside limit j ≡ fine q = subst (λ z. Answers (λ (p : Unit {0} × (Option ValueType × (Unit {0} × Vec Stmt Global))). method_parts_view p.1) z (beside limit j)) c.in_ok-result_type.was all in
    own_tells c.in-Err.e (beside limit j) (λ (q : Parts). beside once (unless ends (give q))) q known
    (pair_breaks c.member_once-again.result c.ends_with_return-ends.result c.both-2.result c.in-Err.e once ends (give q) c.both-2.ensures c.member_once-again.ensures c.ends_with_return-ends.ensures c.in-Err.is)

pub returns-in-Ok : goal.returns-in-Ok
returns-in-Ok c = λ j h l.
    let s = member_env c.args.standing.now in
    let m = tree_method c.args.method.now in
    let limit = method_limit s.numbers m.result m.at in
    let once = member_once s.names s.number m.name m.at in
    let ends = ends_with_return (is_some m.result) m.body m.at in
    let give : Parts → program.PlainMethod = λ q. method_of s m q.0 q.1.1 in
    let q : Parts = (c.in_ok-result_type.result_type, (tt, all_view c.in_ok-result_type.stmts)) in
    let all = besides method_parts_view c.method_limit-limit.result c.args.parts c.both.result limit j c.both.ensures c.method_limit-limit.ensures h in
    let known : beside limit j ≡ fine q = subst (λ z. Answers (λ (p : Unit {0} × (Option ValueType × (Unit {0} × Vec Stmt Global))). method_parts_view p.1) z (beside limit j)) c.in_ok-result_type.was all in
    let body : Body = record { locals = c.args.locals; stmts = c.in_ok-result_type.stmts } in
    let whole : Method = record { class = s.class; name = m.name; params = length m.params; body = body; result = c.in_ok-result_type.result_type } in
    made_so method_view c.method_with.result _ whole
    (within_ok (beside limit j) (λ (q : Parts). beside once (unless ends (give q))) q known
    ∙ (pair_stands c.member_once-again.result c.ends_with_return-ends.result c.both-2.result c.in-Ok.field-0 once ends (give q) c.both-2.ensures c.member_once-again.ensures c.ends_with_return-ends.ensures c.in-Ok.is
    ∙ ap (λ (z : program.PlainMethod). fine z)
    (made s.class m.name (length m.params) _ c.args.locals.items _ _ c.in_ok-result_type.result_type (sym l) (statements_are c.in_ok-result_type.stmts.items))))
    c.method_with.ensures.made c.method_with.ensures.memory

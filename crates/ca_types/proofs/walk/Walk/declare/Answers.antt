use Rattle.std.proofs.Common.{◌≡◌, List, [], ◌∷◌, ◌++◌, length, ap, ◌∙◌}
use Rattle.ca_program.specs.declared.program.LocalId.{LocalId}
use Rattle.ca_program.specs.declared.program.ValueType.{ValueType}
use Rattle.ca_resolve.specs.LocalView.{ty_view}
use Rattle.ca_resolve.specs.Scopes.{VisibleLocal}
use Rattle.ca_types.specs.Statements.{Env, type_of}
use Rattle.ca_types.specs.clauses.View.{env_view}
use Rattle.ca_types.proofs.Answering.{on_ok}
use Rattle.ca_types.proofs.walk.Walk.declare.Goals as goal

pub returns : goal.returns
returns c =
    let s = env_view c.args.self.now in
    let ty = ty_view c.args.ty in
    let local : LocalId → VisibleLocal = λ i. record { name = c.args.name.now; id = i; ty = ty } in
    let next : LocalId = record { 0 = length s.locals } in
    let give : List VisibleLocal → List ValueType → Env = λ ls ts. record { scope = record { classes = s.scope.classes; class = s.scope.class; locals = ls }; first = s.first; locals = ts; loops = s.loops; result = s.result } in
    let visible : c.push.new.self ≡ local next ∷ s.scope.locals = c.in_ok-push.ensures ∙ ap (λ i. local i ∷ s.scope.locals) c.in_ok-id.ensures in
    on_ok c.add.result (λ (e : c.add.new.items.items ≡ s.locals ++ c.type_of.result ∷ []).
    ap (λ ls. give ls c.add.new.items.items) visible ∙ ap (give (local next ∷ s.scope.locals)) (e ∙ ap (λ t. s.locals ++ t ∷ []) c.type_of.ensures)) c.add.ensures

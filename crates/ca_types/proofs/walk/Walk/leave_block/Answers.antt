use Rattle.std.proofs.Common.{List, ◌-◌, drop, ap, ◌∙◌}
use Rattle.ca_resolve.specs.Scopes.{VisibleLocal}
use Rattle.ca_types.specs.Statements.{Env}
use Rattle.ca_types.specs.clauses.View.{env_view}
use Rattle.ca_types.proofs.walk.Walk.leave_block.Goals as goal

pub returns : goal.returns
returns c =
    let s = env_view c.args.self.now in
    let outer = c.args.outer in
    let give : List VisibleLocal → Env = λ ls. record { scope = record { classes = s.scope.classes; class = s.scope.class; locals = ls }; first = outer.first; locals = s.locals; loops = s.loops; result = s.result } in
    ap give (c.leave.ensures ∙ ap (λ n. drop n s.scope.locals) (c.saturating_sub-declared.ensures ∙ ap (λ n. n - outer.visible) c.len.ensures))

use Rattle.std.proofs.Common.{map, refl, sym, ◌∙◌}
use Rattle.ca_program.specs.View.{program_view, statement_view}
use Rattle.ca_program.specs.Kinds.{kind_type, kinds_in}
use Rattle.ca_code.proofs.Laying.{then_put}
use Rattle.ca_code_laws.specs.Heeding.{begin_at}
use Rattle.ca_serial.proofs.Laid.{handed_is, unhanded_is}
use Rattle.ca_serial.proofs.Sites.{marked_is}
use Rattle.ca_serial.proofs.heeding.HeedingBodiesBodies.hand.Goals as goal

pub returns-then-not-is_marked : goal.returns-then-not-is_marked
returns-then-not-is_marked c =
    let ks = kinds_in (program_view c.args.scope.now.program.now) c.args.scope.now.locals.now in
    let s = statement_view c.args.s.now in
    unhanded_is c.args.self.now.marked ks (map kind_type c.args.scope.now.locals.now) c.args.line c.args.top s _ _ (sym (marked_is c.args.self.now.marked.loops s) ∙ (sym c.is_marked.ensures ∙ c.if-not-is_marked.true)) refl

pub returns : goal.returns
returns c =
    let ks = kinds_in (program_view c.args.scope.now.program.now) c.args.scope.now.locals.now in
    let κs = map kind_type c.args.scope.now.locals.now in
    let s = statement_view c.args.s.now in
    handed_is c.args.self.now.marked ks κs c.args.line c.args.top s _ _ (sym (marked_is c.args.self.now.marked.loops s) ∙ (sym c.is_marked.ensures ∙ c.if-not-is_marked.false))
    (then_put (λ n. begin_at c.args.line s κs n) c.push.ensures c.statement.ensures c.here-place.ensures.value c.behind-past.ensures.value c.put.ensures)

use Rattle.std.proofs.Common.{drop}
use Rattle.ca_program.specs.View.{program_view}
use Rattle.ca_sections.proofs.Testing.{AllFit}
use Rattle.ca_sections.proofs.fits.Body.+expression.Given as goal

abbrev pub invariant-expressions-expressions : goal.invariant-expressions-expressions
invariant-expressions-expressions l =
    let p = program_view l.self.scope.program.now in
    let tys = l.self.scope.locals.now in
    AllFit p tys (drop l.e-index l.es) → AllFit p tys l.es

use Rattle.ca_program.specs.Kinds.{kinds_in, param_kind}
use Rattle.ca_program.specs.View.{method_view, program_view}
use Rattle.std.proofs.Common.{Some}
use Rattle.ca_sections.proofs.Testing.{AreSoFar}
use Rattle.ca_sections.proofs.fits.Body.fit_params.Given as goal

abbrev pub invariant-arguments : goal.invariant-arguments
invariant-arguments l =
    AreSoFar (kinds_in (program_view l.self.scope.program.now) l.self.scope.locals.now) (λ i. param_kind (Some (method_view l.m)) i) l.es l.i

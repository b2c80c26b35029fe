use Rattle.ca_program.specs.Kinds.{kinds_in}
use Rattle.ca_program.specs.View.{expression_view, program_view}
use Rattle.ca_sections.specs.Fitting.{Finds, Reads}
use Rattle.ca_sections.proofs.Testing.{as_well, both_find}
use Rattle.ca_sections.proofs.fits.Body.put_local.Goals as goal

pub returns : goal.returns
returns c =
    let p = program_view c.args.self.now.scope.program.now in
    let tys = c.args.self.now.scope.locals.now in
    let e : Finds c.reads.result (Reads p tys ((kinds_in p tys).locals c.args.l.0) (expression_view c.args.e.now)) = rw c.local.ensures at c.reads.ensures in
    as_well _ (both_find c.has.result c.reads.result c.has.ensures e) (λ h. (h.0, h.1.0, h.1.1)) (λ h. (h.0, (h.1, h.2)))

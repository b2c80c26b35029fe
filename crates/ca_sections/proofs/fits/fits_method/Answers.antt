use Rattle.std.proofs.Common.{arith}
use Rattle.ca_program.specs.Kinds.{kind_at}
use Rattle.ca_program.specs.View.{program_view, statements_view}
use Rattle.ca_code_laws.specs.Fitting.{FitStatements}
use Rattle.ca_sections.specs.Fitting.{Finds}
use Rattle.ca_sections.proofs.Testing.{as_well, refuted}
use Rattle.ca_sections.proofs.fits.fits_method.Goals as goal

pub returns-then-m-len : goal.returns-then-m-len
returns-then-m-len c = refuted (λ h. omega (arith, h.parameters))

pub returns : goal.returns
returns c =
    let m = c.args.m.now in
    let body : Finds c.statements.result (FitStatements (program_view c.args.program.now) m.body.locals.items c.args.acts (kind_at m.result) (statements_view m.body.stmts.items)) = rw (c.as_slice.ensures.value, c.result_of.ensures, c.as_slice-2.ensures.value) at c.statements.ensures in
    as_well _ body (λ h. record { parameters = omega arith; body = h }) (λ h. h.body)

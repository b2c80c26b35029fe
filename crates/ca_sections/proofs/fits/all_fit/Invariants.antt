use Rattle.std.proofs.Common.{drop}
use Rattle.ca_program.specs.View.{program_view}
use Rattle.ca_sections.proofs.Testing.{MethodsFit}
use Rattle.ca_sections.proofs.fits.all_fit.Given as goal

abbrev pub invariant-functions : goal.invariant-functions
invariant-functions l = MethodsFit (program_view l.program) (drop l.m-index l.program.functions.items) → MethodsFit (program_view l.program) l.program.functions.items

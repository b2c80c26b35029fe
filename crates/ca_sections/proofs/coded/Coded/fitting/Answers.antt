use Rattle.std.proofs.Common.{subst}
use Rattle.ca_program.specs.View.{program_view}
use Rattle.ca_code_laws.specs.Fitting.{FunctionsFit}
use Rattle.ca_sections.proofs.coded.Coded.fitting.Goals as goal

pub returns : goal.returns
returns c = subst (λ p. FunctionsFit (program_view p)) c.self.view_is c.self.invariant.functions

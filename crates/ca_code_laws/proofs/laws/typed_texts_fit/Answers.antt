use Rattle.ca_code_laws.proofs.TypedFit.{functions_fit, operation_fits, loop_fits}
use Rattle.ca_code_laws.proofs.laws.typed_texts_fit.Goals as goal

pub returns : goal.returns
returns c = record { functions = functions_fit; operations = operation_fits; loops = loop_fits }

use Rattle.ca_app.proofs.TracesVerified.{trace_is_verified}
use Rattle.ca_app.proofs.laws.traces_are_verified.Goals as goal

pub returns : goal.returns
returns c = trace_is_verified

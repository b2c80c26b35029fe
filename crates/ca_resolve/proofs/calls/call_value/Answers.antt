use Rattle.ca_resolve.specs.View.{invocation_view}
use Rattle.ca_resolve.proofs.Judging.{one_fine}
use Rattle.ca_resolve.proofs.CallValues.{call_value_is}
use Rattle.ca_resolve.proofs.calls.call_value.Goals as goal

pub returns-in_ok-receiver-in-Function : goal.returns-in_ok-receiver-in-Function
returns-in_ok-receiver-in-Function c = λ j h.
    call_value_is c.args.at c.in_ok-call.call c.in_ok-receiver-in-Function.receiver c.in-Function.id c.in-Function.ty j
    (one_fine invocation_view c.args.call c.in_ok-call.call j c.in_ok-call.was h) c.in-Function.is c.in_ok-receiver-in-Function.ensures.ok

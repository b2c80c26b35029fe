use Rattle.std.proofs.Common.{List, ap}
use Rattle.ca_program.specs.Plain.{this, invoke}
use Rattle.ca_program.specs.View.{expressions_view}
use Rattle.ca_program.specs.declared.program.Expr.{Expr}
use Rattle.ca_counters.specs.Counters.{add}
use Rattle.ca_counters.proofs.counters.call_add.Goals as goal

pub returns : goal.returns
returns c = ap (λ (es : List Expr). invoke 1 this add (expressions_view es)) c.new.ensures.items

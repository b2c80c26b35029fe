use Rattle.std.proofs.Common.{◌≡◌, List, map, ap, ◌∙◌}
use Rattle.ca_parallel.specs.declared.op.Op.{Op}
use Rattle.ca_parallel.specs.Calls.{invocations_of}
use Rattle.ca_logs.specs.Entries.{all_entries, ran_in}
use Rattle.ca_logs.specs.LogOrder.{order_of}
use Rattle.ca_round_order.specs.declared.order.Timed.{Timed}
use Rattle.ca_round_order.specs.Timed.{timed_of, op_in}
use Rattle.ca_round_order.proofs.Ordered.{sorted_is}
use Rattle.ca_round_order.proofs.Collecting.{calls_are}
use Rattle.ca_round_order.proofs.order.in_order.Goals as goal

pub returns : goal.returns
returns c =
    let order = order_of c.args.logs.now c.args.loose.now in
    let sorted : c.sort.new.timed.items ≡ map timed_of order = sorted_is (ran_in (all_entries c.args.logs.now c.args.loose.now)) c.in_ok-timed.timed.items c.sort.new.timed.items c.in_ok-timed.ensures c.in_ok-sort.ensures in
    ap (λ (os : List Op). invocations_of os) (c.in_ok-ops.ensures ∙ ap (λ (ts : List Timed). map op_in ts) sorted) ∙ calls_are order

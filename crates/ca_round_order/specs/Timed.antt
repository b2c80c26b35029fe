-- Operations with the clock and the object of their entries, and the order of clocks.
use Rattle.std.specs.Prelude.{Bool, List}
use Rattle.std.specs.Ordering.{is_lt, ordering_then, nat_cmp}
use Rattle.std.specs.List.Sorted.{IsSortedBy, IsStableBy}
use Rattle.ca_parallel.specs.declared.op.Op.{Op}
use Rattle.ca_logs.specs.declared.log.Entry.{Entry}
use Rattle.ca_round_order.specs.declared.order.Timed.{Timed}

abbrev pub timed_of : Entry → Timed
timed_of e = record { clock = e.clock; number = e.task.op.receiver; op = e.task.op }

abbrev pub op_in : Timed → Op
op_in t = t.op

abbrev pub earlier : Timed → Timed → Bool
earlier a b = is_lt (ordering_then (nat_cmp a.clock b.clock) (nat_cmp a.number b.number))

-- the same ones by clock and object, and those that tie in the order that they had
pub record IsOrdered (before after : List Timed) : Type 0 where
  pub sorted : IsSortedBy earlier after
  pub stable : IsStableBy earlier before after

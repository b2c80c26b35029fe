use Rattle.std.proofs.Common.{sym, ap, ◌∙◌, arith}
use Rattle.ca_model.specs.Slots.{start_slots}
use Rattle.ca_model.proofs.Stores.{starts_are, no_starts}
use Rattle.ca_model.proofs.heap.fields_of.Goals as goal

pub returns-then-class-len : goal.returns-then-class-len
returns-then-class-len c = ap start_slots c.as_slice.ensures.value ∙ sym (starts_are c.args.program.now c.args.class _ c.class.ensures)

pub returns-else-class-len : goal.returns-else-class-len
returns-else-class-len c = sym (no_starts c.args.program.now c.args.class (omega (arith, c.if-class-len.false, c.len.ensures)))

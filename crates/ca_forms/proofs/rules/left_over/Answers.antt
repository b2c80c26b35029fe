use Rattle.std.proofs.Common.{arith}
use Rattle.std.specs.Prelude.{int_rem}
use Rattle.ca_forms.proofs.Divisions.{word_of}
use Rattle.ca_forms.proofs.rules.left_over.Goals as goal

pub returns-else-n-eq0 : goal.returns-else-n-eq0
returns-else-n-eq0 c =
    word_of int_rem c.args.m c.args.n c.cast_signed.result c.wrapping_rem.result c.cast_unsigned.result (omega arith) c.ranges.n (record { sfits = c.cast_signed.type_inv }) (record { sfits = c.wrapping_rem.type_inv }) c.if-n-eq0.false c.cast_signed.ensures c.wrapping_rem.ensures c.cast_unsigned.ensures

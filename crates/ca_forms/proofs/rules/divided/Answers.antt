use Rattle.std.proofs.Common.{arith, w64}
use Rattle.std.specs.Int.{int_wrapping_div}
use Rattle.ca_forms.proofs.Divisions.{word_of}
use Rattle.ca_forms.proofs.rules.divided.Goals as goal

pub returns-else-n-eq0 : goal.returns-else-n-eq0
returns-else-n-eq0 c =
    word_of (int_wrapping_div w64) c.args.m c.args.n c.cast_signed.result c.wrapping_div.result c.cast_unsigned.result (omega arith) c.ranges.n (record { sfits = c.cast_signed.type_inv }) (record { sfits = c.wrapping_div.type_inv }) c.if-n-eq0.false c.cast_signed.ensures c.wrapping_div.ensures c.cast_unsigned.ensures

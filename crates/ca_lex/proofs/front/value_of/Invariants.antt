use Rattle.std.proofs.Common.{◌≡◌, ◌<◌, ◌^◌, take}
use Rattle.ca_lex.specs.Bytes.{value_of}
use Rattle.ca_lex.proofs.front.value_of.Given as goal

abbrev pub invariant-loop-b : goal.invariant-loop-b
invariant-loop-b l = record {
  small : l.n < 2 ^ 63;
  sofar : l.n ≡ value_of (take l.b-index l.digits);
}

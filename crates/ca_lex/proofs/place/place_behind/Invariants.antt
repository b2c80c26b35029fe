use Rattle.std.proofs.Common.{◌≡◌, ◌≤◌, ◌+◌, take}
use Rattle.ca_lex.specs.Places.{advance}
use Rattle.ca_lex.proofs.place.place_behind.Given as goal

abbrev pub invariant-loop-b : goal.invariant-loop-b
invariant-loop-b l = record {
  sofar : l.at ≡ advance l.fn.from (take l.b-index l.bytes);
  line : l.at.line ≤ l.fn.from.line + l.b-index;
  column : l.at.column ≤ l.fn.from.column + l.b-index;
  first : 1 ≤ l.at.column;
  first_from : 1 ≤ l.fn.from.column;
}

use Rattle.std.proofs.Common.{◌≤◌, ◌+◌, length}
use Rattle.ca_lex.specs.declared.TheConstants.{LONGEST_TEXT, MOST_TOKENS}
use Rattle.ca_lex.proofs.Readings.{Reading}
use Rattle.ca_lex.proofs.lex.Given as goal

abbrev pub invariant-pieces : goal.invariant-pieces
invariant-pieces l = record {
  few : length l.tokens.items ≤ MOST_TOKENS;
  line : l.at.line + length l.rest ≤ LONGEST_TEXT + 1;
  column : l.at.column + length l.rest ≤ LONGEST_TEXT + 1;
  first : 1 ≤ l.at.column;
  start : l.start + length l.rest ≤ LONGEST_TEXT;
  reading : Reading l.text l.tokens.items l.at l.start l.rest;
}

abbrev pub decreases-pieces : goal.decreases-pieces
decreases-pieces l = length l.rest

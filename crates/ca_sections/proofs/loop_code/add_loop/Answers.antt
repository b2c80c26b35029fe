use Rattle.std.proofs.Common.{◌≡◌, true, false}
use Rattle.ca_code.proofs.Laying.{then, stopped}
use Rattle.ca_sections.proofs.loop_code.add_loop.Goals as goal

pub returns-then-types-gt-MOST_LOCALS : goal.returns-then-types-gt-MOST_LOCALS
returns-then-types-gt-MOST_LOCALS c = record {
  adds = stopped c.fail.ensures;
  fits = λ ok. absurd (fails c.fail.ensures ok);
}
  where
    fails : {b : _} → b ≡ true → b ≡ false → ⊥
    fails e h = cc

pub returns : goal.returns
returns c = record {
  adds = then c.statement-2.ensures c.push.ensures;
  fits = λ ok. c.statement.ensures.0 c.if-not-statement.false;
}

use Rattle.std.proofs.Common.{◌∙◌, ◌++◌, ap, sym, arith, take, length, length-append}
use Rattle.ca_base.specs.Devices.{grown}
use Rattle.ca_base.proofs.Writing.{grown_twice, parts_on}
use Rattle.ca_base.proofs.write_whole.write_all.Goals as goal

pub loop-rest-preserved : goal.loop-rest-preserved
loop-rest-preserved g c =
    let before = c.loop-rest.invariant in
    let wrote = c.in_ok-count.ensures in
    let n = c.in_ok-count.count in
    let rest = c.loop-rest.rest.now in
    record {
      parts = (
        before.parts.0 ++ take n rest,
        parts_on c.args.piece.now before.parts.0 rest n before.parts.1,
        wrote.bytes ∙ ap (λ o. grown o (take n rest)) before.parts.2 ∙ grown_twice _ before.parts.0 (take n rest),
      );
      later = omega (arith, wrote.cause.later, before.later);
      untouched = λ nothing.
          let whole = ap length (sym nothing ∙ before.parts.1) in
          absurd (omega (arith, whole, length-append before.parts.0 rest, wrote.some.some, wrote.some.within));
    }

use Rattle.std.proofs.Common.{List, ap, arith}
use Rattle.std.proofs.lemmas.List.{drop_all}
use Rattle.ca_model.proofs.Stores.{found}
use Rattle.ca_logs.specs.declared.log.Entry.{Entry}
use Rattle.ca_logs.specs.Entries.{loose_entries}
use Rattle.ca_logs.specs.Laws.{steps_of}
use Rattle.ca_workers.proofs.Steps.{list_more}
use Rattle.ca_workers.proofs.reading.add_loose_steps.Goals as goal

pub returns-in-None : goal.returns-in-None
returns-in-None c =
    let more = list_more c.args.loose.now c.loop-at.at c.index-loose-at.result (found c.args.loose.now c.loop-at.at c.index-loose-at.result (omega (arith, c.loop-at-test.true)) c.index-loose-at.is) in
    let same = ap (λ (es : List Entry). steps_of es) c.index-loose-at.is in
    omega (arith, more, same, c.loop-at.invariant.all, c.in-None.ensures)

pub loop-at-preserved : goal.loop-at-preserved
loop-at-preserved c =
    let more = list_more c.args.loose.now c.loop-at.at c.index-loose-at.result (found c.args.loose.now c.loop-at.at c.index-loose-at.result (omega (arith, c.loop-at-test.true)) c.index-loose-at.is) in
    let same = ap (λ (es : List Entry). steps_of es) c.index-loose-at.is in
    record {
      few = c.in-Some.ensures.1;
      all = omega (arith, more, same, c.loop-at.invariant.all, c.in-Some.ensures.0);
    }

pub returns : goal.returns
returns c =
    let none = ap (λ ls. steps_of (loose_entries ls)) (drop_all c.loop-at.at c.args.loose.now (omega (arith, c.loop-at-test.false))) in
    (omega (arith, none, c.loop-at.invariant.all), c.loop-at.invariant.few)

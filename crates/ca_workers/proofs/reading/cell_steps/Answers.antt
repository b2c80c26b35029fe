use Rattle.std.proofs.Common.{ap, arith}
use Rattle.std.proofs.lemmas.List.{drop_all}
use Rattle.ca_model.proofs.Stores.{found}
use Rattle.ca_logs.specs.declared.log.CellLog.{CellLog}
use Rattle.ca_logs.specs.Entries.{entries_of}
use Rattle.ca_logs.specs.Laws.{steps_of}
use Rattle.ca_workers.proofs.Steps.{history_more}
use Rattle.ca_workers.proofs.reading.cell_steps.Goals as goal

pub returns-in-None : goal.returns-in-None
returns-in-None c =
    let more = history_more c.args.logs.now c.loop-at.at c.index-logs-at.result (found c.args.logs.now c.loop-at.at c.index-logs-at.result (omega (arith, c.loop-at-test.true)) c.index-logs-at.is) in
    let same = ap (λ (l : CellLog). steps_of l.entries) c.index-logs-at.is in
    omega (arith, more, same, c.loop-at.invariant.all, c.in-None.ensures)

pub loop-at-preserved : goal.loop-at-preserved
loop-at-preserved c =
    let more = history_more c.args.logs.now c.loop-at.at c.index-logs-at.result (found c.args.logs.now c.loop-at.at c.index-logs-at.result (omega (arith, c.loop-at-test.true)) c.index-logs-at.is) in
    let same = ap (λ (l : CellLog). steps_of l.entries) c.index-logs-at.is in
    record {
      few = c.in-Some.ensures.1;
      all = omega (arith, more, same, c.loop-at.invariant.all, c.in-Some.ensures.0);
    }

pub returns : goal.returns
returns c =
    let none = ap (λ ls. steps_of (entries_of ls)) (drop_all c.loop-at.at c.args.logs.now (omega (arith, c.loop-at-test.false))) in
    (omega (arith, none, c.loop-at.invariant.all), c.loop-at.invariant.few)

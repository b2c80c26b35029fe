use Rattle.std.proofs.Common.{List, length, sym, ap, subst, ◌∙◌}
use Rattle.ca_model.specs.declared.value.Object.{Object}
use Rattle.ca_logs.specs.declared.log.CellLog.{CellLog}
use Rattle.ca_beside.specs.Beside.{present}
use Rattle.ca_logs.specs.Touched.{AreBelow, pairs, put_logs}
use Rattle.ca_logs.proofs.Touching.{fresh_length}
use Rattle.ca_pool.proofs.spreading.spread.Goals as goal

pub put_all-requires-clause-alike : goal.put_all-requires-clause-alike
put_all-requires-clause-alike c = sym c.requires.alike

pub put_all-requires-clause-below : goal.put_all-requires-clause-below
put_all-requires-clause-below c =
    let now : List Object = present c.args.frozen.now c.args.beside.now in
    subst (AreBelow (pairs c.args.numbers.items c.args.logs.items)) (sym (ap length c.in_ok-all.ensures ∙ fresh_length now)) c.requires.below

pub returns : goal.returns
returns c = c.put_all.ensures ∙ ap (λ (ls : List CellLog). put_logs (pairs c.args.numbers.items c.args.logs.items) ls) c.in_ok-all.ensures

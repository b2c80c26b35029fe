use Rattle.std.proofs.Common.{◌++◌}
use Rattle.std.specs.Prelude.{decimal}
use Rattle.ca_model.specs.Lines.{joined}
use Rattle.ca_model.proofs.Lines.{adds_after, adds_more}
use Rattle.ca_plan.proofs.texts.add_counted.Goals as goal

pub returns-in-Err-clause-bytes : goal.returns-in-Err-clause-bytes
returns-in-Err-clause-bytes g c = adds_more _ _ _ _ _ (joined c.args.before.now) (decimal c.args.number ++ joined c.args.behind.now) c.in-Err.ensures.bytes

pub returns-in-Err-add-clause-bytes : goal.returns-in-Err-add-clause-bytes
returns-in-Err-add-clause-bytes g c =
    adds_after _ _ _ c.args.line.now (joined c.args.before.now) _ (decimal c.args.number ++ joined c.args.behind.now) _ _ c.in_default.ensures.bytes.whole
    (adds_more _ _ _ _ _ (decimal c.args.number) (joined c.args.behind.now) (rw (c.as_bytes.ensures.value, c.format.ensures.text) at c.in-Err-add.ensures.bytes))

pub returns-clause-bytes : goal.returns-clause-bytes
returns-clause-bytes g c =
    adds_after _ _ _ c.args.line.now (joined c.args.before.now) _ (decimal c.args.number ++ joined c.args.behind.now) _ _ c.in_default.ensures.bytes.whole
    (adds_after _ _ _ _ (decimal c.args.number) _ (joined c.args.behind.now) _ _ (rw (c.as_bytes.ensures.value, c.format.ensures.text) at c.in_default-add.ensures.bytes.whole) c.add_parts-2.ensures.bytes)

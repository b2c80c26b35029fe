use Rattle.std.specs.Prelude.{flat_map}
use Rattle.ca_program.specs.View.{program_view}
use Rattle.ca_model.proofs.Lines.{adds_after, adds_more}
use Rattle.ca_plan.specs.Texts.{head_text, pair_text}
use Rattle.ca_plan.proofs.texts.add_extent.Goals as goal

pub returns-in-Err-clause-bytes : goal.returns-in-Err-clause-bytes
returns-in-Err-clause-bytes g c =
    let p = program_view c.args.program.now in
    adds_more _ _ _ _ _ (head_text p c.args.op) (flat_map (pair_text p) c.args.judged.now.pairs) c.in-Err.ensures.bytes

pub returns-clause-bytes : goal.returns-clause-bytes
returns-clause-bytes g c =
    let p = program_view c.args.program.now in
    adds_after _ _ _ c.args.line.now (head_text p c.args.op) _ (flat_map (pair_text p) c.args.judged.now.pairs) _ _ c.in_default.ensures.bytes.whole (rw c.pairs.ensures at c.add_pairs.ensures.bytes)

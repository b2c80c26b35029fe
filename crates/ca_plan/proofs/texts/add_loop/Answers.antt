use Rattle.std.proofs.Common.{◌++◌, [], codes}
use Rattle.std.specs.Prelude.{decimal, flat_map}
use Rattle.ca_program.specs.View.{program_view}
use Rattle.ca_model.proofs.Lines.{adds_after, adds_more}
use Rattle.ca_plan.specs.Texts.{pair_text}
use Rattle.ca_plan.proofs.texts.add_loop.Goals as goal

pub returns-in-Err-clause-bytes : goal.returns-in-Err-clause-bytes
returns-in-Err-clause-bytes g c =
    let p = program_view c.args.program.now in
    let l = c.args.judged.now in
    adds_more _ _ _ _ _ (codes "loop " ++ (decimal l.line ++ (codes "\n" ++ []))) (flat_map (pair_text p) l.judged.pairs) (rw c.line.ensures at c.in-Err.ensures.bytes)

pub returns-clause-bytes : goal.returns-clause-bytes
returns-clause-bytes g c =
    let p = program_view c.args.program.now in
    let l = c.args.judged.now in
    adds_after _ _ _ c.args.line.now (codes "loop " ++ (decimal l.line ++ (codes "\n" ++ []))) _ (flat_map (pair_text p) l.judged.pairs) _ _ (rw c.line.ensures at c.in_default.ensures.bytes.whole)
    (rw (c.pairs.ensures, c.judged.ensures) at c.add_pairs.ensures.bytes)

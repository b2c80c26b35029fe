use Rattle.std.proofs.Common.{◌++◌, ap, codes}
use Rattle.ca_program.specs.View.{program_view}
use Rattle.ca_model.proofs.Lines.{adds_after, adds_more}
use Rattle.ca_plan.specs.Texts.{names_text, verdict_text}
use Rattle.ca_plan.proofs.Written.{adds_same}
use Rattle.ca_plan.proofs.texts.add_pair.Goals as goal

pub returns-in-Err-clause-bytes : goal.returns-in-Err-clause-bytes
returns-in-Err-clause-bytes g c =
    let p = program_view c.args.program.now in
    let x = c.args.pair.now in
    adds_more _ _ _ _ _ (names_text p x.a x.b) (verdict_text p x.verdict ++ codes "\n") c.in-Err.ensures.bytes

pub returns-in-Err-add_verdict-clause-bytes : goal.returns-in-Err-add_verdict-clause-bytes
returns-in-Err-add_verdict-clause-bytes g c =
    let p = program_view c.args.program.now in
    let x = c.args.pair.now in
    adds_after _ _ _ c.args.line.now (names_text p x.a x.b) _ (verdict_text p x.verdict ++ codes "\n") _ _ c.in_default.ensures.bytes.whole
    (adds_more _ _ _ _ _ (verdict_text p x.verdict) (codes "\n") (adds_same _ _ (ap (verdict_text p) c.verdict.ensures) c.in-Err-add_verdict.ensures.bytes))

pub returns-clause-bytes : goal.returns-clause-bytes
returns-clause-bytes g c =
    let p = program_view c.args.program.now in
    let x = c.args.pair.now in
    adds_after _ _ _ c.args.line.now (names_text p x.a x.b) _ (verdict_text p x.verdict ++ codes "\n") _ _ c.in_default.ensures.bytes.whole
    (adds_after _ _ _ _ (verdict_text p x.verdict) _ (codes "\n") _ _ (adds_same _ _ (ap (verdict_text p) c.verdict.ensures) c.in_default-add_verdict.ensures.bytes).whole c.add.ensures.bytes)

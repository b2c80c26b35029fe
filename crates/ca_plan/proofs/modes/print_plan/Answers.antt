use Rattle.std.proofs.Common.{◌++◌, []}
use Rattle.std.specs.Prelude.{flat_map}
use Rattle.ca_program.specs.View.{program_view}
use Rattle.ca_model.proofs.Lines.{adds_after, adds_more, went_after, not_added, flushed}
use Rattle.ca_plan.specs.Texts.{loop_mode_text, modes_text}
use Rattle.ca_plan.proofs.modes.print_plan.Goals as goal

pub returns-in-Err-clause-bytes : goal.returns-in-Err-clause-bytes
returns-in-Err-clause-bytes g c =
    let p = program_view c.args.program.now in
    let plan = c.args.plan.now in
    not_added _ _ _ _ (modes_text p plan.marks.ops 0 plan.ops ++ flat_map (loop_mode_text plan.marks.loops) plan.loops) (adds_more _ _ _ _ _ (modes_text p plan.marks.ops 0 plan.ops) (flat_map (loop_mode_text plan.marks.loops) plan.loops) (rw (c.new-line.ensures, c.ops.ensures, c.marked_ops.ensures) at c.in-Err.ensures.bytes))

pub returns-in-Err-add_loop_modes-clause-bytes : goal.returns-in-Err-add_loop_modes-clause-bytes
returns-in-Err-add_loop_modes-clause-bytes g c =
    let p = program_view c.args.program.now in
    let plan = c.args.plan.now in
    not_added _ _ _ _ (modes_text p plan.marks.ops 0 plan.ops ++ flat_map (loop_mode_text plan.marks.loops) plan.loops) (adds_after _ _ _ [] (modes_text p plan.marks.ops 0 plan.ops) _ (flat_map (loop_mode_text plan.marks.loops) plan.loops) _ _ (rw (c.new-line.ensures, c.ops.ensures, c.marked_ops.ensures) at c.in_default.ensures.bytes.whole) (rw (c.loops.ensures, c.marked_loops.ensures) at c.in-Err-add_loop_modes.ensures.bytes))

pub returns-clause-bytes : goal.returns-clause-bytes
returns-clause-bytes g c =
    let p = program_view c.args.program.now in
    let plan = c.args.plan.now in
    flushed _ _ _ (modes_text p plan.marks.ops 0 plan.ops ++ flat_map (loop_mode_text plan.marks.loops) plan.loops) _ _ (went_after _ _ _ [] (modes_text p plan.marks.ops 0 plan.ops) _ (flat_map (loop_mode_text plan.marks.loops) plan.loops) _ (rw (c.new-line.ensures, c.ops.ensures, c.marked_ops.ensures) at c.in_default.ensures.bytes.whole) (rw (c.loops.ensures, c.marked_loops.ensures) at c.in_default-add_loop_modes.ensures.bytes.whole)) c.flush.ensures.bytes

use Rattle.ca_program.specs.View.{program_view}
use Rattle.ca_meaning.specs.Serial.{serial}
use Rattle.ca_record.proofs.Following.{follow_by, each_by}
use Rattle.ca_record.proofs.recording.record.Goals as goal

pub returns-clause-follows : goal.returns-clause-follows
returns-clause-follows g c =
    let p = program_view c.args.program.now in
    follow_by p c.args.marks.now c.args.budget c.new-recorder.result.lines.items c.drive.new.engine.lines.items c.lines-lines.result.items c.push.new.self.items c.push-2.new.self.items c.line_of.result
    c.new-recorder.ensures c.in-Ok.ensures.account.all c.lines-lines.ensures (c.line_of.ensures.line (serial p c.args.budget) c.in-Ok.ensures.outcome) c.in_ok-push.ensures.items c.in_ok-push-2.ensures.items

pub returns-clause-of_program : goal.returns-clause-of_program
returns-clause-of_program g c =
    let p = program_view c.args.program.now in
    each_by p c.args.marks.now c.args.budget c.new-recorder.result.lines.items c.drive.new.engine.lines.items c.lines-lines.result.items c.push.new.self.items c.push-2.new.self.items c.line_of.result
    c.new-recorder.ensures c.in-Ok.ensures.account.all c.lines-lines.ensures (c.line_of.ensures.of_program p) c.in_ok-push.ensures.items c.in_ok-push-2.ensures.items

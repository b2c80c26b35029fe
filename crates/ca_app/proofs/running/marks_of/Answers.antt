use Rattle.ca_app.proofs.PlannedMarks.{are_planned, are_sound}
use Rattle.ca_app.proofs.running.marks_of.Goals as goal

pub returns-in-Ok-clause-planned : goal.returns-in-Ok-clause-planned
returns-in-Ok-clause-planned c = are_planned c.in-Ok.plan _ c.in-Ok.ensures.exact (rw c.marks.ensures at c.same_marks-marks.ensures)

pub returns-in-Ok-clause-sound : goal.returns-in-Ok-clause-sound
returns-in-Ok-clause-sound c = are_sound c.in-Ok.plan _ (c.in-Ok.ensures.sound c.requires) (rw c.marks.ensures at c.same_marks-marks.ensures)

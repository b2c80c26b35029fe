use Rattle.ca_program.specs.View.{program_view}
use Rattle.ca_schedule.proofs.Fewer.{fewer_sound}
use Rattle.ca_workers.proofs.many.drive_by_many.Goals as goal

pub drive-requires-clause-sound : goal.drive-requires-clause-sound
drive-requires-clause-sound g c = λ κs o. fewer_sound (program_view c.args.program.now) c.in-Ok.fewer c.args.marks.now c.in-Ok.ensures c.requires.sound

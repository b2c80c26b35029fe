use Rattle.ca_note_laws.proofs.Good.{notes_aside}
use Rattle.ca_note_laws.proofs.laws.notes_aside_the_run_is_serial.Goals as goal

pub returns : goal.returns
returns c = notes_aside

use Rattle.ca_lock_laws.proofs.Taken.{each_course}
use Rattle.ca_lock_laws.proofs.laws.no_path_is_left_out.Goals as goal

pub returns : goal.returns
returns c = each_course

use Rattle.ca_cells.proofs.Courses.{mark_of_found}
use Rattle.ca_cells.proofs.cells.course.take_back.Goals as goal

pub back_to-requires : goal.back_to-requires
back_to-requires c = mark_of_found c.args.olds c.args.log.now c.args._found.now.value c.args.mark c.requires.back c.requires.mark

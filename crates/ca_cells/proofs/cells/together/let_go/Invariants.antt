use Rattle.ca_cells.proofs.cells.together.let_go.Given as goal

abbrev pub decreases-loop-task : goal.decreases-loop-task
decreases-loop-task l = goal.left-loop-task l

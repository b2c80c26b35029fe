use Rattle.ca_program.specs.View.{program_view}
use Rattle.ca_sum_pool.specs.Parts.{setting_of}
use Rattle.ca_sum_pool.proofs.round.round_summed.Given as goal

abbrev pub ghosts-run_round-N-Round : goal.ghosts-run_round-N-Round
ghosts-run_round-N-Round g a = record { setting = setting_of (program_view a.program.now) a.extent.now a.frozen.now }

abbrev pub ghosts-run_round-K-Sums : goal.ghosts-run_round-K-Sums
ghosts-run_round-K-Sums g a = record { extent = a.extent.now; listed = a.listed.now; left = a.left }

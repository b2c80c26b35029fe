use Rattle.ca_cells.specs.Seats.{cells_key}
use Rattle.ca_pool_tests.proofs.collected.collects.Goals as goal

pub round-ran-requires-clause-first : goal.round-ran-requires-clause-first
round-ran-requires-clause-first g c = λ κs o. (c.in-Ok.ensures.may_run (cells_key c.set-extent.result.3) c.set-extent.ensures.set, c.in-Ok.ensures.begins)

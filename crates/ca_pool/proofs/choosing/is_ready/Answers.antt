use Rattle.std.proofs.Common.{◌-◌, true≢false, sym, arith}
use Rattle.ca_logs.specs.Entries.{call_of}
use Rattle.ca_cells.specs.Rounds.{frozen_of, program_of}
use Rattle.ca_cells.specs.Seats.{cells_key}
use Rattle.ca_cells.proofs.Applies.{receiver_in}
use Rattle.ca_deques.proofs.Grown.{fits_at}
use Rattle.ca_deques.proofs.Places.{get_of_index}
use Rattle.ca_pool.proofs.Does.{may_run}
use Rattle.ca_pool.proofs.choosing.is_ready.Goals as goal

pub would_wait-requires : goal.would_wait-requires
would_wait-requires g c =
    let key = cells_key c.args.cells.now in
    let tasks = c.args.share.now.items in
    let task = c.index.result.now in
    let at = c.len-count.result - 1 in
    let there = get_of_index tasks at task (omega (arith, c.if-count-eq0.false, c.len-count.ensures, c.args.share.now.ok.0)) c.index.ensures in
    let fits = fits_at g.N.Round.setting tasks at task c.requires.share there in
    receiver_in (program_of key) (frozen_of key) (call_of task) (may_run g.N.Round.setting key task c.requires.setting fits).typed

pub returns-then-count-eq0 : goal.returns-then-count-eq0
returns-then-count-eq0 g c = λ e. absurd (true≢false (sym e))

pub returns : goal.returns
returns g c = λ _. omega (arith, c.if-count-eq0.false, c.len-count.ensures, c.args.share.now.ok.0)

use Rattle.std.proofs.Common.{◌∙◌, arith}
use Rattle.ca_logs.specs.Entries.{call_of}
use Rattle.ca_cells.specs.Rounds.{frozen_of, program_of}
use Rattle.ca_cells.specs.Seats.{cells_key}
use Rattle.ca_cells.proofs.Applies.{receiver_in}
use Rattle.ca_pool.proofs.Does.{may_run}
use Rattle.ca_pool.proofs.choosing.pass_held.Goals as goal

pub would_wait-requires : goal.would_wait-requires
would_wait-requires g c =
    let key = cells_key c.args.cells.now in
    receiver_in (program_of key) (frozen_of key) (call_of c.tries.next) (may_run g.N.Round.setting key c.tries.next c.requires.setting c.tries.invariant.fits).typed

pub tries-preserved : goal.tries-preserved
tries-preserved g c = let i = c.tries.invariant in let e = c.put_behind-next.ensures in record {
  same = e.same ∙ i.same;
  keys = i.keys;
  share = e.share;
  fits = e.fits;
  moved = λ h. omega (arith, i.moved h, e.moved h);
}

pub returns-then-len-eq0-clause-same : goal.returns-then-len-eq0-clause-same
returns-then-len-eq0-clause-same g c = c.steal_behind.ensures.same ∙ (c.put_behind-next.ensures.same ∙ c.tries.invariant.same)

pub returns-then-len-eq0-clause-keys : goal.returns-then-len-eq0-clause-keys
returns-then-len-eq0-clause-keys g c = c.steal_behind.ensures.keys ∙ c.tries.invariant.keys

pub returns-then-len-eq0-clause-moved : goal.returns-then-len-eq0-clause-moved
returns-then-len-eq0-clause-moved g c = λ h. omega (arith, c.tries.invariant.moved h, c.put_behind-next.ensures.moved h, c.steal_behind.ensures.moved h)

use Rattle.std.proofs.Common.{rules, ◌≡◌, [], length, get_or, subst}
use denote.Param.Send.{IsSync, AllSync, sendable, param_sync, shr_sync}
use denote.Param.{param}
use denote.Struct.Tuple.{TupleAt, type_at}
use denote.Param.SendFields.{declared_sync}
use mir.Syntax.{named}
use Rattle.ca_pool_tests.proofs.rounds.work_all.Lts as lts
use Rattle.ca_pool.proofs.work.Reads.TheSendSync as reads
use Rattle.ca_cells.specs.Seats.{IsSameSeat}
use Rattle.ca_cells.specs.declared.cells.Seat.{Seat}
use Rattle.ca_pool.proofs.Sends.{seat_send, cells_sync}
use Rattle.ca_sections.proofs.SharedProgram.{coded_sync}
use Rattle.ca_pool_tests.proofs.SameSeats.{one_for_one, all_still}
use Rattle.ca_pool_tests.proofs.rounds.work_all.Goals as goal

pub for_each_mut-requires-send-T : goal.for_each_mut-requires-send-T
for_each_mut-requires-send-T g c κs within = search (sendable, seat_send) depth 10

pub for_each_mut-requires-sync-F : goal.for_each_mut-requires-sync-F
for_each_mut-requires-sync-F g c κs within =
    let shared : IsSync g.row.R = record { shared = c.type_bounds.sync-R.shared } in
    let rows = lts.of-6 g.row.R g.R.laws g.R.Threads-dict g.R.Wait-dict (record { mir = named 6; lft = κs.1.1.1.1.1.1.0 }) (record { mir = named 7; lft = κs.1.1.1.1.1.1.1.0 }) (record { mir = named 8; lft = κs.1.1.1.1.1.1.1.1.0 }) (record { mir = named 9; lft = κs.1.1.1.1.1.1.1.1.1.0 }) (record { mir = named 10; lft = κs.1.1.1.1.1.1.1.1.1.1.0 }) (record { mir = named 11; lft = κs.1.1.1.1.1.1.1.1.1.1.1.0 }) (record { mir = named 12; lft = κs.1.1.1.1.1.1.1.1.1.1.1.1.0 }) (record { mir = named 13; lft = κs.1.1.1.1.1.1.1.1.1.1.1.1.1.0 }) in
    let each : AllSync rows = (
      shr_sync (named 6) κs.1.1.1.1.1.1.0 (param 0 g.row.R) (param_sync 0 g.row.R shared),
      (
        search sendable depth 12,
        (
          search (sendable, cells_sync) depth 10,
          (search (sendable, coded_sync) depth 10, (search (sendable, reads.the_sync) depth 10, (search sendable depth 10, tt))),
        ),
      ),
    ) in
    let all : IsSync (TupleAt [] rows) = declared_sync (type_at [] rows) each in
    record { shared = all.shared }

pub returns : goal.returns
returns g c = let new = c.for_each_mut.new.s in let long : length new ≡ length c.args.seats.now = search rules in
    all_still c.args.cells.now c.args.seats.now new (one_for_one c.args.seats.now new long (λ k d lt. let at = (c.for_each_mut.ensures k d lt).1 in
    subst (λ (s : Seat). IsSameSeat s (get_or new k d)) at.argument_is (subst (λ (s : Seat). IsSameSeat at.argument.now s) at.left at.call))) c.requires.all

use Rattle.std.proofs.Common.{rules, ◌≡◌, [], length, sym, ◌∙◌}
use denote.Param.{param}
use denote.Param.Send.{IsSync, AllSync, sendable, param_sync, shr_sync, shr_slice_sync}
use denote.Param.SendFields.{declared_sync}
use denote.Struct.Tuple.{TupleAt, type_at}
use mir.Syntax.{named}
use Rattle.ca_model.specs.contracts.heap.Heap as heap
use Rattle.ca_model.proofs.heap.Heap.TheSendSync as heap_sent
use Rattle.ca_extent.specs.contracts.extent.Extent as extent
use Rattle.ca_extent.proofs.extent.Extent.TheSendSync as extent_sent
use Rattle.ca_parallel.specs.contracts.op.Op as op
use Rattle.ca_parallel.proofs.op.Op.TheSendSync as op_sent
use Rattle.ca_sections.specs.contracts.coded.Coded as coded
use Rattle.ca_sections.proofs.SharedProgram.{coded_sync}
use Rattle.ca_deques.proofs.Parting.{same_lists}
use Rattle.ca_sum_pool.proofs.Sends.{part_send}
use Rattle.ca_sum_pool.proofs.running.run_all.Lts as lts
use Rattle.ca_sum_pool.proofs.running.run_all.Goals as goal

pub for_each_mut-requires-send-T : goal.for_each_mut-requires-send-T
for_each_mut-requires-send-T g c κs within = search (sendable, part_send) depth 10

pub for_each_mut-requires-sync-F : goal.for_each_mut-requires-sync-F
for_each_mut-requires-sync-F g c κs within =
    let shared : IsSync g.row.G = record { shared = c.type_bounds.sync-G.shared } in
    let rows =
    lts.of-0 g.row.N g.row.K g.row.R g.row.G g.N.laws g.K.laws g.R.laws g.G.laws g.N.Round g.N.Round-dict g.K.Sums g.K.Sums-dict g.R.Threads g.R.Threads-dict g.G.Gate g.G.Gate-dict (record { mir = named 6; lft = κs.1.1.1.1.1.1.0 }) (record { mir = named 7; lft = κs.1.1.1.1.1.1.1.0 })
    (record { mir = named 8; lft = κs.1.1.1.1.1.1.1.1.0 }) (record { mir = named 9; lft = κs.1.1.1.1.1.1.1.1.1.0 }) (record { mir = named 10; lft = κs.1.1.1.1.1.1.1.1.1.1.0 }) (record { mir = named 11; lft = κs.1.1.1.1.1.1.1.1.1.1.1.0 }) in
    let each : AllSync rows = (
      shr_sync (named 6) κs.1.1.1.1.1.1.0 (coded.the_row (record { mir = named 7; lft = κs.1.1.1.1.1.1.1.0 })) (coded_sync (record { mir = named 7; lft = κs.1.1.1.1.1.1.1.0 })),
      (shr_sync (named 8) κs.1.1.1.1.1.1.1.1.0 extent.the_row extent_sent.the_sync, (shr_sync (named 9) κs.1.1.1.1.1.1.1.1.1.0 heap.the_row heap_sent.the_sync, (shr_sync (named 10) κs.1.1.1.1.1.1.1.1.1.1.0 (param 3 g.row.G) (param_sync 3 g.row.G shared), (shr_slice_sync (named 11) κs.1.1.1.1.1.1.1.1.1.1.1.0 op.the_row op_sent.the_sync, tt)))),
    ) in
    let all : IsSync (TupleAt [] rows) = declared_sync (type_at [] rows) each in
    record { shared = all.shared }

pub returns : goal.returns
returns g c = let new = c.for_each_mut.new.s in let long : length new ≡ length c.args.parts.now = search rules in
    same_lists c.args.parts.now new long (λ k d lt. let at = (c.for_each_mut.ensures k d lt).1 in sym at.left ∙ (at.call ∙ at.argument_is))

-- The part of a worker may go to another thread.
use Rattle.std.proofs.Crossing.{crosses}
use denote.RattleType.{RattleType}
use denote.Param.Send.{IsSend, sendable, view_send}
use denote.Param.SendFields.{declared_send}
use Rattle.ca_logs.specs.contracts.log.Task as task
use Rattle.ca_logs.proofs.log.Task.TheSendSync as task_sent
use Rattle.ca_deques.specs.declared.rule.Round as round
use Rattle.ca_deques.proofs.handles.Owner.TheSendSync as owner_sent
use Rattle.ca_deques.proofs.thieves.Thieves.TheSendSync as thieves_sent
use Rattle.ca_replica.proofs.replica.Replica.TheSendSync as replica_sent
use Rattle.ca_sum_pool.proofs.performing.Stuck.TheSendSync as stuck_sent
use Rattle.ca_sum_pool.specs.contracts.performing.Stuck as stuck
use Rattle.ca_sum_pool.specs.declared.performing.Sums as sums
use Rattle.ca_sum_pool.specs.contracts.part.Part as part
use Rattle.ca_sum_pool.specs.contracts.part.Part.TheInside as inside
use Rattle.std.specs.contracts.alloc.Global as global
use Rattle.std.specs.contracts.impls.GlobalAllocator.TheImpl as heap
use Rattle.std.specs.contracts.vec.Vec as vec
use Rattle.std.specs.contracts.option.Option as option
use Rattle.std.proofs.option.Option.TheSendSync as option_sent

tasks_send : IsSend (vec.the_row task.the_row global.the_row heap.ghosts)
tasks_send = search (crosses, task_sent.the_send) depth 20

stuck_send : IsSend (option.the_row stuck.the_row)
stuck_send = option_sent.the_send stuck.the_row stuck_sent.the_send

global_send : IsSend global.the_row
global_send = search crosses depth 20

pub part_send : (T T' : RattleType) (g : round.Ghosts T.Denot) (g' : sums.Ghosts T'.Denot) → IsSend (part.the_row T T' g g')
part_send T T' g g' = view_send _ _ _ _ _ (declared_send (inside.the_type T T' g g') (owner_sent.the_send T g, (thieves_sent.the_send T g, (replica_sent.the_send, (tasks_send, (search sendable, (search sendable, (search sendable, (search sendable, (search sendable, (search (sendable, crosses) depth 10, (stuck_send, (search sendable, (search sendable, (search sendable, (search sendable, (global_send, (search crosses, tt))))))))))))))))))

-- Entries and histories may go to another thread.
use Rattle.std.proofs.Crossing.{crosses}
use denote.Builtin.{u64}
use denote.Hole.{as_row}
use denote.Param.Send.{IsSend, IsSync, sendable, view_send, view_sync}
use denote.Param.SendFields.{declared_send, declared_sync, as_row_send, as_row_sync}
use Rattle.std.specs.contracts.alloc.Global as global
use Rattle.std.specs.contracts.impls.GlobalAllocator.TheImpl as heap
use Rattle.std.specs.contracts.vec.Vec as vec
use Rattle.std.specs.contracts.option.Option as option
use Rattle.std.specs.contracts.boxed.Box as boxed
use Rattle.ca_model.proofs.value.Object.TheSendSync as object
use Rattle.ca_logs.proofs.log.Entry.TheSendSync as entry_sent
use Rattle.ca_logs.specs.contracts.log.Entry as entry
use Rattle.ca_logs.specs.contracts.log.CellLog as log
use Rattle.ca_logs.specs.contracts.entries.Entries as entries
use Rattle.ca_logs.specs.contracts.entries.Entries.TheInside as entries_inside

list_send : IsSend (vec.the_row entry.the_row global.the_row heap.ghosts)
list_send = search (crosses, entry_sent.the_send) depth 20

list_sync : IsSync (vec.the_row entry.the_row global.the_row heap.ghosts)
list_sync = search (crosses, entry_sent.the_sync) depth 20

kept_send : IsSend (as_row (option.the_field (vec.the_row entry.the_row global.the_row heap.ghosts)))
kept_send = as_row_send (option.the_field (vec.the_row entry.the_row global.the_row heap.ghosts)) (search (sendable, list_send) depth 20)

kept_sync : IsSync (as_row (option.the_field (vec.the_row entry.the_row global.the_row heap.ghosts)))
kept_sync = as_row_sync (option.the_field (vec.the_row entry.the_row global.the_row heap.ghosts)) (search (sendable, list_sync) depth 20)

steps_send : IsSend (as_row (option.the_field u64))
steps_send = as_row_send (option.the_field u64) (search sendable depth 20)

steps_sync : IsSync (as_row (option.the_field u64))
steps_sync = as_row_sync (option.the_field u64) (search sendable depth 20)

boxed_send : IsSend (boxed.the_row entry.the_row global.the_row heap.ghosts)
boxed_send = search (crosses, entry_sent.the_send) depth 20

boxed_sync : IsSync (boxed.the_row entry.the_row global.the_row heap.ghosts)
boxed_sync = search (crosses, entry_sent.the_sync) depth 20

stuck_send : IsSend (as_row (option.the_field (boxed.the_row entry.the_row global.the_row heap.ghosts)))
stuck_send = as_row_send (option.the_field (boxed.the_row entry.the_row global.the_row heap.ghosts)) (search (sendable, boxed_send) depth 20)

stuck_sync : IsSync (as_row (option.the_field (boxed.the_row entry.the_row global.the_row heap.ghosts)))
stuck_sync = as_row_sync (option.the_field (boxed.the_row entry.the_row global.the_row heap.ghosts)) (search (sendable, boxed_sync) depth 20)

pub entries_send : IsSend entries.the_row
entries_send = view_send _ _ _ _ _ (declared_send entries_inside.the_type (search (sendable, crosses), (stuck_send, (search sendable, (search sendable, (steps_send, (kept_send, tt)))))))

entries_sync : IsSync entries.the_row
entries_sync = view_sync _ _ _ _ _ (declared_sync entries_inside.the_type (search (sendable, crosses), (stuck_sync, (search sendable, (search sendable, (steps_sync, (kept_sync, tt)))))))

pub log_send : IsSend log.the_row
log_send = declared_send log.the_type (search (sendable, crosses), (object.the_send, (entries_send, tt)))

pub log_sync : IsSync log.the_row
log_sync = declared_sync log.the_type (search (sendable, crosses), (object.the_sync, (entries_sync, tt)))

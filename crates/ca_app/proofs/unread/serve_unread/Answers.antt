use Rattle.std.proofs.Common.{rules, inl, refl}
use Rattle.ca_app.proofs.Ended.{caused, written_so}
use Rattle.ca_app.proofs.Endings.{ends_generated, ends_written, unreplied_ends}
use Rattle.ca_app.proofs.unread.serve_unread.Goals as goal

pub generate-requires : goal.generate-requires
generate-requires g c = (rw c.in-Gen.is at c.requires).1

pub load-requires : goal.load-requires
load-requires g c = let range = rw c.in-Load.is at c.requires in (search rules, (search rules, (range.1, range.2)))

pub returns-in-Ok-clause-ends : goal.returns-in-Ok-clause-ends
returns-in-Ok-clause-ends g c =
    rw c.in-Gen.is
    (ends_generated c.in-Gen.seed c.in-Gen.size (ends_written _ 0 _ _ _ _ (rw (c.deref.ensures.value, c.in-Ok.ensures.text) at c.write_all.ensures.bytes) (written_so _ _ _ c.finish.ensures)))

pub returns-in-Ok-clause-write_fault : goal.returns-in-Ok-clause-write_fault
returns-in-Ok-clause-write_fault g c = caused _ _ c.write_all.result _ _ c.write_all.ensures.cause c.finish.ensures

pub returns-in-Err-clause-ends : goal.returns-in-Err-clause-ends
returns-in-Err-clause-ends g c = unreplied_ends (record { cause = inl refl; same = refl })

pub returns-in-Load-clause-ends : goal.returns-in-Load-clause-ends
returns-in-Load-clause-ends g c = rw c.in-Load.is c.load.ensures.ends

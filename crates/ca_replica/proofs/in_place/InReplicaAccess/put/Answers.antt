use Rattle.std.proofs.Common.{sym, ap, ◌∙◌, refl, true≢false}
use Rattle.ca_meaning.specs.Serial.{in_heap, put_own}
use Rattle.ca_replica.specs.Applied.{sums}
use Rattle.ca_replica.proofs.in_place.InReplicaAccess.put.Goals as goal

pub returns-in-Ref : goal.returns-in-Ref
returns-in-Ref g c =
    let s = c.args.self.now in
    let h = sums s.ground.extent.now.written s.ground.frozen.now s.copies.now in
    record {
      put = λ e past. ap (in_heap past) (c.put_sum.ensures.put e ∙ ap (λ v. put_own h v c.args.f c.args.item c.args.value) (sym c.in-Ref.is));
      fixed = λ i. record { program = s.program.now; written = s.ground.extent.now.written; frozen = s.ground.frozen.now; marks = s.ground.marks.now; before = c.put_sum.ensures.before i; copies = s.copies.ghost_name; olds = s.olds.ghost_name };
      fits = λ bs k. c.put_sum.ensures.keeps k;
    }

pub returns-in-Null : goal.returns-in-Null
returns-in-Null g c = record { put = λ e. absurd (true≢false (sym e)); fixed = refl; fits = λ bs h. h }

pub returns-in-Long : goal.returns-in-Long
returns-in-Long g c = record { put = λ e. absurd (true≢false (sym e)); fixed = refl; fits = λ bs h. h }

pub returns-in-Bool : goal.returns-in-Bool
returns-in-Bool g c = record { put = λ e. absurd (true≢false (sym e)); fixed = refl; fits = λ bs h. h }

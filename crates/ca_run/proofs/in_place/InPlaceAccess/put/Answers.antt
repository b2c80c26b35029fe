use Rattle.std.proofs.Common.{sym, ap, ◌∙◌, refl, true≢false}
use Rattle.ca_meaning.specs.Serial.{in_heap, put_own}
use Rattle.ca_run.proofs.in_place.InPlaceAccess.put.Goals as goal

pub returns-in-Ref : goal.returns-in-Ref
returns-in-Ref g c =
    let s = c.args.self.now in
    record {
      put = λ e past. ap (in_heap past) (c.put.ensures.put e ∙ ap (λ v. put_own s.heap.now v c.args.f c.args.item c.args.value) (sym c.in-Ref.is));
      fixed = λ i. record { program = s.program.now; before = c.put.ensures.before i; heap = s.heap.ghost_name; kept = s.kept.ghost_name };
      fits = λ bs h. h;
    }

pub returns-in-Null : goal.returns-in-Null
returns-in-Null g c = record { put = λ e. absurd (true≢false (sym e)); fixed = refl; fits = λ bs h. h }

pub returns-in-Long : goal.returns-in-Long
returns-in-Long g c = record { put = λ e. absurd (true≢false (sym e)); fixed = refl; fits = λ bs h. h }

pub returns-in-Bool : goal.returns-in-Bool
returns-in-Bool g c = record { put = λ e. absurd (true≢false (sym e)); fixed = refl; fits = λ bs h. h }

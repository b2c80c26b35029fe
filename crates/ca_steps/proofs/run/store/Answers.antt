use Rattle.std.proofs.Common.{sym, ap, ◌∙◌, true≢false}
use Rattle.ca_meaning.specs.Serial.{put_own}
use Rattle.ca_steps.proofs.Failing.{lacks_at}
use Rattle.ca_steps.proofs.run.store.Goals as goal

pub returns-in_default : goal.returns-in_default
returns-in_default c = record { put = λ e. absurd (true≢false (sym e)); none = λ e n is. absurd (c.in_default.not-Ref n is) }

pub returns-else-has_slot : goal.returns-else-has_slot
returns-else-has_slot c =
    record {
      put = λ e. absurd (true≢false (sym e));
      none = λ e. lacks_at c.args.heap.now c.args.this c.in-Ref.n c.args.f c.args.item c.in-Ref.is (λ h. absurd (true≢false (sym (c.has_slot.ensures.1 h) ∙ c.if-has_slot.false)));
    }

pub returns-then-has_slot : goal.returns-then-has_slot
returns-then-has_slot c = record { put = λ e. c.store.ensures ∙ ap (λ v. put_own c.args.heap.now v c.args.f c.args.item c.args.value) (sym c.in-Ref.is); none = λ e. absurd (true≢false e) }

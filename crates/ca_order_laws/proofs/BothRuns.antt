-- What the serial run and the section have in common, from where they stand.
use Rattle.std.proofs.Common.{◌≡◌, ℕ, List, None, true, false, Bool}
use Rattle.std.specs.Prelude.{Contains}
use Rattle.ca_program.specs.declared.program.FieldId.{FieldId}
use Rattle.ca_program.specs.declared.program.OpId.{OpId}
use Rattle.ca_program.specs.Plain.{PlainProgram}
use Rattle.ca_model.specs.declared.value.Value.{Value as Datum}
use Rattle.ca_model.specs.declared.value.Slot.{Slot}
use Rattle.ca_model.specs.declared.value.Object.{Object}
use Rattle.ca_model.specs.Typed.{TypedHeap}
use Rattle.ca_meaning.specs.Functions.{own_of}
use Rattle.ca_meaning.specs.Serial.{World}
use Rattle.ca_meaning.specs.Sections.{Section}
use Rattle.ca_meaning.specs.ProgramTyped.{Scope, ProgramTyped}
use Rattle.ca_meaning_laws.specs.Typed.{Extends, IsReceiver, OwnTyped}
use Rattle.ca_meaning_laws.proofs.SectionTypes.{section_loop_typed}
use Rattle.ca_meaning_laws.proofs.SerialTypes.{well_kept}
use Rattle.ca_parallel.specs.Extents.{operation_body}
use Rattle.ca_order_laws.proofs.Likes.{Like}
use Rattle.ca_order_laws.proofs.Kept.{AreKept}
use Rattle.ca_order_laws.proofs.Frames.{Stays, serial_stays}
use Rattle.ca_order_laws.proofs.Agreeing.{Stands, values_agree, dues_agree}
use Rattle.ca_order_laws.proofs.Related.{Puts, Constants, Related, Common, own_before}

-- the heap with these slots put in is typed, with the same classes and the same constants
pub record Placed (p : PlainProgram) (written : List FieldId) (h : List Object) (w : World) : Type 0 where
  pub heap : TypedHeap p w.heap
  pub extends : Extends h w.heap
  pub like : Like written h w.heap

module _ (p : PlainProgram) (program : ProgramTyped p) (written : List FieldId) (ops : List OpId) (bodies : (op : OpId) → Contains ops op → AreKept written ops (operation_body p op))
    (sc : Scope) (w0 : World) (this : Datum) (put_in : List Slot → World) (b0 : Bool) (heap : TypedHeap p w0.heap) (there : IsReceiver w0.heap sc.class this)
    (puts : b0 ≡ false → Puts p written ops sc w0 this put_in b0)
    (placed : (own : List Slot) → OwnTyped p w0.heap sc.class own → Constants p written ops sc w0 this put_in b0 own → Placed p written w0.heap (put_in own)) where
  abbrev R : Bool → World → Section → ℕ → Type 0
  R b w s t = Related p written ops sc w0 this put_in b0 b w s t

  stands : (b : Bool) (w : World) (s : Section) (t : ℕ) → R b w s t → Stands written sc w0.heap w.heap this b s.own
  stands b w s t rel =
      let q : Placed p written w0.heap (put_in s.own) = placed s.own rel.lite.typed.own rel.lite.constants in
      let k : Stays p program written ops bodies w0.heap (put_in s.own).heap w =
      serial_stays p program written ops bodies w0.heap s.listed rel.lite.inside (put_in s.own) w t q.heap q.extends q.like (well_kept p w0.heap (put_in s.own).heap q.extends s.listed rel.lite.typed.listed) rel.run in
      record { heaps = k.like; own_before = λ e. before b rel e; constants = rel.lite.constants }
    where
      before : (b : Bool) → R b w s t → b ≡ false → own_of w.heap this ≡ s.own
      before false rel e = own_before p written ops sc w0 this put_in b0 puts w s t rel
      before true rel e = cc

  pub common : sc.result ≡ None → Common p written ops sc w0 this put_in b0
  common result = record {
    puts = puts;
    values = λ b w s t rel line ls tl e ty et c k. values_agree p program written sc w0.heap w.heap this heap there b s rel.lite.typed (stands b w s t rel) line ls tl e ty et c k;
    dues = λ b w s t rel line ls tl e op es c tys et ets ce ces k. dues_agree p program written sc w0.heap w.heap this heap there b s rel.lite.typed (stands b w s t rel) line ls tl e op es c tys et ets ce ces k;
    keeps = λ line ls s x k good v ty. section_loop_typed p program w0.heap heap sc this there x ty line ls s k good v;
    result = result;
  }

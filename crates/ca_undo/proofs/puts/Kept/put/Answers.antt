use Rattle.std.proofs.Common.{◌∙◌, refl, sym, ap, subst, true≢false}
use Rattle.std.specs.Prelude.{slice_get}
use Rattle.ca_model.specs.Heaps.{HasSlot, stored}
use Rattle.ca_undo.specs.Puts.{before}
use Rattle.ca_undo.proofs.Restoring.{put_undone_by}
use Rattle.ca_model.proofs.Stores.{object_there}
use Rattle.ca_undo.proofs.puts.Kept.put.Goals as goal

pub returns-then-not-has_slot : goal.returns-then-not-has_slot
returns-then-not-has_slot c = record { put = λ e. absurd (true≢false (sym e)); before = refl }

pub get-requires : goal.get-requires
get-requires c = object_there c.args.heap.now c.args.object c.args.field c.args.item (c.has_slot.ensures.0 c.if-not-has_slot.false)

pub returns-then-not-keep : goal.returns-then-not-keep
returns-then-not-keep c = record {
  put = λ e. absurd (true≢false (sym e));
  before = ap (before c.keep.new.self) c.keep.ensures.heap ∙ c.keep.ensures.same c.if-not-keep.true;
}

pub store-requires : goal.store-requires
store-requires c = subst (λ h. HasSlot (slice_get h c.args.object) c.args.field c.args.item) (sym c.keep.ensures.heap) (c.has_slot.ensures.0 c.if-not-has_slot.false)

pub returns : goal.returns
returns c =
    let h = c.args.heap.now in
    let put = c.store.ensures ∙ ap (λ h. stored h c.args.object c.args.field c.args.item c.args.value) c.keep.ensures.heap in
    let back = put_undone_by h c.get.result.now c.args.object c.args.field c.args.item c.args.value c.value_of-there.result (c.has_slot.ensures.0 c.if-not-has_slot.false) c.get.ensures c.value_of-there.ensures in
    record {
      put = λ e. put;
      before = ap (before c.keep.new.self) put ∙ c.keep.ensures.kept c.if-not-keep.false (stored h c.args.object c.args.field c.args.item c.args.value) back;
    }

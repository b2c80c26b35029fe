use Rattle.std.proofs.Common.{◌≡◌, ◌∙◌, refl, sym, ap, subst, true≢false}
use Rattle.std.proofs.lemmas.Option.{slice_get_within}
use Rattle.std.specs.Prelude.{slice_get, slice_set}
use Rattle.ca_model.specs.declared.value.Object.{Object}
use Rattle.ca_model.specs.Slots.{HasItem}
use Rattle.ca_undo.specs.Olds.{item_in}
use Rattle.ca_order_laws.proofs.Places.{one_some}
use Rattle.ca_beside.specs.declared.beside.Changed.{Changed}
use Rattle.ca_beside.specs.Beside.{present, with_value}
use Rattle.ca_beside.proofs.Present.{changed}
use Rattle.ca_undo.specs.declared.puts.Put.{Put}
use Rattle.ca_undo.specs.Puts.{restored}
use Rattle.ca_replica.specs.InPlace.{AllHave, AllWritten, HasCopy}
use Rattle.ca_replica.proofs.InPlace.{all_have_more, all_written_more, has_after_put, present_stored, put_kept}
use Rattle.ca_replica.proofs.values.put_at.Goals as goal

pub object_at-object-requires : goal.object_at-object-requires
object_at-object-requires c = slice_get_within c.args.copies.now c.args.place _ c.requires.there

pub returns-then-not-has : goal.returns-then-not-has
returns-then-not-has c = record { put = λ e. absurd (true≢false (sym e)); same = λ e. refl; before = λ h lt. refl; there = λ a. a; puts = λ ws h w a. a }

pub returns-then-not-keep : goal.returns-then-not-keep
returns-then-not-keep c =
    let cs = c.args.copies.now in
    let same = c.keep.ensures.same c.if-not-keep.true in
    record {
      put = λ e. absurd (true≢false (sym e));
      same = λ e. refl;
      before = λ h lt. ap (λ os. restored os (present h cs)) same;
      there = λ a. subst (λ os. AllHave os cs) (sym same) a;
      puts = λ ws h w a. subst (AllWritten ws h) (sym same) a;
    }

pub store_at-requires : goal.store_at-requires
store_at-requires c =
    let cs = c.args.copies.now in
    let there = c.requires.there in
    record {
      there = slice_get_within cs c.args.place _ there;
      has = λ d e.
          subst (λ (z : Changed). HasItem (slice_get z.object.slots c.args.field) c.args.item) (one_some (slice_get cs c.args.place) (changed c.args.n c.requires.object) d there e)
          (subst (λ (o : Object). HasItem (slice_get o.slots c.args.field) c.args.item) (c.object_at-object.ensures (changed c.args.n c.requires.object) there) (c.has.ensures.0 c.if-not-has.false));
    }

pub returns : goal.returns
returns c =
    let cs = c.args.copies.now in
    let new = c.store_at.new.self in
    let place = c.args.place in
    let n = c.args.n in
    let f = c.args.field in
    let i = c.args.item in
    let v = c.args.value in
    let o = c.requires.object in
    let there = c.requires.there in
    let apart = c.know_apart.ensures in
    let at = c.object_at-object.ensures (changed n o) there in
    let w = c.value_of-there.result in
    let is : new ≡ slice_set cs place (changed n (with_value o f i v)) = c.store_at.ensures (changed n o) there in
    let has : HasItem (slice_get o.slots f) i = subst (λ (z : Object). HasItem (slice_get z.slots f) i) at (c.has.ensures.0 c.if-not-has.false) in
    let was : w ≡ item_in (slice_get o.slots f) i = c.value_of-there.ensures ∙ ap (λ (z : Object). item_in (slice_get z.slots f) i) at in
    let old : Put = record { object = n; field = f; item = i; value = w } in
    let kept = c.keep.ensures.added c.if-not-keep.false in
    record {
      put = λ e h. ap (present h) is ∙ present_stored h cs apart place n o f i v there;
      same = λ e. absurd (true≢false e);
      before = λ h lt. put_kept h cs new apart place n o f i v w c.args.olds.now c.keep.new.self lt there is has was kept;
      there = λ a. all_have_more cs new c.args.olds.now c.keep.new.self old (λ m h. subst (λ ds. HasCopy ds m) (sym is) (has_after_put cs place n o (with_value o f i v) there m h)) kept (place, c.requires) a;
      puts = λ ws h w a. all_written_more ws h c.args.olds.now c.keep.new.self old kept w a;
    }

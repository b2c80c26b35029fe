use Rattle.std.proofs.Common.{◌≡◌, ◌∷◌, ◌∙◌, ℕ, List, sym, ap, subst, true≢false, rules, w64}
use Rattle.std.proofs.lemmas.Int.{to_z-of_z}
use mir.Val.{SFits}
use Rattle.ca_model.specs.declared.value.Object.{Object}
use Rattle.ca_beside.specs.Beside.{present, IsPlace}
use Rattle.ca_undo.specs.Puts.{put_back, restored}
use Rattle.ca_replica.specs.InPlace.{AllHave, AllWritten, HasCopy}
use Rattle.ca_replica.proofs.InPlace.{all_have_more, all_have_on, all_written_more}
use Rattle.ca_replica.proofs.Numbers.{number_back, number_put}
use Rattle.ca_replica.proofs.values.put_and_keep.Goals as goal

pub put_number-requires : goal.put_number-requires
put_number-requires c = (c.args.was, c.requires)

pub put_number_back-requires : goal.put_number_back-requires
put_number_back-requires c = c.put_number.ensures.at

pub returns-then-keep_at_once : goal.returns-then-keep_at_once
returns-then-keep_at_once c =
    let cs = c.args.copies.now in
    let new = c.put_number.new.copies in
    let os = c.args.olds.now in
    let all = c.keep_at_once.new.self in
    let n = c.args.n in
    let g = c.args.field in
    let was = c.args.was in
    let m = c.args.number in
    let k = c.requires in
    let had : SFits w64 was = search rules in
    let small : SFits w64 m = search rules in
    let put = rw (to_z-of_z w64 m small) at c.put_number.ensures.put in
    let at : IsPlace cs c.args.place n = record { object = k.object; there = k.there } in
    let kept : all ≡ number_put n g was ∷ os = rw (to_z-of_z w64 was had) at (c.keep_at_once.ensures.added c.if-keep_at_once.true) in
    record {
      put = λ e. put;
      same = λ e. absurd (true≢false e);
      none = λ e. absurd (true≢false e);
      before = λ h. ap (λ xs. restored xs (present h new)) kept ∙ ap (restored os) (ap (put_back (number_put n g was)) (put h) ∙ number_back h cs c.args.place n g was m k);
      has = c.put_number.ensures.has;
      there = all_have_more cs new os all (number_put n g was) c.put_number.ensures.has kept (c.args.place, at);
      puts = λ ws h w. all_written_more ws h os all (number_put n g was) kept w;
    }

pub returns : goal.returns
returns c =
    let cs = c.args.copies.now in
    let mid = c.put_number.new.copies in
    let new = c.put_number_back.new.copies in
    let os = c.args.olds.now in
    let n = c.args.n in
    let g = c.args.field in
    let was = c.args.was in
    let m = c.args.number in
    let had : SFits w64 was = search rules in
    let small : SFits w64 m = search rules in
    let put = rw (to_z-of_z w64 m small) at c.put_number.ensures.put in
    let back = rw (to_z-of_z w64 was had) at c.put_number_back.ensures.back in
    let same = λ (h : List Object). back h ∙ (ap (put_back (number_put n g was)) (put h) ∙ number_back h cs c.args.place n g was m c.requires) in
    let none = c.keep_at_once.ensures.same c.if-keep_at_once.false in
    let has : (i : ℕ) → HasCopy cs i → HasCopy new i = λ i a. c.put_number_back.ensures.has i (c.put_number.ensures.has i a) in
    record {
      put = λ e. absurd (true≢false (sym e));
      same = λ e. same;
      none = λ e. none;
      before = λ h. ap (λ xs. restored xs (present h new)) none ∙ ap (restored os) (same h);
      has = has;
      there = λ a. subst (λ xs. AllHave xs new) (sym none) (all_have_on cs new has os a);
      puts = λ ws h w a. subst (AllWritten ws h) (sym none) a;
    }

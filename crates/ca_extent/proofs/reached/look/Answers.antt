use Rattle.std.proofs.Common.{◌≡◌, ◌<◌, false, length, get_or, refl, sym, ◌∙◌, arith}
use Rattle.std.proofs.lemmas.List.{get_or_read}
use Rattle.ca_extent.specs.clauses.Reached.{read}
use Rattle.ca_extent.proofs.reached.look.Goals as goal

pub returns : goal.returns
returns c =
    let at : c.index-number.result.now ≡ get_or c.args.met.now.items c.args.place 0 = get_or_read c.args.met.now.items c.args.place c.index-number.result.now c.requires c.index-number.ensures 0 in
    let known : c.index-number.result.now < length c.args.marks.now.items = omega arith in
    let clear : get_or c.args.marks.now.items c.index-number.result.now false ≡ false = sym (get_or_read c.args.marks.now.items c.index-number.result.now c.index.result.now known c.index.ensures false) ∙ c.if-index.false in
    read c.index-number.result.now at known clear refl (rw c.body_at.ensures at c.in_ok-add_all_numbers.ensures)

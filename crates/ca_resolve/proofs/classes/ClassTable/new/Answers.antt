use Rattle.std.proofs.Common.{◌≡◌, ◌∙◌, ℕ, List, ap, sym, map, refl}
use Rattle.ca_tree.specs.View.{class_view, member_view}
use Rattle.ca_resolve.specs.Scopes.{Numbers, Meaning, Classes, class_names, meanings}
use Rattle.ca_resolve.specs.View.{numbers_view, members_view}
use Rattle.ca_resolve.proofs.Tables.{list_start, list_step, list_end}
use Rattle.ca_resolve.proofs.classes.ClassTable.new.Goals as goal

abbrev first : Numbers
first = record { field = 0; operation = 0; function = 0 }

pub loop-class-init : goal.loop-class-init
loop-class-init c =
    let n = c.new-next.result in
    let zero : numbers_view n ≡ first = rw (c.new-next.ensures.field, c.new-next.ensures.operation, c.new-next.ensures.function) refl in
    list_start (class_names (map class_view c.args.classes.now)) first c.args.classes.now c.new-members.result.items n.class (numbers_view n) c.new-members.ensures.items c.new-next.ensures.class zero

pub loop-class-preserved : goal.loop-class-preserved
loop-class-preserved c =
    let names = class_names (map class_view c.args.classes.now) in
    let members = c.deref.result.now in
    let next = c.loop-class.next in
    list_step names first c.args.classes.now c.loop-class.class-index c.class-item.result members c.loop-class.members.items c.push.new.self.items c.in_ok-table.table next.class c.in_ok-table.after.class (numbers_view next) (numbers_view c.in_ok-table.after)
    c.loop-class-test.true c.class-item.is c.deref.ensures.value
    (c.in_ok-table.ensures.table ∙ ap (λ (ns : List (List ℕ)). meanings ns next.class (numbers_view next) (map member_view members)) c.in_ok-names.ensures)
    c.in_ok-table.ensures.class c.in_ok-table.ensures.numbers c.in_ok-push.ensures.items c.loop-class.invariant

pub returns : goal.returns
returns c =
    let names = class_names (map class_view c.args.classes.now) in
    let all = list_end names first c.args.classes.now c.loop-class.class-index c.loop-class.members.items c.loop-class.next.class (numbers_view c.loop-class.next) c.loop-class-test.false c.loop-class.invariant in
    let tables = map members_view c.loop-class.members.items in
    let of : List (List ℕ) → List (List (List ℕ × Meaning)) → Classes = λ ns ms. record { names = ns; members = ms } in
    ap (λ ns. of ns tables) c.in_ok-names.ensures ∙ ap (of names) (sym all)

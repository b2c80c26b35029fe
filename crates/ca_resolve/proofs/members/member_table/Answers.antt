use Rattle.std.proofs.Common.{◌∙◌, ◌+◌, ap, sym, refl, List, ℕ, map}
use Rattle.std.specs.List.{zip}
use Rattle.ca_tree.specs.View.{member_view}
use Rattle.ca_resolve.specs.Scopes.{Numbers, meaning_of}
use Rattle.ca_resolve.specs.View.{numbers_view, meaning_view}
use Rattle.ca_resolve.proofs.Tables.{table_start, table_step, table_end}
use Rattle.ca_resolve.proofs.members.member_table.Goals as goal

pub loop-member-init : goal.loop-member-init
loop-member-init c = (table_start c.args.classes.now c.args.numbers.class (numbers_view c.args.numbers) c.args.members.now c.new-names.result.items c.new-meanings.result.items c.new-names.ensures.items c.new-meanings.ensures.items, refl)

pub loop-member-preserved : goal.loop-member-preserved
loop-member-preserved c =
    let x = c.member-item.result in (
      table_step c.args.classes.now c.args.numbers.class (numbers_view c.args.numbers) c.args.members.now c.loop-member.member-index x c.loop-member.names.items c.push.new.self.items c.loop-member.meanings.items c.push-in-loop-member.new.self.items
          c.member_name.result c.in_ok-meaning_of.field-0 (numbers_view c.loop-member.next) (numbers_view c.in_ok-next.next) c.loop-member-test.true c.member-item.is c.member_name.ensures
          (c.in_ok-meaning_of.ensures ∙ ap (λ k. meaning_of c.args.classes.now k (numbers_view c.loop-member.next) (member_view x)) c.loop-member.invariant.1)
          c.in_ok-next.ensures.numbers c.in_ok-push.ensures.items c.in_ok-push-2.ensures.items c.loop-member.invariant.0,
      c.in_ok-next.ensures.class ∙ c.loop-member.invariant.1,
    )

pub returns-clause-table : goal.returns-clause-table
returns-clause-table c =
    let e = table_end c.args.classes.now c.args.numbers.class (numbers_view c.args.numbers) c.args.members.now c.loop-member.member-index c.loop-member.names.items c.loop-member.meanings.items (numbers_view c.loop-member.next) c.loop-member-test.false c.loop-member.invariant.0 in
    ap (λ (ns : List (List ℕ)). zip ns (map meaning_view c.loop-member.meanings.items)) c.in_ok-names.ensures ∙ sym e.0

pub returns-clause-class : goal.returns-clause-class
returns-clause-class c = c.in_ok-one_more.ensures ∙ ap (λ n. n + 1) c.loop-member.invariant.1

pub returns-clause-numbers : goal.returns-clause-numbers
returns-clause-numbers c =
    let e = table_end c.args.classes.now c.args.numbers.class (numbers_view c.args.numbers) c.args.members.now c.loop-member.member-index c.loop-member.names.items c.loop-member.meanings.items (numbers_view c.loop-member.next) c.loop-member-test.false c.loop-member.invariant.0 in
    ap (λ (n : Numbers). record { field = 0; operation = n.operation; function = n.function }) (sym e.1)

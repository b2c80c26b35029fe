use Rattle.std.proofs.Common.{◌≡◌, false, Err, sym, ap, ◌∙◌}
use Rattle.std.proofs.lemmas.Result.{err_from_is_err_and}
use Rattle.ca_tree.specs.declared.tree.AssignOp.TheVariants.{Put}
use Rattle.ca_program.specs.View.{expression_view, program_view}
use Rattle.ca_shared_terms.specs.declared.errors.ExecutionError.TheVariants.{Large}
use Rattle.ca_symbolic.specs.States.{term_at}
use Rattle.ca_symbolic.specs.Execution.{term_of}
use Rattle.ca_symbolic.specs.Demands.{demands_in}
use Rattle.ca_symbolic.specs.Demanded.{with_demands}
use Rattle.ca_symbolic.specs.clauses.Refusals.{refused_item, with_put, refused_value, put_sum, refused_sum}
use Rattle.ca_symbolic.proofs.Alike.{own_item_alike}
use Rattle.ca_symbolic.proofs.Flags.{again}
use Rattle.ca_forms.proofs.Told.{on_ok}
use Rattle.ca_symbolic.proofs.Making.{makes_as}
use Rattle.ca_symbolic.proofs.Summing.{was_ok, sum_made, sum_not_made, sum_demands, sum_behind, sum_seen_large, sum_not_refused}
use Rattle.ca_symbolic.proofs.Valued.{guard_of}
use Rattle.ca_symbolic.proofs.puts.put_sum.Goals as goal

pub look_at_item-seen-requires : goal.look_at_item-seen-requires
look_at_item-seen-requires c =
    record { item = own_item_alike c.args.field (expression_view c.args.i.now) (expression_view c.args.left.now) (sym c.is_item.ensures ∙ c.if-is_item.true) }

pub returns-in_err-kept : goal.returns-in_err-kept
returns-in_err-kept c =
    let a = c.args in
    let q = err_from_is_err_and c.from_residual.result c.from_residual.ensures.1 in
    record {
      made = rw q.1 tt;
      demands = rw q.1 tt;
      light = rw q.1 tt;
      large = λ told. sum_seen_large (program_view a.program.now) a.state.now a.field (expression_view a.i.now) a.op a.index (expression_view a.left.now) (expression_view a.right.now) (expression_view a.e.now)
          a.out.now.guard (sym c.is_item.ensures ∙ c.if-is_item.true) (c.look_at_item-seen.ensures.large (c.in_err-kept.ensures.large (ap (λ e. Err e) (again c.from_residual.result q.0 c.in_err-kept.field-0.0 Large q.1 q.2 told))));
    }

pub returns-in_ok-kept : goal.returns-in_ok-kept
returns-in_ok-kept c =
    let a = c.args in
    let seen : c.look_at_item-seen.new.out ≡ with_demands a.out.now (demands_in (program_view a.program.now) a.state.now a.out.now.guard (expression_view a.left.now)) =
    was_ok c.look_at_item-seen.result c.in_ok-kept.kept.1 _ c.in_ok-kept.ensures.made c.look_at_item-seen.ensures.demands in
    let light : refused_item (program_view a.program.now) a.state.now a.out.now.guard (expression_view a.left.now) ≡ false =
    was_ok c.look_at_item-seen.result c.in_ok-kept.kept.1 _ c.in_ok-kept.ensures.made c.look_at_item-seen.ensures.light in
    let guard = guard_of a.out.now c.look_at_item-seen.new.out (demands_in (program_view a.program.now) a.state.now a.out.now.guard (expression_view a.left.now)) seen in
    let w = makes_as c.with_value.result
    (with_put a.op (term_at a.state.now.fields a.field.field) c.in_ok-kept.kept.0 (term_of (program_view a.program.now) a.state.now (expression_view a.right.now))) (put_sum (program_view a.program.now) a.state.now a.field (expression_view a.i.now) a.op a.index (expression_view a.left.now) (expression_view a.right.now) (expression_view a.e.now))
    (refused_value (program_view a.program.now) a.state.now c.look_at_item-seen.new.out.guard a.field a.op c.in_ok-kept.kept.0 (expression_view a.right.now))
    (refused_sum (program_view a.program.now) a.state.now a.out.now.guard a.field (expression_view a.i.now) a.op a.index (expression_view a.left.now) (expression_view a.right.now) (expression_view a.e.now))
    (sum_made (program_view a.program.now) a.state.now a.field (expression_view a.i.now) a.op a.index (expression_view a.left.now) (expression_view a.right.now) (expression_view a.e.now) (sym c.is_item.ensures ∙ c.if-is_item.true) c.in_ok-kept.kept.0 c.in_ok-kept.ensures.value)
    (sum_behind (program_view a.program.now) a.state.now a.field (expression_view a.i.now) a.op a.index (expression_view a.left.now) (expression_view a.right.now) (expression_view a.e.now)
    a.out.now.guard c.look_at_item-seen.new.out.guard c.in_ok-kept.kept.0 guard c.in_ok-kept.ensures.value (sym c.is_item.ensures ∙ c.if-is_item.true) light)
    c.with_value.ensures.made c.with_value.ensures.light c.with_value.ensures.large in
    record {
      made = w.made;
      demands = on_ok c.with_value.result _ _ (λ last. sum_demands (program_view a.program.now) a.state.now a.field (expression_view a.i.now) a.op a.index (expression_view a.left.now) (expression_view a.right.now) (expression_view a.e.now)
          a.out.now c.look_at_item-seen.new.out c.with_value.new.out seen last (c.requires.whole a.out.now.guard)) c.with_value.ensures.demands;
      light = w.light;
      large = w.large;
    }

pub returns-else-is_item : goal.returns-else-is_item
returns-else-is_item c =
    let a = c.args in
    let w = makes_as c.with_value-else-is_item.result
    (with_put Put (term_at a.state.now.fields a.field.field) a.index (term_of (program_view a.program.now) a.state.now (expression_view a.e.now))) (put_sum (program_view a.program.now) a.state.now a.field (expression_view a.i.now) a.op a.index (expression_view a.left.now) (expression_view a.right.now) (expression_view a.e.now))
    (refused_value (program_view a.program.now) a.state.now a.out.now.guard a.field Put a.index (expression_view a.e.now))
    (refused_sum (program_view a.program.now) a.state.now a.out.now.guard a.field (expression_view a.i.now) a.op a.index (expression_view a.left.now) (expression_view a.right.now) (expression_view a.e.now))
    (sum_not_made (program_view a.program.now) a.state.now a.field (expression_view a.i.now) a.op a.index (expression_view a.left.now) (expression_view a.right.now) (expression_view a.e.now) (sym c.is_item.ensures ∙ c.if-is_item.false))
    (sum_not_refused (program_view a.program.now) a.state.now a.field (expression_view a.i.now) a.op a.index (expression_view a.left.now) (expression_view a.right.now) (expression_view a.e.now) a.out.now.guard (sym c.is_item.ensures ∙ c.if-is_item.false))
    c.with_value-else-is_item.ensures.made c.with_value-else-is_item.ensures.light c.with_value-else-is_item.ensures.large in
    record { made = w.made; demands = c.with_value-else-is_item.ensures.demands; light = w.light; large = w.large }

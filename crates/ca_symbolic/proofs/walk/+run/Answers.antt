use Rattle.std.proofs.Common.{◌≡◌, ◌+◌, false, true, Err, OnOk, drop, refl, sym, ap, subst, ◌∙◌}
use Rattle.std.proofs.lemmas.List.{drop_all}
use Rattle.std.proofs.lemmas.Result.{err_from_is_err_and}
use Rattle.ca_lists.proofs.Places.{item_and_rest}
use Rattle.ca_program.specs.Plain.{put_local, put_field, put_item, invoke, statement_and}
use Rattle.ca_program.specs.View.{program_view, expression_view, expressions_view, form_view, statement_view, statements_view}
use Rattle.ca_shared_terms.specs.declared.errors.ExecutionError.TheVariants.{Large}
use Rattle.ca_symbolic.specs.Execution.{after}
use Rattle.ca_symbolic.specs.Demands.{demanded}
use Rattle.ca_symbolic.specs.Demanded.{with_demands}
use Rattle.ca_symbolic.specs.clauses.Refusals.{refused_by}
use Rattle.ca_symbolic.proofs.Flags.{always, again, made_is_light}
use Rattle.ca_symbolic.proofs.Ran.{ran_as, cut_short, if_condition, if_then, if_first, if_else_heavy, if_second, if_told}
use Rattle.ca_symbolic.proofs.Rows.{runs_heavy, runs_step, runs_after, runs_demand, runs_light}
use Rattle.ca_symbolic.proofs.Told.{loop_after, loop_told, loop_refused, loop_read}
use Rattle.ca_symbolic.proofs.Views.{if_is}
use Rattle.ca_symbolic.proofs.walk.+run.Goals as goal
use Rattle.ca_sweep.proofs.Blocks.{block_view}

pub run-returns-in-Block-clause-after : goal.run-returns-in-Block-clause-after
run-returns-in-Block-clause-after t c =
    subst (λ x. OnOk c.run_all.result (c.run_all.new.state ≡ after (program_view c.args.program.now) c.args.state.now x)) (sym (block_view c.args.s.now c.in-Block.stmts c.in-Block.is)) (rw c.deref.ensures.value at c.run_all.ensures.after)

pub run-returns-in-Block-clause-demands : goal.run-returns-in-Block-clause-demands
run-returns-in-Block-clause-demands t c =
    subst (λ x. OnOk c.run_all.result (c.run_all.new.out ≡ with_demands c.args.out.now (demanded (program_view c.args.program.now) c.args.state.now c.args.out.now.guard x))) (sym (block_view c.args.s.now c.in-Block.stmts c.in-Block.is)) (rw c.deref.ensures.value at c.run_all.ensures.demands)

pub run-returns-in-Block-clause-light : goal.run-returns-in-Block-clause-light
run-returns-in-Block-clause-light t c =
    subst (λ x. OnOk c.run_all.result (refused_by (program_view c.args.program.now) c.args.state.now c.args.out.now.guard x ≡ false)) (sym (block_view c.args.s.now c.in-Block.stmts c.in-Block.is)) (rw c.deref.ensures.value at c.run_all.ensures.light)

pub run-returns-in-Block-clause-large : goal.run-returns-in-Block-clause-large
run-returns-in-Block-clause-large t c =
    subst (λ x. c.run_all.result ≡ Err Large → refused_by (program_view c.args.program.now) c.args.state.now c.args.out.now.guard x ≡ true) (sym (block_view c.args.s.now c.in-Block.stmts c.in-Block.is)) (rw c.deref.ensures.value at c.run_all.ensures.large)

pub run-returns-in-PutLocal : goal.run-returns-in-PutLocal
run-returns-in-PutLocal t c =
    let a = c.args in
    let x = statement_view a.s.now in
    let v = c.in-PutLocal in
    let w = ran_as (program_view a.program.now) a.state.now c.put_local.new.state a.out.now c.put_local.new.out c.put_local.result x (put_local a.s.now.line v.id v.op (expression_view v.e)) (ap (λ k. form_view k a.s.now.line) v.is) c.put_local.ensures.after c.put_local.ensures.demands c.put_local.ensures.light c.put_local.ensures.large in
    record { after = w.state; demands = w.demands; light = w.light; large = w.large }

pub run-returns-in-PutField : goal.run-returns-in-PutField
run-returns-in-PutField t c =
    let a = c.args in
    let x = statement_view a.s.now in
    let v = c.in-PutField in
    let w = ran_as (program_view a.program.now) a.state.now c.put_field.new.state a.out.now c.put_field.new.out c.put_field.result x (put_field a.s.now.line v.id v.op (expression_view v.e)) (ap (λ k. form_view k a.s.now.line) v.is) c.put_field.ensures.after c.put_field.ensures.demands c.put_field.ensures.light c.put_field.ensures.large in
    record { after = w.state; demands = w.demands; light = w.light; large = w.large }

pub run-returns-in-PutItem : goal.run-returns-in-PutItem
run-returns-in-PutItem t c =
    let a = c.args in
    let x = statement_view a.s.now in
    let v = c.in-PutItem in
    let w = ran_as (program_view a.program.now) a.state.now c.put_item.new.state a.out.now c.put_item.new.out c.put_item.result x (put_item a.s.now.line v.id (expression_view v.i) v.op (expression_view v.e)) (ap (λ k. form_view k a.s.now.line) v.is) c.put_item.ensures.after c.put_item.ensures.demands c.put_item.ensures.light c.put_item.ensures.large in
    record { after = w.state; demands = w.demands; light = w.light; large = w.large }

pub run-returns-in-Invoke : goal.run-returns-in-Invoke
run-returns-in-Invoke t c =
    let a = c.args in
    let x = statement_view a.s.now in
    let v = c.in-Invoke in
    let w = ran_as (program_view a.program.now) a.state.now a.state.now a.out.now c.invoke.new.out c.invoke.result x (invoke a.s.now.line (expression_view v.e) v.op (expressions_view v.args.items)) (ap (λ k. form_view k a.s.now.line) v.is)
    (always c.invoke.result (a.state.now ≡ a.state.now) refl) (rw c.deref-in-Invoke.ensures.value at c.invoke.ensures.demands) (rw c.deref-in-Invoke.ensures.value at c.invoke.ensures.light) (rw c.deref-in-Invoke.ensures.value at c.invoke.ensures.large) in
    record { after = w.state; demands = w.demands; light = w.light; large = w.large }

pub run-run_loop-requires : goal.run-run_loop-requires
run-run_loop-requires t c =
    record { reads = rw c.deref-in-For.ensures (loop_read (statement_view c.args.s.now) _ _ _ _ _ _ _ (ap (λ k. form_view k c.args.s.now.line) c.in-For.is)) }

pub run-returns-in-For : goal.run-returns-in-For
run-returns-in-For t c =
    let a = c.args in
    let x = statement_view a.s.now in
    let r = c.run_loop in
    let is = ap (λ k. form_view k a.s.now.line) c.in-For.is in
    record {
      after = subst (λ z. OnOk r.result (r.new.state ≡ z)) (sym (loop_after (program_view a.program.now) a.state.now a.out.now.guard x _ _ _ _ _ _ _ is)) r.ensures.after;
      demands = subst (λ ds. OnOk r.result (r.new.out ≡ with_demands a.out.now ds)) (sym (loop_told (program_view a.program.now) a.state.now a.out.now.guard x _ _ _ _ _ _ _ is)) r.ensures.demands;
      light = subst (λ b. OnOk r.result (b ≡ false)) (sym (loop_refused (program_view a.program.now) a.state.now a.out.now.guard x _ _ _ _ _ _ _ is)) r.ensures.light;
      large = λ told. subst (λ b. b ≡ true) (sym (loop_refused (program_view a.program.now) a.state.now a.out.now.guard x _ _ _ _ _ _ _ is)) (r.ensures.large told);
    }

pub run-returns-in_err-condition-in-If : goal.run-returns-in_err-condition-in-If
run-returns-in_err-condition-in-If t c =
    let a = c.args in
    let x = statement_view a.s.now in
    let v = c.in-If in
    let is = if_is a.s.now v.c v.yes v.no v.is in
    let q = err_from_is_err_and c.from_residual.result c.from_residual.ensures.1 in
    let w = cut_short (program_view a.program.now) a.state.now a.state.now a.out.now c.value_of.new.out c.from_residual.result x q.0 c.in_err-condition-in-If.field-0.0 q.1 q.2
    (λ told. if_condition (program_view a.program.now) a.state.now a.out.now x a.s.now.line (expression_view v.c) (statement_view v.yes.value) (statement_view v.no.value) is (c.in_err-condition-in-If.ensures.large (ap (λ e. Err e) told))) in
    record { after = w.state; demands = w.demands; light = w.light; large = w.large }

pub run-returns-in_err-fork-in-If : goal.run-returns-in_err-fork-in-If
run-returns-in_err-fork-in-If t c =
    let a = c.args in
    let x = statement_view a.s.now in
    let v = c.in-If in
    let is = if_is a.s.now v.c v.yes v.no v.is in
    let q = err_from_is_err_and c.from_residual-in_err-fork-in-If.result c.from_residual-in_err-fork-in-If.ensures.1 in
    let w = cut_short (program_view a.program.now) a.state.now a.state.now a.out.now c.begin_then.new.out c.from_residual-in_err-fork-in-If.result x q.0 c.in_err-fork-in-If.field-0.0 q.1 q.2
    (λ told. if_then (program_view a.program.now) a.state.now a.out.now x a.s.now.line (expression_view v.c) (statement_view v.yes.value) (statement_view v.no.value) is
    c.in_ok-condition-in-If.condition c.value_of.new.out c.in_ok-condition-in-If.ensures.made c.in_ok-condition-in-If.ensures.demands (c.in_err-fork-in-If.ensures.large (ap (λ e. Err e) told))) in
    record { after = w.state; demands = w.demands; light = w.light; large = w.large }

pub run-returns-in_err-first-in-If : goal.run-returns-in_err-first-in-If
run-returns-in_err-first-in-If t c =
    let a = c.args in
    let x = statement_view a.s.now in
    let v = c.in-If in
    let is = if_is a.s.now v.c v.yes v.no v.is in
    let q = err_from_is_err_and c.from_residual-in_err-first-in-If.result c.from_residual-in_err-first-in-If.ensures.1 in
    let w = cut_short (program_view a.program.now) a.state.now c.run.new.state a.out.now c.run.new.out c.from_residual-in_err-first-in-If.result x q.0 c.in_err-first-in-If.field-0.0 q.1 q.2
    (λ told. if_first (program_view a.program.now) a.state.now a.out.now x a.s.now.line (expression_view v.c) (statement_view v.yes.value) (statement_view v.no.value) is
    c.in_ok-condition-in-If.condition c.value_of.new.out c.in_ok-condition-in-If.ensures.made c.in_ok-condition-in-If.ensures.demands c.begin_then.new.out c.in_ok-fork-in-If.ensures.entered ((rw c.deref-in-If.ensures at c.run.ensures.large) (c.in_err-first-in-If.ensures.large (ap (λ e. Err e) told)))) in
    record { after = w.state; demands = w.demands; light = w.light; large = w.large }

pub run-returns-in_err-fork-in-If-2 : goal.run-returns-in_err-fork-in-If-2
run-returns-in_err-fork-in-If-2 t c =
    let a = c.args in
    let x = statement_view a.s.now in
    let v = c.in-If in
    let is = if_is a.s.now v.c v.yes v.no v.is in
    let q = err_from_is_err_and c.from_residual-in_err-fork-in-If-2.result c.from_residual-in_err-fork-in-If-2.ensures.1 in
    let w = cut_short (program_view a.program.now) a.state.now c.begin_else.new.state a.out.now c.begin_else.new.out c.from_residual-in_err-fork-in-If-2.result x q.0 c.in_err-fork-in-If-2.field-0.0 q.1 q.2
    (λ told. if_else_heavy (program_view a.program.now) a.state.now a.out.now x a.s.now.line (expression_view v.c) (statement_view v.yes.value) (statement_view v.no.value) is
    c.in_ok-condition-in-If.condition c.value_of.new.out c.in_ok-condition-in-If.ensures.made c.in_ok-condition-in-If.ensures.demands c.begin_then.new.out c.in_ok-fork-in-If.ensures.entered
    c.in_ok-first-in-If.first.0 (c.in_ok-first-in-If.ensures.value ∙ c.in_ok-fork-in-If.ensures.fork) (c.in_err-fork-in-If-2.ensures.large (ap (λ e. Err e) told))) in
    record { after = w.state; demands = w.demands; light = w.light; large = w.large }

pub run-returns-in_err-second-in-If : goal.run-returns-in_err-second-in-If
run-returns-in_err-second-in-If t c =
    let a = c.args in
    let x = statement_view a.s.now in
    let v = c.in-If in
    let is = if_is a.s.now v.c v.yes v.no v.is in
    let q = err_from_is_err_and c.from_residual-in_err-second-in-If.result c.from_residual-in_err-second-in-If.ensures.1 in
    let w = cut_short (program_view a.program.now) a.state.now c.run-in-If.new.state a.out.now c.run-in-If.new.out c.from_residual-in_err-second-in-If.result x q.0 c.in_err-second-in-If.field-0.0 q.1 q.2
    (λ told. if_second (program_view a.program.now) a.state.now a.out.now x a.s.now.line (expression_view v.c) (statement_view v.yes.value) (statement_view v.no.value) is
    c.in_ok-condition-in-If.condition c.value_of.new.out c.in_ok-condition-in-If.ensures.made c.in_ok-condition-in-If.ensures.demands c.begin_then.new.out c.in_ok-fork-in-If.ensures.entered
    c.in_ok-first-in-If.first.0 (c.in_ok-first-in-If.ensures.value ∙ c.in_ok-fork-in-If.ensures.fork)
    c.run.new.out c.begin_else.new.out c.begin_else.new.state (rw (c.in_ok-first-in-If.ensures.made, c.deref-in-If.ensures) at c.run.ensures.demands) c.in_ok-fork-in-If-2.ensures.entered c.in_ok-fork-in-If-2.ensures.state
    ((rw c.deref-in-If-2.ensures at c.run-in-If.ensures.large) (c.in_err-second-in-If.ensures.large (ap (λ e. Err e) told)))) in
    record { after = w.state; demands = w.demands; light = w.light; large = w.large }

pub run-returns-in_ok-second-in-If : goal.run-returns-in_ok-second-in-If
run-returns-in_ok-second-in-If t c =
    let a = c.args in
    let x = statement_view a.s.now in
    let v = c.in-If in
    let is = if_is a.s.now v.c v.yes v.no v.is in
    let w = if_told (program_view a.program.now) a.state.now a.out.now x a.s.now.line (expression_view v.c) (statement_view v.yes.value) (statement_view v.no.value) is
    c.in_ok-condition-in-If.condition c.value_of.new.out c.in_ok-condition-in-If.ensures.made c.in_ok-condition-in-If.ensures.demands c.begin_then.new.out c.in_ok-fork-in-If.ensures.entered
    c.in_ok-first-in-If.first.0 (c.in_ok-first-in-If.ensures.value ∙ c.in_ok-fork-in-If.ensures.fork)
    c.run.new.out c.begin_else.new.out c.begin_else.new.state (rw (c.in_ok-first-in-If.ensures.made, c.deref-in-If.ensures) at c.run.ensures.demands) c.in_ok-fork-in-If-2.ensures.entered c.in_ok-fork-in-If-2.ensures.state
    c.end_if.result c.in_ok-second-in-If.second.0 c.run.new.state c.run-in-If.new.state c.end_if.new.state c.run-in-If.new.out c.end_if.new.out
    (rw (c.in_ok-first-in-If.ensures.made, c.deref-in-If.ensures) at c.run.ensures.after) (c.in_ok-second-in-If.ensures.value ∙ c.in_ok-fork-in-If-2.ensures.fork)
    (rw (c.in_ok-second-in-If.ensures.made, c.deref-in-If-2.ensures) at c.run-in-If.ensures.after) (rw (c.in_ok-second-in-If.ensures.made, c.deref-in-If-2.ensures) at c.run-in-If.ensures.demands)
    c.in_ok-condition-in-If.ensures.light c.in_ok-fork-in-If.ensures.light (rw (c.in_ok-first-in-If.ensures.made, c.deref-in-If.ensures) at c.run.ensures.light) c.in_ok-fork-in-If-2.ensures.light (rw (c.in_ok-second-in-If.ensures.made, c.deref-in-If-2.ensures) at c.run-in-If.ensures.light)
    (rw (c.deref-in-If-3.ensures, c.deref-in-If-4.ensures) at c.end_if.ensures.joined) c.end_if.ensures.ended (rw (c.deref-in-If-3.ensures, c.deref-in-If-4.ensures) at c.end_if.ensures.light) (rw (c.deref-in-If-3.ensures, c.deref-in-If-4.ensures) at c.end_if.ensures.large) in
    record { after = w.state; demands = w.demands; light = w.light; large = w.large }

pub run_all-statements-preserved : goal.run_all-statements-preserved
run_all-statements-preserved t c =
    let a = c.args in
    let l = c.statements.invariant in
    let rest = statements_view (drop (c.statements.s-index + 1) a.stmts.now) in
    let opened : statements_view (drop c.statements.s-index a.stmts.now) ≡ statement_and (statement_view c.s-item.result) rest =
    ap statements_view (item_and_rest a.stmts.now c.statements.s-index c.s-item.result c.statements-test.true c.s-item.is) in
    let ran = c.in_ok-run.ensures in
    runs_step (program_view a.program.now) a.state.now c.statements.state a.out.now c.statements.out (statements_view a.stmts.now) (statements_view (drop c.statements.s-index a.stmts.now)) l.0 l.1 l.2 l.3 (statement_view c.s-item.result) rest opened c.run.new.state c.run.new.out ran.after ran.demands ran.light

pub run_all-returns-in_err-run : goal.run_all-returns-in_err-run
run_all-returns-in_err-run t c =
    let a = c.args in
    let l = c.statements.invariant in
    let rest = statements_view (drop (c.statements.s-index + 1) a.stmts.now) in
    let opened : statements_view (drop c.statements.s-index a.stmts.now) ≡ statement_and (statement_view c.s-item.result) rest =
    ap statements_view (item_and_rest a.stmts.now c.statements.s-index c.s-item.result c.statements-test.true c.s-item.is) in
    let q = err_from_is_err_and c.from_residual.result c.from_residual.ensures.1 in
    record {
      after = rw q.1 tt;
      demands = rw q.1 tt;
      light = rw q.1 tt;
      large = λ told. runs_heavy (program_view a.program.now) a.state.now c.statements.state a.out.now c.statements.out (statements_view a.stmts.now) (statements_view (drop c.statements.s-index a.stmts.now)) l.0 l.1 l.2 l.3 (statement_view c.s-item.result) rest opened
          (c.in_err-run.ensures.large (ap (λ e. Err e) (again c.from_residual.result q.0 c.in_err-run.field-0.0 Large q.1 q.2 told)));
    }

pub run_all-returns : goal.run_all-returns
run_all-returns t c =
    let a = c.args in
    let l = c.statements.invariant in
    let ended = ap statements_view (drop_all c.statements.s-index a.stmts.now c.statements-test.false) in
    record {
      after = runs_after (program_view a.program.now) a.state.now c.statements.state a.out.now c.statements.out (statements_view a.stmts.now) (statements_view (drop c.statements.s-index a.stmts.now)) l.0 l.1 l.2 l.3 ended;
      demands = runs_demand (program_view a.program.now) a.state.now c.statements.state a.out.now c.statements.out (statements_view a.stmts.now) (statements_view (drop c.statements.s-index a.stmts.now)) l.0 l.1 l.2 l.3 ended;
      light = runs_light (program_view a.program.now) a.state.now c.statements.state a.out.now c.statements.out (statements_view a.stmts.now) (statements_view (drop c.statements.s-index a.stmts.now)) l.0 l.1 l.2 l.3 ended;
      large = λ told. absurd (made_is_light told);
    }

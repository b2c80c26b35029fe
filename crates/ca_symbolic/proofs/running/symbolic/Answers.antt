use Rattle.std.proofs.Common.{rules, ◌≡◌, ◌||◌, Bool, Some, None, Err, sym, ap, ap₂, ◌∙◌}
use Rattle.std.specs.List.{list_any}
use Rattle.ca_program.specs.View.{method_view, program_view, statements_view}
use Rattle.ca_norm.specs.Terms.{PlainTerm}
use Rattle.ca_shared_terms.specs.Heavy.{is_heavy}
use Rattle.ca_symbolic.specs.States.{State, first_locals}
use Rattle.ca_symbolic.specs.Execution.{after_all}
use Rattle.ca_symbolic.specs.Demands.{demanded_all}
use Rattle.ca_symbolic.specs.Demanded.{with_demands}
use Rattle.ca_symbolic.specs.clauses.Refusals.{refused_by_all}
use Rattle.ca_symbolic.specs.Runs.{group_of, with_locals, executed, first_other_loop}
use Rattle.ca_symbolic.proofs.Bodies.{executed_is, demanded_is, heavy_is}
use Rattle.ca_symbolic.proofs.running.symbolic.Goals as goal

pub returns-in-Ok-clause-light : goal.returns-in-Ok-clause-light
returns-in-Ok-clause-light c =
    let m = c.op-method.result.now in
    let p = program_view c.args.program.now in
    let s : State = c.args.state.now in
    let begun : c.begin.new.self ≡ with_locals s (first_locals (group_of c.args.side) (Some (method_view m))) =
    c.in_ok-begin.ensures ∙ ap (λ g. with_locals s (first_locals g (Some (method_view m)))) c.group.ensures in
    let behind : c.run_all.new.state ≡ executed p c.args.op (group_of c.args.side) s.fields =
    (rw c.deref.ensures.value at c.in-Ok.ensures.after)
    ∙ (ap (λ (t : State). after_all p t (statements_view m.body.stmts.items)) begun ∙ sym (executed_is c.args.program.now c.args.op m c.op-method.ensures (group_of c.args.side) s)) in
    heavy_is c.args.program.now c.args.op m c.op-method.ensures (group_of c.args.side) s
    ∙ ap₂ (λ (a b : Bool). a || b)
    (ap₂ (λ (t : State) (g : PlainTerm). refused_by_all p t g (statements_view m.body.stmts.items)) (sym begun) (sym c.requires.outside) ∙ (rw c.deref.ensures.value at c.in-Ok.ensures.light))
    (ap (λ (t : State). list_any is_heavy t.fields) (sym behind) ∙ (ap (list_any is_heavy) (sym c.fields.ensures) ∙ c.are_light.ensures))

pub returns-in-Err-Large-clause-large : goal.returns-in-Err-Large-clause-large
returns-in-Err-Large-clause-large c =
    let m = c.op-method.result.now in
    let s : State = c.args.state.now in
    let begun : c.begin.new.self ≡ with_locals s (first_locals (group_of c.args.side) (Some (method_view m))) =
    c.in_ok-begin.ensures ∙ ap (λ g. with_locals s (first_locals g (Some (method_view m)))) c.group.ensures in
    let none : first_other_loop (program_view c.args.program.now) c.args.written.now c.args.op ≡ None = search rules in
    λ e. (
      none,
      heavy_is c.args.program.now c.args.op m c.op-method.ensures (group_of c.args.side) s
          ∙ ap (λ (b : Bool). b || list_any is_heavy (executed (program_view c.args.program.now) c.args.op (group_of c.args.side) s.fields).fields)
          (ap₂ (λ (t : State) (g : PlainTerm). refused_by_all (program_view c.args.program.now) t g (statements_view m.body.stmts.items)) (sym begun) (sym c.requires.outside)
          ∙ (rw c.deref.ensures.value at (c.run_all.ensures.large (c.in-Err-Large.is ∙ ap Err c.in-Err-Large.field-0-is)))),
    )

pub returns-in-Ok-clause-state : goal.returns-in-Ok-clause-state
returns-in-Ok-clause-state c =
    let m = c.op-method.result.now in
    let p = program_view c.args.program.now in
    let s : State = c.args.state.now in
    let begun : c.begin.new.self ≡ with_locals s (first_locals (group_of c.args.side) (Some (method_view m))) =
    c.in_ok-begin.ensures ∙ ap (λ g. with_locals s (first_locals g (Some (method_view m)))) c.group.ensures in
    (rw c.deref.ensures.value at c.in-Ok.ensures.after)
    ∙ (ap (λ (t : State). after_all p t (statements_view m.body.stmts.items)) begun ∙ sym (executed_is c.args.program.now c.args.op m c.op-method.ensures (group_of c.args.side) s))

pub returns-in-Ok-clause-demands : goal.returns-in-Ok-clause-demands
returns-in-Ok-clause-demands c =
    let m = c.op-method.result.now in
    let p = program_view c.args.program.now in
    let s : State = c.args.state.now in
    let begun : c.begin.new.self ≡ with_locals s (first_locals (group_of c.args.side) (Some (method_view m))) =
    c.in_ok-begin.ensures ∙ ap (λ g. with_locals s (first_locals g (Some (method_view m)))) c.group.ensures in
    (rw c.deref.ensures.value at c.in-Ok.ensures.demands)
    ∙ (ap₂ (λ (t : State) (g : PlainTerm). with_demands c.args.demands.now (demanded_all p t g (statements_view m.body.stmts.items))) begun c.requires.outside
    ∙ ap (with_demands c.args.demands.now) (sym (demanded_is c.args.program.now c.args.op m c.op-method.ensures (group_of c.args.side) s)))

use Rattle.std.proofs.Common.{◌≡◌, false, Err, ◌||◌, sym, ap, ◌∙◌}
use Rattle.std.proofs.lemmas.Result.{err_from_is_err_and}
use Rattle.std.proofs.lemmas.Bool.{or_right, or_left, or_from}
use Rattle.ca_program.specs.View.{expression_view, expressions_view, program_view}
use Rattle.ca_norm.specs.Terms.{PlainTerm}
use Rattle.ca_shared_terms.specs.declared.errors.ExecutionError.TheVariants.{Large}
use Rattle.ca_symbolic.specs.States.{invokes}
use Rattle.ca_symbolic.specs.Demands.{demands_in}
use Rattle.ca_symbolic.specs.clauses.Refusals.{refused, refused_all}
use Rattle.ca_symbolic.proofs.Calling.{call_demands}
use Rattle.ca_symbolic.proofs.Flags.{always, again, passed}
use Rattle.ca_symbolic.proofs.Valued.{guard_of}
use Rattle.ca_symbolic.proofs.walk.invoke.Goals as goal

pub returns-in_err-object : goal.returns-in_err-object
returns-in_err-object c =
    let a = c.args in
    let r = c.from_residual in
    let q = err_from_is_err_and r.result r.ensures.1 in
    record {
      demands = rw q.1 tt;
      light = rw q.1 tt;
      large = λ told. or_left (refused (program_view a.program.now) a.state.now a.out.now.guard (expression_view a.e.now)) (refused_all (program_view a.program.now) a.state.now a.out.now.guard (expressions_view a.args.now))
          (c.in_err-object.ensures.large (ap (λ e. Err e) (again r.result q.0 c.in_err-object.field-0.0 Large q.1 q.2 told)));
    }

pub returns-in_err-parts : goal.returns-in_err-parts
returns-in_err-parts c =
    let a = c.args in
    let r = c.from_residual-in_err-parts in
    let q = err_from_is_err_and r.result r.ensures.1 in
    let guard = guard_of a.out.now c.value_of.new.out (demands_in (program_view a.program.now) a.state.now a.out.now.guard (expression_view a.e.now)) c.in_ok-object.ensures.demands in
    record {
      demands = rw q.1 tt;
      light = rw q.1 tt;
      large = λ told. or_right (refused (program_view a.program.now) a.state.now a.out.now.guard (expression_view a.e.now)) (refused_all (program_view a.program.now) a.state.now a.out.now.guard (expressions_view a.args.now))
          (ap (λ (k : PlainTerm). refused_all (program_view a.program.now) a.state.now k (expressions_view a.args.now)) (sym guard)
          ∙ c.values_of.ensures.large (c.in_err-parts.ensures.large (ap (λ e. Err e) (again r.result q.0 c.in_err-parts.field-0.0 Large q.1 q.2 told))));
    }

pub returns : goal.returns
returns c =
    let a = c.args in
    let object = c.in_ok-object in
    let parts = c.in_ok-parts in
    let guard = guard_of a.out.now c.value_of.new.out (demands_in (program_view a.program.now) a.state.now a.out.now.guard (expression_view a.e.now)) object.ensures.demands in
    let light : refused_all (program_view a.program.now) a.state.now c.value_of.new.out.guard (expressions_view a.args.now) ≡ false = rw parts.ensures.made at c.values_of.ensures.light in
    record {
      demands = passed c.leaf.result c.ask_call.result _ _ c.leaf.ensures.made (λ last. call_demands (program_view a.program.now) a.state.now a.out.now c.value_of.new.out c.values_of.new.out c.ask_call.new.out (expression_view a.e.now) (expressions_view a.args.now) (invokes a.op)
          parts.parts.0 parts.parts.1.items object.ensures.demands (rw parts.ensures.made at c.values_of.ensures.demands) (parts.ensures.value ∙ object.ensures.made) (rw parts.ensures.made at c.values_of.ensures.made)
          (rw c.deref.ensures.value at last)) c.ask_call.ensures;
      light = always c.leaf.result ((refused (program_view a.program.now) a.state.now a.out.now.guard (expression_view a.e.now) || refused_all (program_view a.program.now) a.state.now a.out.now.guard (expressions_view a.args.now)) ≡ false)
          (or_from (refused (program_view a.program.now) a.state.now a.out.now.guard (expression_view a.e.now)) (refused_all (program_view a.program.now) a.state.now a.out.now.guard (expressions_view a.args.now)) object.ensures.light (ap (λ (k : PlainTerm). refused_all (program_view a.program.now) a.state.now k (expressions_view a.args.now)) (sym guard) ∙ light));
      large = λ told. absurd (c.leaf.ensures.small told);
    }

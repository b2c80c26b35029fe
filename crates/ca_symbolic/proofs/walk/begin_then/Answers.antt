use Rattle.std.proofs.Common.{◌≡◌, Err, sym, ap, ap₂, ◌∙◌}
use Rattle.std.proofs.lemmas.Result.{err_from_is_err_and}
use Rattle.ca_norm.specs.Terms.{PlainTerm}
use Rattle.ca_shared_terms.specs.declared.errors.ExecutionError.TheVariants.{Large, Memory}
use Rattle.ca_shared_terms.specs.Heavy.{is_heavy}
use Rattle.ca_symbolic.specs.States.{State}
use Rattle.ca_symbolic.specs.Demands.{then_guard}
use Rattle.ca_symbolic.specs.Demanded.{under}
use Rattle.ca_symbolic.proofs.Flags.{again, made_is_light}
use Rattle.ca_symbolic.proofs.Making.{memory_is_light}
use Rattle.ca_symbolic.proofs.walk.begin_then.Goals as goal

pub returns-in_err-outer : goal.returns-in_err-outer
returns-in_err-outer c =
    let r = c.from_residual in
    let q = err_from_is_err_and r.result r.ensures.1 in
    record {
      fork = rw q.1 tt;
      entered = rw q.1 tt;
      light = rw q.1 tt;
      large = λ told. absurd (memory_is_light (again r.result q.0 Memory Large q.1 q.2 told));
    }

pub returns-in_err-enter : goal.returns-in_err-enter
returns-in_err-enter c =
    let r = c.from_residual-in_err-enter in
    let q = err_from_is_err_and r.result r.ensures.1 in
    let outer : c.in_ok-outer.outer ≡ c.args.out.now.guard = rw c.in_ok-outer.ensures.first at c.guard.ensures in
    record {
      fork = rw q.1 tt;
      entered = rw q.1 tt;
      light = rw q.1 tt;
      large = λ told. ap (λ (o : PlainTerm). is_heavy (then_guard o c.args.condition)) (sym outer)
          ∙ c.in_err-enter.ensures.large (ap (λ e. Err e) (again r.result q.0 c.in_err-enter.field-0.0 Large q.1 q.2 told));
    }

pub returns : goal.returns
returns c =
    let outer : c.in_ok-outer.outer ≡ c.args.out.now.guard = rw c.in_ok-outer.ensures.first at c.guard.ensures in
    let other : c.in_ok-outer.other ≡ c.args.state.now = rw c.in_ok-outer.ensures.second at c.copy.ensures in
    record {
      fork = ap₂ (λ (o : PlainTerm) (s : State). record { condition = c.args.condition; outer = o; other = s }) outer other;
      entered = c.in_ok-enter.ensures.entered ∙ ap (λ (o : PlainTerm). under c.args.out.now (then_guard o c.args.condition)) outer;
      light = ap (λ (o : PlainTerm). is_heavy (then_guard o c.args.condition)) (sym outer) ∙ c.in_ok-enter.ensures.light;
      large = λ told. absurd (made_is_light told);
    }

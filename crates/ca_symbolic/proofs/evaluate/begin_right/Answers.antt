use Rattle.std.proofs.Common.{◌≡◌, Ok, Err, sym, ap, ap₂, ◌∙◌}
use Rattle.std.proofs.lemmas.Result.{err_from_is_err_and}
use Rattle.ca_norm.specs.Terms.{PlainTerm}
use Rattle.ca_shared_terms.specs.declared.errors.ExecutionError.TheVariants.{Large}
use Rattle.ca_symbolic.specs.Demands.{right_guard}
use Rattle.ca_symbolic.specs.Demanded.{under}
use Rattle.ca_symbolic.specs.clauses.Refusals.{refused_guard}
use Rattle.ca_symbolic.proofs.Flags.{again, made_is_light}
use Rattle.ca_symbolic.proofs.evaluate.begin_right.Goals as goal

pub returns-in_err-left : goal.returns-in_err-left
returns-in_err-left c =
    let r = c.from_residual in
    let q = err_from_is_err_and r.result r.ensures.1 in
    record {
      left = rw q.1 tt;
      outer = rw q.1 tt;
      entered = rw q.1 tt;
      light = rw q.1 tt;
      large = λ told. absurd (c.leaf.ensures.small (c.in_err-left.ensures.large (ap (λ e. Err e) (again r.result q.0 c.in_err-left.field-0.0 Large q.1 q.2 told))));
    }

pub enter_right-requires : goal.enter_right-requires
enter_right-requires c =
    let guard : c.guard.result ≡ Ok c.in_ok-left.outer = rw c.in_ok-left.ensures.made at c.leaf.ensures.made in
    rw guard at c.guard.ensures

pub returns-in_err-enter_right : goal.returns-in_err-enter_right
returns-in_err-enter_right c =
    let r = c.from_residual-in_err-enter_right in
    let q = err_from_is_err_and r.result r.ensures.1 in
    let guard : c.guard.result ≡ Ok c.in_ok-left.outer = rw c.in_ok-left.ensures.made at c.leaf.ensures.made in
    let outer : c.in_ok-left.outer ≡ c.args.out.now.guard = rw guard at c.guard.ensures in
    let left : c.in_ok-left.left ≡ c.args.left = c.in_ok-left.ensures.value in
    record {
      left = rw q.1 tt;
      outer = rw q.1 tt;
      entered = rw q.1 tt;
      light = rw q.1 tt;
      large = λ told. ap₂ (λ (k t : PlainTerm). refused_guard c.args.op k t) (sym outer) (sym left)
          ∙ c.in_err-enter_right.ensures.large (ap (λ e. Err e) (again r.result q.0 c.in_err-enter_right.field-0.0 Large q.1 q.2 told));
    }

pub returns : goal.returns
returns c =
    let guard : c.guard.result ≡ Ok c.in_ok-left.outer = rw c.in_ok-left.ensures.made at c.leaf.ensures.made in
    let outer : c.in_ok-left.outer ≡ c.args.out.now.guard = rw guard at c.guard.ensures in
    let left : c.in_ok-left.left ≡ c.args.left = c.in_ok-left.ensures.value in
    record {
      left = left;
      outer = outer;
      entered = c.in_ok-enter_right.ensures.entered ∙ ap₂ (λ (k t : PlainTerm). under c.args.out.now (right_guard c.args.op k t)) outer left;
      light = ap₂ (λ (k t : PlainTerm). refused_guard c.args.op k t) (sym outer) (sym left) ∙ c.in_ok-enter_right.ensures.light;
      large = λ told. absurd (made_is_light told);
    }

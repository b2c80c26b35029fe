use Rattle.std.proofs.Common.{◌≡◌, Ok, Err, sym, ap, ap₂, ◌∙◌}
use Rattle.std.proofs.lemmas.Result.{err_from_is_err_and}
use Rattle.ca_norm.specs.Terms.{PlainTerm, sweep}
use Rattle.ca_shared_terms.specs.declared.errors.ExecutionError.TheVariants.{Large}
use Rattle.ca_shared_terms.specs.Heavy.{is_heavy}
use Rattle.ca_symbolic.specs.States.{term_at}
use Rattle.ca_symbolic.specs.Execution.{with_field}
use Rattle.ca_symbolic.proofs.Flags.{again, made_is_light}
use Rattle.ca_symbolic.proofs.sweeps.sweep_field.Goals as goal

pub returns-in_err-kept : goal.returns-in_err-kept
returns-in_err-kept c =
    let q = err_from_is_err_and c.from_residual.result c.from_residual.ensures.1 in
    record {
      after = rw q.1 tt;
      demands = rw q.1 tt;
      light = rw q.1 tt;
      large = λ told. absurd (c.leaf-asked.ensures.small (c.in_err-kept.ensures.large (ap (λ e. Err e) (again c.from_residual.result q.0 c.in_err-kept.field-0.0 Large q.1 q.2 told))));
    }

pub returns-in_err-parts : goal.returns-in_err-parts
returns-in_err-parts c =
    let r = c.from_residual-in_err-parts in
    let q = err_from_is_err_and r.result r.ensures.1 in
    record {
      after = rw q.1 tt;
      demands = rw q.1 tt;
      light = rw q.1 tt;
      large = λ told. absurd (c.leaf-array.ensures.small (c.in_err-parts.ensures.large (ap (λ e. Err e) (again r.result q.0 c.in_err-parts.field-0.0 Large q.1 q.2 told))));
    }

pub returns-in_err-term : goal.returns-in_err-term
returns-in_err-term c =
    let a = c.args in
    let r = c.from_residual-in_err-term in
    let q = err_from_is_err_and r.result r.ensures.1 in
    let parts = c.in_ok-parts in
    let field : c.field.result ≡ Ok parts.parts.1 = rw parts.ensures.made at c.leaf-array.ensures.made in
    let array : parts.parts.1 ≡ term_at a.state.now.fields a.field.field = rw field at c.field.ensures.same in
    let kept : parts.parts.0 ≡ (a.bounds, a.addend) = parts.ensures.value ∙ c.in_ok-kept.ensures.value in
    let made : sweep parts.parts.1 parts.parts.0.0.0 parts.parts.0.0.1 parts.parts.0.1 ≡ sweep (term_at a.state.now.fields a.field.field) a.bounds.0 a.bounds.1 a.addend =
    ap₂ (λ (u : PlainTerm) (k : (PlainTerm × PlainTerm) × PlainTerm). sweep u k.0.0 k.0.1 k.1) array kept in
    record {
      after = rw q.1 tt;
      demands = rw q.1 tt;
      light = rw q.1 tt;
      large = λ told. sym (ap is_heavy made) ∙ c.in_err-term.ensures.large (ap (λ e. Err e) (again r.result q.0 c.in_err-term.field-0.0 Large q.1 q.2 told));
    }

pub returns : goal.returns
returns c =
    let a = c.args in
    let parts = c.in_ok-parts in
    let field : c.field.result ≡ Ok parts.parts.1 = rw parts.ensures.made at c.leaf-array.ensures.made in
    let array : parts.parts.1 ≡ term_at a.state.now.fields a.field.field = rw field at c.field.ensures.same in
    let kept : parts.parts.0 ≡ (a.bounds, a.addend) = parts.ensures.value ∙ c.in_ok-kept.ensures.value in
    let made : sweep parts.parts.1 parts.parts.0.0.0 parts.parts.0.0.1 parts.parts.0.1 ≡ sweep (term_at a.state.now.fields a.field.field) a.bounds.0 a.bounds.1 a.addend =
    ap₂ (λ (u : PlainTerm) (k : (PlainTerm × PlainTerm) × PlainTerm). sweep u k.0.0 k.0.1 k.1) array kept in
    let asked : c.ask_swept.result ≡ Ok c.in_ok-kept.kept.1 = rw c.in_ok-kept.ensures.made at c.leaf-asked.ensures.made in
    record {
      after = c.put_field.ensures ∙ ap (with_field a.state.now a.field.field) (c.in_ok-term.ensures.made ∙ made);
      demands = rw asked at c.ask_swept.ensures;
      light = sym (ap is_heavy made) ∙ c.in_ok-term.ensures.light;
      large = λ told. absurd (made_is_light told);
    }

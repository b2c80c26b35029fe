use Rattle.std.proofs.Common.{◌≡◌, Err, ap, ◌∙◌}
use Rattle.std.proofs.lemmas.Result.{err_from_is_err_and}
use Rattle.ca_program.specs.View.{program_view}
use Rattle.ca_norm.specs.Terms.{PlainTerm}
use Rattle.ca_sweep.specs.Seen.{sweep_view}
use Rattle.ca_shared_terms.specs.declared.errors.ExecutionError.TheVariants.{Large}
use Rattle.ca_symbolic.specs.Execution.{term_of, addend_term}
use Rattle.ca_symbolic.proofs.Flags.{again}
use Rattle.ca_symbolic.proofs.Sweeping.{from_heavy, to_heavy, addend_refused, swept_as}
use Rattle.ca_symbolic.proofs.sweeps.sweep.Goals as goal

pub sum_of-requires : goal.sum_of-requires
sum_of-requires c = record { sum = c.requires.sums.0 }

pub sum_of-last-requires : goal.sum_of-last-requires
sum_of-last-requires c = record { sum = c.requires.sums.1 }

pub addend_of-added-requires : goal.addend_of-added-requires
addend_of-added-requires c = record { sum = c.requires.sums.2 }

pub returns-in_err-from : goal.returns-in_err-from
returns-in_err-from c =
    let a = c.args in
    let r = c.from_residual in
    let q = err_from_is_err_and r.result r.ensures.1 in
    record {
      after = rw q.1 tt;
      demands = rw q.1 tt;
      light = rw q.1 tt;
      large = λ told. from_heavy (program_view a.program.now) a.state.now a.out.now (sweep_view a.w) (c.in_err-from.ensures.large (ap (λ e. Err e) (again r.result q.0 c.in_err-from.field-0.0 Large q.1 q.2 told)));
    }

pub returns-in_err-bounds : goal.returns-in_err-bounds
returns-in_err-bounds c =
    let a = c.args in
    let r = c.from_residual-in_err-bounds in
    let q = err_from_is_err_and r.result r.ensures.1 in
    record {
      after = rw q.1 tt;
      demands = rw q.1 tt;
      light = rw q.1 tt;
      large = λ told. to_heavy (program_view a.program.now) a.state.now a.out.now (sweep_view a.w) c.sum_of.new.out c.in_ok-from.ensures.demands
          (c.sum_of-last.ensures.large (c.in_err-bounds.ensures.large (ap (λ e. Err e) (again r.result q.0 c.in_err-bounds.field-0.0 Large q.1 q.2 told))));
    }

pub returns-in_err-parts : goal.returns-in_err-parts
returns-in_err-parts c =
    let a = c.args in
    let r = c.from_residual-in_err-parts in
    let q = err_from_is_err_and r.result r.ensures.1 in
    let second : c.sum_of-last.new.out ≡ c.sum_of.new.out = rw c.in_ok-bounds.ensures.made at c.sum_of-last.ensures.demands in
    record {
      after = rw q.1 tt;
      demands = rw q.1 tt;
      light = rw q.1 tt;
      large = λ told. addend_refused (program_view a.program.now) a.state.now a.out.now (sweep_view a.w) c.sum_of-last.new.out (second ∙ c.in_ok-from.ensures.demands)
          (c.addend_of-added.ensures.large (c.in_err-parts.ensures.large (ap (λ e. Err e) (again r.result q.0 c.in_err-parts.field-0.0 Large q.1 q.2 told))));
    }

pub returns : goal.returns
returns c =
    let a = c.args in
    let p = program_view a.program.now in
    let w = sweep_view a.w in
    let i = c.in_ok-from in
    let b = c.in_ok-bounds in
    let x = c.in_ok-parts in
    let second : c.sum_of-last.new.out ≡ c.sum_of.new.out = rw b.ensures.made at c.sum_of-last.ensures.demands in
    let third : c.addend_of-added.new.out ≡ c.sum_of-last.new.out = rw x.ensures.made at c.addend_of-added.ensures.demands in
    let from : x.parts.0.0 ≡ term_of p a.state.now w.from = ap (λ (k : PlainTerm × PlainTerm). k.0) x.ensures.value ∙ (b.ensures.value ∙ i.ensures.made) in
    let to : x.parts.0.1 ≡ term_of p a.state.now w.to = ap (λ (k : PlainTerm × PlainTerm). k.1) x.ensures.value ∙ rw b.ensures.made at c.sum_of-last.ensures.made in
    let addend : x.parts.1 ≡ addend_term w.minus (term_of p a.state.now w.addend) = rw x.ensures.made at c.addend_of-added.ensures.made in
    let told = swept_as p a.state.now a.out.now w c.sweep_field.result c.sweep_field.new.state c.sum_of.new.out c.sum_of-last.new.out c.addend_of-added.new.out c.sweep_field.new.out x.parts.0.0 x.parts.0.1 x.parts.1
    i.ensures.demands second third from to addend i.ensures.light (rw b.ensures.made at c.sum_of-last.ensures.light) (rw x.ensures.made at c.addend_of-added.ensures.light)
    c.sweep_field.ensures.after c.sweep_field.ensures.demands c.sweep_field.ensures.light c.sweep_field.ensures.large in
    record { after = told.state; demands = told.demands; light = told.light; large = told.large }

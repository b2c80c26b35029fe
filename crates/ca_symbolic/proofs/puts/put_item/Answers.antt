use Rattle.std.proofs.Common.{◌≡◌, [], ◌∷◌, Err, List, sym, ap, ap₂, ◌∙◌}
use Rattle.std.proofs.lemmas.Result.{err_from_is_err_and}
use Rattle.std.proofs.lemmas.Bool.{or_right, or_left, or_from}
use Rattle.ca_program.specs.View.{expression_view, program_view}
use Rattle.ca_shared_terms.specs.declared.errors.ExecutionError.TheVariants.{Large, Memory}
use Rattle.ca_norm.specs.Terms.{PlainTerm}
use Rattle.ca_symbolic.specs.States.{PlainDemand, demand, in_range}
use Rattle.ca_symbolic.specs.Execution.{term_of, with_field}
use Rattle.ca_symbolic.specs.Demands.{demands_in}
use Rattle.ca_symbolic.specs.Demanded.{with_demands}
use Rattle.ca_symbolic.specs.clauses.Refusals.{refused, refused_array}
use Rattle.ca_symbolic.proofs.Flags.{again, made_is_light}
use Rattle.ca_symbolic.proofs.Making.{memory_is_light}
use Rattle.ca_symbolic.proofs.Valued.{behind, guard_of}
use Rattle.ca_symbolic.proofs.puts.put_item.Goals as goal

pub array_term-requires : goal.array_term-requires
array_term-requires c = record { index = c.in_ok-index.ensures.made }

pub returns-in_err-index : goal.returns-in_err-index
returns-in_err-index c =
    let a = c.args in
    let q = err_from_is_err_and c.from_residual.result c.from_residual.ensures.1 in
    record {
      after = rw q.1 tt;
      demands = rw q.1 tt;
      light = rw q.1 tt;
      large = λ told. or_left (refused (program_view a.program.now) a.state.now a.out.now.guard (expression_view a.i.now)) (refused_array (program_view a.program.now) a.state.now a.out.now.guard a.field (expression_view a.i.now) a.op (expression_view a.e.now)) (c.in_err-index.ensures.large (ap (λ e. Err e) (again c.from_residual.result q.0 c.in_err-index.field-0.0 Large q.1 q.2 told)));
    }

pub returns-in_err-ask_in_range : goal.returns-in_err-ask_in_range
returns-in_err-ask_in_range c =
    let r = c.from_residual-in_err-ask_in_range in
    let q = err_from_is_err_and r.result r.ensures.1 in
    record {
      after = rw q.1 tt;
      demands = rw q.1 tt;
      light = rw q.1 tt;
      large = λ told. absurd (memory_is_light (again r.result q.0 Memory Large q.1 q.2 told));
    }

pub returns-in_err-term : goal.returns-in_err-term
returns-in_err-term c =
    let a = c.args in
    let r = c.from_residual-in_err-term in
    let q = err_from_is_err_and r.result r.ensures.1 in
    let first = guard_of a.out.now c.value_of.new.out (demands_in (program_view a.program.now) a.state.now a.out.now.guard (expression_view a.i.now)) c.in_ok-index.ensures.demands in
    let next = guard_of c.value_of.new.out c.ask_in_range.new.out (demand c.value_of.new.out.guard (in_range a.field) (c.in_ok-index.index ∷ []) ∷ []) c.in_ok-ask_in_range.ensures in
    record {
      after = rw q.1 tt;
      demands = rw q.1 tt;
      light = rw q.1 tt;
      large = λ told. or_right (refused (program_view a.program.now) a.state.now a.out.now.guard (expression_view a.i.now)) (refused_array (program_view a.program.now) a.state.now a.out.now.guard a.field (expression_view a.i.now) a.op (expression_view a.e.now))
          (ap (λ (k : PlainTerm). refused_array (program_view a.program.now) a.state.now k a.field (expression_view a.i.now) a.op (expression_view a.e.now)) (sym (next ∙ first)) ∙ c.in_err-term.ensures.large (ap (λ e. Err e) (again r.result q.0 c.in_err-term.field-0.0 Large q.1 q.2 told)));
    }

pub returns : goal.returns
returns c =
    let a = c.args in
    let i = c.in_ok-index in
    let d1 = c.value_of.new.out in
    let d2 = c.ask_in_range.new.out in
    let asked : List PlainDemand = demand a.out.now.guard (in_range a.field) (term_of (program_view a.program.now) a.state.now (expression_view a.i.now) ∷ []) ∷ [] in
    let first = guard_of a.out.now d1 (demands_in (program_view a.program.now) a.state.now a.out.now.guard (expression_view a.i.now)) i.ensures.demands in
    let told : ◌≡◌ {A = List PlainDemand} (demand d1.guard (in_range a.field) (i.index ∷ []) ∷ []) asked =
    ap₂ (λ (k u : PlainTerm). demand k (in_range a.field) (u ∷ []) ∷ []) first i.ensures.made in
    let next : d2 ≡ with_demands d1 asked = c.in_ok-ask_in_range.ensures ∙ ap (with_demands d1) told in
    let guard : d2.guard ≡ a.out.now.guard = guard_of d1 d2 asked next ∙ first in
    record {
      after = c.put_field.ensures ∙ ap (with_field a.state.now a.field.field) c.in_ok-term.ensures.made;
      demands = behind a.out.now d1 c.array_term.new.out (demands_in (program_view a.program.now) a.state.now a.out.now.guard (expression_view a.i.now)) (demand a.out.now.guard (in_range a.field) (term_of (program_view a.program.now) a.state.now (expression_view a.i.now) ∷ []) ∷ demands_in (program_view a.program.now) a.state.now a.out.now.guard (expression_view a.e.now)) i.ensures.demands
          (behind d1 d2 c.array_term.new.out asked (demands_in (program_view a.program.now) a.state.now a.out.now.guard (expression_view a.e.now)) next (c.in_ok-term.ensures.demands ∙ ap (λ (k : PlainTerm). with_demands d2 (demands_in (program_view a.program.now) a.state.now k (expression_view a.e.now))) guard));
      light = or_from (refused (program_view a.program.now) a.state.now a.out.now.guard (expression_view a.i.now)) (refused_array (program_view a.program.now) a.state.now a.out.now.guard a.field (expression_view a.i.now) a.op (expression_view a.e.now)) i.ensures.light (ap (λ (k : PlainTerm). refused_array (program_view a.program.now) a.state.now k a.field (expression_view a.i.now) a.op (expression_view a.e.now)) (sym guard) ∙ c.in_ok-term.ensures.light);
      large = λ told. absurd (made_is_light told);
    }

use Rattle.std.proofs.Common.{◌≡◌, false, Ok, Err, ◌||◌, sym, ap, ap₂, ◌∙◌}
use Rattle.std.proofs.lemmas.Result.{err_from_is_err_and}
use Rattle.std.proofs.lemmas.Bool.{or_left}
use Rattle.ca_program.specs.View.{expression_view, program_view}
use Rattle.ca_norm.specs.Terms.{PlainTerm}
use Rattle.ca_symbolic.specs.States.{term_at}
use Rattle.ca_symbolic.specs.Execution.{term_of}
use Rattle.ca_symbolic.specs.Demands.{demands_in}
use Rattle.ca_symbolic.specs.Demanded.{with_demands}
use Rattle.ca_symbolic.specs.clauses.Refusals.{refused, with_put, refused_put, refused_value}
use Rattle.ca_symbolic.proofs.Flags.{always}
use Rattle.ca_symbolic.proofs.Making.{makes_as, fails}
use Rattle.ca_symbolic.proofs.puts.with_value.Goals as goal

pub returns-in_err-kept : goal.returns-in_err-kept
returns-in_err-kept c =
    let a = c.args in
    let q = err_from_is_err_and c.from_residual.result c.from_residual.ensures.1 in
    let w = fails c.from_residual.result (with_put a.op (term_at a.state.now.fields a.field.field) a.index (term_of (program_view a.program.now) a.state.now (expression_view a.e.now))) (refused_value (program_view a.program.now) a.state.now a.out.now.guard a.field a.op a.index (expression_view a.e.now)) q.0 c.in_err-kept.field-0.0 q.1 q.2
    (λ told. absurd (c.leaf.ensures.small (c.in_err-kept.ensures.large (ap (λ e. Err e) told)))) in
    record { made = w.made; demands = rw q.1 tt; light = w.light; large = w.large }

pub returns-in_err-parts : goal.returns-in_err-parts
returns-in_err-parts c =
    let a = c.args in
    let q = err_from_is_err_and c.from_residual-in_err-parts.result c.from_residual-in_err-parts.ensures.1 in
    let w = fails c.from_residual-in_err-parts.result (with_put a.op (term_at a.state.now.fields a.field.field) a.index (term_of (program_view a.program.now) a.state.now (expression_view a.e.now))) (refused_value (program_view a.program.now) a.state.now a.out.now.guard a.field a.op a.index (expression_view a.e.now)) q.0 c.in_err-parts.field-0.0 q.1 q.2
    (λ told. or_left (refused (program_view a.program.now) a.state.now a.out.now.guard (expression_view a.e.now)) (refused_put a.op (term_at a.state.now.fields a.field.field) a.index (term_of (program_view a.program.now) a.state.now (expression_view a.e.now))) (c.value_of.ensures.large (c.in_err-parts.ensures.large (ap (λ e. Err e) told)))) in
    record { made = w.made; demands = rw q.1 tt; light = w.light; large = w.large }

pub returns : goal.returns
returns c =
    let a = c.args in
    let parts = c.in_ok-parts in
    let field : c.field.result ≡ Ok c.in_ok-kept.kept.1 = rw c.in_ok-kept.ensures.made at c.leaf.ensures.made in
    let array : parts.parts.0.1 ≡ (term_at a.state.now.fields a.field.field) = ap (λ (k : PlainTerm × PlainTerm). k.1) parts.ensures.value ∙ rw field at c.field.ensures.same in
    let index : parts.parts.0.0 ≡ a.index = ap (λ (k : PlainTerm × PlainTerm). k.0) parts.ensures.value ∙ c.in_ok-kept.ensures.value in
    let value : parts.parts.1 ≡ term_of (program_view a.program.now) a.state.now (expression_view a.e.now) = rw parts.ensures.made at c.value_of.ensures.made in
    let light : refused (program_view a.program.now) a.state.now a.out.now.guard (expression_view a.e.now) ≡ false = rw parts.ensures.made at c.value_of.ensures.light in
    let w = makes_as c.with_put.result (with_put a.op parts.parts.0.1 parts.parts.0.0 parts.parts.1) (with_put a.op (term_at a.state.now.fields a.field.field) a.index (term_of (program_view a.program.now) a.state.now (expression_view a.e.now)))
    (refused_put a.op parts.parts.0.1 parts.parts.0.0 parts.parts.1) (refused_value (program_view a.program.now) a.state.now a.out.now.guard a.field a.op a.index (expression_view a.e.now))
    (ap₂ (λ (k i : PlainTerm). with_put a.op k i parts.parts.1) array index ∙ ap (with_put a.op (term_at a.state.now.fields a.field.field) a.index) value)
    (ap₂ (λ (k i : PlainTerm). refused_put a.op k i parts.parts.1) array index ∙ (ap (refused_put a.op (term_at a.state.now.fields a.field.field) a.index) value ∙ sym (ap (λ b. b || refused_put a.op (term_at a.state.now.fields a.field.field) a.index (term_of (program_view a.program.now) a.state.now (expression_view a.e.now))) light)))
    c.with_put.ensures.made c.with_put.ensures.light c.with_put.ensures.large in
    let demands : c.value_of.new.out ≡ with_demands a.out.now (demands_in (program_view a.program.now) a.state.now a.out.now.guard (expression_view a.e.now)) = rw parts.ensures.made at c.value_of.ensures.demands in
    record { made = w.made; demands = always c.with_put.result (c.value_of.new.out ≡ with_demands a.out.now (demands_in (program_view a.program.now) a.state.now a.out.now.guard (expression_view a.e.now))) demands; light = w.light; large = w.large }

use Rattle.std.proofs.Common.{◌&&◌, ◌||◌, Err, sym, ap, ◌∙◌}
use Rattle.std.proofs.lemmas.Result.{err_from_is_err_and}
use Rattle.std.proofs.lemmas.Bool.{or_left}
use Rattle.ca_program.specs.View.{expression_view, program_view}
use Rattle.ca_norm.specs.Terms.{PlainTerm, neg}
use Rattle.ca_shared_terms.specs.Heavy.{is_heavy}
use Rattle.ca_symbolic.specs.Execution.{term_of, addend_term}
use Rattle.ca_symbolic.specs.clauses.Refusals.{refused, refused_addend}
use Rattle.ca_symbolic.proofs.Flags.{always}
use Rattle.ca_symbolic.proofs.Making.{makes_as, fails}
use Rattle.ca_symbolic.proofs.sweeps.addend_of.Goals as goal

pub sum_of-requires : goal.sum_of-requires
sum_of-requires c = record { sum = c.requires.sum }

pub returns-in_err-term : goal.returns-in_err-term
returns-in_err-term c =
    let a = c.args in
    let p = program_view a.program.now in
    let t : PlainTerm = term_of p a.state.now (expression_view a.e.now) in
    let q = err_from_is_err_and c.from_residual.result c.from_residual.ensures.1 in
    let w = fails c.from_residual.result (addend_term a.minus t) (refused_addend p a.state.now a.out.now.guard a.minus (expression_view a.e.now)) q.0 c.in_err-term.field-0.0 q.1 q.2
    (λ told. or_left (refused p a.state.now a.out.now.guard (expression_view a.e.now)) (a.minus && is_heavy (neg t)) (c.in_err-term.ensures.large (ap (λ e. Err e) told))) in
    record { made = w.made; demands = rw q.1 tt; light = w.light; large = w.large }

pub returns : goal.returns
returns c =
    let a = c.args in
    let p = program_view a.program.now in
    let t : PlainTerm = term_of p a.state.now (expression_view a.e.now) in
    let i = c.in_ok-term in
    let w = makes_as c.addend_term.result (addend_term a.minus i.term) (addend_term a.minus t) (a.minus && is_heavy (neg i.term)) (refused_addend p a.state.now a.out.now.guard a.minus (expression_view a.e.now))
    (ap (addend_term a.minus) i.ensures.made)
    (ap (λ (u : PlainTerm). a.minus && is_heavy (neg u)) i.ensures.made ∙ sym (ap (λ b. b || (a.minus && is_heavy (neg t))) i.ensures.light))
    c.addend_term.ensures.made c.addend_term.ensures.light c.addend_term.ensures.large in
    record { made = w.made; demands = always c.addend_term.result _ i.ensures.demands; light = w.light; large = w.large }

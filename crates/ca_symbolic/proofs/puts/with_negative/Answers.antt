use Rattle.std.proofs.Common.{Err, ◌||◌, sym, ap, ◌∙◌}
use Rattle.std.proofs.lemmas.Result.{err_from_is_err_and}
use Rattle.std.proofs.lemmas.Bool.{or_left}
use Rattle.ca_tree.specs.declared.tree.AssignOp.TheVariants.{Sub}
use Rattle.ca_norm.specs.Terms.{PlainTerm, neg, add_at}
use Rattle.ca_shared_terms.specs.Heavy.{is_heavy}
use Rattle.ca_symbolic.specs.clauses.Refusals.{with_put, refused_put}
use Rattle.ca_symbolic.proofs.Making.{makes_as, fails}
use Rattle.ca_symbolic.proofs.puts.with_negative.Goals as goal

pub returns-in_err-addend : goal.returns-in_err-addend
returns-in_err-addend c =
    let a = c.args in
    let q = err_from_is_err_and c.from_residual.result c.from_residual.ensures.1 in
    let w = fails c.from_residual.result (with_put Sub a.array a.index a.value) (refused_put Sub a.array a.index a.value) q.0 c.in_err-addend.field-0.0 q.1 q.2
    (λ told. or_left (is_heavy (neg a.value)) (is_heavy (add_at a.array a.index (neg a.value))) (c.in_err-addend.ensures.large (ap (λ e. Err e) told))) in
    record { made = w.made; light = w.light; large = w.large }

pub returns : goal.returns
returns c =
    let a = c.args in
    let addend = c.in_ok-addend in
    let w = makes_as c.with_addend.result (add_at a.array a.index addend.addend) (with_put Sub a.array a.index a.value) (is_heavy (add_at a.array a.index addend.addend)) (refused_put Sub a.array a.index a.value)
    (ap (add_at a.array a.index) addend.ensures.made)
    (ap (λ (u : PlainTerm). is_heavy (add_at a.array a.index u)) addend.ensures.made ∙ sym (ap (λ b. b || is_heavy (add_at a.array a.index (neg a.value))) addend.ensures.light))
    c.with_addend.ensures.made c.with_addend.ensures.light c.with_addend.ensures.large in
    record { made = w.made; light = w.light; large = w.large }

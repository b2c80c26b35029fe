use Rattle.std.proofs.Common.{sym, ◌∙◌, rules, arith}
use Rattle.ca_forms.specs.Compare.{monomial_cmp}
use Rattle.ca_sums.proofs.Entries.{no_zero_put, no_zero_take, put_adds, take_adds}
use Rattle.ca_forms.proofs.Exact.{monomials_exact}
use Rattle.ca_forms.proofs.sums.add_product.Goals as goal

pub returns-then-sum-eq0-clause-nonzero : goal.returns-then-sum-eq0-clause-nonzero
returns-then-sum-eq0-clause-nonzero c = rw c.remove.ensures.entries (no_zero_take monomial_cmp monomials_exact c.args.monomial c.args.form.now.entries c.requires)

pub returns-then-sum-eq0-clause-added : goal.returns-then-sum-eq0-clause-added
returns-then-sum-eq0-clause-added c = rw c.remove.ensures.entries (take_adds monomial_cmp monomials_exact c.args.monomial c.args.coefficient c.args.form.now.entries (sym c.sum_at-sum.ensures ∙ c.if-sum-eq0.true))

pub returns-in_ok-insert-clause-nonzero : goal.returns-in_ok-insert-clause-nonzero
returns-in_ok-insert-clause-nonzero c = rw c.in_ok-insert.ensures.entries (no_zero_put monomial_cmp monomials_exact c.args.monomial c.sum_at-sum.result c.args.form.now.entries (omega (arith, c.if-sum-eq0.false)) (search rules) c.requires)

pub returns-in_ok-insert-clause-added : goal.returns-in_ok-insert-clause-added
returns-in_ok-insert-clause-added c = rw c.in_ok-insert.ensures.entries (put_adds monomial_cmp monomials_exact c.args.monomial c.args.coefficient c.sum_at-sum.result c.args.form.now.entries c.in_ok-insert.ensures.was_ordered c.sum_at-sum.ensures)

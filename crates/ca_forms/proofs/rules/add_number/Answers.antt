use Rattle.std.proofs.Common.{ℕ, ◌*◌, ◌%◌, ◌^◌, List, subst}
use Rattle.ca_sums.specs.Sums.{Adds}
use Rattle.ca_sums.proofs.Additions.{adds_one}
use Rattle.ca_forms.specs.Plain.{PlainPart, no_powers}
use Rattle.ca_forms.specs.Lists.{monomial_of}
use Rattle.ca_forms.proofs.Told.{on_ok}
use Rattle.ca_forms.proofs.rules.add_number.Goals as goal

pub returns-clause-added : goal.returns-clause-added
returns-clause-added c =
    on_ok c.add_product.result _ _ (λ (added : Adds c.args.form.now.entries c.add_product.new.form.entries (monomial_of c.new.result.items) ((c.args.factor * c.args.n) % (2 ^ 64))). adds_one c.args.form.now.entries c.add_product.new.form.entries c.args.factor c.args.n no_powers (subst (λ (xs : List (PlainPart × ℕ)). Adds c.args.form.now.entries c.add_product.new.form.entries (monomial_of xs) ((c.args.factor * c.args.n) % (2 ^ 64))) c.new.ensures.items added)) c.add_product.ensures.added

use Rattle.ca_forms.specs.Lists.{products_of}
use Rattle.ca_forms.specs.ArrayRules.{lies_in}
use Rattle.ca_forms.proofs.Gathered.{adds_of_gathered}
use Rattle.ca_forms.proofs.Told.{on_ok}
use Rattle.ca_forms.proofs.selections.add_row_at.Goals as goal

pub returns-clause-added : goal.returns-clause-added
returns-clause-added c =
    rw (← c.row.view_is) (on_ok c.add_product_of.result _ _ (adds_of_gathered c.args.form.now.entries c.add_product_of.new.form.entries c.args.factor (lies_in c.row.inside.span c.args.index.now) (products_of c.row.inside.addend)) (rw (← c.in_ok-lies.ensures) c.add_product_of.ensures.added))

use Rattle.std.proofs.Common.{arith, List, Global, ap, ap₂, ◌∙◌}
use Rattle.std.specs.declared.vec.Vec.{Vec}
use Rattle.ca_norm.specs.Terms.{PlainTerm}
use Rattle.ca_symbolic.proofs.Told.{joins_lightly, heavy_field, heavy_local}
use Rattle.ca_symbolic.proofs.walk.join.Goals as goal

pub returns-clause-light : goal.returns-clause-light
returns-clause-light c = grind (arith, joins_lightly)

pub returns-in_err-fields-clause-large : goal.returns-in_err-fields-clause-large
returns-in_err-fields-clause-large c = grind (arith, heavy_field)

pub returns-in_err-fields-2-clause-large : goal.returns-in_err-fields-2-clause-large
returns-in_err-fields-2-clause-large c = grind (arith, heavy_local)

pub returns-clause-made : goal.returns-clause-made
returns-clause-made c =
    let fields = rw (c.fields.ensures, c.fields-2.ensures) at c.in_ok-fields.ensures.made in
    let locals = rw (c.in_ok-fields-2.ensures.made, c.locals.ensures, c.locals-2.ensures) at c.join_locals-locals.ensures.made in
    c.of.ensures ∙ ap₂ (λ (fs ls : List PlainTerm). record { fields = fs; locals = ls }) (ap (λ (v : Vec PlainTerm Global). v.items) c.in_ok-fields-2.ensures.value ∙ fields) locals

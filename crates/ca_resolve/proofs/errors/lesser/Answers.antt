use Rattle.std.proofs.Common.{◌∙◌, ap, sym, refl}
use Rattle.std.specs.Option.{option_map}
use Rattle.ca_resolve.specs.View.{violation_of}
use Rattle.ca_resolve.proofs.Least.{second_told}
use Rattle.ca_resolve.proofs.errors.lesser.Goals as goal

pub returns-else-is_at_most : goal.returns-else-is_at_most
returns-else-is_at_most c =
    second_told c.args.a c.args.b (violation_of c.in-Some-Some.first) (violation_of c.in-Some-Some.second)
    (sym c.told.ensures ∙ ap (option_map violation_of) c.in-Some-Some.is-0) (sym c.told-2.ensures ∙ ap (option_map violation_of) c.in-Some-Some.is-1) (c.if-is_at_most.ensures.otherwise refl)

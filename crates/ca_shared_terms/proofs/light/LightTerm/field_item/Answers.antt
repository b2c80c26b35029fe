use Rattle.std.proofs.Common.{subst}
use Rattle.ca_norm.specs.Terms.{PlainTerm}
use Rattle.ca_norm.specs.Measures.{Measures}
use Rattle.ca_shared_terms.proofs.light.LightTerm.field_item.Goals as goal

pub made-requires : goal.made-requires
made-requires c =
    c.item-measure.ensures c.args.sort c.args.class c.args.field c.args.self c.args.index (subst (λ (t : PlainTerm). Measures c.self.inside.measure t) c.self.view_is c.self.invariant.0) (subst (λ (t : PlainTerm). Measures c.index.inside.measure t) c.index.view_is c.index.invariant.0)

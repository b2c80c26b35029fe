use Rattle.std.proofs.Common.{subst}
use Rattle.ca_norm.specs.Terms.{PlainTerm}
use Rattle.ca_norm.specs.Measures.{Measures}
use Rattle.ca_shared_terms.proofs.light.LightTerm.folded.Goals as goal

pub made-requires : goal.made-requires
made-requires c =
    c.sum-measure.ensures c.args.a c.args.b (subst (λ (t : PlainTerm). Measures c.a.inside.measure t) c.a.view_is c.a.invariant.0) (subst (λ (t : PlainTerm). Measures c.b.inside.measure t) c.b.view_is c.b.invariant.0)

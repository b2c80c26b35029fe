use Rattle.std.proofs.Common.{subst}
use Rattle.ca_norm.specs.Terms.{PlainTerm, terms_of}
use Rattle.ca_norm.specs.Measures.{Measures}
use Rattle.ca_shared_terms.proofs.light.LightTerm.called.Goals as goal

pub made-requires : goal.made-requires
made-requires c =
    c.call-measure.ensures c.args.sort c.args.method c.args.self (terms_of c.args.args.items) (subst (λ (t : PlainTerm). Measures c.self.inside.measure t) c.self.view_is c.self.invariant.0) (rw c.deref.ensures.value at c.measure_of_all-all.ensures)

use Rattle.std.proofs.Common.{arith}
use Rattle.std.proofs.lemmas.Bool.{lt-ltb}
use Rattle.ca_norm.specs.Weights.{weight_of}
use Rattle.ca_shared_terms.specs.Nodes.{node_of}
use Rattle.ca_shared_terms.proofs.light.LightTerm.made.Goals as goal

pub returns-then-heavy-clause-large : goal.returns-then-heavy-clause-large
returns-then-heavy-clause-large c = λ _. lt-ltb 65536 (weight_of (node_of c.args.node)) (omega (arith, c.if-heavy.true, c.weight-heavy.ensures (node_of c.args.node) c.requires))

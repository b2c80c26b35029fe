use Rattle.std.proofs.Common.{◌≡◌, ◌<◌, ◌*◌, ◌++◌}
use Rattle.ca_gen.specs.Generated.{drawn, link_lines, text_before}
use Rattle.ca_gen.proofs.generated_text.Given as goal

-- the text has the links of the nodes so far
abbrev pub invariant-loop-node : goal.invariant-loop-node
invariant-loop-node l = record {
  text : l.text.items ≡ text_before l.size ++ link_lines l.seed l.size l.node;
  number : l.number ≡ drawn l.seed (2 * l.node);
  below : l.number < 2147483648;
}

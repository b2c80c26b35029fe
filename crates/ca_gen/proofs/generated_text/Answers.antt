use Rattle.std.proofs.Common.{◌≡◌, ◌++◌, ap, sym, ◌∙◌, append-nil, append_assoc, arith}
use Rattle.ca_gen.specs.Generated.{link_lines, main_end, text_before, generated}
use Rattle.ca_gen.proofs.Linking.{first_drawn, no_lines, linked, drawn_twice}
use Rattle.ca_gen.proofs.generated_text.Goals as goal

pub loop-node-init : goal.loop-node-init
loop-node-init c = record {
  text = c.in_ok-add_classes.ensures ∙ ap (λ t. t ++ text_before c.args.size) c.new-text.ensures.items
      ∙ sym (ap (λ t. text_before c.args.size ++ t) (no_lines c.args.seed c.args.size) ∙ append-nil (text_before c.args.size));
  number = first_drawn c.args.seed;
  below = omega arith;
}

pub loop-node-preserved : goal.loop-node-preserved
loop-node-preserved c =
    let i = c.loop-node.invariant in
    record {
      text = linked c.args.seed c.args.size c.loop-node.node _ _ _ _ _ _ i.number c.next-left.ensures.next c.next-right.ensures.next i.text
          (rw (c.node_of.ensures, c.node_of-in-loop-node.ensures) at c.in_ok-add_link.ensures);
      number = drawn_twice c.args.seed c.loop-node.node _ _ _ i.number c.next-left.ensures.next c.next-right.ensures.next;
      below = c.next-right.ensures.below;
    }

pub returns : goal.returns
unfolding generated main_end
returns c =
    let size : c.loop-node.node ≡ c.args.size = omega (arith, c.loop-node-test.false, c.loop-node.auto.node-end) in
    rw c.as_bytes.ensures.value at c.in_ok-extend_from_slice.ensures.items
    ∙ ap (λ t. t ++ main_end) (c.loop-node.invariant.text ∙ ap (λ n. text_before c.args.size ++ link_lines c.args.seed c.args.size n) size)
    ∙ append_assoc (text_before c.args.size) (link_lines c.args.seed c.args.size c.args.size) main_end

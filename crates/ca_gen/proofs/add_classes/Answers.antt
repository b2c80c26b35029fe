use Rattle.ca_gen.specs.Generated.{node_class, table_begin, fill_begin, table_end, main_begin}
use Rattle.ca_gen.proofs.Linking.{with_classes}
use Rattle.ca_gen.proofs.add_classes.Goals as goal

pub returns : goal.returns
unfolding node_class table_begin fill_begin table_end main_begin
returns c =
    with_classes c.args.size _ _ _ _ _ _
    (rw c.as_bytes.ensures.value at c.in_ok-extend_from_slice.ensures.items)
    c.in_ok-add_number.ensures
    c.in_ok-add_number-2.ensures
    (rw c.as_bytes-2.ensures.value at c.in_ok-extend_from_slice-2.ensures.items)
    (rw c.as_bytes-3.ensures.value at c.in_ok-extend_from_slice-3.ensures.items)

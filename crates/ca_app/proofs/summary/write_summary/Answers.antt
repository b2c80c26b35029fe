use Rattle.std.specs.Int.{w64}
use Rattle.std.proofs.lemmas.Int.{SFits-int_wrap, to_z-of_z}
use Rattle.ca_app.specs.Summary.{sum_of, values_of, total_of}
use Rattle.ca_app.proofs.summary.write_summary.Goals as goal

pub returns-clause-bytes : goal.returns-clause-bytes
returns-clause-bytes g c =
    let heap = c.args.heap.now in
    rw (c.as_bytes.ensures.value, c.as_bytes-2.ensures.value, c.as_bytes-3.ensures.value, c.format-objects.ensures.text, c.format-taken.ensures.text, c.format-total.ensures.text, c.len.ensures.value, c.total_of.ensures, to_z-of_z w64 (total_of heap) (SFits-int_wrap w64 (sum_of (values_of heap))))
    at c.write_line.ensures.bytes

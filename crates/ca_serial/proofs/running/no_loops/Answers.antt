use Rattle.std.proofs.Common.{length, ap, sym, ◌∙◌, eqb-true}
use Rattle.std.proofs.lemmas.List.{nil_from_length}
use Rattle.ca_parallel.specs.Lists.{PlainMarks}
use Rattle.ca_serial.proofs.running.no_loops.Goals as goal

pub returns : goal.returns
returns c =
    λ ok.
    let xs = c.as_slice.result.now in
    sym (c.as_slice.ensures.value ∙ ap (λ (m : PlainMarks). m.loops) c.marks.view_is) ∙ nil_from_length xs (eqb-true (length xs) 0 (sym c.is_empty.ensures ∙ ok))

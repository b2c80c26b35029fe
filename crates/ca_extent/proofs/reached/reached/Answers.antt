use Rattle.std.proofs.Common.{length, map, ap, ◌∙◌, arith}
use Rattle.std.proofs.lemmas.List.{length-replicate, length-map}
use Rattle.std.proofs.lemmas.Option.{slice_get_past}
use Rattle.ca_program.specs.View.{method_view}
use Rattle.ca_meaning.specs.Functions.{body_of}
use Rattle.ca_extent.specs.clauses.Numbers.{numbers_of_all}
use Rattle.ca_extent.specs.clauses.Reached.{calls_at}
use Rattle.ca_extent.proofs.Searching.{starts, turn_keeps, turn_known, turn_less, all_met}
use Rattle.ca_extent.proofs.reached.reached.Goals as goal

pub loop-done-init : goal.loop-done-init
loop-done-init c =
    let clear = c.in_ok-marks.ensures.items_if_clones_equal (λ y h. h) in
    record {
      searching = starts (calls_at c.args.callees (map method_view c.args.methods.now)) c.args.roots.items c.in_ok-marks.marks.items (length c.args.methods.now) clear;
      known = ap length clear ∙ length-replicate (length c.args.methods.now) _;
    }

pub loop-done-smaller : goal.loop-done-smaller
loop-done-smaller c = turn_less (omega arith) c.in_ok-look.ensures

pub loop-done-preserved : goal.loop-done-preserved
loop-done-preserved c = record {
  searching = turn_keeps (omega arith) c.in_ok-look.ensures c.loop-done.invariant.searching;
  known = turn_known c.in_ok-look.ensures ∙ c.loop-done.invariant.known;
}

pub returns : goal.returns
returns c =
    let s = c.loop-done.invariant.searching in
    record {
      all = λ n. (
        λ k. s.reached n (c.rise.ensures.adds_none n k),
        λ r. c.rise.ensures.keeps n (all_met s (omega arith) (λ m h. ap (λ z. numbers_of_all c.args.callees (body_of z)) (slice_get_past (map method_view c.args.methods.now) m (omega (arith, h, c.loop-done.invariant.known, length-map c.args.methods.now method_view)))) r),
      );
      rises = c.rise.ensures.rises;
    }

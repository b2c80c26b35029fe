use Rattle.std.proofs.Common.{◌≡◌, List, [], ◌∷◌, ◌++◌, length, sym, ap, ◌∙◌, subst, arith}
use Rattle.ca_meaning.specs.Multisets.{weight}
use Rattle.ca_logs.specs.declared.log.Task.{Task}
use Rattle.ca_deques.specs.Settings.{AllFit}
use Rattle.ca_deques.proofs.Grown.{one_fits}
use Rattle.ca_deques.proofs.Neighbours.{first_has, left_fits, more_fit, more_have, one_longer, same_weight}
use Rattle.ca_deques.proofs.taking.take_run.Goals as goal

pub neighbours-init : goal.neighbours-init
neighbours-init g c = let q : c.keep.new.list.items ≡ c.args.task ∷ [] = c.keep.ensures.added c.if-not-keep.false ∙ ap (λ (l : List Task). l ++ c.args.task ∷ []) c.requires.empty in let n = ap length q in let f = c.at_most_many-few.ensures.some c.requires.some in record {
  share = c.requires.share;
  fits = subst (AllFit g.N.Round.setting) (sym q) (one_fits g.N.Round.setting c.args.task c.requires.fits);
  one = first_has c.keep.new.list.items c.args.task q;
  some = omega (arith, n);
  few = omega (arith, n, f);
  moved = λ h. omega (arith, ap (weight h) q);
}

pub neighbours-preserved : goal.neighbours-preserved
neighbours-preserved g c = let i = c.neighbours.invariant in let t = c.take_neighbour.ensures.taken c.if-not-take_neighbour.false in let n = one_longer _ _ _ _ t.0 t.1 t.2 in record {
  share = left_fits _ _ _ _ t.0 t.1 t.2 g.N.Round.setting i.share;
  fits = more_fit _ _ _ _ t.0 t.1 t.2 g.N.Round.setting i.share i.fits;
  one = more_have _ _ _ _ t.0 t.1 t.2 _ t.3 i.one;
  some = omega (arith, n);
  few = let less = c.neighbours-test.true in omega (arith, n, less);
  moved = λ h. omega (arith, i.moved h, same_weight _ _ _ _ t.0 t.1 t.2 h);
}

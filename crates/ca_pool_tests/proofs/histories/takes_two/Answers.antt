use Rattle.std.proofs.Common.{◌≡◌, ◌<◌, List, length, Some, sym, ap, ◌∙◌, subst, arith}
use Rattle.std.specs.Prelude.{slice_get}
use Rattle.ca_model.specs.declared.value.Object.{Object}
use Rattle.ca_counters.specs.Counters.{starts}
use Rattle.ca_pool_tests.proofs.FirstHistories.{first_is_legal}
use Rattle.ca_pool_tests.proofs.histories.takes_two.Goals as goal

pub get-requires : goal.get-requires
get-requires g c = subst (λ (h : List Object). 0 < length h) (sym c.objects-heap.ensures) (omega arith)

pub add_twice-ran-requires-clause-legal : goal.add_twice-ran-requires-clause-legal
add_twice-ran-requires-clause-legal g c =
    let there : slice_get (starts 1) 0 ≡ Some c.get.result.now = ap (λ (h : List Object). slice_get h 0) (sym c.objects-heap.ensures) ∙ c.get.ensures in
    first_is_legal c.get.result.now c.in-Ok.cell there c.in-Ok.ensures

use Rattle.std.proofs.Common.{◌≡◌, List, zero, [], ◌∷◌, refl, sym, ap, ◌∙◌, subst, arith}
use Rattle.std.specs.Prelude.{Contains}
use Rattle.ca_program.specs.declared.program.OpId.{OpId}
use Rattle.ca_program.specs.Plain.{PlainProgram}
use Rattle.ca_program.specs.View.{program_view}
use Rattle.ca_beside.specs.declared.beside.Changed.{Changed}
use Rattle.ca_beside.specs.Beside.{present}
use Rattle.ca_model.specs.declared.value.Object.{Object}
use Rattle.ca_model.specs.Typed.{TypedHeap}
use Rattle.ca_meaning.specs.ProgramTyped.{ProgramTyped}
use Rattle.ca_order_laws.specs.Order.{StandsFor}
use Rattle.ca_parallel.specs.Extents.{Extent, IsExtentOf, root}
use Rattle.ca_cells.specs.Rounds.{SeparableIn}
use Rattle.ca_counters.specs.Counters.{counters, operation}
use Rattle.ca_counters.proofs.Counting.{all_separable, counters_typed, starts_typed, stands}
use Rattle.ca_pool_tests.proofs.setting.set.Goals as goal

pub make-requires-clause-program : goal.make-requires-clause-program
make-requires-clause-program g c = subst (λ (p : PlainProgram). ProgramTyped p) (sym (ap program_view c.program-plain.ensures ∙ c.requires.program)) counters_typed

pub make-requires-clause-separable : goal.make-requires-clause-separable
make-requires-clause-separable g c = let same : program_view c.program-plain.result.now ≡ counters = ap program_view c.program-plain.ensures ∙ c.requires.program in
    let roots : List OpId = operation c.args.op ∷ [] in
    subst (λ (p : PlainProgram). (op : OpId) → Contains c.in-Ok.extent.ops op → SeparableIn p c.in-Ok.extent op) (sym same) (all_separable roots c.in-Ok.extent (subst (λ (p : PlainProgram). IsExtentOf p roots c.in-Ok.extent) same c.in-Ok.ensures.holds))

pub make-requires-clause-frozen : goal.make-requires-clause-frozen
make-requires-clause-frozen g c = subst (λ (p : PlainProgram). TypedHeap p c.objects-heap.result) (sym (ap program_view c.program-plain.ensures ∙ c.requires.program)) (subst (TypedHeap counters) (sym c.objects-heap.ensures) (starts_typed c.args.count))

pub make-requires-clause-now : goal.make-requires-clause-now
make-requires-clause-now g c = subst (λ (cs : List Changed). StandsFor (program_view c.program-plain.result.now) c.in-Ok.extent c.objects-heap.result (present c.objects-heap.result cs)) (sym c.new-beside.ensures)
    (subst (λ (p : PlainProgram). StandsFor p c.in-Ok.extent c.objects-heap.result c.objects-heap.result) (sym (ap program_view c.program-plain.ensures ∙ c.requires.program)) (subst (λ (h : List Object). StandsFor counters c.in-Ok.extent h h) (sym c.objects-heap.ensures) (stands c.in-Ok.extent c.args.count)))

pub returns : goal.returns
returns g c = let e = c.in-Ok-make.ensures in let k = e.key in let same = ap program_view c.program-plain.ensures in
    record {
      objects = c.objects-heap.ensures;
      given = (k.0 ∙ same, k.2, k.3, k.1);
      set = record { program = k.0 ∙ (same ∙ c.requires.program); frozen = k.2 ∙ c.objects-heap.ensures; inside = subst (λ (x : Extent). Contains x.ops (operation c.args.op)) (sym k.1) ((c.in-Ok.ensures.holds.ops (operation c.args.op)).1 (root (zero, omega arith, refl))) };
      round = e.round;
      seats = (e.all, (e.workers).0, (e.nothing_noted).0, e.nothing_loose);
    }

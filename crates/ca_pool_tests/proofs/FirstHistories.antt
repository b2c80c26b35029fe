-- The history of a counting object that has counted nothing.
use Rattle.std.proofs.Common.{◌≡◌, [], Some, sym, subst}
use Rattle.std.specs.Prelude.{slice_get}
use Rattle.ca_model.specs.declared.value.Object.{Object}
use Rattle.ca_parallel.specs.Extents.{Extent}
use Rattle.ca_logs.specs.declared.log.CellLog.{CellLog}
use Rattle.ca_logs.specs.Legal.{LegalCell}
use Rattle.ca_logs.specs.Touched.{fresh}
use Rattle.ca_cells.proofs.Begun.{same_log}
use Rattle.ca_cells.proofs.Opening.{legal_at_first}
use Rattle.ca_counters.specs.Counters.{counters, starts}
use Rattle.ca_counters.proofs.Counting.{stands}

pub first_is_legal : (o : Object) (log : CellLog) → slice_get (starts 1) 0 ≡ Some o → (log.entries ≡ []) × (log.object ≡ o) × (log.opened.value ≡ o) → LegalCell counters (starts 1) 0 log
first_is_legal o log at is =
    let none : Extent = record { ops = []; functions = []; written = [] } in
    subst (λ (l : CellLog). LegalCell counters (starts 1) 0 l) (sym (same_log log (fresh o) is.2 is.1 is.0)) (legal_at_first counters none (starts 1) (starts 1) (stands none 1) 0 o at)

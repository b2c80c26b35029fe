use Rattle.std.proofs.Common.{◌≡◌, ◌++◌, length, false, drop}
use Rattle.std.specs.List.{list_any}
use Rattle.ca_symbolic.specs.Execution.{choices}
use Rattle.ca_symbolic.specs.Made.{targets}
use Rattle.ca_symbolic.specs.clauses.Places.{is_marked}
use Rattle.ca_shared_terms.specs.Heavy.{is_heavy}
use Rattle.ca_symbolic.proofs.walk.join_terms.Given as goal

abbrev pub invariant-loop-place : goal.invariant-loop-place
invariant-loop-place l =
    (length l.terms.items ≡ l.place) ×
    (l.terms.items ++ choices (is_marked l.marks) l.place l.condition (drop l.place l.first) (drop l.place l.second) ≡ choices (is_marked l.marks) 0 l.condition l.first l.second) ×
    (list_any is_heavy (targets (is_marked l.marks) 0 l.terms.items) ≡ false)

use Rattle.std.proofs.Common.{◌≡◌, ◌++◌, false, drop}
use Rattle.std.specs.List.{list_any}
use Rattle.ca_program.specs.View.{statement_view}
use Rattle.ca_symbolic.specs.Demands.{picked}
use Rattle.ca_symbolic.specs.clauses.Places.{is_read}
use Rattle.ca_shared_terms.specs.Heavy.{is_heavy}
use Rattle.ca_symbolic.proofs.walk.loop_parts.Given as goal

abbrev pub invariant-loop-place : goal.invariant-loop-place
invariant-loop-place l =
    (l.parts.items ++ picked (is_read (statement_view l.s) (statement_view l.first)) l.place (drop l.place l.locals) ≡
    picked (is_read (statement_view l.s) (statement_view l.first)) 0 l.locals) × (list_any is_heavy l.parts.items ≡ false)

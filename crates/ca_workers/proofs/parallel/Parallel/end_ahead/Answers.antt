use Rattle.std.proofs.Common.{◌≡◌, ◌-◌, ◌∙◌, ℕ, Option, Some, None, Result, Ok, Err, refl, ap, sym, subst}
use Rattle.ca_base.specs.declared.faults.Memory.{Memory}
use Rattle.ca_undo.specs.Puts.{before}
use Rattle.ca_workers.specs.clauses.Ahead.{EndsAhead}
use Rattle.ca_workers.proofs.parallel.Parallel.end_ahead.Goals as goal

pub returns-in-Some : goal.returns-in-Some
returns-in-Some g c =
    let h = c.args.heap.now in
    let ended : c.args.ended ≡ Ok (Some c.in-Some.more) = c.in-Ok.is ∙ ap (λ (t : Option ℕ). Ok t) c.in-Some.is in
    let steps = c.saturating_sub-steps.ensures ∙ ap (λ (k : ℕ). c.args.left - k) c.saturating_sub-still.ensures in
    subst (λ (r : Result (Option ℕ) Memory). EndsAhead c.args.left c.args.rest r (Ok (Some c.saturating_sub-steps.result)) h h (before c.args.self.now.one.kept h)) (sym ended) (ap (λ (k : ℕ). Ok (Some k)) steps, refl)

pub returns-in-None : goal.returns-in-None
returns-in-None g c =
    let h = c.args.heap.now in
    let ended : c.args.ended ≡ Ok None = c.in-Ok.is ∙ ap (λ (t : Option ℕ). Ok t) c.in-None.is in
    subst (λ (r : Result (Option ℕ) Memory). EndsAhead c.args.left c.args.rest r (Ok None) h c.undo-in-None.new.heap (before c.args.self.now.one.kept h)) (sym ended) (refl, c.undo-in-None.ensures)

pub returns-in-Err : goal.returns-in-Err
returns-in-Err g c =
    let h = c.args.heap.now in
    subst (λ (r : Result (Option ℕ) Memory). EndsAhead c.args.left c.args.rest r (Err c.in-Err.wanting) h c.undo.new.heap (before c.args.self.now.one.kept h)) (sym c.in-Err.is) (refl, c.undo.ensures)

use Rattle.std.proofs.Common.{◌≡◌, true, false, sym, ap, ◌∙◌, append-nil}
use Rattle.std.proofs.lemmas.List.{map-append}
use Rattle.ca_program.specs.View.{statement_view}
use Rattle.ca_symbolic.specs.OtherLoops.{is_call_loop}
use Rattle.ca_plan.specs.clauses.Loops.{seen}
use Rattle.ca_plan.proofs.calls.add_loop.Goals as goal

pub returns-in_ok-push : goal.returns-in_ok-push
returns-in_ok-push c =
    let t : is_call_loop (statement_view c.args.s.now) ≡ true = sym c.is_call_loop.ensures ∙ c.if-is_call_loop.true in
    rw t (ap seen c.in_ok-push.ensures.items ∙ map-append _ c.args.out.now.items _)

pub returns-else-is_call_loop : goal.returns-else-is_call_loop
returns-else-is_call_loop c =
    let t : is_call_loop (statement_view c.args.s.now) ≡ false = sym c.is_call_loop.ensures ∙ c.if-is_call_loop.false in
    rw t (sym (append-nil (seen c.args.out.now.items)))

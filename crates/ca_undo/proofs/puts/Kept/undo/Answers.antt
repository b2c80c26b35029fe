use Rattle.std.proofs.Common.{◌∙◌, sym, ap}
use Rattle.ca_undo.specs.Puts.{or_restored}
use Rattle.ca_undo.proofs.puts.Kept.undo.Goals as goal

pub returns-in-Some : goal.returns-in-Some
returns-in-Some c =
    let k = c.args.self.now in
    c.swap.ensures.x_after ∙ sym (ap (λ w. or_restored w k.puts c.args.heap.now) (sym c.take.ensures.value ∙ c.in-Some.is))

pub returns-in-None : goal.returns-in-None
returns-in-None c =
    let k = c.args.self.now in
    c.put_back.ensures.heap ∙ sym (ap (λ w. or_restored w k.puts c.args.heap.now) (sym c.take.ensures.value ∙ c.in-None.is))

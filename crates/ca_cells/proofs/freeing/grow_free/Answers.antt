use Rattle.std.proofs.Common.{◌≡◌, ◌∷◌, ◌++◌, [], List, map, refl, ap, ◌∙◌}
use Rattle.ca_parallel.specs.declared.op.Op.{Op}
use Rattle.ca_logs.specs.Entries.{task_after}
use Rattle.ca_logs.specs.Telling.{operation_in, ran_entry}
use Rattle.ca_logs.proofs.Tallying.{operations_back}
use Rattle.ca_cells.proofs.freeing.grow_free.Goals as goal

pub returns-clause-added : goal.returns-clause-added
returns-clause-added c =
    let back : map operation_in c.in_ok-tasks.tasks.items ≡ c.args.listed.now.items = ap (map operation_in) c.in_ok-tasks.ensures ∙ operations_back (task_after c.args.clock) c.args.listed.now.items (λ _. refl) in
    c.in_ok-ran.ensures.added ∙ ap (λ (ops : List Op). c.args.loose.now ++ ran_entry c.args.task.now c.args.clock c.args.steps ops ∷ []) back

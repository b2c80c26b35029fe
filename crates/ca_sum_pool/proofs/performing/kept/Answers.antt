use Rattle.std.proofs.Common.{List, [], ◌∷◌, ◌++◌, ap, ◌∙◌}
use Rattle.ca_logs.specs.declared.log.Task.{Task}
use Rattle.ca_sum_pool.proofs.performing.kept.Goals as goal

pub returns-then-keep : goal.returns-then-keep
returns-then-keep c = c.keep.ensures.added c.if-keep.true ∙ ap (λ (t : Task). c.args.share.now.items ++ t ∷ []) c.in-Ok.ensures

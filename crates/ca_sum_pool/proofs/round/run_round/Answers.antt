use Rattle.std.proofs.Common.{List, ◌++◌, map, refl, ap, ◌∙◌}
use Rattle.ca_program.specs.View.{program_view}
use Rattle.ca_logs.specs.Entries.{task_after}
use Rattle.ca_sum_pool.specs.declared.performing.Stuck.{Stuck}
use Rattle.ca_sum_pool.specs.Parts.{tasks_of, first_why}
use Rattle.ca_sum_pool.proofs.Joins.{copies_more}
use Rattle.ca_sum_pool.proofs.Whole.{all_begin, first_fit, rest_fits, rounded_in}
use Rattle.ca_sum_pool.proofs.round.run_round.Goals as goal

pub work-requires-clause-calls : goal.work-requires-clause-calls
work-requires-clause-calls g c = λ κs o. first_fit g.N.Round.setting (program_view c.args.program.now) c.args.extent.now c.args.frozen.now (map (task_after 0) c.args.listed.now) c.requires.setting c.requires.listed

pub work-requires-clause-first : goal.work-requires-clause-first
work-requires-clause-first g c = λ κs o. first_fit g.N.Round.setting (program_view c.args.program.now) c.args.extent.now c.args.frozen.now c.args.first.items c.requires.setting c.requires.first.0

pub finish-requires-clause-fits : goal.finish-requires-clause-fits
finish-requires-clause-fits g c = rest_fits g.N.Round.setting (program_view c.args.program.now) g.K.Sums.extent c.args.extent.now c.args.frozen.now g.K.Sums.left (map (task_after 0) c.args.listed.now ++ c.args.first.items) _ c.requires.setting c.in_ok-replicas.ensures.worked

pub returns-clause-memory : goal.returns-clause-memory
returns-clause-memory g c = c.in_ok-replicas.ensures.memory

pub returns-clause-rounded : goal.returns-clause-rounded
returns-clause-rounded g c = let here = c.as_slice.ensures.value in let here2 = c.as_slice-2.ensures.value in
    rounded_in g.N.Round.setting (program_view c.args.program.now) g.K.Sums.extent c.args.extent.now c.args.frozen.now g.K.Sums.left c.args.left c.args.quota (map (task_after 0) c.args.listed.now ++ c.args.first.items) _ c.finish.new.rest.items c.finish.new.stuck.items c.in_ok-replica.replica.copies c.finish.new.steps _
    c.requires.setting c.requires.picked.0 c.requires.picked.1 c.requires.round c.requires.once c.requires.quota (all_begin c.args.listed.now c.args.first.items c.requires.first.1) c.in_ok-replicas.ensures.worked c.in_ok-replica.ensures
    (copies_more _ _ _ c.in_ok-push.ensures.items) (c.in_ok-add_tasks_of.ensures ∙ ap (λ (zs : List Stuck). c.finish.new.rest.items ++ tasks_of zs) here2) (c.first_why_of-stop.ensures ∙ ap first_why here) refl

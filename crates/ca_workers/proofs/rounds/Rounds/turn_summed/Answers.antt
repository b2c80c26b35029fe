use Rattle.std.proofs.Common.{◌≡◌, ◌∙◌, ◌<◌, ◌+◌, List, All, length, map, take, drop, subst, sym, ap}
use Rattle.ca_program.specs.View.{program_view}
use Rattle.ca_model.specs.declared.value.Object.{Object}
use Rattle.ca_beside.specs.declared.beside.Changed.{Changed}
use Rattle.ca_beside.specs.Beside.{present}
use Rattle.ca_parallel.specs.declared.op.Op.{Op}
use Rattle.ca_logs.specs.declared.log.Task.{Task}
use Rattle.ca_logs.specs.Entries.{task_after, task_calls}
use Rattle.ca_sum_laws.specs.Replicas.{MayRun}
use Rattle.ca_replica.specs.Together.{added_one_by_one}
use Rattle.ca_run.specs.Turns.{RanTo}
use Rattle.ca_sum_pool.specs.Rounded.{Rounded, copies_in}
use Rattle.ca_workers.specs.clauses.Runs.{MayWait, NoneWithin, with_lent}
use Rattle.ca_workers.proofs.Adding.{is_round, sums_may_run, sums_passed, sums_went, sums_stopped}
use Rattle.ca_workers.proofs.Lent.{all_behind, parted_lent, some_lent, some_in_round, lent_went, both_run}
use Rattle.ca_workers.proofs.Logs.{nothing_stopped}
use Rattle.ca_workers.proofs.Parts.{first_wait, all_begin, all_together}
use Rattle.ca_workers.proofs.rounds.Rounds.turn_summed.Goals as goal

pub at_work-count-requires-clause-tasks : goal.at_work-count-requires-clause-tasks
at_work-count-requires-clause-tasks g c =
    let from = c.lent_from-from.result in
    let some = some_lent c.args.listed.now from c.most_of-most.result c.newest_of.new.waiting.items c.in_ok-first.first.items c.args.waiting.items c.in_ok-first.ensures.all c.in_ok-first.ensures.some c.lent_from-from.ensures.within c.lent_from-from.ensures.some c.most_of-most.ensures.some c.requires.some in
    c.as_many-given.ensures.some (subst (λ (os : List Op). 0 < length os + length c.in_ok-first.first.items) (sym (all_behind c.args.listed.now from)) some)

pub round_summed-requires-clause-round : goal.round_summed-requires-clause-round
round_summed-requires-clause-round g c = λ κs o. is_round (program_view c.args.self.now.program.now) c.args.self.now.extent.now c.args.frozen.now c.requires.setting c.requires.sums

pub round_summed-requires-clause-listed : goal.round_summed-requires-clause-listed
round_summed-requires-clause-listed g c = λ κs o.
    let p = program_view c.args.self.now.program.now in
    let x = c.args.self.now.extent.now in
    let frozen = c.args.frozen.now in
    let now : List Object = present frozen c.args.beside.now in
    let from = c.lent_from-from.result in
    let kept = with_lent (take from c.args.listed.now) c.newest_of.new.waiting.items in
    let first = with_lent (drop from c.args.listed.now) c.in_ok-first.first.items in
    let all = parted_lent c.args.listed.now from c.newest_of.new.waiting.items c.in_ok-first.first.items c.args.waiting.items c.in_ok-first.ensures.all c.lent_from-from.ensures.none in
    let w = subst (λ (ts : List Task). MayWait p x frozen now (task_calls ts)) all c.requires.waiting in
    subst (λ (os : List Op). All (MayRun p x frozen) (map (task_after 0) os)) (sym (all_behind c.args.listed.now from))
    (both_run p x frozen (drop from c.args.listed.now) c.in_ok-first.first.items (sums_may_run p x frozen c.requires.setting c.requires.sums now first (first_wait p x frozen now kept first w))).0

pub round_summed-requires-clause-first : goal.round_summed-requires-clause-first
round_summed-requires-clause-first g c = λ κs o.
    let p = program_view c.args.self.now.program.now in
    let x = c.args.self.now.extent.now in
    let frozen = c.args.frozen.now in
    let now : List Object = present frozen c.args.beside.now in
    let from = c.lent_from-from.result in
    let kept = with_lent (take from c.args.listed.now) c.newest_of.new.waiting.items in
    let first = with_lent (drop from c.args.listed.now) c.in_ok-first.first.items in
    let all = parted_lent c.args.listed.now from c.newest_of.new.waiting.items c.in_ok-first.first.items c.args.waiting.items c.in_ok-first.ensures.all c.lent_from-from.ensures.none in
    let w = subst (λ (ts : List Task). MayWait p x frozen now (task_calls ts)) all c.requires.waiting in (
      (both_run p x frozen (drop from c.args.listed.now) c.in_ok-first.first.items (sums_may_run p x frozen c.requires.setting c.requires.sums now first (first_wait p x frozen now kept first w))).1,
      (all_begin c.newest_of.new.waiting.items c.in_ok-first.first.items c.args.waiting.items c.in_ok-first.ensures.all c.requires.begins).1,
    )

pub returns-then-is_some-clause-turned : goal.returns-then-is_some-clause-turned
returns-then-is_some-clause-turned g c =
    let p = program_view c.args.self.now.program.now in
    let x = c.args.self.now.extent.now in
    let frozen = c.args.frozen.now in
    let now : List Object = present frozen c.args.beside.now in
    let from = c.lent_from-from.result in
    let kept = with_lent (take from c.args.listed.now) c.newest_of.new.waiting.items in
    let first = with_lent (drop from c.args.listed.now) c.in_ok-first.first.items in
    let all = parted_lent c.args.listed.now from c.newest_of.new.waiting.items c.in_ok-first.first.items c.args.waiting.items c.in_ok-first.ensures.all c.lent_from-from.ensures.none in
    let w = subst (λ (ts : List Task). MayWait p x frozen now (task_calls ts)) all c.requires.waiting in
    let told = subst (λ (os : List Op). Rounded p x frozen c.args.left c.args.quota (with_lent os c.in_ok-first.first.items) c.in_ok-replicas.field-0) (all_behind c.args.listed.now from) c.in_ok-replicas.ensures.rounded in
    subst (λ (ts : List Task). NoneWithin p frozen now (task_calls ts) c.args.left) (sym all)
    (sums_stopped p x frozen c.requires.setting c.requires.sums now kept first w c.args.left c.args.quota c.in_ok-replicas.field-0 told (sym c.is_some.ensures ∙ c.if-is_some.true))

pub store_sums-requires-clause-once : goal.store_sums-requires-clause-once
store_sums-requires-clause-once g c = c.requires.once

pub store_sums-requires-clause-whole : goal.store_sums-requires-clause-whole
store_sums-requires-clause-whole g c = c.in_ok-replicas.ensures.rounded.whole

pub returns-in_ok-waits-in-Some-clause-turned : goal.returns-in_ok-waits-in-Some-clause-turned
returns-in_ok-waits-in-Some-clause-turned g c =
    let p = program_view c.args.self.now.program.now in
    let x = c.args.self.now.extent.now in
    let frozen = c.args.frozen.now in
    let now : List Object = present frozen c.args.beside.now in
    let from = c.lent_from-from.result in
    let own = take from c.args.listed.now in
    let kept = with_lent own c.newest_of.new.waiting.items in
    let first = with_lent (drop from c.args.listed.now) c.in_ok-first.first.items in
    let all = parted_lent c.args.listed.now from c.newest_of.new.waiting.items c.in_ok-first.first.items c.args.waiting.items c.in_ok-first.ensures.all c.lent_from-from.ensures.none in
    let w = subst (λ (ts : List Task). MayWait p x frozen now (task_calls ts)) all c.requires.waiting in
    let some = some_lent c.args.listed.now from c.most_of-most.result c.newest_of.new.waiting.items c.in_ok-first.first.items c.args.waiting.items c.in_ok-first.ensures.all c.in_ok-first.ensures.some c.lent_from-from.ensures.within c.lent_from-from.ensures.some c.most_of-most.ensures.some c.requires.some in
    let r = c.in_ok-replicas.field-0 in
    let told = subst (λ (os : List Op). Rounded p x frozen c.args.left c.args.quota (with_lent os c.in_ok-first.first.items) c.in_ok-replicas.field-0) (all_behind c.args.listed.now from) c.in_ok-replicas.ensures.rounded in
    let after : List Object = added_one_by_one x.written (copies_in r.replicas.items) now in
    let same = ap (λ (cs : List Changed). added_one_by_one x.written (copies_in r.replicas.items) (present frozen cs)) c.in_ok-replicas.ensures.memory in
    let heap : present frozen c.store_sums.new.beside ≡ after = c.in_ok-store_sums-in-Some.ensures ∙ same in
    let more = task_calls (with_lent own c.in_ok-waits-in-Some.waits.items) in
    let ran =
    lent_went p frozen now own c.newest_of.new.waiting.items first (with_lent c.args.listed.now c.args.waiting.items) all c.args.left after r.rest.items c.begin_anew.new.tasks.items c.begin_anew.ensures.calls c.in_ok-waits-in-Some.waits.items c.in_ok-waits-in-Some.ensures c.in-Some.steps
    (sums_went p x frozen c.requires.setting c.requires.sums now kept first w c.args.left c.args.quota r told (nothing_stopped r.stop (sym c.is_some.ensures ∙ c.if-is_some.false)) (some_in_round (drop from c.args.listed.now) c.in_ok-first.first.items some) c.in-Some.steps c.in-Some.is) in
    (subst (λ (h : List Object). RanTo p frozen now (task_calls (with_lent c.args.listed.now c.args.waiting.items)) c.args.left h more c.in-Some.steps) (sym heap) ran.0, ran.1)

pub returns-in_ok-waits-in-Some-clause-begins : goal.returns-in_ok-waits-in-Some-clause-begins
returns-in_ok-waits-in-Some-clause-begins g c =
    all_together c.newest_of.new.waiting.items c.begin_anew.new.tasks.items c.in_ok-waits-in-Some.waits.items c.in_ok-waits-in-Some.ensures
    (all_begin c.newest_of.new.waiting.items c.in_ok-first.first.items c.args.waiting.items c.in_ok-first.ensures.all c.requires.begins).0 c.begin_anew.ensures.begins

pub returns-in-None-clause-turned : goal.returns-in-None-clause-turned
returns-in-None-clause-turned g c =
    let p = program_view c.args.self.now.program.now in
    let x = c.args.self.now.extent.now in
    let frozen = c.args.frozen.now in
    let now : List Object = present frozen c.args.beside.now in
    let from = c.lent_from-from.result in
    let kept = with_lent (take from c.args.listed.now) c.newest_of.new.waiting.items in
    let first = with_lent (drop from c.args.listed.now) c.in_ok-first.first.items in
    let all = parted_lent c.args.listed.now from c.newest_of.new.waiting.items c.in_ok-first.first.items c.args.waiting.items c.in_ok-first.ensures.all c.lent_from-from.ensures.none in
    let w = subst (λ (ts : List Task). MayWait p x frozen now (task_calls ts)) all c.requires.waiting in
    let told = subst (λ (os : List Op). Rounded p x frozen c.args.left c.args.quota (with_lent os c.in_ok-first.first.items) c.in_ok-replicas.field-0) (all_behind c.args.listed.now from) c.in_ok-replicas.ensures.rounded in
    subst (λ (ts : List Task). NoneWithin p frozen now (task_calls ts) c.args.left) (sym all)
    (sums_passed p x frozen c.requires.setting c.requires.sums now kept first w c.args.left c.args.quota c.in_ok-replicas.field-0 told c.in-None.is)

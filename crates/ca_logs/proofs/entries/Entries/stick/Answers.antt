use Rattle.std.proofs.Common.{◌≡◌, ◌+◌, ◌∷◌, ◌++◌, [], ℕ, List, map, Some, ap, ◌∙◌, refl, subst, arith}
use Rattle.ca_logs.specs.declared.log.Task.{Task}
use Rattle.ca_logs.specs.declared.log.Entry.{Entry}
use Rattle.ca_logs.specs.Telling.{AreKept, StepsAre, entry_with, operation_in, steps_of, stuck_entry, told_in, unboxed}
use Rattle.ca_logs.proofs.Tallying.{tallies_kept, tallies_more}
use Rattle.ca_logs.proofs.entries.Entries.stick.Goals as goal

pub invariant_of-self : goal.invariant_of-self
invariant_of-self c =
    let es = told_in c.self.inside.told.value in
    tallies_kept es c.self.inside.kept c.keep_one.new.kept c.self.inside.count c.self.inside.clock c.self.inside.steps (unboxed c.self.inside.stuck) c.self.invariant (c.in_err-keep_one.ensures.as_before es c.self.invariant.in_memory)

pub invariant_of-self-2 : goal.invariant_of-self-2
invariant_of-self-2 c =
    let es = told_in c.self.inside.told.value in
    let e = stuck_entry c.args.task.now c.args.clock c.args.stop in
    let with_none : (ts : List Task) → Entry = λ ts. entry_with c.args.task.now c.args.clock 0 (map operation_in ts) (Some c.args.stop) in
    let none = c.new-none.ensures.items in
    let nothing_more : steps_of es ≡ steps_of es + 0 = omega arith in
    tallies_more es e (told_in c.add_told.new.past.value) c.keep_one.new.kept c.self.inside.count _ c.args.clock c.self.inside.steps (Some c.in_ok-entry.entry.value)
    (c.add_told.ensures ∙ ap (λ (x : Entry). es ++ x ∷ []) (c.tell.ensures ∙ ap with_none none))
    (subst (λ (ts : List Task). AreKept c.keep_one.new.kept (es ++ with_none ts ∷ [])) none (c.in_ok-keep_one.ensures.added es c.self.invariant.in_memory))
    c.self.invariant.many refl refl
    (subst (λ (n : ℕ). StepsAre c.self.inside.steps n) nothing_more c.self.invariant.all_steps)
    (ap Some ((c.in_ok-entry.ensures ∙ c.in_ok-made.ensures) ∙ ap with_none none))

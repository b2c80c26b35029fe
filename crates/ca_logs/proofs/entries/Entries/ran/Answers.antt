use Rattle.std.proofs.Common.{◌≡◌, ◌++◌, ◌∷◌, [], true≢false, false, map, Option, None, Some, refl, sym, ap, ◌∙◌}
use Rattle.std.specs.Option.{is_some}
use Rattle.ca_logs.specs.declared.log.Entry.{Entry}
use Rattle.ca_logs.specs.Telling.{operation_in, ran_entry, steps_of, told_in, unboxed}
use Rattle.ca_logs.proofs.Tallying.{tallies_kept, tallies_more}
use Rattle.ca_logs.proofs.entries.Entries.ran.Goals as goal

none_there : {A : Type 0} (o : Option A) → is_some o ≡ false → o ≡ None
none_there None e = refl
none_there (Some x) e = absurd (true≢false e)

pub invariant_of-self : goal.invariant_of-self
invariant_of-self c =
    let es = told_in c.self.inside.told.value in
    tallies_kept es c.self.inside.kept c.keep_one.new.kept c.self.inside.count c.self.inside.clock c.self.inside.steps (unboxed c.self.inside.stuck) c.self.invariant (c.in_err-keep_one.ensures.as_before es c.self.invariant.in_memory)

pub invariant_of-self-then-is_some : goal.invariant_of-self-then-is_some
invariant_of-self-then-is_some c =
    let es = told_in c.self.inside.told.value in
    let e = ran_entry c.args.task.now c.args.clock c.args.steps (map operation_in c.args.listed.now.items) in
    tallies_more es e (told_in c.add_told.new.past.value) c.keep_one.new.kept c.self.inside.count _ c.args.clock c.more_steps-self-inside.result (unboxed c.let_go.new.stuck)
    (c.add_told.ensures ∙ ap (λ (x : Entry). es ++ x ∷ []) c.tell.ensures) (c.in_ok-keep_one.ensures.added es c.self.invariant.in_memory) c.self.invariant.many refl refl (c.more_steps-self-inside.ensures (steps_of es) c.self.invariant.all_steps) (ap unboxed c.let_go.ensures)

pub invariant_of-self-else-is_some : goal.invariant_of-self-else-is_some
invariant_of-self-else-is_some c =
    let es = told_in c.self.inside.told.value in
    let e = ran_entry c.args.task.now c.args.clock c.args.steps (map operation_in c.args.listed.now.items) in
    tallies_more es e (told_in c.add_told.new.past.value) c.keep_one.new.kept c.self.inside.count _ c.args.clock c.more_steps-self-inside.result (unboxed c.self.inside.stuck)
    (c.add_told.ensures ∙ ap (λ (x : Entry). es ++ x ∷ []) c.tell.ensures) (c.in_ok-keep_one.ensures.added es c.self.invariant.in_memory) c.self.invariant.many refl refl (c.more_steps-self-inside.ensures (steps_of es) c.self.invariant.all_steps)
    (ap unboxed (none_there c.self.inside.stuck (sym c.is_some.ensures ∙ c.if-is_some.false)))

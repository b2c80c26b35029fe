use Rattle.std.proofs.Common.{rules, option_to_list, ap, subst, ◌∙◌, arith}
use Rattle.ca_program.specs.View.{program_view}
use Rattle.ca_deques.specs.Settings.{AllFit}
use Rattle.ca_sum_pool.specs.declared.performing.Turn.{Turn}
use Rattle.ca_sum_pool.specs.declared.performing.Turn.TheVariants as turns
use Rattle.ca_sum_pool.specs.Parts.{begun, next_task, sum_within, taken_of}
use Rattle.ca_sum_pool.proofs.Did.{nothing_found, sound_still, sound_ran, sound_kept, sound_stuck, sound_lost}
use Rattle.ca_sum_pool.proofs.Steps.{stands_there, performed_there}
use Rattle.ca_sum_pool.proofs.part.Part.step.Goals as goal

pub invariant_of-self : goal.invariant_of-self
invariant_of-self g c = let t = c.take_next.ensures in let z = c.self.inside in
    (c.self.invariant.0, sound_still g.N.Round.setting g.K.Sums.extent g.K.Sums.left z.owner c.take_next.new.owner z.thieves c.take_next.new.thieves z.replica.copies z.share.items c.take_next.new.share.items (begun g.K.Sums.listed z.from z.to) g.K.Sums.listed c.args.listed.now c.requires.listed z.at z.end c.take_next.new.at c.take_next.new.end z.stuck z.count z.steps z.short (taken_of c.take_next.result) c.self.invariant.1 t.same t.taken t.share (ap taken_of (nothing_found c.take_next.result c.in_default.not-Some)))

pub perform-turn-requires-clause-fits : goal.perform-turn-requires-clause-fits
perform-turn-requires-clause-fits g c = subst (λ o. AllFit g.N.Round.setting (option_to_list (taken_of o))) c.in-Some.is c.take_next.ensures.fits 0 (next_task c.in-Some.next) (omega arith)

pub perform-turn-requires-clause-stands : goal.perform-turn-requires-clause-stands
perform-turn-requires-clause-stands g c = let z = c.self.inside in
    stands_there g.N.Round.setting (program_view c.args.program.now) g.K.Sums.extent c.args.extent.now c.args.frozen.now g.K.Sums.left z.owner.hand z.thieves z.replica.copies z.share.items (begun g.K.Sums.listed z.from z.to) (begun g.K.Sums.listed z.at z.end) z.stuck z.count z.steps z.short c.requires.picked c.requires.setting c.requires.round c.if-self.false c.self.invariant.1

pub invariant_of-self-in-Ran : goal.invariant_of-self-in-Ran
invariant_of-self-in-Ran g c = let t = c.take_next.ensures in let z = c.self.inside in (
  c.self.invariant.0,
  sound_ran g.N.Round.setting g.K.Sums.extent g.K.Sums.left z.owner c.take_next.new.owner z.thieves c.take_next.new.thieves z.replica.copies z.share.items c.take_next.new.share.items (begun g.K.Sums.listed z.from z.to) g.K.Sums.listed c.args.listed.now c.requires.listed z.at z.end c.take_next.new.at c.take_next.new.end z.stuck z.count z.steps z.short (taken_of c.take_next.result) c.self.invariant.1 t.same t.taken (next_task c.in-Some.next) (ap taken_of c.in-Some.is) c.perform-turn.new.owner c.perform-turn.new.replica.copies c.perform-turn.new.share.items c.in-Ran.steps c.one_more-self-inside.result c.add_steps-self-inside.result
      (performed_there g.N.Round.setting g.K.Sums.extent c.args.extent.now g.K.Sums.left z.left (next_task c.in-Some.next) c.take_next.new.owner c.perform-turn.new.owner z.replica.copies c.perform-turn.new.replica.copies c.take_next.new.share.items c.perform-turn.new.share.items c.perform-turn.result (turns.Ran c.in-Ran.steps) c.requires.picked c.self.invariant.0 c.in-Ran.is c.perform-turn.ensures)
      c.one_more-self-inside.ensures.few (c.add_steps-self-inside.ensures ∙ ap (λ n. sum_within n z.steps c.in-Ran.steps) c.self.invariant.0),
)

pub invariant_of-self-in-Kept : goal.invariant_of-self-in-Kept
invariant_of-self-in-Kept g c = let t = c.take_next.ensures in let z = c.self.inside in (
  c.self.invariant.0,
  sound_kept g.N.Round.setting g.K.Sums.extent g.K.Sums.left z.owner c.take_next.new.owner z.thieves c.take_next.new.thieves z.replica.copies z.share.items c.take_next.new.share.items (begun g.K.Sums.listed z.from z.to) g.K.Sums.listed c.args.listed.now c.requires.listed z.at z.end c.take_next.new.at c.take_next.new.end z.stuck z.count z.steps z.short (taken_of c.take_next.result) c.self.invariant.1 t.same t.taken (next_task c.in-Some.next) (ap taken_of c.in-Some.is) c.perform-turn.new.owner c.perform-turn.new.replica.copies c.perform-turn.new.share.items
      (performed_there g.N.Round.setting g.K.Sums.extent c.args.extent.now g.K.Sums.left z.left (next_task c.in-Some.next) c.take_next.new.owner c.perform-turn.new.owner z.replica.copies c.perform-turn.new.replica.copies c.take_next.new.share.items c.perform-turn.new.share.items c.perform-turn.result turns.Kept c.requires.picked c.self.invariant.0 c.in-Kept.is c.perform-turn.ensures),
)

pub invariant_of-self-in-Stopped : goal.invariant_of-self-in-Stopped
invariant_of-self-in-Stopped g c = let t = c.take_next.ensures in let z = c.self.inside in (
  c.self.invariant.0,
  sound_stuck g.N.Round.setting g.K.Sums.extent g.K.Sums.left z.owner c.take_next.new.owner z.thieves c.take_next.new.thieves z.replica.copies z.share.items c.take_next.new.share.items (begun g.K.Sums.listed z.from z.to) g.K.Sums.listed c.args.listed.now c.requires.listed z.at z.end c.take_next.new.at c.take_next.new.end z.stuck z.count z.steps z.short (taken_of c.take_next.result) c.self.invariant.1 t.same t.taken (next_task c.in-Some.next) (ap taken_of c.in-Some.is) c.perform-turn.new.owner c.perform-turn.new.replica.copies c.perform-turn.new.share.items c.in-Stopped.stuck (search rules)
      (performed_there g.N.Round.setting g.K.Sums.extent c.args.extent.now g.K.Sums.left z.left (next_task c.in-Some.next) c.take_next.new.owner c.perform-turn.new.owner z.replica.copies c.perform-turn.new.replica.copies c.take_next.new.share.items c.perform-turn.new.share.items c.perform-turn.result (turns.Stopped c.in-Stopped.stuck) c.requires.picked c.self.invariant.0 c.in-Stopped.is c.perform-turn.ensures),
)

pub invariant_of-self-in-Short : goal.invariant_of-self-in-Short
invariant_of-self-in-Short g c = let t = c.take_next.ensures in let z = c.self.inside in (
  c.self.invariant.0,
  sound_lost g.N.Round.setting g.K.Sums.extent g.K.Sums.left z.owner c.take_next.new.owner z.thieves c.take_next.new.thieves z.replica.copies z.share.items c.take_next.new.share.items (begun g.K.Sums.listed z.from z.to) g.K.Sums.listed c.args.listed.now c.requires.listed z.at z.end c.take_next.new.at c.take_next.new.end z.stuck z.count z.steps z.short (taken_of c.take_next.result) c.self.invariant.1 t.same t.taken (next_task c.in-Some.next) (ap taken_of c.in-Some.is) c.perform-turn.new.owner c.perform-turn.new.replica.copies c.perform-turn.new.share.items turns.Short
      (performed_there g.N.Round.setting g.K.Sums.extent c.args.extent.now g.K.Sums.left z.left (next_task c.in-Some.next) c.take_next.new.owner c.perform-turn.new.owner z.replica.copies c.perform-turn.new.replica.copies c.take_next.new.share.items c.perform-turn.new.share.items c.perform-turn.result turns.Short c.requires.picked c.self.invariant.0 c.in-Short.is c.perform-turn.ensures),
)

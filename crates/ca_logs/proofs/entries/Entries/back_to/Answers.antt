use Rattle.std.proofs.Common.{List, take, ap, sym, subst, ◌∙◌}
use Rattle.ca_logs.specs.declared.log.Entry.{Entry}
use Rattle.ca_logs.specs.Telling.{IsMark, told_in}
use Rattle.ca_logs.proofs.Tallying.{tallies_back}
use Rattle.ca_logs.proofs.entries.Entries.back_to.Goals as goal

pub invariant_of-self : goal.invariant_of-self
invariant_of-self c =
    let es = told_in c.self.inside.told.value in
    let m : IsMark (take c.args.mark.count es) c.args.mark = subst (λ (xs : List Entry). IsMark (take c.args.mark.count xs) c.args.mark) (sym c.self.view_is) c.requires in
    tallies_back es (told_in c.of.result.value) c.cut.new.kept c.args.mark m (ap told_in c.of.ensures ∙ m.told) (c.cut.ensures es c.self.invariant.in_memory)

pub returns : goal.returns
returns c = ap told_in c.of.ensures ∙ c.requires.told

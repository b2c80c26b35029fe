use Rattle.std.proofs.Common.{refl, Err, sym, subst}
use Rattle.ca_sections.specs.declared.operations.SectionAnswer.TheVariants as answer
use Rattle.ca_sections.specs.Running.{Settled, fore_in}
use Rattle.ca_sections.proofs.access.InSection.give_up.Goals as goal

pub put_back-requires : goal.put_back-requires
put_back-requires c = c.requires.there

pub returns-in-Trapped : goal.returns-in-Trapped
returns-in-Trapped c =
    let s = c.args.self.now in
    record {
      settled = λ budget left. subst (λ r. Settled (Err r) (answer.Trapped c.in-Trapped.trap) budget left s c.put_back.new.slots (fore_in s) c.truncate.new.self.items) (sym c.in-Trapped.is) (refl, c.put_back.ensures.slots, c.truncate.ensures.items);
      kept = tt;
      olds = λ steps e. cc;
      same_slots = refl;
      same_olds = refl;
      same_list = refl;
      same_spare = refl;
    }

pub returns-in-Spent : goal.returns-in-Spent
returns-in-Spent c =
    let s = c.args.self.now in
    record {
      settled = λ budget left. subst (λ r. Settled (Err r) answer.Spent budget left s c.put_back.new.slots (fore_in s) c.truncate.new.self.items) (sym c.in-Spent.is) (c.put_back.ensures.slots, c.truncate.ensures.items);
      kept = tt;
      olds = λ steps e. cc;
      same_slots = refl;
      same_olds = refl;
      same_list = refl;
      same_spare = refl;
    }

pub returns-in-Memory : goal.returns-in-Memory
returns-in-Memory c =
    record {
      settled = tt;
      kept = (c.put_back.ensures.slots, c.truncate.ensures.items);
      olds = tt;
      same_slots = refl;
      same_olds = refl;
      same_list = refl;
      same_spare = refl;
    }

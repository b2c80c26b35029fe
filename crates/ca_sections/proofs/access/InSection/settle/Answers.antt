use Rattle.std.proofs.Common.{refl}
use Rattle.ca_sections.specs.Running.{fore_in}
use Rattle.ca_sections.proofs.Settling.{settled_as, settled_whole}
use Rattle.ca_sections.proofs.access.InSection.settle.Goals as goal

pub returns-in-Ok : goal.returns-in-Ok
returns-in-Ok c =
    record {
      settled = settled_whole c.args.ran _ _ c.args.budget c.args.left c.args.self.now c.args.self.now.slots.now _ c.in-Ok.is c.saturating_sub-steps.ensures refl refl;
      kept = tt;
      olds = λ steps e. refl;
      same_slots = refl;
      same_olds = refl;
      same_list = refl;
      same_spare = refl;
    }

pub returns-in-Err : goal.returns-in-Err
returns-in-Err c =
    let g = c.give_up.ensures in
    record {
      settled = settled_as c.args.ran c.in-Err.stop c.args.budget c.args.left c.args.self.now c.give_up.new.self.slots.now (fore_in c.args.self.now) c.give_up.new.self.listed.now.items c.give_up.result c.in-Err.is g.settled;
      kept = g.kept;
      olds = g.olds;
      same_slots = g.same_slots;
      same_olds = g.same_olds;
      same_list = g.same_list;
      same_spare = g.same_spare;
    }

pub give_up-requires : goal.give_up-requires
give_up-requires c = record { there = c.requires.there }

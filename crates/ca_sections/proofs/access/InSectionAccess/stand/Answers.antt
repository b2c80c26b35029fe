use Rattle.std.proofs.Common.{refl, sym, ap, ◌∙◌}
use Rattle.ca_sections.specs.Running.{standing}
use Rattle.ca_sections.proofs.access.InSectionAccess.stand.Goals as goal

pub returns : goal.returns
returns c =
    record { world = λ past. refl; fixed = refl; fits = λ bs cs f e. record { stands = c.standing-self.ensures ∙ ap (standing c.args.self.now.own) (sym e); there = f.there } }

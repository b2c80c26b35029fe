use Rattle.ca_app.proofs.Endings.{ends_told, was_told}
use Rattle.ca_app.proofs.telling.tell_plan.Goals as goal

pub returns-in-Ok-clause-ends : goal.returns-in-Ok-clause-ends
returns-in-Ok-clause-ends g c = ends_told _ _ _ _ c.in-Ok.ensures.exact c.tell-status.ensures.ends

pub returns-in-Ok-clause-told : goal.returns-in-Ok-clause-told
returns-in-Ok-clause-told g c = λ zero.
    was_told _ _ _ _ c.in-Ok.ensures.exact (c.in-Ok.ensures.sound c.requires.checked) (c.in-Ok.ensures.commute c.requires.checked) c.tell-status.ensures.ends zero

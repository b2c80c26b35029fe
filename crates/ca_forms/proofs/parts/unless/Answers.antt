use Rattle.ca_forms.proofs.parts.unless.Goals as goal

pub returns-else-alike-clause-same : goal.returns-else-alike-clause-same
returns-else-alike-clause-same g c = tt

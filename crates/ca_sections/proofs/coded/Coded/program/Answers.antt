use Rattle.ca_sections.proofs.coded.Coded.program.Goals as goal

pub returns : goal.returns
returns c = c.self.view_is

use Rattle.ca_meaning_laws.proofs.SectionTypes.{section_leaves}
use Rattle.ca_meaning_laws.proofs.typing.sections_keep_types.Goals as goal

pub returns : goal.returns
returns c = λ p typed h t r o op vs budget class well of_class object. section_leaves p typed h t r o op vs budget class well of_class object

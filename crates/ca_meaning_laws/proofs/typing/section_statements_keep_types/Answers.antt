use Rattle.ca_meaning_laws.proofs.SectionTypes.{section_loop_typed}
use Rattle.ca_meaning_laws.proofs.typing.section_statements_keep_types.Goals as goal

pub returns : goal.returns
returns c = λ p typed h t s this here line ls x y k good v ty. section_loop_typed p typed h t s this here y ty line ls x k good v

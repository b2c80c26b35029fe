use Rattle.ca_canonical.proofs.Program.{has_tokens, read_back}
use Rattle.ca_canonical.proofs.laws.canonical_text_reads_back.Goals as goal

pub returns-clause-tokens : goal.returns-clause-tokens
returns-clause-tokens c = has_tokens

pub returns-clause-tree : goal.returns-clause-tree
returns-clause-tree c = read_back

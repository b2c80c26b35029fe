use Rattle.ca_words.proofs.OneCommand.{one_command}
use Rattle.ca_words.proofs.names_one_command.Goals as goal

pub returns : goal.returns
returns c = one_command

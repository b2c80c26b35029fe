use Rattle.ca_app.proofs.Annotated.{kept, marked}
use Rattle.ca_app.proofs.laws.annotated_texts_keep_the_lock.Goals as goal

pub returns-clause-locks : goal.returns-clause-locks
returns-clause-locks c = λ text old now told. kept told

pub returns-clause-sites : goal.returns-clause-sites
returns-clause-sites c = λ text old now told. marked told

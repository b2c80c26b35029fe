use Rattle.std.proofs.Common.{arith}
use Rattle.ca_app.proofs.OneRefusal.{refused_as_long}
use Rattle.ca_app.proofs.verifying.read_source.Goals as goal

pub returns-then-source-gt-MOST_BYTES-clause-cause : goal.returns-then-source-gt-MOST_BYTES-clause-cause
returns-then-source-gt-MOST_BYTES-clause-cause c = refused_as_long (omega (arith, c.if-source-gt-MOST_BYTES.true))

-- What it is to read a tree back.
use Rattle.std.specs.Prelude.{◌≡◌, List}
use Rattle.ca_tree.specs.declared.token.Token.{Token}
use Rattle.ca_tree.specs.Plain.{TextTree}
use Rattle.ca_parse.specs.Grammar.{Derives}
use Rattle.ca_canonical.specs.Bare.{bare}

-- the tokens derive a tree that is equal to t but for places
abbrev pub DerivesLike : List Token → TextTree → Type 0
DerivesLike ts t = (u : TextTree) × Derives ts u × (bare u ≡ bare t)

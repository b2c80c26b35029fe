use Rattle.std.proofs.Common.{◌≡◌, ◌+◌, ◌++◌, drop, map}
use Rattle.ca_code.specs.Seen.{kind_seen}
use Rattle.ca_code_laws.specs.Machine.{row}
use Rattle.ca_steps.specs.Stands.{seen}
use Rattle.ca_sections.proofs.listing.add_values.Given as goal

abbrev pub invariant-values : goal.invariant-values
invariant-values l =
    (l.a ≡ l.kind-index) × (l.into ++ row (seen l.slots) (l.first + l.a) (map kind_seen (drop l.kind-index l.kinds)) ≡ l.initial.into ++ row (seen l.slots) l.first (map kind_seen l.kinds))

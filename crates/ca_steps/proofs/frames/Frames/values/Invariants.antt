use Rattle.std.proofs.Common.{◌≡◌, ◌+◌, ◌++◌, drop, map}
use Rattle.ca_code.specs.Seen.{kind_seen}
use Rattle.ca_code_laws.specs.Machine.{row}
use Rattle.ca_steps.specs.Stands.{seen}
use Rattle.ca_steps.proofs.frames.Frames.values.Given as goal

abbrev pub invariant-values : goal.invariant-values
invariant-values l =
    let f = seen l.self.slots.items in
    l.into.items ++ row f (l.self.base + l.a) (map kind_seen (drop l.kind-index l.kinds)) ≡ l.initial.into.items ++ row f (l.self.base + l.first) (map kind_seen l.kinds)

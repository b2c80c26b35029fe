-- Places in a text.
use Prim.Native.Char.{code}
use Rattle.std.specs.Prelude.{ℕ, ◌+◌, List, ◌==◌, if◌then◌else◌}
use Rattle.std.specs.List.{fold}
use Rattle.ca_tree.specs.declared.name.Place.{Place}

-- the place of the first byte
abbrev pub start : Place
start = record { line = 1; column = 1 }

-- the place behind a byte: a line ends with a line feed
abbrev pub step : Place → ℕ → Place
step p b = if b == code "\n" then record { line = p.line + 1; column = 1 } else record { line = p.line; column = p.column + 1 }

-- the place behind the bytes, where the first of them stands at p
abbrev pub advance : Place → List ℕ → Place
advance p s = fold step p s

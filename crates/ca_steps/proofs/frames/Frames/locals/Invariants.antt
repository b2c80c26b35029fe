use Rattle.std.proofs.Common.{◌≡◌, ◌+◌, ◌++◌, drop, map}
use Rattle.ca_program.specs.Kinds.{kind_type}
use Rattle.ca_code_laws.specs.Machine.{row}
use Rattle.ca_steps.specs.Stands.{seen}
use Rattle.ca_steps.proofs.frames.Frames.locals.Given as goal

abbrev pub invariant-locals : goal.invariant-locals
invariant-locals l =
    let f = seen l.self.slots.items in
    l.into.items ++ row f (l.self.base + l.a) (map kind_type (drop l.ty-index l.types)) ≡ l.initial.into.items ++ row f (l.self.base) (map kind_type l.types)

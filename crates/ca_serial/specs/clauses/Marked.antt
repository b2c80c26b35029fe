-- Loops whose numbers are marked.
use Rattle.std.specs.Prelude.{◌||◌, Bool, false, List, [], ◌∷◌, nat_eq}
use Rattle.ca_program.specs.declared.program.LoopId.{LoopId}
use Rattle.ca_program.specs.Plain.{Statement, for_loop}

-- the number is one of these
abbrev pub site_in : List LoopId → LoopId → Bool
site_in [] site = false
site_in (x ∷ xs) site = nat_eq site.0 x.0 || site_in xs site

-- the statement is a loop with one of these numbers
abbrev pub is_marked : List LoopId → Statement → Bool
is_marked sites (for_loop own site part first c next b) = site_in sites site
is_marked sites _ = false

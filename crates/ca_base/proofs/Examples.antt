-- Worked examples of the definitions.
use Rattle.std.proofs.Common.{◌≡◌, [], ◌∷◌, Some, None, refl}
use Rattle.ca_base.specs.Devices.{one_more, grown, with_front, at_end}
use Rattle.ca_base.specs.InMemory.{no_calls_yet, with_call, with_fault, free_room}

pub one_more-below : one_more 7 ≡ 8
one_more-below = refl

pub one_more-top : one_more 18446744073709551615 ≡ 18446744073709551615
one_more-top = refl

pub grown-told : grown (Some (1 ∷ 2 ∷ [])) (3 ∷ []) ≡ Some (1 ∷ 2 ∷ 3 ∷ [])
grown-told = refl

pub grown-untold : grown None (3 ∷ []) ≡ None
grown-untold = refl

pub with_front-told : with_front (1 ∷ []) (Some (2 ∷ 3 ∷ [])) ≡ Some (1 ∷ 2 ∷ 3 ∷ [])
with_front-told = refl

pub at_end-told : at_end (Some (1 ∷ 2 ∷ [])) ≡ Some []
at_end-told = refl

pub with_call-first : with_call (no_calls_yet (2 ∷ [])) ≡ record { failing = 2 ∷ []; made = 1; faults = 0 }
with_call-first = refl

pub with_fault-first : with_fault (record { failing = 2 ∷ []; made = 2; faults = 0 }) ≡ record { failing = 2 ∷ []; made = 2; faults = 1 }
with_fault-first = refl

pub free_room-some : free_room (record { written = 7 ∷ 8 ∷ []; room = 5; calls = no_calls_yet [] }) ≡ 3
free_room-some = refl

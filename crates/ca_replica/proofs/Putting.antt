-- Sums that are added to an object beside the heap.
use Rattle.std.proofs.Common.{◌≡◌, ◌<◌, ◌≤◌, ◌∙◌, ℕ, List, [], length, Some, sym, arith}
use Rattle.std.proofs.lemmas.Option.{slice_get_past}
use Rattle.std.specs.Prelude.{Result, Ok, Err, IfOk, slice_get, slice_set}
use Rattle.ca_lists.proofs.Places.{item_there}
use Rattle.ca_program.specs.declared.program.FieldId.{FieldId}
use Rattle.ca_model.specs.declared.value.Object.{Object}
use Rattle.ca_beside.specs.declared.beside.Changed.{Changed}
use Rattle.ca_beside.specs.Beside.{present}
use Rattle.ca_beside.proofs.Present.{present_length}
use Rattle.ca_replica.specs.Adding.{sums_in, added_object}
use Rattle.ca_replica.proofs.Sums.{object_of, added_set, none_added}

-- nothing is added to an object that isn't there
pub none_there : (ws : List FieldId) (n : ℕ) (b : Object) (h : List Object) (cs : List Changed) → length h ≤ n → present h cs ≡ added_object ws n b (present h cs)
none_there ws n b h cs le =
    let many : length (present h cs) ≡ length h = present_length h cs in
    sym (none_added ws n b (present h cs) (slice_get_past (present h cs) n (omega (arith, le, many))))

-- an object to which the sums are added in its place has them added
pub altered_added : {E : Type 0} (r : Result (Unit {0}) E) (ws : List FieldId) (n : ℕ) (b : Object) (h : List Object) (cs new : List Changed) (o : Object) → slice_get (present h cs) n ≡ Some o
    → IfOk r (λ _. (q : Object) → slice_get (present h cs) n ≡ Some q → present h new ≡ slice_set (present h cs) n (object_of q.class (sums_in ws b.class b.slots q.slots))) → IfOk r (λ _. present h new ≡ added_object ws n b (present h cs))
altered_added (Ok u) ws n b h cs new o there alters = alters o there ∙ sym (added_set ws n b (present h cs) o there)
altered_added (Err e) ws n b h cs new o there alters = tt

-- there is one
pub one_there : (h : List Object) (cs : List Changed) (n : ℕ) → n < length h → (o : Object) × (slice_get (present h cs) n ≡ Some o)
one_there h cs n lt = item_there (present h cs) n (let many : length (present h cs) ≡ length h = present_length h cs in omega (arith, lt, many))

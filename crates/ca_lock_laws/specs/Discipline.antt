-- The lock discipline: on a path the lock is held at each access to a written field, and it isn't held at a call or at the
-- end. Each call is spawned, by a mark that stands directly before it, or comes directly behind another call.
use Rattle.std.specs.Prelude.{List, [], ◌∷◌, Contains}
use Rattle.ca_program.specs.declared.program.FieldId.{FieldId}
use Rattle.ca_program.specs.declared.program.FunctionId.{FunctionId}
use Rattle.ca_program.specs.declared.program.OpId.{OpId}
use Rattle.ca_program.specs.Plain.{PlainProgram}
use Rattle.ca_parallel.specs.Separable.{ReadsWritten}
use Rattle.ca_lock_laws.specs.Events.{Event, locks, unlocks, spawns, accesses, evaluates, calls}

-- how the lock stands: held, or free; free for the call that comes next; or free directly behind a call
pub data Lock : Type 0 where
  free : Lock
  held : Lock
  spawning : Lock
  behind : Lock

-- Which event may come where the lock stands so, and how it stands then. Where it is free, fields are read that the extent
-- doesn't write, directly or by value methods.
pub data Allows (p : PlainProgram) (written : List FieldId) : Lock → Event → Lock → Type 0 where
  takes : Allows p written free locks held
  give_back : Allows p written held unlocks free
  have_given_back : Allows p written free unlocks free
  spawn : Allows p written free spawns spawning
  call : (op : OpId) → Allows p written spawning (calls op) behind
  follow : (op : OpId) → Allows p written behind (calls op) behind
  access : (f : FieldId) → Allows p written held (accesses f) held
  access_constant : (f : FieldId) → ¬ Contains written f → Allows p written free (accesses f) free
  evaluate : (m : FunctionId) → Allows p written held (evaluates m) held
  evaluate_constant : (m : FunctionId) → ¬ ReadsWritten p written m → Allows p written free (evaluates m) free

-- events in order
pub data Leads (p : PlainProgram) (written : List FieldId) : Lock → List Event → Lock → Type 0 where
  nowhere : {l : Lock} → Leads p written l [] l
  -- what may come where the lock is free may come behind a call
  forgets : {n : Lock} {es : List Event} → Leads p written free es n → Leads p written behind es n
  and_then : {l m n : Lock} {e : Event} {es : List Event} → Allows p written l e m → Leads p written m es n → Leads p written l (e ∷ es) n

-- where these fields are written
abbrev pub Disciplined : PlainProgram → List FieldId → List Event → Type 0
Disciplined p written es = Leads p written free es free

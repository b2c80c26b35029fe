-- The extent of the same operations in another list.
use Rattle.std.proofs.Common.{◌≡◌, ◌<◌, ℕ, List, length, get_or, [], ◌∷◌, ◌++◌, Result, Ok, Err, IfOk, ⊎_elim, ap, subst}
use Rattle.std.specs.Prelude.{◌↔◌, Contains}
use Rattle.std.proofs.lemmas.List.Elements.{Contains-get_or, Contains-append_left, Contains-append_right, Contains-append_cases}
use Rattle.ca_lists.proofs.Members.{has_only}
use Rattle.ca_program.specs.declared.program.FunctionId.{FunctionId}
use Rattle.ca_program.specs.declared.program.OpId.{OpId}
use Rattle.ca_program.specs.Plain.{PlainProgram}
use Rattle.ca_parallel.specs.Extents.{Invokes, root, called, Evaluates, by_operation, by_function, Extent}
use Rattle.ca_parallel.specs.ExtentsOf.{ExtentOf}
use Rattle.ca_extent.specs.clauses.Ids.{op_of}

-- both hold the same operations
abbrev pub AreAlike : List OpId → List OpId → Type 0
AreAlike xs ys = (op : OpId) → Contains xs op ↔ Contains ys op

invokes : (p : PlainProgram) (xs ys : List OpId) → ((op : OpId) → Contains xs op → Contains ys op) → {op : OpId} → Invokes p xs op → Invokes p ys op
invokes p xs ys f (root {op} c) = root (f op c)
invokes p xs ys f (called i c) = called (invokes p xs ys f i) c

evaluates : (p : PlainProgram) (xs ys : List OpId) → ((op : OpId) → Contains xs op → Contains ys op) → {m : FunctionId} → Evaluates p xs m → Evaluates p ys m
evaluates p xs ys f (by_operation i c) = by_operation (invokes p xs ys f i) c
evaluates p xs ys f (by_function e c) = by_function (evaluates p xs ys f e) c

extent_alike : (p : PlainProgram) (xs ys : List OpId) (x : Extent) → AreAlike xs ys → ExtentOf p xs x → ExtentOf p ys x
extent_alike p xs ys x same e = record {
  holds = record {
    ops = λ op. (λ c. invokes p xs ys (λ o d. (same o).0 d) ((e.holds.ops op).0 c), λ i. (e.holds.ops op).1 (invokes p ys xs (λ o d. (same o).1 d) i));
    functions = λ m. (λ c. evaluates p xs ys (λ o d. (same o).0 d) ((e.holds.functions m).0 c), λ i. (e.holds.functions m).1 (evaluates p ys xs (λ o d. (same o).1 d) i));
    written = λ f. (
      λ c. let w = (e.holds.written f).0 c in record { op = w.op; invoked = invokes p xs ys (λ o d. (same o).0 d) w.invoked; target = w.target },
      λ w. (e.holds.written f).1 (record { op = w.op; invoked = invokes p ys xs (λ o d. (same o).1 d) w.invoked; target = w.target }),
    );
  };
  ops = e.ops;
  functions = e.functions;
  written = e.written;
}

pub extents_alike : {E : Type 0} (r : Result Extent E) (p : PlainProgram) (xs zs ys : List OpId) → IfOk r (λ x. ExtentOf p xs x) → xs ≡ zs → AreAlike zs ys → IfOk r (λ x. ExtentOf p ys x)
extents_alike (Ok x) p xs zs ys e is same = extent_alike p zs ys x same (subst (λ (os : List OpId). ExtentOf p os x) is e)
extents_alike (Err e) p xs zs ys ok is same = tt

-- ---- operations that are added

behind : (xs ys : List OpId) (id : OpId) → ((op : OpId) → Contains xs op → Contains ys op) → (op : OpId) → Contains (xs ++ id ∷ []) op → Contains (ys ++ id ∷ []) op
behind xs ys id f op c = ⊎_elim (λ a. Contains-append_left ys (id ∷ []) op (f op a)) (λ a. Contains-append_right ys (id ∷ []) op a) (Contains-append_cases xs (id ∷ []) op c)

pub pushed_alike : (xs more ys : List OpId) (id : OpId) → AreAlike more (xs ++ id ∷ []) → AreAlike xs ys → AreAlike more (ys ++ id ∷ [])
pushed_alike xs more ys id m a op = (λ c. behind xs ys id (λ o d. (a o).0 d) op ((m op).0 c), λ c. (m op).1 (behind ys xs id (λ o d. (a o).1 d) op c))

-- one that is there already
pub there_alike : (xs : List OpId) (id : OpId) → Contains xs id → AreAlike xs (xs ++ id ∷ [])
there_alike xs id there op = (
  λ c. Contains-append_left xs (id ∷ []) op c,
  λ c. ⊎_elim (λ a. a) (λ a. subst (λ (o : OpId). Contains xs o) (has_only id op a) there) (Contains-append_cases xs (id ∷ []) op c),
)

-- as the item at a place is
pub last_there : (xs : List OpId) (id : OpId) (i : ℕ) (d : OpId) → (let o : OpId = get_or xs i d in o.0) ≡ id.0 → i < length xs → Contains xs id
last_there xs id i d e lt = subst (λ (o : OpId). Contains xs o) (ap op_of e) (Contains-get_or xs i d lt)

same_alike : (xs : List OpId) → AreAlike xs xs
same_alike xs op = (λ c. c, λ c. c)

pub equal_alike : (xs ys : List OpId) → xs ≡ ys → AreAlike xs ys
equal_alike xs ys e = subst (λ (zs : List OpId). AreAlike xs zs) e (same_alike xs)

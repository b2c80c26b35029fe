-- Extents that are kept, each in shared memory.
use Rattle.std.proofs.Common.{◌≡◌, ◌<◌, ◌+◌, ◌++◌, ℕ, List, [], ◌∷◌, Global, length, take, get_or, sym, ap, ◌∙◌, subst}
use Rattle.std.specs.Prelude.{Contains}
use Rattle.std.proofs.lemmas.List.{map-append, take_more_same}
use Rattle.std.proofs.lemmas.List.Elements.{Contains-get_or, Contains-append_cases}
use Rattle.std.specs.declared.rc.Rc.{Rc}
use Rattle.ca_lists.proofs.Members.{has_nothing, has_only, map_has}
use Rattle.ca_program.specs.declared.program.FieldId.{FieldId}
use Rattle.ca_program.specs.declared.program.FunctionId.{FunctionId}
use Rattle.ca_program.specs.declared.program.OpId.{OpId}
use Rattle.ca_program.specs.Plain.{PlainProgram}
use Rattle.ca_parallel.specs.Extents.{Extent, Invokes, Evaluates, by_operation, by_function, Writes}
use Rattle.ca_parallel.specs.ExtentsOf.{ExtentOf}
use Rattle.ca_section.proofs.Members.{pick}
use Rattle.ca_plan.specs.Plans.{Judged}
use Rattle.ca_plan.specs.Told.{AllWhollyTold, WhollyTold, shared}

-- one of those that are kept
pub among : (js : List (Rc Judged Global)) (n : ℕ) (x : Rc Judged Global) (y : Judged) (all : List Judged) → n < length js → x ≡ get_or js n x → y ≡ x.value → shared js ≡ all → Contains all y
among js n x y all h is same view =
    let c : Contains js x = subst (λ z. Contains js z) (sym is) (Contains-get_or js n x h) in
    subst (λ z. Contains z y) view (subst (λ z. Contains (shared js) z) (sym same) (map_has (λ (r : Rc Judged Global). r.value) js x c))

-- lists of operations that are compared one by one
pub one_more_same : (xs ys : List OpId) (i : ℕ) (d : OpId) → i < length xs → i < length ys → (get_or xs i d).0 ≡ (get_or ys i d).0 → take i xs ≡ take i ys → take (i + 1) xs ≡ take (i + 1) ys
one_more_same xs ys i d h k e same = take_more_same xs ys i d h k same (λ n. record { 0 = e n })

-- an extent with the same operations is the same extent, whatever its roots
evaluates : (p : PlainProgram) (roots others : List OpId) → ((op : OpId) → Invokes p roots op → Invokes p others op) → (m : FunctionId) → Evaluates p roots m → Evaluates p others m
evaluates p roots others f m (by_operation {op = op} i c) = by_operation (f op i) c
evaluates p roots others f m (by_function {m = n} e c) = by_function (evaluates p roots others f n e) c

writes : (p : PlainProgram) (roots others : List OpId) → ((op : OpId) → Invokes p roots op → Invokes p others op) → (f : FieldId) → Writes p roots f → Writes p others f
writes p roots others f g w = record { op = w.op; invoked = f w.op w.invoked; target = w.target }

pub same_extent : (p : PlainProgram) (roots others : List OpId) (x y : Extent) → y.ops ≡ x.ops → ExtentOf p roots x → ExtentOf p others y → ExtentOf p roots y
same_extent p roots others x y same a b =
    let there : (op : OpId) → Invokes p others op → Invokes p roots op = λ op i. (a.holds.ops op).0 (subst (λ z. Contains z op) same ((b.holds.ops op).1 i)) in
    let back : (op : OpId) → Invokes p roots op → Invokes p others op = λ op i. (b.holds.ops op).0 (subst (λ z. Contains z op) (sym same) ((a.holds.ops op).1 i)) in
    record {
      holds = record {
        ops = λ op. (λ c. there op ((b.holds.ops op).0 c), λ i. (b.holds.ops op).1 (back op i));
        functions = λ m. (λ c. evaluates p others roots there m ((b.holds.functions m).0 c), λ e. (b.holds.functions m).1 (evaluates p roots others back m e));
        written = λ f. (λ c. writes p others roots there f ((b.holds.written f).0 c), λ w. (b.holds.written f).1 (writes p roots others back f w));
      };
      ops = b.ops;
      functions = b.functions;
      written = b.written;
    }

-- none yet
pub none_told : (p : PlainProgram) (js : List (Rc Judged Global)) → js ≡ [] → AllWhollyTold p (shared js)
none_told p js is = λ j c. absurd (has_nothing j (subst (λ z. Contains (shared z) j) is c))

-- one more
pub one_more : (js new : List (Rc Judged Global)) (r : Rc Judged Global) (j : Judged) → new ≡ js ++ r ∷ [] → r.value ≡ j → shared new ≡ shared js ++ j ∷ []
one_more js new r j is same = ap shared is ∙ map-append (λ (x : Rc Judged Global). x.value) js (r ∷ []) ∙ ap (λ z. shared js ++ z ∷ []) same

pub told_with : (p : PlainProgram) (js new : List Judged) (j : Judged) → new ≡ js ++ j ∷ [] → AllWhollyTold p js → WhollyTold p j → AllWhollyTold p new
told_with p js new j is all told = λ i c.
    pick (Contains-append_cases js (j ∷ []) i (subst (λ z. Contains z i) is c)) (λ z. all i z) (λ z. subst (λ k. WhollyTold p k) (has_only j i z) told)

-- The extent, put together from what the work lists reach.
use Rattle.std.proofs.Common.{◌≡◌, inl, inr, ℕ, suc, ◌+◌, ◌<◌, List, map, length, get_or, Some, sym, ap, ◌∙◌, subst, arith}
use Rattle.std.specs.Prelude.{Contains, flat_map, slice_get}
use Rattle.std.specs.List.Sorted.{IsStrictlyIncreasing}
use Rattle.std.proofs.lemmas.List.{length-map, get_or-map}
use Rattle.std.proofs.lemmas.Option.{slice_get_within, get_or_from_slice_get, slice_get-get_or}
use Rattle.ca_lists.proofs.Members.{map_has}
use Rattle.ca_program.specs.declared.program.FieldId.{FieldId}
use Rattle.ca_program.specs.declared.program.FunctionId.{FunctionId}
use Rattle.ca_program.specs.declared.program.OpId.{OpId}
use Rattle.ca_program.specs.Plain.{PlainProgram}
use Rattle.ca_meaning.specs.Functions.{body_of}
use Rattle.ca_parallel.specs.Bodies.{calls_of_all, targets_of_all, functions_of_body}
use Rattle.ca_parallel.specs.Extents.{operation_body, function_body, Invokes, root, called, Evaluates, by_operation, by_function, Writes}
use Rattle.ca_parallel.specs.ExtentsOf.{Rises, OpBefore, FunctionBefore, FieldBefore, ExtentOf}
use Rattle.ca_extent.specs.declared.numbers.Callees.TheVariants.{Operations, Functions}
use Rattle.ca_extent.specs.clauses.Ids.{op_number, op_of, function_of, field_of}
use Rattle.ca_extent.specs.clauses.Reached.{Reached, from_root, onward, calls_at, IsReached}
use Rattle.ca_extent.specs.clauses.Rising.{PairBefore}
use Rattle.ca_extent.specs.clauses.Targets.{written_at}
use Rattle.ca_extent.proofs.Alike.{function_number, pair, all_calls_alike, all_targets_alike, all_functions_alike}
use Rattle.ca_extent.proofs.Members.{from_map, into_flat_map, from_flat_map}

-- ---- lists that rise, item by item

item_of : {A B : Type 0} (f : A → B) (xs : List A) (n : ℕ) (x : B) (d : A) → n < length xs → slice_get (map f xs) n ≡ Some x → f (get_or xs n d) ≡ x
item_of f xs n x d h at = sym (get_or-map f xs n d x h) ∙ get_or_from_slice_get (map f xs) n x x at

below_in : {A B : Type 0} (f : A → B) (xs : List A) (n : ℕ) (x : B) → slice_get (map f xs) n ≡ Some x → n < length xs
below_in f xs n x at = omega (arith, slice_get_within (map f xs) n x at, length-map xs f)

rising_map : {B : Type 0} (f : ℕ → B) (Before : B → B → Type 0) → ((m n : ℕ) → m < n → Before (f m) (f n)) → (xs : List ℕ) → IsStrictlyIncreasing xs → Rises Before (map f xs)
rising_map f Before less xs up = record {
  rises = λ n x y at next.
      let h : suc n < length xs = below_in f xs (suc n) y next in
      let k : n < length xs = omega arith in
      let a : f (get_or xs n 0) ≡ x = item_of f xs n x 0 k at in
      let b : f (get_or xs (suc n) 0) ≡ y = item_of f xs (suc n) y 0 h next in
      let e : n + 1 ≡ suc n = omega arith in
      let l : get_or xs n 0 < get_or xs (suc n) 0 = subst (λ z. get_or xs n 0 < get_or xs z 0) e (up n (omega arith)) in
      subst (λ z. Before z y) a (subst (λ z. Before (f (get_or xs n 0)) z) b (less _ _ l));
}

field_before : (p q : ℕ × ℕ) → PairBefore p q → FieldBefore (field_of p) (field_of q)
field_before p q (inl less) = inl less
field_before p q (inr (same, less)) = inr (ap (λ n. record { 0 = n }) same, less)

rising_fields : (ps : List (ℕ × ℕ)) → Rises PairBefore ps → Rises FieldBefore (map field_of ps)
rising_fields ps up = record {
  rises = λ n x y at next.
      let h : suc n < length ps = below_in field_of ps (suc n) y next in
      let k : n < length ps = omega arith in
      let a : field_of (get_or ps n (0, 0)) ≡ x = item_of field_of ps n x (0, 0) k at in
      let b : field_of (get_or ps (suc n) (0, 0)) ≡ y = item_of field_of ps (suc n) y (0, 0) h next in
      let l : PairBefore (get_or ps n (0, 0)) (get_or ps (suc n) (0, 0)) = up.rises n _ _ (slice_get-get_or ps n (0, 0) k) (slice_get-get_or ps (suc n) (0, 0) h) in
      subst (λ z. FieldBefore z y) a (subst (λ z. FieldBefore (field_of (get_or ps n (0, 0))) z) b (field_before _ _ l));
}

-- ---- what is reached

module _ (p : PlainProgram) (roots : List OpId) where
  -- what the body of an operation calls and writes, by numbers and by ids
  call_from : (n m : ℕ) → Contains (calls_at Operations p.ops n) m → Contains (calls_of_all (operation_body p (op_of n))) (op_of m)
  call_from n m c =
      let r = from_map op_number (calls_of_all (body_of (slice_get p.ops n))) m (subst (λ z. Contains z m) (all_calls_alike (body_of (slice_get p.ops n))) c) in
      subst (λ z. Contains (calls_of_all (body_of (slice_get p.ops n))) z) (ap op_of r.2) r.1

  call_to : (op callee : OpId) → Contains (calls_of_all (operation_body p op)) callee → Contains (calls_at Operations p.ops op.0) callee.0
  call_to op callee c = subst (λ z. Contains z callee.0) (sym (all_calls_alike (body_of (slice_get p.ops op.0)))) (map_has op_number _ callee c)

  value_from : (n m : ℕ) → Contains (calls_at Functions p.ops n) m → Contains (functions_of_body (operation_body p (op_of n))) (function_of m)
  value_from n m c =
      let r = from_map function_number (functions_of_body (body_of (slice_get p.ops n))) m (subst (λ z. Contains z m) (all_functions_alike (body_of (slice_get p.ops n))) c) in
      subst (λ z. Contains (functions_of_body (body_of (slice_get p.ops n))) z) (ap function_of r.2) r.1

  value_to : (op : OpId) (m : FunctionId) → Contains (functions_of_body (operation_body p op)) m → Contains (calls_at Functions p.ops op.0) m.0
  value_to op m c = subst (λ z. Contains z m.0) (sym (all_functions_alike (body_of (slice_get p.ops op.0)))) (map_has function_number _ m c)

  inner_from : (n m : ℕ) → Contains (calls_at Functions p.functions n) m → Contains (functions_of_body (function_body p (function_of n))) (function_of m)
  inner_from n m c =
      let r = from_map function_number (functions_of_body (body_of (slice_get p.functions n))) m (subst (λ z. Contains z m) (all_functions_alike (body_of (slice_get p.functions n))) c) in
      subst (λ z. Contains (functions_of_body (body_of (slice_get p.functions n))) z) (ap function_of r.2) r.1

  inner_to : (n m : FunctionId) → Contains (functions_of_body (function_body p n)) m → Contains (calls_at Functions p.functions n.0) m.0
  inner_to n m c = subst (λ z. Contains z m.0) (sym (all_functions_alike (body_of (slice_get p.functions n.0)))) (map_has function_number _ m c)

  target_from : (n : ℕ) (q : ℕ × ℕ) → Contains (written_at p.ops n) q → Contains (targets_of_all (operation_body p (op_of n))) (field_of q)
  target_from n q c =
      let r = from_map pair (targets_of_all (body_of (slice_get p.ops n))) q (subst (λ z. Contains z q) (all_targets_alike (body_of (slice_get p.ops n))) c) in
      subst (λ z. Contains (targets_of_all (body_of (slice_get p.ops n))) z) (ap field_of r.2) r.1

  target_to : (op : OpId) (f : FieldId) → Contains (targets_of_all (operation_body p op)) f → Contains (written_at p.ops op.0) (pair f)
  target_to op f c = subst (λ z. Contains z (pair f)) (sym (all_targets_alike (body_of (slice_get p.ops op.0)))) (map_has pair _ f c)

  root_from : (n : ℕ) → Contains (map op_number roots) n → Contains roots (op_of n)
  root_from n c = let r = from_map op_number roots n c in subst (λ z. Contains roots z) (ap op_of r.2) r.1

  invoked : {n : ℕ} → Reached (calls_at Operations p.ops) (map op_number roots) n → Invokes p roots (op_of n)
  invoked (from_root {n} c) = root (root_from n c)
  invoked (onward {n} {m} r c) = called (invoked r) (call_from n m c)

  reached : {op : OpId} → Invokes p roots op → Reached (calls_at Operations p.ops) (map op_number roots) op.0
  reached (root {op} c) = from_root (map_has op_number roots op c)
  reached (called {op} {callee} i c) = onward (reached i) (call_to op callee c)

  module _ (ops : List ℕ) (all : IsReached (calls_at Operations p.ops) (map op_number roots) ops) where
    member : (n : ℕ) → Contains ops n → Invokes p roots (op_of n)
    member n c = invoked ((all.all n).0 c)

    listed : {op : OpId} → Invokes p roots op → Contains ops op.0
    listed {op} i = (all.all op.0).1 (reached i)

    evaluated : {n : ℕ} → Reached (calls_at Functions p.functions) (flat_map (calls_at Functions p.ops) ops) n → Evaluates p roots (function_of n)
    evaluated (from_root {n} c) =
        let r = from_flat_map (calls_at Functions p.ops) ops n c in
        by_operation (member r.0 r.1) (value_from r.0 n r.2)
    evaluated (onward {n} {m} r c) = by_function (evaluated r) (inner_from n m c)

    called_values : {m : FunctionId} → Evaluates p roots m → Reached (calls_at Functions p.functions) (flat_map (calls_at Functions p.ops) ops) m.0
    called_values (by_operation {op} {m} i c) = from_root (into_flat_map (calls_at Functions p.ops) ops op.0 m.0 (listed i) (value_to op m c))
    called_values (by_function {m} {callee} e c) = onward (called_values e) (inner_to m callee c)

    writes : (q : ℕ × ℕ) → Contains (flat_map (written_at p.ops) ops) q → Writes p roots (field_of q)
    writes q c =
        let r = from_flat_map (written_at p.ops) ops q c in
        record { op = op_of r.0; invoked = member r.0 r.1; target = target_from r.0 q r.2 }

    written : (f : FieldId) → Writes p roots f → Contains (flat_map (written_at p.ops) ops) (pair f)
    written f w = into_flat_map (written_at p.ops) ops w.op.0 (pair f) (listed w.invoked) (target_to w.op f w.target)

    pub whole : (functions : List ℕ) (raw pairs : List (ℕ × ℕ))
        → IsReached (calls_at Functions p.functions) (flat_map (calls_at Functions p.ops) ops) functions
        → raw ≡ flat_map (written_at p.ops) ops → Rises PairBefore pairs
        → ((q : ℕ × ℕ) → Contains raw q → Contains pairs q) → ((q : ℕ × ℕ) → Contains pairs q → Contains raw q)
        → ExtentOf p roots (record { ops = map op_of ops; functions = map function_of functions; written = map field_of pairs })
    whole functions raw pairs values is up keeps adds_none = record {
      holds = record {
        ops = λ op. (op_in op, λ i. map_has op_of ops op.0 (listed i));
        functions = λ m. (function_in m, λ e. map_has function_of functions m.0 ((values.all m.0).1 (called_values e)));
        written = λ f. (field_in f, λ w. map_has field_of pairs (pair f) (keeps (pair f) (subst (λ z. Contains z (pair f)) (sym is) (written f w))));
      };
      ops = rising_map op_of OpBefore (λ m n less. less) ops all.rises;
      functions = rising_map function_of FunctionBefore (λ m n less. less) functions values.rises;
      written = rising_fields pairs up;
    }
      where
        op_in : (op : OpId) → Contains (map op_of ops) op → Invokes p roots op
        op_in op c = let r = from_map op_of ops op c in subst (λ z. Invokes p roots z) r.2 (member r.0 r.1)

        function_in : (m : FunctionId) → Contains (map function_of functions) m → Evaluates p roots m
        function_in m c = let r = from_map function_of functions m c in subst (λ z. Evaluates p roots z) r.2 (evaluated ((values.all r.0).0 r.1))

        field_in : (f : FieldId) → Contains (map field_of pairs) f → Writes p roots f
        field_in f c = let r = from_map field_of pairs f c in subst (λ z. Writes p roots z) r.2 (writes r.0 (subst (λ z. Contains z r.0) is (adds_none r.0 r.1)))

-- of the same lists
pub stands : (p : PlainProgram) (roots ops1 : List OpId) (functions1 : List FunctionId) (written1 : List FieldId) (ops2 : List OpId) (functions2 : List FunctionId) (written2 : List FieldId)
    → ops1 ≡ ops2 → functions1 ≡ functions2 → written1 ≡ written2
    → ExtentOf p roots (record { ops = ops2; functions = functions2; written = written2 }) → ExtentOf p roots (record { ops = ops1; functions = functions1; written = written1 })
stands p roots ops1 functions1 written1 ops2 functions2 written2 a b d x =
    subst (λ z. ExtentOf p roots (record { ops = z; functions = functions1; written = written1 })) (sym a)
    (subst (λ z. ExtentOf p roots (record { ops = ops2; functions = z; written = written1 })) (sym b)
    (subst (λ z. ExtentOf p roots (record { ops = ops2; functions = functions2; written = z })) (sym d) x))

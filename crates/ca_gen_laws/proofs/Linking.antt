-- A link takes two steps.
use Rattle.std.proofs.Common.{◌≡◌, ℕ, suc, ◌<◌, List, [], ◌∷◌, length, Bool, ◌⊎◌, inl, inr, refl, sym, ap, ◌∙◌, subst, arith}
use Rattle.std.proofs.lemmas.Bool.{cases_eq}
use Rattle.std.specs.Prelude.{Option, Some, slice_get, pos, ◌+ℤ◌}
use Rattle.std.specs.Int.{int_wrap, w64}
use Rattle.ca_tree.specs.declared.token.Token.{Token}
use Rattle.ca_tree.specs.declared.tree.BinaryOp.TheVariants.{Plus}
use Rattle.ca_program.specs.Plain.{PlainProgram, Expressions, Statements, number, local, own_item, binary, put_field, no_expressions, expression_and, no_statements, statement_and}
use Rattle.ca_tree.specs.declared.tree.AssignOp.TheVariants.{Put}
use Rattle.ca_model.specs.declared.value.Value.{Value as Datum}
use Rattle.ca_model.specs.declared.value.Value.TheVariants.{Long, Ref}
use Rattle.ca_model.specs.declared.value.Object.{Object}
use Rattle.ca_model.specs.Heaps.{stored}
use Rattle.ca_meaning.specs.Expressions.{Out, gives, ◌>>=◌, slots_in, pointed, found, Invocation, invocation, due}
use Rattle.ca_meaning.specs.Flows.{goes_on}
use Rattle.ca_meaning.specs.Functions.{place, functions_of}
use Rattle.ca_meaning.specs.Serial.{World, in_heap, operations_of, run_call}
use Rattle.ca_gen_laws.proofs.Program.{field, node, table, op, the_local, the_program}
use Rattle.ca_gen_laws.proofs.Steps.{put_on, call_on, called}
use Rattle.ca_gen_laws.proofs.Heaps.{stored_there, stored_elsewhere, stored_length}
use Rattle.ca_gen_laws.proofs.Nodes.{a_node, a_table, LinkedAt, moved}

-- object n is a node
pub record NodeAt (h : List Object) (n : ℕ) : Type 0 where
  pub mark : Bool
  pub value : Datum
  pub sum : Datum
  pub left : Datum
  pub right : Datum
  pub is : slice_get h n ≡ Some (a_node mark value sum left right)

-- The first object is the table of all nodes, of which those before i are linked.
pub record Ready (size : ℕ) (h : List Object) (i : ℕ) : Type 0 where
  pub items : List Datum
  pub is_table : slice_get h 0 ≡ Some (a_table items)
  pub points : (j : ℕ) → j < size → slice_get items j ≡ Some (Ref (suc j))
  pub shape : (j : ℕ) → j < size → NodeAt h (suc j)
  pub linked : (j : ℕ) → j < i → LinkedAt size h (suc j)
  pub long : length h ≡ suc size

module _ (size : ℕ) (a b : ℕ → Token) (main : Statements) where
  abbrev p : PlainProgram
  p = the_program size a b main

  -- the heap in which a node has these three fields
  abbrev set_in : List Object → ℕ → Datum → Datum → Datum → List Object
  set_in h i x y z = stored (stored (stored h (suc i) 1 0 x) (suc i) 3 0 y) (suc i) 4 0 z

  abbrev set : ℕ → Datum → Datum → Datum → Invocation
  set i x y z = invocation (suc i) (op 0) (x ∷ y ∷ z ∷ [])

  set_runs : (w : World) (ls : List Datum) (i : ℕ) (x y z : Datum) (k : ℕ) → run_call (operations_of p) ls (set i x y z) w (suc k) ≡ goes_on ls (in_heap w (set_in w.heap i x y z)) k
  set_runs w ls i x y z k =
      let this = Ref (suc i) in
      let own = x ∷ y ∷ z ∷ [] in
      let first : World = in_heap w (stored w.heap (suc i) 1 0 x) in
      let second : World = in_heap w (stored first.heap (suc i) 3 0 y) in
      let third = statement_and (put_field (a 45).at.line (field node 4) Put (local (the_local 2))) no_statements in
      let last_two = statement_and (put_field (a 41).at.line (field node 3) Put (local (the_local 1))) third in
      called p ls own (set i x y z) w (in_heap w (set_in w.heap i x y z)) k k
      (put_on p this own w (a 37).at.line (field node 1) (local (the_local 0)) last_two k x refl
      ∙ put_on p this own first (a 41).at.line (field node 3) (local (the_local 1)) third k y refl
      ∙ put_on p this own second (a 45).at.line (field node 4) (local (the_local 2)) no_statements k z refl)

  abbrev sum_of : ℕ → Datum
  sum_of i = Long (int_wrap w64 (pos i +ℤ pos 1))

  abbrev arguments : Expressions
  arguments =
      expression_and (binary Plus (local (the_local 0)) (number (pos 1)))
      (expression_and (own_item (field table 0) (local (the_local 1))) (expression_and (own_item (field table 0) (local (the_local 2))) no_expressions))

  -- the call of `set` from the three items
  abbrev due_by : ℕ → ℕ → ℕ → ℕ → ℕ → Option Datum → Option Datum → Option Datum → Out Invocation
  due_by line i l r k x y z =
      (found line i x k >>= λ item k. gives item.value k) >>= λ v k.
      ((found line l y k >>= λ item k. gives item.value k) >>= λ v2 k.
      ((found line r z k >>= λ item k. gives item.value k) >>= λ v3 k. gives (v3 ∷ []) k) >>= λ vs k. gives (v2 ∷ vs) k) >>= λ vs k.
      gives (sum_of i ∷ vs) k >>= λ vs k.
      pointed line v k >>= λ n k. gives (invocation n (op 0) vs) k

  link_due : (h : List Object) (i l r line k : ℕ) (items : List Datum) → slice_get h 0 ≡ Some (a_table items)
      → slice_get items i ≡ Some (Ref (suc i)) → slice_get items l ≡ Some (Ref (suc l)) → slice_get items r ≡ Some (Ref (suc r))
      → due (functions_of p.functions h).call (place h (Ref 0) line (Long (pos i) ∷ Long (pos l) ∷ Long (pos r) ∷ [])) (own_item (field table 0) (local (the_local 0))) (op 0) arguments k
      ≡ gives (set i (sum_of i) (Ref (suc l)) (Ref (suc r))) k
  link_due h i l r line k items is one two three =
      let by_table : List Object → Option Object → Out Invocation = λ h o.
      due (functions_of p.functions h).call (record { heap = h; this = Ref 0; own = slots_in o; locals = Long (pos i) ∷ Long (pos l) ∷ Long (pos r) ∷ []; line = line })
      (own_item (field table 0) (local (the_local 0))) (op 0) arguments k in
      ap (by_table h) is ∙ rw (one, two, three) refl

  -- how a link ends that begins with k + 2 steps left
  pub record Linking (w : World) (ls : List Datum) (i l r k : ℕ) : Type 0 where
    pub heap : List Object
    pub runs : run_call (operations_of p) ls (invocation 0 (op 3) (Long (pos i) ∷ Long (pos l) ∷ Long (pos r) ∷ [])) w (suc (suc k)) ≡ goes_on ls (in_heap w heap) k
    pub ready : Ready size heap (suc i)

  module _ (h : List Object) (i l r : ℕ) (x : Datum) (ready : Ready size h i) (here : i < size) (l_in : l < size) (r_in : r < size) where
    abbrev one_set : List Object
    one_set = stored h (suc i) 1 0 x

    abbrev two_set : List Object
    two_set = stored one_set (suc i) 3 0 (Ref (suc l))

    abbrev all_set : List Object
    all_set = set_in h i x (Ref (suc l)) (Ref (suc r))

    elsewhere : (n : ℕ) → (n ≡ suc i → ⊥) → slice_get all_set n ≡ slice_get h n
    elsewhere n other =
        stored_elsewhere two_set (suc i) n 4 0 (Ref (suc r)) other ∙ stored_elsewhere one_set (suc i) n 3 0 (Ref (suc l)) other ∙ stored_elsewhere h (suc i) n 1 0 x other

    not_first : 0 ≡ suc i → ⊥
    not_first e = omega (arith, e)

    other_node : (j : ℕ) → (j ≡ i → ⊥) → suc j ≡ suc i → ⊥
    other_node j other e = other (omega (arith, e))

    new_link : LinkedAt size all_set (suc i)
    new_link =
        let s = ready.shape i here in
        record {
          mark = s.mark;
          value = x;
          sum = s.sum;
          left = l;
          right = r;
          is = stored_there two_set (suc i) 4 0 (Ref (suc r)) (a_node s.mark x s.sum (Ref (suc l)) s.right)
              (stored_there one_set (suc i) 3 0 (Ref (suc l)) (a_node s.mark x s.sum s.left s.right) (stored_there h (suc i) 1 0 x (a_node s.mark s.value s.sum s.left s.right) s.is));
          left_in = l_in;
          right_in = r_in;
        }

    shape_at : (j : ℕ) → j < size → (j ≡ i) ⊎ (j ≡ i → ⊥) → NodeAt all_set (suc j)
    shape_at j in_size (inl e) =
        let P : ℕ → Type 0 = λ z. NodeAt all_set (suc z) in
        let n = new_link in
        let here : NodeAt all_set (suc i) = record { mark = n.mark; value = n.value; sum = n.sum; left = Ref (suc n.left); right = Ref (suc n.right); is = n.is } in
        subst P (sym e) here
    shape_at j in_size (inr other) =
        let s = ready.shape j in_size in
        record { mark = s.mark; value = s.value; sum = s.sum; left = s.left; right = s.right; is = elsewhere (suc j) (other_node j other) ∙ s.is }

    linked_at : (j : ℕ) → j < suc i → (j ≡ i) ⊎ (j ≡ i → ⊥) → LinkedAt size all_set (suc j)
    linked_at j before (inl e) = let P : ℕ → Type 0 = λ z. LinkedAt size all_set (suc z) in subst P (sym e) new_link
    linked_at j before (inr other) = moved (elsewhere (suc j) (other_node j other)) (ready.linked j (omega (arith, before, other)))

    pub set_ready : Ready size all_set (suc i)
    set_ready = record {
      items = ready.items;
      is_table = elsewhere 0 not_first ∙ ready.is_table;
      points = ready.points;
      shape = λ j in_size. shape_at j in_size (cases_eq j i);
      linked = λ j before. linked_at j before (cases_eq j i);
      long = stored_length two_set (suc i) 4 0 (Ref (suc r)) ∙ stored_length one_set (suc i) 3 0 (Ref (suc l)) ∙ stored_length h (suc i) 1 0 x ∙ ready.long;
    }

  pub linking : (w : World) (ls : List Datum) (i l r k : ℕ) → Ready size w.heap i → i < size → l < size → r < size → Linking w ls i l r k
  linking w ls i l r k ready here l_in r_in =
      let own = Long (pos i) ∷ Long (pos l) ∷ Long (pos r) ∷ [] in
      let heap : List Object = set_in w.heap i (sum_of i) (Ref (suc l)) (Ref (suc r)) in
      record {
        heap = heap;
        runs = called p ls own (invocation 0 (op 3) own) w (in_heap w heap) (suc k) k
            (call_on p (Ref 0) own w (b 55).at.line (own_item (field table 0) (local (the_local 0))) (op 0) arguments no_statements (suc k) k (set i (sum_of i) (Ref (suc l)) (Ref (suc r))) (in_heap w heap)
            (link_due w.heap i l r (b 55).at.line (suc k) ready.items ready.is_table (ready.points i here) (ready.points l l_in) (ready.points r r_in))
            (set_runs w own i (sum_of i) (Ref (suc l)) (Ref (suc r)) k));
        ready = set_ready w.heap i l r (sum_of i) ready here l_in r_in;
      }

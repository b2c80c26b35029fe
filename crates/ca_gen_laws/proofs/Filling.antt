-- The loop of a table takes a step for each node.
use Rattle.std.proofs.Common.{◌≡◌, ℕ, zero, suc, ◌+◌, ◌*◌, ◌<◌, ◌≤◌, List, [], ◌∷◌, ◌++◌, length, false, ◌⊎◌, inl, inr, refl, sym, ap, ◌∙◌, subst, arith}
use Rattle.std.specs.Prelude.{Some, slice_get, slice_set, get_or, pos, ◌+ℤ◌, nat_le, nat_lt, FitsSigned}
use Rattle.std.specs.Int.{int_wrap, w64}
use Rattle.std.proofs.lemmas.Bool.{lt-ltb, le-ltb, lt-leb, or_from, cases_eq}
use Rattle.std.proofs.lemmas.Int.{int_wrap_fits, ints}
use Rattle.std.proofs.lemmas.List.{length-append, length-set, get_or-set_same, get_or-set_other}
use Rattle.std.proofs.lemmas.Option.{slice_get-get_or, get_or_from_slice_get}
use Rattle.ca_tree.specs.declared.token.Token.{Token}
use Rattle.ca_tree.specs.declared.tree.AssignOp.TheVariants.{Add}
use Rattle.ca_program.specs.Plain.{PlainProgram, Statement, Statements, put_local, new_item, number, local}
use Rattle.ca_model.specs.declared.value.Value.{Value as Datum}
use Rattle.ca_model.specs.declared.value.Value.TheVariants.{Long, Bool as Truth, Null, Ref}
use Rattle.ca_model.specs.declared.value.Object.{Object}
use Rattle.ca_model.specs.Slots.{slots_len}
use Rattle.ca_model.specs.Heaps.{values_in, is_full, starts_of}
use Rattle.ca_meaning.specs.Expressions.{found, take_step}
use Rattle.ca_meaning.specs.Flows.{Flow, goes_on, and_on, with, choose, exec, turn}
use Rattle.ca_meaning.specs.Serial.{World, in_heap, unless_full, put_own, operations_of, serial_parts}
use Rattle.ca_meaning.proofs.Fix.{loop_runs}
use Rattle.ca_gen_laws.proofs.Program.{field, node, table, the_local, fill_loop, the_program}
use Rattle.ca_gen_laws.proofs.Nodes.{a_node, a_table}

-- a node as it is created
abbrev pub fresh : Object
fresh = a_node false (Long (pos 0)) (Long (pos 0)) Null Null

abbrev pub AllFresh : List Object → Type 0
AllFresh [] = Unit {0}
AllFresh (o ∷ os) = (o ≡ fresh) × AllFresh os

fresh_last : (os : List Object) → AllFresh os → AllFresh (os ++ fresh ∷ [])
fresh_last [] all = (refl, tt)
fresh_last (o ∷ os) all = (all.0, fresh_last os all.1)

pub fresh_there : (os : List Object) (i : ℕ) → AllFresh os → i < length os → slice_get os i ≡ Some fresh
fresh_there [] i all here = absurd (omega (arith, here))
fresh_there (o ∷ os) zero all here = ap Some all.0
fresh_there (o ∷ os) (suc i) all here = fresh_there os i all.1 (omega (arith, here))

-- a node holds five values
fresh_values : (os : List Object) → AllFresh os → values_in os ≡ 5 * length os
fresh_values [] all = refl
fresh_values (o ∷ os) all =
    let own : slots_len o.slots ≡ 5 = ap (λ z. slots_len z.slots) all.0 in
    omega (arith, own, fresh_values os all.1)

-- the first items point at the nodes of their numbers
abbrev pub Pointing : ℕ → List Datum → Type 0
Pointing j items = (i : ℕ) → i < j → slice_get items i ≡ Some (Ref (suc i))

read_set : (items : List Datum) (i j : ℕ) (v w : Datum) → (j ≡ i → ⊥) → slice_get items j ≡ Some w → j < length items → slice_get (slice_set items i v) j ≡ Some w
read_set items i j v w other there within =
    slice_get-get_or (slice_set items i v) j Null (omega (arith, within, length-set items i v))
    ∙ ap Some (get_or-set_other items i j v Null other ∙ get_or_from_slice_get items j w Null there)

pointing_more : (items : List Datum) (j : ℕ) (v : Datum) → v ≡ Ref (suc j) → j < length items → Pointing j items → Pointing (suc j) (slice_set items j v)
pointing_more items j v is within before i below = at (cases_eq i j)
  where
    at : (i ≡ j) ⊎ (i ≡ j → ⊥) → slice_get (slice_set items j v) i ≡ Some (Ref (suc i))
    at (inl e) =
        let here : slice_get (slice_set items j v) j ≡ Some (Ref (suc j)) =
        slice_get-get_or (slice_set items j v) j Null (omega (arith, within, length-set items j v)) ∙ ap Some (get_or-set_same items j v Null within ∙ is) in
        let P : ℕ → Type 0 = λ z. slice_get (slice_set items j v) z ≡ Some (Ref (suc z)) in
        subst P (sym e) here
    at (inr other) = read_set items j i v (Ref (suc i)) other (before i (omega (arith, below, other))) (omega (arith, below, within))

next_number : (j : ℕ) → j ≤ 20000 → int_wrap w64 (pos j +ℤ pos 1) ≡ pos (suc j)
next_number j most =
    let e : j + 1 ≡ suc j = omega arith in
    let fits : FitsSigned w64 (pos j +ℤ pos 1) = omega (arith, ints, most) in
    int_wrap_fits w64 (pos j +ℤ pos 1) fits ∙ ap pos e

module _ (size : ℕ) (most : size ≤ 20000) (a b : ℕ → Token) (main : Statements) where
  abbrev p : PlainProgram
  p = the_program size a b main

  abbrev line : ℕ
  line = (b 17).at.line

  abbrev body : Statement
  body = new_item (b 31).at.line (field table 0) (local (the_local 0)) node

  abbrev loop : Statement
  loop = fill_loop size b

  abbrev world : World → List Datum → List Object → World
  world w items nodes = in_heap w (a_table items ∷ nodes)

  -- how the loop ends from its condition on, where it has put j nodes into the table and n steps are left
  pub record Filled (w : World) (j : ℕ) (items : List Datum) (nodes : List Object) (n k : ℕ) : Type 0 where
    pub all_items : List Datum
    pub all_nodes : List Object
    pub runs : turn (serial_parts p (Ref 0)) line (Long (pos j) ∷ []) (world w items nodes) loop n ≡ goes_on (Long (pos size) ∷ []) (world w all_items all_nodes) k
    pub points : Pointing size all_items
    pub are : AllFresh all_nodes
    pub as_many : length all_nodes ≡ size

  module _ (w : World) (j : ℕ) (items : List Datum) (nodes : List Object) (long : length items ≡ size) (are : AllFresh nodes) (as_many : length nodes ≡ j) (below : j < size) where
    abbrev heap : List Object
    heap = a_table items ∷ nodes

    abbrev next_items : List Datum
    next_items = slice_set items j (Ref (length heap))

    abbrev next_nodes : List Object
    next_nodes = nodes ++ fresh ∷ []

    has_room : is_full heap (starts_of p node) ≡ false
    has_room =
        or_from (nat_le 1000000 (length heap)) (nat_lt 4000000 (values_in heap + slots_len (starts_of p node)))
        (lt-leb 1000000 (length heap) (omega (arith, as_many, below, most)))
        (le-ltb 4000000 (values_in heap + slots_len (starts_of p node)) (omega (arith, as_many, below, most, long, fresh_values nodes are)))

    body_runs : (n : ℕ) → exec (serial_parts p (Ref 0)) (b 31).at.line (Long (pos j) ∷ []) (world w items nodes) body n ≡ goes_on (Long (pos j) ∷ []) (world w next_items next_nodes) n
    body_runs n =
        let there : slice_get items j ≡ Some (get_or items j Null) = slice_get-get_or items j Null (omega (arith, below, long)) in
        let store : ℕ → ℕ → ℕ → Flow World = λ place n k. goes_on (Long (pos j) ∷ []) (in_heap w (put_own (heap ++ fresh ∷ []) (Ref 0) (field table 0) place (Ref n))) k in
        ap (λ x. with (found (b 31).at.line j x n) (world w items nodes) (λ item k. with (unless_full (is_full heap (starts_of p node)) (b 31).at.line (length heap) k) (world w items nodes) (store item.place))) there
        ∙ ap (λ full. with (unless_full full (b 31).at.line (length heap) n) (world w items nodes) (store j)) has_room

    -- a turn, and then the loop that comes again
    turn_runs : (n : ℕ) → turn (serial_parts p (Ref 0)) line (Long (pos j) ∷ []) (world w items nodes) loop (suc n) ≡ turn (serial_parts p (Ref 0)) line (Long (pos (suc j)) ∷ []) (world w next_items next_nodes) loop n
    turn_runs n =
        let P = serial_parts p (Ref 0) in
        let ls = Long (pos j) ∷ [] in
        let again : List Datum → World → ℕ → Flow World = λ ls w k. (operations_of p).again (Ref 0) line ls w loop k in
        let next : List Datum → World → ℕ → Flow World = λ ls w k. exec P line ls w (put_local (b 28).at.line (the_local 0) Add (number (pos 1))) k in
        let later : World = world w next_items next_nodes in
        ap (λ t. choose (Truth t) (with (take_step (suc n)) (world w items nodes) (λ _ k. and_on (and_on (exec P (b 31).at.line ls (world w items nodes) body k) next) again)) (goes_on ls (world w items nodes) (suc n)))
        (lt-ltb j size below)
        ∙ ap (λ o. and_on (and_on o next) again) (body_runs n)
        ∙ loop_runs p (Ref 0) line (Long (int_wrap w64 (pos j +ℤ pos 1)) ∷ []) later loop n
        ∙ ap (λ z. turn P line (Long z ∷ []) later loop n) (next_number j (omega (arith, below, most)))

  pub filling : (d : ℕ) (w : World) (j : ℕ) (items : List Datum) (nodes : List Object) (n k : ℕ) → j + d ≡ size → n ≡ k + d
      → length items ≡ size → Pointing j items → AllFresh nodes → length nodes ≡ j → Filled w j items nodes n k
  filling zero w j items nodes n k at_end steps long points are as_many =
      let j_is : j ≡ size = omega (arith, at_end) in
      let n_is : n ≡ k = omega (arith, steps) in
      let P = serial_parts p (Ref 0) in
      let P_points : ℕ → Type 0 = λ z. Pointing z items in
      record {
        all_items = items;
        all_nodes = nodes;
        runs = ap (λ t. choose (Truth t) (with (take_step n) (world w items nodes) (λ _ k. and_on (and_on (exec P (b 31).at.line (Long (pos j) ∷ []) (world w items nodes) body k)
            (λ ls w k. exec P line ls w (put_local (b 28).at.line (the_local 0) Add (number (pos 1))) k)) (λ ls w k. (operations_of p).again (Ref 0) line ls w loop k))) (goes_on (Long (pos j) ∷ []) (world w items nodes) n))
            (le-ltb j size (omega (arith, j_is)))
            ∙ ap (λ z. goes_on (Long (pos z) ∷ []) (world w items nodes) n) j_is
            ∙ ap (λ z. goes_on (Long (pos size) ∷ []) (world w items nodes) z) n_is;
        points = subst P_points j_is points;
        are = are;
        as_many = as_many ∙ j_is;
      }
  filling (suc d) w j items nodes zero k at_end steps long points are as_many = absurd (omega (arith, steps))
  filling (suc d) w j items nodes (suc n) k at_end steps long points are as_many =
      let below : j < size = omega (arith, at_end) in
      let first = Ref (length (a_table items ∷ nodes)) in
      let count : length (a_table items ∷ nodes) ≡ suc j = omega (arith, as_many) in
      let rest = filling d w (suc j) (slice_set items j first) (nodes ++ fresh ∷ []) n k (omega (arith, at_end)) (omega (arith, steps))
      (length-set items j first ∙ long) (pointing_more items j first (ap (λ z. Ref z) count) (omega (arith, below, long)) points)
      (fresh_last nodes are) (omega (arith, as_many, length-append nodes (fresh ∷ []))) in
      record {
        all_items = rest.all_items;
        all_nodes = rest.all_nodes;
        runs = turn_runs w j items nodes long are as_many below n ∙ rest.runs;
        points = rest.points;
        are = rest.are;
        as_many = rest.as_many;
      }

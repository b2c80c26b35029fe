-- A visit takes a step, and two more for each node that it marks.
use Rattle.std.proofs.Common.{◌≡◌, ℕ, zero, suc, ◌+◌, ◌*◌, ◌<◌, ◌≤◌, List, [], ◌∷◌, Bool, true, false, refl, ap, ◌∙◌, arith}
use Rattle.std.specs.Prelude.{Some, slice_get}
use Rattle.ca_tree.specs.declared.token.Token.{Token}
use Rattle.ca_tree.specs.declared.tree.AssignOp.TheVariants.{Add}
use Rattle.ca_tree.specs.declared.tree.UnaryOp.TheVariants.{Not}
use Rattle.ca_program.specs.Plain.{PlainProgram, Statements, truth, local, own, unary, no_expressions, expression_and, block, if_else, invoke, no_statements, statement_and}
use Rattle.ca_model.specs.declared.value.Value.{Value as Datum}
use Rattle.ca_model.specs.declared.value.Value.TheVariants.{Bool as Truth, Ref}
use Rattle.ca_model.specs.declared.value.Slot.TheVariants.{One}
use Rattle.ca_model.specs.declared.value.Object.{Object}
use Rattle.ca_model.specs.Heaps.{stored}
use Rattle.ca_meaning.specs.Operators.{assigned, signed, not_of}
use Rattle.ca_meaning.specs.Expressions.{gives, ◌>>=◌, one_in, slots_in, pointed, Invocation, invocation, due}
use Rattle.ca_meaning.specs.Flows.{goes_on, and_on, choose, exec_all}
use Rattle.ca_meaning.specs.Functions.{place, functions_of, value_in}
use Rattle.ca_meaning.specs.Serial.{World, in_heap, own_value, operations_of, run_call, serial_parts}
use Rattle.ca_gen_laws.proofs.Program.{field, node, op, the_local, branch_body, visit_body, the_program}
use Rattle.ca_gen_laws.proofs.Steps.{change_on, put_on, call_on, branch_on, called}
use Rattle.ca_gen_laws.proofs.Heaps.{stored_there, unmarked, unmarked_stored}
use Rattle.ca_gen_laws.proofs.Nodes.{a_node, LinkedAt, Nodes, nodes_stored}

module _ (size : ℕ) (a b : ℕ → Token) (main : Statements) where
  abbrev p : PlainProgram
  p = the_program size a b main

  abbrev pub visit : ℕ → Datum → Invocation
  visit i v = invocation (suc i) (op 1) (v ∷ [])

  -- how a visit of node i ends that begins with k steps left
  pub record Visited (w : World) (ls : List Datum) (i : ℕ) (v : Datum) (k : ℕ) : Type 0 where
    pub heap : List Object
    pub left : ℕ
    pub runs : run_call (operations_of p) ls (visit i v) w k ≡ goes_on ls (in_heap w heap) left
    pub nodes : Nodes size heap
    pub fewer : unmarked heap ≤ unmarked w.heap
    pub count : left + 1 + 2 * unmarked w.heap ≡ k + 2 * unmarked heap

  -- a call of `visit` on the object that the field 3 or 4 of a node names
  child_due : (h : List Object) (i line : ℕ) (ls : List Datum) (f c : ℕ) (k : ℕ) (m : Bool) (value sum l r : Datum) → slice_get h (suc i) ≡ Some (a_node m value sum l r)
      → one_in (slice_get (One (Truth m) ∷ One value ∷ One sum ∷ One l ∷ One r ∷ []) f) ≡ Ref (suc c)
      → due (functions_of p.functions h).call (place h (Ref (suc i)) line ls) (own (field node f)) (op 1) (expression_and (own (field node 1)) no_expressions) k ≡ gives (visit c value) k
  child_due h i line ls f c k m value sum l r is points =
      ap (λ o. pointed line (one_in (slice_get (slots_in o) f)) k >>= (λ n k. gives (invocation n (op 1) (one_in (slice_get (slots_in o) 1) ∷ [])) k)) is
      ∙ ap (λ d. pointed line d k >>= (λ n k. gives (invocation n (op 1) (value ∷ [])) k)) points

  -- Visits of nodes in heaps with fewer nodes that aren't marked.
  abbrev Smaller : World → Type 0
  Smaller w =
      (x : World) (ls : List Datum) (i : ℕ) (v : Datum) (k : ℕ) → Nodes size x.heap → i < size → unmarked x.heap < unmarked w.heap → 1 + 2 * unmarked x.heap ≤ k → Visited x ls i v k

  module _ (w : World) (ls : List Datum) (i : ℕ) (v : Datum) (k : ℕ) (nodes : Nodes size w.heap) (here : i < size) where
    abbrev this : Datum
    this = Ref (suc i)

    abbrev new_sum : Datum
    new_sum = assigned Add (own_value w this (field node 2)) v

    abbrev summed : List Object
    summed = stored w.heap (suc i) 2 0 new_sum

    abbrev at_sum : World
    at_sum = in_heap w summed

    abbrev line : ℕ
    line = (a 61).at.line

    abbrev rest : Statements
    rest = statement_and (if_else line (unary Not (own (field node 0))) (block (a 66).at.line (branch_body a)) (block line no_statements)) no_statements

    -- the body up to the value of its condition
    begun : (m : Bool) (value sum l r : Datum) → slice_get summed (suc i) ≡ Some (a_node m value sum l r)
        → exec_all (serial_parts p this) (v ∷ []) w (visit_body a) k
        ≡ and_on (choose (Truth (not_of m)) (exec_all (serial_parts p this) (v ∷ []) at_sum (branch_body a) k) (goes_on (v ∷ []) at_sum k)) (λ ls w k. goes_on ls w k)
    begun m value sum l r is =
        let condition : value_in p.functions summed this line (v ∷ []) (unary Not (own (field node 0))) k ≡ gives (Truth (not_of m)) k = ap (λ o. gives (signed Not (one_in (slice_get (slots_in o) 0))) k) is in
        change_on p this (v ∷ []) w (a 57).at.line (field node 2) Add (local (the_local 0)) rest k v refl
        ∙ branch_on p this (v ∷ []) at_sum line (unary Not (own (field node 0))) (block (a 66).at.line (branch_body a)) (block line no_statements) no_statements k (Truth (not_of m)) condition

    visited : (m : Bool) (value sum : Datum) (l r : ℕ) → slice_get w.heap (suc i) ≡ Some (a_node m value sum (Ref (suc l)) (Ref (suc r))) → l < size → r < size
        → Smaller w → 1 + 2 * unmarked w.heap ≤ suc k → Visited w ls i v (suc k)
    visited true value sum l r is l_in r_in go steps =
        let at : slice_get summed (suc i) ≡ Some (a_node true value new_sum (Ref (suc l)) (Ref (suc r))) = stored_there w.heap (suc i) 2 0 new_sum (a_node true value sum (Ref (suc l)) (Ref (suc r))) is in
        let same : unmarked summed + 0 ≡ unmarked w.heap + 0 = unmarked_stored w.heap (suc i) 2 0 new_sum (a_node true value sum (Ref (suc l)) (Ref (suc r))) is in
        let linked : LinkedAt size summed (suc i) = record { mark = true; value = value; sum = new_sum; left = l; right = r; is = at; left_in = l_in; right_in = r_in } in
        record {
          heap = summed;
          left = k;
          runs = called p ls (v ∷ []) (visit i v) w at_sum k k (begun true value new_sum (Ref (suc l)) (Ref (suc r)) at);
          nodes = nodes_stored size w.heap i 2 new_sum nodes linked;
          fewer = omega (arith, same);
          count = omega (arith, same);
        }
    visited false value sum l r is l_in r_in go steps =
        let to_left = Ref (suc l) in
        let to_right = Ref (suc r) in
        let at : slice_get summed (suc i) ≡ Some (a_node false value new_sum to_left to_right) = stored_there w.heap (suc i) 2 0 new_sum (a_node false value sum to_left to_right) is in
        let same : unmarked summed + 1 ≡ unmarked w.heap + 1 = unmarked_stored w.heap (suc i) 2 0 new_sum (a_node false value sum to_left to_right) is in
        let linked : LinkedAt size summed (suc i) = record { mark = false; value = value; sum = new_sum; left = l; right = r; is = at; left_in = l_in; right_in = r_in } in
        let marked : List Object = stored summed (suc i) 0 0 (Truth true) in
        let at_mark : World = in_heap w marked in
        let at2 : slice_get marked (suc i) ≡ Some (a_node true value new_sum to_left to_right) = stored_there summed (suc i) 0 0 (Truth true) (a_node false value new_sum to_left to_right) at in
        let less : unmarked marked + 1 ≡ unmarked summed + 0 = unmarked_stored summed (suc i) 0 0 (Truth true) (a_node false value new_sum to_left to_right) at in
        let linked2 : LinkedAt size marked (suc i) = record { mark = true; value = value; sum = new_sum; left = l; right = r; is = at2; left_in = l_in; right_in = r_in } in
        let nodes2 : Nodes size marked = nodes_stored size summed i 0 (Truth true) (nodes_stored size w.heap i 2 new_sum nodes linked) linked2 in
        let x : Visited at_mark (v ∷ []) l value k = go at_mark (v ∷ []) l value k nodes2 l_in (omega (arith, same, less)) (omega (arith, same, less, steps)) in
        let behind : World = in_heap w x.heap in
        let n : LinkedAt size x.heap (suc i) = x.nodes i here in
        let fewer = x.fewer in
        let count = x.count in
        let y : Visited behind (v ∷ []) n.right n.value x.left = go behind (v ∷ []) n.right n.value x.left x.nodes n.right_in (omega (arith, same, less, fewer)) (omega (arith, same, less, count, steps)) in
        let last : World = in_heap w y.heap in
        let arguments = expression_and (own (field node 1)) no_expressions in
        let right_call = statement_and (invoke (a 78).at.line (own (field node 4)) (op 1) arguments) no_statements in
        let left_call = statement_and (invoke (a 71).at.line (own (field node 3)) (op 1) arguments) right_call in
        let branch : exec_all (serial_parts p this) (v ∷ []) at_sum (branch_body a) k ≡ goes_on (v ∷ []) last y.left =
        put_on p this (v ∷ []) at_sum (a 67).at.line (field node 0) (truth true) left_call k (Truth true) refl
        ∙ call_on p this (v ∷ []) at_mark (a 71).at.line (own (field node 3)) (op 1) arguments right_call k x.left (visit l value) behind
        (child_due marked i (a 71).at.line (v ∷ []) 3 l k true value new_sum to_left to_right at2 refl) x.runs
        ∙ call_on p this (v ∷ []) behind (a 78).at.line (own (field node 4)) (op 1) arguments no_statements x.left y.left (visit n.right n.value) last
        (child_due x.heap i (a 78).at.line (v ∷ []) 4 n.right x.left n.mark n.value n.sum (Ref (suc n.left)) (Ref (suc n.right)) n.is refl) y.runs in
        record {
          heap = y.heap;
          left = y.left;
          runs = called p ls (v ∷ []) (visit i v) w last k y.left (begun false value new_sum to_left to_right at ∙ ap (λ o. and_on o (λ ls w k. goes_on ls w k)) branch);
          nodes = y.nodes;
          fewer = let fewer2 = y.fewer in omega (arith, same, less, fewer, fewer2);
          count = let count2 = y.count in omega (arith, same, less, count, count2);
        }

  -- a visit with steps for each of the at most u nodes that aren't marked
  pub visits : (u : ℕ) (w : World) (ls : List Datum) (i : ℕ) (v : Datum) (k : ℕ) → Nodes size w.heap → i < size → unmarked w.heap ≤ u → 1 + 2 * unmarked w.heap ≤ k → Visited w ls i v k
  visits zero w ls i v zero nodes here few steps = absurd (omega (arith, steps))
  visits (suc u) w ls i v zero nodes here few steps = absurd (omega (arith, steps))
  visits zero w ls i v (suc k) nodes here few steps =
      let n = nodes i here in
      visited w ls i v k nodes here n.mark n.value n.sum n.left n.right n.is n.left_in n.right_in (λ x ls i v k nodes here less steps. absurd (omega (arith, few, less))) steps
  visits (suc u) w ls i v (suc k) nodes here few steps =
      let n = nodes i here in
      visited w ls i v k nodes here n.mark n.value n.sum n.left n.right n.is n.left_in n.right_in (λ x ls i v k nodes here less steps. visits u x ls i v k nodes here (omega (arith, few, less)) steps) steps

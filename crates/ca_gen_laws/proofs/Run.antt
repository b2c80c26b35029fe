-- The serial run of a generated program.
use Rattle.std.proofs.Common.{◌≡◌, ℕ, zero, suc, ◌+◌, ◌-◌, ◌*◌, ◌<◌, ◌≤◌, List, [], ◌∷◌, ◌++◌, map, length, false, refl, sym, ap, ◌∙◌, subst, arith}
use Rattle.std.specs.Prelude.{Some, slice_get, slice_set, pos, replicate}
use Rattle.std.proofs.lemmas.Bool.{le-ltb}
use Rattle.std.proofs.lemmas.List.{length-replicate}
use Rattle.ca_tree.specs.declared.token.Token.{Token}
use Rattle.ca_program.specs.Plain.{PlainProgram, Statements, Expressions, number, local, read_item, no_expressions, expression_and, no_statements, statement_and}
use Rattle.ca_types.specs.Statements.{statements_in}
use Rattle.ca_model.specs.declared.value.Value.{Value as Datum}
use Rattle.ca_model.specs.declared.value.Value.TheVariants.{Long, Null, Ref}
use Rattle.ca_model.specs.declared.value.Object.{Object}
use Rattle.ca_model.specs.Heaps.{is_full, starts_of, created}
use Rattle.ca_meaning.specs.Expressions.{Out, gives, ◌>>=◌, slots_in, items_in, pointed, found, Invocation, invocation, due}
use Rattle.ca_meaning.specs.Flows.{goes_on, and_on, with, exec_all}
use Rattle.ca_meaning.specs.Functions.{place, functions_of}
use Rattle.ca_meaning.specs.Serial.{World, fresh, in_heap, unless_full, operations_of, run_call, serial_parts, main_run, done, ended, serial}
use Rattle.ca_gen_laws.proofs.MainTree.{Link}
use Rattle.ca_gen_laws.proofs.Tokens.{Linked, linked_length, linked_below}
use Rattle.ca_gen_laws.proofs.Program.{field, table, op, the_local, link_plain, visit_plain, fill_plain, main_plain, the_program}
use Rattle.ca_gen_laws.proofs.Steps.{call_on, called}
use Rattle.ca_gen_laws.proofs.Heaps.{unset, unmarked, few_unmarked, some_object}
use Rattle.ca_gen_laws.proofs.Nodes.{a_table}
use Rattle.ca_gen_laws.proofs.Visits.{visit, Visited, visits}
use Rattle.ca_gen_laws.proofs.Linking.{NodeAt, Ready, Linking, linking}
use Rattle.ca_gen_laws.proofs.Filling.{fresh_there, Filled, filling}

-- a heap that begins with a table has a mark for each other object at most
first_unmarked : (h : List Object) (items : List Datum) (size : ℕ) → slice_get h 0 ≡ Some (a_table items) → length h ≡ suc size → unmarked h ≤ size
first_unmarked [] items size is long = absurd cc
first_unmarked (o ∷ os) items size is long =
    let none : unset (slice_get o.slots 0) ≡ 0 = ap (λ z. unset (slice_get z.slots 0)) (some_object is) in
    omega (arith, none, few_unmarked os, long)

module _ (size : ℕ) (some : 1 ≤ size) (most : size ≤ 20000) (a b f : ℕ → Token) (links : List Link) (h : ℕ → Token) where
  abbrev main : Statements
  main = statements_in (main_plain f links h)

  abbrev p : PlainProgram
  p = the_program size a b main

  abbrev ls : List Datum
  ls = Ref 0 ∷ []

  abbrev last : Statements
  last = statement_and (visit_plain h) no_statements

  abbrev from_links : List Link → Statements
  from_links xs = statements_in (map link_plain xs ++ visit_plain h ∷ [])

  -- the links

  record AllLinked (w : World) (xs : List Link) (n k : ℕ) : Type 0 where
    heap : List Object
    runs : exec_all (serial_parts p Null) ls w (from_links xs) n ≡ exec_all (serial_parts p Null) ls (in_heap w heap) last k
    ready : Ready size heap size

  abbrev link_arguments : Link → Expressions
  link_arguments x = expression_and (number (pos x.node)) (expression_and (number (pos x.left)) (expression_and (number (pos x.right)) no_expressions))

  abbrev link_call : Link → Invocation
  link_call x = invocation 0 (op 3) (Long (pos x.node) ∷ Long (pos x.left) ∷ Long (pos x.right) ∷ [])

  links_run : (xs : List Link) (i : ℕ) (w : World) (n k : ℕ) → Linked size i xs → i ≤ size → n ≡ k + 2 * length xs → Ready size w.heap i → AllLinked w xs n k
  links_run [] i w n k are in_size steps ready =
      let n_is : n ≡ k = omega (arith, steps) in
      let P : ℕ → Type 0 = λ z. Ready size w.heap z in
      record {
        heap = w.heap;
        runs = ap (λ z. exec_all (serial_parts p Null) ls w last z) n_is;
        ready = subst P are ready;
      }
  links_run (x ∷ xs) i w zero k are in_size steps ready = absurd (omega (arith, steps))
  links_run (x ∷ xs) i w (suc zero) k are in_size steps ready = absurd (omega (arith, steps))
  links_run (x ∷ xs) i w (suc (suc n)) k are in_size steps ready =
      let node_is : x.node ≡ i = are.0 in
      let rest_are = are.1.1.1 in
      let P : ℕ → Type 0 = λ z. Ready size w.heap z in
      let Q : ℕ → Type 0 = λ z. Linked size (suc z) xs in
      let in_size' = linked_below size (suc i) xs rest_are in
      let l : Linking size a b main w ls x.node x.left x.right n = linking size a b main w ls x.node x.left x.right n (subst P (sym node_is) ready) (omega (arith, node_is, in_size')) are.1.0 are.1.1.0 in
      let rest : AllLinked (in_heap w l.heap) xs n k = links_run xs (suc x.node) (in_heap w l.heap) n k (subst Q (sym node_is) rest_are) (omega (arith, node_is, in_size')) (omega (arith, steps)) l.ready in
      record {
        heap = rest.heap;
        runs = call_on p Null ls w (x.f 0).at.line (local (the_local 0)) (op 3) (link_arguments x) (from_links xs) (suc (suc n)) n (link_call x) (in_heap w l.heap) refl l.runs ∙ rest.runs;
        ready = rest.ready;
      }

  -- the visit of what the first node reaches

  record Reached (w : World) (k : ℕ) : Type 0 where
    heap : List Object
    left : ℕ
    runs : exec_all (serial_parts p Null) ls w last k ≡ goes_on ls (in_heap w heap) left

  visit_due : (h1 : List Object) (line k : ℕ) (items : List Datum) → slice_get h1 0 ≡ Some (a_table items) → slice_get items 0 ≡ Some (Ref 1)
      → due (functions_of p.functions h1).call (place h1 Null line ls) (read_item (local (the_local 0)) (field table 0) (number (pos 0))) (op 1) (expression_and (number (pos 1)) no_expressions) k
      ≡ gives (visit size a b main 0 (Long (pos 1))) k
  visit_due h1 line k items is first =
      let call : Datum → ℕ → Out Invocation = λ v k. pointed line v k >>= (λ n k. gives (invocation n (op 1) (Long (pos 1) ∷ [])) k) in
      ap (λ o. (found line 0 (slice_get (items_in (slice_get (slots_in o) 0)) 0) k >>= λ item k. gives item.value k) >>= call) is
      ∙ ap (λ x. (found line 0 x k >>= λ item k. gives item.value k) >>= call) first

  reaches : (w : World) (k : ℕ) → Ready size w.heap size → k ≡ 2 * size + 1 → Reached w k
  reaches w k ready steps =
      let few = first_unmarked w.heap ready.items size ready.is_table ready.long in
      let v : Visited size a b main w ls 0 (Long (pos 1)) k = visits size a b main size w ls 0 (Long (pos 1)) k ready.linked (omega (arith, some)) few (omega (arith, few, steps)) in
      record {
        heap = v.heap;
        left = v.left;
        runs = call_on p Null ls w (h 0).at.line (read_item (local (the_local 0)) (field table 0) (number (pos 0))) (op 1) (expression_and (number (pos 1)) no_expressions) no_statements k v.left
            (visit size a b main 0 (Long (pos 1))) (in_heap w v.heap) (visit_due w.heap (h 0).at.line k ready.items ready.is_table (ready.points 0 (omega (arith, some)))) v.runs;
      }

  -- the table, before its loop and behind it

  has_room : is_full [] (starts_of p table) ≡ false
  has_room = le-ltb 4000000 (0 + (length (replicate size Null) + 0)) (omega (arith, most, length-replicate size Null))

  abbrev empty_table : World
  empty_table = in_heap (fresh []) (a_table (replicate size Null) ∷ [])

  begin_runs : (n : ℕ) → main_run p n ≡ exec_all (serial_parts p Null) ls empty_table (statement_and (fill_plain f) (from_links links)) n
  begin_runs n =
      ap (λ full. and_on (with (unless_full full (f 5).at.line (length {A = Object} []) n) (fresh []) (λ m k. goes_on (slice_set (Null ∷ []) 0 (Ref m)) (in_heap (fresh []) (created p table [])) k))
      (λ ls w k. exec_all (serial_parts p Null) ls w (statement_and (fill_plain f) (from_links links)) k)) has_room

  module _ (n k : ℕ) (steps : n ≡ k + size) where
    fills : Filled size most a b main (fresh []) 0 (replicate size Null) [] n k
    fills = filling size most a b main size (fresh []) 0 (replicate size Null) [] n k (omega arith) steps (length-replicate size Null) (λ i below. absurd (omega (arith, below))) tt refl

    abbrev full_table : World
    full_table = in_heap (fresh []) (a_table fills.all_items ∷ fills.all_nodes)

    fill_call : run_call (operations_of p) ls (invocation 0 (op 2) []) empty_table (suc n) ≡ goes_on ls full_table k
    fill_call =
        called p ls (Long (pos size) ∷ []) (invocation 0 (op 2) []) empty_table full_table n k (ap (λ o. and_on o (λ ls w k. goes_on ls w k)) fills.runs)

    fill_runs : exec_all (serial_parts p Null) ls empty_table (statement_and (fill_plain f) (from_links links)) (suc n) ≡ exec_all (serial_parts p Null) ls full_table (from_links links) k
    fill_runs = call_on p Null ls empty_table (f 14).at.line (local (the_local 0)) (op 2) no_expressions (from_links links) (suc n) k (invocation 0 (op 2) []) full_table refl fill_call

    new_node : (j : ℕ) → j < size → NodeAt full_table.heap (suc j)
    new_node j in_size =
        record { mark = false; value = Long (pos 0); sum = Long (pos 0); left = Null; right = Null; is = fresh_there fills.all_nodes j fills.are (omega (arith, in_size, fills.as_many)) }

    fill_ready : Ready size full_table.heap 0
    fill_ready = record {
      items = fills.all_items;
      is_table = refl;
      points = fills.points;
      shape = new_node;
      linked = λ j below. absurd (omega (arith, below));
      long = omega (arith, fills.as_many);
    }

  -- how the run ends
  pub record EndsWithin (budget : ℕ) : Type 0 where
    pub heap : List Object
    pub steps : ℕ
    pub is : serial p budget ≡ done [] heap steps

  pub run_ends : Linked size 0 links → EndsWithin (5 * size + 2)
  run_ends are =
      let many : 0 + length links ≡ size = linked_length size 0 links are in
      let k0 = 2 * size + 1 in
      let k1 = k0 + 2 * length links in
      let n = k1 + size in
      let budget : suc n ≡ 5 * size + 2 = omega (arith, many) in
      let l : AllLinked (full_table n k1 refl) links k1 k0 = links_run links 0 (full_table n k1 refl) k1 k0 are (omega arith) refl (fill_ready n k1 refl) in
      let r : Reached (in_heap (fresh []) l.heap) k0 = reaches (in_heap (fresh []) l.heap) k0 l.ready refl in
      let whole : main_run p (suc n) ≡ goes_on ls (in_heap (fresh []) r.heap) r.left = begin_runs (suc n) ∙ fill_runs n k1 refl ∙ l.runs ∙ r.runs in
      record {
        heap = r.heap;
        steps = 5 * size + 2 - r.left;
        is = ap (λ z. ended (5 * size + 2) (main_run p z)) (sym budget) ∙ ap (ended (5 * size + 2)) whole;
      }

-- A step of the pending machine in memory.
use Rattle.std.proofs.Common.{◌≡◌, ℕ, zero, suc, ◌+◌, ◌<◌, List, [], ◌∷◌, ◌++◌, length, take, drop, get_or, map, Option, Some, None, refl, ap, sym, subst, ◌∙◌, arith, slice_index_or, length-append}
use Rattle.std.specs.Prelude.{slice_get, slice_set}
use Rattle.std.specs.List.{fold, sum_by, swap_remove}
use Rattle.std.proofs.lemmas.List.Sums.{sum_by-swap_remove}
use Rattle.std.proofs.lemmas.List.{map-append, length-map}
use Rattle.std.proofs.lemmas.Option.{slice_get_within}
use Rattle.ca_lists.proofs.Places.{get_in_front, get_map}
use Rattle.ca_program.specs.Plain.{PlainProgram}
use Rattle.ca_model.specs.declared.value.Object.{Object}
use Rattle.ca_model.specs.declared.value.Value.{Value as Datum}
use Rattle.ca_meaning.specs.Expressions.{Invocation}
use Rattle.ca_meaning.specs.Multisets.{weight, SameItems}
use Rattle.ca_meaning.specs.Sections.{Outcome, Sectioned, done, stopped, over, section}
use Rattle.ca_parallel.specs.declared.op.Op.{Op}
use Rattle.ca_parallel.specs.Calls.{invocation_of, invocations_of}
use Rattle.ca_order_laws.proofs.Weights.{weight_append, Decides, equal, other, is_one, count_of, count_self}
use Rattle.ca_order_laws.proofs.Decided.{decide_call}
use Rattle.ca_sections.specs.Answers.{SectionIs}
use Rattle.ca_sections.specs.declared.operations.SectionAnswer.{SectionAnswer}
use Rattle.ca_sections.specs.declared.operations.SectionAnswer.TheVariants.{Done, Trapped, Spent}
use Rattle.ca_beside.specs.declared.beside.Changed.{Changed}
use Rattle.ca_beside.specs.Beside.{present}
use Rattle.ca_beside.specs.Beside as beside
use Rattle.ca_beside.proofs.Present.{past_none, present_length, same_some}
use Rattle.ca_order_laws.proofs.CallThenList.{set_same}
use Rattle.ca_model.specs.declared.value.Trap.{Trap}
use Rattle.ca_run.specs.Turns.{RanThis}
use Rattle.ca_replay.specs.Steps.{EndsSo, Kept, DoesntWait, TakenOut}
use Rattle.ca_trace.proofs.Existing.{op_for}

-- ---- what waits

-- one item weighed apart from the others
pub weigh_out : {A B : Type 0} (g : A → B) (f : B → ℕ) (xs : List A) (n : ℕ) (b : B) → slice_get (map g xs) n ≡ Some b → weight f (map g xs) ≡ f b + weight f (map g (take n xs ++ drop (n + 1) xs))
weigh_out g f [] n b e = absurd (let z = e in cc)
weigh_out {A} {B} g f (x ∷ xs) zero b e =
    let same : g x ≡ b = same_some (slice_get (map g (x ∷ xs)) 0) (g x) b refl e in
    ap (λ (y : B). f y + weight f (map g xs)) same
weigh_out {A} g f (x ∷ xs) (suc n) b e =
    let more : weight f (map g xs) ≡ f b + weight f (map g (take n xs ++ drop (n + 1) xs)) = weigh_out g f xs n b e in
    let one : suc n + 1 ≡ suc (n + 1) = omega arith in
    let same : weight f (map g (take n xs ++ drop (suc n + 1) (x ∷ xs))) ≡ weight f (map g (take n xs ++ drop (n + 1) xs)) = ap (λ k. weight f (map g (take n xs ++ drop k (x ∷ xs)))) one in
    omega (arith, more, same)

is_zero : {x y : Invocation} (d : Decides x y) → ¬ (x ≡ y) → is_one decide_call d ≡ 0
is_zero (equal e) n = absurd (n e)
is_zero (other n) m = refl

none_counted : (i : Invocation) (is : List Invocation) → ((n : ℕ) → ¬ (slice_get is n ≡ Some i)) → weight (count_of decide_call i) is ≡ 0
none_counted i [] none = refl
none_counted i (j ∷ is) none =
    let more : weight (count_of decide_call i) is ≡ 0 = none_counted i is (λ n e. none (suc n) e) in
    let here : is_one decide_call (decide_call i j) ≡ 0 = is_zero (decide_call i j) (λ e. none 0 (ap (λ (k : Invocation). Some k) (sym e))) in
    omega (arith, more, here)

not_waiting : (is : List Invocation) (i : Invocation) (others : List Invocation) → SameItems is (i ∷ others) → ((n : ℕ) → ¬ (slice_get is n ≡ Some i)) → ⊥
not_waiting is i others same none =
    let a : weight (count_of decide_call i) is ≡ 0 = none_counted i is none in
    let b = same.weighed (count_of decide_call i) in
    let c : count_of decide_call i i ≡ 1 = count_self decide_call i in
    absurd (omega (arith, a, b, c))

-- the operation of a call in a row of them
call_there : (ops : List Op) (n : ℕ) (op : Op) → slice_get (invocations_of ops) n ≡ Some (invocation_of op) → slice_get ops n ≡ Some op
call_there [] n op e = absurd (let z = e in cc)
call_there (o ∷ ops) zero op e = ap (λ (k : Op). Some k) (same_op (same_some (slice_get (invocations_of (o ∷ ops)) 0) (invocation_of o) (invocation_of op) refl e))
  where
    same_op : invocation_of o ≡ invocation_of op → o ≡ op
    same_op q = ap (λ (i : Invocation). op_for i) q
call_there (o ∷ ops) (suc n) op e = call_there ops n op e

module _ (p : PlainProgram) (frozen h : List Object) (ops : List Op) (op : Op) (left : ℕ) where
  pub absent : ((n : ℕ) → ¬ (slice_get ops n ≡ Some op)) → DoesntWait (invocations_of ops) (invocation_of op)
  absent none others same = not_waiting (invocations_of ops) (invocation_of op) others same (λ n e. none n (call_there ops n op e))

  waits_there : (place : ℕ) → slice_get ops place ≡ Some op → SameItems (invocations_of ops) (invocation_of op ∷ invocations_of (take place ops ++ drop (place + 1) ops))
  waits_there place at = record { weighed = λ f. weigh_out invocation_of f ops place (invocation_of op) (get_map invocation_of ops place op at) }

  kept_so : (place : ℕ) → slice_get ops place ≡ Some op → (after : List Object) (rest : List Op) (before now : Object) → slice_get h op.receiver ≡ Some before → after ≡ slice_set h op.receiver now → now ≡ before → rest ≡ ops → (end : Sectioned) → section p frozen op.receiver before op.op op.args left ≡ end
      → EndsSo p frozen h (invocations_of ops) left (invocation_of op) end × Kept h after (invocations_of ops) (invocations_of rest)
  kept_so place at after rest before now found heap same list end e = (
    record { others = invocations_of (take place ops ++ drop (place + 1) ops); object = before; waited = waits_there place at; found = found; section = e },
    record { heap = heap ∙ ap (λ o. slice_set h op.receiver o) same ∙ set_same h op.receiver before found; waits = ap invocations_of list },
  )

  pub stops : (place : ℕ) → slice_get ops place ≡ Some op → (after : List Object) (rest : List Op) (t : Trap) → beside.Sectioned p frozen h op left ops after rest (Trapped t) → EndsSo p frozen h (invocations_of ops) left (invocation_of op) (stopped t) × Kept h after (invocations_of ops) (invocations_of rest)
  stops place at after rest t s = from (section p frozen op.receiver s.before op.op op.args left) refl s.is
    where
      from : (x : Sectioned) → section p frozen op.receiver s.before op.op op.args left ≡ x → SectionIs (Trapped t) x s.before s.left_object ops rest → EndsSo p frozen h (invocations_of ops) left (invocation_of op) (stopped t) × Kept h after (invocations_of ops) (invocations_of rest)
      from (done m) e i = absurd i
      from (stopped u) e i = kept_so place at after rest s.before s.left_object s.found s.heap i.1 i.2 (stopped t) (e ∙ ap (λ z. stopped z) (sym i.0))
      from over e i = absurd i

  pub runs_out : (place : ℕ) → slice_get ops place ≡ Some op → (after : List Object) (rest : List Op) → beside.Sectioned p frozen h op left ops after rest Spent → EndsSo p frozen h (invocations_of ops) left (invocation_of op) over × Kept h after (invocations_of ops) (invocations_of rest)
  runs_out place at after rest s = from (section p frozen op.receiver s.before op.op op.args left) refl s.is
    where
      from : (x : Sectioned) → section p frozen op.receiver s.before op.op op.args left ≡ x → SectionIs Spent x s.before s.left_object ops rest → EndsSo p frozen h (invocations_of ops) left (invocation_of op) over × Kept h after (invocations_of ops) (invocations_of rest)
      from (done m) e i = absurd i
      from (stopped u) e i = absurd i
      from over e i = kept_so place at after rest s.before s.left_object s.found s.heap i.0 i.1 over e

  pub ran_this : (place : ℕ) → slice_get ops place ≡ Some op → (after : List Object) (waiting rest : List Op) (steps : ℕ) → beside.Sectioned p frozen h op left ops after waiting (Done steps) → TakenOut waiting place rest →
      RanThis p frozen h (invocations_of ops) left (invocation_of op) after (invocations_of rest) steps
  ran_this place at after waiting rest steps s gone = from (section p frozen op.receiver s.before op.op op.args left) refl s.is
    where
      others : List Invocation
      others = invocations_of (take place ops ++ drop (place + 1) ops)

      from : (x : Sectioned) → section p frozen op.receiver s.before op.op op.args left ≡ x → SectionIs (Done steps) x s.before s.left_object ops waiting → RanThis p frozen h (invocations_of ops) left (invocation_of op) after (invocations_of rest) steps
      from (done m) e i = record {
        others = invocations_of (take place ops ++ drop (place + 1) ops);
        object = s.before;
        outcome = m;
        waited = record { weighed = λ f. weigh_out invocation_of f ops place (invocation_of op) (get_map invocation_of ops place op at) };
        found = s.found;
        section = e;
        heap = s.heap ∙ ap (λ o. slice_set h op.receiver o) i.1;
        waits = record {
          weighed = λ f.
              let there : slice_get (invocations_of waiting) place ≡ Some (invocation_of op) = subst (λ (l : List Invocation). slice_get l place ≡ Some (invocation_of op)) (sym i.2) (get_in_front (invocations_of ops) m.listed place (invocation_of op) (get_map invocation_of ops place op at)) in
              let a : weight f (invocations_of waiting) ≡ f (invocation_of op) + weight f (invocations_of rest) = (gone.others op (call_there waiting place op there)).weighed f in
              let b : weight f (invocations_of ops) ≡ f (invocation_of op) + weight f (invocations_of (take place ops ++ drop (place + 1) ops)) = weigh_out invocation_of f ops place (invocation_of op) (get_map invocation_of ops place op at) in
              let c : weight f (invocations_of waiting) ≡ weight f (invocations_of ops ++ m.listed) = ap (λ (l : List Invocation). weight f l) i.2 in
              let d = weight_append f (invocations_of ops) m.listed in
              let e2 = weight_append f m.listed (invocations_of (take place ops ++ drop (place + 1) ops)) in
              omega (arith, a, b, c, d, e2);
        };
        steps_are = i.0;
      }
      from (stopped t) e i = absurd i
      from over e i = absurd i

pub place_stays : (ops waiting : List Op) (listed : List Invocation) (place : ℕ) (op : Op) → slice_get ops place ≡ Some op → invocations_of waiting ≡ invocations_of ops ++ listed → place < length waiting
place_stays ops waiting listed place op at e =
    let l : place < length ops = slice_get_within ops place op at in
    let a : length (invocations_of waiting) ≡ length waiting = length-map waiting invocation_of in
    let b : length (invocations_of ops) ≡ length ops = length-map ops invocation_of in
    let c = ap length e in let d = length-append (invocations_of ops) listed in
    omega (arith, l, a, b, c, d)

pub place_left : (p : PlainProgram) (frozen h : List Object) (ops waiting : List Op) (op : Op) (left place steps : ℕ) (after : List Object) → slice_get ops place ≡ Some op → beside.Sectioned p frozen h op left ops after waiting (Done steps) → place < length waiting
place_left p frozen h ops waiting op left place steps after at s = from (section p frozen op.receiver s.before op.op op.args left) s.is
  where
    from : (x : Sectioned) → SectionIs (Done steps) x s.before s.left_object ops waiting → place < length waiting
    from (done m) i = place_stays ops waiting m.listed place op at i.2
    from (stopped t) i = absurd i
    from over i = absurd i

folded : (f : Invocation → ℕ) (ops : List Op) (n : ℕ) → fold (λ (a : ℕ) (x : Op). a + f (invocation_of x)) n ops ≡ n + weight f (invocations_of ops)
folded f [] n = omega arith
folded f (o ∷ ops) n = let more : fold (λ (a : ℕ) (x : Op). a + f (invocation_of x)) (n + f (invocation_of o)) ops ≡ n + f (invocation_of o) + weight f (invocations_of ops) = folded f ops (n + f (invocation_of o)) in more ∙ omega arith

weight_is_sum : (f : Invocation → ℕ) (ops : List Op) → weight f (invocations_of ops) ≡ sum_by (λ (o : Op). f (invocation_of o)) ops
weight_is_sum f ops = let e : fold (λ (a : ℕ) (x : Op). a + f (invocation_of x)) 0 ops ≡ 0 + weight f (invocations_of ops) = folded f ops 0 in omega (arith, e)

get_is : (ops : List Op) (n : ℕ) (d op : Op) → slice_get ops n ≡ Some op → get_or ops n d ≡ op
get_is [] n d op e = absurd (let z = e in cc)
get_is (o ∷ ops) zero d op e = same_some (slice_get (o ∷ ops) 0) o op refl e
get_is (o ∷ ops) (suc n) d op e = get_is ops n d op e

pub taken_out : (old now : List Op) (place : ℕ) (gone : Op) → place < length old → now ≡ swap_remove old place gone → TakenOut old place now
taken_out old now place gone l e = record {
  others = λ op at. record {
    weighed = λ f.
        let a = weight_is_sum f old in
        let b : weight f (invocations_of now) ≡ sum_by (λ (o : Op). f (invocation_of o)) (swap_remove old place gone) = weight_is_sum f now ∙ ap (λ l. sum_by (λ (o : Op). f (invocation_of o)) l) e in
        let c = sum_by-swap_remove (λ (o : Op). f (invocation_of o)) old place gone l in
        let d : f (invocation_of (get_or old place gone)) ≡ f (invocation_of op) = ap (λ (o : Op). f (invocation_of o)) (get_is old place gone op at) in
        omega (arith, a, b, c, d);
  };
}

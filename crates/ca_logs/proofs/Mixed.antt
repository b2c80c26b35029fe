-- Loose entries among those of cells: in log order the entries at an object are the sections of its history, with loose ones between.
use Rattle.std.proofs.Common.{◌≡◌, ℕ, ◌+◌, ◌≤◌, List, [], ◌∷◌, ◌++◌, slice_get, Option, Some, None, refl, ap, sym, subst, ◌∙◌, arith, map}
use Rattle.std.specs.Prelude.{Contains}
use Rattle.std.proofs.lemmas.List.Elements.{Contains-push, Contains-append_left, Contains-append_right}
use Rattle.ca_program.specs.Plain.{PlainProgram}
use Rattle.ca_model.specs.declared.value.Object.{Object}
use Rattle.ca_meaning.specs.Multisets.{weight}
use Rattle.ca_meaning.specs.Sections.{Completes, Sectioned, done, stopped, over, section}
use Rattle.ca_parallel.specs.Calls.{invocations_of}
use Rattle.ca_parallel.specs.Extents.{Extent}
use Rattle.ca_order_laws.proofs.Weights.{Decides, equal, other}
use Rattle.ca_order_laws.proofs.Decided.{decide_nat}
use Rattle.ca_logs.specs.declared.log.Task.{Task}
use Rattle.ca_logs.specs.declared.log.Stop.{Stop}
use Rattle.ca_logs.specs.declared.log.Entry.{Entry}
use Rattle.ca_logs.specs.Entries.{ran_in, task_after, listed_by}
use Rattle.ca_logs.specs.Legal.{outcome_of, RanOn, Ran, none, and_on}
use Rattle.ca_logs.specs.Loose.{section_at, IsDone, LegalLoose}
use Rattle.ca_logs.specs.LogOrder.{number_of, comes_before, put_in, ordered}
use Rattle.ca_logs.proofs.Climbing.{Owns, owns_none, owns}
use Rattle.ca_logs.proofs.Comparing.{by_bool, not_before}
use Rattle.ca_logs.proofs.Orders.{put_behind, put_front, at, at_here, at_else}
use Rattle.ca_logs.proofs.Paths.{keeps_ran, drops_stuck, listed_weight}

-- loose entries at object n, of each of which this is known
pub data LooseAt (Loose : ℕ → Entry → Type 0) (n : ℕ) : List Entry → Type 0 where
  none_at : LooseAt Loose n []
  one_at : (e : Entry) (es : List Entry) → Loose n e → LooseAt Loose n es → LooseAt Loose n (e ∷ es)

module _ (p : PlainProgram) (frozen : List Object) (Loose : ℕ → Entry → Type 0) where
  -- sections of a history, with loose ones between
  pub data Path (n : ℕ) : Object → ℕ → List Entry → Object → Type 0 where
    path_ends : (o : Object) (c : ℕ) → Path n o c [] o
    of_cell : (o : Object) (c : ℕ) (e : Entry) (after : Object) (es : List Entry) (last : Object) → RanOn p frozen n o c e after → Path n after e.clock es last → Path n o c (e ∷ es) last
    of_loose : (o : Object) (c : ℕ) (e : Entry) (es : List Entry) (last : Object) → Loose n e → Path n o c es last → Path n o c (e ∷ es) last

  put_loose : (n : ℕ) {c : ℕ} {o last : Object} {xs : List Entry} (e : Entry) → Loose n e → Path n o c xs last → Path n o c (put_in e xs) last
  put_loose n e l (path_ends o c) = of_loose o c e [] o l (path_ends o c)
  put_loose n e l (of_cell o c y after es last r more) =
      by_bool (Path n o c (put_in e (y ∷ es)) last) (comes_before y e)
      (λ t. subst (λ z. Path n o c z last) (sym (put_behind y e es t)) (of_cell o c y after _ last r (put_loose n e l more)))
      (λ t. subst (λ z. Path n o c z last) (sym (put_front y e es t)) (of_loose o c e _ last l (of_cell o c y after es last r more)))
  put_loose n e l (of_loose o c y es last r more) =
      by_bool (Path n o c (put_in e (y ∷ es)) last) (comes_before y e)
      (λ t. subst (λ z. Path n o c z last) (sym (put_behind y e es t)) (of_loose o c y _ last r (put_loose n e l more)))
      (λ t. subst (λ z. Path n o c z last) (sym (put_front y e es t)) (of_loose o c e _ last l (of_loose o c y es last r more)))

  -- the next section of a history goes behind loose ones alone
  put_cell : (n : ℕ) {d : ℕ} {after last : Object} {xs : List Entry} (o : Object) (c : ℕ) (e : Entry) → RanOn p frozen n o c e after → d ≡ e.clock → Path n after d xs last → Path n o c (put_in e xs) last
  put_cell n o c e r q (path_ends after d) = of_cell o c e after [] after r (path_ends after e.clock)
  put_cell n o c e r q (of_cell after d y next es last s more) =
      let later : e.clock ≤ y.clock = let a = s.clock in omega arith in
      subst (λ z. Path n o c z last) (sym (put_front y e es (not_before y e later (s.receiver ∙ sym r.receiver))))
      (of_cell o c e after _ last r (subst (λ k. Path n after k (y ∷ es) last) q (of_cell after d y next es last s more)))
  put_cell n o c e r q (of_loose after d y es last l more) =
      by_bool (Path n o c (put_in e (y ∷ es)) last) (comes_before y e)
      (λ t. subst (λ z. Path n o c z last) (sym (put_behind y e es t)) (of_loose o c y _ last l (put_cell n o c e r q more)))
      (λ t. subst (λ z. Path n o c z last) (sym (put_front y e es t)) (of_cell o c e after _ last r (subst (λ k. Path n after k (y ∷ es) last) q (of_loose after d y es last l more))))

  loose_path : {n : ℕ} {es : List Entry} (o : Object) (c : ℕ) → LooseAt Loose n es → Path n o c (ordered es) o
  loose_path o c none_at = path_ends o c
  loose_path o c (one_at e es l more) = put_loose _ e l (loose_path o c more)

  pub mixed : {n c d : ℕ} {o last : Object} {es ls : List Entry} → Ran p frozen n o c es last d → LooseAt Loose n ls → Path n o c (ordered (es ++ ls)) last
  mixed (none o c) l = loose_path o c l
  mixed (and_on o c e after es last d r more) l = put_cell _ o c e r refl (mixed more l)

-- the entry is the complete section of its task on its receiver's object in the frozen heap
pub record RanLoose (p : PlainProgram) (frozen : List Object) (e : Entry) : Type 0 where
  pub object : Object
  pub found : slice_get frozen e.task.op.receiver ≡ Some object
  pub after : Object
  pub section : Completes p frozen e.task.op.receiver object e.task.op.op e.task.op.args (outcome_of e after)

ran_loose : (p : PlainProgram) (frozen : List Object) (e : Entry) (q : Option Object) → slice_get frozen e.task.op.receiver ≡ q → IsDone (section_at p frozen e.task e.steps q) (invocations_of e.invoked) e.steps → RanLoose p frozen e
ran_loose p frozen e None is d = absurd d
ran_loose p frozen e (Some o) is d = from (section p frozen e.task.op.receiver o e.task.op.op e.task.op.args e.steps) refl d
  where
    from : (s : Sectioned) → section p frozen e.task.op.receiver o e.task.op.op e.task.op.args e.steps ≡ s → IsDone s (invocations_of e.invoked) e.steps → RanLoose p frozen e
    from (done m) q d = record {
      object = o;
      found = is;
      after = m.object;
      section = (e.steps, q ∙ ap (λ l. done record { object = m.object; listed = l; steps = m.steps }) d.0 ∙ ap (λ n. done record { object = m.object; listed = invocations_of e.invoked; steps = n }) d.1);
    }
    from (stopped t) q d = absurd d
    from over q d = absurd d

module _ (p : PlainProgram) (x : Extent) (frozen : List Object) where
  -- loose entries, one by one
  pub data EachLoose : List Entry → Type 0 where
    no_loose : EachLoose []
    loose_and : (e : Entry) (es : List Entry) → LegalLoose p x frozen e → EachLoose es → EachLoose (e ∷ es)

  pub each_loose : (es : List Entry) → ((e : Entry) → Contains es e → LegalLoose p x frozen e) → EachLoose es
  each_loose [] f = no_loose
  each_loose (e ∷ es) f = loose_and e es (f e (Contains-append_left (e ∷ []) es e (Contains-push [] e))) (each_loose es (λ d c. f d (Contains-append_right (e ∷ []) es d c)))

  -- an entry without a stop
  pub record Loosely (n : ℕ) (e : Entry) : Type 0 where
    pub receiver : e.task.op.receiver ≡ n
    pub legal : LegalLoose p x frozen e
    pub ran : RanLoose p frozen e

  data HasStop (e : Entry) : Type 0 where
    without : e.stop ≡ None → HasStop e
    with_one : (why : Stop) → e.stop ≡ Some why → HasStop e

  has_stop : (e : Entry) → HasStop e
  has_stop e = from e.stop refl
    where
      from : (s : Option Stop) → e.stop ≡ s → HasStop e
      from None q = without q
      from (Some why) q = with_one why q

  -- those that ran at an object
  pub loose_at : (n : ℕ) {es : List Entry} → EachLoose es → LooseAt Loosely n (at n (ran_in es))
  loose_at n no_loose = none_at
  loose_at n (loose_and e es l more) = from (has_stop e) (loose_at n more)
    where
      here : e.stop ≡ None → LooseAt Loosely n (at n (ran_in es)) → Decides (number_of e) n → LooseAt Loosely n (at n (e ∷ ran_in es))
      here q i (equal r) = subst (λ z. LooseAt Loosely n z) (sym (at_here n e (ran_in es) r)) (one_at e _ record { receiver = r; legal = l; ran = ran_loose p frozen e (slice_get frozen e.task.op.receiver) refl (l.ran q) } i)
      here q i (other r) = subst (λ z. LooseAt Loosely n z) (sym (at_else n e (ran_in es) r)) i

      from : HasStop e → LooseAt Loosely n (at n (ran_in es)) → LooseAt Loosely n (at n (ran_in (e ∷ es)))
      from (without q) i = subst (λ z. LooseAt Loosely n (at n z)) (sym (keeps_ran e es q)) (here q i (decide_nat (number_of e) n))
      from (with_one why q) i = subst (λ z. LooseAt Loosely n (at n z)) (sym (drops_stuck e es why q)) i

  pub loose_owns : {es : List Entry} → EachLoose es → Owns (ran_in es)
  loose_owns no_loose = owns_none
  loose_owns (loose_and e es l more) = from (has_stop e) (loose_owns more)
    where
      from : HasStop e → Owns (ran_in es) → Owns (ran_in (e ∷ es))
      from (without q) i = subst (λ z. Owns z) (sym (keeps_ran e es q)) (owns e (ran_in es) (let c = l.clock in omega arith) i)
      from (with_one why q) i = subst (λ z. Owns z) (sym (drops_stuck e es why q)) i

  -- only those that ran listed tasks
  pub loose_listed : (f : Task → ℕ) {es : List Entry} → EachLoose es → listed_weight f es ≡ listed_weight f (ran_in es)
  loose_listed f no_loose = refl
  loose_listed f (loose_and e es l more) = from (has_stop e) (loose_listed f more)
    where
      from : HasStop e → listed_weight f es ≡ listed_weight f (ran_in es) → listed_weight f (e ∷ es) ≡ listed_weight f (ran_in (e ∷ es))
      from (without q) i = ap (λ n. weight f (listed_by e) + n) i ∙ ap (λ z. listed_weight f z) (sym (keeps_ran e es q))
      from (with_one why q) i =
          let z : weight f (listed_by e) ≡ 0 = ap (λ os. weight f (map (task_after e.clock) os)) (l.invoked why q) in
          ap (λ n. weight f (listed_by e) + n) i ∙ (let k : weight f (listed_by e) + listed_weight f (ran_in es) ≡ listed_weight f (ran_in es) = omega arith in k) ∙ ap (λ z. listed_weight f z) (sym (drops_stuck e es why q))

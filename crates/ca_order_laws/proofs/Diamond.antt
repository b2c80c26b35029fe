-- Confluence, the diamond: where sections commute, every complete run ends alike.
use Rattle.std.proofs.Common.{◌≡◌, ℕ, suc, ◌+◌, List, [], ◌∷◌, ◌++◌, length, Some, refl, ap, sym, subst, ◌∙◌, arith, ◌≢◌, length-set, set-set}
use Rattle.std.proofs.lemmas.List.{set_comm}
use Rattle.std.specs.Prelude.{slice_get, slice_set}
use Rattle.ca_lists.proofs.Places.{get_set_here}
use Rattle.ca_program.specs.Plain.{PlainProgram}
use Rattle.ca_model.specs.declared.value.Object.{Object}
use Rattle.ca_meaning.specs.Expressions.{Invocation}
use Rattle.ca_meaning.specs.Sections.{Outcome}
use Rattle.ca_meaning.specs.Multisets.{weight, SameItems}
use Rattle.ca_order_laws.specs.Pending.{Leaves, PendingRun, rests, runs}
use Rattle.ca_order_laws.proofs.Weights.{weight_append, Split, Decides, equal, other, Two, one, both, count_of, there, count_self, two}
use Rattle.ca_order_laws.proofs.Decided.{decide_nat}
use Rattle.ca_order_laws.proofs.PendingRuns.{run_same}
use Rattle.ca_order_laws.proofs.Places.{get_else, one_some}

-- b before a where a came before b
pub record Swapped (p : PlainProgram) (frozen : List Object) (a b : Invocation) (o : Object) (r q : Outcome) : Type 0 where
  pub first : Outcome
  pub second : Outcome
  pub begins : Leaves p frozen b o first
  pub follows : Leaves p frozen a first.object second
  pub object : second.object ≡ q.object
  pub listed : SameItems (r.listed ++ q.listed) (first.listed ++ second.listed)
  pub steps : r.steps + q.steps ≡ first.steps + second.steps

-- what the machine is run with
pub record Setting (p : PlainProgram) (frozen : List Object) (Good : Invocation → Type 0) (GoodObject : ℕ → Object → Type 0) : Type 0 where
  pub decide : (x y : Invocation) → Decides x y
  pub size : ℕ
  pub single : (a : Invocation) (o : Object) (r q : Outcome) → Leaves p frozen a o r → Leaves p frozen a o q → r ≡ q
  pub object : (a : Invocation) (o : Object) (r : Outcome) → Good a → GoodObject a.receiver o → Leaves p frozen a o r → GoodObject a.receiver r.object
  pub listed : (a : Invocation) (o : Object) (r : Outcome) → Good a → GoodObject a.receiver o → Leaves p frozen a o r → (x : Invocation) → Split x r.listed → Good x
  pub commutes : (a b : Invocation) (o : Object) (r q : Outcome) → Good a → Good b → a.receiver ≡ b.receiver → GoodObject a.receiver o → Leaves p frozen a o r → Leaves p frozen b r.object q → Swapped p frozen a b o r q

module _ {p : PlainProgram} {frozen : List Object} {Good : Invocation → Type 0} {GoodObject : ℕ → Object → Type 0} (z : Setting p frozen Good GoodObject) where
  pub record Fine (h : List Object) (ps : List Invocation) : Type 0 where
    pub size : length h ≡ z.size
    pub objects : (n : ℕ) (o : Object) → slice_get h n ≡ Some o → GoodObject n o
    pub ops : (x : Invocation) → Split x ps → Good x

  fine_append : (xs ys : List Invocation) → ((x : Invocation) → Split x xs → Good x) → ((x : Invocation) → Split x ys → Good x) → (x : Invocation) → Split x (xs ++ ys) → Good x
  fine_append xs ys f g x s = from (decide_nat (weight (count_of z.decide x) xs) 0)
    where
      from : Decides (weight (count_of z.decide x) xs) 0 → Good x
      from (equal e) = g x (there z.decide x ys (let p = s.same.weighed (count_of z.decide x) in let q = count_self z.decide x in let t = weight_append (count_of z.decide x) xs ys in omega arith))
      from (other ne) = f x (there z.decide x xs (omega arith))

  set_decided : (h : List Object) (n m : ℕ) (v o w : Object) → slice_get h n ≡ Some o → GoodObject n v → (slice_get h m ≡ Some w → GoodObject m w) → Decides n m → slice_get (slice_set h n v) m ≡ Some w → GoodObject m w
  set_decided h n m v o w found good old (equal e) got =
      let t : slice_get (slice_set h n v) m ≡ Some v = subst (λ k. slice_get (slice_set h n v) k ≡ Some v) e (get_set_here h n o v found) in
      subst (λ k. GoodObject k w) e (subst (λ u. GoodObject n u) (one_some _ v w t got) good)
  set_decided h n m v o w found good old (other ne) got = old (sym (get_else h n m v ne) ∙ got)

  pub fine_step : (h : List Object) (ps others : List Invocation) (a : Invocation) (o : Object) (r : Outcome) → Fine h ps → SameItems ps (a ∷ others) → slice_get h a.receiver ≡ Some o → Leaves p frozen a o r → Fine (slice_set h a.receiver r.object) (r.listed ++ others)
  fine_step h ps others a o r fine same found sec =
      let good_a : Good a = fine.ops a record { others = others; same = same } in
      let good_o : GoodObject a.receiver o = fine.objects a.receiver o found in
      record {
        size = length-set h a.receiver r.object ∙ fine.size;
        objects = λ n w got. set_decided h a.receiver n r.object o w found (z.object a o r good_a good_o sec) (fine.objects n w) (decide_nat a.receiver n) got;
        ops = fine_append r.listed others (z.listed a o r good_a good_o sec) (λ x s. fine.ops x record { others = a ∷ s.others; same = record { weighed = λ f. let p = same.weighed f in let q = s.same.weighed f in omega arith } });
      }

  -- a pending operation can be the first
  pub record Ahead (last : List Object) (h : List Object) (a : Invocation) (others : List Invocation) (n s : ℕ) : Type 0 where
    pub o : Object
    pub r : Outcome
    pub es : List Invocation
    pub left : ℕ
    pub found : slice_get h a.receiver ≡ Some o
    pub section : Leaves p frozen a o r
    pub run : PendingRun p frozen last [] es (slice_set h a.receiver r.object) (r.listed ++ others) left
    pub steps : s ≡ r.steps + left
    pub fewer : n ≡ suc (length es)

  -- a and b at one place: what came after b comes before it
  front_here : {last : List Object} (a b : Invocation) (h : List Object) (others zs es : List Invocation) (ob oa : Object) (rb ra : Outcome) (s left : ℕ) → b.receiver ≡ a.receiver → SameItems others (b ∷ zs) → slice_get h b.receiver ≡ Some ob → slice_get (slice_set h b.receiver rb.object) a.receiver ≡ Some oa → PendingRun p frozen last [] es (slice_set (slice_set h b.receiver rb.object) a.receiver ra.object) (ra.listed ++ (rb.listed ++ zs)) left → s ≡ ra.steps + left → Swapped p frozen b a ob rb ra → Ahead last h a others (suc (suc (length es))) (rb.steps + s)
  front_here {last} a b h others zs es ob oa rb ra s left e same found_b found_a run steps w =
      let heap : slice_set (slice_set h b.receiver rb.object) a.receiver ra.object ≡ slice_set (slice_set h a.receiver w.first.object) b.receiver w.second.object =
      ap (λ n. slice_set (slice_set h n rb.object) a.receiver ra.object) e ∙ set-set h a.receiver rb.object ra.object ∙ ap (λ v. slice_set h a.receiver v) (sym w.object) ∙ sym (set-set h a.receiver w.first.object w.second.object) ∙ ap (λ n. slice_set (slice_set h a.receiver w.first.object) n w.second.object) (sym e) in
      let at_a : slice_get h a.receiver ≡ Some ob = subst (λ n. slice_get h n ≡ Some ob) e found_b in
      let at_b : slice_get (slice_set h a.receiver w.first.object) b.receiver ≡ Some w.first.object = subst (λ n. slice_get (slice_set h a.receiver w.first.object) n ≡ Some w.first.object) (sym e) (get_set_here h a.receiver ob w.first.object at_a) in
      let moved : PendingRun p frozen last [] es (slice_set (slice_set h a.receiver w.first.object) b.receiver w.second.object) (ra.listed ++ (rb.listed ++ zs)) left = subst (λ g. PendingRun p frozen last [] es g (ra.listed ++ (rb.listed ++ zs)) left) heap run in
      let pending : SameItems (w.second.listed ++ (w.first.listed ++ zs)) (ra.listed ++ (rb.listed ++ zs)) = record { weighed = λ f. let p = w.listed.weighed f in let p1 = weight_append f rb.listed ra.listed in let p2 = weight_append f w.first.listed w.second.listed in let p3 = weight_append f w.second.listed (w.first.listed ++ zs) in let p4 = weight_append f w.first.listed zs in let p5 = weight_append f ra.listed (rb.listed ++ zs) in let p6 = weight_append f rb.listed zs in omega arith } in
      let sum : w.second.steps + left ≡ w.second.steps + left = refl in
      let equal_steps = w.steps in
      record {
        o = ob;
        r = w.first;
        es = b ∷ es;
        left = w.second.steps + left;
        found = at_a;
        section = w.begins;
        run = runs b es (slice_set h a.receiver w.first.object) (w.first.listed ++ others) (w.first.listed ++ zs) w.first.object w.second left
            record { weighed = λ f. let p = same.weighed f in let p1 = weight_append f w.first.listed others in let p2 = weight_append f w.first.listed zs in omega arith }
            at_b w.follows (run_same _ pending moved);
        steps = omega arith;
        fewer = refl;
      }

  -- a and b at different places
  front_apart : {last : List Object} (a b : Invocation) (h : List Object) (others zs es : List Invocation) (ob oa : Object) (rb ra : Outcome) (s left : ℕ) → b.receiver ≢ a.receiver → SameItems others (b ∷ zs) → slice_get h b.receiver ≡ Some ob → slice_get (slice_set h b.receiver rb.object) a.receiver ≡ Some oa → Leaves p frozen b ob rb → Leaves p frozen a oa ra → PendingRun p frozen last [] es (slice_set (slice_set h b.receiver rb.object) a.receiver ra.object) (ra.listed ++ (rb.listed ++ zs)) left → s ≡ ra.steps + left → Ahead last h a others (suc (suc (length es))) (rb.steps + s)
  front_apart {last} a b h others zs es ob oa rb ra s left ne same found_b found_a sec_b sec_a run steps =
      let moved : PendingRun p frozen last [] es (slice_set (slice_set h a.receiver ra.object) b.receiver rb.object) (ra.listed ++ (rb.listed ++ zs)) left = subst (λ g. PendingRun p frozen last [] es g (ra.listed ++ (rb.listed ++ zs)) left) (set_comm h b.receiver a.receiver rb.object ra.object ne) run in
      record {
        o = oa;
        r = ra;
        es = b ∷ es;
        left = rb.steps + left;
        found = sym (get_else h b.receiver a.receiver rb.object ne) ∙ found_a;
        section = sec_a;
        run = runs b es (slice_set h a.receiver ra.object) (ra.listed ++ others) (ra.listed ++ zs) ob rb left
            record { weighed = λ f. let p = same.weighed f in let p1 = weight_append f ra.listed others in let p2 = weight_append f ra.listed zs in omega arith }
            (get_else h a.receiver b.receiver ra.object (λ e. ne (sym e)) ∙ found_b) sec_b
            (run_same _ record { weighed = λ f. let p3 = weight_append f rb.listed (ra.listed ++ zs) in let p4 = weight_append f ra.listed zs in let p5 = weight_append f ra.listed (rb.listed ++ zs) in let p6 = weight_append f rb.listed zs in omega arith } moved);
        steps = omega arith;
        fewer = refl;
      }

  front_two : {last : List Object} (a b : Invocation) (h : List Object) (others zs : List Invocation) (ob : Object) (rb : Outcome) (n s : ℕ) → Good a → Good b → GoodObject b.receiver ob → SameItems others (b ∷ zs) → slice_get h b.receiver ≡ Some ob → Leaves p frozen b ob rb → Ahead last (slice_set h b.receiver rb.object) a (rb.listed ++ zs) n s → Decides b.receiver a.receiver → Ahead last h a others (suc n) (rb.steps + s)
  front_two {last} a b h others zs ob rb n s good_a good_b good_o same found_b sec_b w (other ne) =
      subst (λ k. Ahead last h a others (suc k) (rb.steps + s)) (sym w.fewer) (front_apart a b h others zs w.es ob w.o rb w.r s w.left ne same found_b w.found sec_b w.section w.run w.steps)
  front_two {last} a b h others zs ob rb n s good_a good_b good_o same found_b sec_b w (equal e) =
      let here : slice_get (slice_set h b.receiver rb.object) a.receiver ≡ Some rb.object = subst (λ k. slice_get (slice_set h b.receiver rb.object) k ≡ Some rb.object) e (get_set_here h b.receiver ob rb.object found_b) in
      let sec : Leaves p frozen a rb.object w.r = subst (λ v. Leaves p frozen a v w.r) (one_some _ w.o rb.object w.found here) w.section in
      subst (λ k. Ahead last h a others (suc k) (rb.steps + s)) (sym w.fewer) (front_here a b h others zs w.es ob w.o rb w.r s w.left e same found_b w.found w.run w.steps (z.commutes b a ob rb w.r good_b good_a e good_o sec_b sec))

  pub front : {last : List Object} {es : List Invocation} {h : List Object} {ps : List Invocation} {s : ℕ} (a : Invocation) (others : List Invocation) → Fine h ps → SameItems ps (a ∷ others) → PendingRun p frozen last [] es h ps s → Ahead last h a others (length es) s
  front a others fine same (rests ps none) = absurd (let p = same.weighed (λ _. 1) in let q = none.weighed (λ _. 1) in omega arith)
  front {last} a others fine same (runs b more h ps left ob rb s same_b found_b sec_b run) =
      from (two z.decide a b others left record { weighed = λ f. sym (same.weighed f) ∙ same_b.weighed f })
      (λ zs fine e. front a (rb.listed ++ zs) fine e run)
    where
      from : Two a b others left → ((zs : List Invocation) → Fine (slice_set h b.receiver rb.object) (rb.listed ++ left) → SameItems (rb.listed ++ left) (a ∷ (rb.listed ++ zs)) → Ahead last (slice_set h b.receiver rb.object) a (rb.listed ++ zs) (length more) s) → Ahead last h a others (suc (length more)) (rb.steps + s)
      from (one e alike) tail = subst (λ x. Ahead last h x others (suc (length more)) (rb.steps + s)) (sym e) record {
        o = ob;
        r = rb;
        es = more;
        left = s;
        found = found_b;
        section = sec_b;
        run = run_same _ record { weighed = λ f. let p = alike.weighed f in let p1 = weight_append f rb.listed others in let p2 = weight_append f rb.listed left in omega arith } run;
        steps = refl;
        fewer = refl;
      }
      from (both zs to_b to_a) tail =
          let step : Fine (slice_set h b.receiver rb.object) (rb.listed ++ left) = fine_step h ps left b ob rb fine same_b found_b sec_b in
          let good_a : Good a = fine.ops a record { others = others; same = same } in
          let good_b : Good b = fine.ops b record { others = left; same = same_b } in
          front_two a b h others zs ob rb (length more) s good_a good_b (fine.objects b.receiver ob found_b) to_b found_b sec_b
          (tail zs step record { weighed = λ f. let p = to_a.weighed f in let p1 = weight_append f rb.listed left in let p2 = weight_append f rb.listed zs in omega arith }) (decide_nat b.receiver a.receiver)

  -- every complete run ends alike
  pub record Alike {A : Type 0} (x y : A) (n m s t : ℕ) : Type 0 where
    pub ending : x ≡ y
    pub count : n ≡ m
    pub steps : s ≡ t

  pub alike : {last end : List Object} {fs : List Invocation} {h : List Object} {ps : List Invocation} {t : ℕ} → PendingRun p frozen end [] fs h ps t → (es : List Invocation) (s : ℕ) → Fine h ps → PendingRun p frozen last [] es h ps s → Alike last end (length es) (length fs) s t
  alike (rests qs none) es s fine (rests ps none2) = record { ending = refl; count = refl; steps = refl }
  alike (rests qs none) es s fine (runs a more h ps left o r u same found sec run) = absurd (let p = same.weighed (λ _. 1) in let q = none.weighed (λ _. 1) in omega arith)
  alike {last} {end} (runs b more h ps left o r u same found sec tail) es s fine run =
      let w : Ahead last h b left (length es) s = front b left fine same run in
      let eo : w.o ≡ o = one_some _ w.o o w.found found in
      let er : w.r ≡ r = z.single b o w.r r (subst (λ v. Leaves p frozen b v w.r) eo w.section) sec in
      let moved : PendingRun p frozen last [] w.es (slice_set h b.receiver r.object) (r.listed ++ left) w.left = subst (λ q. PendingRun p frozen last [] w.es (slice_set h b.receiver q.object) (q.listed ++ left) w.left) er w.run in
      let i : Alike last end (length w.es) (length more) w.left u = alike tail w.es w.left (fine_step h ps left b o r fine same found sec) moved in
      let es_steps : w.r.steps ≡ r.steps = ap (λ q. q.steps) er in
      let p = w.fewer in let q = i.count in let p1 = w.steps in let q1 = i.steps in
      record { ending = i.ending; count = omega arith; steps = omega arith }

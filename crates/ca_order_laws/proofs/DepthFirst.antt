-- The depth-first run is a complete run, and each complete run ends as it does.
use Rattle.std.proofs.Common.{◌≡◌, ℕ, zero, suc, ◌+◌, ◌<◌, ◌≤◌, List, [], ◌∷◌, ◌++◌, length, Some, refl, ap, sym, subst, ◌∙◌, arith}
use Rattle.std.specs.Prelude.{slice_get, slice_set}
use Rattle.ca_program.specs.Plain.{PlainProgram}
use Rattle.ca_model.specs.declared.value.Object.{Object}
use Rattle.ca_meaning.specs.Expressions.{Invocation}
use Rattle.ca_meaning.specs.Flows.{goes_on, and_on}
use Rattle.ca_meaning.specs.Serial.{World, in_heap, run_call, operations_of, serial_ops}
use Rattle.ca_meaning.specs.Sections.{Outcome}
use Rattle.ca_meaning.specs.Multisets.{SameItems}
use Rattle.ca_order_laws.specs.Pending.{Leaves, PendingRun, rests, runs}
use Rattle.ca_order_laws.proofs.Weights.{weight_append}
use Rattle.ca_order_laws.proofs.Places.{one_some}
use Rattle.ca_order_laws.proofs.Runs.{ends_same, ends_left, append_runs, Middle, middle, Parts, apart}
use Rattle.ca_order_laws.proofs.Diamond.{Setting, Fine, fine_step, Ahead, front}
use Rattle.ca_order_laws.proofs.PendingRuns.{run_same, run_then}

-- the serial run of operations in order is done with this heap
pub record Ended (p : PlainProgram) (is : List Invocation) (w : World) (last : List Object) (k left : ℕ) : Type 0 where
  pub world : World
  pub heap : world.heap ≡ last
  pub run : serial_ops p is w k ≡ goes_on [] world left

module _ {p : PlainProgram} {frozen : List Object} {Good : Invocation → Type 0} {GoodObject : ℕ → Object → Type 0} (z : Setting p frozen Good GoodObject) where
  pub fine_end : {last : List Object} {rest es : List Invocation} {h : List Object} {ps : List Invocation} {s : ℕ} → PendingRun p frozen last rest es h ps s → Fine z h ps → Fine z last rest
  fine_end (rests ps same) fine = record { size = fine.size; objects = fine.objects; ops = λ x s. fine.ops x record { others = s.others; same = record { weighed = λ f. same.weighed f ∙ s.same.weighed f } } }
  fine_end (runs a more h ps others o r s same found sec tail) fine = fine_end tail (fine_step z h ps others a o r fine same found sec)

  fine_sub : {h : List Object} (ps qs more : List Invocation) → SameItems ps (qs ++ more) → Fine z h ps → Fine z h qs
  fine_sub ps qs more same fine = record {
    size = fine.size;
    objects = fine.objects;
    ops = λ x s. fine.ops x record { others = s.others ++ more; same = record { weighed = λ f. let p = same.weighed f in let p1 = s.same.weighed f in let p2 = weight_append f qs more in let p3 = weight_append f s.others more in omega arith } };
  }

  fine_more : {h g : List Object} (a : Invocation) (qs : List Invocation) → Fine z h (a ∷ qs) → Fine z g [] → Fine z g qs
  fine_more a qs fine end = record {
    size = end.size;
    objects = end.objects;
    ops = λ x s. fine.ops x record { others = a ∷ s.others; same = record { weighed = λ f. let p1 = s.same.weighed f in omega arith } };
  }

  -- after any run there is again a complete run, to the same end
  pub record Carried (h last : List Object) (ps : List Invocation) (s t : ℕ) : Type 0 where
    pub es : List Invocation
    pub left : ℕ
    pub run : PendingRun p frozen last [] es h ps left
    pub steps : t ≡ s + left

  pub carry : {mid last : List Object} {rest es : List Invocation} {h : List Object} {ps : List Invocation} {s : ℕ} → PendingRun p frozen mid rest es h ps s → (fs : List Invocation) (t : ℕ) → Fine z h ps → PendingRun p frozen last [] fs h ps t → Carried mid last rest s t
  carry (rests ps same) fs t fine run = record { es = fs; left = t; run = run_same _ record { weighed = λ f. sym (same.weighed f) } run; steps = omega arith }
  carry {mid} {last} {rest} (runs a more h ps others o r s same found sec tail) fs t fine run =
      let w : Ahead z last h a others (length fs) t = front z a others fine same run in
      let eo : w.o ≡ o = one_some _ w.o o w.found found in
      let er : w.r ≡ r = z.single a o w.r r (subst (λ v. Leaves p frozen a v w.r) eo w.section) sec in
      let moved : PendingRun p frozen last [] w.es (slice_set h a.receiver r.object) (r.listed ++ others) w.left = subst (λ q. PendingRun p frozen last [] w.es (slice_set h a.receiver q.object) (q.listed ++ others) w.left) er w.run in
      let i : Carried mid last rest s w.left = carry tail w.es w.left (fine_step z h ps others a o r fine same found sec) moved in
      let e = ap (λ q. q.steps) er in let p = w.steps in let q = i.steps in
      record { es = i.es; left = i.left; run = i.run; steps = omega arith }

  -- a complete run, and what is left of the steps
  pub record Complete (h : List Object) (ps : List Invocation) (k : ℕ) (last : List Object) (left : ℕ) : Type 0 where
    pub es : List Invocation
    pub s : ℕ
    pub steps : k ≡ s + left
    pub run : PendingRun p frozen last [] es h ps s

  -- a call that is done, seen as its section and then the run of what that lists
  pub record Parted (w : World) (a : Invocation) (k : ℕ) (v : World) (left : ℕ) : Type 0 where
    pub o : Object
    pub r : Outcome
    pub rest : ℕ
    pub found : slice_get w.heap a.receiver ≡ Some o
    pub section : Leaves p frozen a o r
    pub steps : k ≡ r.steps + rest
    pub listed : serial_ops p r.listed (in_heap w (slice_set w.heap a.receiver r.object)) rest ≡ goes_on [] v left

  pub record SectionsThenLists : Type 0 where
    pub parts : (w : World) (a : Invocation) (k : ℕ) (v : World) (left : ℕ) → Fine z w.heap (a ∷ []) → run_call (operations_of p) [] a w k ≡ goes_on [] v left → Parted w a k v left
    pub joins : (w : World) (a : Invocation) (o : Object) (r : Outcome) (rest : ℕ) (v : World) (left : ℕ) → Fine z w.heap (a ∷ []) → slice_get w.heap a.receiver ≡ Some o → Leaves p frozen a o r → serial_ops p r.listed (in_heap w (slice_set w.heap a.receiver r.object)) rest ≡ goes_on [] v left → run_call (operations_of p) [] a w (r.steps + rest) ≡ goes_on [] v left
    pub counts : (a : Invocation) (o : Object) (r : Outcome) → Leaves p frozen a o r → 0 < r.steps

  module _ (law : SectionsThenLists) where
    -- the serial run is done: there is a complete run
    pub serial_completes : (n k : ℕ) → k ≤ n → (w : World) (ps : List Invocation) (v : World) (left : ℕ) → Fine z w.heap ps → serial_ops p ps w k ≡ goes_on [] v left → Complete w.heap ps k v.heap left
    serial_completes n k le w [] v left fine e = record {
      es = [];
      s = 0;
      steps = let d = ends_left e in omega arith;
      run = subst (λ (u : World). PendingRun p frozen u.heap [] [] w.heap [] 0) (ends_same e) (rests [] record { weighed = λ f. refl });
    }
    serial_completes zero k le w (a ∷ more) v left fine e =
        let m : Middle p a more w k v left = middle p a more w k v left e in
        let q : Parted w a k m.world m.steps = law.parts w a k m.world m.steps (fine_sub (a ∷ more) (a ∷ []) more record { weighed = λ f. omega arith } fine) m.call in
        absurd (let c = law.counts a q.o q.r q.section in let st = q.steps in omega arith)
    serial_completes (suc n) k le w (a ∷ more) v left fine e =
        let m : Middle p a more w k v left = middle p a more w k v left e in
        let fine_a : Fine z w.heap (a ∷ []) = fine_sub (a ∷ more) (a ∷ []) more record { weighed = λ f. omega arith } fine in
        let q : Parted w a k m.world m.steps = law.parts w a k m.world m.steps fine_a m.call in
        let c = law.counts a q.o q.r q.section in
        let st = q.steps in
        let fine_l : Fine z (slice_set w.heap a.receiver q.r.object) (q.r.listed ++ []) = fine_step z w.heap (a ∷ []) [] a q.o q.r fine_a record { weighed = λ f. refl } q.found q.section in
        let fine_q : Fine z (slice_set w.heap a.receiver q.r.object) q.r.listed = fine_sub (q.r.listed ++ []) q.r.listed [] record { weighed = λ f. refl } fine_l in
        let i : Complete (slice_set w.heap a.receiver q.r.object) q.r.listed q.rest m.world.heap m.steps = serial_completes n q.rest (omega arith) (in_heap w (slice_set w.heap a.receiver q.r.object)) q.r.listed m.world m.steps fine_q q.listed in
        let si = i.steps in
        let fine_m : Fine z m.world.heap more = fine_more a more fine (fine_end i.run fine_q) in
        let j : Complete m.world.heap more m.steps v.heap left = serial_completes n m.steps (omega arith) m.world more v left fine_m m.rest in
        let sj = j.steps in
        record {
          es = a ∷ (i.es ++ j.es);
          s = q.r.steps + (i.s + j.s);
          steps = omega arith;
          run = runs a _ w.heap (a ∷ more) more q.o q.r (i.s + j.s) record { weighed = λ f. refl } q.found q.section (run_then {mid = m.world.heap} {es = i.es} {fs = j.es} {more = more} {s = i.s} {t = j.s} i.run j.run);
        }

    -- there is a complete run: the serial run is done
    pub completes_serial : (n : ℕ) (ps es : List Invocation) (w : World) (last : List Object) (s j : ℕ) → length es ≤ n → Fine z w.heap ps → PendingRun p frozen last [] es w.heap ps s → Ended p ps w last (s + j) j
    completes_serial n ps es w last s j le fine run = from n ps es w w.heap last s j le fine refl run
      where
        from : (n : ℕ) (ps es : List Invocation) (w : World) (h last : List Object) (s j : ℕ) → length es ≤ n → Fine z h ps → w.heap ≡ h → PendingRun p frozen last [] es h ps s → Ended p ps w last (s + j) j
        from n [] es w h last s j le fine is (rests ps none) = record { world = w; heap = is; run = let e : 0 + j ≡ j = omega arith in ap (λ k. goes_on [] w k) e }
        from n [] es w h last s j le fine is (runs a more hh ps others o r t same found sec tail) = absurd (let q = same.weighed (λ _. 1) in omega arith)
        from zero (a ∷ more) es w h last s j le fine is run =
            let f : Ahead z last h a more (length es) s = front z a more fine record { weighed = λ f. refl } run in
            absurd (let q = f.fewer in omega arith)
        from (suc n) (a ∷ more) es w h last s j le fine is run =
            let f : Ahead z last h a more (length es) s = front z a more fine record { weighed = λ f. refl } run in
            let q = f.fewer in
            let q1 = f.steps in
            let fine_a : Fine z h (a ∷ []) = fine_sub (a ∷ more) (a ∷ []) more record { weighed = λ f. omega arith } fine in
            let u : World = in_heap w (slice_set w.heap a.receiver f.r.object) in
            let i : Ended p (f.r.listed ++ more) u last (f.left + j) j = from n (f.r.listed ++ more) f.es u (slice_set h a.receiver f.r.object) last f.left j (omega arith) (fine_step z h (a ∷ more) more a f.o f.r fine record { weighed = λ f. refl } f.found f.section) (ap (λ g. slice_set g a.receiver f.r.object) is) f.run in
            let m : Parts p f.r.listed more u (f.left + j) i.world j = apart p f.r.listed more u (f.left + j) i.world j (sym (append_runs p f.r.listed more u (f.left + j)) ∙ i.run) in
            let call : run_call (operations_of p) [] a w (f.r.steps + (f.left + j)) ≡ goes_on [] m.world m.steps = law.joins w a f.o f.r (f.left + j) m.world m.steps (subst (λ g. Fine z g (a ∷ [])) (sym is) fine_a) (ap (λ g. slice_get g a.receiver) is ∙ f.found) f.section m.first in
            let e : s + j ≡ f.r.steps + (f.left + j) = omega arith in
            record { world = i.world; heap = i.heap; run = ap (λ k. serial_ops p (a ∷ more) w k) e ∙ ap (λ d. and_on d (λ ls w k. serial_ops p more w k)) call ∙ m.rest }

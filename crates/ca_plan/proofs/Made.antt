-- From the parts of a plan to the plan.
use Rattle.std.proofs.Common.{◌≡◌, ◌↔◌, ℕ, zero, suc, true, false, List, [], ◌∷◌, Option, Some, None, Global, length, refl, sym, ap, ◌∙◌, subst, arith}
use Rattle.std.specs.Prelude.{slice_get, Contains}
use Rattle.std.proofs.lemmas.Bool.{eq-eqb}
use Rattle.std.proofs.lemmas.List.{length-map}
use Rattle.std.specs.declared.rc.Rc.{Rc}
use Rattle.ca_program.specs.declared.program.LoopId.{LoopId}
use Rattle.ca_program.specs.declared.program.OpId.{OpId}
use Rattle.ca_program.specs.declared.program.Program.{Program}
use Rattle.ca_program.specs.Plain.{PlainProgram, PlainMethod, Statement, for_loop}
use Rattle.ca_program.specs.View.{method_view, program_view}
use Rattle.ca_meaning.specs.Functions.{body_of}
use Rattle.ca_parallel.specs.ExtentsOf.{ExtentOf, Rises, OpBefore}
use Rattle.ca_parallel.specs.Marks.{HasSite}
use Rattle.ca_parallel.specs.Separable.{Separable, AreSeparated}
use Rattle.ca_extent.proofs.Members.{from_map}
use Rattle.ca_section.proofs.Members.{pick}
use Rattle.ca_symbolic.specs.OtherLoops.{is_call_loop}
use Rattle.ca_verdicts.specs.declared.verdicts.Verdict.TheVariants.{Commutes}
use Rattle.ca_verdicts.specs.Verdicts.{VerdictOf}
use Rattle.ca_plan.specs.Pairs.{Pair, of_one_class, is_one_class, pairs_in}
use Rattle.ca_plan.specs.Plans.{Judged, JudgedLoop, IsJudged, IsJudgedLoop, AnyOrder, IsMarked, IsMarkedLoop, PlainPlan, PlanOf, LoopBefore, pair_of, op_at, call_loops, call_loops_of}
use Rattle.ca_plan.specs.Told.{WhollyTold, JudgedOp, PlanTold, AllCommute, CommutingOp, CommutingLoop, shared}
use Rattle.ca_plan.proofs.Sound.{found, of_form}

-- Extents

pub judged : (p : PlainProgram) (roots : List OpId) (j : Judged) → ExtentOf p roots j.extent → WhollyTold p j → IsJudged p roots j
judged p roots j x t = record { extent = x; pairs = t.on; verdicts = λ v c. (t.each v c).exact }

-- Any order

listed : (p : PlainProgram) (j : Judged) → WhollyTold p j → AllCommute j → (a b : OpId) → Contains (pairs_in p j.extent.ops) (record { a = a; b = b }) → VerdictOf p j.extent.written a b Commutes
listed p j t all a b c =
    let (x, inside, same) = from_map pair_of j.pairs (record { a = a; b = b }) (subst (λ xs. Contains xs (record { a = a; b = b })) (sym t.on) c) in
    let said : VerdictOf p j.extent.written x.a x.b Commutes = subst (λ v. VerdictOf p j.extent.written x.a x.b v) (all x inside) (t.each x inside).exact in
    subst (λ (q : Pair). VerdictOf p j.extent.written q.a q.b Commutes) same said

-- an operation commutes with itself, so it is separable; one that is none has an empty body
separable : (p : PlainProgram) (j : Judged) → WhollyTold p j → AllCommute j → (op : OpId) → Contains j.extent.ops op → (m : Option PlainMethod) → slice_get p.ops op.0 ≡ m → Separable p j.extent.written op
separable p j t all op c None e = subst (λ z. AreSeparated p j.extent.written false (body_of z)) (sym e) tt
separable p j t all op c (Some m) e =
    let one : of_one_class p op op ≡ true = ap (λ z. is_one_class z z) e ∙ eq-eqb m.class.0 m.class.0 refl in
    pick (found p j.extent.ops op op c c one one)
    (λ z. (listed p j t all op op z).0.can.separable.0)
    (λ z. (listed p j t all op op z).0.can.separable.0)

pub any_order : (p : PlainProgram) (j : Judged) → WhollyTold p j → AllCommute j → AnyOrder p j
any_order p j t all = record { separable = λ op c. separable p j t all op c (slice_get p.ops op.0) refl; commute = all }

-- Marks

to_mark : (p : PlainProgram) (js : List Judged) → ((n : ℕ) (j : Judged) → slice_get js n ≡ Some j → JudgedOp p n j) → (op : OpId) → CommutingOp p js op → IsMarked p js op
to_mark p js each op m = record { judged = m.judged; found = m.found; calls = m.calls; order = any_order p m.judged (each op.0 m.judged m.found).told m.commute }

from_mark : (p : PlainProgram) (js : List Judged) (op : OpId) → IsMarked p js op → CommutingOp p js op
from_mark p js op m = record { judged = m.judged; found = m.found; calls = m.calls; commute = m.order.commute }

same_site : (x : Statement) (i k : LoopId) → i.0 ≡ k.0 → HasSite x i → HasSite x k
same_site x i k e h = let s : i ≡ k = λ z. record { 0 = e z } in subst (λ z. HasSite x z) s h

pub site_is : (x : Statement) (i k : LoopId) → HasSite x i → HasSite x k → i.0 ≡ k.0
site_is (for_loop line site part first c next body) i k h g = ap (λ (z : LoopId). z.0) (sym h ∙ g)
site_is x i k h g = absurd h

to_marked_loop : (p : PlainProgram) (ls : List JudgedLoop) → ((n : ℕ) (s : Statement) (l : JudgedLoop) → slice_get (call_loops p) n ≡ Some s → slice_get ls n ≡ Some l → IsJudgedLoop p s l)
    → ((n : ℕ) (l : JudgedLoop) → slice_get ls n ≡ Some l → WhollyTold p l.judged) → (site : LoopId) → CommutingLoop p (call_loops p) ls site.0 → IsMarkedLoop p ls site
to_marked_loop p ls each told site m = record {
  place = m.place;
  loop = m.loop;
  judged = m.judged;
  stands = m.stands;
  found = m.found;
  numbered = same_site m.loop m.judged.site site m.number (each m.place m.loop m.judged m.stands m.found).site;
  order = any_order p m.judged.judged (told m.place m.judged m.found) m.commute;
  constant = m.constant;
}

from_marked_loop : (p : PlainProgram) (ls : List JudgedLoop) → ((n : ℕ) (s : Statement) (l : JudgedLoop) → slice_get (call_loops p) n ≡ Some s → slice_get ls n ≡ Some l → IsJudgedLoop p s l)
    → (site : LoopId) → IsMarkedLoop p ls site → CommutingLoop p (call_loops p) ls site.0
from_marked_loop p ls each site m = record {
  place = m.place;
  loop = m.loop;
  judged = m.judged;
  stands = m.stands;
  found = m.found;
  number = site_is m.loop m.judged.site site (each m.place m.loop m.judged m.stands m.found).site m.numbered;
  commute = m.order.commute;
  constant = m.constant;
}

-- The parts of a plan

pub record AreOps (p : PlainProgram) (js : List Judged) : Type 0 where
  pub as_many : length js ≡ length p.ops
  pub each : (n : ℕ) (j : Judged) → slice_get js n ≡ Some j → JudgedOp p n j

pub record AreLoops (p : PlainProgram) (ls : List JudgedLoop) : Type 0 where
  pub as_many : length ls ≡ length (call_loops p)
  pub each : (n : ℕ) (s : Statement) (l : JudgedLoop) → slice_get (call_loops p) n ≡ Some s → slice_get ls n ≡ Some l → IsJudgedLoop p s l
  pub told : (n : ℕ) (l : JudgedLoop) → slice_get ls n ≡ Some l → WhollyTold p l.judged

pub record AreMarks (p : PlainProgram) (js : List Judged) (ls : List JudgedLoop) (ms : List OpId) (sites : List LoopId) : Type 0 where
  pub ops : (op : OpId) → Contains ms op ↔ CommutingOp p js op
  pub ops_rise : Rises OpBefore ms
  pub loops : (site : LoopId) → Contains sites site ↔ CommutingLoop p (call_loops p) ls site.0
  pub loops_rise : Rises LoopBefore sites

abbrev pub plan_with : List Judged → List JudgedLoop → List OpId → List LoopId → PlainPlan
plan_with js ls ms sites = record { marks = record { ops = ms; loops = sites }; ops = js; loops = ls }

pub is_plan : (p : PlainProgram) (js : List Judged) (ls : List JudgedLoop) (ms : List OpId) (sites : List LoopId) → AreOps p js → AreLoops p ls → AreMarks p js ls ms sites → PlanOf p (plan_with js ls ms sites)
is_plan p js ls ms sites o l m = record {
  as_many = o.as_many;
  ops = λ n j e. let k = o.each n j e in judged p (op_at n ∷ []) j k.extent k.told;
  each_loop = l.as_many;
  loops = λ n s j e f. l.each n s j e f;
  marks = record {
    ops = λ op. (λ c. to_mark p js o.each op ((m.ops op).0 c), λ k. (m.ops op).1 (from_mark p js op k));
    loops = λ site. (λ c. to_marked_loop p ls l.each l.told site ((m.loops site).0 c), λ k. (m.loops site).1 (from_marked_loop p ls l.each site k));
    ops_rise = m.ops_rise;
    loops_rise = m.loops_rise;
  };
}

pub found_at : {A : Type 0} (xs : List A) (x : A) → Contains xs x → (n : ℕ) × (slice_get xs n ≡ Some x)
found_at [] x (k, below, is) = absurd (omega (arith, below))
found_at (y ∷ xs) x (zero, below, is) = (0, ap Some is)
found_at (y ∷ xs) x (suc k, below, is) = let r = found_at xs x (k, omega (arith, below), is) in (suc r.0, r.1)

pub all_told : (p : PlainProgram) (js : List Judged) (ls : List JudgedLoop) (ms : List OpId) (sites : List LoopId) → AreOps p js → AreLoops p ls → PlanTold p (plan_with js ls ms sites)
all_told p js ls ms sites o l = record {
  ops = λ j c. let r = found_at js j c in (o.each r.0 j r.1).told;
  loops = λ j c. let r = found_at ls j c in l.told r.0 j r.1;
}

-- What the parts of the code make

pub each_is : (xs loops : List Statement) → loops ≡ call_loops_of xs → (n : ℕ) (s : Statement) → slice_get loops n ≡ Some s → is_call_loop s ≡ true
each_is xs loops is n s e = of_form xs n s (subst (λ z. slice_get z n ≡ Some s) is e)

pub are_ops : (p : Program) (js : List (Rc Judged Global)) → length js ≡ length p.ops.items → ((n : ℕ) (j : Judged) → slice_get (shared js) n ≡ Some j → JudgedOp (program_view p) n j) → AreOps (program_view p) (shared js)
are_ops p js many each = record { as_many = length-map js (λ (r : Rc Judged Global). r.value) ∙ (many ∙ sym (length-map p.ops.items method_view)); each = each }

pub are_loops : (p : PlainProgram) (loops : List Statement) (ls : List JudgedLoop) (k : ℕ) → loops ≡ call_loops p → length ls ≡ k → k ≡ length loops
    → ((n : ℕ) (s : Statement) (l : JudgedLoop) → slice_get loops n ≡ Some s → slice_get ls n ≡ Some l → IsJudgedLoop p s l) → ((n : ℕ) (l : JudgedLoop) → slice_get ls n ≡ Some l → WhollyTold p l.judged) → AreLoops p ls
are_loops p loops ls k is many same each told = record {
  as_many = many ∙ (same ∙ ap length is);
  each = λ n s l e f. each n s l (subst (λ z. slice_get z n ≡ Some s) (sym is) e) f;
  told = told;
}

pub are_marks : (p : PlainProgram) (js : List Judged) (loops : List Statement) (ls : List JudgedLoop) (ms : List OpId) (sites : List LoopId) → loops ≡ call_loops p
    → ((op : OpId) → Contains ms op ↔ CommutingOp p js op) → Rises OpBefore ms → ((site : LoopId) → Contains sites site ↔ CommutingLoop p loops ls site.0) → Rises LoopBefore sites → AreMarks p js ls ms sites
are_marks p js loops ls ms sites is marked rise sited sites_rise = record {
  ops = marked;
  ops_rise = rise;
  loops = λ site. subst (λ z. Contains sites site ↔ CommutingLoop p z ls site.0) is (sited site);
  loops_rise = sites_rise;
}

-- Marks that are given one after another.
use Rattle.std.proofs.Common.{◌≡◌, ◌≢◌, ◌↔◌, ◌<◌, ◌≤◌, ◌+◌, ℕ, zero, suc, true, ◌++◌, List, [], ◌∷◌, Some, Global, length, map, get_or, refl, sym, ap, ◌∙◌, subst, arith}
use Rattle.std.specs.Prelude.{slice_get, option_map, Contains}
use Rattle.std.specs.List.Sorted.{IsStrictlyIncreasing}
use Rattle.std.proofs.lemmas.List.{length-map, get_or-map}
use Rattle.std.proofs.lemmas.List.Elements.{Contains-append_left, Contains-append_right, Contains-append_cases}
use Rattle.std.proofs.lemmas.Option.{same_Some, slice_get_within, get_or_from_slice_get, slice_get-map}
use Rattle.std.specs.declared.rc.Rc.{Rc}
use Rattle.ca_lists.proofs.Members.{has_first, has_nothing, has_only, map_has}
use Rattle.ca_lists.proofs.Places.{before_or_last}
use Rattle.ca_program.specs.declared.program.LoopId.{LoopId}
use Rattle.ca_program.specs.declared.program.Method.{Method}
use Rattle.ca_program.specs.declared.program.OpId.{OpId}
use Rattle.ca_program.specs.declared.program.Program.{Program}
use Rattle.ca_program.specs.Plain.{PlainProgram, Statement}
use Rattle.ca_program.specs.View.{method_view, program_view, statements_view}
use Rattle.ca_meaning.specs.Functions.{body_of}
use Rattle.ca_parallel.specs.Bodies.{calls_of_all}
use Rattle.ca_parallel.specs.Extents.{operation_body}
use Rattle.ca_parallel.specs.ExtentsOf.{Rises, OpBefore}
use Rattle.ca_parallel.specs.Separable.{IsSeparated}
use Rattle.ca_model.proofs.Stores.{found}
use Rattle.ca_section.proofs.Members.{pick}
use Rattle.ca_extent.proofs.Members.{from_map}
use Rattle.ca_plan.specs.Plans.{Judged, JudgedLoop, LoopBefore, op_at}
use Rattle.ca_plan.specs.Told.{AllCommute, CommutingOp, CommutingLoop, Noted, taken, left, loop_of, shared}

-- Lists that rise

rise_two : {A : Type 0} (Before : A → A → Type 0) (y x : A) → Before y x → (n : ℕ) (a b : A) → slice_get (y ∷ x ∷ []) n ≡ Some a → slice_get (y ∷ x ∷ []) (suc n) ≡ Some b → Before a b
rise_two Before y x h zero a b e f = subst (λ z. Before z b) (same_Some y a e) (subst (λ z. Before y z) (same_Some x b f) h)
rise_two {A = A} Before y x h (suc n) a b e f = absurd (past n f)
  where
    past : (n : ℕ) → slice_get {X = A} [] n ≡ Some b → ⊥
    past n e = cc

tail : {A : Type 0} {Before : A → A → Type 0} (x : A) (xs : List A) → Rises Before (x ∷ xs) → Rises Before xs
tail x xs r = record { rises = λ n a b e f. r.rises (suc n) a b e f }

pub rise_more : {A : Type 0} {Before : A → A → Type 0} (xs : List A) (x : A) → Rises Before xs → ((y : A) → Contains xs y → Before y x) → (n : ℕ) (a b : A) → slice_get (xs ++ x ∷ []) n ≡ Some a → slice_get (xs ++ x ∷ []) (suc n) ≡ Some b → Before a b
rise_more [] x r below n a b e f = absurd cc
rise_more {Before = Before} (y ∷ []) x r below n a b e f = rise_two Before y x (below y (has_first y [])) n a b e f
rise_more (y ∷ z ∷ xs) x r below zero a b e f = r.rises 0 a b e f
rise_more (y ∷ z ∷ xs) x r below (suc n) a b e f = rise_more (z ∷ xs) x (tail y (z ∷ xs) r) (λ w c. below w (Contains-append_right (y ∷ []) (z ∷ xs) w c)) n a b e f

-- the extent of an operation in memory
pub shared_at : (js : List (Rc Judged Global)) (n : ℕ) (x : Rc Judged Global) (j : Judged) → n < length js → x ≡ get_or js n x → j ≡ x.value → slice_get (shared js) n ≡ Some j
shared_at js n x j h is same = slice_get-map (λ (y : Rc Judged Global). y.value) js n ∙ rw (found js n x h is, same) refl

pub stands_at : (js : List (Rc Judged Global)) (n : ℕ) → n < length js → (j : Judged) × (slice_get (shared js) n ≡ Some j)
stands_at [] n h = absurd (omega (arith, h))
stands_at (x ∷ js) zero h = (x.value, refl)
stands_at (x ∷ js) (suc n) h = stands_at js n (omega (arith, h))

-- Operations

-- those below n that are marked
pub record MarkedTo (p : PlainProgram) (js : List Judged) (n : ℕ) (ms : List OpId) : Type 0 where
  pub marked : (op : OpId) → Contains ms op ↔ ((op.0 < n) × CommutingOp p js op)
  pub rise : Rises OpBefore ms

pub none_marked : (p : PlainProgram) (js : List Judged) → MarkedTo p js 0 []
none_marked p js = record {
  marked = λ op. (λ c. absurd (has_nothing op c), λ k. absurd (omega (arith, k.0)));
  rise = record { rises = λ n a b e f. absurd cc };
}

same_op : (op : OpId) (n : ℕ) → op.0 ≡ n → op ≡ op_at n
same_op op n e = λ i. record { 0 = e i }

abbrev MarkHere : PlainProgram → ℕ → Judged → Type 0
MarkHere p n j = (calls_of_all (operation_body p (op_at n)) ≢ []) × AllCommute j

-- what is said of operation n is said of its own extent
here : (p : PlainProgram) (js : List Judged) (n : ℕ) (j : Judged) (op : OpId) → slice_get js n ≡ Some j → op.0 ≡ n → CommutingOp p js op → MarkHere p n j
here p js n j op at e k =
    let same : k.judged ≡ j = same_Some k.judged j (sym k.found ∙ ap (slice_get js) e ∙ at) in
    (subst (λ z. calls_of_all (operation_body p z) ≢ []) (same_op op n e) k.calls, subst AllCommute same k.commute)

pub next_op : (p : PlainProgram) (js : List Judged) (n : ℕ) (ms new : List OpId) (j : Judged) → slice_get js n ≡ Some j → Noted (MarkHere p n j) ms new (op_at n) → MarkedTo p js n ms → MarkedTo p js (n + 1) new
next_op p js n ms new j at (left never is) m = subst (λ z. MarkedTo p js (n + 1) z) (sym is) (record {
  marked = λ op. (
    λ c. let k = (m.marked op).0 c in (omega (arith, k.0), k.1),
    λ k. pick (before_or_last op.0 n k.0) (λ l. (m.marked op).1 (l, k.1)) (λ e. absurd (never (here p js n j op at e k.1))),
  );
  rise = m.rise;
})
next_op p js n ms new j at (taken sure is) m = subst (λ z. MarkedTo p js (n + 1) z) (sym is) (record {
  marked = λ op. (
    λ c. pick (Contains-append_cases ms (op_at n ∷ []) op c)
        (λ z. let k = (m.marked op).0 z in (omega (arith, k.0), k.1))
        (λ z. subst (λ (o : OpId). (o.0 < n + 1) × CommutingOp p js o) (has_only (op_at n) op z) (omega arith, record { judged = j; found = at; calls = sure.0; commute = sure.1 })),
    λ k. pick (before_or_last op.0 n k.0)
        (λ l. Contains-append_left ms (op_at n ∷ []) op ((m.marked op).1 (l, k.1)))
        (λ e. subst (λ z. Contains (ms ++ op_at n ∷ []) z) (sym (same_op op n e)) (Contains-append_right ms (op_at n ∷ []) (op_at n) (has_first (op_at n) []))),
  );
  rise = record { rises = rise_more ms (op_at n) m.rise (λ y c. ((m.marked y).0 c).0) };
})

pub all_marked : (p : PlainProgram) (js : List Judged) (n : ℕ) (ms : List OpId) → length js ≤ n → MarkedTo p js n ms → (op : OpId) → Contains ms op ↔ CommutingOp p js op
all_marked p js n ms h m op = (λ c. ((m.marked op).0 c).1, λ k. (m.marked op).1 (omega (arith, h, slice_get_within js op.0 k.judged k.found), k))

-- the body of an operation in memory
pub body_at : (p : Program) (op : OpId) (m : Method) → slice_get p.ops.items op.0 ≡ Some m → operation_body (program_view p) op ≡ statements_view m.body.stmts.items
body_at p op m e = ap body_of (slice_get-map method_view p.ops.items op.0 ∙ ap (option_map method_view) e)

-- Loops

-- those at places below k that are marked
pub record SitesTo (p : PlainProgram) (loops : List Statement) (ls : List JudgedLoop) (k : ℕ) (ns : List ℕ) : Type 0 where
  pub sites : (n : ℕ) → Contains ns n ↔ ((m : CommutingLoop p loops ls n) × (m.place < k))

pub no_sites : (p : PlainProgram) (loops : List Statement) (ls : List JudgedLoop) → SitesTo p loops ls 0 []
no_sites p loops ls = record { sites = λ n. (λ c. absurd (has_nothing n c), λ k. absurd (omega (arith, k.1))) }

abbrev LoopHere : PlainProgram → Statement → JudgedLoop → Type 0
LoopHere p s l = AllCommute l.judged × IsSeparated p l.judged.extent.written true s

loop_here : (p : PlainProgram) (loops : List Statement) (ls : List JudgedLoop) (k : ℕ) (s : Statement) (l : JudgedLoop) (n : ℕ) → slice_get loops k ≡ Some s → slice_get ls k ≡ Some l → (m : CommutingLoop p loops ls n) → m.place ≡ k → LoopHere p s l × (l.site.0 ≡ n)
loop_here p loops ls k s l n at there m e =
    let one : m.loop ≡ s = same_Some m.loop s (sym m.stands ∙ ap (slice_get loops) e ∙ at) in
    let two : m.judged ≡ l = same_Some m.judged l (sym m.found ∙ ap (slice_get ls) e ∙ there) in
    let both : LoopHere p m.loop l = subst (λ z. LoopHere p m.loop z) two (m.commute, m.constant) in
    (subst (λ z. LoopHere p z l) one both, subst (λ (z : JudgedLoop). z.site.0 ≡ n) two m.number)

pub next_site : (p : PlainProgram) (loops : List Statement) (ls : List JudgedLoop) (k : ℕ) (ns new : List ℕ) (s : Statement) (l : JudgedLoop) → slice_get loops k ≡ Some s → slice_get ls k ≡ Some l
    → Noted (LoopHere p s l) ns new l.site.0 → SitesTo p loops ls k ns → SitesTo p loops ls (k + 1) new
next_site p loops ls k ns new s l at there (left never is) m = subst (λ z. SitesTo p loops ls (k + 1) z) (sym is) (record {
  sites = λ n. (
    λ c. let w = (m.sites n).0 c in (w.0, omega (arith, w.1)),
    λ w. pick (before_or_last w.0.place k w.1) (λ h. (m.sites n).1 (w.0, h)) (λ e. absurd (never (loop_here p loops ls k s l n at there w.0 e).0)),
  );
})
next_site p loops ls k ns new s l at there (taken sure is) m = subst (λ z. SitesTo p loops ls (k + 1) z) (sym is) (record {
  sites = λ n. (
    λ c. pick (Contains-append_cases ns (l.site.0 ∷ []) n c)
        (λ z. let w = (m.sites n).0 z in (w.0, omega (arith, w.1)))
        (λ z. (record { place = k; loop = s; judged = l; stands = at; found = there; number = has_only l.site.0 n z; commute = sure.0; constant = sure.1 }, omega arith)),
    λ w. pick (before_or_last w.0.place k w.1)
        (λ h. Contains-append_left ns (l.site.0 ∷ []) n ((m.sites n).1 (w.0, h)))
        (λ e. subst (λ z. Contains (ns ++ l.site.0 ∷ []) z) (loop_here p loops ls k s l n at there w.0 e).1 (Contains-append_right ns (l.site.0 ∷ []) l.site.0 (has_first l.site.0 []))),
  );
})

pub all_sites : (p : PlainProgram) (loops : List Statement) (ls : List JudgedLoop) (k : ℕ) (ns : List ℕ) → length ls ≤ k → SitesTo p loops ls k ns → (n : ℕ) → Contains ns n ↔ CommutingLoop p loops ls n
all_sites p loops ls k ns h m n = (λ c. ((m.sites n).0 c).0, λ w. (m.sites n).1 (w, omega (arith, h, slice_get_within ls w.place w.judged w.found)))

-- the loops of numbers that rise

same_loop : (site : LoopId) → loop_of site.0 ≡ site
same_loop site = refl

pub loops_among : (ns : List ℕ) (site : LoopId) → Contains (map loop_of ns) site ↔ Contains ns site.0
loops_among ns site = (
  λ c. let w = from_map loop_of ns site c in subst (λ z. Contains ns z) (ap (λ (l : LoopId). l.0) w.2) w.1,
  λ c. map_has loop_of ns site.0 c,
)

pub loops_rise : (ns : List ℕ) → IsStrictlyIncreasing ns → Rises LoopBefore (map loop_of ns)
loops_rise ns up = record {
  rises = λ n x y at next.
      let h : suc n < length ns = omega (arith, slice_get_within (map loop_of ns) (suc n) y next, length-map ns loop_of) in
      let a : get_or ns n 0 ≡ x.0 = ap (λ (l : LoopId). l.0) (sym (get_or-map loop_of ns n 0 x (omega (arith, h))) ∙ get_or_from_slice_get (map loop_of ns) n x x at) in
      let b : get_or ns (suc n) 0 ≡ y.0 = ap (λ (l : LoopId). l.0) (sym (get_or-map loop_of ns (suc n) 0 y h) ∙ get_or_from_slice_get (map loop_of ns) (suc n) y y next) in
      let e : n + 1 ≡ suc n = omega arith in
      let less : get_or ns n 0 < get_or ns (suc n) 0 = subst (λ z. get_or ns n 0 < get_or ns z 0) e (up n (omega (arith, h))) in
      omega (arith, less, a, b);
}

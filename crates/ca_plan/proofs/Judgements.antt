-- Extents that are judged one after another.
use Rattle.std.proofs.Common.{◌≡◌, ◌<◌, ℕ, zero, suc, ◌++◌, List, [], ◌∷◌, Global, Some, length, get_or, refl, sym, ap, ◌∙◌, subst}
use Rattle.std.specs.Prelude.{slice_get}
use Rattle.std.specs.Borrow.{Bor}
use Rattle.std.proofs.lemmas.List.{map-append, length-map}
use Rattle.std.proofs.lemmas.Option.{same_Some, slice_get-map}
use Rattle.std.specs.declared.rc.Rc.{Rc}
use Rattle.ca_program.specs.declared.program.Stmt.{Stmt}
use Rattle.ca_program.specs.Plain.{PlainProgram, Statement}
use Rattle.ca_program.specs.View.{statement_view}
use Rattle.ca_model.proofs.Stores.{found}
use Rattle.ca_plan.specs.clauses.Loops.{seen}
use Rattle.ca_plan.specs.Plans.{Judged, JudgedLoop, IsJudgedLoop}
use Rattle.ca_plan.specs.Told.{JudgedOp, WhollyTold, shared}

pub none_at : {A : Type 0} (xs : List A) → xs ≡ [] → (n : ℕ) (x : A) → slice_get xs n ≡ Some x → ⊥
none_at [] e n x f = cc
none_at (y ∷ xs) e n x f = cc

pub none_shared : (js : List (Rc Judged Global)) → js ≡ [] → (n : ℕ) (j : Judged) → slice_get (shared js) n ≡ Some j → ⊥
none_shared js e n j f = none_at (shared js) (ap shared e) n j f

-- what holds of each item holds with one more behind them
pub pushed : {A : Type 0} (P : ℕ → A → Type 0) (vs : List A) (v : A) → ((n : ℕ) (w : A) → slice_get vs n ≡ Some w → P n w) → P (length vs) v → (n : ℕ) (w : A) → slice_get (vs ++ v ∷ []) n ≡ Some w → P n w
pushed P [] v each last zero w e = subst (P 0) (same_Some v w e) last
pushed P [] v each last (suc n) w e = absurd cc
pushed P (x ∷ xs) v each last zero w e = each 0 w e
pushed P (x ∷ xs) v each last (suc n) w e = pushed (λ k. P (suc k)) xs v (λ k. each (suc k)) last n w e

abbrev pub AreJudged : PlainProgram → List Judged → Type 0
AreJudged p js = (n : ℕ) (j : Judged) → slice_get js n ≡ Some j → JudgedOp p n j

pub more_ops : (p : PlainProgram) (js new : List (Rc Judged Global)) (r : Rc Judged Global) (k : ℕ) → new ≡ js ++ r ∷ [] → length js ≡ k → AreJudged p (shared js) → JudgedOp p k r.value → AreJudged p (shared new)
more_ops p js new r k is many each last =
    let view : shared new ≡ shared js ++ r.value ∷ [] = ap shared is ∙ map-append (λ (x : Rc Judged Global). x.value) js (r ∷ []) in
    let here : k ≡ length (shared js) = sym (length-map js (λ (x : Rc Judged Global). x.value) ∙ many) in
    subst (λ z. AreJudged p z) (sym view) (pushed (λ n j. JudgedOp p n j) (shared js) r.value each (subst (λ n. JudgedOp p n r.value) here last))

-- the statement at a place
pub seen_at : (loops : List (Bor Stmt)) (n : ℕ) (x : Bor Stmt) → n < length loops → x ≡ get_or loops n x → slice_get (seen loops) n ≡ Some (statement_view x.now)
seen_at loops n x h is = slice_get-map (λ (y : Bor Stmt). statement_view y.now) loops n ∙ rw (found loops n x h is) refl

abbrev pub AreJudgedLoops : PlainProgram → List Statement → List JudgedLoop → Type 0
AreJudgedLoops p loops ls = (n : ℕ) (s : Statement) (l : JudgedLoop) → slice_get loops n ≡ Some s → slice_get ls n ≡ Some l → IsJudgedLoop p s l

pub more_loops : (p : PlainProgram) (loops : List Statement) (ls new : List JudgedLoop) (l : JudgedLoop) (k : ℕ) (s : Statement) → new ≡ ls ++ l ∷ [] → length ls ≡ k → slice_get loops k ≡ Some s
    → AreJudgedLoops p loops ls → IsJudgedLoop p s l → AreJudgedLoops p loops new
more_loops p loops ls new l k s is many stands each last = λ n t w e f.
    pushed (λ m v. (u : Statement) → slice_get loops m ≡ Some u → IsJudgedLoop p u v) ls l (λ m v g u h. each m u v h g)
    (λ u h. subst (λ z. IsJudgedLoop p z l) (same_Some s u (sym stands ∙ ap (slice_get loops) (sym many) ∙ h)) last)
    n w (subst (λ z. slice_get z n ≡ Some w) is f) t e

abbrev pub LoopsTold : PlainProgram → List JudgedLoop → Type 0
LoopsTold p ls = (n : ℕ) (l : JudgedLoop) → slice_get ls n ≡ Some l → WhollyTold p l.judged

pub more_told : (p : PlainProgram) (ls new : List JudgedLoop) (l : JudgedLoop) → new ≡ ls ++ l ∷ [] → LoopsTold p ls → WhollyTold p l.judged → LoopsTold p new
more_told p ls new l is each last = subst (λ z. LoopsTold p z) (sym is) (pushed (λ n v. WhollyTold p v.judged) ls l each last)

-- Verdicts that hold in each extent in which both operations can be executed, and what is known of the operations of one.
use Rattle.std.proofs.Common.{◌≡◌, ℕ, zero, suc, List, [], ◌∷◌, ◌++◌, Option, Some, None, Result, Ok, Err, IfOk, slice_get, slice_set, sym, ap₂, subst}
use Rattle.std.specs.Option.{option_or}
use Rattle.ca_program.specs.declared.program.FieldId.{FieldId}
use Rattle.ca_program.specs.declared.program.OpId.{OpId}
use Rattle.ca_program.specs.Plain.{PlainProgram}
use Rattle.ca_meaning.specs.Commuting.{Commutes as DoCommute}
use Rattle.ca_parallel.specs.Extents.{Extent}
use Rattle.ca_parallel.specs.Separable.{Separable}
use Rattle.ca_symbolic.specs.Runs.{first_other_loop}
use Rattle.ca_verdicts.specs.Analysed.{Analysed}
use Rattle.ca_section.specs.declared.offence.Why.{Why}
use Rattle.ca_verdicts.specs.declared.verdicts.Reason.{Reason}
use Rattle.ca_verdicts.specs.declared.verdicts.Reason.TheVariants.{NotSeparable}
use Rattle.ca_verdicts.specs.declared.verdicts.Verdict.{Verdict}
use Rattle.ca_verdicts.specs.declared.verdicts.Verdict.TheVariants.{Commutes, Unproved}
use Rattle.ca_verdicts.specs.Verdicts.{BothSeparable, loop_of_both, CanExecute, OffenceTold, VerdictOf}
use Rattle.ca_verdicts.proofs.Offending.{told_verdict, not_commutes}
use Rattle.ca_plan.specs.clauses.Keeping.{AreSeen, Fits, IsOn}
use Rattle.ca_plan.specs.Pairs.{Pair}
use Rattle.ca_plan.specs.Plans.{PairVerdict, op_at}
use Rattle.ca_plan.specs.Told.{PairTold}

-- Verdicts

abbrev pub verdict_on : OpId → OpId → Verdict → PairVerdict
verdict_on a b v = record { a = a; b = b; verdict = v }

pub on_two : (a b : OpId) (v : PairVerdict) → v.a.0 ≡ a.0 → v.b.0 ≡ b.0 → IsOn a b v
on_two a b v e f = λ i. record { a = record { 0 = e i }; b = record { 0 = f i } }

pub fits_where : (p : PlainProgram) (a b : OpId) (v : Verdict) → ((written : List FieldId) → CanExecute p written a b → VerdictOf p written a b v)
    → ((x : Extent) → Analysed p x a b → CanExecute p x.written a b → v ≡ Commutes → DoCommute p x.written a b) → Fits p (verdict_on a b v)
fits_where p a b v exact sound = λ x both. record { exact = exact x.written both; sound = λ q is. sound x q both is }

-- one that fits is told in an extent in which both can be executed
pub told_there : {E : Type 0} (p : PlainProgram) (x : Extent) (a b : OpId) (r : Result PairVerdict E) → CanExecute p x.written a b → IfOk r (IsOn a b) → IfOk r (Fits p) → IfOk r (PairTold p x)
told_there p x a b (Ok v) both these fits = fits x (subst (λ (q : Pair). CanExecute p x.written q.a q.b) (sym these) both)
told_there p x a b (Err e) both these fits = tt

-- an offence is told
pub told_offence : (p : PlainProgram) (x : Extent) (a b : OpId) (r : Reason) → OffenceTold p x.written a b r → PairTold p x (verdict_on a b (Unproved r))
told_offence p x a b r t = record { exact = told_verdict p x.written a b r t; sound = λ q is. absurd (not_commutes r is) }

-- offences that are compared part by part
pub one_offence : (op other : OpId) (line at : ℕ) (why what : Why) → op ≡ other → line ≡ at → why ≡ what → NotSeparable op line why ≡ NotSeparable other at what
one_offence op other line at why what e f g = λ i. NotSeparable (e i) (f i) (g i)

-- Lines

none_at : (seen : List (Option (Option ℕ))) (n : ℕ) (line : Option ℕ) → seen ≡ [] → slice_get seen n ≡ Some (Some line) → ⊥
none_at [] n line e is = cc
none_at (x ∷ xs) n line e is = cc

pub none_seen : (p : PlainProgram) (written : List FieldId) (seen : List (Option (Option ℕ))) → seen ≡ [] → AreSeen p written seen
none_seen p written seen e = λ n line is. absurd (none_at seen n line e is)

not_last : (xs : List (Option (Option ℕ))) (n : ℕ) (line : Option ℕ) → slice_get (xs ++ None ∷ []) n ≡ Some (Some line) → slice_get xs n ≡ Some (Some line)
not_last [] zero line is = absurd cc
not_last [] (suc n) line is = absurd cc
not_last (x ∷ xs) zero line is = is
not_last (x ∷ xs) (suc n) line is = not_last xs n line is

-- one more of which nothing is known
pub none_more : (p : PlainProgram) (written : List FieldId) (seen new : List (Option (Option ℕ))) → new ≡ seen ++ None ∷ [] → AreSeen p written seen → AreSeen p written new
none_more p written seen new e all = λ n line is. all n line (not_last seen n line (subst (λ (xs : List (Option (Option ℕ))). slice_get xs n ≡ Some (Some line)) e is))

same_line : (x line : Option ℕ) → Some (Some x) ≡ Some (Some line) → x ≡ line
same_line x line e = cc

one_noted : (Q : ℕ → Option ℕ → Type 0) (seen : List (Option (Option ℕ))) (k : ℕ) (x : Option ℕ) → ((n : ℕ) (line : Option ℕ) → slice_get seen n ≡ Some (Some line) → Q n line) → Q k x →
    (n : ℕ) (line : Option ℕ) → slice_get (slice_set seen k (Some x)) n ≡ Some (Some line) → Q n line
one_noted Q [] k x each here n line is = each n line is
one_noted Q (y ∷ ys) zero x each here zero line is = subst (Q 0) (same_line x line is) here
one_noted Q (y ∷ ys) zero x each here (suc n) line is = each (suc n) line is
one_noted Q (y ∷ ys) (suc k) x each here zero line is = each 0 line is
one_noted Q (y ∷ ys) (suc k) x each here (suc n) line is = one_noted (λ m. Q (suc m)) ys k x (λ m. each (suc m)) here n line is

pub one_more_seen : (p : PlainProgram) (written : List FieldId) (seen new : List (Option (Option ℕ))) (op : OpId) (x : Option ℕ) → new ≡ slice_set seen op.0 (Some x) → Separable p written op → first_other_loop p written op ≡ x → AreSeen p written seen → AreSeen p written new
one_more_seen p written seen new op x is separable line all = λ n y there.
    one_noted (λ m z. Separable p written (op_at m) × (first_other_loop p written (op_at m) ≡ z)) seen op.0 x all (separable, line) n y (subst (λ (xs : List (Option (Option ℕ))). slice_get xs n ≡ Some (Some y)) is there)

-- both are known
pub both_seen : (p : PlainProgram) (written : List FieldId) (seen : List (Option (Option ℕ))) (a b : OpId) (x y : Option ℕ) → slice_get seen a.0 ≡ Some (Some x) → slice_get seen b.0 ≡ Some (Some y) → AreSeen p written seen →
    BothSeparable p written a b × (loop_of_both p written a b ≡ option_or x y)
both_seen p written seen a b x y e f all =
    let one = all a.0 x e in
    let other = all b.0 y f in
    ((one.0, other.0), ap₂ option_or one.1 other.1)

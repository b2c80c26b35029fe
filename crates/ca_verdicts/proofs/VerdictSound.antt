-- A pair with the verdict Commutes does commute, by the law of symbolic meaning.
use Rattle.std.proofs.Common.{◌≡◌, ◌<◌, ◌^◌, List, length, None, Result, Ok, Err, IfOk, subst}
use Rattle.std.specs.Prelude.{Contains}
use Rattle.ca_program.specs.declared.program.FieldId.{FieldId}
use Rattle.ca_program.specs.declared.program.OpId.{OpId}
use Rattle.ca_program.specs.Plain.{PlainProgram}
use Rattle.ca_meaning.specs.Commuting.{Commutes as DoCommute}
use Rattle.ca_parallel.specs.Bodies.{targets_of_all}
use Rattle.ca_parallel.specs.Extents.{Extent, Invokes, IsExtentOf, Writes, operation_body}
use Rattle.ca_parallel.specs.Separable.{Separable}
use Rattle.ca_verdicts.specs.Analysed.{Analysed}
use Rattle.ca_symbolic.specs.Runs.{first_other_loop}
use Rattle.ca_verdicts.specs.Orders.{first_order, second_order}
use Rattle.ca_verdicts.specs.Verdicts.{VerdictOf}
use Rattle.ca_verdicts.specs.declared.verdicts.Verdict.{Verdict}
use Rattle.ca_verdicts.specs.declared.verdicts.Verdict.TheVariants.{Commutes}
use Rattle.ca_verdicts.proofs.ArrayTerms.{arrays_sorted, arrays_mean}
use Rattle.ca_verdicts.proofs.Sound.{LoopsFound, Fit, no_loop, commute}
use Rattle.ca_verdicts.proofs.SameSlots.{looks_same}
use Rattle.ca_verdicts.proofs.FoundLoops.{loops_found}
use Rattle.ca_verdicts.proofs.RisingLoops.{apart}

-- what an operation of an extent puts is written
puts_written : (p : PlainProgram) (roots : List OpId) (x : Extent) → IsExtentOf p roots x → (op : OpId) → Contains x.ops op → (f : FieldId) → Contains (targets_of_all (operation_body p op)) f → Contains x.written f
puts_written p roots x e op c f t =
    let invoked : Invokes p roots op = (e.ops op).0 c in
    let writes : Writes p roots f = record { op = op; invoked = invoked; target = t } in
    (e.written f).1 writes

pub verdict_commutes : (p : PlainProgram) (x : Extent) (a b : OpId) → Analysed p x a b → VerdictOf p x.written a b Commutes →
    length (first_order p a b).demands < 2 ^ 64 → length (second_order p a b).demands < 2 ^ 64 → DoCommute p x.written a b
verdict_commutes p x a b q v la lb =
    let found : LoopsFound p = loops_found p (apart p q.numbered) in
    let sa : Separable p x.written a = v.0.can.separable.0 in
    let sb : Separable p x.written b = v.0.can.separable.1 in
    let none : (first_other_loop p x.written a ≡ None) × (first_other_loop p x.written b ≡ None) = no_loop _ _ v.0.can.loops in
    let fa : Fit p x q.typed found a = record { puts = puts_written p q.roots x q.extent a q.first; separable = sa; no_loops = none.0; scoped = q.first_scoped } in
    let fb : Fit p x q.typed found b = record { puts = puts_written p q.roots x q.extent b q.second; separable = sb; no_loops = none.1; scoped = q.second_scoped } in
    commute p x q.typed found a b fa fb
    (λ c ia ib. looks_same arrays_sorted arrays_mean p q.typed x.written c a b ia ib sa sb v.1 v.2 la lb)

pub sound_of : {E : Type 0} (p : PlainProgram) (x : Extent) (a b : OpId) → Analysed p x a b → (r : Result Verdict E) → IfOk r (λ v. VerdictOf p x.written a b v) →
    IfOk r (λ v. v ≡ Commutes → (length (first_order p a b).demands < 2 ^ 64) × (length (second_order p a b).demands < 2 ^ 64)) →
    IfOk r (λ v. v ≡ Commutes → DoCommute p x.written a b)
sound_of p x a b q (Ok v) e few = λ is. verdict_commutes p x a b q (subst (VerdictOf p x.written a b) is e) (few is).0 (few is).1
sound_of p x a b q (Err m) e few = tt

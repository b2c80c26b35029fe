-- The counting program is well typed, its operations are separable, and a heap of its objects begins a round.
use Rattle.std.proofs.Common.{◌≡◌, ℕ, zero, suc, ◌<◌, false, List, [], ◌∷◌, Some, refl, ap, subst, arith, pos}
use Rattle.std.specs.Prelude.{slice_get, Contains, FitsSigned}
use Rattle.std.specs.Int.{w64}
use Rattle.std.proofs.lemmas.Int.{ints}
use Rattle.ca_program.specs.declared.program.OpId.{OpId}
use Rattle.ca_program.specs.declared.program.FieldId.{FieldId}
use Rattle.ca_program.specs.declared.program.ValueType.TheVariants.{Long}
use Rattle.ca_program.specs.Plain.{PlainMethod, no_statements}
use Rattle.ca_model.specs.declared.value.Object.{Object}
use Rattle.ca_model.specs.Typed.{IsOfClass, EachTyped, TypedHeap}
use Rattle.ca_model.specs.Heaps.{created}
use Rattle.ca_meaning.specs.Expressions.{invocation}
use Rattle.ca_meaning.specs.Functions.{body_of}
use Rattle.ca_meaning.specs.WellTyped.{WellTyped}
use Rattle.ca_meaning.specs.ProgramTyped.{ProgramTyped, OperationTyped}
use Rattle.ca_parallel.specs.Extents.{Extent, IsExtentOf}
use Rattle.ca_parallel.specs.Separable.{AreSeparated}
use Rattle.ca_order_laws.specs.Order.{StandsFor}
use Rattle.ca_cells.specs.Rounds.{SeparableIn}
use Rattle.ca_counters.specs.Counters.{counter, twice, operation, method, counts, calls_add, counters, start, starts}

fits_one : FitsSigned w64 (pos 1)
fits_one = omega (arith, ints)

fits_zero : FitsSigned w64 (pos 0)
fits_zero = omega (arith, ints)

pub counters_typed : ProgramTyped counters
counters_typed = record { ops = ops; functions = λ n m e. absurd cc; main = tt }
  where
    of : (m q : PlainMethod) → Some q ≡ Some m → OperationTyped counters q → OperationTyped counters m
    of m q e t = subst (λ z. OperationTyped counters z) (let z : q ≡ m = cc in z) t

    ops : (n : ℕ) (m : PlainMethod) → slice_get counters.ops n ≡ Some m → OperationTyped counters m
    ops zero m e = of m (method (counts no_statements)) e (record {
      method = record { class = (_, refl); parameters = omega arith; body = ((Long, (refl, refl), (refl, refl), (refl, (refl, fits_one))), tt) };
      result = refl;
    })
    ops (suc zero) m e = of m (method (counts (calls_add no_statements))) e (record {
      method = record { class = (_, refl); parameters = omega arith; body = ((Long, (refl, refl), (refl, refl), (refl, (refl, fits_one))), ((counter, [], refl, (refl, refl), (counter, refl, refl), refl), tt)) };
      result = refl;
    })
    ops (suc (suc zero)) m e = of m (method (calls_add (calls_add no_statements))) e (record {
      method = record { class = (_, refl); parameters = omega arith; body = ((counter, [], refl, (refl, refl), (counter, refl, refl), refl), ((counter, [], refl, (refl, refl), (counter, refl, refl), refl), tt)) };
      result = refl;
    })
    ops (suc (suc (suc n))) m e = absurd cc

separable_at : (written : List FieldId) (n : ℕ) → AreSeparated counters written false (body_of (slice_get counters.ops n))
separable_at written zero = ((tt, tt), tt)
separable_at written (suc zero) = ((tt, tt), ((tt, tt), tt))
separable_at written (suc (suc zero)) = ((tt, tt), ((tt, tt), tt))
separable_at written (suc (suc (suc n))) = tt

pub all_separable : (roots : List OpId) (x : Extent) → IsExtentOf counters roots x → (op : OpId) → Contains x.ops op → SeparableIn counters x op
all_separable roots x e op inside = record { roots = roots; extent = e; inside = inside; separable = separable_at x.written op.0 }

each_typed : (h : List Object) (n : ℕ) → EachTyped counters h (starts n)
each_typed h zero = tt
each_typed h (suc n) = ((fits_zero, tt), each_typed h n)

pub starts_typed : (n : ℕ) → TypedHeap counters (starts n)
starts_typed n = each_typed (starts n) n

class_at : (n r : ℕ) → r < n → IsOfClass (slice_get (starts n) r) counter
class_at zero r l = absurd (omega arith)
class_at (suc n) zero l = refl
class_at (suc n) (suc r) l = class_at n r (omega arith)

-- each of the three operations
pub call_typed : (n r k : ℕ) → r < n → k < 3 → WellTyped counters (starts n) (invocation r (operation k) [])
call_typed n r zero l b = (class_at n r l, tt)
call_typed n r (suc zero) l b = (class_at n r l, tt)
call_typed n r (suc (suc zero)) l b = (class_at n r l, tt)
call_typed n r (suc (suc (suc k))) l b = absurd (omega (arith, b))

pub twice_typed : (n r : ℕ) → r < n → WellTyped counters (starts n) (invocation r twice [])
twice_typed n r l = (class_at n r l, tt)

pub stands : (x : Extent) (n : ℕ) → StandsFor counters x (starts n) (starts n)
stands x n = record {
  heap = starts_typed n;
  agree = record { as_many = refl; each = λ k o e. record { other = o; there = e; agree = record { class = refl; constants = λ f q no_write. refl } } };
}

pub one_more : (n : ℕ) → created counters counter (starts n) ≡ starts (suc n)
one_more zero = refl
one_more (suc n) = ap (λ (h : List Object). start ∷ h) (one_more n)

-- A worked example of two calls that don't commute: void set(long x) { n = x; } with two arguments.
use Rattle.std.proofs.Common.{◌≡◌, ◌≢◌, ◌<◌, [], ◌∷◌, None, refl, ap, codes, pos, arith}
use Rattle.std.proofs.lemmas.Int.{ints}
use Rattle.std.specs.Prelude.{ℕ, List, FitsSigned}
use Rattle.std.specs.Int.{w64}
use Rattle.ca_tree.specs.declared.tree.AssignOp.TheVariants.{Put}
use Rattle.ca_program.specs.declared.program.ValueType.TheVariants.{Long as LongType}
use Rattle.ca_program.specs.declared.program.ClassId.{ClassId}
use Rattle.ca_program.specs.declared.program.FieldId.{FieldId}
use Rattle.ca_program.specs.declared.program.OpId.{OpId}
use Rattle.ca_program.specs.Plain.{PlainProgram, local, put_field, no_statements, statement_and}
use Rattle.ca_model.specs.declared.value.Value.{Value as Datum}
use Rattle.ca_model.specs.declared.value.Value.TheVariants.{Long}
use Rattle.ca_model.specs.declared.value.Slot.{Slot}
use Rattle.ca_model.specs.declared.value.Slot.TheVariants.{One}
use Rattle.ca_model.specs.declared.value.Object.{Object}
use Rattle.ca_meaning.specs.Sections.{Outcome, done, section}
use Rattle.ca_meaning.specs.Commuting.{joined, OrderCompletes, CommutesOn, Commutes}

-- class A { public: long n; void set(long x) { n = x; } };
abbrev pub class_a : ClassId
class_a = record { 0 = 0 }

abbrev pub n : FieldId
n = record { class = class_a; field = 0 }

abbrev set : OpId
set = record { 0 = 0 }

abbrev program : PlainProgram
program = record {
  classes = record { name = codes "A"; fields = record { name = codes "n"; ty = LongType; length = None } ∷ [] } ∷ [];
  ops = record { class = class_a; name = codes "set"; params = 1; body = record { locals = LongType ∷ []; statements = statement_and (put_field 2 n Put (local (record { 0 = 0 }))) no_statements }; result = None } ∷ [];
  functions = [];
  main = record { locals = []; statements = no_statements };
}

abbrev pub with_n : ℕ → Object
with_n x = record { class = class_a; slots = One (Long (pos x)) ∷ [] }

abbrev pub heap : List Object
heap = with_n 0 ∷ []

abbrev given : ℕ → List Datum
given x = Long (pos x) ∷ []

-- what a call leaves
abbrev left : ℕ → Outcome
left x = record { object = with_n x; listed = []; steps = 1 }

in_one_step : (x y : ℕ) → section program heap 0 (with_n x) set (given y) 1 ≡ done (left y)
in_one_step x y = refl

in_order : (x y : ℕ) → OrderCompletes program heap 0 (with_n 0) set (given x) set (given y) (joined (left x) (left y))
in_order x y = (left x, left y, (1, in_one_step 0 x), (1, in_one_step x y), refl)

fits : (x : ℕ) → x < 3 → FitsSigned w64 (pos x)
fits x few = omega (arith, ints)

abbrev n_of : List Slot → ℕ
n_of (One (Long (pos x)) ∷ []) = x
n_of _ = 0

differ : with_n 2 ≢ with_n 1
differ e = let same : 2 ≡ 1 = ap (λ (o : Object). n_of o.slots) e in absurd (omega (arith, same))

set_and_set : ¬ Commutes program (n ∷ []) set set
set_and_set commutes =
    let on : CommutesOn program heap 0 (with_n 0) set (given 1) set (given 2) =
    commutes class_a refl refl heap (((fits 0 (omega arith), tt)), tt) 0 (given 1) (given 2)
    (refl, (fits 1 (omega arith), tt)) (refl, (fits 2 (omega arith), tt)) (with_n 0) (record { class = refl; slots = (fits 0 (omega arith), tt) })
    (record { other = with_n 0; there = refl; agree = record { class = refl; constants = λ f own constant. refl } }) in
    differ ((on.same (joined (left 1) (left 2)) (joined (left 2) (left 1)) (in_order 1 2) (in_order 2 1)).object)

-- The operations of a plain pair are separable and have no loops.
use Rattle.std.proofs.Common.{◌≡◌, ℕ, Bool, true, false, List, refl, sym, ap, ◌∙◌, subst}
use Rattle.std.specs.Prelude.{slice_get, Option, Some, None, Contains}
use Rattle.std.specs.Option.{option_or}
use Rattle.ca_folds.specs.declared.operator.FoldOp.{FoldOp}
use Rattle.ca_folds.specs.declared.operator.FoldOp.TheVariants.{Max, Min, BitAnd, BitOr, BitXor}
use Rattle.ca_program.specs.declared.program.FieldId.{FieldId}
use Rattle.ca_program.specs.declared.program.OpId.{OpId}
use Rattle.ca_program.specs.Plain.{PlainProgram, PlainMethod, Expression, Expressions, no_expressions, expression_and, Statement, Statements}
use Rattle.ca_meaning.specs.Functions.{body_of}
use Rattle.ca_parallel.specs.Separable.{MayStandRight, MayAccess, IsClean, AreClean, holds_call, IsSeparated, AreSeparated, Separable}
use Rattle.ca_norm.specs.Meanings.{binary_of}
use Rattle.ca_symbolic.specs.OtherLoops.{other_loop, other_loop_in}
use Rattle.ca_symbolic.specs.Runs.{params_of, first_other_loop}
use Rattle.ca_plain_laws.specs.PlainPairs.{IsLiteral, a_number, a_truth, a_null, IsAtom, a_literal, the_receiver, a_parameter, a_constant, IsProduct, an_atom, times, IsSum, a_product, plus, AreShortSums, Kind, IsUpdateOf, adds, takes_off, puts_sum, puts_difference, multiplies, puts_product, joins, puts_joined, adds_to_item, puts_item_sum, takes_off_item, puts_item_difference, adds_to_range, puts_literal, AreCalls, no_calls, call_and, AreUpdatesAndCalls, calls, update_and}
use Rattle.ca_plain_laws.proofs.Swept.{sweep_calls, sweep_separated, sweep_no_other}
use Rattle.ca_plain_laws.specs.Laws.{PlainPairsAreSeparable, PlainPairsHaveNoLoops}

any_right_side : (o : FoldOp) (e : Expression) → MayStandRight (binary_of o) e
any_right_side Max e = tt
any_right_side Min e = tt
any_right_side BitAnd e = tt
any_right_side BitOr e = tt
any_right_side BitXor e = tt

module _ (p : PlainProgram) (written : List FieldId) (m : PlainMethod) where
  may_access : (called : Bool) (f : FieldId) → (¬ Contains written f) → MayAccess written called f
  may_access true f h = h
  may_access false f h = tt

  literal_clean : (called : Bool) {e : Expression} → IsLiteral e → IsClean p written called e
  literal_clean called (a_number n) = tt
  literal_clean called (a_truth b) = tt
  literal_clean called a_null = tt

  atom_clean : (called : Bool) {e : Expression} → IsAtom written m e → IsClean p written called e
  atom_clean called (a_literal l) = literal_clean called l
  atom_clean called the_receiver = tt
  atom_clean called (a_parameter l b) = tt
  atom_clean called (a_constant f c) = may_access called f c.1

  product_clean : (called : Bool) {e : Expression} → IsProduct written m e → IsClean p written called e
  product_clean called (an_atom a) = atom_clean called a
  product_clean called (times x y) = (tt, product_clean called x, product_clean called y)

  sum_clean : (called : Bool) {e : Expression} → IsSum written m e → IsClean p written called e
  sum_clean called (a_product x) = product_clean called x
  sum_clean called (plus x y) = (tt, sum_clean called x, sum_clean called y)

  sums_clean : (called : Bool) (es : Expressions) → AreShortSums written m es → AreClean p written called es
  sums_clean called no_expressions h = tt
  sums_clean called (expression_and e es) h = (sum_clean called h.0.0, sums_clean called es h.1)

  update_separated : {f : FieldId} {k : Kind} {x : Statement} → IsUpdateOf written m f k x → IsSeparated p written false x
  update_separated (adds line e h) = (tt, sum_clean false h.0)
  update_separated (takes_off line e h) = (tt, sum_clean false h.0)
  update_separated (puts_sum line e h) = (tt, (tt, tt, sum_clean false h.0))
  update_separated (puts_difference line e h) = (tt, (tt, tt, sum_clean false h.0))
  update_separated (multiplies line e h) = (tt, atom_clean false h)
  update_separated (puts_product line e h) = (tt, (tt, tt, atom_clean false h))
  update_separated (joins line o a e i h) = (tt, sum_clean false h.0)
  update_separated (puts_joined line o e h) = (tt, (any_right_side o e, tt, sum_clean false h.0))
  update_separated (adds_to_item line i e h g) = (tt, sum_clean false h.0, sum_clean false g.0)
  update_separated (puts_item_sum line i e h g) = (tt, sum_clean false h.0, (tt, (tt, sum_clean false h.0), sum_clean false g.0))
  update_separated (takes_off_item line i e h g) = (tt, sum_clean false h.0, sum_clean false g.0)
  update_separated (puts_item_difference line i e h g) = (tt, sum_clean false h.0, (tt, (tt, sum_clean false h.0), sum_clean false g.0))
  update_separated {x = x} (adds_to_range w i e f t d) = sweep_separated p written w x i (atom_clean false f.0) (atom_clean false t.0) (atom_clean false d.0)
  update_separated (puts_literal line e h) = (tt, literal_clean false h)

  calls_nothing : {f : FieldId} {k : Kind} {x : Statement} → IsUpdateOf written m f k x → holds_call x ≡ false
  calls_nothing (adds line e h) = refl
  calls_nothing (takes_off line e h) = refl
  calls_nothing (puts_sum line e h) = refl
  calls_nothing (puts_difference line e h) = refl
  calls_nothing (multiplies line e h) = refl
  calls_nothing (puts_product line e h) = refl
  calls_nothing (joins line o a e i h) = refl
  calls_nothing (puts_joined line o e h) = refl
  calls_nothing (adds_to_item line i e h g) = refl
  calls_nothing (puts_item_sum line i e h g) = refl
  calls_nothing (takes_off_item line i e h g) = refl
  calls_nothing (puts_item_difference line i e h g) = refl
  calls_nothing {x = x} (adds_to_range w i e f t d) = sweep_calls w x i
  calls_nothing (puts_literal line e h) = refl

  calls_separated : (called : Bool) {xs : Statements} → AreCalls written m xs → AreSeparated p written called xs
  calls_separated called no_calls = tt
  calls_separated called (call_and line e op arguments a h c) = ((atom_clean called a, sums_clean called arguments h), calls_separated _ c)

  pub body_separated : (kinds : ℕ → Kind) {xs : Statements} → AreUpdatesAndCalls written m kinds xs → AreSeparated p written false xs
  body_separated kinds (calls c) = calls_separated false c
  body_separated kinds (update_and {x} {xs} f w u d) =
      (update_separated u, subst (λ b. AreSeparated p written b xs) (sym (calls_nothing u)) (body_separated kinds d))

  no_loop : {f : FieldId} {k : Kind} {x : Statement} → IsUpdateOf written m f k x → other_loop m.params written x ≡ None
  no_loop (adds line e h) = refl
  no_loop (takes_off line e h) = refl
  no_loop (puts_sum line e h) = refl
  no_loop (puts_difference line e h) = refl
  no_loop (multiplies line e h) = refl
  no_loop (puts_product line e h) = refl
  no_loop (joins line o a e i h) = refl
  no_loop (puts_joined line o e h) = refl
  no_loop (adds_to_item line i e h g) = refl
  no_loop (puts_item_sum line i e h g) = refl
  no_loop (takes_off_item line i e h g) = refl
  no_loop (puts_item_difference line i e h g) = refl
  no_loop {x = x} (adds_to_range w i e f t d) = sweep_no_other p written m w x i f t d
  no_loop (puts_literal line e h) = refl

  no_loop_in_calls : {xs : Statements} → AreCalls written m xs → other_loop_in m.params written xs ≡ None
  no_loop_in_calls no_calls = refl
  no_loop_in_calls (call_and line e op arguments a h c) = no_loop_in_calls c

  pub no_loop_in : (kinds : ℕ → Kind) {xs : Statements} → AreUpdatesAndCalls written m kinds xs → other_loop_in m.params written xs ≡ None
  no_loop_in kinds (calls c) = no_loop_in_calls c
  no_loop_in kinds (update_and {x} {xs} f w u d) = ap (λ o. option_or o (other_loop_in m.params written xs)) (no_loop u) ∙ no_loop_in kinds d

  -- of the operation
  pub separable : (kinds : ℕ → Kind) (op : OpId) → slice_get p.ops op.0 ≡ Some m → AreUpdatesAndCalls written m kinds m.body.statements → Separable p written op
  separable kinds op e d = subst (λ (o : Option PlainMethod). AreSeparated p written false (body_of o)) (sym e) (body_separated kinds d)

  pub loops : (kinds : ℕ → Kind) (op : OpId) → slice_get p.ops op.0 ≡ Some m → AreUpdatesAndCalls written m kinds m.body.statements → first_other_loop p written op ≡ None
  loops kinds op e d = ap (λ o. other_loop_in (params_of o) written (body_of o)) e ∙ no_loop_in kinds d

pub plain_pairs_are_separable : PlainPairsAreSeparable
plain_pairs_are_separable p written a b h =
    (separable p written h.first h.kinds a h.first_is h.first_plain.body, separable p written h.second h.kinds b h.second_is h.second_plain.body)

pub plain_pairs_have_no_loops : PlainPairsHaveNoLoops
plain_pairs_have_no_loops p written a b h =
    (loops p written h.first h.kinds a h.first_is h.first_plain.body, loops p written h.second h.kinds b h.second_is h.second_plain.body)

-- Where less is written, more loops are sweeps: a body without other loops has none there either.
use Rattle.std.proofs.Common.{◌≡◌, ℕ, Bool, true, false, ◌&&◌, List, [], Option, Some, None, refl, ap, ap₂}
use Rattle.std.specs.Prelude.{if◌then◌else◌}
use Rattle.std.specs.Option.{option_or}
use Rattle.ca_tree.specs.declared.tree.BinaryOp.TheVariants.{Times, Plus}
use Rattle.ca_program.specs.declared.program.FieldId.{FieldId}
use Rattle.ca_program.specs.Plain.{Expression, number, local, own, binary, Statement, Statements, block, put_local, put_field, put_item, new_local, new_field, new_item, invoke, if_else, while_loop, for_loop, return_value, print_value, no_statements, statement_and}
use Rattle.ca_sweep.specs.Sweeps.{PlainSweep, is_product, is_sum}
use Rattle.ca_sweep.specs.Found.{known, sums_known, sweep_form, if_sums, sweep_in}
use Rattle.ca_symbolic.specs.OtherLoops.{is_call_loop, if_no_sweep, other_loop, other_loop_in}
use Rattle.ca_symbolic.specs.Laws.{LoopsAreFewer}
use Rattle.ca_sweep.proofs.Finding.{and_left, and_right}

fewer_product : (i : ℕ) (below : Option ℕ) (written : List FieldId) (e : Expression) → is_product (known i below written) e ≡ true → is_product (known i below []) e ≡ true
fewer_product i below written (number n) h = refl
fewer_product i below written (local x) h = h
fewer_product i below written (own f) h = refl
fewer_product i below written (binary Times a b) h = ap₂ (λ x y. x && y) (fewer_product i below written a (and_left _ _ h)) (fewer_product i below written b (and_right (is_product (known i below written) a) _ h))
fewer_product i below written e h = absurd cc

fewer_sum : (i : ℕ) (below : Option ℕ) (written : List FieldId) (e : Expression) → is_sum (known i below written) e ≡ true → is_sum (known i below []) e ≡ true
fewer_sum i below written (binary Plus a b) h = ap₂ (λ x y. x && y) (fewer_sum i below written a (and_left _ _ h)) (fewer_sum i below written b (and_right (is_sum (known i below written) a) _ h))
fewer_sum i below written (binary op a b) h = fewer_product i below written (binary op a b) h
fewer_sum i below written (number n) h = refl
fewer_sum i below written (local x) h = h
fewer_sum i below written (own f) h = refl
fewer_sum i below written e h = absurd cc

fewer_sums : (s : PlainSweep) (below : Option ℕ) (written : List FieldId) → sums_known s below written ≡ true → sums_known s below [] ≡ true
fewer_sums s below written h =
    let rest = and_right (is_sum (known s.counter.0 below written) s.from) _ h in
    ap₂ (λ a b. a && b) (fewer_sum s.counter.0 below written s.from (and_left _ _ h))
    (ap₂ (λ a b. a && b) (fewer_sum s.counter.0 below written s.to (and_left _ _ rest)) (fewer_sum s.counter.0 below written s.addend (and_right (is_sum (known s.counter.0 below written) s.to) _ rest)))

-- a loop that is passed over is so where nothing is written
passed_if : (below : Option ℕ) (written : List FieldId) (s : PlainSweep) (b : Bool) (line : ℕ) → sums_known s below written ≡ b → if_no_sweep (if b then Some s else None) line ≡ None → if_no_sweep (if_sums below [] (Some s)) line ≡ None
passed_if below written s true line q e = ap (λ b. if_no_sweep (if b then Some s else None) line) (fewer_sums s below written q)
passed_if below written s false line q e = absurd cc

passed : (below : Option ℕ) (written : List FieldId) (o : Option PlainSweep) (line : ℕ) → if_no_sweep (if_sums below written o) line ≡ None → if_no_sweep (if_sums below [] o) line ≡ None
passed below written None line e = e
passed below written (Some s) line e = passed_if below written s (sums_known s below written) line refl e

either : (b : Bool) (n : ℕ) (written : List FieldId) (x : Statement) (line : ℕ) → (if b then None else if_no_sweep (sweep_in n written x) line) ≡ None → (if b then None else if_no_sweep (sweep_in n [] x) line) ≡ None
either true n written x line e = refl
either false n written x line e = passed (Some n) written (sweep_form x) line e

none_left : (a b : Option ℕ) → option_or a b ≡ None → a ≡ None
none_left None b e = refl
none_left (Some n) b e = absurd cc

none_right : (a b : Option ℕ) → option_or a b ≡ None → b ≡ None
none_right None b e = e
none_right (Some n) b e = absurd cc

mutual
  fewer : (n : ℕ) (written : List FieldId) (x : Statement) → other_loop n written x ≡ None → other_loop n [] x ≡ None
  fewer n written (block line xs) e = fewer_in n written xs e
  fewer n written (if_else line c a b) e = ap₂ option_or (fewer n written a (none_left _ _ e)) (fewer n written b (none_right (other_loop n written a) _ e))
  fewer n written (while_loop line c b) e = absurd cc
  fewer n written (for_loop line site part first c next b) e = either (is_call_loop (for_loop line site part first c next b)) n written (for_loop line site part first c next b) line e
  fewer n written (put_local line l op v) e = refl
  fewer n written (put_field line f op v) e = refl
  fewer n written (put_item line f i op v) e = refl
  fewer n written (new_local line l c) e = refl
  fewer n written (new_field line f c) e = refl
  fewer n written (new_item line f i c) e = refl
  fewer n written (invoke line v op arguments) e = refl
  fewer n written (return_value line v) e = refl
  fewer n written (print_value line v) e = refl

  fewer_in : (n : ℕ) (written : List FieldId) (xs : Statements) → other_loop_in n written xs ≡ None → other_loop_in n [] xs ≡ None
  fewer_in n written no_statements e = refl
  fewer_in n written (statement_and x xs) e = ap₂ option_or (fewer n written x (none_left _ _ e)) (fewer_in n written xs (none_right (other_loop n written x) _ e))

pub loops_are_fewer : LoopsAreFewer
loops_are_fewer n written xs e = fewer_in n written xs e

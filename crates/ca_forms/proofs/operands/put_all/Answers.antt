use Rattle.std.proofs.Common.{◌≡◌, ◌++◌, ◌∷◌, [], List, Bool, refl}
use Rattle.ca_folds.specs.Operators.{cancels}
use Rattle.ca_folds.specs.Operands.{merge}
use Rattle.ca_forms.specs.Plain.{PlainScalar}
use Rattle.ca_forms.specs.Compare.{scalar_cmp}
use Rattle.ca_forms.proofs.Exact.{scalars_exact}
use Rattle.ca_forms.proofs.Folding.{nothing}
use Rattle.ca_forms.proofs.Among.{rising_left, rising_put, put_last, none_more}
use Rattle.ca_forms.proofs.operands.put_all.Goals as goal

pub operands-init : goal.operands-init
operands-init c = (c.requires.0, c.requires.1, refl)

pub operands-preserved : goal.operands-preserved
operands-preserved c =
    let b : Bool = cancels c.args.op in
    let xs : List PlainScalar = c.operands.all.items in
    let ys : List PlainScalar = c.operands.rest.items in
    let us : List PlainScalar = c.pop.new.self.items in
    let split : ys ≡ us ++ c.in-Some.operand ∷ [] = c.in-Some.ensures.items in
    let put : c.put_operand.new.items.items ≡ merge b scalar_cmp xs (c.in-Some.operand ∷ []) = c.in_ok-put_operand.ensures in (
      rising_put scalar_cmp scalars_exact b xs c.put_operand.new.items.items c.in-Some.operand c.operands.invariant.0 put,
      rising_left scalar_cmp ys us c.in-Some.operand c.operands.invariant.1 split,
      put_last scalar_cmp scalars_exact b xs ys us c.put_operand.new.items.items _ c.in-Some.operand c.operands.invariant.0 c.operands.invariant.1 split put c.operands.invariant.2,
    )

pub returns : goal.returns
returns c =
    none_more scalar_cmp (cancels c.args.op) c.operands.all.items c.operands.rest.items _ (nothing c.operands.rest.items _ c.in_default.ensures.cases.0 c.operands.rest.ok.0) c.operands.invariant.2

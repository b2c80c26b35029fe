use Rattle.std.proofs.Common.{◌≡◌, List, subst}
use Rattle.std.specs.Prelude.{IfOk}
use Rattle.ca_folds.specs.Operators.{cancels}
use Rattle.ca_folds.proofs.Rising.{merge_turned}
use Rattle.ca_forms.specs.Plain.{PlainScalar}
use Rattle.ca_forms.specs.Compare.{scalar_cmp}
use Rattle.ca_forms.proofs.Exact.{scalars_exact}
use Rattle.ca_forms.proofs.operands.joined_items.Goals as goal

pub put_all-requires : goal.put_all-requires
put_all-requires c = c.requires

pub put_all-requires-then-few_before : goal.put_all-requires-then-few_before
put_all-requires-then-few_before c = (c.requires.1, c.requires.0)

pub returns-then-few_behind : goal.returns-then-few_behind
returns-then-few_behind c = c.put_all.ensures

pub returns-then-few_before : goal.returns-then-few_before
returns-then-few_before c =
    subst (λ (z : List PlainScalar). IfOk c.put_all-then-few_before.result (λ v. v.items ≡ z)) (merge_turned scalar_cmp scalars_exact (cancels c.args.op) c.args.second.items c.args.first.items c.requires.1 c.requires.0) c.put_all-then-few_before.ensures

pub returns : goal.returns
returns c = c.merged.ensures

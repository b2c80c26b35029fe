use Rattle.std.proofs.Common.{sym, ap, ap₂, subst, ◌∙◌}
use Rattle.ca_folds.specs.Operators.{cancels}
use Rattle.ca_folds.specs.Operands.{merge}
use Rattle.ca_folds.proofs.Rising.{Rising, rising_merge}
use Rattle.ca_forms.specs.Compare.{scalar_cmp}
use Rattle.ca_forms.specs.Folds.{items_of}
use Rattle.ca_forms.proofs.Exact.{scalars_exact}
use Rattle.ca_forms.proofs.Made.{items_back}
use Rattle.ca_forms.proofs.operands.joined.Goals as goal

pub joined_items-requires : goal.joined_items-requires
joined_items-requires c = (c.into_items-xs.ensures.rising, c.into_items-ys.ensures.rising)

pub rising-requires : goal.rising-requires
rising-requires c =
    subst (Rising scalar_cmp) (sym c.in_ok-all.ensures) (rising_merge scalar_cmp scalars_exact (cancels c.args.op) c.into_items-xs.result.items c.into_items-ys.result.items c.into_items-xs.ensures.rising c.into_items-ys.ensures.rising)

pub returns : goal.returns
returns c =
    ap items_of c.rising.ensures ∙ items_back c.in_ok-all.all.items ∙ c.in_ok-all.ensures ∙ ap₂ (merge (cancels c.args.op) scalar_cmp) c.into_items-xs.ensures.items c.into_items-ys.ensures.items

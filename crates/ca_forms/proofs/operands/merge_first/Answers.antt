use Rattle.std.proofs.Common.{◌≡◌, ◌-◌, ◌++◌, ◌∷◌, [], List, take, length, arith, reverse, sym, ap, ap₂, ◌∙◌}
use Rattle.ca_folds.specs.Operators.{cancels}
use Rattle.ca_folds.specs.Operands.{merge}
use Rattle.ca_forms.specs.Plain.{PlainScalar}
use Rattle.ca_forms.specs.Compare.{scalar_cmp}
use Rattle.ca_forms.proofs.Told.{on_ok}
use Rattle.ca_forms.proofs.Folding.{split_last, one_more, less_taken, greater_taken, equal_kept, equal_gone}
use Rattle.ca_forms.proofs.operands.merge_first.Goals as goal

pub returns-in-Less : goal.returns-in-Less
returns-in-Less c =
    let xs : List PlainScalar = c.args.first.now.items in
    let ys : List PlainScalar = c.args.second.now.items in
    let us : List PlainScalar = take (length xs - 1) xs in
    let vs : List PlainScalar = take (length ys - 1) ys in
    let e : xs ≡ us ++ c.index.result.now ∷ [] = split_last xs c.len.result c.index.result.now c.requires.0 (c.len.ensures ∙ c.args.first.now.ok.0) c.index.ensures in
    let f : ys ≡ vs ++ c.index-2.result.now ∷ [] = split_last ys c.len-2.result c.index-2.result.now c.requires.1 (c.len-2.ensures ∙ c.args.second.now.ok.0) c.index-2.ensures in
    let r : c.move_last.new.from.items ≡ us = c.move_last.ensures.rest us c.index.result.now e in
    record {
      fewer = omega (arith, one_more xs us c.index.result.now e, ap length r);
      merged = on_ok c.move_last.result _ _ (λ m. ap (λ z. c.move_last.new.all.items ++ merge (cancels c.args.op) scalar_cmp (reverse z) (reverse ys)) r
          ∙ less_taken (cancels c.args.op) scalar_cmp xs ys us vs c.args.all.now.items c.move_last.new.all.items c.index.result.now c.index-2.result.now e f (sym c.compare.ensures ∙ c.in-Less.is) (m us c.index.result.now e)) c.move_last.ensures.moved;
    }

pub returns-in-Greater : goal.returns-in-Greater
returns-in-Greater c =
    let xs : List PlainScalar = c.args.first.now.items in
    let ys : List PlainScalar = c.args.second.now.items in
    let us : List PlainScalar = take (length xs - 1) xs in
    let vs : List PlainScalar = take (length ys - 1) ys in
    let e : xs ≡ us ++ c.index.result.now ∷ [] = split_last xs c.len.result c.index.result.now c.requires.0 (c.len.ensures ∙ c.args.first.now.ok.0) c.index.ensures in
    let f : ys ≡ vs ++ c.index-2.result.now ∷ [] = split_last ys c.len-2.result c.index-2.result.now c.requires.1 (c.len-2.ensures ∙ c.args.second.now.ok.0) c.index-2.ensures in
    let r : c.move_last-in-Greater.new.from.items ≡ vs = c.move_last-in-Greater.ensures.rest vs c.index-2.result.now f in
    record {
      fewer = omega (arith, one_more ys vs c.index-2.result.now f, ap length r);
      merged = on_ok c.move_last-in-Greater.result _ _ (λ m. ap (λ z. c.move_last-in-Greater.new.all.items ++ merge (cancels c.args.op) scalar_cmp (reverse xs) (reverse z)) r
          ∙ greater_taken (cancels c.args.op) scalar_cmp xs ys us vs c.args.all.now.items c.move_last-in-Greater.new.all.items c.index.result.now c.index-2.result.now e f (sym c.compare.ensures ∙ c.in-Greater.is) (m vs c.index-2.result.now f)) c.move_last-in-Greater.ensures.moved;
    }

pub returns-then-cancels : goal.returns-then-cancels
returns-then-cancels c =
    let xs : List PlainScalar = c.args.first.now.items in
    let ys : List PlainScalar = c.args.second.now.items in
    let us : List PlainScalar = take (length xs - 1) xs in
    let vs : List PlainScalar = take (length ys - 1) ys in
    let e : xs ≡ us ++ c.index.result.now ∷ [] = split_last xs c.len.result c.index.result.now c.requires.0 (c.len.ensures ∙ c.args.first.now.ok.0) c.index.ensures in
    let f : ys ≡ vs ++ c.index-2.result.now ∷ [] = split_last ys c.len-2.result c.index-2.result.now c.requires.1 (c.len-2.ensures ∙ c.args.second.now.ok.0) c.index-2.ensures in
    let q : c.drop_last.new.from.items ≡ vs = c.drop_last.ensures vs c.index-2.result.now f in
    let r : c.drop_last-then-cancels.new.from.items ≡ us = c.drop_last-then-cancels.ensures us c.index.result.now e in
    record {
      fewer = omega (arith, one_more xs us c.index.result.now e, one_more ys vs c.index-2.result.now f, ap length r, ap length q);
      merged = ap₂ (λ z w. c.args.all.now.items ++ merge (cancels c.args.op) scalar_cmp (reverse z) (reverse w)) r q
          ∙ equal_gone (cancels c.args.op) scalar_cmp xs ys us vs c.args.all.now.items c.index.result.now c.index-2.result.now (sym c.cancels.ensures ∙ c.if-cancels.true) e f (sym c.compare.ensures ∙ c.in-Equal.is);
    }

pub returns-else-cancels : goal.returns-else-cancels
returns-else-cancels c =
    let xs : List PlainScalar = c.args.first.now.items in
    let ys : List PlainScalar = c.args.second.now.items in
    let us : List PlainScalar = take (length xs - 1) xs in
    let vs : List PlainScalar = take (length ys - 1) ys in
    let e : xs ≡ us ++ c.index.result.now ∷ [] = split_last xs c.len.result c.index.result.now c.requires.0 (c.len.ensures ∙ c.args.first.now.ok.0) c.index.ensures in
    let f : ys ≡ vs ++ c.index-2.result.now ∷ [] = split_last ys c.len-2.result c.index-2.result.now c.requires.1 (c.len-2.ensures ∙ c.args.second.now.ok.0) c.index-2.ensures in
    let q : c.drop_last.new.from.items ≡ vs = c.drop_last.ensures vs c.index-2.result.now f in
    let r : c.move_last-else-cancels.new.from.items ≡ us = c.move_last-else-cancels.ensures.rest us c.index.result.now e in
    record {
      fewer = omega (arith, one_more xs us c.index.result.now e, one_more ys vs c.index-2.result.now f, ap length r, ap length q);
      merged = on_ok c.move_last-else-cancels.result _ _ (λ m. ap₂ (λ z w. c.move_last-else-cancels.new.all.items ++ merge (cancels c.args.op) scalar_cmp (reverse z) (reverse w)) r q
          ∙ equal_kept (cancels c.args.op) scalar_cmp xs ys us vs c.args.all.now.items c.move_last-else-cancels.new.all.items c.index.result.now c.index-2.result.now (sym c.cancels.ensures ∙ c.if-cancels.false) e f (sym c.compare.ensures ∙ c.in-Equal.is) (m us c.index.result.now e)) c.move_last-else-cancels.ensures.moved;
    }

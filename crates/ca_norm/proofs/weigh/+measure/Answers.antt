use Rattle.std.proofs.Common.{◌≡◌, ◌+◌, List, [], ◌∷◌, ◌++◌, map, take, ap, ap₂, sym, ◌∙◌, subst}
use Rattle.ca_norm.specs.Terms.{PlainTerm, result, shape, sort_of, terms_of}
use Rattle.ca_norm.specs.Measures.{Measures, MeasuresAll}
use Rattle.ca_norm.proofs.Shapes.{call_is, shapes_more}
use Rattle.ca_norm.proofs.weigh.+measure.Goals as goal

pub measure_of-returns-in-Add : goal.measure_of-returns-in-Add
measure_of-returns-in-Add t c =
    rw (c.in-Add.is, ← c.deref-in-Add.ensures, ← c.deref-in-Add-2.ensures) (c.sum.ensures (shape c.deref-in-Add.result.now) (shape c.deref-in-Add-2.result.now) c.measure_of-in-Add.ensures c.measure_of-in-Add-2.ensures)

pub measure_of-returns-in-Sub : goal.measure_of-returns-in-Sub
measure_of-returns-in-Sub t c =
    rw (c.in-Sub.is, ← c.deref-in-Sub.ensures, ← c.deref-in-Sub-2.ensures) (c.sum-in-Sub.ensures (shape c.deref-in-Sub.result.now) (shape c.deref-in-Sub-2.result.now) c.measure_of-in-Sub.ensures c.measure_of-in-Sub-2.ensures)

pub measure_of-returns-in-Less : goal.measure_of-returns-in-Less
measure_of-returns-in-Less t c =
    rw (c.in-Less.is, ← c.deref-in-Less.ensures, ← c.deref-in-Less-2.ensures) (c.sum-in-Less.ensures (shape c.deref-in-Less.result.now) (shape c.deref-in-Less-2.result.now) c.measure_of-in-Less.ensures c.measure_of-in-Less-2.ensures)

pub measure_of-returns-in-LessEqual : goal.measure_of-returns-in-LessEqual
measure_of-returns-in-LessEqual t c =
    rw (c.in-LessEqual.is, ← c.deref-in-LessEqual.ensures, ← c.deref-in-LessEqual-2.ensures) (c.sum-in-LessEqual.ensures (shape c.deref-in-LessEqual.result.now) (shape c.deref-in-LessEqual-2.result.now) c.measure_of-in-LessEqual.ensures c.measure_of-in-LessEqual-2.ensures)

pub measure_of-returns-in-Fold : goal.measure_of-returns-in-Fold
measure_of-returns-in-Fold t c =
    rw (c.in-Fold.is, ← c.deref-in-Fold.ensures, ← c.deref-in-Fold-2.ensures) (c.sum-in-Fold.ensures (shape c.deref-in-Fold.result.now) (shape c.deref-in-Fold-2.result.now) c.measure_of-in-Fold.ensures c.measure_of-in-Fold-2.ensures)

pub measure_of-returns-in-Mul : goal.measure_of-returns-in-Mul
measure_of-returns-in-Mul t c =
    rw (c.in-Mul.is, ← c.deref-in-Mul.ensures, ← c.deref-in-Mul-2.ensures) (c.product.ensures (shape c.deref-in-Mul.result.now) (shape c.deref-in-Mul-2.result.now) c.measure_of-in-Mul.ensures c.measure_of-in-Mul-2.ensures)

pub measure_of-returns-in-And : goal.measure_of-returns-in-And
measure_of-returns-in-And t c =
    rw (c.in-And.is, ← c.deref-in-And.ensures, ← c.deref-in-And-2.ensures) (c.product-in-And.ensures (shape c.deref-in-And.result.now) (shape c.deref-in-And-2.result.now) c.measure_of-in-And.ensures c.measure_of-in-And-2.ensures)

pub measure_of-returns-in-Or : goal.measure_of-returns-in-Or
measure_of-returns-in-Or t c =
    rw (c.in-Or.is, ← c.deref-in-Or.ensures, ← c.deref-in-Or-2.ensures) (c.either.ensures (shape c.deref-in-Or.result.now) (shape c.deref-in-Or-2.result.now) c.measure_of-in-Or.ensures c.measure_of-in-Or-2.ensures)

pub measure_of-returns-in-Select : goal.measure_of-returns-in-Select
measure_of-returns-in-Select t c =
    rw (c.in-Select.is, ← c.deref-in-Select.ensures, ← c.deref-in-Select-2.ensures) (c.selection.ensures (shape c.deref-in-Select.result.now) (shape c.deref-in-Select-2.result.now) c.measure_of-in-Select.ensures c.measure_of-in-Select-2.ensures)

pub measure_of-returns-in-ReadAt : goal.measure_of-returns-in-ReadAt
measure_of-returns-in-ReadAt t c =
    rw (c.in-ReadAt.is, ← c.deref-in-ReadAt.ensures, ← c.deref-in-ReadAt-2.ensures) (c.item.ensures c.in-ReadAt.field-0 c.in-ReadAt.field-2 c.in-ReadAt.field-3 (shape c.deref-in-ReadAt.result.now) (shape c.deref-in-ReadAt-2.result.now) c.measure_of-in-ReadAt.ensures c.measure_of-in-ReadAt-2.ensures)

pub measure_of-returns-in-Same : goal.measure_of-returns-in-Same
measure_of-returns-in-Same t c =
    rw (c.in-Same.is, ← c.deref-in-Same.ensures, ← c.deref-in-Same-2.ensures) (c.same.ensures (shape c.deref-in-Same.result.now) (shape c.deref-in-Same-2.result.now) c.measure_of-in-Same.ensures c.measure_of-in-Same-2.ensures (c.sort.ensures ∙ ap (λ t. sort_of (shape t)) (c.deref-in-Same-3.ensures ∙ sym c.deref-in-Same.ensures)))

pub measure_of-returns-in-Result : goal.measure_of-returns-in-Result
measure_of-returns-in-Result t c =
    let object : shape c.deref-in-Result.result.now ≡ shape c.in-Result.p.value = ap shape c.deref-in-Result.ensures in
    let list : map shape c.deref-in-Result-2.result.now ≡ map shape c.in-Result.args.items = ap (map shape) c.deref-in-Result-2.ensures.value in
    let is : result c.in-Result.field-0 c.in-Result.field-1 (shape c.deref-in-Result.result.now) (terms_of (map shape c.deref-in-Result-2.result.now)) ≡ shape c.args.term.now =
    ap₂ (λ x xs. result c.in-Result.field-0 c.in-Result.field-1 x (terms_of xs)) object list ∙ sym (call_is c.in-Result.field-0 c.in-Result.field-1 c.in-Result.p c.in-Result.args) ∙ sym (ap shape c.in-Result.is) in
    subst (λ (x : PlainTerm). Measures c.call.result x) is (c.call.ensures c.in-Result.field-0 c.in-Result.field-1 (shape c.deref-in-Result.result.now) (terms_of (map shape c.deref-in-Result-2.result.now)) c.measure_of-in-Result.ensures c.measure_of_all.ensures)

pub measure_of_all-loop-term-preserved : goal.measure_of_all-loop-term-preserved
measure_of_all-loop-term-preserved t c =
    let x : PlainTerm = shape c.term-item.result in
    let xs : List PlainTerm = map shape (take c.loop-term.term-index c.args.terms.now) in
    let more : map shape (take (c.loop-term.term-index + 1) c.args.terms.now) ≡ xs ++ x ∷ [] = shapes_more c.args.terms.now c.loop-term.term-index c.term-item.result c.term-item.is c.loop-term-test.true in
    subst (λ (ts : List PlainTerm). MeasuresAll c.along-all.result (terms_of ts)) (sym more) (c.along-all.ensures xs x c.loop-term.invariant c.measure_of.ensures)

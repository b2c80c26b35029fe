use Rattle.std.proofs.Common.{◌≡◌, Err, ◌||◌, sym, ap, ap₂, ◌∙◌}
use Rattle.std.proofs.lemmas.Result.{err_from_is_err_and}
use Rattle.std.proofs.lemmas.Bool.{or_right, or_left}
use Rattle.ca_tree.specs.declared.tree.AssignOp.TheVariants.{Mul}
use Rattle.ca_norm.specs.Terms.{PlainTerm, mul, put, select}
use Rattle.ca_shared_terms.specs.declared.errors.ExecutionError.TheVariants.{Memory}
use Rattle.ca_shared_terms.specs.Heavy.{is_heavy}
use Rattle.ca_symbolic.specs.clauses.Refusals.{with_put, refused_put}
use Rattle.ca_symbolic.proofs.Making.{makes_as, fails, memory_is_light}
use Rattle.ca_symbolic.proofs.puts.with_product.Goals as goal

pub returns-in_err-old : goal.returns-in_err-old
returns-in_err-old c =
    let a = c.args in
    let q = err_from_is_err_and c.from_residual.result c.from_residual.ensures.1 in
    let w = fails c.from_residual.result (with_put Mul a.array a.index a.value) (refused_put Mul a.array a.index a.value) q.0 Memory q.1 q.2 (λ told. absurd (memory_is_light told)) in
    record { made = w.made; light = w.light; large = w.large }

pub returns-in_err-item : goal.returns-in_err-item
returns-in_err-item c =
    let a = c.args in
    let q = err_from_is_err_and c.from_residual-in_err-item.result c.from_residual-in_err-item.ensures.1 in
    let old : c.in_ok-old.old ≡ a.array = rw c.in_ok-old.ensures.first at c.share.ensures.same in
    let place : c.in_ok-old.place ≡ a.index = rw c.in_ok-old.ensures.second at c.share-2.ensures.same in
    let w = fails c.from_residual-in_err-item.result (with_put Mul a.array a.index a.value) (refused_put Mul a.array a.index a.value) q.0 c.in_err-item.field-0.0 q.1 q.2
    (λ told. or_left (is_heavy (select a.array a.index)) (is_heavy (mul (select a.array a.index) a.value) || is_heavy (put a.array a.index (mul (select a.array a.index) a.value)))
    (ap₂ (λ (u v : PlainTerm). is_heavy (select u v)) (sym old) (sym place) ∙ c.in_err-item.ensures.large (ap (λ e. Err e) told))) in
    record { made = w.made; light = w.light; large = w.large }

pub returns-in_err-product : goal.returns-in_err-product
returns-in_err-product c =
    let a = c.args in
    let q = err_from_is_err_and c.from_residual-in_err-product.result c.from_residual-in_err-product.ensures.1 in
    let old : c.in_ok-old.old ≡ a.array = rw c.in_ok-old.ensures.first at c.share.ensures.same in
    let place : c.in_ok-old.place ≡ a.index = rw c.in_ok-old.ensures.second at c.share-2.ensures.same in
    let item : c.in_ok-item.item ≡ select a.array a.index = c.in_ok-item.ensures.made ∙ ap₂ select old place in
    let w = fails c.from_residual-in_err-product.result (with_put Mul a.array a.index a.value) (refused_put Mul a.array a.index a.value) q.0 c.in_err-product.field-0.0 q.1 q.2
    (λ told. or_right (is_heavy (select a.array a.index)) (is_heavy (mul (select a.array a.index) a.value) || is_heavy (put a.array a.index (mul (select a.array a.index) a.value)))
    (or_left (is_heavy (mul (select a.array a.index) a.value)) (is_heavy (put a.array a.index (mul (select a.array a.index) a.value)))
    (ap (λ (u : PlainTerm). is_heavy (mul u a.value)) (sym item) ∙ c.in_err-product.ensures.large (ap (λ e. Err e) told)))) in
    record { made = w.made; light = w.light; large = w.large }

pub returns : goal.returns
returns c =
    let a = c.args in
    let old : c.in_ok-old.old ≡ a.array = rw c.in_ok-old.ensures.first at c.share.ensures.same in
    let place : c.in_ok-old.place ≡ a.index = rw c.in_ok-old.ensures.second at c.share-2.ensures.same in
    let item : c.in_ok-item.item ≡ select a.array a.index = c.in_ok-item.ensures.made ∙ ap₂ select old place in
    let product : c.in_ok-product.product ≡ mul (select a.array a.index) a.value = c.in_ok-product.ensures.made ∙ ap (λ (u : PlainTerm). mul u a.value) item in
    let w = makes_as c.with_item.result (put a.array a.index c.in_ok-product.product) (with_put Mul a.array a.index a.value) (is_heavy (put a.array a.index c.in_ok-product.product)) (refused_put Mul a.array a.index a.value)
    (ap (put a.array a.index) product)
    (ap (λ (u : PlainTerm). is_heavy (put a.array a.index u)) product
    ∙ sym (ap (λ b. b || (is_heavy (mul (select a.array a.index) a.value) || is_heavy (put a.array a.index (mul (select a.array a.index) a.value)))) (ap₂ (λ (u v : PlainTerm). is_heavy (select u v)) (sym old) (sym place) ∙ c.in_ok-item.ensures.light)
    ∙ ap (λ b. b || is_heavy (put a.array a.index (mul (select a.array a.index) a.value))) (ap (λ (u : PlainTerm). is_heavy (mul u a.value)) (sym item) ∙ c.in_ok-product.ensures.light)))
    c.with_item.ensures.made c.with_item.ensures.light c.with_item.ensures.large in
    record { made = w.made; light = w.light; large = w.large }

use Rattle.std.proofs.Common.{rules, w64, SFits, ◌≡◌, ◌+◌, false, Err, drop, refl, sym, ap, ◌∙◌}
use Rattle.std.proofs.lemmas.Int.{to_z-of_z}
use Rattle.std.proofs.lemmas.List.{drop_all}
use Rattle.std.proofs.lemmas.Result.{err_from_is_err_and}
use Rattle.ca_lists.proofs.Places.{item_and_rest}
use Rattle.ca_program.specs.Plain.{number, truth, null, this, local, own, expression_and}
use Rattle.ca_program.specs.View.{expression_view, expressions_view, program_view}
use Rattle.ca_norm.specs.Terms as term
use Rattle.ca_shared_terms.specs.declared.errors.ExecutionError.TheVariants.{Large, Memory}
use Rattle.ca_symbolic.specs.declared.evaluate.Begun.{Begun}
use Rattle.ca_symbolic.specs.States.{term_at, receiver}
use Rattle.ca_symbolic.specs.Execution.{divisor}
use Rattle.ca_symbolic.proofs.Flags.{always, again, made_is_light}
use Rattle.ca_symbolic.proofs.Making.{memory_is_light}
use Rattle.ca_symbolic.proofs.Rows.{values_heavy, values_step, values_made, values_demand, values_light}
use Rattle.ca_symbolic.proofs.Valued.{leaf_told, stopped, own_item_first, own_item_told, read_first, read_told, read_item_first, read_item_second, read_item_told, call_first, call_second, call_told, unary_first, unary_told, binary_first, binary_guard, binary_second, binary_told}
use Rattle.ca_symbolic.proofs.Views.{own_item_is, read_is, read_item_is, call_is, unary_is, binary_is}
use Rattle.ca_symbolic.proofs.evaluate.+value.Goals as goal

pub value_of-returns-in-Number : goal.value_of-returns-in-Number
value_of-returns-in-Number t c =
    let a = c.args in
    let x = expression_view a.e.now in
    let n = c.in-Number.n in
    let fits : SFits w64 n = search rules in
    let w = leaf_told (program_view a.program.now) a.state.now a.out.now x c.leaf.result c.number.result (number n) (term.number n) (ap expression_view c.in-Number.is) refl refl c.leaf.ensures.made (rw (to_z-of_z w64 n fits) at c.number.ensures) (always c.number.result (false ≡ false) refl) c.leaf.ensures.small in
    record { made = w.made; demands = w.demands; light = w.light; large = w.large }

pub value_of-returns-in-Truth : goal.value_of-returns-in-Truth
value_of-returns-in-Truth t c =
    let a = c.args in
    let x = expression_view a.e.now in
    let w = leaf_told (program_view a.program.now) a.state.now a.out.now x c.leaf-in-Truth.result c.truth.result (truth c.in-Truth.b) (term.truth c.in-Truth.b) (ap expression_view c.in-Truth.is) refl refl c.leaf-in-Truth.ensures.made c.truth.ensures (always c.truth.result (false ≡ false) refl) c.leaf-in-Truth.ensures.small in
    record { made = w.made; demands = w.demands; light = w.light; large = w.large }

pub value_of-returns-in-Null : goal.value_of-returns-in-Null
value_of-returns-in-Null t c =
    let a = c.args in
    let x = expression_view a.e.now in
    let w = leaf_told (program_view a.program.now) a.state.now a.out.now x c.leaf-in-Null.result c.null.result null term.null (ap expression_view c.in-Null.is) refl refl c.leaf-in-Null.ensures.made c.null.ensures (always c.null.result (false ≡ false) refl) c.leaf-in-Null.ensures.small in
    record { made = w.made; demands = w.demands; light = w.light; large = w.large }

pub value_of-returns-in-This : goal.value_of-returns-in-This
value_of-returns-in-This t c =
    let a = c.args in
    let x = expression_view a.e.now in
    let w = leaf_told (program_view a.program.now) a.state.now a.out.now x c.leaf-in-This.result c.receiver.result this receiver (ap expression_view c.in-This.is) refl refl c.leaf-in-This.ensures.made c.receiver.ensures (always c.receiver.result (false ≡ false) refl) c.leaf-in-This.ensures.small in
    record { made = w.made; demands = w.demands; light = w.light; large = w.large }

pub value_of-returns-in-Local : goal.value_of-returns-in-Local
value_of-returns-in-Local t c =
    let a = c.args in
    let x = expression_view a.e.now in
    let w = leaf_told (program_view a.program.now) a.state.now a.out.now x c.leaf-in-Local.result c.local.result (local c.in-Local.id) (term_at a.state.now.locals c.in-Local.id.0) (ap expression_view c.in-Local.is) refl refl c.leaf-in-Local.ensures.made c.local.ensures.same c.local.ensures.light c.leaf-in-Local.ensures.small in
    record { made = w.made; demands = w.demands; light = w.light; large = w.large }

pub value_of-returns-in-Own : goal.value_of-returns-in-Own
value_of-returns-in-Own t c =
    let a = c.args in
    let x = expression_view a.e.now in
    let w = leaf_told (program_view a.program.now) a.state.now a.out.now x c.leaf-in-Own.result c.field.result (own c.in-Own.id) (term_at a.state.now.fields c.in-Own.id.field) (ap expression_view c.in-Own.is) refl refl c.leaf-in-Own.ensures.made c.field.ensures.same c.field.ensures.light c.leaf-in-Own.ensures.small in
    record { made = w.made; demands = w.demands; light = w.light; large = w.large }

pub value_of-returns-in_err-index-in-OwnItem : goal.value_of-returns-in_err-index-in-OwnItem
value_of-returns-in_err-index-in-OwnItem t c =
    let a = c.args in
    let x = expression_view a.e.now in
    let v = c.in-OwnItem in
    let is = own_item_is a.e.now v.id v.i c.deref.result.now v.is c.deref.ensures in
    let q = err_from_is_err_and c.from_residual.result c.from_residual.ensures.1 in
    let w = stopped (program_view a.program.now) a.state.now a.out.now x c.value_of.new.out c.from_residual.result q.0 c.in_err-index-in-OwnItem.field-0.0 q.1 q.2 (λ told. own_item_first (program_view a.program.now) a.state.now a.out.now x v.id (expression_view c.deref.result.now) is (c.in_err-index-in-OwnItem.ensures.large (ap (λ e. Err e) told))) in
    record { made = w.made; demands = w.demands; light = w.light; large = w.large }

pub value_of-returns-in_ok-index-in-OwnItem : goal.value_of-returns-in_ok-index-in-OwnItem
value_of-returns-in_ok-index-in-OwnItem t c =
    let a = c.args in
    let x = expression_view a.e.now in
    let v = c.in-OwnItem in
    let is = own_item_is a.e.now v.id v.i c.deref.result.now v.is c.deref.ensures in
    let index = c.in_ok-index-in-OwnItem in
    let w = own_item_told (program_view a.program.now) a.state.now a.out.now x v.id (expression_view c.deref.result.now) is
    index.index c.value_of.new.out c.own_item.new.out c.own_item.result index.ensures.made index.ensures.demands index.ensures.light c.own_item.ensures.made c.own_item.ensures.light c.own_item.ensures.large c.own_item.ensures.demands in
    record { made = w.made; demands = w.demands; light = w.light; large = w.large }

pub value_of-returns-in_err-object-in-Read : goal.value_of-returns-in_err-object-in-Read
value_of-returns-in_err-object-in-Read t c =
    let a = c.args in
    let x = expression_view a.e.now in
    let v = c.in-Read in
    let is = read_is a.e.now v.p v.id c.deref-in-Read.result.now v.is c.deref-in-Read.ensures in
    let q = err_from_is_err_and c.from_residual-in_err-object-in-Read.result c.from_residual-in_err-object-in-Read.ensures.1 in
    let w = stopped (program_view a.program.now) a.state.now a.out.now x c.value_of-in-Read.new.out c.from_residual-in_err-object-in-Read.result q.0 c.in_err-object-in-Read.field-0.0 q.1 q.2 (λ told. read_first (program_view a.program.now) a.state.now a.out.now x (expression_view c.deref-in-Read.result.now) v.id is (c.in_err-object-in-Read.ensures.large (ap (λ e. Err e) told))) in
    record { made = w.made; demands = w.demands; light = w.light; large = w.large }

pub value_of-returns-in_ok-object-in-Read : goal.value_of-returns-in_ok-object-in-Read
value_of-returns-in_ok-object-in-Read t c =
    let a = c.args in
    let x = expression_view a.e.now in
    let v = c.in-Read in
    let is = read_is a.e.now v.p v.id c.deref-in-Read.result.now v.is c.deref-in-Read.ensures in
    let object = c.in_ok-object-in-Read in
    let w = read_told (program_view a.program.now) a.state.now a.out.now x (expression_view c.deref-in-Read.result.now) v.id is
    object.object c.value_of-in-Read.new.out c.read.new.out c.read.result object.ensures.made object.ensures.demands object.ensures.light c.read.ensures.made c.read.ensures.light c.read.ensures.large c.read.ensures.demands in
    record { made = w.made; demands = w.demands; light = w.light; large = w.large }

pub value_of-returns-in_err-object-in-ReadItem : goal.value_of-returns-in_err-object-in-ReadItem
value_of-returns-in_err-object-in-ReadItem t c =
    let a = c.args in
    let x = expression_view a.e.now in
    let v = c.in-ReadItem in
    let is = read_item_is a.e.now v.p v.id v.i c.deref-in-ReadItem.result.now v.i.value v.is c.deref-in-ReadItem.ensures refl in
    let q = err_from_is_err_and c.from_residual-in_err-object-in-ReadItem.result c.from_residual-in_err-object-in-ReadItem.ensures.1 in
    let w = stopped (program_view a.program.now) a.state.now a.out.now x c.value_of-in-ReadItem.new.out c.from_residual-in_err-object-in-ReadItem.result q.0 c.in_err-object-in-ReadItem.field-0.0 q.1 q.2 (λ told. read_item_first (program_view a.program.now) a.state.now a.out.now x (expression_view c.deref-in-ReadItem.result.now) v.id (expression_view v.i.value) is (c.in_err-object-in-ReadItem.ensures.large (ap (λ e. Err e) told))) in
    record { made = w.made; demands = w.demands; light = w.light; large = w.large }

pub value_of-returns-in_err-asked-in-ReadItem : goal.value_of-returns-in_err-asked-in-ReadItem
value_of-returns-in_err-asked-in-ReadItem t c =
    let a = c.args in
    let x = expression_view a.e.now in
    let q = err_from_is_err_and c.from_residual-in_err-asked-in-ReadItem.result c.from_residual-in_err-asked-in-ReadItem.ensures.1 in
    let w = stopped (program_view a.program.now) a.state.now a.out.now x c.not_null.new.out c.from_residual-in_err-asked-in-ReadItem.result q.0 c.in_err-asked-in-ReadItem.field-0.0 q.1 q.2 (λ told. absurd (c.in_err-asked-in-ReadItem.ensures.small (ap (λ e. Err e) told))) in
    record { made = w.made; demands = w.demands; light = w.light; large = w.large }

pub value_of-returns-in_err-parts-in-ReadItem : goal.value_of-returns-in_err-parts-in-ReadItem
value_of-returns-in_err-parts-in-ReadItem t c =
    let a = c.args in
    let x = expression_view a.e.now in
    let v = c.in-ReadItem in
    let is = read_item_is a.e.now v.p v.id v.i c.deref-in-ReadItem.result.now c.deref-in-ReadItem-2.result.now v.is c.deref-in-ReadItem.ensures c.deref-in-ReadItem-2.ensures in
    let q = err_from_is_err_and c.from_residual-in_err-parts-in-ReadItem.result c.from_residual-in_err-parts-in-ReadItem.ensures.1 in
    let w = stopped (program_view a.program.now) a.state.now a.out.now x c.value_of-in-ReadItem-2.new.out c.from_residual-in_err-parts-in-ReadItem.result q.0 c.in_err-parts-in-ReadItem.field-0.0 q.1 q.2 (λ told. read_item_second (program_view a.program.now) a.state.now a.out.now x (expression_view c.deref-in-ReadItem.result.now) v.id (expression_view c.deref-in-ReadItem-2.result.now) is
    c.in_ok-object-in-ReadItem.object c.value_of-in-ReadItem.new.out c.not_null.new.out c.in_ok-object-in-ReadItem.ensures.made c.in_ok-object-in-ReadItem.ensures.demands c.in_ok-asked-in-ReadItem.ensures.demands (c.value_of-in-ReadItem-2.ensures.large (c.in_err-parts-in-ReadItem.ensures.large (ap (λ e. Err e) told)))) in
    record { made = w.made; demands = w.demands; light = w.light; large = w.large }

pub value_of-returns-in_ok-parts-in-ReadItem : goal.value_of-returns-in_ok-parts-in-ReadItem
value_of-returns-in_ok-parts-in-ReadItem t c =
    let a = c.args in
    let x = expression_view a.e.now in
    let v = c.in-ReadItem in
    let is = read_item_is a.e.now v.p v.id v.i c.deref-in-ReadItem.result.now c.deref-in-ReadItem-2.result.now v.is c.deref-in-ReadItem.ensures c.deref-in-ReadItem-2.ensures in
    let object = c.in_ok-object-in-ReadItem in
    let asked = c.in_ok-asked-in-ReadItem in
    let parts = c.in_ok-parts-in-ReadItem in
    let inner = c.value_of-in-ReadItem-2 in
    let w = read_item_told (program_view a.program.now) a.state.now a.out.now x (expression_view c.deref-in-ReadItem.result.now) v.id (expression_view c.deref-in-ReadItem-2.result.now) is
    object.object c.value_of-in-ReadItem.new.out c.not_null.new.out object.ensures.made object.ensures.demands asked.ensures.demands
    parts.parts.0 parts.parts.1 inner.new.out c.read_item.new.out c.read_item.result (parts.ensures.value ∙ asked.ensures.same)
    (rw parts.ensures.made at inner.ensures.made) (rw parts.ensures.made at inner.ensures.demands) object.ensures.light (rw parts.ensures.made at inner.ensures.light)
    c.read_item.ensures.made c.read_item.ensures.light c.read_item.ensures.large c.read_item.ensures.demands in
    record { made = w.made; demands = w.demands; light = w.light; large = w.large }

pub value_of-returns-in_err-object-in-Value : goal.value_of-returns-in_err-object-in-Value
value_of-returns-in_err-object-in-Value t c =
    let a = c.args in
    let x = expression_view a.e.now in
    let v = c.in-Value in
    let is = call_is a.e.now v.p v.method v.args c.deref-in-Value.result.now v.args.items v.is c.deref-in-Value.ensures refl in
    let q = err_from_is_err_and c.from_residual-in_err-object-in-Value.result c.from_residual-in_err-object-in-Value.ensures.1 in
    let w = stopped (program_view a.program.now) a.state.now a.out.now x c.value_of-in-Value.new.out c.from_residual-in_err-object-in-Value.result q.0 c.in_err-object-in-Value.field-0.0 q.1 q.2 (λ told. call_first (program_view a.program.now) a.state.now a.out.now x (expression_view c.deref-in-Value.result.now) v.method (expressions_view v.args.items) is (c.in_err-object-in-Value.ensures.large (ap (λ e. Err e) told))) in
    record { made = w.made; demands = w.demands; light = w.light; large = w.large }

pub value_of-returns-in_err-parts-in-Value : goal.value_of-returns-in_err-parts-in-Value
value_of-returns-in_err-parts-in-Value t c =
    let a = c.args in
    let x = expression_view a.e.now in
    let v = c.in-Value in
    let is = call_is a.e.now v.p v.method v.args c.deref-in-Value.result.now c.deref-in-Value-2.result.now v.is c.deref-in-Value.ensures c.deref-in-Value-2.ensures.value in
    let q = err_from_is_err_and c.from_residual-in_err-parts-in-Value.result c.from_residual-in_err-parts-in-Value.ensures.1 in
    let w = stopped (program_view a.program.now) a.state.now a.out.now x c.values_of.new.out c.from_residual-in_err-parts-in-Value.result q.0 c.in_err-parts-in-Value.field-0.0 q.1 q.2 (λ told. call_second (program_view a.program.now) a.state.now a.out.now x (expression_view c.deref-in-Value.result.now) v.method (expressions_view c.deref-in-Value-2.result.now) is
    c.value_of-in-Value.new.out c.in_ok-object-in-Value.ensures.demands (c.values_of.ensures.large (c.in_err-parts-in-Value.ensures.large (ap (λ e. Err e) told)))) in
    record { made = w.made; demands = w.demands; light = w.light; large = w.large }

pub value_of-returns-in_ok-parts-in-Value : goal.value_of-returns-in_ok-parts-in-Value
value_of-returns-in_ok-parts-in-Value t c =
    let a = c.args in
    let x = expression_view a.e.now in
    let v = c.in-Value in
    let is = call_is a.e.now v.p v.method v.args c.deref-in-Value.result.now c.deref-in-Value-2.result.now v.is c.deref-in-Value.ensures c.deref-in-Value-2.ensures.value in
    let object = c.in_ok-object-in-Value in
    let parts = c.in_ok-parts-in-Value in
    let w = call_told (program_view a.program.now) a.state.now a.out.now x (expression_view c.deref-in-Value.result.now) v.method (expressions_view c.deref-in-Value-2.result.now) is
    c.value_of-in-Value.new.out object.ensures.demands parts.parts.0 parts.parts.1.items c.values_of.new.out c.call.new.out c.call.result (parts.ensures.value ∙ object.ensures.made)
    (rw parts.ensures.made at c.values_of.ensures.made) (rw parts.ensures.made at c.values_of.ensures.demands) object.ensures.light (rw parts.ensures.made at c.values_of.ensures.light)
    c.call.ensures.made c.call.ensures.light c.call.ensures.large c.call.ensures.demands in
    record { made = w.made; demands = w.demands; light = w.light; large = w.large }

pub value_of-returns-in_err-value-in-Unary : goal.value_of-returns-in_err-value-in-Unary
value_of-returns-in_err-value-in-Unary t c =
    let a = c.args in
    let x = expression_view a.e.now in
    let v = c.in-Unary in
    let is = unary_is a.e.now v.op v.a c.deref-in-Unary.result.now v.is c.deref-in-Unary.ensures in
    let q = err_from_is_err_and c.from_residual-in_err-value-in-Unary.result c.from_residual-in_err-value-in-Unary.ensures.1 in
    let w = stopped (program_view a.program.now) a.state.now a.out.now x c.value_of-in-Unary.new.out c.from_residual-in_err-value-in-Unary.result q.0 c.in_err-value-in-Unary.field-0.0 q.1 q.2 (λ told. unary_first (program_view a.program.now) a.state.now a.out.now x v.op (expression_view c.deref-in-Unary.result.now) is (c.in_err-value-in-Unary.ensures.large (ap (λ e. Err e) told))) in
    record { made = w.made; demands = w.demands; light = w.light; large = w.large }

pub value_of-returns-in_ok-value-in-Unary : goal.value_of-returns-in_ok-value-in-Unary
value_of-returns-in_ok-value-in-Unary t c =
    let a = c.args in
    let x = expression_view a.e.now in
    let v = c.in-Unary in
    let is = unary_is a.e.now v.op v.a c.deref-in-Unary.result.now v.is c.deref-in-Unary.ensures in
    let value = c.in_ok-value-in-Unary in
    let w = unary_told (program_view a.program.now) a.state.now a.out.now x v.op (expression_view c.deref-in-Unary.result.now) is
    value.value c.value_of-in-Unary.new.out c.signed.result value.ensures.made value.ensures.demands value.ensures.light c.signed.ensures.made c.signed.ensures.light c.signed.ensures.large in
    record { made = w.made; demands = w.demands; light = w.light; large = w.large }

pub value_of-returns-in_err-left-in-Binary : goal.value_of-returns-in_err-left-in-Binary
value_of-returns-in_err-left-in-Binary t c =
    let a = c.args in
    let x = expression_view a.e.now in
    let v = c.in-Binary in
    let is = binary_is a.e.now v.op v.a v.b c.deref-in-Binary.result.now v.b.value v.is c.deref-in-Binary.ensures refl in
    let q = err_from_is_err_and c.from_residual-in_err-left-in-Binary.result c.from_residual-in_err-left-in-Binary.ensures.1 in
    let w = stopped (program_view a.program.now) a.state.now a.out.now x c.value_of-in-Binary.new.out c.from_residual-in_err-left-in-Binary.result q.0 c.in_err-left-in-Binary.field-0.0 q.1 q.2 (λ told. binary_first (program_view a.program.now) a.state.now a.out.now x v.op (expression_view c.deref-in-Binary.result.now) (expression_view v.b.value) is (c.in_err-left-in-Binary.ensures.large (ap (λ e. Err e) told))) in
    record { made = w.made; demands = w.demands; light = w.light; large = w.large }

pub value_of-returns-in_err-begun-in-Binary : goal.value_of-returns-in_err-begun-in-Binary
value_of-returns-in_err-begun-in-Binary t c =
    let a = c.args in
    let x = expression_view a.e.now in
    let v = c.in-Binary in
    let is = binary_is a.e.now v.op v.a v.b c.deref-in-Binary.result.now v.b.value v.is c.deref-in-Binary.ensures refl in
    let q = err_from_is_err_and c.from_residual-in_err-begun-in-Binary.result c.from_residual-in_err-begun-in-Binary.ensures.1 in
    let w = stopped (program_view a.program.now) a.state.now a.out.now x c.begin_right.new.out c.from_residual-in_err-begun-in-Binary.result q.0 c.in_err-begun-in-Binary.field-0.0 q.1 q.2 (λ told. binary_guard (program_view a.program.now) a.state.now a.out.now x v.op (expression_view c.deref-in-Binary.result.now) (expression_view v.b.value) is
    c.in_ok-left-in-Binary.left c.value_of-in-Binary.new.out c.in_ok-left-in-Binary.ensures.made c.in_ok-left-in-Binary.ensures.demands (c.in_err-begun-in-Binary.ensures.large (ap (λ e. Err e) told))) in
    record { made = w.made; demands = w.demands; light = w.light; large = w.large }

pub value_of-returns-in_err-sides-in-Binary : goal.value_of-returns-in_err-sides-in-Binary
value_of-returns-in_err-sides-in-Binary t c =
    let a = c.args in
    let x = expression_view a.e.now in
    let v = c.in-Binary in
    let is = binary_is a.e.now v.op v.a v.b c.deref-in-Binary.result.now c.deref-in-Binary-2.result.now v.is c.deref-in-Binary.ensures c.deref-in-Binary-2.ensures in
    let q = err_from_is_err_and c.from_residual-in_err-sides-in-Binary.result c.from_residual-in_err-sides-in-Binary.ensures.1 in
    let w = stopped (program_view a.program.now) a.state.now a.out.now x c.value_of-in-Binary-2.new.out c.from_residual-in_err-sides-in-Binary.result q.0 c.in_err-sides-in-Binary.field-0.0 q.1 q.2 (λ told. binary_second (program_view a.program.now) a.state.now a.out.now x v.op (expression_view c.deref-in-Binary.result.now) (expression_view c.deref-in-Binary-2.result.now) is
    c.in_ok-left-in-Binary.left c.value_of-in-Binary.new.out c.in_ok-left-in-Binary.ensures.made c.in_ok-left-in-Binary.ensures.demands c.begin_right.new.out c.in_ok-begun-in-Binary.ensures.entered (c.value_of-in-Binary-2.ensures.large (c.in_err-sides-in-Binary.ensures.large (ap (λ e. Err e) told)))) in
    record { made = w.made; demands = w.demands; light = w.light; large = w.large }

pub value_of-returns-in_ok-sides-in-Binary : goal.value_of-returns-in_ok-sides-in-Binary
value_of-returns-in_ok-sides-in-Binary t c =
    let a = c.args in
    let x = expression_view a.e.now in
    let v = c.in-Binary in
    let is = binary_is a.e.now v.op v.a v.b c.deref-in-Binary.result.now c.deref-in-Binary-2.result.now v.is c.deref-in-Binary.ensures c.deref-in-Binary-2.ensures in
    let left = c.in_ok-left-in-Binary in
    let begun = c.in_ok-begun-in-Binary in
    let sides = c.in_ok-sides-in-Binary in
    let right = c.value_of-in-Binary-2 in
    let w = binary_told (program_view a.program.now) a.state.now a.out.now x v.op (expression_view c.deref-in-Binary.result.now) (expression_view c.deref-in-Binary-2.result.now) is
    left.left c.value_of-in-Binary.new.out left.ensures.made left.ensures.demands c.begin_right.new.out begun.ensures.entered
    sides.sides.0.left sides.sides.1 sides.sides.0.outer c.divisor.result right.new.out c.end_right.new.out c.end_right.result
    (ap (λ (b : Begun). b.left) sides.ensures.value ∙ begun.ensures.left) (rw sides.ensures.made at right.ensures.made) (ap (λ (b : Begun). b.outer) sides.ensures.value ∙ begun.ensures.outer)
    (c.divisor.ensures ∙ ap (λ b. divisor (expression_view b)) (c.deref-in-Binary-3.ensures ∙ sym c.deref-in-Binary-2.ensures))
    (rw sides.ensures.made at right.ensures.demands) left.ensures.light begun.ensures.light (rw sides.ensures.made at right.ensures.light)
    c.end_right.ensures.made c.end_right.ensures.light c.end_right.ensures.large c.end_right.ensures.ended in
    record { made = w.made; demands = w.demands; light = w.light; large = w.large }

pub values_of-loop-e-preserved : goal.values_of-loop-e-preserved
values_of-loop-e-preserved t c =
    let a = c.args in
    let l = c.loop-e.invariant in
    let rest = expressions_view (drop (c.loop-e.e-index + 1) a.es.now) in
    let opened : expressions_view (drop c.loop-e.e-index a.es.now) ≡ expression_and (expression_view c.e-item.result) rest =
    ap expressions_view (item_and_rest a.es.now c.loop-e.e-index c.e-item.result c.loop-e-test.true c.e-item.is) in
    let value = c.in_ok-value in
    values_step (program_view a.program.now) a.state.now a.out.now c.loop-e.out (expressions_view a.es.now) (expressions_view (drop c.loop-e.e-index a.es.now)) c.loop-e.values.items l.0 l.1 l.2 l.3 (expression_view c.e-item.result) rest opened
    value.value c.push.new.self.items c.value_of.new.out c.in_ok-push.ensures.items value.ensures.made value.ensures.demands value.ensures.light

pub values_of-returns-in_err-value : goal.values_of-returns-in_err-value
values_of-returns-in_err-value t c =
    let a = c.args in
    let l = c.loop-e.invariant in
    let rest = expressions_view (drop (c.loop-e.e-index + 1) a.es.now) in
    let opened : expressions_view (drop c.loop-e.e-index a.es.now) ≡ expression_and (expression_view c.e-item.result) rest =
    ap expressions_view (item_and_rest a.es.now c.loop-e.e-index c.e-item.result c.loop-e-test.true c.e-item.is) in
    let q = err_from_is_err_and c.from_residual.result c.from_residual.ensures.1 in
    record {
      made = rw q.1 tt;
      demands = rw q.1 tt;
      light = rw q.1 tt;
      large = λ told. values_heavy (program_view a.program.now) a.state.now a.out.now c.loop-e.out (expressions_view a.es.now) (expressions_view (drop c.loop-e.e-index a.es.now)) c.loop-e.values.items l.0 l.1 l.2 l.3 (expression_view c.e-item.result) rest opened
          (c.in_err-value.ensures.large (ap (λ e. Err e) (again c.from_residual.result q.0 c.in_err-value.field-0.0 Large q.1 q.2 told)));
    }

pub values_of-returns-in_err-push : goal.values_of-returns-in_err-push
values_of-returns-in_err-push t c =
    let r = c.from_residual-in_err-push in
    let q = err_from_is_err_and r.result r.ensures.1 in
    record {
      made = rw q.1 tt;
      demands = rw q.1 tt;
      light = rw q.1 tt;
      large = λ told. absurd (memory_is_light (again r.result q.0 Memory Large q.1 q.2 told));
    }

pub values_of-returns : goal.values_of-returns
values_of-returns t c =
    let a = c.args in
    let l = c.loop-e.invariant in
    let ended = ap expressions_view (drop_all c.loop-e.e-index a.es.now c.loop-e-test.false) in
    record {
      made = values_made (program_view a.program.now) a.state.now a.out.now c.loop-e.out (expressions_view a.es.now) (expressions_view (drop c.loop-e.e-index a.es.now)) c.loop-e.values.items l.0 l.1 l.2 l.3 ended;
      demands = values_demand (program_view a.program.now) a.state.now a.out.now c.loop-e.out (expressions_view a.es.now) (expressions_view (drop c.loop-e.e-index a.es.now)) c.loop-e.values.items l.0 l.1 l.2 l.3 ended;
      light = values_light (program_view a.program.now) a.state.now a.out.now c.loop-e.out (expressions_view a.es.now) (expressions_view (drop c.loop-e.e-index a.es.now)) c.loop-e.values.items l.0 l.1 l.2 l.3 ended;
      large = λ told. absurd (made_is_light told);
    }

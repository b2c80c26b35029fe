-- Statements of a typed program keep the state good and the locals typed, where the parts of their
-- meaning do; and a body that must end with a `return` never goes on.
use Rattle.std.proofs.Common.{ℕ, zero, suc, List, true, false}
use Rattle.std.specs.Prelude.{slice_get}
use Rattle.ca_program.specs.declared.program.ClassId.{ClassId}
use Rattle.ca_program.specs.declared.program.OpId.{OpId}
use Rattle.ca_program.specs.declared.program.ValueType.{ValueType}
use Rattle.ca_program.specs.declared.program.ValueType.TheVariants.{Bool as BoolType, Pointer}
use Rattle.ca_program.specs.Plain.{PlainProgram, Expression, Expressions, Statement, Statements, block, put_local, put_field, put_item, new_local, new_field, new_item, invoke, if_else, while_loop, for_loop, return_value, print_value, no_statements, statement_and}
use Rattle.ca_model.specs.declared.value.Value.{Value as Datum}
use Rattle.ca_model.specs.declared.value.Value.TheVariants.{Long, Bool as Truth, Null, Ref}
use Rattle.ca_model.specs.declared.value.Object.{Object}
use Rattle.ca_model.specs.Typed.{HasType}
use Rattle.ca_meaning.specs.Expressions.{Out, gives, traps, over, value_at, take_step}
use Rattle.ca_meaning.specs.Flows.{Flow, goes_on, gives_back, stops, runs_out, and_on, with, choose, Parts, line_of, turn_of, exec, exec_all, turn}
use Rattle.ca_meaning.specs.WellTyped.{ValuesTyped}
use Rattle.ca_meaning.specs.ProgramTyped.{Scope, IsOperation, ExpressionTyped, ExpressionsTyped, StatementTyped, StatementsTyped, Returns, LastReturns}
use Rattle.ca_meaning_laws.specs.Typed.{Yields, yields, Extends, FlowTyped, goes_on_typed, gives_back_typed, stops_typed, runs_out_typed}
use Rattle.ca_meaning_laws.proofs.Values.{assigned_typed, local_typed, local_set}

module _ {S : Type 0} (heap : S → List Object) (Good : S → Type 0) (s : Scope) where
  pub typed_with : {A : Type 0} (P : A → Type 0) (h : List Object) (o : Out A) (x : S) (g : A → ℕ → Flow S) → Good x → Extends h (heap x) → Yields P o → ((v : A) (k : ℕ) → P v → FlowTyped heap Good s h (g v k)) → FlowTyped heap Good s h (with o x g)
  typed_with P h (gives v k) x g good ext (yields _ _ t) r = r v k t
  typed_with P h (traps t) x g good ext y r = stops_typed t x good ext
  typed_with P h over x g good ext y r = runs_out_typed x good ext

  pub typed_step : (h : List Object) (x : S) (k : ℕ) (g : Unit {0} → ℕ → Flow S) → Good x → Extends h (heap x) → ((j : ℕ) → FlowTyped heap Good s h (g tt j)) → FlowTyped heap Good s h (with (take_step k) x g)
  typed_step h x zero g good ext r = runs_out_typed x good ext
  typed_step h x (suc k) g good ext r = r k

  pub typed_on : (h : List Object) (a : Flow S) (f : List Datum → S → ℕ → Flow S) → FlowTyped heap Good s h a → ((ls : List Datum) (x : S) (k : ℕ) → Good x → Extends h (heap x) → ValuesTyped (heap x) ls s.locals → FlowTyped heap Good s h (f ls x k)) → FlowTyped heap Good s h (and_on a f)
  typed_on h (goes_on ls x k) f (goes_on_typed _ _ _ good ext t) r = r ls x k good ext t
  typed_on h (gives_back v x k) f (gives_back_typed _ _ _ ty good ext e t) r = gives_back_typed v x k ty good ext e t
  typed_on h (stops t x) f (stops_typed _ _ good ext) r = stops_typed t x good ext
  typed_on h (runs_out x) f (runs_out_typed _ good ext) r = runs_out_typed x good ext

  pub typed_choose : (h : List Object) (v : Datum) (a b : Flow S) → FlowTyped heap Good s h a → FlowTyped heap Good s h b → FlowTyped heap Good s h (choose v a b)
  typed_choose h (Truth true) a b x y = x
  typed_choose h (Truth false) a b x y = y
  typed_choose h (Long n) a b x y = y
  typed_choose h (Ref n) a b x y = y
  typed_choose h Null a b x y = y

-- what is so for the parts of a body's meaning
pub record PartsTyped {S : Type 0} (heap : S → List Object) (Good : S → Type 0) (p : PlainProgram) (s : Scope) (parts : Parts S) : Type 0 where
  pub values : (line : ℕ) (ls : List Datum) (x : S) (e : Expression) (ty : ValueType) (k : ℕ) → Good x → ValuesTyped (heap x) ls s.locals → ExpressionTyped p s e ty → Yields (λ v. HasType (heap x) v ty) (parts.value line ls x e k)
  pub acts : (h : List Object) (line : ℕ) (ls : List Datum) (x : S) (y : Statement) (k : ℕ) → Good x → Extends h (heap x) → ValuesTyped (heap x) ls s.locals → StatementTyped p s y → FlowTyped heap Good s h (parts.act line ls x y k)
  pub calls : (h : List Object) (line : ℕ) (ls : List Datum) (x : S) (e : Expression) (op : OpId) (es : Expressions) (k : ℕ) (class : ClassId) (tys : List ValueType) → Good x → Extends h (heap x) → ValuesTyped (heap x) ls s.locals → IsOperation (slice_get p.ops op.0) class tys → ExpressionTyped p s e (Pointer class) → ExpressionsTyped p s es tys → FlowTyped heap Good s h (parts.call line ls x e op es k)
  pub agains : (h : List Object) (line : ℕ) (ls : List Datum) (x : S) (y : Statement) (k : ℕ) → Good x → Extends h (heap x) → ValuesTyped (heap x) ls s.locals → StatementTyped p s y → FlowTyped heap Good s h (parts.again line ls x y k)
  pub begins : (h : List Object) (line : ℕ) (ls : List Datum) (x : S) (y : Statement) (k : ℕ) (a : Flow S) → Good x → Extends h (heap x) → ValuesTyped (heap x) ls s.locals → StatementTyped p s y → FlowTyped heap Good s h a → FlowTyped heap Good s h (parts.begin line ls x y k a)

module _ {S : Type 0} (heap : S → List Object) (Good : S → Type 0) (p : PlainProgram) (s : Scope) (parts : Parts S) (all : PartsTyped heap Good p s parts) (h : List Object) where
  turn_of_typed : (c : Expression) (f : List Datum → S → ℕ → Flow S) (loop : Statement) (line : ℕ) (ls : List Datum) (x : S) (k : ℕ) → Good x → Extends h (heap x) → ValuesTyped (heap x) ls s.locals → ExpressionTyped p s c BoolType → StatementTyped p s loop → ((ls : List Datum) (x : S) (k : ℕ) → Good x → Extends h (heap x) → ValuesTyped (heap x) ls s.locals → FlowTyped heap Good s h (f ls x k)) → FlowTyped heap Good s h (turn_of parts c f loop line ls x k)
  turn_of_typed c f loop line ls x k good ext t tc tl body =
      typed_with heap Good s (λ v. HasType (heap x) v BoolType) h (parts.value line ls x c k) x _ good ext (all.values line ls x c BoolType k good t tc)
      (λ v k1 hv. typed_choose heap Good s h v _ _
      (typed_step heap Good s h x k1 _ good ext (λ j. typed_on heap Good s h (f ls x j) _ (body ls x j good ext t) (λ ls2 x2 k2 good2 ext2 t2. all.agains h line ls2 x2 loop k2 good2 ext2 t2 tl)))
      (goes_on_typed ls x k1 good ext t))

  mutual
    pub exec_typed : (y : Statement) → StatementTyped p s y → (line : ℕ) (ls : List Datum) (x : S) (k : ℕ) → Good x → Extends h (heap x) → ValuesTyped (heap x) ls s.locals → FlowTyped heap Good s h (exec parts line ls x y k)
    exec_typed (block l ss) ty line ls x k good ext t = all_exec_typed ss ty ls x k good ext t
    exec_typed (put_local l i op e) ty line ls x k good ext t =
        typed_with heap Good s (λ v. HasType (heap x) v ty.0) h (parts.value line ls x e k) x _ good ext (all.values line ls x e ty.0 k good t ty.2.1)
        (λ v k1 hv. goes_on_typed _ x k1 good ext (local_set (heap x) ls s.locals i.0 _ ty.0 t ty.1 (assigned_typed (heap x) op (value_at ls i.0) v ty.0 ty.2.0 (local_typed (heap x) ls s.locals i.0 ty.0 t ty.1) hv)))
    exec_typed (if_else l c a b) ty line ls x k good ext t =
        typed_with heap Good s (λ v. HasType (heap x) v BoolType) h (parts.value line ls x c k) x _ good ext (all.values line ls x c BoolType k good t ty.0)
        (λ v k1 hv. typed_choose heap Good s h v _ _ (exec_typed a ty.1 (line_of a) ls x k1 good ext t) (exec_typed b ty.2 (line_of b) ls x k1 good ext t))
    exec_typed (while_loop l c b) ty line ls x k good ext t =
        turn_of_typed c _ (while_loop l c b) line ls x k good ext t ty.0 ty (λ ls x k good ext t. exec_typed b ty.1 (line_of b) ls x k good ext t)
    exec_typed (for_loop l site part first c next b) ty line ls x k good ext t =
        all.begins h line ls x (for_loop l site part first c next b) k _ good ext t ty
        (typed_on heap Good s h (exec parts line ls x first k) _ (exec_typed first ty.0 line ls x k good ext t) (λ ls1 x1 k1 good1 ext1 t1.
        turn_of_typed c _ (for_loop l site part first c next b) line ls1 x1 k1 good1 ext1 t1 ty.1 ty (λ ls x k good ext t.
        typed_on heap Good s h (exec parts (line_of b) ls x b k) _ (exec_typed b ty.3 (line_of b) ls x k good ext t) (λ ls2 x2 k2 good2 ext2 t2. exec_typed next ty.2 line ls2 x2 k2 good2 ext2 t2))))
    exec_typed (return_value l e) ty line ls x k good ext t =
        typed_with heap Good s (λ v. HasType (heap x) v ty.0) h (parts.value line ls x e k) x _ good ext (all.values line ls x e ty.0 k good t ty.2)
        (λ v k1 hv. gives_back_typed v x k1 ty.0 good ext ty.1 hv)
    exec_typed (invoke l e op es) ty line ls x k good ext t = all.calls h line ls x e op es k ty.0 ty.1 good ext t ty.3 ty.4 ty.5
    exec_typed (put_field l f op e) ty line ls x k good ext t = all.acts h line ls x (put_field l f op e) k good ext t ty
    exec_typed (put_item l f i op e) ty line ls x k good ext t = all.acts h line ls x (put_item l f i op e) k good ext t ty
    exec_typed (new_local l i c) ty line ls x k good ext t = all.acts h line ls x (new_local l i c) k good ext t ty
    exec_typed (new_field l f c) ty line ls x k good ext t = all.acts h line ls x (new_field l f c) k good ext t ty
    exec_typed (new_item l f i c) ty line ls x k good ext t = all.acts h line ls x (new_item l f i c) k good ext t ty
    exec_typed (print_value l e) ty line ls x k good ext t = all.acts h line ls x (print_value l e) k good ext t ty

    pub all_exec_typed : (ys : Statements) → StatementsTyped p s ys → (ls : List Datum) (x : S) (k : ℕ) → Good x → Extends h (heap x) → ValuesTyped (heap x) ls s.locals → FlowTyped heap Good s h (exec_all parts ls x ys k)
    all_exec_typed no_statements ty ls x k good ext t = goes_on_typed ls x k good ext t
    all_exec_typed (statement_and y rest) ty ls x k good ext t =
        typed_on heap Good s h (exec parts (line_of y) ls x y k) _ (exec_typed y ty.0 (line_of y) ls x k good ext t) (λ ls1 x1 k1 good1 ext1 t1. all_exec_typed rest ty.1 ls1 x1 k1 good1 ext1 t1)

  pub turn_typed : (y : Statement) → StatementTyped p s y → (line : ℕ) (ls : List Datum) (x : S) (k : ℕ) → Good x → Extends h (heap x) → ValuesTyped (heap x) ls s.locals → FlowTyped heap Good s h (turn parts line ls x y k)
  turn_typed (while_loop l c b) ty line ls x k good ext t =
      turn_of_typed c _ (while_loop l c b) line ls x k good ext t ty.0 ty (λ ls x k good ext t. exec_typed b ty.1 (line_of b) ls x k good ext t)
  turn_typed (for_loop l site part first c next b) ty line ls x k good ext t =
      turn_of_typed c _ (for_loop l site part first c next b) line ls x k good ext t ty.1 ty (λ ls x k good ext t.
      typed_on heap Good s h (exec parts (line_of b) ls x b k) _ (exec_typed b ty.3 (line_of b) ls x k good ext t) (λ ls2 x2 k2 good2 ext2 t2. exec_typed next ty.2 line ls2 x2 k2 good2 ext2 t2))
  turn_typed (block l ss) ty line ls x k good ext t = goes_on_typed ls x k good ext t
  turn_typed (put_local l i op e) ty line ls x k good ext t = goes_on_typed ls x k good ext t
  turn_typed (if_else l c a b) ty line ls x k good ext t = goes_on_typed ls x k good ext t
  turn_typed (return_value l e) ty line ls x k good ext t = goes_on_typed ls x k good ext t
  turn_typed (invoke l e op es) ty line ls x k good ext t = goes_on_typed ls x k good ext t
  turn_typed (put_field l f op e) ty line ls x k good ext t = goes_on_typed ls x k good ext t
  turn_typed (put_item l f i op e) ty line ls x k good ext t = goes_on_typed ls x k good ext t
  turn_typed (new_local l i c) ty line ls x k good ext t = goes_on_typed ls x k good ext t
  turn_typed (new_field l f c) ty line ls x k good ext t = goes_on_typed ls x k good ext t
  turn_typed (new_item l f i c) ty line ls x k good ext t = goes_on_typed ls x k good ext t
  turn_typed (print_value l e) ty line ls x k good ext t = goes_on_typed ls x k good ext t

-- ---- bodies that end with a `return`

abbrev pub Returned : {S : Type 0} → Flow S → Type 0
Returned (goes_on ls x k) = ⊥
Returned (gives_back v x k) = Unit {0}
Returned (stops t x) = Unit {0}
Returned (runs_out x) = Unit {0}

returned_with : {A S : Type 0} (o : Out A) (x : S) (g : A → ℕ → Flow S) → ((v : A) (k : ℕ) → Returned (g v k)) → Returned (with o x g)
returned_with (gives v k) x g r = r v k
returned_with (traps t) x g r = tt
returned_with over x g r = tt

returned_choose : {S : Type 0} (v : Datum) (a b : Flow S) → Returned a → Returned b → Returned (choose v a b)
returned_choose (Truth true) a b x y = x
returned_choose (Truth false) a b x y = y
returned_choose (Long n) a b x y = y
returned_choose (Ref n) a b x y = y
returned_choose Null a b x y = y

returned_first : {S : Type 0} (a : Flow S) (f : List Datum → S → ℕ → Flow S) → Returned a → Returned (and_on a f)
returned_first (goes_on ls x k) f r = absurd r
returned_first (gives_back v x k) f r = tt
returned_first (stops t x) f r = tt
returned_first (runs_out x) f r = tt

returned_next : {S : Type 0} (a : Flow S) (f : List Datum → S → ℕ → Flow S) → ((ls : List Datum) (x : S) (k : ℕ) → Returned (f ls x k)) → Returned (and_on a f)
returned_next (goes_on ls x k) f r = r ls x k
returned_next (gives_back v x k) f r = tt
returned_next (stops t x) f r = tt
returned_next (runs_out x) f r = tt

module _ {S : Type 0} (parts : Parts S) where
  -- the last statement of a list returns
  last_returned : (y : Statement) (rest : Statements) (ls : List Datum) (x : S) (k : ℕ) → LastReturns (statement_and y rest) → (Returns y → Returned (exec parts (line_of y) ls x y k)) → (LastReturns rest → (ls : List Datum) (x : S) (k : ℕ) → Returned (exec_all parts ls x rest k)) → Returned (exec_all parts ls x (statement_and y rest) k)
  last_returned y no_statements ls x k t first next = returned_first (exec parts (line_of y) ls x y k) _ (first t)
  last_returned y (statement_and z rest) ls x k t first next = returned_next (exec parts (line_of y) ls x y k) _ (next t)

  mutual
    exec_returned : (y : Statement) → Returns y → (line : ℕ) (ls : List Datum) (x : S) (k : ℕ) → Returned (exec parts line ls x y k)
    exec_returned (block l ss) t line ls x k = all_returned ss t ls x k
    exec_returned (if_else l c a b) t line ls x k =
        returned_with (parts.value line ls x c k) x _ (λ v k1. returned_choose v _ _ (exec_returned a t.0 (line_of a) ls x k1) (exec_returned b t.1 (line_of b) ls x k1))
    exec_returned (return_value l e) t line ls x k = returned_with (parts.value line ls x e k) x _ (λ v k1. tt)
    exec_returned (put_local l i op e) t line ls x k = absurd t
    exec_returned (while_loop l c b) t line ls x k = absurd t
    exec_returned (for_loop l site part first c next b) t line ls x k = absurd t
    exec_returned (invoke l e op es) t line ls x k = absurd t
    exec_returned (put_field l f op e) t line ls x k = absurd t
    exec_returned (put_item l f i op e) t line ls x k = absurd t
    exec_returned (new_local l i c) t line ls x k = absurd t
    exec_returned (new_field l f c) t line ls x k = absurd t
    exec_returned (new_item l f i c) t line ls x k = absurd t
    exec_returned (print_value l e) t line ls x k = absurd t

    pub all_returned : (ys : Statements) → LastReturns ys → (ls : List Datum) (x : S) (k : ℕ) → Returned (exec_all parts ls x ys k)
    all_returned no_statements t ls x k = absurd t
    all_returned (statement_and y rest) t ls x k = last_returned y rest ls x k t (λ r. exec_returned y r (line_of y) ls x k) (λ r ls1 x1 k1. all_returned rest r ls1 x1 k1)

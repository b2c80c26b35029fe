-- What lists of demands take and list.
use Rattle.std.proofs.Common.{◌≡◌, true, false, List, [], ◌∷◌, ◌++◌, map, Option, Some, None, refl, sym, ap, ap₂, ◌∙◌, append_assoc}
use Rattle.ca_program.specs.Plain.{PlainProgram, Expression, Expressions, this, local, own, own_item, read_item, value_call, unary, binary, no_expressions, expression_and, Statement, Statements, block, put_local, put_field, put_item, new_local, new_field, new_item, invoke, if_else, while_loop, for_loop, return_value, print_value, no_statements, statement_and}
use Rattle.ca_program.specs.Plain as plain
use Rattle.ca_model.specs.declared.value.Value.{Value as Datum}
use Rattle.ca_model.specs.declared.value.Value.TheVariants.{Long, Bool as Truth, Null, Ref}
use Rattle.ca_norm.specs.Terms.{PlainTerm, not}
use Rattle.ca_norm.specs.Meanings.{Valuation, mean}
use Rattle.ca_norm.specs.Environments.{Environment}
use Rattle.ca_symbolic.specs.States.{State, DemandKind, not_null, in_range, calls, PlainDemand, demand}
use Rattle.ca_symbolic.specs.Execution.{term_of, after}
use Rattle.ca_symbolic.specs.Demands.{terms_in, then_guard, demands_in, demands_in_all, demanded_loop, demanded, demanded_all}
use Rattle.ca_program.specs.declared.program.LoopId.{LoopId}
use Rattle.ca_sweep.specs.Sweeps.{PlainSweep}
use Rattle.ca_sweep.specs.Found.{sweep_at}
use Rattle.ca_symbolic_laws.specs.Costs.{plus}
use Rattle.ca_symbolic_laws.specs.Demanded.{kind_cost, kind_lists, if_true, demand_cost, demand_lists, cost, lists}
use Rattle.ca_symbolic_laws.proofs.Budgets.{plus_none, none_plus, plus_assoc}
use Rattle.ca_symbolic_laws.proofs.Operators.{is_true, guard_off, right_off}

if_off : {A : Type 0} (d : Datum) (x y : A) → is_true d ≡ false → if_true d x y ≡ y
if_off (Truth true) x y e = cc
if_off (Truth false) x y e = refl
if_off (Long n) x y e = refl
if_off Null x y e = refl
if_off (Ref n) x y e = refl

if_same : {A : Type 0} (d : Datum) (x : A) → if_true d x x ≡ x
if_same (Truth true) x = refl
if_same (Truth false) x = refl
if_same (Long n) x = refl
if_same Null x = refl
if_same (Ref n) x = refl

nothing : {A : Type 0} (xs ys : List A) → xs ≡ [] → ys ≡ [] → xs ++ ys ≡ []
nothing xs ys e h = rw (e, h) refl

module _ (s : Environment) (v : Valuation) where
  pub cost_append : (ds es : List PlainDemand) → cost s v (ds ++ es) ≡ plus (cost s v ds) (cost s v es)
  cost_append [] es = sym (none_plus (cost s v es))
  cost_append (d ∷ ds) es = ap (plus (demand_cost s v d)) (cost_append ds es) ∙ sym (plus_assoc (demand_cost s v d) (cost s v ds) (cost s v es))

  pub lists_append : (ds es : List PlainDemand) → lists s v (ds ++ es) ≡ lists s v ds ++ lists s v es
  lists_append [] es = refl
  lists_append (d ∷ ds) es = ap (λ z. demand_lists s v d ++ z) (lists_append ds es) ∙ sym (append_assoc (demand_lists s v d) (lists s v ds) (lists s v es))

  -- a demand whose guard is true
  pub asked : (g : PlainTerm) (k : DemandKind) (ts : List PlainTerm) → mean v g ≡ Truth true → demand_cost s v (demand g k ts) ≡ kind_cost s k (map (mean v) ts)
  asked g k ts e = rw e refl

  pub told : (g : PlainTerm) (k : DemandKind) (ts : List PlainTerm) → mean v g ≡ Truth true → demand_lists s v (demand g k ts) ≡ kind_lists s k (map (mean v) ts)
  told g k ts e = rw e refl

  pub one_asked : (g : PlainTerm) (k : DemandKind) (ts : List PlainTerm) → mean v g ≡ Truth true → cost s v (demand g k ts ∷ []) ≡ kind_cost s k (map (mean v) ts)
  one_asked g k ts e = plus_none _ ∙ asked g k ts e

  -- nothing is taken, nothing is listed
  pub record Off (ds : List PlainDemand) : Type 0 where
    pub free : cost s v ds ≡ Some 0
    pub silent : lists s v ds ≡ []

  off_none : Off []
  off_none = record { free = refl; silent = refl }

  pub off_append : (ds es : List PlainDemand) → Off ds → Off es → Off (ds ++ es)
  off_append ds es h k = record { free = cost_append ds es ∙ ap₂ plus h.free k.free; silent = lists_append ds es ∙ nothing _ _ h.silent k.silent }

  off_more : (g : PlainTerm) (k : DemandKind) (ts : List PlainTerm) (ds : List PlainDemand) → is_true (mean v g) ≡ false → Off ds → Off (demand g k ts ∷ ds)
  off_more g k ts ds h o = record {
    free = ap₂ plus (if_off (mean v g) (kind_cost s k (map (mean v) ts)) (Some 0) h) o.free;
    silent = nothing _ _ (if_off (mean v g) (kind_lists s k (map (mean v) ts)) [] h) o.silent;
  }

  module _ (p : PlainProgram) (st : State) where
    mutual
      -- under a guard that isn't true an expression asks for nothing
      pub off_expression : (e : Expression) (g : PlainTerm) → is_true (mean v g) ≡ false → Off (demands_in p st g e)
      off_expression (plain.number n) g h = off_none
      off_expression (plain.truth b) g h = off_none
      off_expression plain.null g h = off_none
      off_expression this g h = off_none
      off_expression (local l) g h = off_none
      off_expression (own f) g h = off_none
      off_expression (own_item f i) g h = off_append (demands_in p st g i) _ (off_expression i g h) (off_more g _ _ [] h off_none)
      off_expression (plain.read e f) g h = off_append (demands_in p st g e) _ (off_expression e g h) (off_more g _ _ [] h off_none)
      off_expression (read_item e f i) g h =
          off_append (demands_in p st g e) _ (off_expression e g h) (off_more g _ _ _ h (off_append (demands_in p st g i) _ (off_expression i g h) (off_more g _ _ [] h off_none)))
      off_expression (value_call e m es) g h =
          off_append (demands_in p st g e) _ (off_expression e g h) (off_append (demands_in_all p st g es) _ (off_expressions es g h) (off_more g _ _ _ h (off_more g _ _ [] h off_none)))
      off_expression (unary op e) g h = off_expression e g h
      off_expression (binary op a b) g h = off_append (demands_in p st g a) _ (off_expression a g h) (off_expression b _ (right_off v op g (term_of p st a) h))

      pub off_expressions : (es : Expressions) (g : PlainTerm) → is_true (mean v g) ≡ false → Off (demands_in_all p st g es)
      off_expressions no_expressions g h = off_none
      off_expressions (expression_and e es) g h = off_append (demands_in p st g e) _ (off_expression e g h) (off_expressions es g h)

    quiet_more : (g : PlainTerm) (k : DemandKind) (ts : List PlainTerm) (ds : List PlainDemand) → kind_lists s k (map (mean v) ts) ≡ [] → lists s v ds ≡ [] → lists s v (demand g k ts ∷ ds) ≡ []
    quiet_more g k ts ds e h = nothing _ _ (ap (λ z. if_true (mean v g) z []) e ∙ if_same (mean v g) []) h

    mutual
      -- an expression lists nothing
      pub quiet : (e : Expression) (g : PlainTerm) → lists s v (demands_in p st g e) ≡ []
      quiet (plain.number n) g = refl
      quiet (plain.truth b) g = refl
      quiet plain.null g = refl
      quiet this g = refl
      quiet (local l) g = refl
      quiet (own f) g = refl
      quiet (own_item f i) g = lists_append (demands_in p st g i) _ ∙ nothing _ _ (quiet i g) (quiet_more g (in_range f) (term_of p st i ∷ []) [] refl refl)
      quiet (plain.read e f) g = lists_append (demands_in p st g e) _ ∙ nothing _ _ (quiet e g) (quiet_more g not_null (term_of p st e ∷ []) [] refl refl)
      quiet (read_item e f i) g =
          let range : List PlainDemand = demand g (in_range f) (term_of p st i ∷ []) ∷ [] in
          lists_append (demands_in p st g e) _ ∙ nothing _ _ (quiet e g)
          (quiet_more g not_null (term_of p st e ∷ []) (demands_in p st g i ++ range) refl (lists_append (demands_in p st g i) range ∙ nothing _ _ (quiet i g) (quiet_more g (in_range f) (term_of p st i ∷ []) [] refl refl)))
      quiet (value_call e m es) g =
          let call : List PlainDemand = demand g (calls m) (term_of p st e ∷ terms_in p st es) ∷ [] in
          let two : List PlainDemand = demand g not_null (term_of p st e ∷ []) ∷ call in
          lists_append (demands_in p st g e) _ ∙ nothing _ _ (quiet e g) (lists_append (demands_in_all p st g es) two ∙ nothing _ _ (quiet_all es g)
          (quiet_more g not_null (term_of p st e ∷ []) call refl (quiet_more g (calls m) (term_of p st e ∷ terms_in p st es) [] refl refl)))
      quiet (unary op e) g = quiet e g
      quiet (binary op a b) g = lists_append (demands_in p st g a) _ ∙ nothing _ _ (quiet a g) (quiet b _)

      pub quiet_all : (es : Expressions) (g : PlainTerm) → lists s v (demands_in_all p st g es) ≡ []
      quiet_all no_expressions g = refl
      quiet_all (expression_and e es) g = lists_append (demands_in p st g e) _ ∙ nothing _ _ (quiet e g) (quiet_all es g)

  off_loop : (p : PlainProgram) (st : State) (g : PlainTerm) (site : LoopId) (x : Statement) (o : Option PlainSweep) → is_true (mean v g) ≡ false → Off (demanded_loop p st g site x o)
  off_loop p st g site x None h = off_more g _ _ [] h off_none
  off_loop p st g site x (Some w) h = off_more g _ _ [] h off_none

  module _ (p : PlainProgram) where
    mutual
      -- nor does a statement under such a guard
      pub off_statement : (st : State) (x : Statement) (g : PlainTerm) → is_true (mean v g) ≡ false → Off (demanded p st g x)
      off_statement st (block line ss) g h = off_statements st ss g h
      off_statement st (put_local line l op e) g h = off_expression p st e g h
      off_statement st (put_field line f op e) g h = off_expression p st e g h
      off_statement st (put_item line f i op e) g h = off_append (demands_in p st g i) _ (off_expression p st i g h) (off_more g _ _ _ h (off_expression p st e g h))
      off_statement st (invoke line e op es) g h =
          off_append (demands_in p st g e) _ (off_expression p st e g h) (off_append (demands_in_all p st g es) _ (off_expressions p st es g h) (off_more g _ _ _ h (off_more g _ _ [] h off_none)))
      off_statement st (if_else line c a b) g h =
          off_append (demands_in p st g c) _ (off_expression p st c g h)
          (off_append (demanded p st (then_guard g (term_of p st c)) a) _ (off_statement st a _ (guard_off (mean v g) (mean v (term_of p st c)) h)) (off_statement st b _ (guard_off (mean v g) (mean v (not (term_of p st c))) h)))
      off_statement st (for_loop line site part first c next b) g h = off_loop p st g site (for_loop line site part first c next b) (sweep_at (for_loop line site part first c next b)) h
      off_statement st (while_loop line c b) g h = off_none
      off_statement st (new_local line l c) g h = off_none
      off_statement st (new_field line f c) g h = off_none
      off_statement st (new_item line f i c) g h = off_none
      off_statement st (return_value line e) g h = off_none
      off_statement st (print_value line e) g h = off_none

      pub off_statements : (st : State) (xs : Statements) (g : PlainTerm) → is_true (mean v g) ≡ false → Off (demanded_all p st g xs)
      off_statements st no_statements g h = off_none
      off_statements st (statement_and x xs) g h = off_append (demanded p st g x) _ (off_statement st x g h) (off_statements (after p st x) xs g h)

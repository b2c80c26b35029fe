-- A section is the same in two heaps that differ in written fields alone.
use Rattle.std.proofs.Common.{◌≡◌, ℕ, zero, suc, List, Option, Some, None, refl, ap, sym, subst, ◌∙◌, false, Bool, ◌||◌}
use Rattle.std.specs.Prelude.{slice_get}
use Rattle.ca_program.specs.declared.program.ClassId.{ClassId}
use Rattle.ca_program.specs.declared.program.FieldId.{FieldId}
use Rattle.ca_program.specs.declared.program.ValueType.{ValueType}
use Rattle.ca_program.specs.declared.program.ValueType.TheVariants.{Long as LongType, Bool as BoolType}
use Rattle.ca_program.specs.Plain.{PlainProgram, PlainMethod, Expression, Statement, Statements, block, put_local, put_field, put_item, new_local, new_field, new_item, invoke, if_else, while_loop, for_loop, return_value, print_value, no_statements, statement_and}
use Rattle.ca_model.specs.declared.value.Value.{Value as Datum}
use Rattle.ca_model.specs.declared.value.Value.TheVariants.{Ref}
use Rattle.ca_model.specs.declared.value.Object.{Object}
use Rattle.ca_model.specs.Typed.{TypedHeap, ObjectTyped}
use Rattle.ca_meaning.specs.Expressions.{take_step, Invocation}
use Rattle.ca_meaning.specs.Flows.{Flow, goes_on, gives_back, stops, runs_out, and_on, Parts, line_of, exec, exec_all, turn}
use Rattle.ca_meaning.specs.Functions.{body_of, locals_of}
use Rattle.ca_meaning.specs.Sections.{Section, section_start, section_item_at, section_value, section_parts_with, section_parts, Again, loops, loops_of, sectioned, section}
use Rattle.ca_meaning.specs.WellTyped.{IsTypedObject}
use Rattle.ca_meaning.specs.WellTyped.{ValuesTyped, CallTyped, WellTyped, IsMethodOf}
use Rattle.ca_meaning.specs.ProgramTyped.{Scope, ExpressionTyped, StatementTyped, StatementsTyped, scope_of, MethodTyped, OperationTyped, ProgramTyped}
use Rattle.ca_meaning_laws.specs.Typed.{FlowTyped, goes_on_typed, IsReceiver, SectionTyped, frozen_heap}
use Rattle.ca_meaning_laws.proofs.Values.{frame_typed}
use Rattle.ca_meaning_laws.proofs.Heaps.{extends_self}
use Rattle.ca_meaning_laws.proofs.Statements.{exec_typed}
use Rattle.ca_meaning_laws.proofs.FunctionTypes.{calls_typed}
use Rattle.ca_meaning_laws.proofs.SectionTypes.{AgainTyped, section_parts_typed, loops_typed}
use Rattle.ca_parallel.specs.Separable.{IsClean, holds_call, IsSeparated, AreSeparated}
use Rattle.ca_order_laws.proofs.Likes.{Like, clean_fine, clean_fine_all, eval_like, due_like}
use Rattle.ca_order_laws.proofs.LikeCalls.{calls_like, with_both, choose_both}

abbrev SectionFlow : PlainProgram → List Object → Scope → Flow Section → Type 0
SectionFlow p h s a = FlowTyped (frozen_heap h) (SectionTyped p h s) s h a

on_both : (p : PlainProgram) (h : List Object) (s : Scope) (a b : Flow Section) (f g : List Datum → Section → ℕ → Flow Section) → SectionFlow p h s a → a ≡ b → ((ls : List Datum) (x : Section) (k : ℕ) → SectionTyped p h s x → ValuesTyped h ls s.locals → f ls x k ≡ g ls x k) → and_on a f ≡ and_on b g
on_both p h s a b f g t e z = from a t ∙ ap (λ o. and_on o g) e
  where
    from : (o : Flow Section) → SectionFlow p h s o → and_on o f ≡ and_on o g
    from (goes_on ls x k) (goes_on_typed _ _ _ good ext v) = z ls x k good v
    from (gives_back v x k) t = refl
    from (stops t x) y = refl
    from (runs_out x) t = refl

module _ (p : PlainProgram) (program : ProgramTyped p) (written : List FieldId) (h g : List Object) (heap : TypedHeap p h) (like : Like written h g) (s : Scope) (r : Datum) (there : IsReceiver h s.class r) where
  abbrev AgainLike : Again → Again → Type 0
  AgainLike a c = (b : Bool) (line : ℕ) (ls : List Datum) (x : Section) (y : Statement) (k : ℕ) → SectionTyped p h s x → ValuesTyped h ls s.locals → StatementTyped p s y → IsSeparated p written b y → a line ls x y k ≡ c line ls x y k

  value_like : (b : Bool) (line : ℕ) (ls : List Datum) (x : Section) → SectionTyped p h s x → ValuesTyped h ls s.locals → (e : Expression) (ty : ValueType) → ExpressionTyped p s e ty → IsClean p written b e → (k : ℕ) → section_value p h r line ls x e k ≡ section_value p g r line ls x e k
  value_like b line ls x good v e ty t c k =
      eval_like p written s b h g r x.own x.own line ls _ _ (calls_typed p program h heap) (calls_like p program written h g heap like) like (record { slots = λ f e m. refl }) (record { heap = heap; this = there; own = good.own; locals = v }) e ty t (clean_fine p written b e c) k

  module _ (a c : Again) (typed : AgainTyped p program h heap s r there a) (both : AgainLike a c) where
    abbrev hp : Parts Section
    hp = section_parts_with p h r a

    abbrev gp : Parts Section
    gp = section_parts_with p g r c

    flows : (y : Statement) → StatementTyped p s y → (line : ℕ) (ls : List Datum) (x : Section) (k : ℕ) → SectionTyped p h s x → ValuesTyped h ls s.locals → SectionFlow p h s (exec hp line ls x y k)
    flows y t line ls x k good v = exec_typed (frozen_heap h) (SectionTyped p h s) p s hp (section_parts_typed p program h heap s r there a typed) h y t line ls x k good (extends_self h) v

    two_flows : (y z : Statement) → StatementTyped p s y → StatementTyped p s z → (line : ℕ) (ls : List Datum) (x : Section) (k : ℕ) → SectionTyped p h s x → ValuesTyped h ls s.locals → SectionFlow p h s (and_on (exec hp (line_of y) ls x y k) (λ ls x k. exec hp line ls x z k))
    two_flows y z t u line ls x k good v = from (exec hp (line_of y) ls x y k) (flows y t (line_of y) ls x k good v)
      where
        from : (o : Flow Section) → SectionFlow p h s o → SectionFlow p h s (and_on o (λ ls x k. exec hp line ls x z k))
        from (goes_on ls x k) (goes_on_typed _ _ _ good ext v) = flows z u line ls x k good v
        from (gives_back v x k) t = t
        from (stops t x) y = y
        from (runs_out x) t = t

    mutual
      exec_like : (y : Statement) (b : Bool) → StatementTyped p s y → IsSeparated p written b y → (line : ℕ) (ls : List Datum) (x : Section) (k : ℕ) → SectionTyped p h s x → ValuesTyped h ls s.locals → exec hp line ls x y k ≡ exec gp line ls x y k
      exec_like (block l ss) b t w line ls x k good v = all_exec_like ss b t w ls x k good v
      exec_like (put_local l i op e) b t w line ls x k good v = with_both _ _ x _ _ (value_like b line ls x good v e t.0 t.2.1 w k) (λ u k. refl)
      exec_like (put_field l f op e) b t w line ls x k good v = with_both _ _ x _ _ (value_like b line ls x good v e t.0 t.3.1 w.1 k) (λ u k. refl)
      exec_like (put_item l f i op e) b t w line ls x k good v =
          with_both _ _ x _ _ (value_like b line ls x good v i LongType t.3 w.1 k) (λ u k. with_both (section_item_at line x f u k) (section_item_at line x f u k) x _ _ refl (λ item k.
          with_both _ _ x _ _ (value_like b line ls x good v e t.0 t.4.1 w.2 k) (λ u k. refl)))
      exec_like (invoke l e op es) b t w line ls x k good v =
          with_both _ _ x _ _ (due_like p written s b h g r x.own x.own line ls _ _ (calls_typed p program h heap) (calls_like p program written h g heap like) like (record { slots = λ f e m. refl }) (record { heap = heap; this = there; own = good.own; locals = v }) e op es t.0 t.1 t.4 t.5 (clean_fine p written b e w.0) (clean_fine_all p written b es w.1) k) (λ i k. refl)
      exec_like (if_else l c y z) b t w line ls x k good v =
          with_both _ _ x _ _ (value_like b line ls x good v c BoolType t.0 w.0 k) (λ u k. choose_both u _ _ _ _ (exec_like y b t.1 w.1 (line_of y) ls x k good v) (exec_like z b t.2 w.2 (line_of z) ls x k good v))
      exec_like (while_loop l c y) b t w line ls x k good v =
          with_both _ _ x _ _ (value_like (b || holds_call y) line ls x good v c BoolType t.0 w.0 k) (λ u k. choose_both u _ _ _ _
          (with_both (take_step k) (take_step k) x _ _ refl (λ _ k. on_both p h s _ _ _ _ (flows y t.1 (line_of y) ls x k good v) (exec_like y (b || holds_call y) t.1 w.1 (line_of y) ls x k good v) (λ ls x k good v. both b line ls x (while_loop l c y) k good v t w))) refl)
      exec_like (for_loop l site part first c next y) b t w line ls x k good v =
          let up : Bool = b || holds_call (for_loop l site part first c next y) in
          on_both p h s _ _ _ _ (flows first t.0 line ls x k good v) (exec_like first up t.0 w.0 line ls x k good v) (λ ls x k good v.
          with_both _ _ x _ _ (value_like up line ls x good v c BoolType t.1 w.1 k) (λ u k. choose_both u _ _ _ _
          (with_both (take_step k) (take_step k) x _ _ refl (λ _ k. on_both p h s _ _ _ _ (two_flows y next t.3 t.2 line ls x k good v)
          (on_both p h s _ _ _ _ (flows y t.3 (line_of y) ls x k good v) (exec_like y up t.3 w.3 (line_of y) ls x k good v) (λ ls x k good v. exec_like next up t.2 w.2 line ls x k good v))
          (λ ls x k good v. both b line ls x (for_loop l site part first c next y) k good v t w))) refl))
      exec_like (return_value l e) b t w line ls x k good v = with_both _ _ x _ _ (value_like b line ls x good v e t.0 t.2 w k) (λ u k. refl)
      exec_like (new_local l i c) b t w line ls x k good v = absurd w
      exec_like (new_field l f c) b t w line ls x k good v = absurd w
      exec_like (new_item l f i c) b t w line ls x k good v = absurd w
      exec_like (print_value l e) b t w line ls x k good v = absurd w

      pub all_exec_like : (ys : Statements) (b : Bool) → StatementsTyped p s ys → AreSeparated p written b ys → (ls : List Datum) (x : Section) (k : ℕ) → SectionTyped p h s x → ValuesTyped h ls s.locals → exec_all hp ls x ys k ≡ exec_all gp ls x ys k
      all_exec_like no_statements b t w ls x k good v = refl
      all_exec_like (statement_and y rest) b t w ls x k good v = on_both p h s _ _ _ _ (flows y t.0 (line_of y) ls x k good v) (exec_like y b t.0 w.0 (line_of y) ls x k good v) (λ ls x k good v. all_exec_like rest (b || holds_call y) t.1 w.1 ls x k good v)

    turn_like : (y : Statement) (b : Bool) → StatementTyped p s y → IsSeparated p written b y → (line : ℕ) (ls : List Datum) (x : Section) (k : ℕ) → SectionTyped p h s x → ValuesTyped h ls s.locals → turn hp line ls x y k ≡ turn gp line ls x y k
    turn_like (while_loop l c y) b t w line ls x k good v = exec_like (while_loop l c y) b t w line ls x k good v
    turn_like (for_loop l site part first c next y) b t w line ls x k good v =
        let up : Bool = b || holds_call (for_loop l site part first c next y) in
        with_both _ _ x _ _ (value_like up line ls x good v c BoolType t.1 w.1 k) (λ u k. choose_both u _ _ _ _
        (with_both (take_step k) (take_step k) x _ _ refl (λ _ k. on_both p h s _ _ _ _ (two_flows y next t.3 t.2 line ls x k good v)
        (on_both p h s _ _ _ _ (flows y t.3 (line_of y) ls x k good v) (exec_like y up t.3 w.3 (line_of y) ls x k good v) (λ ls x k good v. exec_like next up t.2 w.2 line ls x k good v))
        (λ ls x k good v. both b line ls x (for_loop l site part first c next y) k good v t w))) refl)
    turn_like (block l ss) b t w line ls x k good v = refl
    turn_like (put_local l i op e) b t w line ls x k good v = refl
    turn_like (put_field l f op e) b t w line ls x k good v = refl
    turn_like (put_item l f i op e) b t w line ls x k good v = refl
    turn_like (invoke l e op es) b t w line ls x k good v = refl
    turn_like (if_else l c y z) b t w line ls x k good v = refl
    turn_like (return_value l e) b t w line ls x k good v = refl
    turn_like (new_local l i c) b t w line ls x k good v = refl
    turn_like (new_field l f c) b t w line ls x k good v = refl
    turn_like (new_item l f i c) b t w line ls x k good v = refl
    turn_like (print_value l e) b t w line ls x k good v = refl

  loops_like : (n : ℕ) → AgainLike (loops n p h r) (loops n p g r)
  loops_like zero = λ b line ls x y k good v t w. refl
  loops_like (suc n) = λ b line ls x y k good v t w. turn_like (loops n p h r) (loops n p g r) (loops_typed p program h heap s r there n) (loops_like n) y b t w line ls x k good v

  pub sections_like : (ys : Statements) (b : Bool) → StatementsTyped p s ys → AreSeparated p written b ys → (ls : List Datum) (x : Section) (k : ℕ) → SectionTyped p h s x → ValuesTyped h ls s.locals → exec_all (section_parts p h r) ls x ys k ≡ exec_all (section_parts p g r) ls x ys k
  sections_like ys b t w ls x k good v =
      all_exec_like (loops_of p h r) (loops_of p g r) (λ e line ls x y k good ext v t. loops_typed p program h heap s r there (suc k) e line ls x y k good ext v t) (λ b line ls x y k good v t w. loops_like (suc k) b line ls x y k good v t w) ys b t w ls x k good v

body_same : (p : PlainProgram) (program : ProgramTyped p) (written : List FieldId) (h g : List Object) (heap : TypedHeap p h) (like : Like written h g) (n r : ℕ) (o : Object) (vs : List Datum) (k : ℕ) (c : ClassId) (m : Option PlainMethod) → slice_get p.ops n ≡ m → CallTyped h m r vs → IsMethodOf m c → IsTypedObject p h c o → AreSeparated p written false (body_of m)
    → exec_all (section_parts p h (Ref r)) (locals_of m vs) (section_start o.slots) (body_of m) k ≡ exec_all (section_parts p g (Ref r)) (locals_of m vs) (section_start o.slots) (body_of m) k
body_same p program written h g heap like n r o vs k c None e call of_class object w = absurd call
body_same p program written h g heap like n r o vs k c (Some m) e call of_class object w =
    let mt : OperationTyped p m = program.ops n m e in
    let mm : MethodTyped p m = mt.method in
    sections_like p program written h g heap like (scope_of m) (Ref r) call.0 m.body.statements false mm.body w _ _ k
    (record { own = subst (λ z. ObjectTyped h (slice_get p.classes z.0) o.slots) (sym of_class) object.slots; listed = tt })
    (frame_typed h vs m.params m.body.locals call.1)

pub frozen_same : (p : PlainProgram) (program : ProgramTyped p) (written : List FieldId) (h g : List Object) (heap : TypedHeap p h) (like : Like written h g) (i : Invocation) → WellTyped p h i → (c : ClassId) → IsMethodOf (slice_get p.ops i.op.0) c → (o : Object) → IsTypedObject p h c o → AreSeparated p written false (body_of (slice_get p.ops i.op.0)) → (k : ℕ)
    → section p g i.receiver o i.op i.arguments k ≡ section p h i.receiver o i.op i.arguments k
frozen_same p program written h g heap like i well c of_class o object w zero = refl
frozen_same p program written h g heap like i well c of_class o object w (suc k) =
    ap (λ z. sectioned o.class (suc k) z) (sym (body_same p program written h g heap like i.op.0 i.receiver o i.arguments k c (slice_get p.ops i.op.0) refl well of_class object w))

-- A statement that is judged fine is well typed among the locals of its whole body.
use Rattle.std.proofs.Common.{◌≡◌, ℕ, List, [], ◌∷◌, ◌++◌, Bool, true, false, length, refl, sym, subst, ap, ◌∙◌, append_assoc, append-nil, arith}
use Rattle.std.specs.Prelude.{◌⊎◌, Option, Some, None, slice_get, is_some, not, ◌&&◌, pos}
use Rattle.std.specs.Int.{w64}
use Rattle.std.specs.List.{AllByRecursion}
use Rattle.std.proofs.lemmas.Int.{fits_signed_from_abs}
use Rattle.std.proofs.lemmas.Bool.{not-false}
use Rattle.ca_lists.proofs.Places.{all_append}
use Rattle.ca_tree.specs.declared.name.Place.{Place}
use Rattle.ca_tree.specs.declared.tree.TypeNode.{TypeNode}
use Rattle.ca_tree.specs.declared.tree.AssignOp.{AssignOp}
use Rattle.ca_tree.specs.declared.tree.AssignOp.TheVariants.{Put, Add, Sub, Mul, BitAnd, BitOr, BitXor}
use Rattle.ca_tree.specs.Plain.{Expression, RightSide, value, new, index, Statement, Statements, empty, block, local, assign, call_statement, if_only, if_else, while_loop, for_loop, return_value, print_value, no_statements, statement_and}
use Rattle.ca_program.specs.declared.program.OpId.{OpId}
use Rattle.ca_program.specs.declared.program.ValueType.{ValueType}
use Rattle.ca_program.specs.declared.program.ValueType.TheVariants.{Long as LongValue, Bool as TruthValue, Pointer as PointerTo}
use Rattle.ca_program.specs.Plain as program
use Rattle.ca_program.specs.Plain.{PlainProgram}
use Rattle.ca_meaning.specs.ProgramTyped.{Scope as TypesOf, ExpressionTyped, IsScalar, IsArray, IsClass, AssignTyped, StatementTyped, StatementsTyped, field_info}
use Rattle.ca_resolve.specs.declared.codes.TheConstants.{TYPES_DISAGREE, VALUE_METHOD_ACTS, WRONG_RETURN}
use Rattle.ca_resolve.specs.Judged.{Judged, fine, both, within, unless, beside, broken_if}
use Rattle.ca_resolve.specs.Scopes.{Ty, long, truth, pointer, undefined, no_object, ty_of, Scope, Target, to_local, to_field, to_item, Callee, operation, function, Invocation, Found, a_value, an_array, find_local}
use Rattle.ca_resolve.specs.Scopes as scopes
use Rattle.ca_resolve.specs.Rules.{is_target, is_item_target, can_hold, is_long, is_truth}
use Rattle.ca_resolve.specs.Values.{place_of, in_order, judge_found, judge_value, judge_for, judge_target, judge_call}
use Rattle.ca_types.specs.Rules.{local_once, condition_agrees, printed_agrees, compound_agrees, writes_no_field, called_operation, creates_nothing, prints_nothing, return_stands, local_limit, is_own, has_text}
use Rattle.ca_types.specs.Statements.{Env, enter_block, leave_block, counted, declare, behind, behind_all, class_defined, judge_type, type_of, Source, of_value, of_new, creates, judge_wanted, new_agrees, judge_right, put, judge_put_target, right_ty, judge_assign, start_value, judge_start, start_creates, judge_local, judge_call_statement, judge_condition, judge_return, judge_printed, judge_print, nothing, first_part, statements_in, judge_statement, judge_statements}
use Rattle.ca_typing.proofs.Fits.{NumbersFit, RightFits, StartFits, StatementFits, StatementsFit}
use Rattle.ca_typing.proofs.Lists.{Begins, begins_itself, begins_through, item_there}
use Rattle.ca_typing.proofs.Judging.{same_fine, within_fine, made_fine, both_fine, unless_fine, none_broken, beside_fine, not_broken, kept, for_fine, if_fine}
use Rattle.ca_typing.proofs.Types.{Holds, Declared, declared_holds, class_found, type_declared, one_type, long_type, truth_type, text_type}
use Rattle.ca_typing.proofs.Values.{ScopeTyped, MeaningTyped, FoundTyped, own_class, value_fits, found_typed, value_typed, call_typed}

abbrev pub ResultTyped : Option Ty → Option ValueType → Type 0
ResultTyped None None = Unit {0}
ResultTyped (Some t) (Some ty) = Declared t × (type_of t ≡ ty)
ResultTyped r u = ⊥

mutual
  -- a statement adds locals behind those that are there
  pub grows : (c : Env) (s : Statement) → Begins c.locals (behind c s).locals
  grows c (empty at) = begins_itself c.locals
  grows c (block at ss) = all_grow (enter_block c) ss
  grows c (local at ty name name_at right) = (type_of (ty_of c.scope.classes.names ty) ∷ [], refl)
  grows c (assign at target op right) = begins_itself c.locals
  grows c (call_statement at e) = begins_itself c.locals
  grows c (if_only at e s) = grows (enter_block c) s
  grows c (if_else at e a b) =
      let first = behind (enter_block c) a in
      begins_through c.locals first.locals (behind (enter_block (leave_block c first)) b).locals (grows (enter_block c) a) (grows (enter_block (leave_block c first)) b)
  grows c (while_loop at e s) = grows (enter_block c) s
  grows c (for_loop at first e next s) =
      let begun = behind (enter_block (counted c)) first in
      let stepped = behind (enter_block begun) next in
      let last = behind (enter_block (leave_block begun stepped)) s in
      begins_through c.locals begun.locals last.locals (grows (enter_block (counted c)) first)
      (begins_through begun.locals stepped.locals last.locals (grows (enter_block begun) next) (grows (enter_block (leave_block begun stepped)) s))
  grows c (return_value at e) = begins_itself c.locals
  grows c (print_value at e) = begins_itself c.locals

  pub all_grow : (c : Env) (ss : Statements) → Begins c.locals (behind_all c ss).locals
  all_grow c no_statements = begins_itself c.locals
  all_grow c (statement_and s ss) = begins_through c.locals (behind c s).locals (behind_all (behind c s) ss).locals (grows c s) (all_grow (behind c s) ss)

-- statements that are judged fine, and these behind others
pub record Continues (c : Env) (front : List program.Statement) (ss : Statements) (all : List program.Statement) : Type 0 where
  pub these : List program.Statement
  pub judged : judge_statements c ss ≡ fine these
  pub is : front ++ these ≡ all

pub from_none : (c : Env) (ss : Statements) (all : List program.Statement) → judge_statements c ss ≡ fine all → Continues c [] ss all
from_none c ss all h = record { these = all; judged = h; is = refl }

pub none_behind : (c : Env) (front all : List program.Statement) → Continues c front no_statements all → front ≡ all
none_behind c front all h = sym (append-nil front) ∙ (ap (λ xs. front ++ xs) (same_fine [] h.these h.judged) ∙ h.is)

-- the first of them, and the rest behind it
pub statements_fine : (c : Env) (front : List program.Statement) (s : Statement) (ss : Statements) (all : List program.Statement) → Continues c front (statement_and s ss) all
    → (x : program.Statement) × (judge_statement c s ≡ fine x) × Continues (behind c s) (front ++ x ∷ []) ss all
statements_fine c front s ss all h =
    let more = judge_statements (behind c s) ss in
    let w = made_fine (both (judge_statement c s) more) (λ (r : program.Statement × List program.Statement). r.0 ∷ r.1) h.these h.judged in
    let b = both_fine (judge_statement c s) more w.0 w.1 in
    (w.0.0, b.0, record { these = w.0.1; judged = b.1; is = append_assoc front (w.0.0 ∷ []) w.0.1 ∙ (ap (λ xs. front ++ xs) w.2 ∙ h.is) })

operation_fine : (result : Option Ty) (callee : Callee) (at : Place) (o : OpId) → called_operation result callee at ≡ fine o → (callee ≡ operation o) × (is_some result ≡ false)
operation_fine result (operation u) at o h =
    (ap (λ (v : OpId). operation v) (unless_fine (broken_if (is_some result) at VALUE_METHOD_ACTS) u o h), not_broken (is_some result) at VALUE_METHOD_ACTS (none_broken (broken_if (is_some result) at VALUE_METHOD_ACTS) u o h))
operation_fine result (function f t) at o h = absurd (cc)

second_false : (a b : Bool) → a && b ≡ false → b ≡ true → a ≡ false
second_false true b h k = absurd (cc)
second_false false b h k = refl

module _ (p : PlainProgram) (q : TypesOf) where
  -- the names where a statement stands have their types, and what is given back has its own
  pub record Stands (c : Env) : Type 0 where
    pub scope : ScopeTyped p q c.scope
    pub result : ResultTyped c.result q.result

  no_result : (o : Option Ty) (u : Option ValueType) → ResultTyped o u → is_some o ≡ false → u ≡ None
  no_result None None r h = refl
  no_result (Some t) u r h = absurd (cc)
  no_result None (Some ty) r h = absurd r

  abbrev SourceTyped : ValueType → Source → Type 0
  SourceTyped ty (of_value e) = ExpressionTyped p q e ty
  SourceTyped ty (of_new c) = (ty ≡ PointerTo c) × IsClass p c × (q.result ≡ None)

  abbrev TargetTyped : Target → ValueType → Type 0
  TargetTyped (to_local l) ty = slice_get q.locals l.0 ≡ Some ty
  TargetTyped (to_field f) ty = (q.class ≡ Some f.class) × IsScalar (field_info p f) ty
  TargetTyped (to_item f i) ty = (q.class ≡ Some f.class) × IsArray (field_info p f) ty × ExpressionTyped p q i LongValue

  put_typed : (line : ℕ) (target : Target) (op : AssignOp) (source : Source) (ty : ValueType) → (is_own target ≡ true → q.result ≡ None) → TargetTyped target ty → SourceTyped ty source → AssignTyped op ty
      → StatementTyped p q (put line target op source)
  put_typed line (to_local l) op (of_value e) ty own t s a = (ty, t, (a, s))
  put_typed line (to_local l) op (of_new c) ty own t s a = (s.2, t ∙ ap (λ (u : ValueType). Some u) s.0, s.1)
  put_typed line (to_field f) op (of_value e) ty own t s a = (ty, (own refl, t.0), t.1, (a, s))
  put_typed line (to_field f) op (of_new c) ty own t s a = ((own refl, t.0), subst (IsScalar (field_info p f)) s.0 t.1, s.1)
  put_typed line (to_item f i) op (of_value e) ty own t s a = (ty, (own refl, t.0), t.1, t.2, (a, s))
  put_typed line (to_item f i) op (of_new c) ty own t s a = ((own refl, t.0), subst (IsArray (field_info p f)) s.0 t.1, t.2, s.1)

  start_typed : (t : Ty) → Declared t → ExpressionTyped p q (start_value t) (type_of t)
  start_typed long d = (refl, fits_signed_from_abs w64 (pos 0) (omega arith))
  start_typed truth d = refl
  start_typed (pointer c) d = (c, refl)
  start_typed (undefined n) d = absurd d
  start_typed no_object d = absurd d

  target_found : (f : Found) (at : Place) (t : Target × Ty) → FoundTyped p q f → is_target f at ≡ fine t → Holds t.1 (TargetTyped t.0)
  target_found (a_value (program.local l) s) at t h k = subst (λ (u : Target × Ty). Holds u.1 (TargetTyped u.0)) (same_fine (to_local l, s) t k) h
  target_found (a_value (program.own f) s) at t h k = subst (λ (u : Target × Ty). Holds u.1 (TargetTyped u.0)) (same_fine (to_field f, s) t k) h
  target_found f at t h k = absurd (cc)

  item_found : (f : Found) (i : program.Expression) (at : Place) (t : Target × Ty) → FoundTyped p q f → ExpressionTyped p q i LongValue → is_item_target f i at ≡ fine t → Holds t.1 (TargetTyped t.0)
  item_found (an_array program.this f s) i at t h l k =
      let u : Target × Ty = (to_item f i, s) in
      let o = h.1 in
      subst (λ (u : Target × Ty). Holds u.1 (TargetTyped u.0)) (same_fine u t k)
      (declared_holds s (TargetTyped (to_item f i)) h.0 (own_class p q f.class o.0 o.1 o.2, h.2, l))
  item_found f i at t h l k = absurd (cc)

  module _ (c : Env) (at_c : Stands c) where
    result_none : is_some c.result ≡ false → q.result ≡ None
    result_none h = no_result c.result q.result at_c.result h

    long_value : (e : Expression) (x : program.Expression) → NumbersFit e → judge_for c.scope long e ≡ fine x → ExpressionTyped p q x LongValue
    long_value e x fits h =
        let w = value_fits long [] (judge_value c.scope e) (place_of e) x h in
        let o = one_type long w.0.1 (λ ty. ty ≡ LongValue) (ExpressionTyped p q w.0.0) refl (value_typed p q c.scope at_c.scope e w.0 fits w.1) w.2 in
        subst (λ y. ExpressionTyped p q y LongValue) w.3 (subst (ExpressionTyped p q w.0.0) o.1 o.2)

    plain_target : (e : Expression) (t : Target × Ty) → NumbersFit e → within (judge_found c.scope e) (λ f. is_target f (place_of e)) ≡ fine t → Holds t.1 (TargetTyped t.0)
    plain_target e t fits h =
        let w = within_fine (judge_found c.scope e) (λ f. is_target f (place_of e)) t h in
        target_found w.0 (place_of e) t (found_typed p q c.scope at_c.scope e w.0 fits w.1) w.2

    target_typed : (e : Expression) (t : Target × Ty) → NumbersFit e → judge_target c.scope e ≡ fine t → Holds t.1 (TargetTyped t.0)
    target_typed (index at e i) t fits h =
        let w = within_fine (both (judge_found c.scope e) (judge_for c.scope long i)) (λ (r : Found × program.Expression). is_item_target r.0 r.1 at) t h in
        let b = both_fine (judge_found c.scope e) (judge_for c.scope long i) w.0 w.1 in
        item_found w.0.0 w.0.1 at t (found_typed p q c.scope at_c.scope e w.0.0 fits.0 b.0) (long_value i w.0.1 fits.1 b.1) w.2
    target_typed e t fits h = plain_target e t fits h

    right_typed : (t : Ty) (Q : ValueType → Type 0) (right : RightSide) (source : Source) (at : Place) → Holds t Q → RightFits right → creates_nothing c.result (creates right) at ≡ None
        → judge_right c.scope (Some t) right ≡ fine source → (ty : ValueType) × Q ty × SourceTyped ty source
    right_typed t Q (value e) source at holds fits n h =
        let w = made_fine (judge_for c.scope t e) (λ v. of_value v) source h in
        let u = value_fits t [] (judge_value c.scope e) (place_of e) w.0 w.1 in
        let o = one_type t u.0.1 Q (ExpressionTyped p q u.0.0) holds (value_typed p q c.scope at_c.scope e u.0 fits u.1) u.2 in
        (o.0, o.1, subst (SourceTyped o.0) (ap (λ v. of_value v) u.3 ∙ w.2) o.2)
    right_typed t Q (new name place) source at holds fits n h =
        let w = within_fine (class_defined c.scope.classes.names name place) (λ k. unless (new_agrees (Some t) k place) (of_new k)) source h in
        let k = kept (can_hold t (pointer w.0)) place TYPES_DISAGREE (of_new w.0) source w.2 in
        let o = one_type t (pointer w.0) Q (λ ty. ty ≡ PointerTo w.0) holds refl k.0 in
        let there = at_c.scope.classes.names name w.0.0 (class_found c.scope.classes.names name place w.0 w.1) in
        let none = result_none (second_false (is_some c.result) true (not_broken (is_some c.result && true) at VALUE_METHOD_ACTS n) refl) in
        (o.0, o.1, subst (SourceTyped o.0) k.1 (o.2, there, none))

    own_none : (t : Target) (at : Place) → writes_no_field c.result t at ≡ None → is_own t ≡ true → q.result ≡ None
    own_none t at h k = result_none (second_false (is_some c.result) (is_own t) (not_broken (is_some c.result && is_own t) at VALUE_METHOD_ACTS h) k)

    -- a compound assignment to a target that was judged, with its source
    compound_typed : (line : ℕ) (t : Target × Ty) (op : AssignOp) (right : RightSide) (source : Source) (at : Place) → Holds t.1 (TargetTyped t.0) → (is_own t.0 ≡ true → q.result ≡ None)
        → is_long t.1 ≡ true → AssignTyped op LongValue → RightFits right → creates_nothing c.result (creates right) at ≡ None → judge_right c.scope (Some long) right ≡ fine source → StatementTyped p q (put line t.0 op source)
    compound_typed line t op right source at holds own l a fits n h =
        let r = right_typed long (λ ty. ty ≡ LongValue) right source at refl fits n h in
        put_typed line t.0 op source LongValue own (long_type t.1 (TargetTyped t.0) holds l) (subst (λ ty. SourceTyped ty source) r.1 r.2) a

    assigned_typed : (line : ℕ) (t : Target × Ty) (op : AssignOp) (right : RightSide) (source : Source) (at place : Place) → Holds t.1 (TargetTyped t.0) → (is_own t.0 ≡ true → q.result ≡ None)
        → compound_agrees op t.1 place ≡ None → RightFits right → creates_nothing c.result (creates right) at ≡ None → judge_right c.scope (right_ty op (fine t)) right ≡ fine source → StatementTyped p q (put line t.0 op source)
    assigned_typed line t Put right source at place holds own k fits n h =
        let r = right_typed t.1 (TargetTyped t.0) right source at holds fits n h in
        put_typed line t.0 Put source r.0 own r.1 r.2 tt
    assigned_typed line t Add right source at place holds own k fits n h =
        compound_typed line t Add right source at holds own (not-false (is_long t.1) (not_broken (not (is_long t.1)) place TYPES_DISAGREE k)) refl fits n h
    assigned_typed line t Sub right source at place holds own k fits n h =
        compound_typed line t Sub right source at holds own (not-false (is_long t.1) (not_broken (not (is_long t.1)) place TYPES_DISAGREE k)) refl fits n h
    assigned_typed line t Mul right source at place holds own k fits n h =
        compound_typed line t Mul right source at holds own (not-false (is_long t.1) (not_broken (not (is_long t.1)) place TYPES_DISAGREE k)) refl fits n h
    assigned_typed line t BitAnd right source at place holds own k fits n h =
        compound_typed line t BitAnd right source at holds own (not-false (is_long t.1) (not_broken (not (is_long t.1)) place TYPES_DISAGREE k)) refl fits n h
    assigned_typed line t BitOr right source at place holds own k fits n h =
        compound_typed line t BitOr right source at holds own (not-false (is_long t.1) (not_broken (not (is_long t.1)) place TYPES_DISAGREE k)) refl fits n h
    assigned_typed line t BitXor right source at place holds own k fits n h =
        compound_typed line t BitXor right source at holds own (not-false (is_long t.1) (not_broken (not (is_long t.1)) place TYPES_DISAGREE k)) refl fits n h

    assign_typed : (at : Place) (target : Expression) (op : AssignOp) (right : RightSide) (x : program.Statement) → NumbersFit target → RightFits right
        → judge_assign c at (judge_put_target c op target) op right ≡ fine x → StatementTyped p q x
    assign_typed at target op right x fits right_fits h =
        let goal = judge_put_target c op target in
        let sources = judge_right c.scope (right_ty op goal) right in
        let w = within_fine (both goal sources) (λ (r : (Target × Ty) × Source). unless (creates_nothing c.result (creates right) at) (put at.line r.0.0 op r.1)) x h in
        let b = both_fine goal sources w.0 w.1 in
        let place = place_of target in
        let u = within_fine (judge_target c.scope target) (λ (t : Target × Ty). beside (compound_agrees op t.1 place) (unless (writes_no_field c.result t.0 place) t)) w.0.0 b.0 in
        let k = beside_fine (compound_agrees op u.0.1 place) (unless (writes_no_field c.result u.0.0 place) u.0) w.0.0 u.2 in
        let same = unless_fine (writes_no_field c.result u.0.0 place) u.0 w.0.0 k.1 in
        let own = own_none u.0.0 place (none_broken (writes_no_field c.result u.0.0 place) u.0 w.0.0 k.1) in
        let source : judge_right c.scope (right_ty op (fine u.0)) right ≡ fine w.0.1 =
        ap (λ (t : Target × Ty). judge_right c.scope (right_ty op (fine t)) right) same ∙ (ap (λ j. judge_right c.scope (right_ty op j) right) (sym b.0) ∙ b.1) in
        let n = none_broken (creates_nothing c.result (creates right) at) (put at.line w.0.0.0 op w.0.1) x w.2 in
        let e = ap (λ (t : Target × Ty). put at.line t.0 op w.0.1) same ∙ unless_fine (creates_nothing c.result (creates right) at) (put at.line w.0.0.0 op w.0.1) x w.2 in
        subst (StatementTyped p q) e (assigned_typed at.line u.0 op right w.0.1 at place (target_typed target u.0 fits u.1) own k.0 right_fits n source)

    started_typed : (t : Ty) (right : Option RightSide) (source : Source) (at : Place) → Declared t → StartFits right → creates_nothing c.result (start_creates right) at ≡ None
        → judge_start c.scope t right ≡ fine source → SourceTyped (type_of t) source
    started_typed t None source at d fits n h = subst (SourceTyped (type_of t)) (same_fine (of_value (start_value t)) source h) (start_typed t d)
    started_typed t (Some right) source at d fits n h =
        let r = right_typed t (λ ty. ty ≡ type_of t) right source at (declared_holds t (λ ty. ty ≡ type_of t) d refl) fits n h in
        subst (λ ty. SourceTyped ty source) r.1 r.2

    local_typed : (at : Place) (ty : TypeNode) (name : List ℕ) (name_at : Place) (right : Option RightSide) (x : program.Statement) → StartFits right
        → Begins (c.locals ++ type_of (ty_of c.scope.classes.names ty) ∷ []) q.locals → judge_local c at ty name name_at right ≡ fine x → StatementTyped p q x × Stands (declare c (ty_of c.scope.classes.names ty) name)
    local_typed at ty name name_at right x fits begins h =
        let declared = ty_of c.scope.classes.names ty in
        let typed = judge_type c.scope.classes.names ty in
        let start = judge_start c.scope declared right in
        let limit = local_limit (length c.locals) name_at in
        let once = local_once c.first (find_local c.scope.locals name) name_at in
        let creating = creates_nothing c.result (start_creates right) at in
        let w = within_fine (beside limit (both typed start)) (λ (r : ValueType × Source). beside creating (unless once (put at.line (to_local (record { 0 = length c.locals })) Put r.1))) x h in
        let b = both_fine typed start w.0 (beside_fine limit (both typed start) w.0 w.1).1 in
        let k = beside_fine creating (unless once (put at.line (to_local (record { 0 = length c.locals })) Put w.0.1)) x w.2 in
        let d = type_declared c.scope.classes.names ty w.0.0 b.0 in
        let there = item_there c.locals q.locals (type_of declared) begins in
        let source = started_typed declared right w.0.1 at d.0 fits k.0 b.1 in
        let put_is = put_typed at.line (to_local (record { 0 = length c.locals })) Put w.0.1 (type_of declared) (λ z. absurd (cc)) there source tt in (
          subst (StatementTyped p q) (unless_fine once (put at.line (to_local (record { 0 = length c.locals })) Put w.0.1) x k.1) put_is,
          record { scope = record { classes = at_c.scope.classes; class = at_c.scope.class; locals = ((d.0, there), at_c.scope.locals) }; result = at_c.result },
        )

    call_statement_typed : (at : Place) (e : Expression) (x : program.Statement) → NumbersFit e → judge_call_statement c at e ≡ fine x → StatementTyped p q x
    call_statement_typed at e x fits h =
        let w = within_fine (judge_call c.scope e) (λ i. within (called_operation c.result i.callee (place_of e)) (λ o. fine (program.invoke at.line i.receiver o (in_order i.arguments)))) x h in
        let u = made_fine (called_operation c.result w.0.callee (place_of e)) (λ o. program.invoke at.line w.0.receiver o (in_order w.0.arguments)) x w.2 in
        let o = operation_fine c.result w.0.callee (place_of e) u.0 u.1 in
        let t = call_typed p q c.scope at_c.scope e w.0 fits w.1 in
        let m : MeaningTyped p t.0 (scopes.method (operation u.0) t.1) = subst (λ (d : Callee). MeaningTyped p t.0 (scopes.method d t.1)) o.0 t.2 in
        subst (StatementTyped p q) u.2 (t.0, _, result_none o.1, m.1, t.3, t.4)

    condition_typed : (s : Scope) (e : Expression) (x : program.Expression) → ScopeTyped p q s → NumbersFit e → judge_condition s e ≡ fine x → ExpressionTyped p q x TruthValue
    condition_typed s e x scope fits h =
        let w = within_fine (judge_value s e) (λ (v : program.Expression × Ty). unless (condition_agrees v.1 (place_of e)) v.0) x h in
        let k = kept (is_truth w.0.1) (place_of e) TYPES_DISAGREE w.0.0 x w.2 in
        subst (λ y. ExpressionTyped p q y TruthValue) k.1 (truth_type w.0.1 (ExpressionTyped p q w.0.0) (value_typed p q s scope e w.0 fits w.1) k.0)

    wanted_typed : (o : Option Ty) (u : Option ValueType) (e : Expression) (x : program.Expression) → ResultTyped o u → is_some o ≡ true → NumbersFit e → judge_wanted c.scope o e ≡ fine x
        → (ty : ValueType) × (u ≡ Some ty) × ExpressionTyped p q x ty
    wanted_typed None u e x r k fits h = absurd (cc)
    wanted_typed (Some t) None e x r k fits h = absurd r
    wanted_typed (Some t) (Some ty) e x r k fits h =
        let w = value_fits t [] (judge_value c.scope e) (place_of e) x h in
        let o = one_type t w.0.1 (λ y. y ≡ type_of t) (ExpressionTyped p q w.0.0) (declared_holds t (λ y. y ≡ type_of t) r.0 refl) (value_typed p q c.scope at_c.scope e w.0 fits w.1) w.2 in
        (ty, refl, subst (λ y. ExpressionTyped p q y ty) w.3 (subst (ExpressionTyped p q w.0.0) (o.1 ∙ r.1) o.2))

    return_typed : (at : Place) (e : Expression) (x : program.Statement) → NumbersFit e → judge_return c at e ≡ fine x → StatementTyped p q x
    return_typed at e x fits h =
        let w = within_fine (judge_wanted c.scope c.result e) (λ v. unless (return_stands c.result at) (program.return_value at.line v)) x h in
        let k = kept (is_some c.result) at WRONG_RETURN (program.return_value at.line w.0) x w.2 in
        subst (StatementTyped p q) k.1 (wanted_typed c.result q.result e w.0 at_c.result k.0 fits w.1)

    print_typed : (at : Place) (e : Expression) (x : program.Statement) → NumbersFit e → judge_print c at e ≡ fine x → StatementTyped p q x
    print_typed at e x fits h =
        let w = within_fine (judge_printed c.scope e) (λ v. unless (prints_nothing c.result at) (program.print_value at.line v)) x h in
        let g = within_fine (judge_value c.scope e) (λ (v : program.Expression × Ty). unless (printed_agrees v.1 (place_of e)) v.0) w.0 w.1 in
        let k = kept (has_text g.0.1) (place_of e) TYPES_DISAGREE g.0.0 w.0 g.2 in
        let none = result_none (not_broken (is_some c.result) at VALUE_METHOD_ACTS (none_broken (prints_nothing c.result at) (program.print_value at.line w.0) x w.2)) in
        subst (StatementTyped p q) (unless_fine (prints_nothing c.result at) (program.print_value at.line w.0) x w.2)
        (none, subst (λ y. ExpressionTyped p q y LongValue ⊎ ExpressionTyped p q y TruthValue) k.1 (text_type g.0.1 (ExpressionTyped p q g.0.0) (value_typed p q c.scope at_c.scope e g.0 fits g.1) k.0))

  -- where a block of its own begins, and what stands behind it
  entered_stands : (c : Env) → Stands c → Stands (enter_block c)
  entered_stands c h = record { scope = h.scope; result = h.result }

  left_stands : (c d : Env) → Stands c → Stands (leave_block c d)
  left_stands c d h = record { scope = h.scope; result = h.result }

  counted_stands : (c : Env) → Stands c → Stands (enter_block (counted c))
  counted_stands c h = record { scope = h.scope; result = h.result }

  pub in_order_typed : (ss : List program.Statement) → AllByRecursion (StatementTyped p q) ss → StatementsTyped p q (statements_in ss)
  in_order_typed [] h = tt
  in_order_typed (s ∷ ss) h = (h.0, in_order_typed ss h.1)

  mutual
    pub statement_typed : (c : Env) (s : Statement) (x : program.Statement) → Stands c → StatementFits s → Begins (behind c s).locals q.locals → judge_statement c s ≡ fine x
        → StatementTyped p q x × Stands (behind c s)
    statement_typed c (empty at) x here fits g h = (subst (StatementTyped p q) (same_fine (nothing at.line) x h) tt, here)
    statement_typed c (block at ss) x here fits g h =
        let w = made_fine (judge_statements (enter_block c) ss) (λ all. program.block at.line (statements_in all)) x h in
        let t = statements_typed (enter_block c) ss [] w.0 (entered_stands c here) fits g tt (from_none (enter_block c) ss w.0 w.1) in
        (subst (StatementTyped p q) w.2 (in_order_typed w.0 t.0), left_stands c (behind_all (enter_block c) ss) here)
    statement_typed c (local at ty name name_at right) x here fits g h = local_typed c here at ty name name_at right x fits g h
    statement_typed c (assign at target op right) x here fits g h = (assign_typed c here at target op right x fits.0 fits.1 h, here)
    statement_typed c (call_statement at e) x here fits g h = (call_statement_typed c here at e x fits h, here)
    statement_typed c (if_only at e s) x here fits g h =
        let test = judge_condition c.scope e in
        let yes_part = judge_statement (enter_block c) s in
        let no_part : Judged program.Statement = fine (nothing at.line) in
        let w = if_fine at.line test yes_part no_part x h in
        let one = condition_typed c here c.scope e w.cond here.scope fits.0 w.cond_is in
        let two = statement_typed (enter_block c) s w.one (entered_stands c here) fits.1 g w.one_is in
        let three = subst (StatementTyped p q) (same_fine (nothing at.line) w.other w.other_is) tt in
        (subst (StatementTyped p q) w.is (one, two.0, three), left_stands c (behind (enter_block c) s) here)
    statement_typed c (if_else at e a b) x here fits g h =
        let first = behind (enter_block c) a in
        let other = enter_block (leave_block c first) in
        let test = judge_condition c.scope e in
        let yes_part = judge_statement (enter_block c) a in
        let no_part = judge_statement other b in
        let w = if_fine at.line test yes_part no_part x h in
        let one = condition_typed c here c.scope e w.cond here.scope fits.0 w.cond_is in
        let two = statement_typed (enter_block c) a w.one (entered_stands c here) fits.1 (begins_through first.locals (behind other b).locals q.locals (grows other b) g) w.one_is in
        let three = statement_typed other b w.other (entered_stands (leave_block c first) (left_stands c first here)) fits.2 g w.other_is in
        (subst (StatementTyped p q) w.is (one, two.0, three.0), left_stands c (behind other b) here)
    statement_typed c (while_loop at e s) x here fits g h =
        let test = judge_condition c.scope e in
        let body = judge_statement (enter_block c) s in
        let w = made_fine (both test body) (λ (r : program.Expression × program.Statement). program.while_loop at.line r.0 r.1) x h in
        let b = both_fine test body w.0 w.1 in
        let one = condition_typed c here c.scope e w.0.0 here.scope fits.0 b.0 in
        let two = statement_typed (enter_block c) s w.0.1 (entered_stands c here) fits.1 g b.1 in
        (subst (StatementTyped p q) w.2 (one, two.0), left_stands c (behind (enter_block c) s) here)
    statement_typed c (for_loop at first e next s) x here fits g h =
        let begin = enter_block (counted c) in
        let begun = behind begin first in
        let stepped = behind (enter_block begun) next in
        let turn = enter_block (leave_block begun stepped) in
        let last = behind turn s in
        let first_part_j = judge_statement begin first in
        let test = judge_condition begun.scope e in
        let step = judge_statement (enter_block begun) next in
        let body = judge_statement turn s in
        let w = for_fine at c.loops (first_part first) first_part_j test step body x h in
        let to_step = begins_through stepped.locals last.locals q.locals (grows turn s) g in
        let to_begun = begins_through begun.locals stepped.locals q.locals (grows (enter_block begun) next) to_step in
        let one = statement_typed begin first w.first (counted_stands c here) fits.0 to_begun w.first_is in
        let two = condition_typed begun one.1 begun.scope e w.cond one.1.scope fits.1 w.cond_is in
        let three = statement_typed (enter_block begun) next w.next (entered_stands begun one.1) fits.2 to_step w.next_is in
        let four = statement_typed turn s w.body (entered_stands (leave_block begun stepped) (left_stands begun stepped one.1)) fits.3 g w.body_is in
        (subst (StatementTyped p q) w.is (one.0, two, three.0, four.0), left_stands c last here)
    statement_typed c (return_value at e) x here fits g h = (return_typed c here at e x fits h, here)
    statement_typed c (print_value at e) x here fits g h = (print_typed c here at e x fits h, here)

    pub statements_typed : (c : Env) (ss : Statements) (front all : List program.Statement) → Stands c → StatementsFit ss → Begins (behind_all c ss).locals q.locals → AllByRecursion (StatementTyped p q) front
        → Continues c front ss all → AllByRecursion (StatementTyped p q) all × Stands (behind_all c ss)
    statements_typed c no_statements front all here fits g typed h = (subst (AllByRecursion (StatementTyped p q)) (none_behind c front all h) typed, here)
    statements_typed c (statement_and s ss) front all here fits g typed h =
        let d = behind c s in
        let w = statements_fine c front s ss all h in
        let one = statement_typed c s w.0 here fits.0 (begins_through d.locals (behind_all d ss).locals q.locals (all_grow d ss) g) w.1 in
        statements_typed d ss (front ++ w.0 ∷ []) all one.1 fits.1 g (all_append (StatementTyped p q) front (w.0 ∷ []) typed (one.0, tt)) w.2

-- What is computed decides the definition.
use Rattle.std.proofs.Common.{◌≡◌, ◌||◌, Bool, true, false, not, List, [], ◌∷◌, refl, sym, ◌∙◌, ⊎_elim, subst, true≢false}
use Rattle.std.specs.Prelude.{Contains, ◌↔◌, IsTrue}
use Rattle.std.proofs.lemmas.List.Elements.{Contains-append_left, Contains-append_right, Contains-append_cases, Contains-push}
use Rattle.ca_lists.proofs.Members.{has_nothing, has_only}
use Rattle.ca_tree.specs.declared.tree.AssignOp.{AssignOp}
use Rattle.ca_tree.specs.declared.tree.AssignOp.TheVariants.{Put, Add, Sub, Mul}
use Rattle.ca_tree.specs.declared.tree.AssignOp.TheVariants as change
use Rattle.ca_tree.specs.declared.tree.BinaryOp.{BinaryOp}
use Rattle.ca_tree.specs.declared.tree.BinaryOp.TheVariants.{Or, And, Equal, NotEqual, Less, Greater, LessEqual, GreaterEqual, Plus, Minus, Times, Divide, Remainder, BitAnd, BitOr, BitXor, Max, Min}
use Rattle.ca_program.specs.declared.program.FieldId.{FieldId}
use Rattle.ca_program.specs.declared.program.OpId.{OpId}
use Rattle.ca_program.specs.Fields.{same_field}
use Rattle.ca_program.specs.Plain.{PlainProgram, Expression, Expressions, number, truth, null, this, local, own, own_item, read, read_item, value_call, unary, binary, no_expressions, expression_and, Statement, Statements, block, put_local, put_field, put_item, new_local, new_field, new_item, invoke, if_else, while_loop, for_loop, return_value, print_value, no_statements, statement_and}
use Rattle.ca_program.proofs.Fields.{same_fields, same_itself}
use Rattle.ca_parallel.specs.Extents.{operation_body}
use Rattle.ca_section.specs.Offences.{is_written}
use Rattle.ca_section.proofs.Fields.{written_decided}
use Rattle.ca_sum_laws.specs.Summed.{IsSum, Untouched, AllUntouched, SumsWith, Adds, OnlySums, AllOnlySums, HasOnlySums}
use Rattle.ca_replica.specs.Unsummed.{touches, touches_any, is_no_sum, puts_else, assigns_else, does_else, any_does_else, some_does_else}

-- what is computed is false exactly where this holds
abbrev Clear : Bool → Type 0 → Type 0
Clear b A = (b ≡ false) ↔ A

none : {A : Type 0} → A → Clear false A
none a = (λ e. a, λ x. refl)

never : {A : Type 0} → ¬ A → Clear true A
never n = (λ e. absurd (true≢false e), λ a. absurd (n a))

both : (a b : Bool) {A B : Type 0} → Clear a A → Clear b B → Clear (a || b) (A × B)
both true b x y = (λ e. absurd (true≢false e), λ z. x.1 z.0)
both false b x y = (λ e. (x.0 refl, y.0 e), λ z. y.1 z.1)

three : (a b c : Bool) {A B C : Type 0} → Clear a A → Clear b B → Clear c C → Clear (a || (b || c)) (A × B × C)
three true b c x y z = (λ e. absurd (true≢false e), λ k. x.1 k.0)
three false true c x y z = (λ e. absurd (true≢false e), λ k. y.1 k.1)
three false false c x y z = (λ e. (x.0 refl, y.0 refl, z.0 e), λ k. z.1 k.2)

four : (a b c d : Bool) {A B C D : Type 0} → Clear a A → Clear b B → Clear c C → Clear d D → Clear (a || (b || (c || d))) (A × B × C × D)
four true b c d x y z v = (λ e. absurd (true≢false e), λ k. x.1 k.0)
four false true c d x y z v = (λ e. absurd (true≢false e), λ k. y.1 k.1)
four false false true d x y z v = (λ e. absurd (true≢false e), λ k. z.1 k.2)
four false false false d x y z v = (λ e. (x.0 refl, y.0 refl, z.0 refl, v.0 e), λ k. v.1 k.3)

free : (w : List FieldId) (f : FieldId) → Clear (is_written w f) (¬ Contains w f)
free w f = from (is_written w f) refl
  where
    from : (b : Bool) → is_written w f ≡ b → Clear b (¬ Contains w f)
    from true e = (λ z. absurd (true≢false z), λ n. absurd (n (let d = written_decided w f in d.0 e)))
    from false e = (λ z c. true≢false (sym (let d = written_decided w f in d.1 c) ∙ e), λ n. refl)

mutual
  untouched : (w : List FieldId) (e : Expression) → Clear (touches w e) (Untouched w e)
  untouched w (number n) = none tt
  untouched w (truth b) = none tt
  untouched w null = none tt
  untouched w this = none tt
  untouched w (local l) = none tt
  untouched w (own f) = free w f
  untouched w (own_item f i) = both (is_written w f) (touches w i) (free w f) (untouched w i)
  untouched w (read e f) = both (is_written w f) (touches w e) (free w f) (untouched w e)
  untouched w (read_item e f i) = three (is_written w f) (touches w e) (touches w i) (free w f) (untouched w e) (untouched w i)
  untouched w (value_call e m es) = both (touches w e) (touches_any w es) (untouched w e) (all_untouched w es)
  untouched w (unary op e) = untouched w e
  untouched w (binary op a b) = both (touches w a) (touches w b) (untouched w a) (untouched w b)

  all_untouched : (w : List FieldId) (es : Expressions) → Clear (touches_any w es) (AllUntouched w es)
  all_untouched w no_expressions = none tt
  all_untouched w (expression_and e es) = both (touches w e) (touches_any w es) (untouched w e) (all_untouched w es)

sum_op : (op : BinaryOp) → Clear (is_no_sum op) (IsSum op)
sum_op Or = never (λ x. x)
sum_op And = never (λ x. x)
sum_op Equal = never (λ x. x)
sum_op NotEqual = never (λ x. x)
sum_op Less = never (λ x. x)
sum_op Greater = never (λ x. x)
sum_op LessEqual = never (λ x. x)
sum_op GreaterEqual = never (λ x. x)
sum_op Plus = none tt
sum_op Minus = none tt
sum_op Times = never (λ x. x)
sum_op Divide = never (λ x. x)
sum_op Remainder = never (λ x. x)
sum_op BitAnd = never (λ x. x)
sum_op BitOr = never (λ x. x)
sum_op BitXor = never (λ x. x)
sum_op Max = never (λ x. x)
sum_op Min = never (λ x. x)

same : (g f : FieldId) → Clear (not (same_field g f)) (g ≡ f)
same g f = from (same_field g f) refl
  where
    from : (b : Bool) → same_field g f ≡ b → Clear (not b) (g ≡ f)
    from true e = (λ z. same_fields g f e, λ z. refl)
    from false e = (λ z. absurd (true≢false z), λ z. absurd (true≢false (sym (subst (λ k. same_field g k ≡ true) z (same_itself g)) ∙ e)))

put_sum : (w : List FieldId) (f : FieldId) (e : Expression) → Clear (puts_else w f e) (SumsWith w f e)
put_sum w f (binary op (own g) e) = three (is_no_sum op) (not (same_field g f)) (touches w e) (sum_op op) (same g f) (untouched w e)
put_sum w f (binary op (number n) e) = never (λ x. x)
put_sum w f (binary op (truth b) e) = never (λ x. x)
put_sum w f (binary op null e) = never (λ x. x)
put_sum w f (binary op this e) = never (λ x. x)
put_sum w f (binary op (local l) e) = never (λ x. x)
put_sum w f (binary op (own_item g i) e) = never (λ x. x)
put_sum w f (binary op (read a g) e) = never (λ x. x)
put_sum w f (binary op (read_item a g i) e) = never (λ x. x)
put_sum w f (binary op (value_call a m es) e) = never (λ x. x)
put_sum w f (binary op (unary o a) e) = never (λ x. x)
put_sum w f (binary op (binary o a b) e) = never (λ x. x)
put_sum w f (number n) = never (λ x. x)
put_sum w f (truth b) = never (λ x. x)
put_sum w f null = never (λ x. x)
put_sum w f this = never (λ x. x)
put_sum w f (local l) = never (λ x. x)
put_sum w f (own g) = never (λ x. x)
put_sum w f (own_item g i) = never (λ x. x)
put_sum w f (read a g) = never (λ x. x)
put_sum w f (read_item a g i) = never (λ x. x)
put_sum w f (value_call a m es) = never (λ x. x)
put_sum w f (unary o a) = never (λ x. x)

assign : (w : List FieldId) (f : FieldId) (op : AssignOp) (e : Expression) → Clear (assigns_else w f op e) (Adds w f op e)
assign w f Put e = put_sum w f e
assign w f Add e = untouched w e
assign w f Sub e = untouched w e
assign w f Mul e = never (λ x. x)
assign w f change.BitAnd e = never (λ x. x)
assign w f change.BitOr e = never (λ x. x)
assign w f change.BitXor e = never (λ x. x)

mutual
  only_sums : (w : List FieldId) (s : Statement) → Clear (does_else w s) (OnlySums w s)
  only_sums w (block line ss) = all_only_sums w ss
  only_sums w (put_local line l op e) = untouched w e
  only_sums w (put_field line f op e) = assign w f op e
  only_sums w (put_item line f i op e) = never (λ x. x)
  only_sums w (new_local line l c) = none tt
  only_sums w (new_field line f c) = never (λ x. x)
  only_sums w (new_item line f i c) = never (λ x. x)
  only_sums w (invoke line e op es) = both (touches w e) (touches_any w es) (untouched w e) (all_untouched w es)
  only_sums w (if_else line c a b) = three (touches w c) (does_else w a) (does_else w b) (untouched w c) (only_sums w a) (only_sums w b)
  only_sums w (while_loop line c b) = both (touches w c) (does_else w b) (untouched w c) (only_sums w b)
  only_sums w (for_loop line site part first c next b) =
      four (does_else w first) (touches w c) (does_else w next) (does_else w b) (only_sums w first) (untouched w c) (only_sums w next) (only_sums w b)
  only_sums w (return_value line e) = untouched w e
  only_sums w (print_value line e) = untouched w e

  all_only_sums : (w : List FieldId) (ss : Statements) → Clear (any_does_else w ss) (AllOnlySums w ss)
  all_only_sums w no_statements = none tt
  all_only_sums w (statement_and s ss) = both (does_else w s) (any_does_else w ss) (only_sums w s) (all_only_sums w ss)

each : (p : PlainProgram) (w : List FieldId) (ops : List OpId) → Clear (some_does_else p w ops) ((op : OpId) → Contains ops op → HasOnlySums p w op)
each p w [] = none (λ op c. absurd (has_nothing op c))
each p w (o ∷ ops) =
    let z = both (any_does_else w (operation_body p o)) (some_does_else p w ops) (all_only_sums w (operation_body p o)) (each p w ops) in (
      λ e. let r = z.0 e in λ op c. ⊎_elim (λ b. subst (λ k. HasOnlySums p w k) (has_only o op b) r.0) (λ b. r.1 op b) (Contains-append_cases (o ∷ []) ops op c),
      λ h. z.1 (h o (Contains-append_left (o ∷ []) ops o (Contains-push [] o)), λ op c. h op (Contains-append_right (o ∷ []) ops op c)),
    )

-- what is answered: none does else
pub decided : (p : PlainProgram) (w : List FieldId) (ops : List OpId) (b : Bool) → b ≡ some_does_else p w ops → IsTrue (not b) ↔ ((op : OpId) → Contains ops op → HasOnlySums p w op)
decided p w ops true e = (λ t. absurd (true≢false (sym t)), λ h. absurd (true≢false (e ∙ (let z = each p w ops in z.1 h))))
decided p w ops false e = (λ t. (let z = each p w ops in z.0 (sym e)), λ h. refl)

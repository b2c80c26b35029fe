-- A section only adds to its list, calls of the extent alone, keeps the constants of its object, and once it may have
-- called keeps the whole object.
use Rattle.std.proofs.Common.{◌≡◌, ℕ, zero, suc, List, [], ◌∷◌, ◌++◌, Option, Some, refl, ap, sym, subst, ◌∙◌, true, false, Bool, ⊎_elim, append_assoc, append-nil}
use Rattle.std.specs.Prelude.{slice_get, ◌||◌, Contains}
use Rattle.std.proofs.lemmas.List.Elements.{Contains-append_cases}
use Rattle.ca_lists.proofs.Members.{has_nothing, has_only}
use Rattle.ca_program.specs.declared.program.ClassId.{ClassId}
use Rattle.ca_program.specs.declared.program.FieldId.{FieldId}
use Rattle.ca_program.specs.declared.program.OpId.{OpId}
use Rattle.ca_program.specs.Plain.{PlainProgram, Expression, Expressions, Statement, Statements, block, put_local, put_field, put_item, new_local, new_field, new_item, invoke, if_else, while_loop, for_loop, return_value, print_value, no_statements, statement_and}
use Rattle.ca_model.specs.declared.value.Value.{Value as Datum}
use Rattle.ca_model.specs.declared.value.Value.TheVariants.{Long, Bool as Truth, Null, Ref}
use Rattle.ca_model.specs.declared.value.Object.{Object}
use Rattle.ca_model.specs.declared.value.Trap.{Trap}
use Rattle.ca_model.specs.Slots.{put_slot}
use Rattle.ca_meaning.specs.Expressions.{Out, gives, traps, over, ◌>>=◌, take_step, pointed, Place, Calls, eval, eval_all, Invocation, invocation, due}
use Rattle.ca_meaning.specs.Flows.{Flow, goes_on, gives_back, stops, runs_out, and_on, with, choose, Parts, line_of, exec, exec_all, turn}
use Rattle.ca_meaning.specs.Functions.{functions_of}
use Rattle.ca_meaning.specs.Sections.{Section, with_own, with_listed, section_place, section_item_at, Again, section_parts_with, loops, loops_of, section_parts}
use Rattle.ca_meaning.specs.ProgramTyped.{Scope, StatementTyped, StatementsTyped}
use Rattle.ca_parallel.proofs.Somes.{some_left, some_right}
use Rattle.ca_meaning_laws.specs.Typed.{Yields, yields, yields_trap, yields_over}
use Rattle.ca_parallel.specs.Bodies.{calls_of, calls_of_all}
use Rattle.ca_parallel.specs.Separable.{MayAccess, is_some_of, holds_call, IsSeparated, AreSeparated}
use Rattle.ca_order_laws.proofs.Puts.{slot_else, field_same}
use Rattle.ca_order_laws.proofs.Flags.{Rise, rise_stays, rise_self, rise_or, rise_part, rise_other, rise_two, rise_again, never_down}
use Rattle.ca_order_laws.proofs.Kept.{IsKept, AreKept}

-- ---- the operation of a call that is due

any_then : {A B : Type 0} (Q : B → Type 0) (o : Out A) (f : A → ℕ → Out B) → ((v : A) (k : ℕ) → Yields Q (f v k)) → Yields Q (o >>= f)
any_then Q (gives v k) f h = h v k
any_then Q (traps t) f h = yields_trap t
any_then Q over f h = yields_over

pub due_calls : (c : Calls) (q : Place) (e : Expression) (op : OpId) (es : Expressions) (k : ℕ) → Yields (λ i. i.op ≡ op) (due c q e op es k)
due_calls c q e op es k =
    any_then (λ i. i.op ≡ op) (eval c q e k) _ (λ v k. any_then (λ i. i.op ≡ op) (eval_all c q es k) _ (λ vs k. any_then (λ i. i.op ≡ op) (pointed q.line v k) _ (λ n k. yields (invocation n op vs) k refl)))

-- ---- lists

module _ (written : List FieldId) (ops : List OpId) (class : Option ClassId) where
  -- from s to t, where a call may have come before s (b) and before t (c)
  pub record Grows (b c : Bool) (s t : Section) : Type 0 where
    pub more : List Invocation
    pub listed : t.listed ≡ s.listed ++ more
    pub own : b ≡ true → t.own ≡ s.own
    pub constants : (f : FieldId) → class ≡ Some f.class → ¬ Contains written f → slice_get t.own f.field ≡ slice_get s.own f.field
    pub inside : (i : Invocation) → Contains more i → Contains ops i.op
    pub none : c ≡ false → more ≡ []

  pub data GrownFlow (b c : Bool) (s : Section) : Flow Section → Type 0 where
    grew : (ls : List Datum) (t : Section) (k : ℕ) → Grows b c s t → GrownFlow b c s (goes_on ls t k)
    grew_back : (v : Datum) (t : Section) (k : ℕ) → GrownFlow b c s (gives_back v t k)
    grew_trap : (u : Trap) (t : Section) → GrownFlow b c s (stops u t)
    grew_over : (t : Section) → GrownFlow b c s (runs_out t)

  pub grown_of : {b c : Bool} {s t : Section} {ls : List Datum} {k : ℕ} → GrownFlow b c s (goes_on ls t k) → Grows b c s t
  grown_of (grew _ _ _ g) = g

  pub grows_self : (b c : Bool) (s : Section) → Grows b c s s
  grows_self b c s = record { more = []; listed = sym (append-nil s.listed); own = λ e. refl; constants = λ f e n. refl; inside = λ i m. absurd (has_nothing i m); none = λ e. refl }

  pub grows_then : {b c : Bool} {s t u : Section} → Grows b c s t → Grows b c t u → Grows b c s u
  grows_then {b} {c} {s} {t} {u} g k = record {
    more = g.more ++ k.more;
    listed = k.listed ∙ ap (λ l. l ++ k.more) g.listed ∙ append_assoc s.listed g.more k.more;
    own = λ e. k.own e ∙ g.own e;
    constants = λ f e n. k.constants f e n ∙ g.constants f e n;
    inside = λ i m. ⊎_elim (λ a. g.inside i a) (λ a. k.inside i a) (Contains-append_cases g.more k.more i m);
    none = λ e. ap (λ l. l ++ k.more) (g.none e) ∙ k.none e;
  }

  grows_weak : {a b c d : Bool} {s t : Section} → Rise a b → Rise c d → Grows b c s t → Grows a d s t
  grows_weak {a} {b} {c} {d} v w g = record { more = g.more; listed = g.listed; own = λ e. g.own (rise_stays a b v e); constants = g.constants; inside = g.inside; none = λ e. g.none (w.falls e) }

  grown_weak : (a b c d : Bool) (s : Section) (o : Flow Section) → Rise a b → Rise c d → GrownFlow b c s o → GrownFlow a d s o
  grown_weak a b c d s (goes_on ls t k) v w (grew _ _ _ g) = grew ls t k (grows_weak v w g)
  grown_weak a b c d s (gives_back x t k) v w g = grew_back x t k
  grown_weak a b c d s (stops u t) v w g = grew_trap u t
  grown_weak a b c d s (runs_out t) v w g = grew_over t

  grown_from : (b c : Bool) (s t : Section) (o : Flow Section) → Grows b c s t → GrownFlow b c t o → GrownFlow b c s o
  grown_from b c s t (goes_on ls u k) g (grew _ _ _ y) = grew ls u k (grows_then g y)
  grown_from b c s t (gives_back x u k) g y = grew_back x u k
  grown_from b c s t (stops x u) g y = grew_trap x u
  grown_from b c s t (runs_out u) g y = grew_over u

  module _ (b c : Bool) (s : Section) where
    grown_with : {A : Type 0} (P : A → Type 0) (o : Out A) (g : A → ℕ → Flow Section) → Yields P o → ((v : A) (k : ℕ) → P v → GrownFlow b c s (g v k)) → GrownFlow b c s (with o s g)
    grown_with P (gives v k) g (yields _ _ t) f = f v k t
    grown_with P (traps t) g y f = grew_trap t s
    grown_with P over g y f = grew_over s

    grown_any : {A : Type 0} (o : Out A) (g : A → ℕ → Flow Section) → ((v : A) (k : ℕ) → GrownFlow b c s (g v k)) → GrownFlow b c s (with o s g)
    grown_any (gives v k) g f = f v k
    grown_any (traps t) g f = grew_trap t s
    grown_any over g f = grew_over s

    grown_choose : (v : Datum) (x y : Flow Section) → GrownFlow b c s x → GrownFlow b c s y → GrownFlow b c s (choose v x y)
    grown_choose (Truth true) x y g h = g
    grown_choose (Truth false) x y g h = h
    grown_choose (Long n) x y g h = h
    grown_choose (Ref n) x y g h = h
    grown_choose Null x y g h = h

    grown_on : (o : Flow Section) (g : List Datum → Section → ℕ → Flow Section) → GrownFlow b c s o → ((ls : List Datum) (t : Section) (k : ℕ) → GrownFlow b c t (g ls t k)) → GrownFlow b c s (and_on o g)
    grown_on (goes_on ls t k) g (grew _ _ _ y) f = grown_from b c s t (g ls t k) y (f ls t k)
    grown_on (gives_back v t k) g y f = grew_back v t k
    grown_on (stops u t) g y f = grew_trap u t
    grown_on (runs_out t) g y f = grew_over t

  may_not : {A : Type 0} (b : Bool) (f : FieldId) → MayAccess written b f → Contains written f → b ≡ true → A
  may_not true f a at e = absurd (a at)
  may_not false f a at e = cc

  -- a put into a written field
  grown_put : (b : Bool) (ls : List Datum) (s : Section) (f : FieldId) (i : ℕ) (v : Datum) (k : ℕ) → MayAccess written b f → Contains written f → class ≡ Some f.class → GrownFlow b (b || false) s (goes_on ls (with_own s (put_slot s.own f.field i v)) k)
  grown_put b ls s f i v k may at of_class = grew ls _ k record {
    more = [];
    listed = sym (append-nil s.listed);
    own = λ e. may_not b f may at e;
    constants = λ g e n. slot_else s.own f.field i v g.field (λ same. n (subst (λ z. Contains written z) (field_same f g (let z : Some f.class ≡ Some g.class = sym of_class ∙ e in cc) same) at));
    inside = λ i m. absurd (has_nothing i m);
    none = λ e. refl;
  }

  grown_call : (b : Bool) (ls : List Datum) (s : Section) (i : Invocation) (k : ℕ) → Contains ops i.op → GrownFlow b (b || true) s (goes_on ls (with_listed s i) k)
  grown_call b ls s i k at = grew ls _ k record {
    more = i ∷ [];
    listed = refl;
    own = λ e. refl;
    constants = λ g e n. refl;
    inside = λ j m. subst (λ z. Contains ops z.op) (has_only i j m) at;
    none = λ e. never_down b e;
  }

module _ (p : PlainProgram) (written : List FieldId) (ops : List OpId) (h : List Object) (r : Datum) (s : Scope) where
  abbrev SectionGrown : Bool → Bool → Section → Flow Section → Type 0
  SectionGrown b c x o = GrownFlow written ops s.class b c x o

  abbrev AgainGrown : Again → Type 0
  AgainGrown a = (b : Bool) (line : ℕ) (ls : List Datum) (x : Section) (y : Statement) (k : ℕ) → StatementTyped p s y → IsSeparated p written b y → IsKept written ops y → SectionGrown b (b || holds_call y) x (a line ls x y k)

  module _ (again : Again) (all : AgainGrown again) where
    abbrev qp : Parts Section
    qp = section_parts_with p h r again

    mutual
      exec_grown : (y : Statement) (b : Bool) → StatementTyped p s y → IsSeparated p written b y → IsKept written ops y → (line : ℕ) (ls : List Datum) (x : Section) (k : ℕ) → SectionGrown b (b || holds_call y) x (exec qp line ls x y k)
      exec_grown (block l ss) b t a w line ls x k = all_exec_grown ss b t a w ls x k
      exec_grown (put_local l i op e) b t a w line ls x k = grown_any written ops s.class b (b || false) x _ _ (λ v k. grew _ x k (grows_self written ops s.class b (b || false) x))
      exec_grown (put_field l f op e) b t a w line ls x k = grown_any written ops s.class b (b || false) x _ _ (λ v k. grown_put written ops s.class b ls x f 0 _ k a.0 w t.1.1)
      exec_grown (put_item l f i op e) b t a w line ls x k =
          grown_any written ops s.class b (b || false) x _ _ (λ u k. grown_any written ops s.class b (b || false) x (section_item_at line x f u k) _ (λ item k. grown_any written ops s.class b (b || false) x _ _ (λ v k. grown_put written ops s.class b ls x f item.place _ k a.0 w t.1.1)))
      exec_grown (invoke l e op es) b t a w line ls x k =
          grown_with written ops s.class b (b || true) x (λ i. i.op ≡ op) _ _ (due_calls (functions_of p.functions h).call (section_place h r x.own line ls) e op es k) (λ i k is. grown_call written ops s.class b ls x i k (subst (λ z. Contains ops z) (sym is) w))
      exec_grown (if_else l c y z) b t a w line ls x k =
          let up : Bool = b || is_some_of (calls_of y ++ calls_of z) in
          grown_any written ops s.class b up x _ _ (λ v k. grown_choose written ops s.class b up x v _ _
          (grown_weak written ops s.class b b (b || holds_call y) up x _ (rise_self b) (rise_part b (calls_of y) (calls_of z)) (exec_grown y b t.1 a.1 w.0 (line_of y) ls x k))
          (grown_weak written ops s.class b b (b || holds_call z) up x _ (rise_self b) (rise_other b (calls_of y) (calls_of z)) (exec_grown z b t.2 a.2 w.1 (line_of z) ls x k)))
      exec_grown (while_loop l c y) b t a w line ls x k =
          let up : Bool = b || holds_call y in
          grown_any written ops s.class b up x _ _ (λ v k. grown_choose written ops s.class b up x v _ _
          (grown_any written ops s.class b up x (take_step k) _ (λ z k. grown_on written ops s.class b up x _ _
          (grown_weak written ops s.class b up (up || holds_call y) up x _ (rise_or b (holds_call y)) (rise_again b (holds_call y) (holds_call y) (λ e. e)) (exec_grown y up t.1 a.1 w (line_of y) ls x k))
          (λ ls x k. all b line ls x (while_loop l c y) k t a w)))
          (grew ls x k (grows_self written ops s.class b up x)))
      exec_grown (for_loop l site part first c next y) b t a w line ls x k =
          let cs : List OpId = calls_of first ++ (calls_of next ++ calls_of y) in
          let up : Bool = b || is_some_of cs in
          let rise : Rise b up = rise_or b (is_some_of cs) in
          grown_on written ops s.class b up x _ _
          (grown_weak written ops s.class b up (up || holds_call first) up x _ rise (rise_again b (is_some_of cs) (holds_call first) (λ e. some_left (calls_of first) (calls_of next ++ calls_of y) e)) (exec_grown first up t.0 a.0 w.0 line ls x k))
          (λ ls x k. grown_any written ops s.class b up x _ _ (λ v k. grown_choose written ops s.class b up x v _ _
          (grown_any written ops s.class b up x (take_step k) _ (λ z k. grown_on written ops s.class b up x _ _
          (grown_on written ops s.class b up x _ _
          (grown_weak written ops s.class b up (up || holds_call y) up x _ rise (rise_again b (is_some_of cs) (holds_call y) (λ e. some_right (calls_of next) (calls_of y) (some_right (calls_of first) (calls_of next ++ calls_of y) e))) (exec_grown y up t.3 a.3 w.2 (line_of y) ls x k))
          (λ ls x k. grown_weak written ops s.class b up (up || holds_call next) up x _ rise (rise_again b (is_some_of cs) (holds_call next) (λ e. some_left (calls_of next) (calls_of y) (some_right (calls_of first) (calls_of next ++ calls_of y) e))) (exec_grown next up t.2 a.2 w.1 line ls x k)))
          (λ ls x k. all b line ls x (for_loop l site part first c next y) k t a w)))
          (grew ls x k (grows_self written ops s.class b up x))))
      exec_grown (return_value l e) b t a w line ls x k = grown_any written ops s.class b (b || false) x _ _ (λ v k. grew_back v x k)
      exec_grown (new_local l i c) b t a w line ls x k = absurd a
      exec_grown (new_field l f c) b t a w line ls x k = absurd a
      exec_grown (new_item l f i c) b t a w line ls x k = absurd a
      exec_grown (print_value l e) b t a w line ls x k = absurd a

      all_exec_grown : (ys : Statements) (b : Bool) → StatementsTyped p s ys → AreSeparated p written b ys → AreKept written ops ys → (ls : List Datum) (x : Section) (k : ℕ) → SectionGrown b (b || is_some_of (calls_of_all ys)) x (exec_all qp ls x ys k)
      all_exec_grown no_statements b t a w ls x k = grew ls x k (grows_self written ops s.class b (b || false) x)
      all_exec_grown (statement_and y rest) b t a w ls x k =
          let mid : Bool = b || holds_call y in
          let up : Bool = b || is_some_of (calls_of y ++ calls_of_all rest) in
          grown_on written ops s.class b up x _ _
          (grown_weak written ops s.class b b mid up x _ (rise_self b) (rise_part b (calls_of y) (calls_of_all rest)) (exec_grown y b t.0 a.0 w.0 (line_of y) ls x k))
          (λ ls x k. grown_weak written ops s.class b mid (mid || is_some_of (calls_of_all rest)) up x _ (rise_or b (holds_call y)) (rise_two b (calls_of y) (calls_of_all rest)) (all_exec_grown rest mid t.1 a.1 w.1 ls x k))

    turn_grown : (y : Statement) (b : Bool) → StatementTyped p s y → IsSeparated p written b y → IsKept written ops y → (line : ℕ) (ls : List Datum) (x : Section) (k : ℕ) → SectionGrown b (b || holds_call y) x (turn qp line ls x y k)
    turn_grown (while_loop l c y) b t a w line ls x k = exec_grown (while_loop l c y) b t a w line ls x k
    turn_grown (for_loop l site part first c next y) b t a w line ls x k =
        let cs : List OpId = calls_of first ++ (calls_of next ++ calls_of y) in
        let up : Bool = b || is_some_of cs in
        let rise : Rise b up = rise_or b (is_some_of cs) in
        grown_any written ops s.class b up x _ _ (λ v k. grown_choose written ops s.class b up x v _ _
        (grown_any written ops s.class b up x (take_step k) _ (λ z k. grown_on written ops s.class b up x _ _
        (grown_on written ops s.class b up x _ _
        (grown_weak written ops s.class b up (up || holds_call y) up x _ rise (rise_again b (is_some_of cs) (holds_call y) (λ e. some_right (calls_of next) (calls_of y) (some_right (calls_of first) (calls_of next ++ calls_of y) e))) (exec_grown y up t.3 a.3 w.2 (line_of y) ls x k))
        (λ ls x k. grown_weak written ops s.class b up (up || holds_call next) up x _ rise (rise_again b (is_some_of cs) (holds_call next) (λ e. some_left (calls_of next) (calls_of y) (some_right (calls_of first) (calls_of next ++ calls_of y) e))) (exec_grown next up t.2 a.2 w.1 line ls x k)))
        (λ ls x k. all b line ls x (for_loop l site part first c next y) k t a w)))
        (grew ls x k (grows_self written ops s.class b up x)))
    turn_grown (block l ss) b t a w line ls x k = grew ls x k (grows_self written ops s.class b _ x)
    turn_grown (put_local l i op e) b t a w line ls x k = grew ls x k (grows_self written ops s.class b _ x)
    turn_grown (put_field l f op e) b t a w line ls x k = grew ls x k (grows_self written ops s.class b _ x)
    turn_grown (put_item l f i op e) b t a w line ls x k = grew ls x k (grows_self written ops s.class b _ x)
    turn_grown (invoke l e op es) b t a w line ls x k = grew ls x k (grows_self written ops s.class b _ x)
    turn_grown (if_else l c y z) b t a w line ls x k = grew ls x k (grows_self written ops s.class b _ x)
    turn_grown (return_value l e) b t a w line ls x k = grew ls x k (grows_self written ops s.class b _ x)
    turn_grown (new_local l i c) b t a w line ls x k = absurd a
    turn_grown (new_field l f c) b t a w line ls x k = absurd a
    turn_grown (new_item l f i c) b t a w line ls x k = absurd a
    turn_grown (print_value l e) b t a w line ls x k = absurd a

  loops_grown : (n : ℕ) → AgainGrown (loops n p h r)
  loops_grown zero = λ b line ls x y k t a w. grew_over x
  loops_grown (suc n) = λ b line ls x y k t a w. turn_grown (loops n p h r) (loops_grown n) y b t a w line ls x k

  loops_of_grown : AgainGrown (loops_of p h r)
  loops_of_grown = λ b line ls x y k t a w. loops_grown (suc k) b line ls x y k t a w

  pub section_grown : (y : Statement) (b : Bool) → StatementTyped p s y → IsSeparated p written b y → IsKept written ops y → (line : ℕ) (ls : List Datum) (x : Section) (k : ℕ) → GrownFlow written ops s.class b (b || holds_call y) x (exec (section_parts p h r) line ls x y k)
  section_grown y b t a w line ls x k = exec_grown (loops_of p h r) loops_of_grown y b t a w line ls x k

  pub all_section_grown : (ys : Statements) (b : Bool) → StatementsTyped p s ys → AreSeparated p written b ys → AreKept written ops ys → (ls : List Datum) (x : Section) (k : ℕ) → GrownFlow written ops s.class b (b || is_some_of (calls_of_all ys)) x (exec_all (section_parts p h r) ls x ys k)
  all_section_grown ys b t a w ls x k = all_exec_grown (loops_of p h r) loops_of_grown ys b t a w ls x k

  pub loop_section_grown : (y : Statement) (b : Bool) → StatementTyped p s y → IsSeparated p written b y → IsKept written ops y → (line : ℕ) (ls : List Datum) (x : Section) (k : ℕ) → GrownFlow written ops s.class b (b || holds_call y) x (loops_of p h r line ls x y k)
  loop_section_grown y b t a w line ls x k = loops_of_grown b line ls x y k t a w

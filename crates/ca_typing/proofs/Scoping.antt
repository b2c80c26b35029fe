-- In a body that is judged fine the local that a `for` declares is named by the condition, the last part and the body of
-- that loop alone.
use Rattle.std.proofs.Common.{◌≡◌, ◌⊎◌, inl, inr, ◌≤◌, ◌<◌, ℕ, ◌+◌, List, [], ◌∷◌, ◌++◌, Bool, true, false, ◌||◌, cond, refl, sym, subst, ap, ◌∙◌, arith}
use Rattle.std.specs.Prelude.{Option, Some, None, nat_eq, length}
use Rattle.std.proofs.lemmas.Bool.{eqb-true, or_cases, or_left, or_right}
use Rattle.std.proofs.lemmas.List.{length-append}
use Rattle.ca_tree.specs.declared.name.Place.{Place}
use Rattle.ca_tree.specs.declared.tree.TypeNode.{TypeNode}
use Rattle.ca_tree.specs.declared.tree.AssignOp.{AssignOp}
use Rattle.ca_tree.specs.declared.tree.AssignOp.TheVariants.{Put}
use Rattle.ca_tree.specs.Plain.{Expression, RightSide, value, new, Statement, Statements, empty, block, local, assign, call_statement, if_only, if_else, while_loop, for_loop, return_value, print_value, no_statements, statement_and}
use Rattle.ca_program.specs.declared.program.LocalId.{LocalId}
use Rattle.ca_program.specs.declared.program.LoopId.{LoopId}
use Rattle.ca_program.specs.declared.program.ValueType.{ValueType}
use Rattle.ca_program.specs.declared.program.FirstPart.{FirstPart}
use Rattle.ca_program.specs.declared.program.FirstPart.TheVariants.{Declares, Assigns}
use Rattle.ca_program.specs.Plain as program
use Rattle.ca_parallel.specs.Scoped.{names, any_names, counts, any_counts, names_outside, any_names_outside}
use Rattle.ca_resolve.specs.Judged.{Judged, fine, both, within, unless, beside}
use Rattle.ca_resolve.specs.Scopes.{Target, to_local, to_field, to_item, Ty, long, truth, pointer, undefined, no_object, VisibleLocal, Scope, ty_of, find_local}
use Rattle.ca_resolve.specs.Values.{place_of, in_order, judge_value, judge_call, judge_target}
use Rattle.ca_types.specs.Rules.{local_once, condition_agrees, printed_agrees, compound_agrees, writes_no_field, called_operation, creates_nothing, prints_nothing, return_stands, local_limit}
use Rattle.ca_types.specs.Statements.{Env, enter_block, leave_block, counted, declare, behind, behind_all, class_defined, judge_type, Source, of_value, of_new, creates, judge_wanted, new_agrees, judge_right, put, judge_put_target, right_ty, judge_assign, start_value, judge_start, start_creates, judge_local, judge_call_statement, judge_condition, judge_return, judge_printed, judge_print, nothing, first_part, type_of, statements_in, judge_statement, judge_statements}
use Rattle.ca_typing.proofs.Judging.{same_fine, within_fine, made_fine, both_fine, unless_fine, beside_fine, for_fine, if_fine}
use Rattle.ca_typing.proofs.Statements.{Continues, from_none, none_behind, statements_fine}
use Rattle.ca_typing.proofs.Visible.{pick, Visible, Names, TargetNames, value_names, for_value_names, call_names, target_names}

-- ---- where a statement stands and where the next one does: the visible locals, and how many the body has declared

abbrev pub Between : ℕ → ℕ → ℕ → Type 0
Between k n l = (k ≤ n) × (n < l)

abbrev pub Bounded : List VisibleLocal → ℕ → Type 0
Bounded ls k = (n : ℕ) → Visible ls n → n < k

pub record Onward (ls : List VisibleLocal) (k : ℕ) (ms : List VisibleLocal) (l : ℕ) : Type 0 where
  pub grows : k ≤ l
  pub bounded : Bounded ms l
  pub seen : (n : ℕ) → Visible ms n → Visible ls n ⊎ Between k n l

-- what is named between the two, and what is declared by a `for`
pub record Stands (ls : List VisibleLocal) (k : ℕ) (ms : List VisibleLocal) (l : ℕ) (P Q : ℕ → Type 0) : Type 0 where
  pub named : (n : ℕ) → P n → Visible ls n ⊎ Between k n l
  pub there : (n : ℕ) → Q n → Between k n l
  pub gone : (n : ℕ) → Q n → Visible ms n → ⊥
  pub apart : (n : ℕ) → Q n → P n → ⊥

abbrev Either : (ℕ → Type 0) → (ℕ → Type 0) → ℕ → Type 0
Either P Q n = P n ⊎ Q n

abbrev Never : ℕ → Type 0
Never n = ⊥

-- the test tells so
abbrev pub Told : (ℕ → Bool) → ℕ → Type 0
Told f n = f n ≡ true

pub stays : (ls : List VisibleLocal) (k : ℕ) → Bounded ls k → Onward ls k ls k
stays ls k b = record { grows = omega arith; bounded = b; seen = λ n v. inl v }

then : (ls : List VisibleLocal) (k : ℕ) (ms : List VisibleLocal) (l : ℕ) (os : List VisibleLocal) (m : ℕ) → Onward ls k ms l → Onward ms l os m → Onward ls k os m
then ls k ms l os m x y = record {
  grows = let p = x.grows in let q = y.grows in omega (arith, p, q);
  bounded = y.bounded;
  seen = λ n v. pick (y.seen n v) (λ w. pick (x.seen n w) (λ u. inl u) (λ (b : Between k n l). let q = y.grows in let r = b.1 in inr (b.0, omega (arith, q, r)))) (λ (b : Between l n m). let p = x.grows in let r = b.0 in inr (omega (arith, p, r), b.1));
}

-- inside a block and then behind it
leaves : (ls : List VisibleLocal) (k : ℕ) (ms : List VisibleLocal) (l : ℕ) → Bounded ls k → k ≤ l → Onward ls k ls l
leaves ls k ms l b g = record { grows = g; bounded = λ n v. let h = b n v in omega (arith, g, h); seen = λ n v. inl v }

left : {ls ms : List VisibleLocal} {k l : ℕ} {P Q : ℕ → Type 0} → Bounded ls k → Stands ls k ms l P Q → Stands ls k ls l P Q
left b s = record {
  named = s.named;
  there = s.there;
  gone = λ n q v. let h = b n v in let t = (s.there n q).0 in absurd (omega (arith, h, t));
  apart = s.apart;
}

narrow : {ls ms : List VisibleLocal} {k l : ℕ} {P Q P' Q' : ℕ → Type 0} → ((n : ℕ) → P' n → P n) → ((n : ℕ) → Q' n → Q n) → Stands ls k ms l P Q → Stands ls k ms l P' Q'
narrow f g s = record {
  named = λ n p. s.named n (f n p);
  there = λ n q. s.there n (g n q);
  gone = λ n q. s.gone n (g n q);
  apart = λ n q p. s.apart n (g n q) (f n p);
}

join : {ls ms os : List VisibleLocal} {k l m : ℕ} {P Q P' Q' : ℕ → Type 0} → Bounded ls k → Onward ls k ms l → Onward ms l os m → Stands ls k ms l P Q → Stands ms l os m P' Q' → Stands ls k os m (Either P P') (Either Q Q')
join {ls} {ms} {os} {k} {l} {m} {P} {Q} {P'} {Q'} b x y s t = record { named = named; there = there; gone = gone; apart = apart }
  where
    named : (n : ℕ) → Either P P' n → Visible ls n ⊎ Between k n m
    named n (inl p) = pick (s.named n p) (λ v. inl v) (λ (w : Between k n l). let g = y.grows in let h = w.1 in inr (w.0, omega (arith, g, h)))
    named n (inr p) =
        pick (t.named n p) (λ v. pick (x.seen n v) (λ u. inl u) (λ (w : Between k n l). let g = y.grows in let h = w.1 in inr (w.0, omega (arith, g, h))))
        (λ (w : Between l n m). let g = x.grows in let h = w.0 in inr (omega (arith, g, h), w.1))

    there : (n : ℕ) → Either Q Q' n → Between k n m
    there n (inl q) = let w = s.there n q in let h = w.1 in let g = y.grows in (w.0, omega (arith, g, h))
    there n (inr q) = let w = t.there n q in let h = w.0 in let g = x.grows in (omega (arith, g, h), w.1)

    gone : (n : ℕ) → Either Q Q' n → Visible os n → ⊥
    gone n (inl q) v = pick (y.seen n v) (λ u. s.gone n q u) (λ (w : Between l n m). let h = (s.there n q).1 in let i = w.0 in absurd (omega (arith, h, i)))
    gone n (inr q) v = t.gone n q v

    apart : (n : ℕ) → Either Q Q' n → Either P P' n → ⊥
    apart n (inl q) (inl p) = s.apart n q p
    apart n (inl q) (inr p) = pick (t.named n p) (λ v. s.gone n q v) (λ (w : Between l n m). let h = (s.there n q).1 in let i = w.0 in absurd (omega (arith, h, i)))
    apart n (inr q) (inl p) =
        pick (s.named n p) (λ v. let h = b n v in let i = (t.there n q).0 in let g = x.grows in absurd (omega (arith, h, i, g)))
        (λ (w : Between k n l). let h = w.1 in let i = (t.there n q).0 in absurd (omega (arith, h, i)))
    apart n (inr q) (inr p) = t.apart n q p

reads : {ls : List VisibleLocal} {k : ℕ} {P : ℕ → Type 0} → ((n : ℕ) → P n → Visible ls n) → Stands ls k ls k P Never
reads f = record { named = λ n p. inl (f n p); there = λ n q. absurd q; gone = λ n q v. q; apart = λ n q p. q }

-- a statement without a `for`
leaf : {ls ms : List VisibleLocal} {k l : ℕ} (x : program.Statement) → ((n : ℕ) → Told (names_outside x) n → Visible ls n ⊎ Between k n l) → ((n : ℕ) → counts x n ≡ false) → Stands ls k ms l (Told (names_outside x)) (Told (counts x))
leaf x f g = record {
  named = f;
  there = λ n q. let h = g n in absurd cc;
  gone = λ n q v. let h = g n in absurd cc;
  apart = λ n q p. let h = g n in absurd cc;
}

-- ---- where the next statement stands

abbrev pub Goes : Env → Env → Type 0
Goes c d = Onward c.scope.locals (length c.locals) d.scope.locals (length d.locals)

abbrev pub BoundedAt : Env → Type 0
BoundedAt c = Bounded c.scope.locals (length c.locals)

pub declares : (c : Env) (ty : Ty) (name : List ℕ) → BoundedAt c → Goes c (declare c ty name)
declares c ty name b =
    let one : length (declare c ty name).locals ≡ length c.locals + 1 = length-append c.locals (type_of ty ∷ []) in
    record {
      grows = omega (arith, one);
      bounded = λ n v. pick v (λ (e : length c.locals ≡ n). omega (arith, one, e)) (λ w. let h = b n w in omega (arith, one, h));
      seen = λ n v. pick v (λ (e : length c.locals ≡ n). inr (omega (arith, e), omega (arith, one, e))) (λ w. inl w);
    }

abbrev back : (c inside : Env) → BoundedAt c → length c.locals ≤ length inside.locals → Goes c (leave_block c inside)
back c inside b g = leaves c.scope.locals (length c.locals) inside.scope.locals (length inside.locals) b g

mutual
  goes : (c : Env) (s : Statement) → BoundedAt c → Goes c (behind c s)
  goes c (empty at) b = stays c.scope.locals (length c.locals) b
  goes c (block at ss) b = back c (behind_all (enter_block c) ss) b (all_go (enter_block c) ss b).grows
  goes c (local at ty name name_at right) b = declares c (ty_of c.scope.classes.names ty) name b
  goes c (assign at target op right) b = stays c.scope.locals (length c.locals) b
  goes c (call_statement at e) b = stays c.scope.locals (length c.locals) b
  goes c (if_only at e s) b = back c (behind (enter_block c) s) b (goes (enter_block c) s b).grows
  goes c (if_else at e x y) b =
      let first = behind (enter_block c) x in
      let g = back c first b (goes (enter_block c) x b).grows in
      let h = goes (enter_block (leave_block c first)) y g.bounded in
      let p = g.grows in
      let q = h.grows in
      back c (behind (enter_block (leave_block c first)) y) b (omega (arith, p, q))
  goes c (while_loop at e s) b = back c (behind (enter_block c) s) b (goes (enter_block c) s b).grows
  goes c (for_loop at first e next s) b =
      let begun = behind (enter_block (counted c)) first in
      let stepped = behind (enter_block begun) next in
      let f = goes (enter_block (counted c)) first b in
      let g = back begun stepped f.bounded (goes (enter_block begun) next f.bounded).grows in
      let h = goes (enter_block (leave_block begun stepped)) s g.bounded in
      let p = f.grows in
      let q = g.grows in
      let r = h.grows in
      back c (behind (enter_block (leave_block begun stepped)) s) b (omega (arith, p, q, r))
  goes c (return_value at e) b = stays c.scope.locals (length c.locals) b
  goes c (print_value at e) b = stays c.scope.locals (length c.locals) b

  all_go : (c : Env) (ss : Statements) → BoundedAt c → Goes c (behind_all c ss)
  all_go c no_statements b = stays c.scope.locals (length c.locals) b
  all_go c (statement_and s ss) b =
      let f = goes c s b in
      let g = all_go (behind c s) ss f.bounded in
      then c.scope.locals (length c.locals) (behind c s).scope.locals (length (behind c s).locals) (behind_all c (statement_and s ss)).scope.locals (length (behind_all c (statement_and s ss)).locals) f g

-- ---- what stands in statements

module _ (s : Scope) where
  abbrev SourceNames : Source → Type 0
  SourceNames (of_value e) = Names s e
  SourceNames (of_new c) = Unit {0}

  wanted_names : (wanted : Option Ty) (e : Expression) (x : program.Expression) → judge_wanted s wanted e ≡ fine x → Names s x
  wanted_names None e x h = let w = made_fine (judge_value s e) (λ (v : program.Expression × Ty). v.0) x h in subst (Names s) w.2 (value_names s e w.0 w.1)
  wanted_names (Some t) e x h = for_value_names s (t ∷ []) e (place_of e) x h

  right_names : (wanted : Option Ty) (r : RightSide) (x : Source) → judge_right s wanted r ≡ fine x → SourceNames x
  right_names wanted (value e) x h = let w = made_fine (judge_wanted s wanted e) (λ v. of_value v) x h in subst SourceNames w.2 (wanted_names wanted e w.0 w.1)
  right_names wanted (new name at) x h =
      let w = within_fine (class_defined s.classes.names name at) (λ c. unless (new_agrees wanted c at) (of_new c)) x h in
      subst SourceNames (unless_fine (new_agrees wanted w.0 at) (of_new w.0) x w.2) tt

  start_names : (t : Ty) → Names s (start_value t)
  start_names long n k = absurd cc
  start_names truth n k = absurd cc
  start_names (pointer c) n k = absurd cc
  start_names (undefined name) n k = absurd cc
  start_names no_object n k = absurd cc

  begins_names : (t : Ty) (right : Option RightSide) (x : Source) → judge_start s t right ≡ fine x → SourceNames x
  begins_names t None x h = subst SourceNames (same_fine (of_value (start_value t)) x h) (start_names t)
  begins_names t (Some right) x h = right_names (Some t) right x h

  condition_names : (e : Expression) (x : program.Expression) → judge_condition s e ≡ fine x → Names s x
  condition_names e x h =
      let w = within_fine (judge_value s e) (λ (v : program.Expression × Ty). unless (condition_agrees v.1 (place_of e)) v.0) x h in
      subst (Names s) (unless_fine (condition_agrees w.0.1 (place_of e)) w.0.0 x w.2) (value_names s e w.0 w.1)

  printed_names : (e : Expression) (x : program.Expression) → judge_printed s e ≡ fine x → Names s x
  printed_names e x h =
      let w = within_fine (judge_value s e) (λ (v : program.Expression × Ty). unless (printed_agrees v.1 (place_of e)) v.0) x h in
      subst (Names s) (unless_fine (printed_agrees w.0.1 (place_of e)) w.0.0 x w.2) (value_names s e w.0 w.1)

  abbrev Sees : program.Statement → Type 0
  Sees x = (n : ℕ) → Told (names_outside x) n → Visible s.locals n

  put_sees : (line : ℕ) (t : Target) (op : AssignOp) (r : Source) → TargetNames s t → SourceNames r → Sees (put line t op r)
  put_sees line (to_local l) op (of_value e) h g n k = pick (or_cases (nat_eq l.0 n) (names e n) k) (λ i. subst (Visible s.locals) (eqb-true l.0 n i) h) (λ i. g n i)
  put_sees line (to_local l) op (of_new c) h g n k = subst (Visible s.locals) (eqb-true l.0 n k) h
  put_sees line (to_field f) op (of_value e) h g n k = g n k
  put_sees line (to_field f) op (of_new c) h g n k = absurd cc
  put_sees line (to_item f i) op (of_value e) h g n k = pick (or_cases (names i n) (names e n) k) (λ j. h n j) (λ j. g n j)
  put_sees line (to_item f i) op (of_new c) h g n k = h n k

put_counts_none : (line : ℕ) (t : Target) (op : AssignOp) (r : Source) (n : ℕ) → counts (put line t op r) n ≡ false
put_counts_none line (to_local l) op (of_value e) n = refl
put_counts_none line (to_local l) op (of_new c) n = refl
put_counts_none line (to_field f) op (of_value e) n = refl
put_counts_none line (to_field f) op (of_new c) n = refl
put_counts_none line (to_item f i) op (of_value e) n = refl
put_counts_none line (to_item f i) op (of_new c) n = refl

abbrev StandsAt : Env → Env → program.Statement → Type 0
StandsAt c d x = Stands c.scope.locals (length c.locals) d.scope.locals (length d.locals) (Told (names_outside x)) (Told (counts x))

sees_at : (c : Env) (x y : program.Statement) → Sees c.scope x → ((n : ℕ) → counts x n ≡ false) → x ≡ y → StandsAt c c y
sees_at c x y f g e = subst (λ z. StandsAt c c z) e (leaf x (λ n p. inl (f n p)) g)

module _ (c : Env) where
  assign_stands : (at : Place) (target : Expression) (op : AssignOp) (right : RightSide) (x : program.Statement) → judge_assign c at (judge_put_target c op target) op right ≡ fine x → StandsAt c c x
  assign_stands at target op right x h =
      let goal = judge_put_target c op target in
      let sources = judge_right c.scope (right_ty op goal) right in
      let creating = creates_nothing c.result (creates right) at in
      let w = within_fine (both goal sources) (λ (r : (Target × Ty) × Source). unless creating (put at.line r.0.0 op r.1)) x h in
      let b = both_fine goal sources w.0 w.1 in
      let t = within_fine (judge_target c.scope target) (λ (r : Target × Ty). beside (compound_agrees op r.1 (place_of target)) (unless (writes_no_field c.result r.0 (place_of target)) r)) w.0.0 b.0 in
      let u = beside_fine (compound_agrees op t.0.1 (place_of target)) (unless (writes_no_field c.result t.0.0 (place_of target)) t.0) w.0.0 t.2 in
      let same = unless_fine (writes_no_field c.result t.0.0 (place_of target)) t.0 w.0.0 u.1 in
      let named = subst (λ (r : Target × Ty). TargetNames c.scope r.0) same (target_names c.scope target t.0 t.1) in
      let source = right_names c.scope (right_ty op goal) right w.0.1 b.1 in
      sees_at c (put at.line w.0.0.0 op w.0.1) x (put_sees c.scope at.line w.0.0.0 op w.0.1 named source) (put_counts_none at.line w.0.0.0 op w.0.1)
      (unless_fine creating (put at.line w.0.0.0 op w.0.1) x w.2)

  call_stands : (at : Place) (e : Expression) (x : program.Statement) → judge_call_statement c at e ≡ fine x → StandsAt c c x
  call_stands at e x h =
      let w = within_fine (judge_call c.scope e) (λ i. within (called_operation c.result i.callee (place_of e)) (λ o. fine (program.invoke at.line i.receiver o (in_order i.arguments)))) x h in
      let u = made_fine (called_operation c.result w.0.callee (place_of e)) (λ o. program.invoke at.line w.0.receiver o (in_order w.0.arguments)) x w.2 in
      let t = call_names c.scope e w.0 w.1 in
      sees_at c (program.invoke at.line w.0.receiver u.0 (in_order w.0.arguments)) x
      (λ n k. pick (or_cases (names w.0.receiver n) (any_names (in_order w.0.arguments) n) k) (t.0 n) (t.1 n)) (λ n. refl) u.2

  return_stands_at : (at : Place) (e : Expression) (x : program.Statement) → judge_return c at e ≡ fine x → StandsAt c c x
  return_stands_at at e x h =
      let w = within_fine (judge_wanted c.scope c.result e) (λ v. unless (return_stands c.result at) (program.return_value at.line v)) x h in
      sees_at c (program.return_value at.line w.0) x (wanted_names c.scope c.result e w.0 w.1) (λ n. refl)
      (unless_fine (return_stands c.result at) (program.return_value at.line w.0) x w.2)

  print_stands : (at : Place) (e : Expression) (x : program.Statement) → judge_print c at e ≡ fine x → StandsAt c c x
  print_stands at e x h =
      let w = within_fine (judge_printed c.scope e) (λ v. unless (prints_nothing c.result at) (program.print_value at.line v)) x h in
      sees_at c (program.print_value at.line w.0) x (printed_names c.scope e w.0 w.1) (λ n. refl)
      (unless_fine (prints_nothing c.result at) (program.print_value at.line w.0) x w.2)

  -- the local that is declared, and a first value that doesn't name it
  record Declared (x : program.Statement) : Type 0 where
    pub line : ℕ
    pub source : Source
    pub is : put line (to_local (record { 0 = length c.locals })) Put source ≡ x
    pub names_none : SourceNames c.scope source

  declared : (at : Place) (ty : TypeNode) (name : List ℕ) (name_at : Place) (right : Option RightSide) (x : program.Statement) → judge_local c at ty name name_at right ≡ fine x → Declared x
  declared at ty name name_at right x h =
      let wanted = ty_of c.scope.classes.names ty in
      let typed = judge_type c.scope.classes.names ty in
      let start = judge_start c.scope wanted right in
      let limit = local_limit (length c.locals) name_at in
      let once = local_once c.first (find_local c.scope.locals name) name_at in
      let creating = creates_nothing c.result (start_creates right) at in
      let made = λ (r : ValueType × Source). put at.line (to_local (record { 0 = length c.locals })) Put r.1 in
      let w = within_fine (beside limit (both typed start)) (λ (r : ValueType × Source). beside creating (unless once (made r))) x h in
      let k = beside_fine creating (unless once (made w.0)) x w.2 in
      let b = both_fine typed start w.0 (beside_fine limit (both typed start) w.0 w.1).1 in
      record { line = at.line; source = w.0.1; is = unless_fine once (made w.0) x k.1; names_none = begins_names c.scope wanted right w.0.1 b.1 }

  put_declares : (line : ℕ) (r : Source) (n : ℕ) → SourceNames c.scope r → Told (names_outside (put line (to_local (record { 0 = length c.locals })) Put r)) n → (length c.locals ≡ n) ⊎ Visible c.scope.locals n
  put_declares line (of_value e) n g k = pick (or_cases (nat_eq (length c.locals) n) (names e n) k) (λ i. inl (eqb-true (length c.locals) n i)) (λ i. inr (g n i))
  put_declares line (of_new k) n g h = inl (eqb-true (length c.locals) n h)

  local_stands : (ty : Ty) (name : List ℕ) (x : program.Statement) → Declared x → StandsAt c (declare c ty name) x
  local_stands ty name x d =
      let one : length (declare c ty name).locals ≡ length c.locals + 1 = length-append c.locals (type_of ty ∷ []) in
      subst (λ y. StandsAt c (declare c ty name) y) d.is
      (leaf (put d.line (to_local (record { 0 = length c.locals })) Put d.source)
      (λ n p. pick (put_declares d.line d.source n d.names_none p) (λ (e : length c.locals ≡ n). inr (omega (arith, e), omega (arith, one, e))) (λ v. inl v))
      (put_counts_none d.line (to_local (record { 0 = length c.locals })) Put d.source))

-- ---- lists of statements

any_outside_more : (ss : List program.Statement) (x : program.Statement) (n : ℕ) → Told (any_names_outside (statements_in (ss ++ x ∷ []))) n → Either (Told (any_names_outside (statements_in ss))) (Told (names_outside x)) n
any_outside_more [] x n h = pick (or_cases (names_outside x n) false h) (λ i. inr i) (λ i. absurd cc)
any_outside_more (s ∷ ss) x n h =
    pick (or_cases (names_outside s n) (any_names_outside (statements_in (ss ++ x ∷ [])) n) h) (λ i. inl (or_left (names_outside s n) (any_names_outside (statements_in ss) n) i))
    (λ i. pick (any_outside_more ss x n i) (λ j. inl (or_right (names_outside s n) (any_names_outside (statements_in ss) n) j)) (λ j. inr j))

any_counts_more : (ss : List program.Statement) (x : program.Statement) (n : ℕ) → Told (any_counts (statements_in (ss ++ x ∷ []))) n → Either (Told (any_counts (statements_in ss))) (Told (counts x)) n
any_counts_more [] x n h = pick (or_cases (counts x n) false h) (λ i. inr i) (λ i. absurd cc)
any_counts_more (s ∷ ss) x n h =
    pick (or_cases (counts s n) (any_counts (statements_in (ss ++ x ∷ [])) n) h) (λ i. inl (or_left (counts s n) (any_counts (statements_in ss) n) i))
    (λ i. pick (any_counts_more ss x n i) (λ j. inl (or_right (counts s n) (any_counts (statements_in ss) n) j)) (λ j. inr j))

abbrev pub AllStand : Env → Env → List program.Statement → Type 0
AllStand b d xs = Stands b.scope.locals (length b.locals) d.scope.locals (length d.locals) (Told (any_names_outside (statements_in xs))) (Told (any_counts (statements_in xs)))

pub none_stand : (c : Env) → AllStand c c []
none_stand c = record { named = λ n p. absurd cc; there = λ n p. absurd cc; gone = λ n p v. absurd cc; apart = λ n p q. absurd cc }

-- ---- a `for`

abbrev Loop : ℕ → LoopId → FirstPart → program.Statement → program.Expression → program.Statement → program.Statement → program.Statement
Loop line site part first e next body = program.for_loop line site part first e next body

abbrev Rest : program.Expression → program.Statement → program.Statement → ℕ → Type 0
Rest e next body = Either (Told (names e)) (Either (Told (names_outside next)) (Told (names_outside body)))

abbrev RestCounts : program.Statement → program.Statement → ℕ → Type 0
RestCounts next body = Either Never (Either (Told (counts next)) (Told (counts body)))

rest_told : (e : program.Expression) (next body : program.Statement) (n : ℕ) → (names e n || (names_outside next n || names_outside body n)) ≡ true → Rest e next body n
rest_told e next body n h =
    pick (or_cases (names e n) (names_outside next n || names_outside body n) h) (λ i. inl i)
    (λ i. inr (pick (or_cases (names_outside next n) (names_outside body n) i) (λ j. inl j) (λ j. inr j)))

module _ (ls ms : List VisibleLocal) (k l m : ℕ) (bounded : Bounded ls k) (begun : Onward ls k ms l) (turned : Onward ms l ms m) where
  -- whose first part is as any other statement
  general : (x first next body : program.Statement) (e : program.Expression) → ((n : ℕ) → names_outside x n ≡ (names_outside first n || (names e n || (names_outside next n || names_outside body n)))) → ((n : ℕ) → counts x n ≡ counts body n)
      → Stands ls k ms l (Told (names_outside first)) (Told (counts first)) → Stands ms l ms m (Rest e next body) (RestCounts next body) → Stands ls k ls m (Told (names_outside x)) (Told (counts x))
  general x first next body e f g s t =
      narrow (λ n p. pick (or_cases (names_outside first n) (names e n || (names_outside next n || names_outside body n)) (sym (f n) ∙ p)) (λ i. inl i) (λ i. inr (rest_told e next body n i)))
      (λ n q. inr (inr (inr (sym (g n) ∙ q)))) (left bounded (join bounded begun turned s t))

  -- whose first part declares local k, with a first value
  declaring : (line at : ℕ) (site : LoopId) (op : AssignOp) (i : LocalId) (start e : program.Expression) (next body : program.Statement) → i.0 ≡ k → l ≡ k + 1
      → ((n : ℕ) → names start n ≡ true → Visible ls n) → Stands ms l ms m (Rest e next body) (RestCounts next body)
      → let x = program.for_loop line site Declares (program.put_local at i op start) e next body in Stands ls k ls m (Told (names_outside x)) (Told (counts x))
  declaring line at site op i start e next body is one sees t = record { named = named; there = there; gone = gone; apart = apart }
    where
      inside : (n : ℕ) → cond (nat_eq i.0 n) false (names e n || (names_outside next n || names_outside body n)) ≡ true → (nat_eq i.0 n ≡ false) × Rest e next body n
      inside n h = by (nat_eq i.0 n) refl h
        where
          by : (b : Bool) → nat_eq i.0 n ≡ b → cond b false (names e n || (names_outside next n || names_outside body n)) ≡ true → (nat_eq i.0 n ≡ false) × Rest e next body n
          by true q h = absurd cc
          by false q h = (q, rest_told e next body n h)

      parts : (n : ℕ) → Told (names_outside (program.for_loop line site Declares (program.put_local at i op start) e next body)) n → (names start n ≡ true) ⊎ ((nat_eq i.0 n ≡ false) × Rest e next body n)
      parts n h = pick (or_cases (names start n) (cond (nat_eq i.0 n) false (names e n || (names_outside next n || names_outside body n))) h) (λ j. inl j) (λ j. inr (inside n j))

      loops : (n : ℕ) → Told (counts (program.for_loop line site Declares (program.put_local at i op start) e next body)) n → (nat_eq i.0 n ≡ true) ⊎ (counts body n ≡ true)
      loops n h = or_cases (nat_eq i.0 n) (counts body n) h

      named : (n : ℕ) → Told (names_outside (program.for_loop line site Declares (program.put_local at i op start) e next body)) n → Visible ls n ⊎ Between k n m
      named n h =
          pick (parts n h) (λ j. inl (sees n j))
          (λ (j : (nat_eq i.0 n ≡ false) × Rest e next body n). pick (t.named n j.1)
          (λ v. pick (begun.seen n v) (λ u. inl u) (λ (w : Between k n l). let p = w.1 in let q = turned.grows in inr (w.0, omega (arith, p, q))))
          (λ (w : Between l n m). let p = w.0 in let q = begun.grows in inr (omega (arith, p, q), w.1)))

      there : (n : ℕ) → Told (counts (program.for_loop line site Declares (program.put_local at i op start) e next body)) n → Between k n m
      there n h =
          pick (loops n h) (λ j. let p = eqb-true i.0 n j in let q = turned.grows in (omega (arith, p, is), omega (arith, p, is, one, q)))
          (λ j. let w = t.there n (inr (inr j)) in let p = w.0 in let q = begun.grows in (omega (arith, p, q), w.1))

      gone : (n : ℕ) → Told (counts (program.for_loop line site Declares (program.put_local at i op start) e next body)) n → Visible ls n → ⊥
      gone n h v = let p = (there n h).0 in let q = bounded n v in absurd (omega (arith, p, q))

      apart : (n : ℕ) → Told (counts (program.for_loop line site Declares (program.put_local at i op start) e next body)) n → Told (names_outside (program.for_loop line site Declares (program.put_local at i op start) e next body)) n → ⊥
      apart n h g =
          pick (parts n g) (λ j. gone n h (sees n j))
          (λ (j : (nat_eq i.0 n ≡ false) × Rest e next body n). pick (loops n h) (λ q. let r = j.0 in absurd cc) (λ q. t.apart n (inr (inr q)) j.1))

mutual
  stands : (c : Env) (s : Statement) (x : program.Statement) → BoundedAt c → judge_statement c s ≡ fine x → StandsAt c (behind c s) x
  stands c (empty at) x b h = sees_at c (nothing at.line) x (λ n k. absurd cc) (λ n. refl) (same_fine (nothing at.line) x h)
  stands c (block at ss) x b h =
      let w = made_fine (judge_statements (enter_block c) ss) (λ all. program.block at.line (statements_in all)) x h in
      let inside = behind_all (enter_block c) ss in
      let t = all_stand (enter_block c) (enter_block c) ss [] w.0 b (stays c.scope.locals (length c.locals) b) (none_stand (enter_block c)) (from_none (enter_block c) ss w.0 w.1) in
      subst (λ y. StandsAt c (leave_block c inside) y) w.2 (left b t)
  stands c (local at ty name name_at right) x b h = local_stands c (ty_of c.scope.classes.names ty) name x (declared c at ty name name_at right x h)
  stands c (assign at target op right) x b h = assign_stands c at target op right x h
  stands c (call_statement at e) x b h = call_stands c at e x h
  stands c (if_only at e s) x b h =
      let test = judge_condition c.scope e in
      let yes_part = judge_statement (enter_block c) s in
      let no_part : Judged program.Statement = fine (nothing at.line) in
      let last = behind (enter_block c) s in
      let w = if_fine at.line test yes_part no_part x h in
      let seen = condition_names c.scope e w.cond w.cond_is in
      let two = left b (stands (enter_block c) s w.one b w.one_is) in
      let g = back c last b (goes (enter_block c) s b).grows in
      let none : Told (names_outside w.other) ≡ Told (names_outside (nothing at.line)) = ap (λ y. Told (names_outside y)) (sym (same_fine (nothing at.line) w.other w.other_is)) in
      let three : Stands c.scope.locals (length last.locals) c.scope.locals (length last.locals) (Told (names_outside w.other)) (Told (counts w.other)) =
      subst (λ y. Stands c.scope.locals (length last.locals) c.scope.locals (length last.locals) (Told (names_outside y)) (Told (counts y))) (same_fine (nothing at.line) w.other w.other_is) (leaf (nothing at.line) (λ n k. absurd cc) (λ n. refl)) in
      subst (λ y. StandsAt c (leave_block c last) y) w.is
      (narrow (λ n p. rest_told w.cond w.one w.other n p) (λ n q. inr (pick (or_cases (counts w.one n) (counts w.other n) q) (λ j. inl j) (λ j. inr j)))
      (join b (stays c.scope.locals (length c.locals) b) g (reads seen) (join b g (stays c.scope.locals (length last.locals) g.bounded) two three)))
  stands c (if_else at e first other) x b h =
      let one = behind (enter_block c) first in
      let turned = enter_block (leave_block c one) in
      let last = behind turned other in
      let test = judge_condition c.scope e in
      let yes_part = judge_statement (enter_block c) first in
      let no_part = judge_statement turned other in
      let w = if_fine at.line test yes_part no_part x h in
      let seen = condition_names c.scope e w.cond w.cond_is in
      let two = left b (stands (enter_block c) first w.one b w.one_is) in
      let g = back c one b (goes (enter_block c) first b).grows in
      let k = goes turned other g.bounded in
      let three = left g.bounded (stands turned other w.other g.bounded w.other_is) in
      let h2 = leaves c.scope.locals (length one.locals) last.scope.locals (length last.locals) g.bounded k.grows in
      let whole = then c.scope.locals (length c.locals) c.scope.locals (length one.locals) c.scope.locals (length last.locals) g h2 in
      subst (λ y. StandsAt c (leave_block c last) y) w.is
      (narrow (λ n p. rest_told w.cond w.one w.other n p) (λ n q. inr (pick (or_cases (counts w.one n) (counts w.other n) q) (λ j. inl j) (λ j. inr j)))
      (join b (stays c.scope.locals (length c.locals) b) whole (reads seen) (join b g h2 two three)))
  stands c (while_loop at e s) x b h =
      let test = judge_condition c.scope e in
      let body = judge_statement (enter_block c) s in
      let last = behind (enter_block c) s in
      let w = made_fine (both test body) (λ (r : program.Expression × program.Statement). program.while_loop at.line r.0 r.1) x h in
      let a = both_fine test body w.0 w.1 in
      let g = back c last b (goes (enter_block c) s b).grows in
      subst (λ y. StandsAt c (leave_block c last) y) w.2
      (narrow (λ n p. or_cases (names w.0.0 n) (names_outside w.0.1 n) p) (λ n q. inr q)
      (join b (stays c.scope.locals (length c.locals) b) g (reads (condition_names c.scope e w.0.0 a.0)) (left b (stands (enter_block c) s w.0.1 b a.1))))
  stands c (for_loop at first e next s) x b h =
      let begin = enter_block (counted c) in
      let begun = behind begin first in
      let stepped = behind (enter_block begun) next in
      let turn = enter_block (leave_block begun stepped) in
      let last = behind turn s in
      let first_j = judge_statement begin first in
      let test = judge_condition begun.scope e in
      let step = judge_statement (enter_block begun) next in
      let body = judge_statement turn s in
      let w = for_fine at c.loops (first_part first) first_j test step body x h in
      let f = goes begin first b in
      let g = back begun stepped f.bounded (goes (enter_block begun) next f.bounded).grows in
      let k = goes turn s g.bounded in
      let m = leaves begun.scope.locals (length stepped.locals) last.scope.locals (length last.locals) g.bounded k.grows in
      let turned = then begun.scope.locals (length begun.locals) begun.scope.locals (length stepped.locals) begun.scope.locals (length last.locals) g m in
      let tested = reads (condition_names begun.scope e w.cond w.cond_is) in
      let two = left f.bounded (stands (enter_block begun) next w.next f.bounded w.next_is) in
      let three = left g.bounded (stands turn s w.body g.bounded w.body_is) in
      let rest = join f.bounded (stays begun.scope.locals (length begun.locals) f.bounded) turned tested (join f.bounded g m two three) in
      subst (λ y. StandsAt c (leave_block c last) y) w.is
      (loop_stands c at.line (record { 0 = c.loops }) first w.first w.cond w.next w.body (length last.locals) b f turned w.first_is (stands begin first w.first b w.first_is) rest)
  stands c (return_value at e) x b h = return_stands_at c at e x h
  stands c (print_value at e) x b h = print_stands c at e x h

  loop_stands : (c : Env) (line : ℕ) (site : LoopId) (first : Statement) (y : program.Statement) (e : program.Expression) (next body : program.Statement) (m : ℕ) → BoundedAt c
      → (let begun = behind (enter_block (counted c)) first in Onward c.scope.locals (length c.locals) begun.scope.locals (length begun.locals))
      → (let begun = behind (enter_block (counted c)) first in Onward begun.scope.locals (length begun.locals) begun.scope.locals m)
      → judge_statement (enter_block (counted c)) first ≡ fine y
      → StandsAt (enter_block (counted c)) (behind (enter_block (counted c)) first) y
      → (let begun = behind (enter_block (counted c)) first in Stands begun.scope.locals (length begun.locals) begun.scope.locals m (Rest e next body) (RestCounts next body))
      → let x = program.for_loop line site (first_part first) y e next body in Stands c.scope.locals (length c.locals) c.scope.locals m (Told (names_outside x)) (Told (counts x))
  loop_stands c line site (local at ty name name_at right) y e next body m b f g h s t =
      let begin = enter_block (counted c) in
      let begun = behind begin (local at ty name name_at right) in
      let d = declared begin at ty name name_at right y h in
      let one : length begun.locals ≡ length c.locals + 1 = length-append c.locals (type_of (ty_of c.scope.classes.names ty) ∷ []) in
      subst (λ z. let x = program.for_loop line site Declares z e next body in Stands c.scope.locals (length c.locals) c.scope.locals m (Told (names_outside x)) (Told (counts x))) d.is
      (by d.source d.names_none (subst (λ z. StandsAt begin begun z) (sym d.is) s))
    where
      by : (r : Source) → SourceNames c.scope r → StandsAt (enter_block (counted c)) (behind (enter_block (counted c)) (local at ty name name_at right)) (put (declared (enter_block (counted c)) at ty name name_at right y h).line (to_local (record { 0 = length c.locals })) Put r)
          → let x = program.for_loop line site Declares (put (declared (enter_block (counted c)) at ty name name_at right y h).line (to_local (record { 0 = length c.locals })) Put r) e next body in Stands c.scope.locals (length c.locals) c.scope.locals m (Told (names_outside x)) (Told (counts x))
      by (of_value start) sees u =
          let begun = behind (enter_block (counted c)) (local at ty name name_at right) in
          let one : length begun.locals ≡ length c.locals + 1 = length-append c.locals (type_of (ty_of c.scope.classes.names ty) ∷ []) in
          declaring c.scope.locals begun.scope.locals (length c.locals) (length begun.locals) m b f g line (declared (enter_block (counted c)) at ty name name_at right y h).line site Put (record { 0 = length c.locals }) start e next body refl one sees t
      by (of_new k) sees u =
          let begun = behind (enter_block (counted c)) (local at ty name name_at right) in
          let z = program.new_local (declared (enter_block (counted c)) at ty name name_at right y h).line (record { 0 = length c.locals }) k in
          general c.scope.locals begun.scope.locals (length c.locals) (length begun.locals) m b f g (program.for_loop line site Declares z e next body) z next body e (λ n. refl) (λ n. refl) u t
  loop_stands c line site first y e next body m b f g h s t =
      let begun = behind (enter_block (counted c)) first in
      general c.scope.locals begun.scope.locals (length c.locals) (length begun.locals) m b f g (program.for_loop line site Assigns y e next body) y next body e (λ n. refl) (λ n. refl) s t

  pub all_stand : (b0 c : Env) (ss : Statements) (front all : List program.Statement) → BoundedAt b0 → Goes b0 c → AllStand b0 c front → Continues c front ss all → AllStand b0 (behind_all c ss) all
  all_stand b0 c no_statements front all b o t h = subst (λ xs. AllStand b0 c xs) (none_behind c front all h) t
  all_stand b0 c (statement_and s ss) front all b o t h =
      let d = behind c s in
      let w = statements_fine c front s ss all h in
      let g = goes c s o.bounded in
      let one = stands c s w.0 o.bounded w.1 in
      let both_of : AllStand b0 d (front ++ w.0 ∷ []) = narrow (any_outside_more front w.0) (any_counts_more front w.0) (join b o g t one) in
      all_stand b0 d ss (front ++ w.0 ∷ []) all b (then b0.scope.locals (length b0.locals) c.scope.locals (length c.locals) d.scope.locals (length d.locals) o g) both_of w.2

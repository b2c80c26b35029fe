-- A summed section moves all objects alike.
use Rattle.std.proofs.Common.{◌≡◌, ℕ, zero, suc, List, [], ◌∷◌, ◌++◌, Option, Some, None, refl, ap, sym, subst, ◌∙◌, ℤ, pos, ◌+ℤ◌, ◌-ℤ◌, neg_ℤ, true, false, arith}
use Rattle.std.specs.Prelude.{slice_get}
use Rattle.std.specs.Int.{int_wrap, w64}
use Rattle.std.proofs.lemmas.Int.{ints}
use Rattle.ca_tree.specs.declared.tree.AssignOp.{AssignOp}
use Rattle.ca_tree.specs.declared.tree.AssignOp.TheVariants.{Put, Add, Sub, Mul}
use Rattle.ca_tree.specs.declared.tree.AssignOp.TheVariants as change
use Rattle.ca_tree.specs.declared.tree.BinaryOp.{BinaryOp}
use Rattle.ca_tree.specs.declared.tree.BinaryOp.TheVariants.{Or, And, Equal, NotEqual, Less, Greater, LessEqual, GreaterEqual, Plus, Minus, Times, Divide, Remainder, BitAnd, BitOr, BitXor, Max, Min}
use Rattle.ca_program.specs.declared.program.ClassId.{ClassId}
use Rattle.ca_program.specs.declared.program.FieldId.{FieldId}
use Rattle.ca_program.specs.declared.program.ValueType.{ValueType}
use Rattle.ca_program.specs.declared.program.ValueType.TheVariants.{Long as LongType, Bool as BoolType}
use Rattle.ca_program.specs.declared.program.OpId.{OpId}
use Rattle.ca_program.specs.Plain.{PlainProgram, PlainMethod, Expression, Expressions, number, truth, null, this, local, own, own_item, read, read_item, value_call, unary, binary, Statement, Statements, block, put_local, put_field, put_item, new_local, new_field, new_item, invoke, if_else, while_loop, for_loop, return_value, print_value, no_statements, statement_and}
use Rattle.ca_model.specs.declared.value.Value.{Value as Datum}
use Rattle.ca_model.specs.declared.value.Value.TheVariants.{Long, Bool as Truth, Null, Ref}
use Rattle.ca_model.specs.declared.value.Slot.TheVariants.{One}
use Rattle.ca_model.specs.declared.value.Object.{Object}
use Rattle.ca_model.specs.declared.value.Trap.{Trap}
use Rattle.ca_model.specs.Slots.{one_in, put_slot}
use Rattle.ca_model.specs.Typed.{HasType, TypedHeap, ObjectTyped}
use Rattle.ca_meaning.specs.Operators.{assigned, operated}
use Rattle.ca_meaning.specs.Expressions.{Out, gives, traps, over, ◌>>=◌, take_step, answer, decided, unless_decided}
use Rattle.ca_meaning.specs.Flows.{Flow, goes_on, gives_back, stops, runs_out, and_on, with, choose, Parts, line_of, exec, exec_all, turn}
use Rattle.ca_meaning.specs.Functions.{body_of, locals_of, functions_of}
use Rattle.ca_meaning.specs.Sections.{Section, with_own, section_place, section_start, section_value, section_act, section_call, section_parts_with, section_parts, Again, loops, loops_of, sectioned}
use Rattle.ca_meaning.specs.WellTyped.{ValuesTyped, CallTyped, IsMethodOf, IsTypedObject}
use Rattle.ca_meaning.specs.Agree.{Agree}
use Rattle.ca_meaning.specs.ProgramTyped.{Scope, field_info, IsScalar, SidesTyped, ExpressionTyped, StatementTyped, StatementsTyped, scope_of, MethodTyped, OperationTyped, ProgramTyped}
use Rattle.ca_meaning_laws.specs.Typed.{Yields, yields, FlowTyped, goes_on_typed, IsReceiver, SectionTyped, PlaceTyped, frozen_heap}
use Rattle.ca_meaning_laws.proofs.Values.{frame_typed}
use Rattle.ca_meaning_laws.proofs.Heaps.{extends_self}
use Rattle.ca_meaning_laws.proofs.Evals.{own_at, eval_typed}
use Rattle.ca_meaning_laws.proofs.Statements.{exec_typed}
use Rattle.ca_meaning_laws.proofs.FunctionTypes.{calls_typed}
use Rattle.ca_meaning_laws.proofs.SectionTypes.{AgainTyped, section_parts_typed, loops_typed}
use Rattle.ca_meaning_laws.proofs.Values.{own_scalar}
use Rattle.ca_parallel.specs.Separable.{IsClean, AreClean}
use Rattle.ca_order_laws.proofs.Likes.{Like, LikeOwn, CallsLike, clean_fine, clean_fine_all, eval_like, due_like}
use Rattle.ca_sum_laws.specs.Summed.{IsSum, IsSumWith, IsAdding, IsSummed, AreSummed}
use Rattle.ca_sum_laws.specs.Moves.{plus, Moved, EndsAlike, both_done, both_stopped, both_over, SummedSectionsMoveAlike}
use Rattle.ca_sum_laws.proofs.Slots.{moved_then, moved_none, moved_put, only, long_at}

-- ---- flows that end alike, from two sections

pub data Both (x y : Section) : Flow Section → Flow Section → Type 0 where
  both_on : (ls : List Datum) (x2 y2 : Section) (k : ℕ) (d : ℕ → ℤ) → Moved d x.own x2.own → Moved d y.own y2.own → x2.listed ≡ y2.listed → Both x y (goes_on ls x2 k) (goes_on ls y2 k)
  both_back : (v : Datum) (x2 y2 : Section) (k : ℕ) → Both x y (gives_back v x2 k) (gives_back v y2 k)
  both_trap : (t : Trap) (x2 y2 : Section) → Both x y (stops t x2) (stops t y2)
  both_out : (x2 y2 : Section) → Both x y (runs_out x2) (runs_out y2)

module _ (x y : Section) where
  alike_any : {A : Type 0} (o : Out A) (f g : A → ℕ → Flow Section) → ((v : A) (k : ℕ) → Both x y (f v k) (g v k)) → Both x y (with o x f) (with o y g)
  alike_any (gives v k) f g h = h v k
  alike_any (traps t) f g h = both_trap t x y
  alike_any over f g h = both_out x y

  alike_with : {A : Type 0} (a b : Out A) (f g : A → ℕ → Flow Section) → a ≡ b → ((v : A) (k : ℕ) → Both x y (f v k) (g v k)) → Both x y (with a x f) (with b y g)
  alike_with a b f g e h = subst (λ z. Both x y (with a x f) (with z y g)) e (alike_any a f g h)

  alike_typed : {A : Type 0} (P : A → Type 0) (o : Out A) (f g : A → ℕ → Flow Section) → Yields P o → ((v : A) (k : ℕ) → P v → Both x y (f v k) (g v k)) → Both x y (with o x f) (with o y g)
  alike_typed P (gives v k) f g (yields _ _ t) h = h v k t
  alike_typed P (traps t) f g z h = both_trap t x y
  alike_typed P over f g z h = both_out x y

  alike_with_typed : {A : Type 0} (P : A → Type 0) (a b : Out A) (f g : A → ℕ → Flow Section) → Yields P a → a ≡ b → ((v : A) (k : ℕ) → P v → Both x y (f v k) (g v k)) → Both x y (with a x f) (with b y g)
  alike_with_typed P a b f g t e h = subst (λ z. Both x y (with a x f) (with z y g)) e (alike_typed P a f g t h)

  alike_choose : (v : Datum) (a b c d : Flow Section) → Both x y a b → Both x y c d → Both x y (choose v a c) (choose v b d)
  alike_choose (Truth true) a b c d e h = e
  alike_choose (Truth false) a b c d e h = h
  alike_choose (Long n) a b c d e h = h
  alike_choose (Ref n) a b c d e h = h
  alike_choose Null a b c d e h = h

-- what two steps of each do together
pub both_then : (x y x2 y2 : Section) (d : ℕ → ℤ) → Moved d x.own x2.own → Moved d y.own y2.own → (a b : Flow Section) → Both x2 y2 a b → Both x y a b
both_then x y x2 y2 d m n (goes_on ls x3 k) (goes_on ls4 y3 k4) (both_on _ _ _ _ e m2 n2 l) =
    both_on ls x3 y3 k _ (moved_then d e x.own x2.own x3.own m m2) (moved_then d e y.own y2.own y3.own n n2) l
both_then x y x2 y2 d m n a b (both_back v x3 y3 k) = both_back v x3 y3 k
both_then x y x2 y2 d m n a b (both_trap t x3 y3) = both_trap t x3 y3
both_then x y x2 y2 d m n a b (both_out x3 y3) = both_out x3 y3

module _ (p : PlainProgram) (program : ProgramTyped p) (written : List FieldId) (h : List Object) (heap : TypedHeap p h) (s : Scope) (c : ClassId) (class : s.class ≡ Some c) (r : Datum) (there : IsReceiver h s.class r) where
  abbrev SectionFlow : Flow Section → Type 0
  SectionFlow a = FlowTyped (frozen_heap h) (SectionTyped p h s) s h a

  -- two sections that differ in written fields alone
  pub record Near (x y : Section) : Type 0 where
    pub first : SectionTyped p h s x
    pub second : SectionTyped p h s y
    pub own : LikeOwn written true s.class x.own y.own
    pub listed : x.listed ≡ y.listed

  like_self : Like written h h
  like_self = record { slots = λ n f t w. refl }

  calls_self : CallsLike p written h (functions_of p.functions h).call (functions_of p.functions h).call
  calls_self = record { calls = λ m n vs k c tys ty i t v w. refl }

  place_of : (x : Section) → SectionTyped p h s x → (line : ℕ) (ls : List Datum) → ValuesTyped h ls s.locals → PlaceTyped p s (section_place h r x.own line ls)
  place_of x good line ls v = record { heap = heap; this = there; own = good.own; locals = v }

  value_alike : (x y : Section) → Near x y → (line : ℕ) (ls : List Datum) → ValuesTyped h ls s.locals → (e : Expression) (ty : ValueType) → ExpressionTyped p s e ty → IsClean p written true e → (k : ℕ) → section_value p h r line ls x e k ≡ section_value p h r line ls y e k
  value_alike x y near line ls v e ty t w k =
      eval_like p written s true h h r x.own y.own line ls _ _ (calls_typed p program h heap) calls_self like_self near.own (place_of x near.first line ls v) e ty t (clean_fine p written true e w) k

  value_typed : (x : Section) → SectionTyped p h s x → (line : ℕ) (ls : List Datum) → ValuesTyped h ls s.locals → (e : Expression) (ty : ValueType) → ExpressionTyped p s e ty → (k : ℕ) → Yields (λ v. HasType h v ty) (section_value p h r line ls x e k)
  value_typed x good line ls v e ty t k = eval_typed p s (section_place h r x.own line ls) (functions_of p.functions h).call (calls_typed p program h heap) (place_of x good line ls v) e ty t k

  own_typed : (x : Section) → SectionTyped p h s x → ObjectTyped h (slice_get p.classes c.0) x.own
  own_typed x good = own_at p h s.class x.own c good.own class

  -- nothing moves
  still : (x y : Section) → Near x y → (ls : List Datum) (k : ℕ) → Both x y (goes_on ls x k) (goes_on ls y k)
  still x y near ls k =
      both_on ls x y k (λ f. pos 0) (moved_none h (slice_get p.classes c.0) x.own (own_typed x near.first)) (moved_none h (slice_get p.classes c.0) y.own (own_typed y near.second)) near.listed

  -- behind a step of both they still differ in written fields alone
  near_on : (x y x2 y2 : Section) (d : ℕ → ℤ) → Near x y → SectionTyped p h s x2 → SectionTyped p h s y2 → Moved d x.own x2.own → Moved d y.own y2.own → x2.listed ≡ y2.listed → Near x2 y2
  near_on x y x2 y2 d near first second m n l = record {
    first = first;
    second = second;
    own = record { slots = λ f e w. m.at f.field ∙ ap (λ z. plus z (d f.field)) (near.own.slots f e w) ∙ sym (n.at f.field) };
    listed = l;
  }

  alike_on : (x y : Section) (a b : Flow Section) (f g : List Datum → Section → ℕ → Flow Section) → Near x y → SectionFlow a → SectionFlow b → Both x y a b →
      ((ls : List Datum) (x2 y2 : Section) (k : ℕ) → Near x2 y2 → ValuesTyped h ls s.locals → Both x2 y2 (f ls x2 k) (g ls y2 k)) → Both x y (and_on a f) (and_on b g)
  alike_on x y (goes_on ls x2 k) (goes_on ls4 y2 k4) f g near (goes_on_typed _ _ _ good ext v) (goes_on_typed _ _ _ good2 ext2 v2) (both_on _ _ _ _ d m n l) z =
      both_then x y x2 y2 d m n _ _ (z ls x2 y2 k (near_on x y x2 y2 d near good good2 m n l) v)
  alike_on x y a b f g near t u (both_back v x2 y2 k) z = both_back v x2 y2 k
  alike_on x y a b f g near t u (both_trap e x2 y2) z = both_trap e x2 y2
  alike_on x y a b f g near t u (both_out x2 y2) z = both_out x2 y2

  -- ---- an assignment that adds

  put_alike : (x y : Section) → Near x y → (ls : List Datum) (f : FieldId) (k : ℕ) (n m d : ℤ) (v w : Datum) → slice_get x.own f.field ≡ Some (One (Long n)) → slice_get y.own f.field ≡ Some (One (Long m)) →
      v ≡ Long (int_wrap w64 (n +ℤ d)) → w ≡ Long (int_wrap w64 (m +ℤ d)) →
      Both x y (goes_on ls (with_own x (put_slot x.own f.field 0 v)) k) (goes_on ls (with_own y (put_slot y.own f.field 0 w)) k)
  put_alike x y near ls f k n m d v w ex ey ev ew =
      both_on ls _ _ k (only f.field d)
      (subst (λ z. Moved (only f.field d) x.own (put_slot x.own f.field 0 z)) (sym ev) (moved_put h (slice_get p.classes c.0) x.own f.field n d (own_typed x near.first) ex))
      (subst (λ z. Moved (only f.field d) y.own (put_slot y.own f.field 0 z)) (sym ew) (moved_put h (slice_get p.classes c.0) y.own f.field m d (own_typed y near.second) ey))
      near.listed

  less : (a b : ℤ) → int_wrap w64 (a -ℤ b) ≡ int_wrap w64 (a +ℤ neg_ℤ b)
  less a b = let same : a -ℤ b ≡ a +ℤ neg_ℤ b = omega (arith, ints) in ap (int_wrap w64) same

  -- the field holds a number in both
  record Numbers (x y : Section) (f : FieldId) : Type 0 where
    n : ℤ
    m : ℤ
    first : slice_get x.own f.field ≡ Some (One (Long n))
    second : slice_get y.own f.field ≡ Some (One (Long m))

  add_alike : (x y : Section) → Near x y → (ls : List Datum) (f : FieldId) (k : ℕ) (v : Datum) → HasType h v LongType → Numbers x y f →
      Both x y (goes_on ls (with_own x (put_slot x.own f.field 0 (assigned Add (one_in (slice_get x.own f.field)) v))) k) (goes_on ls (with_own y (put_slot y.own f.field 0 (assigned Add (one_in (slice_get y.own f.field)) v))) k)
  add_alike x y near ls f k (Long b) t z =
      put_alike x y near ls f k z.n z.m b _ _ z.first z.second (ap (λ q. assigned Add (one_in q) (Long b)) z.first) (ap (λ q. assigned Add (one_in q) (Long b)) z.second)
  add_alike x y near ls f k (Truth b) t z = absurd t
  add_alike x y near ls f k Null t z = absurd t
  add_alike x y near ls f k (Ref b) t z = absurd t

  sub_alike : (x y : Section) → Near x y → (ls : List Datum) (f : FieldId) (k : ℕ) (v : Datum) → HasType h v LongType → Numbers x y f →
      Both x y (goes_on ls (with_own x (put_slot x.own f.field 0 (assigned Sub (one_in (slice_get x.own f.field)) v))) k) (goes_on ls (with_own y (put_slot y.own f.field 0 (assigned Sub (one_in (slice_get y.own f.field)) v))) k)
  sub_alike x y near ls f k (Long b) t z =
      put_alike x y near ls f k z.n z.m (neg_ℤ b) _ _ z.first z.second
      (ap (λ q. assigned Sub (one_in q) (Long b)) z.first ∙ ap Long (less z.n b)) (ap (λ q. assigned Sub (one_in q) (Long b)) z.second ∙ ap Long (less z.m b))
  sub_alike x y near ls f k (Truth b) t z = absurd t
  sub_alike x y near ls f k Null t z = absurd t
  sub_alike x y near ls f k (Ref b) t z = absurd t

  abbrev stored : Section → List Datum → FieldId → Datum → ℕ → Flow Section
  stored x ls f u k = goes_on ls (with_own x (put_slot x.own f.field 0 (assigned Put (one_in (slice_get x.own f.field)) u))) k

  -- what `f + e` and `f - e` give where e gives a number
  plus_alike : (x y : Section) → Near x y → (line : ℕ) (ls : List Datum) (f : FieldId) (op : BinaryOp) → IsSum op → (a b : Datum) (v : Datum) (k : ℕ) → HasType h v LongType → (z : Numbers x y f) → a ≡ Long z.n → b ≡ Long z.m →
      Both x y (with (answer line (operated op a v) k) x (λ u k. stored x ls f u k)) (with (answer line (operated op b v) k) y (λ u k. stored y ls f u k))
  plus_alike x y near line ls f Plus w a b (Long d) k t z ea eb =
      subst (λ q. Both x y (with (answer line (operated Plus q (Long d)) k) x (λ u k. stored x ls f u k)) (with (answer line (operated Plus b (Long d)) k) y (λ u k. stored y ls f u k))) (sym ea)
      (subst (λ q. Both x y (stored x ls f (Long (int_wrap w64 (z.n +ℤ d))) k) (with (answer line (operated Plus q (Long d)) k) y (λ u k. stored y ls f u k))) (sym eb)
      (put_alike x y near ls f k z.n z.m d _ _ z.first z.second
      (ap (λ q. assigned Put (one_in q) (Long (int_wrap w64 (z.n +ℤ d)))) z.first) (ap (λ q. assigned Put (one_in q) (Long (int_wrap w64 (z.m +ℤ d)))) z.second)))
  plus_alike x y near line ls f Minus w a b (Long d) k t z ea eb =
      subst (λ q. Both x y (with (answer line (operated Minus q (Long d)) k) x (λ u k. stored x ls f u k)) (with (answer line (operated Minus b (Long d)) k) y (λ u k. stored y ls f u k))) (sym ea)
      (subst (λ q. Both x y (stored x ls f (Long (int_wrap w64 (z.n -ℤ d))) k) (with (answer line (operated Minus q (Long d)) k) y (λ u k. stored y ls f u k))) (sym eb)
      (put_alike x y near ls f k z.n z.m (neg_ℤ d) _ _ z.first z.second
      (ap (λ q. assigned Put (one_in q) (Long (int_wrap w64 (z.n -ℤ d)))) z.first ∙ ap Long (less z.n d)) (ap (λ q. assigned Put (one_in q) (Long (int_wrap w64 (z.m -ℤ d)))) z.second ∙ ap Long (less z.m d))))
  plus_alike x y near line ls f op w a b (Truth d) k t z ea eb = absurd t
  plus_alike x y near line ls f op w a b Null k t z ea eb = absurd t
  plus_alike x y near line ls f op w a b (Ref d) k t z ea eb = absurd t
  plus_alike x y near line ls f Or w a b (Long d) k t z ea eb = absurd w
  plus_alike x y near line ls f And w a b (Long d) k t z ea eb = absurd w
  plus_alike x y near line ls f Equal w a b (Long d) k t z ea eb = absurd w
  plus_alike x y near line ls f NotEqual w a b (Long d) k t z ea eb = absurd w
  plus_alike x y near line ls f Less w a b (Long d) k t z ea eb = absurd w
  plus_alike x y near line ls f Greater w a b (Long d) k t z ea eb = absurd w
  plus_alike x y near line ls f LessEqual w a b (Long d) k t z ea eb = absurd w
  plus_alike x y near line ls f GreaterEqual w a b (Long d) k t z ea eb = absurd w
  plus_alike x y near line ls f Times w a b (Long d) k t z ea eb = absurd w
  plus_alike x y near line ls f Divide w a b (Long d) k t z ea eb = absurd w
  plus_alike x y near line ls f Remainder w a b (Long d) k t z ea eb = absurd w
  plus_alike x y near line ls f BitAnd w a b (Long d) k t z ea eb = absurd w
  plus_alike x y near line ls f BitOr w a b (Long d) k t z ea eb = absurd w
  plus_alike x y near line ls f BitXor w a b (Long d) k t z ea eb = absurd w
  plus_alike x y near line ls f Max w a b (Long d) k t z ea eb = absurd w
  plus_alike x y near line ls f Min w a b (Long d) k t z ea eb = absurd w

  -- a field of numbers that is a target
  numbers : (x y : Section) → Near x y → (f : FieldId) (ty : ValueType) → s.class ≡ Some f.class → IsScalar (field_info p f) ty → ty ≡ LongType → Numbers x y f
  numbers x y near f ty e t long =
      let scalar : IsScalar (field_info p f) LongType = subst (λ z. IsScalar (field_info p f) z) long t in
      let a = long_at h (slice_get x.own f.field) (own_scalar h (slice_get p.classes f.class.0) x.own f.field LongType (own_at p h s.class x.own f.class near.first.own e) scalar) in
      let b = long_at h (slice_get y.own f.field) (own_scalar h (slice_get p.classes f.class.0) y.own f.field LongType (own_at p h s.class y.own f.class near.second.own e) scalar) in
      record { n = a.0; m = b.0; first = a.1; second = b.1 }

  sum_sides : (op : BinaryOp) (side ty : ValueType) → IsSum op → SidesTyped op side ty → (side ≡ LongType) × (ty ≡ LongType)
  sum_sides Plus side ty w t = t
  sum_sides Minus side ty w t = t
  sum_sides Or side ty w t = absurd w
  sum_sides And side ty w t = absurd w
  sum_sides Equal side ty w t = absurd w
  sum_sides NotEqual side ty w t = absurd w
  sum_sides Less side ty w t = absurd w
  sum_sides Greater side ty w t = absurd w
  sum_sides LessEqual side ty w t = absurd w
  sum_sides GreaterEqual side ty w t = absurd w
  sum_sides Times side ty w t = absurd w
  sum_sides Divide side ty w t = absurd w
  sum_sides Remainder side ty w t = absurd w
  sum_sides BitAnd side ty w t = absurd w
  sum_sides BitOr side ty w t = absurd w
  sum_sides BitXor side ty w t = absurd w
  sum_sides Max side ty w t = absurd w
  sum_sides Min side ty w t = absurd w

  -- the sum's left side decides nothing
  undecided : (op : BinaryOp) → IsSum op → (v : Datum) → decided op v ≡ None
  undecided Plus w v = refl
  undecided Minus w v = refl
  undecided Or w v = absurd w
  undecided And w v = absurd w
  undecided Equal w v = absurd w
  undecided NotEqual w v = absurd w
  undecided Less w v = absurd w
  undecided Greater w v = absurd w
  undecided LessEqual w v = absurd w
  undecided GreaterEqual w v = absurd w
  undecided Times w v = absurd w
  undecided Divide w v = absurd w
  undecided Remainder w v = absurd w
  undecided BitAnd w v = absurd w
  undecided BitOr w v = absurd w
  undecided BitXor w v = absurd w
  undecided Max w v = absurd w
  undecided Min w v = absurd w

  -- what `f + e` and `f - e` are
  record SumWith (f : FieldId) (e : Expression) : Type 0 where
    op : BinaryOp
    right : Expression
    is : e ≡ binary op (own f) right
    sum : IsSum op
    clean : IsClean p written true right

  sum_with : (f : FieldId) (e : Expression) → IsSumWith p written f e → SumWith f e
  sum_with f (binary op (own g) e) w = record { op = op; right = e; is = ap (λ q. binary op (own q) e) w.1; sum = w.0; clean = w.2 }
  sum_with f (binary op (number n) e) w = absurd w
  sum_with f (binary op (truth b) e) w = absurd w
  sum_with f (binary op null e) w = absurd w
  sum_with f (binary op this e) w = absurd w
  sum_with f (binary op (local i) e) w = absurd w
  sum_with f (binary op (own_item i j) e) w = absurd w
  sum_with f (binary op (read i j) e) w = absurd w
  sum_with f (binary op (read_item i j m) e) w = absurd w
  sum_with f (binary op (value_call i j m) e) w = absurd w
  sum_with f (binary op (unary i j) e) w = absurd w
  sum_with f (binary op (binary i j m) e) w = absurd w
  sum_with f (number n) w = absurd w
  sum_with f (truth b) w = absurd w
  sum_with f null w = absurd w
  sum_with f this w = absurd w
  sum_with f (local i) w = absurd w
  sum_with f (own i) w = absurd w
  sum_with f (own_item i j) w = absurd w
  sum_with f (read i j) w = absurd w
  sum_with f (read_item i j m) w = absurd w
  sum_with f (value_call i j m) w = absurd w
  sum_with f (unary i j) w = absurd w

  -- `f = f + e` and `f = f - e`, where e gives this in both
  sum_alike : (x y : Section) → Near x y → (line : ℕ) (ls : List Datum) (f : FieldId) (op : BinaryOp) → IsSum op → (z : Numbers x y f) → (o : Out Datum) → Yields (λ v. HasType h v LongType) o → (a b : Datum) → a ≡ Long z.n → b ≡ Long z.m →
      Both x y (with (o >>= λ w k. answer line (operated op a w) k) x (λ u k. stored x ls f u k)) (with (o >>= λ w k. answer line (operated op b w) k) y (λ u k. stored y ls f u k))
  sum_alike x y near line ls f op w z (gives v k) (yields _ _ t) a b ea eb = plus_alike x y near line ls f op w a b v k t z ea eb
  sum_alike x y near line ls f op w z (traps e) t a b ea eb = both_trap e x y
  sum_alike x y near line ls f op w z over t a b ea eb = both_out x y

  -- the sum, where its left side decides nothing
  sum_value : (x : Section) (line : ℕ) (ls : List Datum) (f : FieldId) (op : BinaryOp) (e : Expression) → IsSum op → (k : ℕ) → section_value p h r line ls x (binary op (own f) e) k ≡ (section_value p h r line ls x e k >>= λ w k. answer line (operated op (one_in (slice_get x.own f.field)) w) k)
  sum_value x line ls f op e w k = ap (λ q. unless_decided q k (section_value p h r line ls x e k >>= λ w k. answer line (operated op (one_in (slice_get x.own f.field)) w) k)) (undecided op w (one_in (slice_get x.own f.field)))

  assign_alike : (x y : Section) → Near x y → (l : ℕ) (f : FieldId) (e : Expression) → StatementTyped p s (put_field l f Put e) → SumWith f e → (line : ℕ) (ls : List Datum) → ValuesTyped h ls s.locals → (k : ℕ) →
      Both x y (section_act p h r line ls x (put_field l f Put e) k) (section_act p h r line ls y (put_field l f Put e) k)
  assign_alike x y near l f e t w line ls v k =
      let tb : ExpressionTyped p s (binary w.op (own f) w.right) t.0 = subst (λ z. ExpressionTyped p s z t.0) w.is t.3.1 in
      let sides = sum_sides w.op tb.0 t.0 w.sum tb.1 in
      let te : ExpressionTyped p s w.right LongType = subst (λ z. ExpressionTyped p s w.right z) sides.0 tb.3 in
      let z : Numbers x y f = numbers x y near f t.0 t.1.1 t.2 sides.1 in
      let same : section_value p h r line ls x w.right k ≡ section_value p h r line ls y w.right k = value_alike x y near line ls v w.right LongType te w.clean k in
      let vx : section_value p h r line ls x e k ≡ (section_value p h r line ls x w.right k >>= λ u k. answer line (operated w.op (one_in (slice_get x.own f.field)) u) k) = ap (λ q. section_value p h r line ls x q k) w.is ∙ sum_value x line ls f w.op w.right w.sum k in
      let vy : section_value p h r line ls y e k ≡ (section_value p h r line ls x w.right k >>= λ u k. answer line (operated w.op (one_in (slice_get y.own f.field)) u) k) = ap (λ q. section_value p h r line ls y q k) w.is ∙ sum_value y line ls f w.op w.right w.sum k ∙ ap (λ o. o >>= λ u k. answer line (operated w.op (one_in (slice_get y.own f.field)) u) k) (sym same) in
      subst (λ q. Both x y (with q x (λ u k. stored x ls f u k)) (with (section_value p h r line ls y e k) y (λ u k. stored y ls f u k))) (sym vx)
      (subst (λ q. Both x y (with (section_value p h r line ls x w.right k >>= λ u k. answer line (operated w.op (one_in (slice_get x.own f.field)) u) k) x (λ u k. stored x ls f u k)) (with q y (λ u k. stored y ls f u k))) (sym vy)
      (sum_alike x y near line ls f w.op w.sum z (section_value p h r line ls x w.right k) (value_typed x near.first line ls v w.right LongType te k) _ _ (ap one_in z.first) (ap one_in z.second)))

  field_alike : (x y : Section) → Near x y → (l : ℕ) (f : FieldId) (op : AssignOp) (e : Expression) → StatementTyped p s (put_field l f op e) → IsAdding p written f op e → (line : ℕ) (ls : List Datum) → ValuesTyped h ls s.locals → (k : ℕ) →
      Both x y (section_act p h r line ls x (put_field l f op e) k) (section_act p h r line ls y (put_field l f op e) k)
  field_alike x y near l f Add e t w line ls v k =
      let te : ExpressionTyped p s e LongType = subst (λ z. ExpressionTyped p s e z) t.3.0 t.3.1 in
      let z : Numbers x y f = numbers x y near f t.0 t.1.1 t.2 t.3.0 in
      alike_with_typed x y (λ u. HasType h u LongType) _ _ _ _ (value_typed x near.first line ls v e LongType te k) (value_alike x y near line ls v e LongType te w k) (λ u k tu. add_alike x y near ls f k u tu z)
  field_alike x y near l f Sub e t w line ls v k =
      let te : ExpressionTyped p s e LongType = subst (λ z. ExpressionTyped p s e z) t.3.0 t.3.1 in
      let z : Numbers x y f = numbers x y near f t.0 t.1.1 t.2 t.3.0 in
      alike_with_typed x y (λ u. HasType h u LongType) _ _ _ _ (value_typed x near.first line ls v e LongType te k) (value_alike x y near line ls v e LongType te w k) (λ u k tu. sub_alike x y near ls f k u tu z)
  field_alike x y near l f Mul e t w line ls v k = absurd w
  field_alike x y near l f change.BitAnd e t w line ls v k = absurd w
  field_alike x y near l f change.BitOr e t w line ls v k = absurd w
  field_alike x y near l f change.BitXor e t w line ls v k = absurd w
  field_alike x y near l f Put e t w line ls v k = assign_alike x y near l f e t (sum_with f e w) line ls v k

  -- ---- calls

  call_alike : (x y : Section) → Near x y → (line : ℕ) (ls : List Datum) → ValuesTyped h ls s.locals → (l : ℕ) (e : Expression) (op : OpId) (es : Expressions) → StatementTyped p s (invoke l e op es) → IsClean p written true e → AreClean p written true es → (k : ℕ) →
      Both x y (section_call p h r line ls x e op es k) (section_call p h r line ls y e op es k)
  call_alike x y near line ls v l e op es t we ws k =
      alike_with x y _ _ _ _ (due_like p written s true h h r x.own y.own line ls _ _ (calls_typed p program h heap) calls_self like_self near.own (place_of x near.first line ls v) e op es t.0 t.1 t.4 t.5 (clean_fine p written true e we) (clean_fine_all p written true es ws) k)
      (λ i k. both_on ls _ _ k (λ f. pos 0) (moved_none h (slice_get p.classes c.0) x.own (own_typed x near.first)) (moved_none h (slice_get p.classes c.0) y.own (own_typed y near.second)) (ap (λ z. z ++ i ∷ []) near.listed))

  abbrev AgainAlike : Again → Type 0
  AgainAlike a = (line : ℕ) (ls : List Datum) (x y : Section) (w : Statement) (k : ℕ) → Near x y → ValuesTyped h ls s.locals → StatementTyped p s w → IsSummed p written w → Both x y (a line ls x w k) (a line ls y w k)

  module _ (again : Again) (typed : AgainTyped p program h heap s r there again) (all : AgainAlike again) where
    abbrev hp : Parts Section
    hp = section_parts_with p h r again

    flows : (y : Statement) → StatementTyped p s y → (line : ℕ) (ls : List Datum) (x : Section) (k : ℕ) → SectionTyped p h s x → ValuesTyped h ls s.locals → SectionFlow (exec hp line ls x y k)
    flows y t line ls x k good v = exec_typed (frozen_heap h) (SectionTyped p h s) p s hp (section_parts_typed p program h heap s r there again typed) h y t line ls x k good (extends_self h) v

    two_flows : (y z : Statement) → StatementTyped p s y → StatementTyped p s z → (line : ℕ) (ls : List Datum) (x : Section) (k : ℕ) → SectionTyped p h s x → ValuesTyped h ls s.locals → SectionFlow (and_on (exec hp (line_of y) ls x y k) (λ ls x k. exec hp line ls x z k))
    two_flows y z t u line ls x k good v = from (exec hp (line_of y) ls x y k) (flows y t (line_of y) ls x k good v)
      where
        from : (o : Flow Section) → SectionFlow o → SectionFlow (and_on o (λ ls x k. exec hp line ls x z k))
        from (goes_on ls x k) (goes_on_typed _ _ _ good ext v) = flows z u line ls x k good v
        from (gives_back v x k) t = t
        from (stops t x) y = y
        from (runs_out x) t = t

    mutual
      exec_alike : (w : Statement) → StatementTyped p s w → IsSummed p written w → (line : ℕ) (ls : List Datum) (x y : Section) (k : ℕ) → Near x y → ValuesTyped h ls s.locals → Both x y (exec hp line ls x w k) (exec hp line ls y w k)
      exec_alike (block l ss) t a line ls x y k near v = all_exec_alike ss t a ls x y k near v
      exec_alike (put_local l i op e) t a line ls x y k near v = alike_with x y _ _ _ _ (value_alike x y near line ls v e t.0 t.2.1 a k) (λ u k. still x y near _ k)
      exec_alike (put_field l f op e) t a line ls x y k near v = field_alike x y near l f op e t a line ls v k
      exec_alike (invoke l e op es) t a line ls x y k near v = call_alike x y near line ls v l e op es t a.0 a.1 k
      exec_alike (if_else l c w z) t a line ls x y k near v =
          alike_with x y _ _ _ _ (value_alike x y near line ls v c BoolType t.0 a.0 k) (λ u k. alike_choose x y u _ _ _ _ (exec_alike w t.1 a.1 (line_of w) ls x y k near v) (exec_alike z t.2 a.2 (line_of z) ls x y k near v))
      exec_alike (while_loop l c w) t a line ls x y k near v =
          alike_with x y _ _ _ _ (value_alike x y near line ls v c BoolType t.0 a.0 k) (λ u k. alike_choose x y u _ _ _ _
          (alike_any x y (take_step k) _ _ (λ _ k. alike_on x y _ _ _ _ near (flows w t.1 (line_of w) ls x k near.first v) (flows w t.1 (line_of w) ls y k near.second v) (exec_alike w t.1 a.1 (line_of w) ls x y k near v)
          (λ ls x y k near v. all line ls x y (while_loop l c w) k near v t a))) (still x y near ls k))
      exec_alike (for_loop l site part first c next w) t a line ls x y k near v =
          alike_on x y _ _ _ _ near (flows first t.0 line ls x k near.first v) (flows first t.0 line ls y k near.second v) (exec_alike first t.0 a.0 line ls x y k near v) (λ ls x y k near v.
          alike_with x y _ _ _ _ (value_alike x y near line ls v c BoolType t.1 a.1 k) (λ u k. alike_choose x y u _ _ _ _
          (alike_any x y (take_step k) _ _ (λ _ k. alike_on x y _ _ _ _ near (two_flows w next t.3 t.2 line ls x k near.first v) (two_flows w next t.3 t.2 line ls y k near.second v)
          (alike_on x y _ _ _ _ near (flows w t.3 (line_of w) ls x k near.first v) (flows w t.3 (line_of w) ls y k near.second v) (exec_alike w t.3 a.3 (line_of w) ls x y k near v) (λ ls x y k near v. exec_alike next t.2 a.2 line ls x y k near v))
          (λ ls x y k near v. all line ls x y (for_loop l site part first c next w) k near v t a))) (still x y near ls k)))
      exec_alike (return_value l e) t a line ls x y k near v = alike_with x y _ _ _ _ (value_alike x y near line ls v e t.0 t.2 a k) (λ u k. both_back u x y k)
      exec_alike (put_item l f i op e) t a line ls x y k near v = absurd a
      exec_alike (new_local l i c) t a line ls x y k near v = absurd a
      exec_alike (new_field l f c) t a line ls x y k near v = absurd a
      exec_alike (new_item l f i c) t a line ls x y k near v = absurd a
      exec_alike (print_value l e) t a line ls x y k near v = absurd a

      pub all_exec_alike : (ws : Statements) → StatementsTyped p s ws → AreSummed p written ws → (ls : List Datum) (x y : Section) (k : ℕ) → Near x y → ValuesTyped h ls s.locals → Both x y (exec_all hp ls x ws k) (exec_all hp ls y ws k)
      all_exec_alike no_statements t a ls x y k near v = still x y near ls k
      all_exec_alike (statement_and w rest) t a ls x y k near v =
          alike_on x y _ _ _ _ near (flows w t.0 (line_of w) ls x k near.first v) (flows w t.0 (line_of w) ls y k near.second v) (exec_alike w t.0 a.0 (line_of w) ls x y k near v) (λ ls x y k near v. all_exec_alike rest t.1 a.1 ls x y k near v)

    turn_alike : (w : Statement) → StatementTyped p s w → IsSummed p written w → (line : ℕ) (ls : List Datum) (x y : Section) (k : ℕ) → Near x y → ValuesTyped h ls s.locals → Both x y (turn hp line ls x w k) (turn hp line ls y w k)
    turn_alike (while_loop l c w) t a line ls x y k near v = exec_alike (while_loop l c w) t a line ls x y k near v
    turn_alike (for_loop l site part first c next w) t a line ls x y k near v =
        alike_with x y _ _ _ _ (value_alike x y near line ls v c BoolType t.1 a.1 k) (λ u k. alike_choose x y u _ _ _ _
        (alike_any x y (take_step k) _ _ (λ _ k. alike_on x y _ _ _ _ near (two_flows w next t.3 t.2 line ls x k near.first v) (two_flows w next t.3 t.2 line ls y k near.second v)
        (alike_on x y _ _ _ _ near (flows w t.3 (line_of w) ls x k near.first v) (flows w t.3 (line_of w) ls y k near.second v) (exec_alike w t.3 a.3 (line_of w) ls x y k near v) (λ ls x y k near v. exec_alike next t.2 a.2 line ls x y k near v))
        (λ ls x y k near v. all line ls x y (for_loop l site part first c next w) k near v t a))) (still x y near ls k))
    turn_alike (block l ss) t a line ls x y k near v = still x y near ls k
    turn_alike (put_local l i op e) t a line ls x y k near v = still x y near ls k
    turn_alike (put_field l f op e) t a line ls x y k near v = still x y near ls k
    turn_alike (put_item l f i op e) t a line ls x y k near v = still x y near ls k
    turn_alike (invoke l e op es) t a line ls x y k near v = still x y near ls k
    turn_alike (if_else l c w z) t a line ls x y k near v = still x y near ls k
    turn_alike (return_value l e) t a line ls x y k near v = still x y near ls k
    turn_alike (new_local l i c) t a line ls x y k near v = still x y near ls k
    turn_alike (new_field l f c) t a line ls x y k near v = still x y near ls k
    turn_alike (new_item l f i c) t a line ls x y k near v = still x y near ls k
    turn_alike (print_value l e) t a line ls x y k near v = still x y near ls k

  loops_alike : (n : ℕ) → AgainAlike (loops n p h r)
  loops_alike zero = λ line ls x y w k near v t a. both_out x y
  loops_alike (suc n) = λ line ls x y w k near v t a. turn_alike (loops n p h r) (loops_typed p program h heap s r there n) (loops_alike n) w t a line ls x y k near v

  pub sections_alike : (ws : Statements) → StatementsTyped p s ws → AreSummed p written ws → (ls : List Datum) (x y : Section) (k : ℕ) → Near x y → ValuesTyped h ls s.locals → Both x y (exec_all (section_parts p h r) ls x ws k) (exec_all (section_parts p h r) ls y ws k)
  sections_alike ws t a ls x y k near v =
      all_exec_alike (loops_of p h r) (λ e line ls x w k good ext v t. loops_typed p program h heap s r there (suc k) e line ls x w k good ext v t) (λ line ls x y w k near v t a. loops_alike (suc k) line ls x y w k near v t a) ws t a ls x y k near v

-- ---- whole sections

ends_of : (o q : Object) (budget : ℕ) (a b : Flow Section) → Both (section_start o.slots) (section_start q.slots) a b → EndsAlike o q (sectioned o.class budget a) (sectioned q.class budget b)
ends_of o q budget a b (both_on ls x y k d m n l) =
    both_done _ _ record { differences = d; first = m; second = n; first_class = refl; second_class = refl; listed = l; steps = refl }
ends_of o q budget a b (both_back v x y k) = both_over
ends_of o q budget a b (both_trap t x y) = both_stopped t
ends_of o q budget a b (both_out x y) = both_over

body_alike : (p : PlainProgram) (program : ProgramTyped p) (written : List FieldId) (h : List Object) (heap : TypedHeap p h) (n r : ℕ) (o q : Object) (vs : List Datum) (k : ℕ) (c : ClassId) (m : Option PlainMethod) → slice_get p.ops n ≡ m → CallTyped h m r vs → IsMethodOf m c → IsTypedObject p h c o → IsTypedObject p h c q → Agree written o q → AreSummed p written (body_of m)
    → Both (section_start o.slots) (section_start q.slots) (exec_all (section_parts p h (Ref r)) (locals_of m vs) (section_start o.slots) (body_of m) k) (exec_all (section_parts p h (Ref r)) (locals_of m vs) (section_start q.slots) (body_of m) k)
body_alike p program written h heap n r o q vs k c None e call of_class to tq agree w = absurd call
body_alike p program written h heap n r o q vs k c (Some m) e call of_class to tq agree w =
    let mt : OperationTyped p m = program.ops n m e in
    let mm : MethodTyped p m = mt.method in
    sections_alike p program written h heap (scope_of m) m.class refl (Ref r) call.0 m.body.statements mm.body w _ _ _ k
    record {
      first = record { own = subst (λ z. ObjectTyped h (slice_get p.classes z.0) o.slots) (sym of_class) to.slots; listed = tt };
      second = record { own = subst (λ z. ObjectTyped h (slice_get p.classes z.0) q.slots) (sym of_class) tq.slots; listed = tt };
      own = record { slots = λ f e w. agree.constants f (let z : m.class ≡ f.class = cc in sym z ∙ of_class ∙ sym to.class) w };
      listed = refl;
    }
    (frame_typed h vs m.params m.body.locals call.1)

pub move_alike : SummedSectionsMoveAlike
move_alike p program x frozen heap i w well c of_class o q to tq agree zero = both_over
move_alike p program x frozen heap i w well c of_class o q to tq agree (suc k) =
    ends_of o q (suc k) _ _ (body_alike p program x.written frozen heap i.op.0 i.receiver o q i.arguments k c (slice_get p.ops i.op.0) refl well of_class to tq agree w)

-- A pair that raises one field, or lowers it, has the verdict Commutes.
use Rattle.std.proofs.Common.{inl, inr, ◌≡◌, ◌<◌, ℕ, zero, suc, ◌+◌, ◌*◌, ◌≤◌, Bool, true, false, List, [], ◌∷◌, ◌++◌, length, map, take, drop, Option, Some, None, refl, sym, ap, ap₂, ◌∙◌, arith, subst, slice_set, append-nil, length-set, set-set}
use Rattle.std.specs.Prelude.{slice_get, nat_eq, ◌||◌, flat_map}
use Rattle.std.specs.Option.{option_or}
use Rattle.std.specs.List.{list_any}
use Rattle.std.proofs.lemmas.Bool.Decides.{nat_tests}
use Rattle.std.proofs.lemmas.List.Folds.{list_any-append}
use Rattle.std.proofs.lemmas.Nat.{mul-le}
use Rattle.ca_program.specs.declared.program.FieldId.{FieldId}
use Rattle.ca_program.specs.declared.program.FieldInfo.{FieldInfo}
use Rattle.ca_program.specs.declared.program.OpId.{OpId}
use Rattle.ca_program.specs.declared.program.ValueType.{ValueType}
use Rattle.ca_program.specs.declared.program.ValueType.TheVariants as type
use Rattle.ca_program.specs.Plain.{PlainProgram, PlainMethod, Expression, Statement, if_else, block, no_statements, statement_and}
use Rattle.ca_model.specs.Heaps.{fields_of}
use Rattle.ca_meaning.specs.Functions.{body_of}
use Rattle.ca_parallel.specs.Bodies.{targets_of}
use Rattle.ca_parallel.specs.Extents.{operation_body}
use Rattle.ca_parallel.specs.Separable.{IsClean, IsSeparated, AreSeparated, Separable}
use Rattle.ca_forms.specs.declared.sort.Sort.TheVariants.{Long}
use Rattle.ca_norm.specs.Terms.{PlainTerm, truth, atom, and, not, choose, less, less_equal, sort_of, IsScalar}
use Rattle.ca_norm.specs.Weights.{spread, nodes, depth, weight_of}
use Rattle.ca_shared_terms.specs.Starts.{sort_of_type, sort_of_slot, starts, or_null}
use Rattle.ca_shared_terms.specs.Heavy.{is_heavy}
use Rattle.ca_symbolic.specs.States.{State, term_at, PlainDemand, start_term, parameters, first_locals}
use Rattle.ca_symbolic.specs.Execution.{term_of, puts_local, puts_field, choose_if, choices, field_target, local_target, after, after_all}
use Rattle.ca_symbolic.specs.Demands.{demands_in, demanded, demanded_all, then_guard}
use Rattle.ca_symbolic.specs.Made.{guards_in, targets, joined_terms, steps_made, made_by}
use Rattle.ca_symbolic.specs.OtherLoops.{other_loop, other_loop_in}
use Rattle.ca_symbolic.specs.Runs.{begins, executed, demanded_by, is_heavy_by, params_of, first_other_loop}
use Rattle.ca_verdicts.specs.declared.verdicts.Verdict.TheVariants.{Commutes}
use Rattle.ca_verdicts.specs.Demands.{demanded_at}
use Rattle.ca_verdicts.specs.Orders.{fields_at, start_of, first_order, second_order}
use Rattle.ca_order.specs.declared.point.Point.{Point}
use Rattle.ca_order.specs.declared.point.Point.TheVariants as point
use Rattle.ca_order.specs.Points.{point_term, FitsPoint}
use Rattle.ca_order.specs.OrderSame.{OrderSame}
use Rattle.ca_order.specs.Raised.{below}
use Rattle.ca_order.proofs.Raising.{raised_either_way, lowered_either_way}
use Rattle.ca_verdicts.specs.Verdicts.{SameField, SameFields, VerdictOf}
use Rattle.ca_verdicts.specs.MovingPairs.{IsLimit, a_number, a_parameter, IsPut, put, in_block, IsPast, IsMoving, IsLong, IsMovingPair}
use Rattle.ca_verdicts.specs.MovingPairs as pair
use Rattle.ca_plain_laws.proofs.Kept.{set_there}
use Rattle.ca_plain_laws.proofs.Weights.{not_above}

-- the field is to be moved to the limit, up or down
abbrev past : Bool → Bool → PlainTerm → PlainTerm → PlainTerm
past true strict x y = below strict x y
past false strict x y = below strict y x

abbrev moved : Bool → Bool → PlainTerm → PlainTerm → PlainTerm
moved up strict x y = choose (past up strict x y) y x

either_way : (up one other : Bool) (f e d : Point) → FitsPoint f → FitsPoint e → FitsPoint d →
    OrderSame (moved up other (moved up one (point_term f) (point_term e)) (point_term d)) (moved up one (moved up other (point_term f) (point_term d)) (point_term e))
either_way true one other f e d i j k = raised_either_way one other f e d i j k
either_way false one other f e d i j k = lowered_either_way one other f e d i j k

-- Limits

abbrev limit_point : {m : PlainMethod} {e : Expression} → ℕ → IsLimit m e → Point
limit_point g (a_number n f) = point.Number n
limit_point g (a_parameter l b e) = point.Atom g l.0

limit_fits : {m : PlainMethod} {e : Expression} (g : ℕ) (i : IsLimit m e) → FitsPoint (limit_point g i)
limit_fits g (a_number n f) = f
limit_fits g (a_parameter l b e) = tt

parameter_at : (g n : ℕ) (tys : List ValueType) (i : ℕ) (ty : ValueType) → slice_get tys i ≡ Some ty → slice_get (parameters g n tys) i ≡ Some (atom (sort_of_type ty) g (n + i))
parameter_at g n [] i ty e = absurd (let f : None ≡ Some ty = e in cc)
parameter_at g n (t ∷ tys) zero ty e = let same : t ≡ ty = cc in let z : n ≡ n + 0 = omega arith in ap₂ (λ (x : ValueType) k. Some (atom (sort_of_type x) g k)) same z
parameter_at g n (t ∷ tys) (suc i) ty e = parameter_at g (n + 1) tys i ty e ∙ ap (λ k. Some (atom (sort_of_type ty) g k)) (let z : n + 1 + i ≡ n + suc i = omega arith in z)

in_front : {A : Type 0} (xs ys : List A) (i : ℕ) (x : A) → slice_get xs i ≡ Some x → slice_get (xs ++ ys) i ≡ Some x
in_front [] ys i x e = absurd (let f : None ≡ Some x = e in cc)
in_front (z ∷ xs) ys zero x e = e
in_front (z ∷ xs) ys (suc i) x e = in_front xs ys i x e

in_take : {A : Type 0} (xs : List A) (n i : ℕ) (x : A) → i < n → slice_get xs i ≡ Some x → slice_get (take n xs) i ≡ Some x
in_take xs zero i x l e = absurd (omega (arith, l))
in_take [] (suc n) i x l e = e
in_take (z ∷ xs) (suc n) zero x l e = e
in_take (z ∷ xs) (suc n) (suc i) x l e = in_take xs n i x (omega (arith, l)) e

module _ (p : PlainProgram) (m : PlainMethod) (g : ℕ) where
  abbrev state : List PlainTerm → State
  state ts = record { fields = ts; locals = first_locals g (Some m) }

  limit_term : {e : Expression} (i : IsLimit m e) (ts : List PlainTerm) → term_of p (state ts) e ≡ point_term (limit_point g i)
  limit_term (a_number n f) ts = refl
  limit_term (a_parameter l b e) ts =
      ap (λ o. or_null o) (in_front (parameters g 0 (take m.params m.body.locals)) (map start_term (drop m.params m.body.locals)) l.0 (atom Long g (0 + l.0)) (parameter_at g 0 (take m.params m.body.locals) l.0 type.Long (in_take m.body.locals m.params l.0 type.Long b e)))
      ∙ ap (atom Long g) (let z : 0 + l.0 ≡ l.0 = omega arith in z)

  limit_demands : {e : Expression} (s : State) (t : PlainTerm) → IsLimit m e → demands_in p s t e ≡ []
  limit_demands s t (a_number n f) = refl
  limit_demands s t (a_parameter l b e) = refl

  limit_guards : {e : Expression} (s : State) (t : PlainTerm) → IsLimit m e → guards_in p s t e ≡ []
  limit_guards s t (a_number n f) = refl
  limit_guards s t (a_parameter l b e) = refl

  limit_clean : {e : Expression} (written : List FieldId) → IsLimit m e → IsClean p written false e
  limit_clean written (a_number n f) = tt
  limit_clean written (a_parameter l b e) = tt

  -- the part that puts
  module _ (f : FieldId) (e : Expression) (i : IsLimit m e) where
    put_after : {x : Statement} (s : State) → IsPut f e x → (after p s x).fields ≡ slice_set s.fields f.field (term_of p s e)
    put_after s (put line) = refl
    put_after s (in_block line h) = put_after s h

    put_target : {x : Statement} (n : ℕ) → IsPut f e x → puts_field x n ≡ nat_eq f.field n
    put_target n (put line) = or_none (nat_eq f.field n)
      where
        or_none : (b : Bool) → b || false ≡ b
        or_none true = refl
        or_none false = refl
    put_target n (in_block line {x} h) = ap (λ (fs : List FieldId). list_any (λ f. nat_eq f.field n) fs) (append-nil (targets_of x)) ∙ put_target n h

    put_locals : {x : Statement} (n : ℕ) → IsPut f e x → puts_local x n ≡ false
    put_locals n (put line) = refl
    put_locals n (in_block line {x} h) = ap (λ b. b || false) (put_locals n h)

    put_demands : {x : Statement} (s : State) (t : PlainTerm) → IsPut f e x → demanded p s t x ≡ []
    put_demands s t (put line) = limit_demands s t i
    put_demands s t (in_block line h) = ap (λ ds. ds ++ []) (put_demands s t h)

    put_made : {x : Statement} (s : State) (t : PlainTerm) → IsPut f e x → steps_made p s t x ≡ term_of p s e ∷ []
    put_made s t (put line) = ap (λ xs. xs ++ term_of p s e ∷ []) (limit_guards s t i)
    put_made s t (in_block line h) = ap (λ xs. xs ++ []) (put_made s t h)

    put_separated : {x : Statement} (written : List FieldId) → IsPut f e x → IsSeparated p written false x
    put_separated written (put line) = (tt, limit_clean written i)
    put_separated written (in_block line h) = (put_separated written h, tt)

    put_loop : {x : Statement} (written : List FieldId) → IsPut f e x → other_loop m.params written x ≡ None
    put_loop written (put line) = refl
    put_loop written (in_block line h) = ap (λ o. option_or o None) (put_loop written h)

    -- the condition
    condition_term : {up s : Bool} {c : Expression} (ts : List PlainTerm) → IsPast f e up s c → term_of p (state ts) c ≡ past up s (term_at ts f.field) (point_term (limit_point g i))
    condition_term ts pair.less = ap (less (term_at ts f.field)) (limit_term i ts)
    condition_term ts pair.greater = ap (less (term_at ts f.field)) (limit_term i ts)
    condition_term ts pair.less_equal = ap (less_equal (term_at ts f.field)) (limit_term i ts)
    condition_term ts pair.greater_equal = ap (less_equal (term_at ts f.field)) (limit_term i ts)
    condition_term ts pair.limit_less = ap (λ z. less z (term_at ts f.field)) (limit_term i ts)
    condition_term ts pair.limit_greater = ap (λ z. less z (term_at ts f.field)) (limit_term i ts)
    condition_term ts pair.limit_less_equal = ap (λ z. less_equal z (term_at ts f.field)) (limit_term i ts)
    condition_term ts pair.limit_greater_equal = ap (λ z. less_equal z (term_at ts f.field)) (limit_term i ts)

    condition_demands : {up s : Bool} {c : Expression} (z : State) (t : PlainTerm) → IsPast f e up s c → demands_in p z t c ≡ []
    condition_demands z t pair.less = limit_demands z t i
    condition_demands z t pair.greater = ap (λ ds. ds ++ []) (limit_demands z t i)
    condition_demands z t pair.less_equal = limit_demands z t i
    condition_demands z t pair.greater_equal = ap (λ ds. ds ++ []) (limit_demands z t i)
    condition_demands z t pair.limit_less = ap (λ ds. ds ++ []) (limit_demands z t i)
    condition_demands z t pair.limit_greater = limit_demands z t i
    condition_demands z t pair.limit_less_equal = ap (λ ds. ds ++ []) (limit_demands z t i)
    condition_demands z t pair.limit_greater_equal = limit_demands z t i

    condition_guards : {up s : Bool} {c : Expression} (z : State) (t : PlainTerm) → IsPast f e up s c → guards_in p z t c ≡ []
    condition_guards z t pair.less = limit_guards z t i
    condition_guards z t pair.greater = ap (λ ds. ds ++ []) (limit_guards z t i)
    condition_guards z t pair.less_equal = limit_guards z t i
    condition_guards z t pair.greater_equal = ap (λ ds. ds ++ []) (limit_guards z t i)
    condition_guards z t pair.limit_less = ap (λ ds. ds ++ []) (limit_guards z t i)
    condition_guards z t pair.limit_greater = limit_guards z t i
    condition_guards z t pair.limit_less_equal = ap (λ ds. ds ++ []) (limit_guards z t i)
    condition_guards z t pair.limit_greater_equal = limit_guards z t i

    condition_clean : {up s : Bool} {c : Expression} (written : List FieldId) → IsPast f e up s c → IsClean p written false c
    condition_clean written pair.less = (tt, tt, limit_clean written i)
    condition_clean written pair.greater = (tt, limit_clean written i, tt)
    condition_clean written pair.less_equal = (tt, tt, limit_clean written i)
    condition_clean written pair.greater_equal = (tt, limit_clean written i, tt)
    condition_clean written pair.limit_less = (tt, limit_clean written i, tt)
    condition_clean written pair.limit_greater = (tt, tt, limit_clean written i)
    condition_clean written pair.limit_less_equal = (tt, limit_clean written i, tt)
    condition_clean written pair.limit_greater_equal = (tt, tt, limit_clean written i)

-- Choices at one field

none_chosen : (P : ℕ → Bool) (n : ℕ) (c : PlainTerm) (ts us : List PlainTerm) → length ts ≡ length us → ((k : ℕ) → n ≤ k → P k ≡ false) → choices P n c ts us ≡ ts
none_chosen P n c [] us e h = refl
none_chosen P n c (t ∷ ts) [] e h = absurd (omega (arith, e))
none_chosen P n c (t ∷ ts) (u ∷ us) e h =
    ap₂ (λ x xs. x ∷ xs) (ap (λ b. choose_if b c t u) (h n (omega arith))) (none_chosen P (suc n) c ts us (omega (arith, e)) (λ k l. h k (omega (arith, l))))

one_chosen : (P : ℕ → Bool) (n i : ℕ) (c e : PlainTerm) (ts : List PlainTerm) → i < length ts → ((k : ℕ) → P k ≡ nat_eq (n + i) k) → choices P n c (slice_set ts i e) ts ≡ slice_set ts i (choose c e (term_at ts i))
one_chosen P n i c e [] l h = absurd (omega (arith, l))
one_chosen P n zero c e (t ∷ ts) l h =
    ap₂ (λ x xs. x ∷ xs) (ap (λ b. choose_if b c e t) (h n ∙ (let z : nat_eq (n + 0) n ≡ true = grind (arith, nat_tests) in z)))
    (none_chosen P (suc n) c ts ts refl (λ k m. h k ∙ apart k m))
  where
    apart : (k : ℕ) → suc n ≤ k → nat_eq (n + 0) k ≡ false
    apart k m = grind (arith, nat_tests)
one_chosen P n (suc i) c e (t ∷ ts) l h =
    ap₂ (λ x xs. x ∷ xs) (ap (λ b. choose_if b c t t) (h n ∙ (let z : nat_eq (n + suc i) n ≡ false = grind (arith, nat_tests) in z)))
    (one_chosen P (suc n) i c e ts (omega (arith, l)) (λ k. h k ∙ ap (λ j. nat_eq j k) (let z : n + suc i ≡ suc n + i = omega arith in z)))

no_targets : (P : ℕ → Bool) (n : ℕ) (ts : List PlainTerm) → ((k : ℕ) → n ≤ k → P k ≡ false) → targets P n ts ≡ []
no_targets P n [] h = refl
no_targets P n (t ∷ ts) h = rw (h n (omega arith)) (no_targets P (suc n) ts (λ k l. h k (omega (arith, l))))

one_target : (P : ℕ → Bool) (n i : ℕ) (x : PlainTerm) (ts : List PlainTerm) → i < length ts → ((k : ℕ) → P k ≡ nat_eq (n + i) k) → targets P n (slice_set ts i x) ≡ x ∷ []
one_target P n i x [] l h = absurd (omega (arith, l))
one_target P n zero x (t ∷ ts) l h =
    let yes : P n ≡ true = h n ∙ (let z : nat_eq (n + 0) n ≡ true = grind (arith, nat_tests) in z) in
    rw yes (ap (λ xs. x ∷ xs) (no_targets P (suc n) ts (λ k m. h k ∙ apart k m)))
  where
    apart : (k : ℕ) → suc n ≤ k → nat_eq (n + 0) k ≡ false
    apart k m = grind (arith, nat_tests)
one_target P n (suc i) x (t ∷ ts) l h =
    let none : P n ≡ false = h n ∙ (let z : nat_eq (n + suc i) n ≡ false = grind (arith, nat_tests) in z) in
    rw none (one_target P (suc n) i x ts (omega (arith, l)) (λ k. h k ∙ ap (λ j. nat_eq j k) (let z : n + suc i ≡ suc n + i = omega arith in z)))

-- Weights

pub record Measured (t : PlainTerm) (s n d : ℕ) : Type 0 where
  pub spread_is : spread t ≤ s
  pub nodes_is : nodes t ≤ n
  pub depth_is : depth t ≤ d

pub point_measured : (q : Point) → Measured (point_term q) 1 1 1
point_measured (point.Number n) = record { spread_is = omega arith; nodes_is = omega arith; depth_is = omega arith }
point_measured (point.Atom h n) = record { spread_is = omega arith; nodes_is = omega arith; depth_is = omega arith }

neither_heavy : (a b : Bool) → a || b ≡ false → (a ≡ false) × (b ≡ false)
neither_heavy true b h = absurd cc
neither_heavy false b h = (refl, h)

set_light : (ts : List PlainTerm) (i : ℕ) (t : PlainTerm) → is_heavy t ≡ false → list_any is_heavy ts ≡ false → list_any is_heavy (slice_set ts i t) ≡ false
set_light [] i t h none = refl
set_light (u ∷ us) zero t h none = ap₂ (λ a b. a || b) h (neither_heavy (is_heavy u) (list_any is_heavy us) none).1
set_light (u ∷ us) (suc i) t h none = let rest = neither_heavy (is_heavy u) (list_any is_heavy us) none in ap₂ (λ a b. a || b) rest.0 (set_light us i t h rest.1)

light_of : (t : PlainTerm) (s n d : ℕ) → Measured t s n d → s ≤ 1000 → n ≤ 1000 → d ≤ 1000 → is_heavy t ≡ false
light_of t s n d w a b c = not_above (weight_of t) (omega (arith, w.spread_is, w.nodes_is, w.depth_is, a, b, c))

past_measured : (up strict : Bool) (x y : PlainTerm) (s n d : ℕ) → Measured x s n d → Measured y 1 1 1 → 1 ≤ d → Measured (past up strict x y) (s + 1) (n + 2) (d + 1)
past_measured true true x y s n d w v l = record { spread_is = omega (arith, w.spread_is, v.spread_is); nodes_is = omega (arith, w.nodes_is, v.nodes_is); depth_is = omega (arith, w.depth_is, v.depth_is, l) }
past_measured true false x y s n d w v l = record { spread_is = omega (arith, w.spread_is, v.spread_is); nodes_is = omega (arith, w.nodes_is, v.nodes_is); depth_is = omega (arith, w.depth_is, v.depth_is, l) }
past_measured false true x y s n d w v l = record { spread_is = omega (arith, w.spread_is, v.spread_is); nodes_is = omega (arith, w.nodes_is, v.nodes_is); depth_is = omega (arith, w.depth_is, v.depth_is, l) }
past_measured false false x y s n d w v l = record { spread_is = omega (arith, w.spread_is, v.spread_is); nodes_is = omega (arith, w.nodes_is, v.nodes_is); depth_is = omega (arith, w.depth_is, v.depth_is, l) }

pub moved_measured : (up strict : Bool) (x y : PlainTerm) (s n d : ℕ) → Measured x s n d → Measured y 1 1 1 → 1 ≤ d → Measured (moved up strict x y) (s + (s + 1) * (1 + s)) (n + n + 4) (d + 2)
moved_measured up strict x y s n d w v l =
    let c = past_measured up strict x y s n d w v l in
    record {
      spread_is = omega (arith, w.spread_is, mul-le (spread (past up strict x y)) (spread y + spread x) (s + 1) (1 + s) c.spread_is (omega (arith, w.spread_is, v.spread_is)));
      nodes_is = omega (arith, c.nodes_is, w.nodes_is, v.nodes_is);
      depth_is = omega (arith, c.depth_is, w.depth_is, v.depth_is, l);
    }

-- One operation

false_or : (b : Bool) → b || false ≡ b
false_or true = refl
false_or false = refl

module _ (p : PlainProgram) (m : PlainMethod) (g : ℕ) (f : FieldId) (up : Bool) (r : IsMoving m f up) (ts : List PlainTerm) (inside : f.field < length ts) where
  abbrev limit : Point
  limit = limit_point g r.is_limit

  abbrev behind : PlainTerm
  behind = moved up r.strict (term_at ts f.field) (point_term limit)

  abbrev empty : Statement
  empty = block r.line_behind no_statements

  abbrev branch : Statement
  branch = if_else r.line r.condition r.part empty

  abbrev s : State
  s = state p m g ts

  target_is : (n : ℕ) → field_target r.part empty n ≡ nat_eq (0 + f.field) n
  target_is n = ap (λ b. b || false) (put_target p m g f r.limit r.is_limit n r.puts) ∙ false_or (nat_eq f.field n) ∙ ap (λ k. nat_eq k n) (let z : f.field ≡ 0 + f.field = omega arith in z)

  local_is : (n : ℕ) → local_target r.part empty n ≡ false
  local_is n = ap (λ b. b || false) (put_locals p m g f r.limit r.is_limit n r.puts)

  branch_fields : (after p s branch).fields ≡ slice_set ts f.field behind
  branch_fields =
      ap (λ z. choices (field_target r.part empty) 0 (term_of p s r.condition) z ts) (put_after p m g f r.limit r.is_limit s r.puts)
      ∙ one_chosen (field_target r.part empty) 0 f.field (term_of p s r.condition) (term_of p s r.limit) ts inside target_is
      ∙ ap₂ (λ c e. slice_set ts f.field (choose c e (term_at ts f.field))) (condition_term p m g f r.limit r.is_limit ts r.past) (limit_term p m g r.is_limit ts)

  branch_demands : (t : PlainTerm) → demanded p s t branch ≡ []
  branch_demands t = ap₂ (λ x y. x ++ (y ++ [])) (condition_demands p m g f r.limit r.is_limit s t r.past) (put_demands p m g f r.limit r.is_limit s (then_guard t (term_of p s r.condition)) r.puts)

  abbrev condition : PlainTerm
  condition = past up r.strict (term_at ts f.field) (point_term limit)

  branch_made : (t : PlainTerm) → steps_made p s t branch ≡ and t condition ∷ point_term limit ∷ and t (not condition) ∷ behind ∷ []
  branch_made t =
      let c : term_of p s r.condition ≡ condition = condition_term p m g f r.limit r.is_limit ts r.past in
      let fields : targets (field_target r.part empty) 0 (after p s branch).fields ≡ behind ∷ [] = ap (targets (field_target r.part empty) 0) branch_fields ∙ one_target (field_target r.part empty) 0 f.field behind ts inside target_is in
      let locals : targets (local_target r.part empty) 0 (after p s branch).locals ≡ [] = no_targets (local_target r.part empty) 0 (after p s branch).locals (λ k l. local_is k) in
      ap₂ (λ x y. x ++ (and t (term_of p s r.condition) ∷ (y ++ (and t (not (term_of p s r.condition)) ∷ joined_terms r.part empty (after p s branch))))) (condition_guards p m g f r.limit r.is_limit s t r.past) (put_made p m g f r.limit r.is_limit s (then_guard t (term_of p s r.condition)) r.puts)
      ∙ ap₂ (λ x y. and t (term_of p s r.condition) ∷ term_of p s r.limit ∷ and t (not (term_of p s r.condition)) ∷ (x ++ y)) fields locals
      ∙ ap₂ (λ x y. and t x ∷ y ∷ and t (not x) ∷ behind ∷ []) c (limit_term p m g r.is_limit ts)

  module _ (op : OpId) (at : slice_get p.ops op.0 ≡ Some m) where
    pub executed_is : (executed p op g ts).fields ≡ slice_set ts f.field behind
    executed_is = ap (λ z. (after_all p (record { fields = ts; locals = first_locals g z }) (body_of z)).fields) at ∙ ap (λ b. (after_all p s b).fields) r.body ∙ branch_fields

    pub demanded_is : demanded_by p op g ts ≡ []
    demanded_is = ap (λ z. demanded_all p (record { fields = ts; locals = first_locals g z }) (truth true) (body_of z)) at ∙ ap (demanded_all p s (truth true)) r.body ∙ ap (λ ds. ds ++ []) (branch_demands (truth true))

    made_is : made_by p s (truth true) (statement_and branch no_statements) ≡ and (truth true) condition ∷ point_term limit ∷ and (truth true) (not condition) ∷ behind ∷ []
    made_is = ap₂ (λ xs ds. (xs ++ []) ++ flat_map (λ (d : PlainDemand). d.parts) (ds ++ [])) (branch_made (truth true)) (branch_demands (truth true))

    -- what the field holds behind it is light, and so is what stays
    pub behind_light : Measured (term_at ts f.field) 5 6 3 → is_heavy behind ≡ false
    behind_light w =
        let b = moved_measured up r.strict (term_at ts f.field) (point_term limit) 5 6 3 w (point_measured limit) (omega arith) in
        light_of behind 41 16 5 (record { spread_is = omega (arith, b.spread_is); nodes_is = b.nodes_is; depth_is = b.depth_is }) (omega arith) (omega arith) (omega arith)

    made_light : Measured (term_at ts f.field) 5 6 3 → list_any is_heavy (made_by p (begins p op g ts) (truth true) (operation_body p op)) ≡ false
    made_light w =
        let c = past_measured up r.strict (term_at ts f.field) (point_term limit) 5 6 3 w (point_measured limit) (omega arith) in
        let then_light : is_heavy (and (truth true) condition) ≡ false = light_of (and (truth true) condition) 10 20 10 (record { spread_is = omega (arith, c.spread_is); nodes_is = omega (arith, c.nodes_is); depth_is = omega (arith, c.depth_is) }) (omega arith) (omega arith) (omega arith) in
        let limit_light : is_heavy (point_term limit) ≡ false = light_of (point_term limit) 1 1 1 (point_measured limit) (omega arith) (omega arith) (omega arith) in
        let else_light : is_heavy (and (truth true) (not condition)) ≡ false = light_of (and (truth true) (not condition)) 10 20 10 (record { spread_is = omega (arith, c.spread_is); nodes_is = omega (arith, c.nodes_is); depth_is = omega (arith, c.depth_is) }) (omega arith) (omega arith) (omega arith) in
        ap (λ z. list_any is_heavy (made_by p (record { fields = ts; locals = first_locals g z }) (truth true) (body_of z))) at
        ∙ ap (λ z. list_any is_heavy (made_by p s (truth true) z)) r.body
        ∙ ap (list_any is_heavy) made_is
        ∙ rw (then_light, limit_light, else_light, behind_light w) refl

    pub fields_light : Measured (term_at ts f.field) 5 6 3 → list_any is_heavy ts ≡ false → list_any is_heavy (slice_set ts f.field behind) ≡ false
    fields_light w none = set_light ts f.field behind (behind_light w) none

    pub heavy_is : Measured (term_at ts f.field) 5 6 3 → list_any is_heavy ts ≡ false → is_heavy_by p op g ts ≡ false
    heavy_is w none =
        list_any-append is_heavy (made_by p (begins p op g ts) (truth true) (operation_body p op)) (executed p op g ts).fields
        ∙ ap₂ (λ x y. x || y) (made_light w) (ap (list_any is_heavy) executed_is ∙ fields_light w none)

    pub separable : (written : List FieldId) → Separable p written op
    separable written =
        subst (λ (z : Option PlainMethod). AreSeparated p written false (body_of z)) (sym at)
        (subst (AreSeparated p written false) (sym r.body) ((condition_clean p m g f r.limit r.is_limit written r.past, put_separated p m g f r.limit r.is_limit written r.puts, tt), tt))

    pub no_loop : (written : List FieldId) → first_other_loop p written op ≡ None
    no_loop written =
        ap (λ z. other_loop_in (params_of z) written (body_of z)) at ∙ ap (other_loop_in m.params written) r.body ∙ ap (λ o. option_or (option_or o None) None) (put_loop p m g f r.limit r.is_limit written r.puts)

-- The pair

same_itself : (ts : List PlainTerm) → SameFields ts ts
same_itself [] = tt
same_itself (t ∷ ts) = (inl refl, same_itself ts)

same_set : (ts : List PlainTerm) (i : ℕ) (t u : PlainTerm) → SameField t u → SameFields (slice_set ts i t) (slice_set ts i u)
same_set [] i t u h = tt
same_set (z ∷ ts) zero t u h = (h, same_itself ts)
same_set (z ∷ ts) (suc i) t u h = (inl refl, same_set ts i t u h)

start_at : (n : ℕ) (fs : List FieldInfo) (i : ℕ) → IsLong (slice_get fs i) → term_at (starts n fs) i ≡ atom Long 3 (n + i)
start_at n [] i h = absurd h
start_at n (f ∷ fs) zero h = ap₂ (λ (ty : ValueType) o. atom (sort_of_slot ty o) 3 n) h.0 h.1 ∙ ap (atom Long 3) (let z : n ≡ n + 0 = omega arith in z)
start_at n (f ∷ fs) (suc i) h = start_at (n + 1) fs i h ∙ ap (atom Long 3) (let z : n + 1 + i ≡ n + suc i = omega arith in z)

long_inside : (n : ℕ) (fs : List FieldInfo) (i : ℕ) → IsLong (slice_get fs i) → i < length (starts n fs)
long_inside n [] i h = absurd h
long_inside n (f ∷ fs) zero h = omega arith
long_inside n (f ∷ fs) (suc i) h = omega (arith, long_inside (n + 1) fs i h)

-- what fields hold at the start is light, and stays so where something light is put
starts_light : (n : ℕ) (fs : List FieldInfo) → list_any is_heavy (starts n fs) ≡ false
starts_light n [] = refl
starts_light n (f ∷ fs) = starts_light (n + 1) fs

point_scalar : (q : Point) → IsScalar (sort_of (point_term q))
point_scalar (point.Number n) = tt
point_scalar (point.Atom h n) = tt

-- one operation and then another
module _ (p : PlainProgram) (f : FieldId) (ts : List PlainTerm) (inside : f.field < length ts) (m n : PlainMethod) (a b : OpId) (g h : ℕ) (up : Bool) (x : IsMoving m f up) (y : IsMoving n f up)
    (at : slice_get p.ops a.0 ≡ Some m) (bt : slice_get p.ops b.0 ≡ Some n) where
  abbrev first : PlainTerm
  first = moved up x.strict (term_at ts f.field) (point_term (limit_point g x.is_limit))

  abbrev between : List PlainTerm
  between = slice_set ts f.field first

  inside_then : f.field < length between
  inside_then = subst (λ k. f.field < k) (sym (length-set ts f.field first)) inside

  both_fields : (executed p b h (executed p a g ts).fields).fields ≡ slice_set ts f.field (moved up y.strict first (point_term (limit_point h y.is_limit)))
  both_fields =
      ap (λ z. (executed p b h z).fields) (executed_is p m g f up x ts inside a at)
      ∙ executed_is p n h f up y between inside_then b bt
      ∙ set-set ts f.field first (moved up y.strict (term_at between f.field) (point_term (limit_point h y.is_limit)))
      ∙ ap (λ z. slice_set ts f.field (moved up y.strict z (point_term (limit_point h y.is_limit)))) (set_there ts f.field first inside)

  both_demands : demanded_by p a g ts ++ demanded_by p b h (executed p a g ts).fields ≡ []
  both_demands = ap₂ (λ ds es. ds ++ es) (demanded_is p m g f up x ts inside a at) (ap (demanded_by p b h) (executed_is p m g f up x ts inside a at) ∙ demanded_is p n h f up y between inside_then b bt)

  both_light : Measured (term_at ts f.field) 1 1 1 → list_any is_heavy ts ≡ false → is_heavy_by p a g ts || is_heavy_by p b h (executed p a g ts).fields ≡ false
  both_light w none =
      let z = moved_measured up x.strict (term_at ts f.field) (point_term (limit_point g x.is_limit)) 1 1 1 w (point_measured (limit_point g x.is_limit)) (omega arith) in
      let start : Measured (term_at ts f.field) 5 6 3 = record { spread_is = omega (arith, w.spread_is); nodes_is = omega (arith, w.nodes_is); depth_is = omega (arith, w.depth_is) } in
      let later : Measured (term_at between f.field) 5 6 3 = subst (λ t. Measured t 5 6 3) (sym (set_there ts f.field first inside)) (record { spread_is = omega (arith, z.spread_is); nodes_is = z.nodes_is; depth_is = z.depth_is }) in
      ap₂ (λ u v. u || v) (heavy_is p m g f up x ts inside a at start none) (ap (is_heavy_by p b h) (executed_is p m g f up x ts inside a at) ∙ heavy_is p n h f up y between inside_then b bt later (fields_light p m g f up x ts inside a at start none))

pub moving_commutes : (p : PlainProgram) (written : List FieldId) (a b : OpId) → IsMovingPair p a b → VerdictOf p written a b Commutes
moving_commutes p written a b q =
    let fs : List FieldInfo = fields_of (slice_get p.classes q.first.class.0) in
    let start_is : start_of p a ≡ starts 0 fs = ap (λ z. starts 0 (fields_at p z)) q.first_is in
    let k : ℕ = q.field.field in
    let own : term_at (start_of p a) k ≡ atom Long 3 k = ap (λ z. term_at z k) start_is ∙ start_at 0 fs k q.is_long ∙ ap (atom Long 3) (let z : 0 + k ≡ k = omega arith in z) in
    let inside : k < length (start_of p a) = subst (λ z. k < length z) (sym start_is) (long_inside 0 fs k q.is_long) in
    let small : Measured (term_at (start_of p a) k) 1 1 1 = subst (λ t. Measured t 1 1 1) (sym own) (point_measured (point.Atom 3 k)) in
    let light : list_any is_heavy (start_of p a) ≡ false = starts_light 0 (fields_at p (slice_get p.ops a.0)) in
    let ea : Point = limit_point 1 q.first_moves.is_limit in
    let eb : Point = limit_point 2 q.second_moves.is_limit in
    let sa : Bool = q.first_moves.strict in
    let sb : Bool = q.second_moves.strict in
    let one = both_fields p q.field (start_of p a) inside q.first q.second a b 1 2 q.up q.first_moves q.second_moves q.first_is q.second_is in
    let other = both_fields p q.field (start_of p a) inside q.second q.first b a 2 1 q.up q.second_moves q.first_moves q.second_is q.first_is in
    let same : SameField (moved q.up sb (moved q.up sa (atom Long 3 k) (point_term ea)) (point_term eb)) (moved q.up sa (moved q.up sb (atom Long 3 k) (point_term eb)) (point_term ea)) =
    inr (record { scalar = point_scalar eb; same = either_way q.up sa sb (point.Atom 3 k) ea eb tt (limit_fits 1 q.first_moves.is_limit) (limit_fits 2 q.second_moves.is_limit) }) in
    let fields : SameFields (first_order p a b).fields (second_order p a b).fields =
    subst (λ z. SameFields z (second_order p a b).fields) (sym (one ∙ ap (λ t. slice_set (start_of p a) k (moved q.up sb (moved q.up sa t (point_term ea)) (point_term eb))) own))
    (subst (λ z. SameFields (slice_set (start_of p a) k (moved q.up sb (moved q.up sa (atom Long 3 k) (point_term ea)) (point_term eb))) z) (sym (other ∙ ap (λ t. slice_set (start_of p a) k (moved q.up sa (moved q.up sb t (point_term eb)) (point_term ea))) own))
    (same_set (start_of p a) k _ _ same)) in
    let first_asked = both_demands p q.field (start_of p a) inside q.first q.second a b 1 2 q.up q.first_moves q.second_moves q.first_is q.second_is in
    let second_asked = both_demands p q.field (start_of p a) inside q.second q.first b a 2 1 q.up q.second_moves q.first_moves q.second_is q.first_is in
    let first_light = both_light p q.field (start_of p a) inside q.first q.second a b 1 2 q.up q.first_moves q.second_moves q.first_is q.second_is small light in
    let second_light = both_light p q.field (start_of p a) inside q.second q.first b a 2 1 q.up q.second_moves q.first_moves q.second_is q.first_is small light in (
      record {
        can = record {
          separable = (separable p q.first 1 q.field q.up q.first_moves (start_of p a) inside a q.first_is written, separable p q.second 2 q.field q.up q.second_moves (start_of p a) inside b q.second_is written);
          loops = ap₂ option_or (no_loop p q.first 1 q.field q.up q.first_moves (start_of p a) inside a q.first_is written) (no_loop p q.second 2 q.field q.up q.second_moves (start_of p a) inside b q.second_is written);
        };
        light = ap₂ (λ x y. x || y) first_light second_light;
      },
      fields,
      λ key. inl (ap (demanded_at key) (first_asked ∙ sym second_asked)),
    )

-- What tests of truth tell of texts, part by part.
use Rattle.std.proofs.Common.{◌≡◌, ◌⊎◌, ⊎_elim, ℕ, zero, suc, ◌+◌, ◌<◌, ◌≤◌, List, [], ◌∷◌, ◌++◌, length, length-append, map, drop, get_or, Bool, true, false, ◌&&◌, not, true≢false, Some, refl, sym, ap, ◌∙◌, subst, arith}
use Rattle.std.specs.Prelude.{◌||◌, slice_get}
use Rattle.std.proofs.lemmas.List.{drop_all}
use Rattle.std.proofs.lemmas.Option.{slice_get-get_or, slice_get_within}
use Rattle.ca_lists.proofs.Places.{item_and_rest, get_map, before_or_last}
use Rattle.ca_program.specs.declared.program.Expr.{Expr}
use Rattle.ca_program.specs.declared.program.Stmt.{Stmt}
use Rattle.ca_program.specs.declared.program.Method.{Method}
use Rattle.ca_program.specs.declared.program.ValueType.{ValueType}
use Rattle.ca_program.specs.Plain.{PlainProgram, PlainMethod}
use Rattle.ca_program.specs.Kinds.{Kind, Kinds, kind_of}
use Rattle.ca_program.specs.Layout.{how_many}
use Rattle.ca_program.specs.View.{expression_view, expressions_view, method_view, statement_view, statements_view}
use Rattle.ca_code_laws.specs.Fitting.{AreOf, FitAll, FitStatements, Fits, FitsMethod, FitsStatement, Takes}
use Rattle.ca_sections.specs.Fitting.{Finds, OpsBegin, OpsStand}
use Rattle.ca_sections.proofs.Locking.{last_found}

pub never : {A : Type 0} {b : Bool} → b ≡ true → b ≡ false → A
never e h = absurd (true≢false (sym e ∙ h))

-- What tests find, in parts.

pub holds : {A : Type 0} → A → Finds true A
holds a = (λ e. a, λ x. refl)

pub refuted : {A : Type 0} → (A → ⊥) → Finds false A
refuted against = (λ e. absurd (true≢false (sym e)), λ x. absurd (against x))

pub as_well : {A B : Type 0} (b : Bool) → Finds b A → (A → B) → (B → A) → Finds b B
as_well b t f g = (λ e. f (t.0 e), λ x. t.1 (g x))

pub found_as : {X : Type 0} (F : X → Type 0) (b : Bool) (x y : X) → x ≡ y → Finds b (F y) → Finds b (F x)
found_as F b x y is t = subst (λ z. Finds b (F z)) (sym is) t

pub both_find : {A B : Type 0} (a b : Bool) → Finds a A → Finds b B → Finds (a && b) (A × B)
both_find true b f g = (λ e. (f.0 refl, g.0 e), λ x. g.1 x.1)
both_find false b f g = refuted (λ x. true≢false (sym (f.1 x.0)))

-- what is asked of operations alone
pub if_acts : (acts b : Bool) (F : Bool → Type 0) → Finds b (F true) → F false → Finds (not acts || b) (F acts)
if_acts true b F f g = f
if_acts false b F f g = holds g

pub never_acts : (acts : Bool) (F : Bool → Type 0) → (F true → ⊥) → F false → Finds (not acts) (F acts)
never_acts true F against g = refuted against
never_acts false F against g = holds g

-- A list that is read one by one, of which something holds when it holds of the rest.

module _ {X : Type 0} (P : List X → Type 0) where
  pub one_more : {Q : X → Type 0} → ((x : X) (xs : List X) → Q x → P xs → P (x ∷ xs)) → (xs : List X) (i : ℕ) (x : X) → i < length xs → x ≡ get_or xs i x → Q x → (P (drop i xs) → P xs) → P (drop (i + 1) xs) → P xs
  one_more joined xs i x lt at q was rest = was (subst P (sym (item_and_rest xs i x lt at)) (joined x (drop (i + 1) xs) q rest))

  pub one_in : (Q : X → Type 0) → ((x : X) (xs : List X) → P (x ∷ xs) → Q x) → ((x : X) (xs : List X) → P (x ∷ xs) → P xs) → (xs : List X) (i : ℕ) (x : X) → i < length xs → x ≡ get_or xs i x → P xs → Q x
  one_in Q first rest [] i x lt at h = absurd (omega (arith, lt))
  one_in Q first rest (y ∷ ys) zero x lt at h = subst Q (sym at) (first y ys h)
  one_in Q first rest (y ∷ ys) (suc i) x lt at h = one_in Q first rest ys i x (omega (arith, lt)) at (rest y ys h)

  pub no_more : P [] → (xs : List X) (i : ℕ) → length xs ≤ i → (P (drop i xs) → P xs) → P xs
  no_more none xs i le was = was (subst P (sym (drop_all i xs le)) none)

-- Expressions and statements

module _ (p : PlainProgram) (tys : List ValueType) where
  abbrev pub AllFit : List Expr → Type 0
  AllFit es = FitAll p tys (expressions_view es)

  pub expression_fits : (es : List Expr) (i : ℕ) (e : Expr) → i < length es → e ≡ get_or es i e → Fits p tys (expression_view e) → (AllFit (drop i es) → AllFit es) → AllFit (drop (i + 1) es) → AllFit es
  expression_fits es i e lt at fits was = one_more AllFit (λ e es f g. (f, g)) es i e lt at fits was

  pub expression_in : (es : List Expr) (i : ℕ) (e : Expr) → i < length es → e ≡ get_or es i e → AllFit es → Fits p tys (expression_view e)
  expression_in = one_in AllFit (λ e. Fits p tys (expression_view e)) (λ e es h. h.0) (λ e es h. h.1)

  pub expressions_fit : (es : List Expr) (i : ℕ) → length es ≤ i → (AllFit (drop i es) → AllFit es) → AllFit es
  expressions_fit es i le was = no_more AllFit tt es i le was

  module _ (acts : Bool) (result : Kind) where
    abbrev pub StatementsFit : List Stmt → Type 0
    StatementsFit ss = FitStatements p tys acts result (statements_view ss)

    pub statement_fits : (ss : List Stmt) (i : ℕ) (s : Stmt) → i < length ss → s ≡ get_or ss i s → FitsStatement p tys acts result (statement_view s) → (StatementsFit (drop i ss) → StatementsFit ss) → StatementsFit (drop (i + 1) ss) → StatementsFit ss
    statement_fits ss i s lt at fits was = one_more StatementsFit (λ s ss f g. (f, g)) ss i s lt at fits was

    pub statement_in : (ss : List Stmt) (i : ℕ) (s : Stmt) → i < length ss → s ≡ get_or ss i s → StatementsFit ss → FitsStatement p tys acts result (statement_view s)
    statement_in = one_in StatementsFit (λ s. FitsStatement p tys acts result (statement_view s)) (λ s ss h. h.0) (λ s ss h. h.1)

    pub statements_fit : (ss : List Stmt) (i : ℕ) → length ss ≤ i → (StatementsFit (drop i ss) → StatementsFit ss) → StatementsFit ss
    statements_fit ss i le was = no_more StatementsFit tt ss i le was

-- Arguments, each of the kind of its parameter

pub many : (es : List Expr) → how_many (expressions_view es) ≡ length es
many [] = refl
many (e ∷ es) = ap suc (many es)

-- the kinds from one on
abbrev pub later : ℕ → (ℕ → Kind) → ℕ → Kind
later zero κ = κ
later (suc n) κ = later n (λ i. κ (suc i))

first_later : (n : ℕ) (κ : ℕ → Kind) → later n κ 0 ≡ κ n
first_later zero κ = refl
first_later (suc n) κ = first_later n (λ i. κ (suc i))

next_later : (n : ℕ) (κ : ℕ → Kind) (i : ℕ) → later (suc n) κ i ≡ later n κ (suc i)
next_later zero κ i = refl
next_later (suc n) κ i = next_later n (λ i. κ (suc i)) i

module _ (ks : Kinds) (κ : ℕ → Kind) where
  -- if those from one on are, all are
  abbrev pub AreSoFar : List Expr → ℕ → Type 0
  AreSoFar es i = AreOf ks (later i κ) (expressions_view (drop i es)) → AreOf ks κ (expressions_view es)

  pub argument_is : (es : List Expr) (i : ℕ) (e : Expr) → i < length es → e ≡ get_or es i e → kind_of ks (expression_view e) ≡ κ i → AreSoFar es i → AreSoFar es (i + 1)
  argument_is es i e lt at is was rest =
      let n : i + 1 ≡ suc i = omega arith in
      let more : AreOf ks (λ j. later i κ (suc j)) (expressions_view (drop (i + 1) es)) =
      subst (λ f. AreOf ks f (expressions_view (drop (i + 1) es))) (λ k j. next_later i κ j k) (subst (λ m. AreOf ks (later m κ) (expressions_view (drop (i + 1) es))) n rest) in
      was (subst (λ es. AreOf ks (later i κ) (expressions_view es)) (sym (item_and_rest es i e lt at)) (is ∙ sym (first_later i κ), more))

  pub arguments_are : (es : List Expr) (i : ℕ) → length es ≤ i → AreSoFar es i → AreOf ks κ (expressions_view es)
  arguments_are es i le was = was (subst (λ es. AreOf ks (later i κ) (expressions_view es)) (sym (drop_all i es le)) tt)

pub argument_in : (ks : Kinds) (κ : ℕ → Kind) (es : List Expr) (i : ℕ) (e : Expr) → i < length es → e ≡ get_or es i e → AreOf ks κ (expressions_view es) → kind_of ks (expression_view e) ≡ κ i
argument_in ks κ [] i e lt at h = absurd (omega (arith, lt))
argument_in ks κ (x ∷ es) zero e lt at h = ap (λ z. kind_of ks (expression_view z)) at ∙ h.0
argument_in ks κ (x ∷ es) (suc i) e lt at h = argument_in ks (λ j. κ (suc j)) es i e (omega (arith, lt)) at h.1

-- Methods

pub method_there : (ms : List Method) (i : ℕ) (m : Method) → i < length ms → m ≡ get_or ms i m → slice_get (map method_view ms) i ≡ Some (method_view m)
method_there ms i m lt at = get_map method_view ms i m (slice_get-get_or ms i m lt ∙ ap Some (sym at))

pub none_takes : (ms : List Method) (i n : ℕ) → length ms ≤ i → Takes (slice_get (map method_view ms) i) n → ⊥
none_takes [] i n le t = t
none_takes (m ∷ ms) zero n le t = omega (arith, le)
none_takes (m ∷ ms) (suc i) n le t = none_takes ms i n (omega (arith, le)) t

kept_there : (xs : List ℕ) (n i k : ℕ) → slice_get xs i ≡ Some k → slice_get (xs ++ n ∷ []) i ≡ Some k
kept_there [] n i k e = absurd cc
kept_there (x ∷ xs) n zero k e = e
kept_there (x ∷ xs) n (suc i) k e = kept_there xs n i k e

last_there : (xs : List ℕ) (n : ℕ) → slice_get (xs ++ n ∷ []) (length xs) ≡ Some n
last_there [] n = refl
last_there (x ∷ xs) n = last_there xs n

module _ (p : PlainProgram) where
  -- the bodies of value methods
  abbrev pub MethodsFit : List Method → Type 0
  MethodsFit ms = (i : ℕ) (m : PlainMethod) → slice_get (map method_view ms) i ≡ Some m → FitsMethod p false m

  joined : (x : Method) (xs : List Method) → FitsMethod p false (method_view x) → MethodsFit xs → MethodsFit (x ∷ xs)
  joined x xs f g zero m e = subst (λ m. FitsMethod p false m) (cc) f
  joined x xs f g (suc i) m e = g i m e

  none : MethodsFit []
  none i m e = absurd cc

  pub method_fits : (ms : List Method) (i : ℕ) (m : Method) → i < length ms → m ≡ get_or ms i m → FitsMethod p false (method_view m) → (MethodsFit (drop i ms) → MethodsFit ms) → MethodsFit (drop (i + 1) ms) → MethodsFit ms
  method_fits ms i m lt at fits was = one_more MethodsFit joined ms i m lt at fits was

  pub method_in : (ms : List Method) (i : ℕ) (m : Method) → i < length ms → m ≡ get_or ms i m → MethodsFit ms → FitsMethod p false (method_view m)
  method_in ms i m lt at fit = fit i (method_view m) (method_there ms i m lt at)

  pub methods_fit : (ms : List Method) (i : ℕ) → length ms ≤ i → (MethodsFit (drop i ms) → MethodsFit ms) → MethodsFit ms
  methods_fit ms i le was = no_more MethodsFit none ms i le was

  -- those of operations, whose places are told one by one
  pub none_told : (starts places : List ℕ) → places ≡ [] → OpsBegin p starts places
  none_told starts places is i place e lt = let f : slice_get [] i ≡ Some place = ap (λ (r : List ℕ). slice_get r i) (sym is) ∙ e in absurd cc

  pub one_told : (starts places more : List ℕ) (n : ℕ) (m : PlainMethod) → more ≡ places ++ n ∷ [] → slice_get p.ops (length places) ≡ Some m → (n < 4294967295 → FitsMethod p true m × (slice_get starts (length places) ≡ Some n)) → OpsBegin p starts places → OpsBegin p starts more
  one_told starts places more n m is at tells all i place e lt = ⊎_elim (λ e. all i place e lt) here (last_found places n place i (ap (λ (r : List ℕ). slice_get r i) (sym is) ∙ e))
    where
      here : (i ≡ length places) × (n ≡ place) → (m : PlainMethod) × (slice_get p.ops i ≡ Some m) × FitsMethod p true m × (slice_get starts i ≡ Some place)
      here h =
          let told = tells (subst (λ k. k < 4294967295) (sym h.1) lt) in
          (m, ap (slice_get p.ops) h.0 ∙ at, told.0, ap (slice_get starts) h.0 ∙ (told.1 ∙ ap Some h.1))

  -- and that have one where they fit
  abbrev pub StandSoFar : List ℕ → List ℕ → Type 0
  StandSoFar starts places = (i start : ℕ) (m : PlainMethod) → i < length places → slice_get p.ops i ≡ Some m → FitsMethod p true m → slice_get starts i ≡ Some start → slice_get places i ≡ Some start

  pub none_stand : (starts places : List ℕ) → places ≡ [] → StandSoFar starts places
  none_stand starts places is i start m lt = absurd (omega (arith, lt, ap length is))

  pub one_stands : (starts places more : List ℕ) (n : ℕ) (m : PlainMethod) → more ≡ places ++ n ∷ [] → slice_get p.ops (length places) ≡ Some m → ((start : ℕ) → FitsMethod p true m → slice_get starts (length places) ≡ Some start → n ≡ start) → StandSoFar starts places → StandSoFar starts more
  one_stands starts places more n m is at tells all i start x lt there fits begins =
      subst (λ (r : List ℕ). slice_get r i ≡ Some start) (sym is) (⊎_elim before last (before_or_last i (length places) (omega (arith, lt, ap length is, length-append places (n ∷ [])))))
    where
      before : i < length places → slice_get (places ++ n ∷ []) i ≡ Some start
      before l = kept_there places n i start (all i start x l there fits begins)

      last : i ≡ length places → slice_get (places ++ n ∷ []) i ≡ Some start
      last e =
          let f : Some m ≡ Some x = sym at ∙ (ap (slice_get p.ops) (sym e) ∙ there) in
          let same : m ≡ x = cc in
          subst (λ j. slice_get (places ++ n ∷ []) j ≡ Some start) (sym e) (last_there places n ∙ ap Some (tells start (subst (λ m. FitsMethod p true m) (sym same) fits) (ap (slice_get starts) (sym e) ∙ begins)))

  pub all_stand : (starts places : List ℕ) → length p.ops ≤ length places → StandSoFar starts places → OpsStand p starts places
  all_stand starts places le stand i start m there = stand i start m (omega (arith, le, slice_get_within p.ops i m there)) there

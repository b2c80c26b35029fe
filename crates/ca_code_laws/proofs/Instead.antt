-- Runs of the machine, put together: an evaluation or a statement does what it means, or something else holds of where it began.
use Rattle.std.proofs.Common.{◌≡◌, ℕ, ◌+◌, ◌≤◌, List, ◌∷◌, ◌++◌, length, Some, subst, arith, length-append, refl, ◌⊎◌, inl, inr}
use Rattle.ca_model.specs.declared.value.Value.{Value as Datum}
use Rattle.ca_meaning.specs.Expressions.{Out, gives, traps, over, ◌>>=◌}
use Rattle.ca_meaning.specs.Flows.{Flow, goes_on, gives_back, stops, runs_out, and_on, with}
use Rattle.ca_program.specs.Kinds.{Kind}
use Rattle.ca_program.specs.Instructions.{Code, Placed, HasAt}
use Rattle.ca_code_laws.specs.Machine.{Store, Accesses, State, Trapped, Spent, Wanting, Next, moved, act, Comes, Ends}
use Rattle.ca_code_laws.specs.Told.{Below}
use Rattle.ca_code_laws.proofs.Steps.{has_front, has_back, joins_end, steps, Goes, Reaches, comes_reaches, Flows, comes_flows}

-- What may hold instead: where it holds of a state, it holds of each that comes there.
pub record Otherwise {S : Type 0} (acc : Accesses S) (code : Code) : Type 1 where
  pub there : State S → Type 0
  pub back : (s t : State S) → Comes acc code s t → there t → there s

-- nothing, in typed programs
abbrev pub nothing_else : {S : Type 0} (acc : Accesses S) (code : Code) → Otherwise acc code
nothing_else acc code = record { there = λ s. ⊥; back = λ s t c e. e }

-- it wants memory, where texts fit their layout
abbrev pub or_wants : {S : Type 0} (acc : Accesses S) (code : Code) → Otherwise acc code
or_wants acc code = record { there = λ s. Ends acc code s Wanting; back = λ s t c e. joins_end acc code c e }

pub only : {A : Type 0} → ⊥ ⊎ A → A
only (inl e) = absurd e
only (inr a) = a

module _ {S : Type 0} (acc : Accesses S) (code : Code) (alt : Otherwise acc code) where
  -- want of memory is such
  abbrev pub MayWant : Type 0
  MayWant = (s : State S) → Ends acc code s Wanting → alt.there s

  -- an evaluation
  abbrev pub Gets : {A : Type 0} → State S → ℕ → (A → Store → Type 0) → Out A → Type 0
  Gets s n Q o = alt.there s ⊎ Reaches acc code s n Q o

  comes_gets : {A : Type 0} (s : State S) (at m l k : ℕ) (f : Store) (R : A → Store → Type 0) → at + m ≡ s.at + l → Comes acc code s (moved s at k f s.world) → Below s.base s.slots f → k ≤ s.left → (o : Out A) → Gets (moved s at k f s.world) m R o → Gets s l R o
  comes_gets s at m l k f R e c b le o (inl w) = inl (alt.back s (moved s at k f s.world) c w)
  comes_gets s at m l k f R e c b le o (inr r) = inr (comes_reaches acc code s at m l k f R e c b le o r)

  -- and then another
  pub then_gets : {A B : Type 0} (s : State S) (ca cb : List Placed) (Q : A → Store → Type 0) (R : B → Store → Type 0) (g : A → ℕ → Out B) → HasAt code s.at (ca ++ cb) → (o : Out A) → (HasAt code s.at ca → Gets s (length ca) Q o) → ((v : A) (k : ℕ) (f : Store) → o ≡ gives v k → HasAt code (s.at + length ca) cb → Q v f → Below s.base s.slots f → k ≤ s.left → Gets (moved s (s.at + length ca) k f s.world) (length cb) R (g v k)) → Gets s (length (ca ++ cb)) R (o >>= g)
  then_gets {A} {B} s ca cb Q R g h o first next = or (first (has_front code s.at ca cb h))
    where
      by : (z : Out A) → o ≡ z → Reaches acc code s (length ca) Q z → Gets s (length (ca ++ cb)) R (z >>= g)
      by (gives v k) is r =
          let e : s.at + length ca + length cb ≡ s.at + length (ca ++ cb) = omega (arith, length-append ca cb) in
          comes_gets s (s.at + length ca) (length cb) (length (ca ++ cb)) k r.0 R e r.1 r.3 r.4 (g v k) (next v k r.0 is (has_back code s.at ca cb h) r.2 r.3 r.4)
      by (traps t) is r = inr r
      by over is r = inr r

      or : Gets s (length ca) Q o → Gets s (length (ca ++ cb)) R (o >>= g)
      or (inl w) = inl w
      or (inr r) = by o refl r

  -- one step, and then
  pub step_gets : {B : Type 0} (s : State S) (k : ℕ) (f : Store) (p : Placed) (cb : List Placed) (R : B → Store → Type 0) → HasAt code s.at (p ∷ cb) → ((next : Next S) → act acc code p.line (Some p.instruction) next s ≡ next (moved s (s.at + 1) k f s.world)) → Below s.base s.slots f → k ≤ s.left → (o : Out B) → (HasAt code (s.at + 1) cb → Gets (moved s (s.at + 1) k f s.world) (length cb) R o) → Gets s (length (p ∷ cb)) R o
  step_gets s k f p cb R h a b le o next =
      let e : s.at + 1 + length cb ≡ s.at + length (p ∷ cb) = omega arith in
      comes_gets s (s.at + 1) (length cb) (length (p ∷ cb)) k f R e (steps acc code s (moved s (s.at + 1) k f s.world) p h.0 a) b le o (next h.1)

  -- a statement
  abbrev pub Does : {P : Type 0} → (P → S) → Kind → State S → ℕ → (List Datum → Store → Type 0) → Flow P → Type 0
  Does w κ s n Q o = alt.there s ⊎ Flows acc code w κ s n Q o

  module _ {P : Type 0} (w : P → S) (κ : Kind) where
    pub comes_does : (s : State S) (at m l k : ℕ) (f : Store) (x : S) (R : List Datum → Store → Type 0) → at + m ≡ s.at + l → Comes acc code s (moved s at k f x) → Below s.base s.slots f → k ≤ s.left → (o : Flow P) → Does w κ (moved s at k f x) m R o → Does w κ s l R o
    comes_does s at m l k f x R e c b le o (inl t) = inl (alt.back s (moved s at k f x) c t)
    comes_does s at m l k f x R e c b le o (inr t) = inr (comes_flows acc code w κ s at m l k f x R e c b le o t)

    -- an evaluation, and then a statement
    pub with_does : {A : Type 0} (s : State S) (p : P) (ca cb : List Placed) (Q : A → Store → Type 0) (R : List Datum → Store → Type 0) (g : A → ℕ → Flow P) → s.world ≡ w p → HasAt code s.at (ca ++ cb) → (o : Out A) → (HasAt code s.at ca → Gets s (length ca) Q o) → ((v : A) (k : ℕ) (f : Store) → o ≡ gives v k → HasAt code (s.at + length ca) cb → Q v f → Below s.base s.slots f → k ≤ s.left → Does w κ (moved s (s.at + length ca) k f s.world) (length cb) R (g v k)) → Does w κ s (length (ca ++ cb)) R (with o p g)
    with_does {A} s p ca cb Q R g same h o first next = or (first (has_front code s.at ca cb h))
      where
        by : (z : Out A) → o ≡ z → Reaches acc code s (length ca) Q z → Does w κ s (length (ca ++ cb)) R (with z p g)
        by (gives v k) is r =
            let e : s.at + length ca + length cb ≡ s.at + length (ca ++ cb) = omega (arith, length-append ca cb) in
            comes_does s (s.at + length ca) (length cb) (length (ca ++ cb)) k r.0 s.world R e r.1 r.3 r.4 (g v k) (next v k r.0 is (has_back code s.at ca cb h) r.2 r.3 r.4)
        by (traps t) is r = inr (subst (λ x. Ends acc code s (Trapped t x)) same r)
        by over is r = inr (subst (λ x. Ends acc code s (Spent x)) same r)

        or : Gets s (length ca) Q o → Does w κ s (length (ca ++ cb)) R (with o p g)
        or (inl t) = inl t
        or (inr r) = by o refl r

    -- a statement, which leaves what K says, and then another
    pub and_does : (s : State S) (ca cb : List Placed) (Q R : List Datum → Store → Type 0) (K : List Datum → P → Type 0) (g : List Datum → P → ℕ → Flow P) → HasAt code s.at (ca ++ cb) → (o : Flow P) → Goes K o → (HasAt code s.at ca → Does w κ s (length ca) Q o) → ((ls : List Datum) (p : P) (k : ℕ) (f : Store) → HasAt code (s.at + length ca) cb → K ls p → Q ls f → Below s.base s.slots f → k ≤ s.left → Does w κ (moved s (s.at + length ca) k f (w p)) (length cb) R (g ls p k)) → Does w κ s (length (ca ++ cb)) R (and_on o g)
    and_does s ca cb Q R K g h o goes first next = or (first (has_front code s.at ca cb h))
      where
        by : (z : Flow P) → Goes K z → Flows acc code w κ s (length ca) Q z → Does w κ s (length (ca ++ cb)) R (and_on z g)
        by (goes_on ls p k) good r =
            let e : s.at + length ca + length cb ≡ s.at + length (ca ++ cb) = omega (arith, length-append ca cb) in
            comes_does s (s.at + length ca) (length cb) (length (ca ++ cb)) k r.0 (w p) R e r.1 r.3 r.4 (g ls p k) (next ls p k r.0 (has_back code s.at ca cb h) good r.2 r.3 r.4)
        by (gives_back v p k) good r = inr r
        by (stops t p) good r = inr r
        by (runs_out p) good r = inr r

        or : Does w κ s (length ca) Q o → Does w κ s (length (ca ++ cb)) R (and_on o g)
        or (inl t) = inl t
        or (inr r) = by o goes r

    pub step_does : (s : State S) (k : ℕ) (f : Store) (x : S) (i : Placed) (cb : List Placed) (R : List Datum → Store → Type 0) → HasAt code s.at (i ∷ cb) → ((next : Next S) → act acc code i.line (Some i.instruction) next s ≡ next (moved s (s.at + 1) k f x)) → Below s.base s.slots f → k ≤ s.left → (o : Flow P) → (HasAt code (s.at + 1) cb → Does w κ (moved s (s.at + 1) k f x) (length cb) R o) → Does w κ s (length (i ∷ cb)) R o
    step_does s k f x i cb R h a b le o next =
        let e : s.at + 1 + length cb ≡ s.at + length (i ∷ cb) = omega arith in
        comes_does s (s.at + 1) (length cb) (length (i ∷ cb)) k f x R e (steps acc code s (moved s (s.at + 1) k f x) i h.0 a) b le o (next h.1)

-- Where nothing else may be: one step and then.
module _ {S : Type 0} (acc : Accesses S) (code : Code) {P : Type 0} (w : P → S) (κ : Kind) where
  pub step_flows : (s : State S) (k : ℕ) (f : Store) (x : S) (i : Placed) (cb : List Placed) (R : List Datum → Store → Type 0) → HasAt code s.at (i ∷ cb) → ((next : Next S) → act acc code i.line (Some i.instruction) next s ≡ next (moved s (s.at + 1) k f x)) → Below s.base s.slots f → k ≤ s.left → (o : Flow P) → (HasAt code (s.at + 1) cb → Flows acc code w κ (moved s (s.at + 1) k f x) (length cb) R o) → Flows acc code w κ s (length (i ∷ cb)) R o
  step_flows s k f x i cb R h a b le o next = only (step_does acc code (nothing_else acc code) w κ s k f x i cb R h a b le o (λ h. inr (next h)))

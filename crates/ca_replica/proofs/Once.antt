-- Rising lists of fields.
use Rattle.std.proofs.Common.{◌≡◌, inl, inr, suc, List, [], ◌∷◌, refl, ap, ◌∙◌, arith}
use Rattle.ca_program.specs.declared.program.FieldId.{FieldId}
use Rattle.ca_parallel.specs.ExtentsOf.{Rises, FieldBefore}
use Rattle.ca_replica.specs.Adding.{Absent, RisingListsHoldEachOnce}

before_other : (f g : FieldId) → FieldBefore f g → ¬ ((g.class.0 ≡ f.class.0) × (g.field ≡ f.field))
before_other f g (inl lt) = λ e. let a = e.0 in omega (arith, lt)
before_other f g (inr e) = λ d. let lt = e.1 in let a = d.1 in omega (arith, lt)

before_then : (f g k : FieldId) → FieldBefore f g → FieldBefore g k → FieldBefore f k
before_then f g k (inl a) (inl b) = inl (omega (arith, a, b))
before_then f g k (inl a) (inr b) = let e : g.class.0 ≡ k.class.0 = ap (λ z. z.0) b.0 in inl (omega (arith, a, e))
before_then f g k (inr a) (inl b) = let e : f.class.0 ≡ g.class.0 = ap (λ z. z.0) a.0 in inl (omega (arith, b, e))
before_then f g k (inr a) (inr b) = let x = a.1 in let y = b.1 in inr (a.0 ∙ b.0, omega (arith, x, y))

tail_rises : (f : FieldId) (fs : List FieldId) → Rises FieldBefore (f ∷ fs) → Rises FieldBefore fs
tail_rises f fs r = record { rises = λ n x y a b. r.rises (suc n) x y a b }

all_behind : (f g : FieldId) (fs : List FieldId) → FieldBefore f g → Rises FieldBefore (g ∷ fs) → Absent (g ∷ fs) f.class f.field
all_behind f g [] b r = (before_other f g b, tt)
all_behind f g (k ∷ fs) b r = (before_other f g b, all_behind f k fs (before_then f g k b (r.rises 0 g k refl refl)) (tail_rises g (k ∷ fs) r))

pub rising_once : RisingListsHoldEachOnce
rising_once [] r = tt
rising_once (f ∷ []) r = (tt, tt)
rising_once (f ∷ g ∷ fs) r = (all_behind f g fs (r.rises 0 f g refl refl) (tail_rises f (g ∷ fs) r), rising_once (g ∷ fs) (tail_rises f (g ∷ fs) r))

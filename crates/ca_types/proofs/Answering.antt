-- How right answers for parts make right answers for the whole.
use Rattle.std.proofs.Common.{◌≡◌, [], ◌∷◌, Option, Some, None, Result, Ok, Err, IfOk, IfErr, OnOk, IsOk, is_ok, is_some, true, refl, sym, subst, ap, ◌∙◌}
use Rattle.std.specs.Option.{option_map}
use Rattle.ca_resolve.specs.declared.errors.CheckError.{CheckError}
use Rattle.ca_resolve.specs.declared.errors.CheckError.TheVariants.{Memory}
use Rattle.ca_resolve.specs.Judged.{Violation, Judged, fine, violations, both, within, unless, beside, Tells, Answers, Finds, Joins}
use Rattle.ca_resolve.proofs.Judging.{both_violations, finds, within_tells}
use Rattle.ca_types.specs.Rules.{listed}

pub within_ok : {A B : Type 0} (j : Judged A) (rule : A → Judged B) (a : A) → j ≡ fine a → within j rule ≡ rule a
within_ok j rule a h = ap (λ k. within k rule) h

pub joined : {T U A B : Type 0} (f : T → A) (g : U → B) (a : Result T CheckError) (b : Result U CheckError) (r : Result (T × U) CheckError) (j : Judged A) (k : Judged B)
    → Joins a b r → Answers f a j → Answers g b k → Answers (λ (p : T × U). (f p.0, g p.1)) r (both j k)
joined f g a b (Ok p) j k h x y =
    let x2 = subst (λ z. Answers f z j) h.0 x in
    let y2 = subst (λ z. Answers g z k) h.1 y in
    rw x2 (rw y2 refl)
joined f g a b (Err e) j k h x y = subst (λ vs. Tells e vs) (sym (both_violations j k)) (h (violations j) (violations k) (finds f a j x) (finds g b k y))

pub besides : {T U A : Type 0} (f : U → A) (a : Result T CheckError) (b : Result U CheckError) (r : Result (T × U) CheckError) (v : Option Violation) (k : Judged A)
    → Joins a b r → Finds a (listed v) → Answers f b k → Answers (λ (p : T × U). f p.1) r (beside v k)
besides f a b (Ok p) None k h x y = subst (λ z. Answers f z k) h.1 y
besides f a b (Ok p) (Some v) k h x y = let x2 = subst (λ z. Finds z (v ∷ [])) h.0 x in absurd (cc)
besides f a b (Err e) None k h x y = h [] (violations k) x (finds f b k y)
besides f a b (Err e) (Some v) k h x y = h (v ∷ []) (violations k) x (finds f b k y)

-- the rule of a node's own
pub stands : {T A : Type 0} (a : Result T CheckError) (t : T) (v : Option Violation) (x : A) → Finds a (listed v) → a ≡ Ok t → unless v x ≡ fine x
stands a t None x h e = refl
stands a t (Some v) x h e = let x2 = subst (λ z. Finds z (v ∷ [])) e h in absurd (cc)

pub breaks : {T A : Type 0} (a : Result T CheckError) (d : CheckError) (v : Option Violation) (x : A) → Finds a (listed v) → a ≡ Err d → Tells d (violations (unless v x))
breaks a d None x h e = subst (λ z. Finds z []) e h
breaks a d (Some v) x h e = subst (λ z. Finds z (v ∷ [])) e h

-- two rules of a node's own
pub pair_breaks : {T U A : Type 0} (a : Result T CheckError) (b : Result U CheckError) (r : Result (T × U) CheckError) (e : CheckError) (v w : Option Violation) (x : A)
    → Joins a b r → Finds a (listed v) → Finds b (listed w) → r ≡ Err e → Tells e (violations (beside v (unless w x)))
pair_breaks a b r e None None x h p q k = (subst (λ z. Joins a b z) k h) [] [] p q
pair_breaks a b r e None (Some w) x h p q k = (subst (λ z. Joins a b z) k h) [] (w ∷ []) p q
pair_breaks a b r e (Some v) None x h p q k = (subst (λ z. Joins a b z) k h) (v ∷ []) [] p q
pair_breaks a b r e (Some v) (Some w) x h p q k = (subst (λ z. Joins a b z) k h) (v ∷ []) (w ∷ []) p q

-- a node inside which all is fine
pub own_tells : {A B : Type 0} (e : CheckError) (j : Judged A) (rule : A → Judged B) (a : A) → j ≡ fine a → Tells e (violations (rule a)) → Tells e (violations (within j rule))
own_tells e j rule a h t = subst (λ k. Tells e (violations (within k rule))) (sym h) t

pub beside_exit : {T U A B : Type 0} (f : U → A) (a : Result T CheckError) (b : Result U CheckError) (r : Result (T × U) CheckError) (e : CheckError) (v : Option Violation) (k : Judged A) (rule : A → Judged B)
    → r ≡ Err e → Joins a b r → Finds a (listed v) → Answers f b k → Tells e (violations (within (beside v k) rule))
beside_exit f a b r e v k rule is h x y = within_tells e (beside v k) rule (subst (λ z. Answers (λ (p : _ × _). f p.1) z (beside v k)) is (besides f a b r v k h x y))

pub pair_stands : {T U A : Type 0} (a : Result T CheckError) (b : Result U CheckError) (r : Result (T × U) CheckError) (p : T × U) (v w : Option Violation) (x : A)
    → Joins a b r → Finds a (listed v) → Finds b (listed w) → r ≡ Ok p → beside v (unless w x) ≡ fine x
pair_stands a b r p None w x h m n k =
    let both_ok = subst (λ z. Joins a b z) k h in stands b p.1 w x n both_ok.1
pair_stands a b r p (Some v) w x h m n k =
    let both_ok = subst (λ z. Joins a b z) k h in
    let first : Finds (Ok p.0) (v ∷ []) = subst (λ z. Finds z (v ∷ [])) both_ok.0 m in absurd (cc)

-- what memory alone can keep from being made
pub made : {T A : Type 0} (view : T → A) (r : Result T CheckError) (j : Judged A) (a : A) → j ≡ fine a → IfOk r (λ t. view t ≡ a) → IfErr r (λ e. e ≡ Memory) → Answers view r j
made view (Ok t) j a is h m = is ∙ ap (λ z. fine z) (sym h)
made view (Err e) j a is h m = rw m (tt, tt)

pub made_so : {T A : Type 0} (view : T → A) (r : Result T CheckError) (j : Judged A) (t : T) → j ≡ fine (view t) → IfOk r (λ u. u ≡ t) → IfErr r (λ e. e ≡ Memory) → Answers view r j
made_so view (Ok u) j t is h m = is ∙ ap (λ z. fine (view z)) (sym h)
made_so view (Err e) j t is h m = rw m (tt, tt)

-- what was given room in what is handed on
pub roomy : {T U E A : Type 0} (view : T → A) (r : Result T CheckError) (room : Result U E) (j : Judged A) (t : T) (a : A)
    → j ≡ fine a → IfOk r (λ u. u ≡ t) → OnOk r (IsOk room) → IfErr r (λ e. e ≡ Memory) → OnOk room (view t ≡ a) → Answers view r j
roomy view (Ok u) (Ok v) j t a is h k m n = is ∙ ap (λ z. fine z) (sym (ap view h ∙ n))
roomy view (Ok u) (Err d) j t a is h k m n = absurd (cc)
roomy view (Err e) room j t a is h k m n = rw m (tt, tt)

-- what holds where there is a result
pub on_ok : {T E P Q : Type 0} (r : Result T E) → (P → Q) → OnOk r P → OnOk r Q
on_ok (Ok t) f h = f h
on_ok (Err e) f h = tt

-- what was made, of what holds of it
pub if_made : {T E : Type 0} (P : T → Type 0) (r : Result T E) (t : T) → r ≡ Ok t → IfOk r P → P t
if_made P r t is h = subst (λ z. IfOk z P) is h

pub on_made : {T E : Type 0} (P : Type 0) (r : Result T E) (t : T) → r ≡ Ok t → OnOk r P → P
on_made P r t is h = subst (λ z. OnOk z P) is h

-- what holds where there is a result, and there is one
pub on_ok_so : {T E : Type 0} (P : Type 0) (r : Result T E) → is_ok r ≡ true → OnOk r P → P
on_ok_so P (Ok t) h p = p
on_ok_so P (Err e) h p = absurd (cc)

-- what is handed on where there was room
pub put_where_room : {T A U E F : Type 0} (view : T → A) (r : Result T F) (now : T) (a : A) (room : Result U E) → IfOk r (λ t. t ≡ now) → OnOk r (IsOk room) → (is_ok room ≡ true → view now ≡ a) → IfOk r (λ t. view t ≡ a)
put_where_room view (Ok t) now a room same is f = ap view same ∙ f is
put_where_room view (Err e) now a room same is f = tt

pub mapped_some : {A B : Type 0} (f : A → B) (o : Option A) → is_some (option_map f o) ≡ is_some o
mapped_some f (Some a) = refl
mapped_some f None = refl

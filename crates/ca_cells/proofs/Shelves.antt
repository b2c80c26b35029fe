-- Histories on shelves.
use Rattle.std.proofs.Common.{◌≡◌, ◌≢◌, ℕ, zero, suc, ◌+◌, ◌<◌, cond, List, [], ◌∷◌, ◌++◌, All, length, take, drop, get_or, Some, None, sym, refl, ap, ◌∙◌, subst, arith, append-nil, eq-eqb, ne_eqb}
use Rattle.std.specs.Prelude.{Contains, slice_get}
use mathlib.Core.Logic.{dite}
use native.Mathlib.Decide.{ℕ_discrete}
use Rattle.std.proofs.lemmas.List.Elements.{All-append, All-contains, All-contains_itself}
use Rattle.ca_logs.specs.declared.log.CellLog.{CellLog}
use Rattle.ca_cells.specs.clauses.Shelves.{found, AreOnce, IsIn, IsShelf, Without}
use Rattle.ca_cells.specs.declared.slot.Held.{Held}

pub found_here : (h : Held) (hs : List Held) (n : ℕ) → h.number ≡ n → found (h ∷ hs) n ≡ Some h.log
found_here h hs n e = ap (λ b. cond b (Some h.log) (found hs n)) (eq-eqb h.number n e)

pub found_past : (h : Held) (hs : List Held) (n : ℕ) → h.number ≢ n → found (h ∷ hs) n ≡ found hs n
found_past h hs n ne = ap (λ b. cond b (Some h.log) (found hs n)) (ne_eqb h.number n ne)

none_tail : (h : Held) (hs : List Held) (n : ℕ) → found (h ∷ hs) n ≡ None → (h.number ≢ n) × (found hs n ≡ None)
none_tail h hs n e = let ne : h.number ≢ n = λ is. absurd (let z : Some h.log ≡ None = sym (found_here h hs n is) ∙ e in cc) in (ne, sym (found_past h hs n ne) ∙ e)

pub none_cons : (h : Held) (hs : List Held) (n : ℕ) → h.number ≢ n → found hs n ≡ None → found (h ∷ hs) n ≡ None
none_cons h hs n ne e = found_past h hs n ne ∙ e

-- the parts of a list
pub none_first : (xs ys : List Held) (n : ℕ) → found (xs ++ ys) n ≡ None → found xs n ≡ None
none_first [] ys n e = refl
none_first (x ∷ xs) ys n e = let t = none_tail x (xs ++ ys) n e in none_cons x xs n t.0 (none_first xs ys n t.1)

pub none_last : (xs ys : List Held) (n : ℕ) → found (xs ++ ys) n ≡ None → found ys n ≡ None
none_last [] ys n e = e
none_last (x ∷ xs) ys n e = none_last xs ys n (none_tail x (xs ++ ys) n e).1

pub none_both : (xs ys : List Held) (n : ℕ) → found xs n ≡ None → found ys n ≡ None → found (xs ++ ys) n ≡ None
none_both [] ys n e f = f
none_both (x ∷ xs) ys n e f = let t = none_tail x xs n e in none_cons x (xs ++ ys) n t.0 (none_both xs ys n t.1 f)

pub found_behind : (xs ys : List Held) (n : ℕ) → found xs n ≡ None → found (xs ++ ys) n ≡ found ys n
found_behind [] ys n e = refl
found_behind (x ∷ xs) ys n e = let t = none_tail x xs n e in found_past x (xs ++ ys) n t.0 ∙ found_behind xs ys n t.1

-- one that is not of this number may be left out
pub found_without : (xs : List Held) (h : Held) (ys : List Held) (n : ℕ) → h.number ≢ n → found (xs ++ ys) n ≡ found (xs ++ h ∷ ys) n
found_without [] h ys n ne = sym (found_past h ys n ne)
found_without (x ∷ xs) h ys n ne = dite (ℕ_discrete x.number n)
    (λ e. found_here x (xs ++ ys) n e ∙ sym (found_here x (xs ++ h ∷ ys) n e))
    (λ no. found_past x (xs ++ ys) n no ∙ (found_without xs h ys n ne ∙ sym (found_past x (xs ++ h ∷ ys) n no)))

pub once_without : (xs : List Held) (h : Held) (ys : List Held) → AreOnce (xs ++ h ∷ ys) → AreOnce (xs ++ ys) × (found (xs ++ ys) h.number ≡ None)
once_without [] h ys o = (o.1, o.0)
once_without (x ∷ xs) h ys o =
    let r = once_without xs h ys o.1 in
    let rest = none_last xs (h ∷ ys) x.number o.0 in
    let ne = (none_tail h ys x.number rest).0 in
    ((none_both xs ys x.number (none_first xs (h ∷ ys) x.number o.0) (none_tail h ys x.number rest).1, r.0), none_cons x (xs ++ ys) h.number (λ e. ne (sym e)) r.1)

pub once_more : (xs : List Held) (h : Held) → AreOnce xs → found xs h.number ≡ None → AreOnce (xs ++ h ∷ [])
once_more [] h o e = (refl, tt)
once_more (x ∷ xs) h o e =
    let t = none_tail x xs h.number e in
    (none_both xs (h ∷ []) x.number o.0 (found_past h [] x.number (λ z. t.0 (sym z))), once_more xs h o.1 t.1)

pub all_without : (P : Held → Type 0) (xs : List Held) (h : Held) (ys : List Held) → All P (xs ++ h ∷ ys) → All P (xs ++ ys)
all_without P [] h ys a k d l = a (suc k) d (omega (arith, l))
all_without P (x ∷ xs) h ys a zero d l = a 0 d (omega arith)
all_without P (x ∷ xs) h ys a (suc k) d l = all_without P xs h ys (λ j e m. a (suc j) e (omega (arith, m))) k d (omega (arith, l))

-- a shelf from which one history was taken
pub taken_out : (shelf others xs : List Held) (h : Held) (ys : List Held) (n : ℕ) → shelf ≡ xs ++ h ∷ ys → others ≡ xs ++ ys → h.number ≡ n → AreOnce shelf → Without shelf n others
taken_out shelf others xs h ys n a b e o =
    let w = once_without xs h ys (subst AreOnce a o) in
    record {
      none = ap (λ (l : List Held). found l n) b ∙ (ap (found (xs ++ ys)) (sym e) ∙ w.1);
      same = λ other ne. ap (λ (l : List Held). found l other) b ∙ (found_without xs h ys other (λ z. ne (sym z ∙ e)) ∙ ap (λ (l : List Held). found l other) (sym a));
      once = subst AreOnce (sym b) w.0;
      of = subst (All (λ (x : Held). Contains shelf x)) (sym b) (all_without (λ (x : Held). Contains shelf x) xs h ys (subst (All (λ (x : Held). Contains shelf x)) a (All-contains_itself shelf)));
    }

-- the last one is taken out
pub last_out : (others : List Held) (h : Held) (n : ℕ) → h.number ≡ n → AreOnce (others ++ h ∷ []) → Without (others ++ h ∷ []) n others
last_out others h n e o = taken_out (others ++ h ∷ []) others others h [] n refl (sym (append-nil others)) e o

-- one that lacks the history is so already
pub none_out : (shelf others : List Held) (n : ℕ) → others ≡ shelf → found shelf n ≡ None → AreOnce shelf → Without shelf n others
none_out shelf others n e none o = record {
  none = ap (λ (l : List Held). found l n) e ∙ none;
  same = λ other ne. ap (λ (l : List Held). found l other) e;
  once = subst AreOnce (sym e) o;
  of = subst (All (λ (x : Held). Contains shelf x)) (sym e) (All-contains_itself shelf);
}

held : ℕ → CellLog → Held
held n log = record { number = n; log = log }

one_of : {A : Type 0} (P : A → Type 0) (x : A) → P x → All P (x ∷ [])
one_of P x h zero d l = h
one_of P x h (suc k) d l = absurd (omega (arith, l))

-- the shelf with a history back
pub record IsBack (objects classes class : ℕ) (was : List Held) (n : ℕ) (log : CellLog) (back : List Held) : Type 0 where
  pub here : found back n ≡ Some log
  pub same : (other : ℕ) → other ≢ n → found back other ≡ found was other
  pub shelf : IsShelf objects classes class back

pub found_back : (others back : List Held) (n : ℕ) (log : CellLog) → found others n ≡ None → back ≡ others ++ record { number = n; log = log } ∷ [] → found back n ≡ Some log
unfolding held
found_back others back n log none e = ap (λ (l : List Held). found l n) e ∙ (found_behind others (held n log ∷ []) n none ∙ found_here (held n log) [] n refl)

pub is_back : (objects classes class : ℕ) (shelf others back : List Held) (n : ℕ) (log : CellLog) → Without shelf n others → IsShelf objects classes class shelf → IsIn objects classes class n
    → back ≡ others ++ record { number = n; log = log } ∷ [] → IsBack objects classes class shelf n log back
unfolding held
is_back objects classes class shelf others back n log w s inside e =
    let h : Held = held n log in
    record {
      here = found_back others back n log w.none e;
      same = λ other ne. ap (λ (l : List Held). found l other) e ∙ (last_past others other ne ∙ w.same other ne);
      shelf = record {
        once = subst AreOnce (sym e) (once_more others h w.once w.none);
        inside = subst (All (λ (x : Held). IsIn objects classes class x.number)) (sym e) (All-append (λ (x : Held). IsIn objects classes class x.number) others (h ∷ []) (λ k d l. All-contains (λ (x : Held). IsIn objects classes class x.number) shelf _ s.inside (w.of k d l)) (one_of (λ (x : Held). IsIn objects classes class x.number) h inside));
      };
    }
  where
    last_past : (xs : List Held) (other : ℕ) → other ≢ n → found (xs ++ held n log ∷ []) other ≡ found xs other
    last_past [] other ne = found_past (held n log) [] other (λ z. ne (sym z))
    last_past (x ∷ xs) other ne = dite (ℕ_discrete x.number other)
        (λ e. found_here x (xs ++ held n log ∷ []) other e ∙ sym (found_here x xs other e))
        (λ no. found_past x (xs ++ held n log ∷ []) other no ∙ (last_past xs other ne ∙ sym (found_past x xs other no)))

-- ---- where a history stands

pub at_of : (xs : List Held) (k : ℕ) (h d : Held) → slice_get xs k ≡ Some h → get_or xs k d ≡ h
at_of [] k h d e = absurd (cc)
at_of (x ∷ xs) zero h d e = cc
at_of (x ∷ xs) (suc k) h d e = at_of xs k h d e

pub split_at : (xs : List Held) (k : ℕ) (h : Held) → slice_get xs k ≡ Some h → xs ≡ take k xs ++ h ∷ drop (k + 1) xs
split_at xs k h e = go xs k e ∙ ap (λ (n : ℕ). take k xs ++ h ∷ drop n xs) (let z : suc k ≡ k + 1 = omega arith in z)
  where
    same : (a b : Held) → Some a ≡ Some b → a ≡ b
    same a b e = cc

    go : (ys : List Held) (n : ℕ) → slice_get ys n ≡ Some h → ys ≡ take n ys ++ h ∷ drop (suc n) ys
    go [] n e = absurd (cc)
    go (y ∷ ys) zero e = ap (λ (z : Held). z ∷ ys) (same y h e)
    go (y ∷ ys) (suc n) e = ap (λ (l : List Held). y ∷ l) (go ys n e)

pub found_mid : (xs : List Held) (h : Held) (ys : List Held) → AreOnce (xs ++ h ∷ ys) → found (xs ++ h ∷ ys) h.number ≡ Some h.log
found_mid xs h ys o = let w = once_without xs h ys o in found_behind xs (h ∷ ys) h.number (none_first xs ys h.number w.1) ∙ found_here h ys h.number refl

pub last_found : (others : List Held) (h : Held) (n : ℕ) → h.number ≡ n → AreOnce (others ++ h ∷ []) → found (others ++ h ∷ []) n ≡ Some h.log
last_found others h n e o = ap (found (others ++ h ∷ [])) (sym e) ∙ found_mid others h [] o

-- what stands at the place of a number
pub found_place : (xs : List Held) (k n : ℕ) (h : Held) → AreOnce xs → slice_get xs k ≡ Some h → h.number ≡ n → found xs n ≡ Some h.log
found_place xs k n h o e is = let s = split_at xs k h e in
    ap (found xs) (sym is) ∙ (ap (λ (l : List Held). found l h.number) s ∙ found_mid (take k xs) h (drop (k + 1) xs) (subst AreOnce s o))

pub removed : (xs others : List Held) (k n : ℕ) (h : Held) → AreOnce xs → slice_get xs k ≡ Some h → h.number ≡ n → others ≡ take k xs ++ drop (k + 1) xs → Without xs n others
removed xs others k n h o e is r = taken_out xs others (take k xs) h (drop (k + 1) xs) n (split_at xs k h e) r is o

-- one further from the end
pub one_further : (xs : List Held) (k n : ℕ) (d : Held) → k < length xs → (get_or xs k d).number ≢ n → found (drop (k + 1) xs) n ≡ None → found (drop k xs) n ≡ None
one_further xs k n d l ne e = go xs k l ne (ap (λ (m : ℕ). found (drop m xs) n) (let z : suc k ≡ k + 1 = omega arith in z) ∙ e)
  where
    go : (ys : List Held) (m : ℕ) → m < length ys → (get_or ys m d).number ≢ n → found (drop (suc m) ys) n ≡ None → found (drop m ys) n ≡ None
    go [] m l ne e = absurd (omega (arith, l))
    go (y ∷ ys) zero l ne e = none_cons y ys n ne e
    go (y ∷ ys) (suc m) l ne e = go ys m (omega (arith, l)) ne e

pub past_end : (xs : List Held) (k n : ℕ) → k ≡ length xs → found (drop k xs) n ≡ None
past_end [] zero n e = refl
past_end [] (suc k) n e = refl
past_end (x ∷ xs) zero n e = absurd (omega (arith, e))
past_end (x ∷ xs) (suc k) n e = past_end xs k n (omega (arith, e))

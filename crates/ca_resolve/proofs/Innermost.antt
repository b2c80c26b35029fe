-- Locals in the order in which they were declared, seen with the innermost first.
use Rattle.std.proofs.Common.{◌≡◌, ℕ, suc, ◌+◌, Bool, true, false, List, [], ◌∷◌, ◌++◌, Option, Some, None, cond, length, drop, slice_get, refl, sym, ◌∙◌, ap, subst, arith, Bor, Result, Ok, Err, OnOk, OnErr}
use Rattle.std.specs.Result.{is_err}
use Rattle.std.specs.Map.{update}
use Rattle.std.specs.Str.{bytes_eq}
use Rattle.std.specs.Ordering.{nat_cmp}
use Rattle.std.specs.Cmp.Lexicographic.{slice_cmp}
use Rattle.std.specs.BTreeMap.{BTreeMap, get_by, UpdatesBy}
use Rattle.std.proofs.lemmas.Map.Text.{btree_map_updates_str}
use Rattle.std.specs.Option.{option_map}
use Rattle.std.proofs.lemmas.List.{length-append}
use Rattle.std.proofs.lemmas.Slice.Eq.{bytes_eq-Decides}
use Rattle.ca_resolve.specs.declared.locals.Shadow.{Shadow}
use Rattle.ca_resolve.specs.Scopes.{VisibleLocal, same_name, find_local}
use Rattle.ca_resolve.specs.LocalView.{local_view}
use Rattle.ca_resolve.specs.clauses.Shadows.{depth_of, hidden_by, innermost_first, hides_first, FindsLocals}

pub one_inside : (ss : List Shadow) (s : Shadow) → innermost_first (ss ++ s ∷ []) ≡ local_view s.local ∷ innermost_first ss
one_inside [] s = refl
one_inside (t ∷ ss) s = ap (λ xs. xs ++ local_view t.local ∷ []) (one_inside ss s)

one_hides : (ss : List Shadow) (s : Shadow) → hides_first (ss ++ s ∷ []) ≡ s.hides ∷ hides_first ss
one_hides [] s = refl
one_hides (t ∷ ss) s = ap (λ xs. xs ++ t.hides ∷ []) (one_hides ss s)

pub as_many : (ss : List Shadow) → length (innermost_first ss) ≡ length ss
as_many [] = refl
as_many (s ∷ ss) = let h = as_many ss in let a = length-append (innermost_first ss) (local_view s.local ∷ []) in omega (arith, h, a)

abbrev pub at : BTreeMap (Bor (List ℕ)) ℕ → List ℕ → Option ℕ
at m q = get_by (λ k. slice_cmp nat_cmp q k.now) m

-- a local inside all others
pub pushed : (m n : BTreeMap (Bor (List ℕ)) ℕ) (ss : List Shadow) (s : Shadow) → FindsLocals m ss → s.hides ≡ at m s.local.name.now
    → ((q : List ℕ) → at n q ≡ update bytes_eq (at m) s.local.name.now (Some (length ss)) q) → FindsLocals n (ss ++ s ∷ [])
pushed m n ss s (finds, hides) old more =
    let inside = one_inside ss s in (
      (λ q. more q ∙ (ap (λ o. cond (same_name s.local.name.now q) (Some (length ss)) o) (finds q) ∙ (ap (λ k. cond (same_name s.local.name.now q) (Some k) (depth_of (innermost_first ss) q)) (sym (as_many ss)) ∙ ap (λ ls. depth_of ls q) (sym inside)))),
      one_hides ss s ∙ (ap (λ o. o ∷ hides_first ss) (old ∙ finds s.local.name.now) ∙ (ap (λ os. depth_of (innermost_first ss) s.local.name.now ∷ os) hides ∙ ap hidden_by (sym inside))),
    )

hidden_here : (b : Bool) (x q : List ℕ) (n : ℕ) (ls : List VisibleLocal) → bytes_eq x q ≡ b → cond b (depth_of ls x) (cond b (Some n) (depth_of ls q)) ≡ depth_of ls q
hidden_here true x q n ls h = ap (depth_of ls) ((bytes_eq-Decides x q).0 h)
hidden_here false x q n ls h = refl

-- the innermost local leaves, and the one that it hid is seen again
pub left : (m n : BTreeMap (Bor (List ℕ)) ℕ) (ss : List Shadow) (s : Shadow) → FindsLocals m (ss ++ s ∷ []) → ((q : List ℕ) → at n q ≡ update bytes_eq (at m) s.local.name.now s.hides q) → FindsLocals n ss
left m n ss s (finds, hides) less =
    let ls = innermost_first ss in
    let x = s.local.name.now in
    let both : s.hides ∷ hides_first ss ≡ depth_of ls x ∷ hidden_by ls = sym (one_hides ss s) ∙ (hides ∙ ap hidden_by (one_inside ss s)) in
    let one : s.hides ≡ depth_of ls x = cc both in
    let rest : hides_first ss ≡ hidden_by ls = cc both in
    ((λ q. less q ∙ (ap (λ o. cond (bytes_eq x q) o (at m q)) one ∙ (ap (λ o. cond (bytes_eq x q) (depth_of ls x) o) (finds q ∙ ap (λ k. depth_of k q) (one_inside ss s)) ∙ hidden_here (bytes_eq x q) x q (length ls) ls refl))), rest)

-- a local that hides one is seen at its name
pub seen : (m : BTreeMap (Bor (List ℕ)) ℕ) (ss : List Shadow) (s : Shadow) → FindsLocals m (ss ++ s ∷ []) → at m s.local.name.now ≡ Some (length ss)
seen m ss s (finds, hides) =
    let x = s.local.name.now in
    let same : bytes_eq x x ≡ true = (bytes_eq-Decides x x).1 refl in
    finds x ∙ (ap (λ ls. depth_of ls x) (one_inside ss s) ∙ (ap (λ b. cond b (Some (length (innermost_first ss))) (depth_of (innermost_first ss) x)) same ∙ ap (λ (k : ℕ). Some k) (as_many ss)))

-- the outermost local of a list, behind those inside it
abbrev or_next : Option ℕ → Option ℕ → Option ℕ
or_next (Some k) y = Some (k + 1)
or_next None y = y

abbrev or_local : Option VisibleLocal → Option VisibleLocal → Option VisibleLocal
or_local (Some l) y = Some l
or_local None y = y

next_by : (b : Bool) (n m : ℕ) (d e y : Option ℕ) → n ≡ m + 1 → d ≡ or_next e y → cond b (Some n) d ≡ or_next (cond b (Some m) e) y
next_by true n m d e y h k = ap (λ (j : ℕ). Some j) h
next_by false n m d e y h k = k

depth_outside : (ls : List VisibleLocal) (v : VisibleLocal) (q : List ℕ) → depth_of (ls ++ v ∷ []) q ≡ or_next (depth_of ls q) (cond (same_name v.name q) (Some 0) None)
depth_outside [] v q = refl
depth_outside (l ∷ ls) v q =
    next_by (same_name l.name q) (length (ls ++ v ∷ [])) (length ls) (depth_of (ls ++ v ∷ []) q) (depth_of ls q) (cond (same_name v.name q) (Some 0) None) (length-append ls (v ∷ [])) (depth_outside ls v q)

local_by : (b : Bool) (l : VisibleLocal) (d e y : Option VisibleLocal) → d ≡ or_local e y → cond b (Some l) d ≡ or_local (cond b (Some l) e) y
local_by true l d e y h = refl
local_by false l d e y h = h

find_outside : (ls : List VisibleLocal) (v : VisibleLocal) (q : List ℕ) → find_local (ls ++ v ∷ []) q ≡ or_local (find_local ls q) (cond (same_name v.name q) (Some v) None)
find_outside [] v q = refl
find_outside (l ∷ ls) v q = local_by (same_name l.name q) l (find_local (ls ++ v ∷ []) q) (find_local ls q) (cond (same_name v.name q) (Some v) None) (find_outside ls v q)

-- the local of a number is what was found
abbrev StandsAt : List Shadow → Option ℕ → Option VisibleLocal → Type 0
StandsAt ss None o = o ≡ None
StandsAt ss (Some i) o = (s : Shadow) × (slice_get ss i ≡ Some s) × (o ≡ Some (local_view s.local))

stands_outside : (s : Shadow) (ss : List Shadow) (d : Option ℕ) (o : Option VisibleLocal) (b : Bool) → StandsAt ss d o → StandsAt (s ∷ ss) (or_next d (cond b (Some 0) None)) (or_local o (cond b (Some (local_view s.local)) None))
stands_outside s ss None o true h = (s, refl, rw h refl)
stands_outside s ss None o false h = rw h refl
stands_outside s ss (Some k) o b (t, g, e) = let n : k + 1 ≡ suc k = omega arith in (t, ap (slice_get (s ∷ ss)) n ∙ g, rw e refl)

stands : (ss : List Shadow) (q : List ℕ) → StandsAt ss (depth_of (innermost_first ss) q) (find_local (innermost_first ss) q)
stands [] q = refl
stands (s ∷ ss) q =
    let ls = innermost_first ss in
    let v = local_view s.local in
    rw (depth_outside ls v q, find_outside ls v q) (stands_outside s ss (depth_of ls q) (find_local ls q) (same_name v.name q) (stands ss q))

from_stands : (ss : List Shadow) (i : ℕ) (o : Option VisibleLocal) → StandsAt ss (Some i) o → option_map local_view (option_map (λ s. s.local) (slice_get ss i)) ≡ o
from_stands ss i o (s, there, found) = ap (λ x. option_map local_view (option_map (λ t. t.local) x)) there ∙ sym found

pub found_at : (ss : List Shadow) (q : List ℕ) (i : ℕ) → depth_of (innermost_first ss) q ≡ Some i → option_map local_view (option_map (λ s. s.local) (slice_get ss i)) ≡ find_local (innermost_first ss) q
found_at ss q i e = from_stands ss i (find_local (innermost_first ss) q) (subst (λ d. StandsAt ss d (find_local (innermost_first ss) q)) e (stands ss q))

pub none_found : (ss : List Shadow) (q : List ℕ) → depth_of (innermost_first ss) q ≡ None → None ≡ find_local (innermost_first ss) q
none_found ss q e = sym (subst (λ d. StandsAt ss d (find_local (innermost_first ss) q)) e (stands ss q))

-- what holds where a call has gone well
pub ok_holds : {T E : Type 0} (r : Result T E) (P : Type 0) → is_err r ≡ false → OnOk r P → P
ok_holds (Ok t) P e h = h
ok_holds (Err x) P e h = absurd (cc e)

pub ok_or : {T E : Type 0} (r : Result T E) (P Q : Type 0) → OnOk r P → OnErr r Q → (Q → ⊥) → P
ok_or (Ok t) P Q h k no_error = h
ok_or (Err x) P Q h k no_error = elim (no_error k) [ ]

pub updated : (m n : BTreeMap (Bor (List ℕ)) ℕ) (bs cs : List ℕ) (v w : Option ℕ) → cs ≡ bs → w ≡ v → UpdatesBy (λ x y. slice_cmp nat_cmp x.now y.now) (λ y. slice_cmp nat_cmp cs y.now) m n w
    → (q : List ℕ) → at n q ≡ update bytes_eq (at m) bs v q
updated m n bs cs v w same value h q =
    btree_map_updates_str cs m n w h q ∙ (ap (λ z. update bytes_eq (at m) z w q) same ∙ ap (λ z. update bytes_eq (at m) bs z q) value)

pub left_view : (all ss : List Shadow) (s : Shadow) (seen_as : List VisibleLocal) → innermost_first all ≡ seen_as → all ≡ ss ++ s ∷ [] → innermost_first ss ≡ drop 1 seen_as
left_view all ss s seen_as e p = sym (ap (drop 1) (sym e ∙ (ap innermost_first p ∙ one_inside ss s)))

pub not_absent : (m : BTreeMap (Bor (List ℕ)) ℕ) (ss : List Shadow) (s : Shadow) (cs : List ℕ) → FindsLocals m (ss ++ s ∷ []) → cs ≡ s.local.name.now → at m cs ≡ None → ⊥
not_absent m ss s cs h same none = let e : Some (length ss) ≡ None = sym (seen m ss s h) ∙ (ap (at m) (sym same) ∙ none) in absurd (cc e)

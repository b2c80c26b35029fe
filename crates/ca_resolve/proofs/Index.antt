-- One name more in a map that finds each name by its number.
use Rattle.std.proofs.Common.{◌≡◌, ℕ, ◌+◌, Bool, true, false, List, [], ◌∷◌, ◌++◌, Option, Some, None, cond, length, map, take, get_or, ◌<◌, refl, sym, ◌∙◌, ap, subst, arith, Bor, is_some}
use Rattle.std.proofs.lemmas.List.{take_more, map-append, length-map, length-take-le}
use Rattle.std.proofs.lemmas.Map.Text.{btree_map_updates_str}
use Rattle.std.specs.List.{position_from}
use Rattle.std.specs.Map.{update}
use Rattle.std.specs.Str.{bytes_eq}
use Rattle.std.specs.Ordering.{nat_cmp}
use Rattle.std.specs.Cmp.Lexicographic.{slice_cmp}
use Rattle.std.specs.BTreeMap.{BTreeMap, get_by, UpdatesBy}
use Rattle.std.proofs.lemmas.Slice.Eq.{bytes_eq-Decides}
use Rattle.ca_resolve.specs.Scopes.{number_of}
use Rattle.ca_resolve.specs.clauses.Index.{IsIndex}

abbrev or_else : Option ℕ → Option ℕ → Option ℕ
or_else None y = y
or_else (Some k) y = Some k

or_none : (o : Option ℕ) → o ≡ or_else o None
or_none None = refl
or_none (Some k) = refl

or_kept : (o y : Option ℕ) → is_some o ≡ true → o ≡ or_else o y
or_kept None y h = absurd (cc h)
or_kept (Some k) y h = refl

none_there : (o : Option ℕ) → is_some o ≡ false → o ≡ None
none_there None h = refl
none_there (Some k) h = absurd (cc h)

first_of_both : (b : Bool) (s : ℕ) (p q y : Option ℕ) → p ≡ or_else q y → cond b (Some s) p ≡ or_else (cond b (Some s) q) y
first_of_both true s p q y h = refl
first_of_both false s p q y h = h

-- behind these names there is one more
position_behind : (t : List ℕ → Bool) (names : List (List ℕ)) (x : List ℕ) (start : ℕ) → position_from t start (names ++ x ∷ []) ≡ or_else (position_from t start names) (cond (t x) (Some (start + length names)) None)
position_behind t [] x start = let e : start ≡ start + 0 = omega arith in ap (λ k. cond (t x) (Some k) None) e
position_behind t (n ∷ ns) x start =
    let e : start + 1 + length ns ≡ start + length (n ∷ ns) = omega arith in
    first_of_both (t n) start (position_from t (start + 1) (ns ++ x ∷ [])) (position_from t (start + 1) ns) (cond (t x) (Some (start + length (n ∷ ns))) None)
    (position_behind t ns x (start + 1) ∙ ap (λ k. or_else (position_from t (start + 1) ns) (cond (t x) (Some k) None)) e)

abbrev at : BTreeMap (Bor (List ℕ)) ℕ → List ℕ → Option ℕ
at m q = get_by (λ k. slice_cmp nat_cmp q k.now) m

new_at : (m : BTreeMap (Bor (List ℕ)) ℕ) (names : List (List ℕ)) (bs : List ℕ) (i : ℕ) (q : List ℕ) (b : Bool) → bytes_eq bs q ≡ b → length names ≡ i → IsIndex m names → is_some (at m bs) ≡ false
    → cond b (Some i) (at m q) ≡ or_else (number_of names q) (cond b (Some (0 + length names)) None)
new_at m names bs i q true p n h none =
    let same : bs ≡ q = (bytes_eq-Decides bs q).0 p in
    let here : number_of names q ≡ None = sym (h q) ∙ none_there (at m q) (subst (λ r. is_some (at m r) ≡ false) same none) in
    let e : i ≡ 0 + length names = omega (arith, n) in
    ap (λ (k : ℕ). Some k) e ∙ ap (λ o. or_else o (Some (0 + length names))) (sym here)
new_at m names bs i q false p n h none = h q ∙ or_none (number_of names q)

-- a name that isn't there takes the next number
pub index_new : (m n : BTreeMap (Bor (List ℕ)) ℕ) (names : List (List ℕ)) (bs : List ℕ) (i : ℕ) → length names ≡ i → IsIndex m names → is_some (at m bs) ≡ false
    → ((q : List ℕ) → at n q ≡ update bytes_eq (at m) bs (Some i) q) → IsIndex n (names ++ bs ∷ [])
index_new m n names bs i e h none more = λ q.
    more q ∙ (new_at m names bs i q (bytes_eq bs q) refl e h none ∙ sym (position_behind (λ r. bytes_eq r q) names bs 0))

kept_at : (m : BTreeMap (Bor (List ℕ)) ℕ) (names : List (List ℕ)) (bs q : List ℕ) (b : Bool) → bytes_eq bs q ≡ b → IsIndex m names → is_some (at m bs) ≡ true
    → at m q ≡ or_else (number_of names q) (cond b (Some (0 + length names)) None)
kept_at m names bs q true p h one =
    let same : bs ≡ q = (bytes_eq-Decides bs q).0 p in
    h q ∙ or_kept (number_of names q) (Some (0 + length names)) (subst (λ o. is_some o ≡ true) (h q) (subst (λ r. is_some (at m r) ≡ true) same one))
kept_at m names bs q false p h one = h q ∙ or_none (number_of names q)

-- a name that is there keeps its number
pub index_kept : (m : BTreeMap (Bor (List ℕ)) ℕ) (names : List (List ℕ)) (bs : List ℕ) → IsIndex m names → is_some (at m bs) ≡ true → IsIndex m (names ++ bs ∷ [])
index_kept m names bs h one = λ q. kept_at m names bs q (bytes_eq bs q) refl h one ∙ sym (position_behind (λ r. bytes_eq r q) names bs 0)

abbrev pub names_of : List (Bor (List ℕ)) → List (List ℕ)
names_of xs = map (λ n. n.now) xs

-- the names of the first i + 1
pub names_more : (xs : List (Bor (List ℕ))) (i : ℕ) (x : Bor (List ℕ)) → i < length xs → x ≡ get_or xs i x → names_of (take (i + 1) xs) ≡ names_of (take i xs) ++ x.now ∷ []
names_more xs i x h e = ap names_of (take_more xs i x h) ∙ (map-append (λ n. n.now) (take i xs) (get_or xs i x ∷ []) ∙ ap (λ y. names_of (take i xs) ++ y.now ∷ []) (sym e))

pub names_count : (xs : List (Bor (List ℕ))) (i : ℕ) → i < length xs → length (names_of (take i xs)) ≡ i
names_count xs i h = length-map (take i xs) (λ n. n.now) ∙ length-take-le i xs (omega (arith, h))

-- what an insertion changes, where the key and the number have other names
pub inserted : (m n : BTreeMap (Bor (List ℕ)) ℕ) (bs cs : List ℕ) (i k : ℕ) → cs ≡ bs → k ≡ i → UpdatesBy (λ x y. slice_cmp nat_cmp x.now y.now) (λ y. slice_cmp nat_cmp cs y.now) m n (Some k)
    → (q : List ℕ) → at n q ≡ update bytes_eq (at m) bs (Some i) q
inserted m n bs cs i k same number h q =
    btree_map_updates_str cs m n (Some k) h q ∙ (ap (λ z. update bytes_eq (at m) z (Some k) q) same ∙ ap (λ z. update bytes_eq (at m) bs (Some z) q) number)

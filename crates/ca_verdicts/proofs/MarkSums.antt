-- Marks, and the sums of conditions that they name.
use Rattle.std.proofs.Common.{inl, inr, ◌≡◌, ℕ, suc, ◌+◌, ◌*◌, ◌%◌, ◌^◌, Bool, true, false, List, [], ◌∷◌, ◌++◌, map, Option, Some, None, refl, sym, ap, ap₂, ◌∙◌, arith, subst, cond, is_eq, append_assoc, append-nil, Ordering, Less, Equal, Greater}
use Rattle.std.specs.Prelude.{slice_get, if◌then◌else◌}
use Rattle.std.specs.List.{AllByRecursion}
use Rattle.std.specs.List.Sorted.{IsStrictlySortedBy}
use Rattle.std.specs.Map.{keys_of}
use Rattle.std.specs.BTreeMap.{is_at}
use Rattle.std.proofs.lemmas.Cmp.{eq_by_cmp_equiv, tied_itself}
use Rattle.ca_sums.specs.Sums.{Sum, total, scale, AddsSum}
use Rattle.ca_sums.proofs.Algebra.{alike_refl, alike_eq, alike_trans, alike_add, alike_mul, alike_mod, total_append, total_scale}
use Rattle.ca_sums.proofs.Products.{SameTotals, same_totals_refl}
use Rattle.ca_forms.specs.Plain.{PlainMonomial, PlainPolynomial}
use Rattle.ca_forms.specs.Lists.{products_of}
use Rattle.ca_forms.specs.Rules.{gathered}
use Rattle.ca_forms.proofs.Gathered.{gathered_same_totals, gathered_same}
use Rattle.ca_norm.specs.Terms.{PlainTerm}
use Rattle.ca_norm.specs.Forms.{expand}
use Rattle.ca_symbolic.specs.declared.demand.Demand.{Demand}
use Rattle.ca_symbolic.specs.declared.demand.Group.{Group}
use Rattle.ca_symbolic.specs.declared.running.Side.{Side}
use Rattle.ca_symbolic.specs.declared.running.Side.TheVariants as side
use Rattle.ca_symbolic.specs.States.{PlainDemand}
use Rattle.ca_symbolic.specs.Demanded.{demand_of, demands_of}
use Rattle.ca_verdicts.specs.declared.marks.Marks.{Marks}
use Rattle.ca_verdicts.specs.Keys.{Key, key_of, key_cmp, key_total}
use Rattle.ca_verdicts.specs.Demands.{conditions, demanded_at}
use Rattle.ca_verdicts.specs.Counts.{SameDemand, SameDemands}
use Rattle.ca_verdicts.specs.clauses.Marks.{key_at, mark_if, marks_of, marks_in, same_side, marks_at, found, if_side, products_at, summed_up, condition_of, IsSame, AreSame, EachMarked}
use Rattle.ca_verdicts.proofs.Conditions.{keys_exact}
use Rattle.ca_folds.proofs.Rising.{eq_true as tied}

-- Sums of the same totals

pub same_of : {M : Type 0} (ps qs : Sum M) → ps ≡ qs → SameTotals ps qs
same_of ps qs e = subst (λ z. SameTotals ps z) e (same_totals_refl ps)

pub same_then : {M : Type 0} (ps qs rs : Sum M) → SameTotals ps qs → SameTotals qs rs → SameTotals ps rs
same_then ps qs rs h k = record { same = λ f. alike_trans (h.same f) (k.same f) }

pub same_append : {M : Type 0} (ps qs rs ss : Sum M) → SameTotals ps qs → SameTotals rs ss → SameTotals (ps ++ rs) (qs ++ ss)
same_append ps qs rs ss h k = record { same = λ f. alike_trans (alike_eq (total_append f ps rs)) (alike_trans (alike_add (h.same f) (k.same f)) (alike_eq (sym (total_append f qs ss)))) }

-- Marks

counted_once : (x t g : ℕ) → x + ((t + 1) * g + 0) ≡ x + (t * g + 0) + (1 * g + 0)
counted_once x t g = grind arith

-- a mark more of the last number
pub last_counted : (ms : Sum ℕ) (n t : ℕ) → SameTotals (ms ++ (n, (t + 1) % (2 ^ 64)) ∷ []) ((ms ++ (n, t) ∷ []) ++ (n, 1) ∷ [])
last_counted ms n t = record {
  same = λ f.
      alike_trans (alike_eq (total_append f ms ((n, (t + 1) % (2 ^ 64)) ∷ [])))
      (alike_trans (alike_add (alike_refl (total f ms)) (alike_add (alike_mul (alike_mod (t + 1)) (alike_refl (f n))) (alike_refl 0)))
      (alike_eq (counted_once (total f ms) t (f n) ∙ (ap (λ z. z + (1 * f n + 0)) (sym (total_append f ms ((n, t) ∷ []))) ∙ sym (total_append f (ms ++ (n, t) ∷ []) ((n, 1) ∷ []))))));
}

pub side_step : (b : Bool) (new old x y : Sum ℕ) → SameTotals new (old ++ cond b x []) → SameTotals (new ++ cond b y []) (old ++ cond b (x ++ y) [])
side_step true new old x y h =
    same_then (new ++ y) ((old ++ x) ++ y) (old ++ (x ++ y)) (same_append new (old ++ x) y y h (same_totals_refl y)) (same_of _ _ (append_assoc old x y))
side_step false new old x y h = same_then (new ++ []) ((old ++ []) ++ []) (old ++ []) (same_append new (old ++ []) [] [] h (same_totals_refl [])) (same_of _ _ (append-nil (old ++ [])))

pub no_more : (b : Bool) (new old all : Sum ℕ) → SameTotals (new ++ cond b [] []) (old ++ all) → SameTotals new (old ++ all)
no_more true new old all h = same_then new (new ++ []) (old ++ all) (same_of _ _ (sym (append-nil new))) h
no_more false new old all h = same_then new (new ++ []) (old ++ all) (same_of _ _ (sym (append-nil new))) h

tied_turned : (k l : Key) → is_eq (key_cmp k l) ≡ is_eq (key_cmp l k)
tied_turned k l = (eq_by_cmp_equiv key_total).symm k l

-- the marks under a key that were taken out, marked once more and put back
module _ (old mid new : Key → Option Marks) (key : Key) (m : Marks) (one : Side) (n : ℕ)
    (removed : (q : Key) → mid q ≡ cond (is_eq (key_cmp key q)) None (old q))
    (inserted : (q : Key) → new q ≡ cond (is_eq (key_cmp key q)) (Some m) (mid q))
    (marked : (s : Side) → SameTotals (marks_at s (Some m)) (marks_at s (old key) ++ mark_if (same_side one s) n)) where
  marked_at : (s : Side) (k : Key) (b : Bool) → is_eq (key_cmp key k) ≡ b → SameTotals (marks_at s (new k)) (marks_at s (old k) ++ if_side one s (mark_if b n))
  marked_at s k true e =
      let same : key ≡ k = keys_exact.same key k (tied (key_cmp key k) e) in
      let at : new k ≡ Some m = inserted k ∙ ap (λ b. cond b (Some m) (mid k)) e in
      same_then _ _ _ (same_of _ _ (ap (marks_at s) at)) (same_then _ _ _ (marked s) (same_of _ _ (ap₂ (λ x y. marks_at s x ++ y) (ap old same) (either (same_side one s)))))
    where
      either : (c : Bool) → mark_if c n ≡ cond c (mark_if true n) []
      either true = refl
      either false = refl
  marked_at s k false e =
      let at : new k ≡ old k = inserted k ∙ (ap (λ b. cond b (Some m) (mid k)) e ∙ (removed k ∙ ap (λ b. cond b None (old k)) e)) in
      same_then _ _ _ (same_of _ _ (ap (marks_at s) at)) (same_of _ _ (sym (append-nil (marks_at s (old k))) ∙ ap (λ z. marks_at s (old k) ++ z) (sym (none (same_side one s)))))
    where
      none : (c : Bool) → cond c (mark_if false n) (mark_if false n) ≡ mark_if false n
      none true = refl
      none false = refl

  pub key_marked : (s : Side) (k : Key) → SameTotals (marks_at s (new k)) (marks_at s (old k) ++ if_side one s (mark_if (is_eq (key_cmp k key)) n))
  key_marked s k = subst (λ b. SameTotals (marks_at s (new k)) (marks_at s (old k) ++ if_side one s (mark_if b n))) (tied_turned key k) (marked_at s k (is_eq (key_cmp key k)) refl)

-- Sums of conditions

pub summed_total : (gs : List PlainPolynomial) (f : PlainMonomial → ℕ) (ms : Sum ℕ) → total f (summed_up gs ms) ≡ total (λ n. total f (products_at gs n)) ms
summed_total gs f [] = refl
summed_total gs f (m ∷ ms) = total_append f (scale m.1 (products_at gs m.0)) (summed_up gs ms) ∙ ap₂ (λ x y. x + y) (total_scale f m.1 (products_at gs m.0)) (summed_total gs f ms)

pub same_summed : (gs : List PlainPolynomial) (ms ns : Sum ℕ) → SameTotals ms ns → SameTotals (summed_up gs ms) (summed_up gs ns)
same_summed gs ms ns h = record { same = λ f. alike_trans (alike_eq (summed_total gs f ms)) (alike_trans (h.same (λ n. total f (products_at gs n))) (alike_eq (sym (summed_total gs f ns)))) }

pub summed_append : (gs : List PlainPolynomial) (ms ns : Sum ℕ) → summed_up gs (ms ++ ns) ≡ summed_up gs ms ++ summed_up gs ns
summed_append gs [] ns = refl
summed_append gs (m ∷ ms) ns = ap (λ z. scale m.1 (products_at gs m.0) ++ z) (summed_append gs ms ns) ∙ sym (append_assoc (scale m.1 (products_at gs m.0)) (summed_up gs ms) (summed_up gs ns))

pub conditions_append : (k : Key) (ds es : List PlainDemand) → conditions k (ds ++ es) ≡ conditions k ds ++ conditions k es
conditions_append k [] es = refl
conditions_append k (d ∷ ds) es = ap (λ z. (if is_eq (key_cmp k (key_of d)) then expand d.guard else []) ++ z) (conditions_append k ds es) ∙ sym (append_assoc _ (conditions k ds) (conditions k es))

once : (f : PlainMonomial → ℕ) (ps : Sum PlainMonomial) → total f (scale 1 ps) ≡ total f ps
once f ps = total_scale f 1 ps ∙ (let z : 1 * total f ps ≡ total f ps = omega arith in z)

-- the marks of one group name its condition as often as its demands are made
module _ (gs : List PlainPolynomial) (k : Key) (guard : PlainTerm) (n : ℕ) (at : slice_get gs n ≡ Some (gathered (expand guard))) where
  products_is : products_at gs n ≡ products_of (gathered (expand guard))
  products_is = ap of at
    where
      of : Option PlainPolynomial → Sum PlainMonomial
      of None = []
      of (Some f) = products_of f

  marked_once : (b : Bool) → SameTotals (summed_up gs (mark_if b n)) (if b then expand guard else [])
  marked_once true = record {
    same = λ f.
        alike_trans (alike_eq (ap (total f) (append-nil (scale 1 (products_at gs n))) ∙ (once f (products_at gs n) ∙ ap (total f) products_is))) ((gathered_same_totals (expand guard)).same f);
  }
  marked_once false = same_totals_refl []

  group_sum : (ds : List Demand) → SameTotals (summed_up gs (marks_of k n ds)) (conditions k (map (demand_of guard) ds))
  group_sum [] = same_totals_refl []
  group_sum (d ∷ ds) =
      same_then _ _ _ (same_of _ _ (summed_append gs (mark_if (is_eq (key_cmp k (key_at d))) n) (marks_of k n ds)))
      (same_append _ _ _ _ (marked_once (is_eq (key_cmp k (key_at d)))) (group_sum ds))

pub marks_sum : (gs : List PlainPolynomial) (k : Key) (n : ℕ) (groups : List Group) → ((i : ℕ) → slice_get gs (n + i) ≡ slice_get (map condition_of groups) i) → SameTotals (summed_up gs (marks_in k n groups)) (conditions k (demands_of groups))
marks_sum gs k n [] h = same_totals_refl []
marks_sum gs k n (g ∷ rest) h =
    let first : slice_get gs n ≡ Some (gathered (expand g.guard)) = ap (slice_get gs) (let z : n ≡ n + 0 = omega arith in z) ∙ h 0 in
    same_then _ _ _ (same_of _ _ (summed_append gs (marks_of k n g.items.items) (marks_in k (n + 1) rest)))
    (same_then _ _ _ (same_append _ _ _ _ (group_sum gs k g.guard n first g.items.items) (marks_sum gs k (n + 1) rest (λ i. ap (slice_get gs) (let z : n + 1 + i ≡ n + suc i = omega arith in z) ∙ h (suc i))))
    (same_of _ _ (sym (conditions_append k (map (demand_of g.guard) g.items.items) (demands_of rest)))))

-- what is demanded at a key, from the marks under it
pub demanded_is : (groups : List Group) (k : Key) (ms : Sum ℕ) → SameTotals ms (marks_in k 0 groups) → gathered (summed_up (map condition_of groups) ms) ≡ demanded_at k (demands_of groups)
demanded_is groups k ms h =
    gathered_same _ _ (same_then _ _ _ (same_summed (map condition_of groups) ms (marks_in k 0 groups) h)
    (marks_sum (map condition_of groups) k 0 groups (λ i. ap (slice_get (map condition_of groups)) (let z : 0 + i ≡ i = omega arith in z))))

-- Tables

pub each_front : (ones twos : List Group) (es : List (Key × Marks)) (e : Key × Marks) → EachMarked ones twos (es ++ e ∷ []) → EachMarked ones twos es
each_front ones twos [] e h = tt
each_front ones twos (x ∷ es) e h = (h.0, h.1, each_front ones twos es e h.2)

pub each_last : (ones twos : List Group) (es : List (Key × Marks)) (e : Key × Marks) → EachMarked ones twos (es ++ e ∷ []) → SameTotals e.1.first.items (marks_in e.0 0 ones) × SameTotals e.1.second.items (marks_in e.0 0 twos)
each_last ones twos [] e h = (h.0, h.1)
each_last ones twos (x ∷ es) e h = each_last ones twos es e h.2

pub same_more : (ones twos : List Group) (es : List (Key × Marks)) (e : Key × Marks) → AreSame ones twos es → IsSame ones twos e → AreSame ones twos (es ++ e ∷ [])
same_more ones twos [] e h s = (s, tt)
same_more ones twos (x ∷ es) e h s = (h.0, same_more ones twos es e h.1 s)

-- the entry that is found under a key has the key
same_found : (ones twos : List Group) (es : List (Key × Marks)) (k : Key) (m : Marks) → AreSame ones twos es → found es k ≡ Some m → IsSame ones twos (k, m)
same_found ones twos [] k m h e = absurd cc
same_found ones twos (x ∷ es) k m h e = at (is_at (key_cmp k) x.0) refl e (same_found ones twos es k m h.1)
  where
    at : (b : Bool) → is_at (key_cmp k) x.0 ≡ b → cond b (Some x.1) (found es k) ≡ Some m → (found es k ≡ Some m → IsSame ones twos (k, m)) → IsSame ones twos (k, m)
    at true f i r =
        let own : k ≡ x.0 = keys_exact.same k x.0 (tied (key_cmp k x.0) f) in
        let same : x.1 ≡ m = cc in
        subst (λ z. IsSame ones twos (k, z)) same (subst (λ (z : Key). IsSame ones twos (z, x.1)) (sym own) h.0)
    at false f i r = r i

-- where all are the same, the same is demanded at each key
pub all_same : (ones twos : List Group) (es : List (Key × Marks)) →
    ((k : Key) → SameTotals (marks_at side.First (found es k)) (marks_in k 0 ones)) → ((k : Key) → SameTotals (marks_at side.Second (found es k)) (marks_in k 0 twos)) →
    AreSame ones twos es → SameDemands (demands_of ones) (demands_of twos)
all_same ones twos es h i s = λ k. at k (found es k) refl
  where
    summed : (k : Key) (o : Option Marks) → found es k ≡ o → gathered (summed_up (map condition_of ones) (marks_at side.First o)) ≡ gathered (summed_up (map condition_of twos) (marks_at side.Second o)) → demanded_at k (demands_of ones) ≡ demanded_at k (demands_of twos)
    summed k o e z =
        sym (demanded_is ones k (marks_at side.First o) (subst (λ z. SameTotals (marks_at side.First z) (marks_in k 0 ones)) e (h k)))
        ∙ (z ∙ demanded_is twos k (marks_at side.Second o) (subst (λ z. SameTotals (marks_at side.Second z) (marks_in k 0 twos)) e (i k)))

    one : (k : Key) (m : Marks) → found es k ≡ Some m → IsSame ones twos (k, m) → SameDemand k (demands_of ones) (demands_of twos)
    one k m e (inl z) = inl (summed k (Some m) e z)
    one k m e (inr z) = inr z

    at : (k : Key) (o : Option Marks) → found es k ≡ o → SameDemand k (demands_of ones) (demands_of twos)
    at k None e = inl (summed k None e refl)
    at k (Some m) e = one k m e (same_found ones twos es k m s e)

-- an entry of a table in order is found under its key
less_untied : (o : Ordering) → o ≡ Less → is_eq o ≡ false
less_untied Less e = refl
less_untied Equal e = cc
less_untied Greater e = cc

abbrev pub FoundAll : List (Key × Marks) → List (Key × Marks) → Type 0
FoundAll all [] = Unit {0}
FoundAll all (e ∷ es) = (found all e.0 ≡ Some e.1) × FoundAll all es

found_later : (x : Key × Marks) (all es : List (Key × Marks)) → AllByRecursion (λ n. key_cmp x.0 n ≡ Less) (keys_of es) → FoundAll all es → FoundAll (x ∷ all) es
found_later x all [] a h = tt
found_later x all (e ∷ es) a h =
    (ap (λ b. cond b (Some x.1) (found all e.0)) (tied_turned e.0 x.0 ∙ less_untied (key_cmp x.0 e.0) a.0) ∙ h.0, found_later x all es a.1 h.1)

pub found_all : (es : List (Key × Marks)) → IsStrictlySortedBy key_cmp (keys_of es) → FoundAll es es
unfolding IsStrictlySortedBy
found_all [] s = tt
found_all (e ∷ es) s = (ap (λ b. cond b (Some e.1) (found es e.0)) (ap is_eq (tied_itself key_total e.0)), found_later e es es s.0 (found_all es s.1))

pub each_marked : (ones twos : List Group) (all es : List (Key × Marks)) →
    ((k : Key) → SameTotals (marks_at side.First (found all k)) (marks_in k 0 ones)) → ((k : Key) → SameTotals (marks_at side.Second (found all k)) (marks_in k 0 twos)) → FoundAll all es → EachMarked ones twos es
each_marked ones twos all [] h i f = tt
each_marked ones twos all (e ∷ es) h i f = (
  subst (λ z. SameTotals (marks_at side.First z) (marks_in e.0 0 ones)) f.0 (h e.0),
  subst (λ z. SameTotals (marks_at side.Second z) (marks_in e.0 0 twos)) f.0 (i e.0),
  each_marked ones twos all es h i f.1,
)

-- a table that was marked from the demands of two orders
module _ (es0 es1 es2 : List (Key × Marks)) (ones twos : List Group) (begun : es0 ≡ [])
    (first : (s : Side) (k : Key) → SameTotals (marks_at s (found es1 k)) (marks_at s (found es0 k) ++ if_side side.First s (marks_in k 0 ones)))
    (second : (s : Side) (k : Key) → SameTotals (marks_at s (found es2 k)) (marks_at s (found es1 k) ++ if_side side.Second s (marks_in k 0 twos))) where
  none_at : (s : Side) (k : Key) → marks_at s (found es0 k) ≡ []
  none_at s k = ap (λ z. marks_at s (found z k)) begun

  pub firsts_marked : (k : Key) → SameTotals (marks_at side.First (found es2 k)) (marks_in k 0 ones)
  firsts_marked k =
      same_then _ _ _ (second side.First k) (same_then _ _ _ (same_of _ _ (append-nil (marks_at side.First (found es1 k))))
      (same_then _ _ _ (first side.First k) (same_of _ _ (ap (λ z. z ++ marks_in k 0 ones) (none_at side.First k)))))

  pub seconds_marked : (k : Key) → SameTotals (marks_at side.Second (found es2 k)) (marks_in k 0 twos)
  seconds_marked k =
      same_then _ _ _ (second side.Second k) (same_append _ _ _ _ (same_then _ _ _ (first side.Second k) (same_of _ _ (append-nil (marks_at side.Second (found es0 k)) ∙ none_at side.Second k))) (same_totals_refl (marks_in k 0 twos)))

pub adds_none : (a : Sum PlainMonomial) → AddsSum a a 1 []
adds_none a = record { added = λ f. alike_eq (let z : total f a ≡ total f a + 1 * 0 = omega arith in z) }

-- marks that were found under a key, and none where there were none
pub no_marks : (s : Side) (m : Marks) (o : Option Marks) → m.first.items ≡ [] → m.second.items ≡ [] → o ≡ None → marks_at s (Some m) ≡ marks_at s o
no_marks side.First m o e f g = e ∙ sym (ap (marks_at side.First) g)
no_marks side.Second m o e f g = f ∙ sym (ap (marks_at side.Second) g)

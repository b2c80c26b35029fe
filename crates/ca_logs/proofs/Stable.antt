-- The order of a log is by clock and then by object number, and stable.
use Rattle.std.proofs.Common.{◌≡◌, ℕ, zero, suc, List, [], ◌∷◌, filter, Bool, true, false, true≢false, cond, nat_eq, Some, refl, ap, sym, subst, ◌∙◌, arith, eqb-true}
use Rattle.std.proofs.lemmas.Bool.{and_parts}
use Rattle.std.specs.Prelude.{slice_get}
use Rattle.ca_logs.specs.declared.log.Entry.{Entry}
use Rattle.ca_logs.specs.Entries.{all_entries, ran_in}
use Rattle.ca_logs.specs.LogOrder.{number_of, comes_before, put_in, ordered, order_of}
use Rattle.ca_logs.specs.Laws.{NoLater, same_key, LogOrderIsByClock}
use Rattle.ca_logs.proofs.Comparing.{by_bool, not_before, before_no_later, behind_no_later}
use Rattle.ca_logs.proofs.Orders.{put_behind, put_front, weight_ordered}

-- ---- those that are equal in both stand as they stood

module _ (c n : ℕ) where
  abbrev kept : List Entry → List Entry
  kept es = filter (same_key c n) es

  keyed : (e : Entry) → same_key c n e ≡ true → (e.clock ≡ c) × (number_of e ≡ n)
  keyed e h = let b = and_parts (nat_eq e.clock c) (nat_eq (number_of e) n) h in (eqb-true e.clock c b.0, eqb-true (number_of e) n b.1)

  keeps : (e : Entry) (es : List Entry) → same_key c n e ≡ true → kept (e ∷ es) ≡ e ∷ kept es
  keeps e es h = ap (λ b. cond b (e ∷ kept es) (kept es)) h

  drops : (e : Entry) (es : List Entry) → same_key c n e ≡ false → kept (e ∷ es) ≡ kept es
  drops e es h = ap (λ b. cond b (e ∷ kept es) (kept es)) h

  -- what comes before an entry of the key isn't of it
  not_keyed : (x e : Entry) → comes_before x e ≡ true → same_key c n e ≡ true → same_key c n x ≡ false
  not_keyed x e before key = by_bool (same_key c n x ≡ false) (same_key c n x)
      (λ t. let a = keyed x t in let b = keyed e key in absurd (true≢false (sym before ∙ not_before x e (let p = a.0 in let q = b.0 in omega arith) (a.1 ∙ sym b.1))))
      (λ f. f)

  kept_put : (e : Entry) (xs : List Entry) → kept (put_in e xs) ≡ kept (e ∷ xs)
  kept_put e [] = refl
  kept_put e (x ∷ xs) = by_bool (kept (put_in e (x ∷ xs)) ≡ kept (e ∷ x ∷ xs)) (comes_before x e)
      (λ t. ap (λ b. kept (cond b (x ∷ put_in e xs) (e ∷ x ∷ xs))) t ∙ behind t (kept_put e xs))
      (λ f. ap (λ b. kept (cond b (x ∷ put_in e xs) (e ∷ x ∷ xs))) f)
    where
      behind : comes_before x e ≡ true → kept (put_in e xs) ≡ kept (e ∷ xs) → kept (x ∷ put_in e xs) ≡ kept (e ∷ x ∷ xs)
      behind t i = by_bool (kept (x ∷ put_in e xs) ≡ kept (e ∷ x ∷ xs)) (same_key c n e)
          (λ k. let no = not_keyed x e t k in drops x (put_in e xs) no ∙ i ∙ keeps e xs k ∙ ap (λ l. e ∷ l) (sym (drops x xs no)) ∙ sym (keeps e (x ∷ xs) k))
          (λ k. ap (λ l. cond (same_key c n x) (x ∷ l) l) (i ∙ drops e xs k) ∙ sym (drops e (x ∷ xs) k))

  pub stable : (es : List Entry) → kept (ordered es) ≡ kept es
  stable [] = refl
  stable (e ∷ es) = kept_put e (ordered es) ∙ ap (λ l. cond (same_key c n e) (e ∷ l) l) (stable es)

-- ---- by clock and object number

-- the first of these, if there is one, is no earlier than the entry
data Behind (e : Entry) : List Entry → Type 0 where
  no_first : Behind e []
  first_is : (x : Entry) (xs : List Entry) → NoLater e x → Behind e (x ∷ xs)

data InOrder : List Entry → Type 0 where
  in_order_none : InOrder []
  in_order : (e : Entry) (es : List Entry) → Behind e es → InOrder es → InOrder (e ∷ es)

behind_put : (x e : Entry) (xs : List Entry) → NoLater x e → Behind x xs → Behind x (put_in e xs)
behind_put x e [] h b = first_is e [] h
behind_put x e (y ∷ ys) h (first_is y2 ys2 k) = from (comes_before y e)
  where
    from : (b : Bool) → Behind x (cond b (y ∷ put_in e ys) (e ∷ y ∷ ys))
    from true = first_is y _ k
    from false = first_is e _ h

in_order_put : (e : Entry) (xs : List Entry) → InOrder xs → InOrder (put_in e xs)
in_order_put e [] o = in_order e [] no_first in_order_none
in_order_put e (x ∷ xs) (in_order x2 xs2 b o) =
    by_bool (InOrder (put_in e (x ∷ xs))) (comes_before x e)
    (λ t. subst (λ l. InOrder l) (sym (put_behind x e xs t)) (in_order x _ (behind_put x e xs (before_no_later x e t) b) (in_order_put e xs o)))
    (λ t. subst (λ l. InOrder l) (sym (put_front x e xs t)) (in_order e _ (first_is x xs (behind_no_later x e t)) (in_order x xs b o)))

in_order_ordered : (es : List Entry) → InOrder (ordered es)
in_order_ordered [] = in_order_none
in_order_ordered (e ∷ es) = in_order_put e (ordered es) (in_order_ordered es)

next_is : (e x y : Entry) (es : List Entry) → Behind e es → Some e ≡ Some x → slice_get es 0 ≡ Some y → NoLater x y
next_is e x y [] b p q = absurd cc
next_is e x y (z ∷ zs) (first_is z2 zs2 h) p q =
    let a : e ≡ x = cc in let b : z ≡ y = cc in subst (λ v. NoLater v y) a (subst (λ v. NoLater e v) b h)

rising : (es : List Entry) → InOrder es → (n : ℕ) (x y : Entry) → slice_get es n ≡ Some x → slice_get es (suc n) ≡ Some y → NoLater x y
rising [] o n x y p q = absurd cc
rising (e ∷ es) (in_order e2 es2 b o) zero x y p q = next_is e x y es b p q
rising (e ∷ es) (in_order e2 es2 b o) (suc n) x y p q = rising es o n x y p q

pub log_order_is : LogOrderIsByClock
log_order_is cells loose = record {
  same = record { weighed = λ f. weight_ordered f (ran_in (all_entries cells loose)) };
  rises = record { rises = rising (order_of cells loose) (in_order_ordered (ran_in (all_entries cells loose))) };
  stands = λ clock number. stable clock number (ran_in (all_entries cells loose));
}

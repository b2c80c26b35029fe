-- Terms of which anything else is answered are not the same under each order.
use Rattle.std.proofs.Common.{◌≡◌, ◌≢◌, ℕ, Bool, true, List, [], ◌++◌, length, Some, Result, Ok, Err, sym, ◌∙◌, arith, subst}
use Rattle.std.specs.Prelude.{slice_get, IfOk, IsTrue}
use Rattle.ca_lists.proofs.Members.{place_has}
use Rattle.ca_norm.specs.Terms.{PlainTerm}
use Rattle.ca_norm.specs.Forms.{norm}
use Rattle.ca_order.specs.Under.{under}
use Rattle.ca_order.specs.Rankings.{ranked, IsRanking, is_ranking, rankings_of}
use Rattle.ca_order.specs.OrderSame.{all_points, points_of, OrderSame, PointsRise}
use Rattle.ca_order.proofs.Known.{order_rises}
use Rattle.ca_order.proofs.Listed.{tested_ranking, rankings_are_all}
use Rattle.ca_order.specs.declared.point.Point.{Point}
use Rattle.ca_order.specs.declared.answers.OrderAnswer.{OrderAnswer}
use Rattle.ca_order.specs.declared.answers.OrderAnswer.TheVariants as answer
use Rattle.ca_order.specs.Answers.{Answers, IsSame}
use Rattle.ca_order.proofs.Found.{rises}

-- an order under which two terms have different forms
pub apart_under : (t u : PlainTerm) (n : ℕ) (ks : List ℕ) → slice_get (rankings_of (points_of t u)) n ≡ Some ks →
    norm (under (ranked (points_of t u) ks) t) ≢ norm (under (ranked (points_of t u) ks) u) → OrderSame t u → ⊥
apart_under t u n ks e d o =
    let is : IsRanking (points_of t u) ks = (rankings_are_all (points_of t u) (rises (points_of t u) (order_rises (all_points t ++ all_points u))) ks).1 (place_has (rankings_of (points_of t u)) n ks e) in
    d (o.same ks is)

pub told_same : (t u : PlainTerm) (a : OrderAnswer) → Answers t u a → IsSame a → OrderSame t u
told_same t u answer.Same h s = h
told_same t u (answer.TooMany m) h s = absurd s
told_same t u (answer.Differs r x y) h s = absurd s

pub not_same : (t u : PlainTerm) (a : OrderAnswer) → Answers t u a → (IsSame a → ⊥) → OrderSame t u → ⊥
not_same t u answer.Same h n o = n tt
not_same t u (answer.TooMany m) h n o = absurd (omega (arith, h.0, h.1, o.few))
not_same t u (answer.Differs r x y) h n o =
    let d = h.2.1 in
    apart_under t u h.2.0 r.ranks.items d.stands (λ e. d.differ (d.first ∙ e ∙ sym d.second)) o

-- ranks that pass the tests, under which two terms have different forms
refuted : (ps : List Point) (ks : List ℕ) (t u : PlainTerm) → ps ≡ points_of t u → length ks ≡ length ps → is_ranking ps ks ≡ true →
    norm (under (ranked ps ks) t) ≢ norm (under (ranked ps ks) u) → OrderSame t u → ⊥
refuted ps ks t u e l i d o =
    let rise : PointsRise ps = subst PointsRise (sym e) (rises (points_of t u) (order_rises (all_points t ++ all_points u))) in
    let is : IsRanking (points_of t u) ks = subst (λ z. IsRanking z ks) e (tested_ranking ps rise ks l i) in
    d (subst (λ z. norm (under (ranked z ks) t) ≡ norm (under (ranked z ks) u)) (sym e) (o.same ks is))

pub refuted_by : {E : Type 0} (ps : List Point) (ks : List ℕ) (t u : PlainTerm) (r : Result Bool E) → length ks ≡ length ps → is_ranking ps ks ≡ true →
    IfOk r (λ a. IsTrue a → norm (under (ranked ps ks) t) ≢ norm (under (ranked ps ks) u)) → IfOk r (λ a. IsTrue a → ps ≡ points_of t u → OrderSame t u → ⊥)
refuted_by ps ks t u (Ok a) l i d = λ yes e. refuted ps ks t u e l i (d yes)
refuted_by ps ks t u (Err z) l i d = tt

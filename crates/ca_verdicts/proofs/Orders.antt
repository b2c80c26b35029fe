-- Two operations whose orders look the same commute, where their sections are what symbolic execution says of them.
use Rattle.std.proofs.Common.{◌≡◌, ℕ, ◌+◌, ◌≤◌, Bool, true, false, List, ◌++◌, Option, Some, None, refl, sym, ap, ap₂, ◌∙◌, arith, subst, leb-true, le-leb}
use Rattle.std.specs.Prelude.{nat_le}
use Rattle.ca_program.specs.declared.program.ClassId.{ClassId}
use Rattle.ca_program.specs.declared.program.OpId.{OpId}
use Rattle.ca_program.specs.Plain.{PlainProgram}
use Rattle.ca_model.specs.declared.value.Value.{Value as Datum}
use Rattle.ca_model.specs.declared.value.Object.{Object}
use Rattle.ca_meaning.specs.Expressions.{Invocation}
use Rattle.ca_meaning.specs.Multisets.{weight, SameItems}
use Rattle.ca_meaning.specs.Sections.{Outcome, Sectioned, done, stopped, over, section}
use Rattle.ca_meaning.specs.Commuting.{joined, IsComplete, SameOutcome, CommutesOn}
use Rattle.ca_norm.specs.Terms.{PlainTerm}
use Rattle.ca_norm.specs.Environments.{Environment}
use Rattle.ca_norm.specs.Valuations.{valuation_in}
use Rattle.ca_symbolic.specs.States.{PlainDemand}
use Rattle.ca_symbolic_laws.specs.Costs.{plus, outcome_of, if_within, within}
use Rattle.ca_symbolic_laws.specs.Demanded.{cost, lists}
use Rattle.ca_symbolic_laws.specs.Laws.{object_meant}
use Rattle.ca_symbolic_laws.proofs.Demands.{cost_append, lists_append}
use Rattle.ca_symbolic.specs.Runs.{executed, demanded_by}
use Rattle.ca_verdicts.proofs.Looks.{met}
use Rattle.ca_verdicts.proofs.Multisets.{cost_same, lists_same}
use Rattle.ca_symbolic_laws.proofs.Bounded.{le_of}
use Rattle.ca_symbolic_laws.proofs.SweepMeans.{le_of as le_to}

-- Outcomes within budgets

done_of : (s : Sectioned) (m : Outcome) → outcome_of s ≡ Some m → s ≡ done m
done_of (done n) m e = let z : n ≡ m = cc in ap done z
done_of (stopped t) m e = cc
done_of over m e = cc

-- a cost within a budget, and the outcome
record Paid (cs : Option ℕ) (k : ℕ) (f : ℕ → Outcome) (m : Outcome) : Type 0 where
  n : ℕ
  is : cs ≡ Some n
  fits : 1 + n ≤ k
  left : m ≡ f (1 + n)

paid_of : (cs : Option ℕ) (k : ℕ) (f : ℕ → Outcome) (m : Outcome) → within (plus (Some 1) cs) k f ≡ Some m → Paid cs k f m
paid_of None k f m e = cc
paid_of (Some n) k f m e = at (nat_le (1 + n) k) refl e
  where
    at : (b : Bool) → nat_le (1 + n) k ≡ b → if_within b (Some (f (1 + n))) ≡ Some m → Paid (Some n) k f m
    at true d e = record { n = n; is = refl; fits = leb-true (1 + n) k d; left = let z : f (1 + n) ≡ m = cc in sym z }
    at false d e = cc

pay : (cs : Option ℕ) (n k : ℕ) (f : ℕ → Outcome) → cs ≡ Some n → 1 + n ≤ k → within (plus (Some 1) cs) k f ≡ Some (f (1 + n))
pay cs n k f e l = ap (λ z. within (plus (Some 1) z) k f) e ∙ ap (λ b. if_within b (Some (f (1 + n)))) (le-leb (1 + n) k l)

sums : (c d : Option ℕ) (i j : ℕ) → plus c d ≡ Some (i + j) → (x : ℕ) × (y : ℕ) × (c ≡ Some x) × (d ≡ Some y) × (x + y ≡ i + j)
sums None d i j e = cc
sums (Some x) None i j e = cc
sums (Some x) (Some y) i j e = let z : x + y ≡ i + j = cc in (x, y, refl, refl, z)

-- what the section of an operation comes to on the object that the fields mean
abbrev pub left_by : Environment → ClassId → OpId → ℕ → List PlainTerm → ℕ → Outcome
left_by s c op g fields n = record {
  object = object_meant s c (executed s.program op g fields).fields;
  listed = lists s (valuation_in s) (demanded_by s.program op g fields);
  steps = n;
}

abbrev pub price_of : Environment → OpId → ℕ → List PlainTerm → Option ℕ
price_of s op g fields = cost s (valuation_in s) (demanded_by s.program op g fields)

-- as the law says, within the steps of the environment
abbrev pub IsMeant : Environment → ClassId → OpId → ℕ → List Datum → List PlainTerm → Type 0
IsMeant s c op g us fields =
    (k : ℕ) → k ≤ s.steps → outcome_of (section s.program s.heap s.receiver (object_meant s c fields) op us k) ≡ within (plus (Some 1) (price_of s op g fields)) k (left_by s c op g fields)

-- One order of two sections
module _ (s : Environment) (c : ClassId) (start : List PlainTerm) (a : OpId) (ga : ℕ) (us : List Datum) (b : OpId) (gb : ℕ) (ws : List Datum) where
  abbrev mid : List PlainTerm
  mid = (executed s.program a ga start).fields

  -- what an order that is complete within the steps takes and leaves
  pub record Done (k1 k2 : ℕ) (m n : Outcome) : Type 0 where
    pub i : ℕ
    pub j : ℕ
    pub cost_a : price_of s a ga start ≡ Some i
    pub cost_b : price_of s b gb mid ≡ Some j
    pub fits_a : 1 + i ≤ k1
    pub fits_b : 1 + j ≤ k2
    pub left_first : m ≡ left_by s c a ga start (1 + i)
    pub left_second : n ≡ left_by s c b gb mid (1 + j)

  module _ (one : IsMeant s c a ga us start) (two : IsMeant s c b gb ws mid) where
    pub order_done : (k1 k2 : ℕ) (m n : Outcome) → k1 ≤ s.steps → k2 ≤ s.steps → section s.program s.heap s.receiver (object_meant s c start) a us k1 ≡ done m → section s.program s.heap s.receiver m.object b ws k2 ≡ done n → Done k1 k2 m n
    order_done k1 k2 m n l1 l2 e f =
        let x : Paid (price_of s a ga start) k1 (left_by s c a ga start) m = paid_of _ k1 _ m (sym (one k1 l1) ∙ ap outcome_of e) in
        let g : section s.program s.heap s.receiver (object_meant s c mid) b ws k2 ≡ done n = ap (λ z. section s.program s.heap s.receiver z.object b ws k2) (sym x.left) ∙ f in
        let y : Paid (price_of s b gb mid) k2 (left_by s c b gb mid) n = paid_of _ k2 _ n (sym (two k2 l2) ∙ ap outcome_of g) in
        record { i = x.n; j = y.n; cost_a = x.is; cost_b = y.is; fits_a = x.fits; fits_b = y.fits; left_first = x.left; left_second = y.left }

    -- an order whose demands take so much is complete
    pub order_is_complete : (i j : ℕ) → price_of s a ga start ≡ Some i → price_of s b gb mid ≡ Some j → 1 + i ≤ s.steps → 1 + j ≤ s.steps →
        IsComplete s.program s.heap s.receiver (object_meant s c start) a us b ws
    order_is_complete i j e f l m =
        let x : section s.program s.heap s.receiver (object_meant s c start) a us (1 + i) ≡ done (left_by s c a ga start (1 + i)) = done_of _ _ (one (1 + i) l ∙ pay _ i (1 + i) _ e (omega arith)) in
        let y : section s.program s.heap s.receiver (object_meant s c mid) b ws (1 + j) ≡ done (left_by s c b gb mid (1 + j)) = done_of _ _ (two (1 + j) m ∙ pay _ j (1 + j) _ f (omega arith)) in
        (joined (left_by s c a ga start (1 + i)) (left_by s c b gb mid (1 + j)), (left_by s c a ga start (1 + i), left_by s c b gb mid (1 + j), (1 + i, x), (1 + j, y), refl))

-- the fields behind one operation and then another, and what they demand
abbrev pub behind_both : Environment → OpId → ℕ → OpId → ℕ → List PlainTerm → List PlainTerm
behind_both s a ga b gb start = (executed s.program b gb (executed s.program a ga start).fields).fields

abbrev pub asked_by_both : Environment → OpId → ℕ → OpId → ℕ → List PlainTerm → List PlainDemand
asked_by_both s a ga b gb start = demanded_by s.program a ga start ++ demanded_by s.program b gb (executed s.program a ga start).fields

-- What is known of two operations in an environment: both orders are as the law says, and look the same.
pub record Seen (s : Environment) (c : ClassId) (start : List PlainTerm) (a : OpId) (ga : ℕ) (us : List Datum) (b : OpId) (gb : ℕ) (ws : List Datum) : Type 0 where
  pub first_a : IsMeant s c a ga us start
  pub then_b : IsMeant s c b gb ws (executed s.program a ga start).fields
  pub first_b : IsMeant s c b gb ws start
  pub then_a : IsMeant s c a ga us (executed s.program b gb start).fields
  pub object_same : object_meant s c (behind_both s a ga b gb start) ≡ object_meant s c (behind_both s b gb a ga start)
  pub met_same : SameItems (met (valuation_in s) (asked_by_both s a ga b gb start)) (met (valuation_in s) (asked_by_both s b gb a ga start))

turned_items : {A : Type 0} (xs ys : List A) → SameItems xs ys → SameItems ys xs
turned_items xs ys h = record { weighed = λ f. sym (h.weighed f) }

module _ (s : Environment) (c : ClassId) (start : List PlainTerm) (a : OpId) (ga : ℕ) (us : List Datum) (b : OpId) (gb : ℕ) (ws : List Datum) (seen : Seen s c start a ga us b gb ws) where
  pub turned : Seen s c start b gb ws a ga us
  turned = record {
    first_a = seen.first_b;
    then_b = seen.then_a;
    first_b = seen.first_a;
    then_a = seen.then_b;
    object_same = sym seen.object_same;
    met_same = turned_items _ _ seen.met_same;
  }

  same_price : plus (price_of s a ga start) (price_of s b gb (executed s.program a ga start).fields) ≡ plus (price_of s b gb start) (price_of s a ga (executed s.program b gb start).fields)
  same_price =
      sym (cost_append s (valuation_in s) (demanded_by s.program a ga start) (demanded_by s.program b gb (executed s.program a ga start).fields))
      ∙ (cost_same s (valuation_in s) (asked_by_both s a ga b gb start) (asked_by_both s b gb a ga start) seen.met_same
      ∙ cost_append s (valuation_in s) (demanded_by s.program b gb start) (demanded_by s.program a ga (executed s.program b gb start).fields))

  abbrev listed_by : OpId → ℕ → List PlainTerm → List Invocation
  listed_by op g fields = lists s (valuation_in s) (demanded_by s.program op g fields)

  same_lists : (f : Invocation → ℕ) → weight f (listed_by a ga start ++ listed_by b gb (executed s.program a ga start).fields) ≡ weight f (listed_by b gb start ++ listed_by a ga (executed s.program b gb start).fields)
  same_lists f =
      ap (weight f) (sym (lists_append s (valuation_in s) (demanded_by s.program a ga start) (demanded_by s.program b gb (executed s.program a ga start).fields)))
      ∙ ((lists_same s (valuation_in s) (asked_by_both s a ga b gb start) (asked_by_both s b gb a ga start) seen.met_same).weighed f
      ∙ ap (weight f) (lists_append s (valuation_in s) (demanded_by s.program b gb start) (demanded_by s.program a ga (executed s.program b gb start).fields)))

  -- the other order is complete too
  pub other_order : (k1 k2 : ℕ) (m n : Outcome) → k1 + k2 ≤ s.steps → section s.program s.heap s.receiver (object_meant s c start) a us k1 ≡ done m → section s.program s.heap s.receiver m.object b ws k2 ≡ done n →
      IsComplete s.program s.heap s.receiver (object_meant s c start) b ws a us
  other_order k1 k2 m n l e f =
      let d : Done s c start a ga us b gb ws k1 k2 m n = order_done s c start a ga us b gb ws seen.first_a seen.then_b k1 k2 m n (omega (arith, l)) (omega (arith, l)) e f in
      let t : plus (price_of s b gb start) (price_of s a ga (executed s.program b gb start).fields) ≡ Some (d.i + d.j) = sym same_price ∙ ap₂ plus d.cost_a d.cost_b in
      let u : (x : ℕ) × (y : ℕ) × (price_of s b gb start ≡ Some x) × (price_of s a ga (executed s.program b gb start).fields ≡ Some y) × (x + y ≡ d.i + d.j) = sums _ _ d.i d.j t in
      order_is_complete s c start b gb ws a ga us seen.first_b seen.then_a u.0 u.1 u.2 u.3 (omega (arith, u.4, d.fits_a, d.fits_b, l)) (omega (arith, u.4, d.fits_a, d.fits_b, l))

  -- both orders leave the same
  pub same_outcome : (k1 k2 k3 k4 : ℕ) (x y z w m n : Outcome) → k1 + k2 + (k3 + k4) ≤ s.steps →
      section s.program s.heap s.receiver (object_meant s c start) a us k1 ≡ done x → section s.program s.heap s.receiver x.object b ws k2 ≡ done y → m ≡ joined x y →
      section s.program s.heap s.receiver (object_meant s c start) b ws k3 ≡ done z → section s.program s.heap s.receiver z.object a us k4 ≡ done w → n ≡ joined z w → SameOutcome m n
  same_outcome k1 k2 k3 k4 x y z w m n l ex ey em ez ew en =
      let d : Done s c start a ga us b gb ws k1 k2 x y = order_done s c start a ga us b gb ws seen.first_a seen.then_b k1 k2 x y (omega (arith, l)) (omega (arith, l)) ex ey in
      let e : Done s c start b gb ws a ga us k3 k4 z w = order_done s c start b gb ws a ga us seen.first_b seen.then_a k3 k4 z w (omega (arith, l)) (omega (arith, l)) ez ew in
      let t : Some (d.i + d.j) ≡ Some (e.i + e.j) = sym (ap₂ plus d.cost_a d.cost_b) ∙ (same_price ∙ ap₂ plus e.cost_a e.cost_b) in
      let steps : d.i + d.j ≡ e.i + e.j = cc in
      let object : y.object ≡ w.object = ap (λ q. q.object) d.left_second ∙ (seen.object_same ∙ sym (ap (λ q. q.object) e.left_second)) in
      let taken : x.steps + y.steps ≡ z.steps + w.steps =
      ap₂ (λ q r. q.steps + r.steps) d.left_first d.left_second ∙ ((let o : 1 + d.i + (1 + d.j) ≡ 1 + e.i + (1 + e.j) = omega (arith, steps) in o) ∙ sym (ap₂ (λ q r. q.steps + r.steps) e.left_first e.left_second)) in
      record {
        object = ap (λ q. q.object) em ∙ (object ∙ sym (ap (λ q. q.object) en));
        listed = record {
          weighed = λ f.
              ap (λ q. weight f q.listed) em ∙ (ap₂ (λ q r. weight f (q.listed ++ r.listed)) d.left_first d.left_second ∙ (same_lists f ∙ (sym (ap₂ (λ q r. weight f (q.listed ++ r.listed)) e.left_first e.left_second) ∙ sym (ap (λ q. weight f q.listed) en))));
        };
        steps = ap (λ q. q.steps) em ∙ (taken ∙ sym (ap (λ q. q.steps) en));
      }

-- the environment of a receiver, its object and two lists of arguments, with so many steps
abbrev pub environment : PlainProgram → List Object → ℕ → Object → List Datum → List Datum → ℕ → Environment
environment p h r o xs ys steps = record { program = p; heap = h; receiver = r; object = o; first = xs; second = ys; steps = steps }

module _ (p : PlainProgram) (h : List Object) (r : ℕ) (o : Object) (xs ys : List Datum) (c : ClassId) (start : List PlainTerm) (a : OpId) (b : OpId)
    (starts : (k : ℕ) → object_meant (environment p h r o xs ys k) c start ≡ o)
    (seen : (k : ℕ) → Seen (environment p h r o xs ys k) c start a 1 xs b 2 ys) where
  at_start : (k j : ℕ) (op : OpId) (us : List Datum) (m : Outcome) → section p h r o op us j ≡ done m → section p h r (object_meant (environment p h r o xs ys k) c start) op us j ≡ done m
  at_start k j op us m e = ap (λ z. section p h r z op us j) (starts k) ∙ e

  complete_first : IsComplete p h r o a xs b ys → IsComplete p h r o b ys a xs
  complete_first w =
      let k : ℕ = w.1.2.0 + w.1.3.0 in
      subst (λ z. IsComplete p h r z b ys a xs) (starts k)
      (other_order (environment p h r o xs ys k) c start a 1 xs b 2 ys (seen k) w.1.2.0 w.1.3.0 w.1.0 w.1.1 (omega arith) (at_start k w.1.2.0 a xs w.1.0 w.1.2.1) w.1.3.1)

  complete_second : IsComplete p h r o b ys a xs → IsComplete p h r o a xs b ys
  complete_second w =
      let k : ℕ = w.1.2.0 + w.1.3.0 in
      subst (λ z. IsComplete p h r z a xs b ys) (starts k)
      (other_order (environment p h r o xs ys k) c start b 2 ys a 1 xs (turned (environment p h r o xs ys k) c start a 1 xs b 2 ys (seen k)) w.1.2.0 w.1.3.0 w.1.0 w.1.1 (omega arith) (at_start k w.1.2.0 b ys w.1.0 w.1.2.1) w.1.3.1)

  -- orders that look the same in each environment commute
  pub commutes_on : CommutesOn p h r o a xs b ys
  commutes_on = record {
    complete = (complete_first, complete_second);
    same = λ m n x y.
        let k : ℕ = x.2.0 + x.3.0 + (y.2.0 + y.3.0) in
        same_outcome (environment p h r o xs ys k) c start a 1 xs b 2 ys (seen k) x.2.0 x.3.0 y.2.0 y.3.0 x.0 x.1 y.0 y.1 m n (omega arith)
        (at_start k x.2.0 a xs x.0 x.2.1) x.3.1 x.4 (at_start k y.2.0 b ys y.0 y.2.1) y.3.1 y.4;
  }

-- Tasks that wait behind a clock.
use Rattle.std.proofs.Common.{◌≡◌, ◌≢◌, ◌<◌, ℕ, List, [], ◌∷◌, map, flat_map, cond, nat_eq, eq-eqb, ne_eqb, refl, ap, ◌∙◌, arith, ⊎_elim}
use Rattle.std.specs.Prelude.{Contains}
use Rattle.std.proofs.lemmas.List.Elements.{Contains-append_left, Contains-append_right, Contains-append_cases, Contains-push}
use Rattle.ca_lists.proofs.Members.{has_nothing, has_only}
use Rattle.ca_meaning.specs.Multisets.{weight}
use Rattle.ca_order_laws.proofs.Weights.{weight_append}
use Rattle.ca_parallel.specs.declared.op.Op.{Op}
use Rattle.ca_logs.specs.declared.log.Task.{Task}
use Rattle.ca_logs.specs.declared.log.Entry.{Entry}
use Rattle.ca_logs.specs.Entries.{tasks_in, listed_by, task_after}
use Rattle.ca_sum_laws.specs.Replicas.{AreBalanced}

abbrev behind : ℕ → Task → ℕ
behind clock t = cond (nat_eq t.after clock) 1 0

not_behind : (clock : ℕ) (t : Task) → t.after ≢ clock → behind clock t ≡ 0
not_behind clock t ne = ap (λ b. cond b 1 0) (ne_eqb t.after clock ne)

none_first : (clock : ℕ) (ts : List Task) → ((t : Task) → Contains ts t → t.after ≢ clock) → weight (behind clock) ts ≡ 0
none_first clock [] h = refl
none_first clock (t ∷ ts) h =
    let a = not_behind clock t (h t (Contains-append_left (t ∷ []) ts t (Contains-push [] t))) in
    let b = none_first clock ts (λ u c. h u (Contains-append_right (t ∷ []) ts u c)) in
    omega (arith, a, b)

none_made : (clock after : ℕ) (os : List Op) → after ≢ clock → weight (behind clock) (map (task_after after) os) ≡ 0
none_made clock after [] ne = refl
none_made clock after (o ∷ os) ne = let a = not_behind clock (task_after after o) ne in let b = none_made clock after os ne in omega (arith, a, b)

none_listed : (clock : ℕ) (es : List Entry) → ((e : Entry) → Contains es e → e.clock ≢ clock) → weight (behind clock) (flat_map listed_by es) ≡ 0
none_listed clock [] h = refl
none_listed clock (e ∷ es) h =
    let a = none_made clock e.clock e.invoked (h e (Contains-append_left (e ∷ []) es e (Contains-push [] e))) in
    let b = none_listed clock es (λ x c. h x (Contains-append_right (e ∷ []) es x c)) in
    let c = weight_append (behind clock) (listed_by e) (flat_map listed_by es) in
    omega (arith, a, b, c)

one_rest : (clock : ℕ) (ts : List Task) (t : Task) → Contains ts t → t.after ≡ clock → 0 < weight (behind clock) ts
one_rest clock [] t c e = absurd (has_nothing t c)
one_rest clock (u ∷ ts) t c e = ⊎_elim
    (λ b. let same : u ≡ t = has_only u t b in let one : behind clock u ≡ 1 = ap (λ k. cond k 1 0) (eq-eqb u.after clock (ap (λ (z : Task). z.after) same ∙ e)) in omega (arith, one))
    (λ b. let more = one_rest clock ts t b e in omega (arith, more)) (Contains-append_cases (u ∷ []) ts t c)

-- Where no entry has this clock no task of the rest may only run after it.
pub none_waits : (es : List Entry) (first rest : List Task) → AreBalanced es first rest → ((t : Task) → Contains first t → t.after ≡ 0) → (clock : ℕ) → 0 < clock →
    ((e : Entry) → Contains es e → e.clock ≢ clock) → (t : Task) → Contains rest t → t.after ≢ clock
none_waits es first rest balanced begins clock some none t c e =
    let w = balanced.weighed (behind clock) in
    let a = weight_append (behind clock) (tasks_in es) rest in
    let b = weight_append (behind clock) first (flat_map listed_by es) in
    let x = none_first clock first (λ u k same. let z = begins u k in absurd (omega (arith, z, same, some))) in
    let y = none_listed clock es none in
    let m = one_rest clock rest t c e in
    absurd (omega (arith, w, a, b, x, y, m))

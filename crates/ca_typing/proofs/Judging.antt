-- What holds of the parts of a judgement that is fine.
use Rattle.std.proofs.Common.{◌≡◌, ℕ, List, [], ◌∷◌, Bool, true, false, refl, sym, ap, ◌∙◌}
use Rattle.std.proofs.lemmas.Bool.{not-false}
use Rattle.std.specs.Prelude.{not, Option, Some, None}
use Rattle.ca_tree.specs.declared.name.Place.{Place}
use Rattle.ca_resolve.specs.Judged.{Violation, Judged, fine, faulty, both, within, unless, found, broken_if, beside}
use Rattle.ca_program.specs.declared.program.FirstPart.{FirstPart}
use Rattle.ca_program.specs.Plain as program
use Rattle.ca_types.specs.Rules.{loop_limit}
use Rattle.ca_types.specs.Statements.{judge_if, judge_for_loop}
use Rattle.ca_types.specs.clauses.Adding.{gathered}

pub same_fine : {A : Type 0} (a b : A) → fine a ≡ fine b → a ≡ b
same_fine a b h = cc

-- the part, and what is made of it
pub within_fine : {A B : Type 0} (j : Judged A) (rule : A → Judged B) (b : B) → within j rule ≡ fine b → (a : A) × (j ≡ fine a) × (rule a ≡ fine b)
within_fine (fine a) rule b h = (a, refl, h)
within_fine (faulty v vs) rule b h = absurd (cc)

-- a node that only passes on what is made of its part
pub made_fine : {A B : Type 0} (j : Judged A) (f : A → B) (b : B) → within j (λ a. fine (f a)) ≡ fine b → (a : A) × (j ≡ fine a) × (f a ≡ b)
made_fine (fine a) f b h = (a, refl, same_fine (f a) b h)
made_fine (faulty v vs) f b h = absurd (cc)

pub both_fine : {A B : Type 0} (j : Judged A) (k : Judged B) (p : A × B) → both j k ≡ fine p → (j ≡ fine p.0) × (k ≡ fine p.1)
both_fine (fine a) (fine b) p h = let e = same_fine (a, b) p h in (ap (λ (q : _ × _). fine q.0) e, ap (λ (q : _ × _). fine q.1) e)
both_fine (fine a) (faulty u us) p h = absurd (cc)
both_fine (faulty v vs) k p h = absurd (cc)

pub unless_fine : {A : Type 0} (v : Option Violation) (a b : A) → unless v a ≡ fine b → a ≡ b
unless_fine None a b h = same_fine a b h
unless_fine (Some v) a b h = absurd (cc)

pub none_broken : {A : Type 0} (v : Option Violation) (a b : A) → unless v a ≡ fine b → v ≡ None
none_broken None a b h = refl
none_broken (Some v) a b h = absurd (cc)

pub beside_fine : {A : Type 0} (v : Option Violation) (j : Judged A) (b : A) → beside v j ≡ fine b → (v ≡ None) × (j ≡ fine b)
beside_fine None j b h = (refl, h)
beside_fine (Some v) j b h = absurd (cc)

pub found_fine : {A : Type 0} (o : Option A) (at : Place) (code : ℕ) (a : A) → found o at code ≡ fine a → o ≡ Some a
found_fine None at code a h = absurd (cc)
found_fine (Some x) at code a h = ap (λ y. Some y) (same_fine x a h)

-- a rule that gives no violation is kept
pub not_broken : (b : Bool) (at : Place) (code : ℕ) → broken_if b at code ≡ None → b ≡ false
not_broken true at code h = absurd (cc)
not_broken false at code h = refl

pub kept : {A : Type 0} (agrees : Bool) (at : Place) (code : ℕ) (a b : A) → unless (broken_if (not agrees) at code) a ≡ fine b → (agrees ≡ true) × (a ≡ b)
kept agrees at code a b h = (not-false agrees (not_broken (not agrees) at code (none_broken (broken_if (not agrees) at code) a b h)), unless_fine (broken_if (not agrees) at code) a b h)

-- an `if` and a `for` whose parts are judged
pub record IfFine (line : ℕ) (i : Judged program.Expression) (j k : Judged program.Statement) (x : program.Statement) : Type 0 where
  pub cond : program.Expression
  pub one : program.Statement
  pub other : program.Statement
  pub cond_is : i ≡ fine cond
  pub one_is : j ≡ fine one
  pub other_is : k ≡ fine other
  pub is : program.if_else line cond one other ≡ x

pub if_fine : (line : ℕ) (i : Judged program.Expression) (j k : Judged program.Statement) (x : program.Statement) → judge_if line i j k ≡ fine x → IfFine line i j k x
if_fine line i j k x h =
    let w = made_fine (both i (both j k)) (λ (r : program.Expression × (program.Statement × program.Statement)). program.if_else line r.0 r.1.0 r.1.1) x h in
    let a = both_fine i (both j k) w.0 w.1 in
    let d = both_fine j k w.0.1 a.1 in
    record { cond = w.0.0; one = w.0.1.0; other = w.0.1.1; cond_is = a.0; one_is = d.0; other_is = d.1; is = w.2 }

pub record ForFine (at : Place) (number : ℕ) (part : FirstPart) (f : Judged program.Statement) (i : Judged program.Expression) (j k : Judged program.Statement) (x : program.Statement) : Type 0 where
  pub first : program.Statement
  pub cond : program.Expression
  pub next : program.Statement
  pub body : program.Statement
  pub first_is : f ≡ fine first
  pub cond_is : i ≡ fine cond
  pub next_is : j ≡ fine next
  pub body_is : k ≡ fine body
  pub is : program.for_loop at.line (record { 0 = number }) part first cond next body ≡ x

pub for_fine : (at : Place) (number : ℕ) (part : FirstPart) (f : Judged program.Statement) (i : Judged program.Expression) (j k : Judged program.Statement) (x : program.Statement)
    → judge_for_loop at number part f i j k ≡ fine x → ForFine at number part f i j k x
for_fine at number part f i j k x h =
    let all = both (both f i) (both j k) in
    let made = λ (r : (program.Statement × program.Expression) × (program.Statement × program.Statement)). program.for_loop at.line (record { 0 = number }) part r.0.0 r.0.1 r.1.0 r.1.1 in
    let w = made_fine (beside (loop_limit number at) all) made x h in
    let u = both_fine (both f i) (both j k) w.0 (beside_fine (loop_limit number at) all w.0 w.1).1 in
    let a = both_fine f i w.0.0 u.0 in
    let b = both_fine j k w.0.1 u.1 in
    record { first = w.0.0.0; cond = w.0.0.1; next = w.0.1.0; body = w.0.1.1; first_is = a.0; cond_is = a.1; next_is = b.0; body_is = b.1; is = w.2 }

-- a walk over a list that asks what comes in front to be fine
module _ {S T A : Type 0} (next : S → T → S) (add : S → Judged A → T → Judged A) (strict : (s : S) (j : Judged A) (x : T) (b : A) → add s j x ≡ fine b → (a : A) × (j ≡ fine a)) where
  pub front_fine : (s : S) (j : Judged A) (xs : List T) (c : A) → gathered next add s j xs ≡ fine c → (a : A) × (j ≡ fine a)
  front_fine s j [] c h = (c, h)
  front_fine s j (x ∷ xs) c h = let f = front_fine (next s x) (add s j x) xs c h in strict s j x f.0 f.1

  -- what the first item makes, and the rest behind it
  pub gathered_fine : (s : S) (a : A) (x : T) (xs : List T) (c : A) → gathered next add s (fine a) (x ∷ xs) ≡ fine c
      → (b : A) × (add s (fine a) x ≡ fine b) × (gathered next add (next s x) (fine b) xs ≡ fine c)
  gathered_fine s a x xs c h =
      let f = front_fine (next s x) (add s (fine a) x) xs c h in
      (f.0, f.1, ap (λ j. gathered next add (next s x) j xs) (sym f.1) ∙ h)

-- A text is refused at one place by one code, or has a program.
use Rattle.std.proofs.Common.{◌≡◌, ℕ, zero, suc, ◌<◌, ◌≤◌, inl, inr, List, [], ◌∷◌, length, refl, sym, ap, subst, arith}
use Rattle.std.specs.Prelude.{slice_index_or}
use Rattle.std.specs.List.{AllByRecursion}
use Rattle.ca_tree.specs.declared.name.Place.{Place}
use Rattle.ca_tree.specs.declared.token.Token.{Token}
use Rattle.ca_tree.specs.Plain.{TextTree}
use Rattle.ca_program.specs.Plain.{PlainProgram}
use Rattle.ca_descent.specs.Whole.{FirstWrong, FirstDeep}
use Rattle.ca_lex.specs.Faults.{LexFault, Refusal}
use Rattle.ca_lex.proofs.Derivations.{one_fault, no_tokens}
use Rattle.ca_parse.specs.Grammar.{DerivesFree}
use Rattle.ca_descent.proofs.OneAnswer.{one_wrong, one_deep, wrong_or_deep, wrong_or_derived, deep_or_derived}
use Rattle.ca_resolve.specs.Judged.{fine, Violation, AtMost, IsLeast}
use Rattle.ca_types.specs.Classes.{judge, Violations}
use Rattle.ca_app.specs.Accepted.{most_bytes, HasTokens, HasTree, Accepted, token_place}
use Rattle.ca_app.specs.Refusals.{RefusedAt, too_long, no_token, wrong_token, deep_token, violates, token_code}
use Rattle.ca_app.specs.clauses.Reading.{HasOneTree, IsProgramOf, IsRefusalOf}
use Rattle.ca_app.proofs.OneProgram.{one_tokens, derived_by, one_program}

-- what holds of each holds of one that is there
one_of_all : {X : Type 0} (P : X → Type 0) (xs : List X) (x : X) (k : ℕ) → k < length xs → slice_index_or xs k x ≡ x → AllByRecursion P xs → P x
one_of_all P [] x k lt e all = absurd (omega arith)
one_of_all P (y ∷ xs) x zero lt e all = subst P e all.0
one_of_all P (y ∷ xs) x (suc k) lt e all = one_of_all P xs x k (omega arith) e all.1

same_violation : (l m k j c d : ℕ) → l ≡ m → k ≡ j → c ≡ d
    → ◌≡◌ {A = Violation} (record { at = record { line = l; column = k }; code = c }) (record { at = record { line = m; column = j }; code = d })
same_violation l m k j c d e f g = rw (e, f, g)

-- of two violations neither of which comes after the other, both are one
not_apart : (v w : Violation) → AtMost v w → AtMost w v → v ≡ w
not_apart v w (inl a) (inl b) = absurd (omega arith)
not_apart v w (inl a) (inr b) = absurd (omega (arith, b.0))
not_apart v w (inr a) (inl b) = absurd (omega (arith, a.0))
not_apart v w (inr (l, inl a)) (inr (m, inl b)) = absurd (omega arith)
not_apart v w (inr (l, inl a)) (inr (m, inr b)) = absurd (omega (arith, b.0))
not_apart v w (inr (l, inr a)) (inr (m, inl b)) = absurd (omega (arith, a.0))
not_apart v w (inr (l, inr a)) (inr (m, inr b)) =
    same_violation v.at.line w.at.line v.at.column w.at.column v.code w.code l a.0 (omega (arith, a.1, b.1))

one_least : {v w : Violation} {vs : List Violation} → IsLeast v vs → IsLeast w vs → v ≡ w
one_least {v} {w} {vs} a b =
    not_apart v w
    (one_of_all (AtMost v) vs w b.one.0 b.one.1 b.one.2 a.least)
    (one_of_all (AtMost w) vs v a.one.0 a.one.1 a.one.2 b.least)

-- nothing is least among the violations of a tree that has none
none_least : {v : Violation} (tree : TextTree) {p : PlainProgram} → IsLeast v (Violations tree) → judge tree ≡ fine p → ⊥
none_least tree a e = let few = a.one.1 in omega (arith, rw e at few)

over : (text : List ℕ) → 1048576 < length text → length text ≤ 1048576 → ⊥
over text a b = omega arith

-- where a byte or number is no token, or a token is too many, there are no tokens
no_list : {text : List ℕ} {at : Place} {fault : Refusal} {tokens : List Token} → LexFault text at fault → HasTokens text tokens → ⊥
no_list {tokens = tokens} f t = no_tokens f 0 tokens t.lexed (omega (arith, t.few))

module _ {text : List ℕ} {a b : List Token} (s : HasTokens text a) (t : HasTokens text b) where
  wrong_by : (k : ℕ) → FirstWrong DerivesFree b k → FirstWrong DerivesFree a k
  wrong_by k f = let P : List Token → Type 0 = λ ts. FirstWrong DerivesFree ts k in subst P (one_tokens t s) f

  deep_by : (k : ℕ) → FirstDeep DerivesFree b k → FirstDeep DerivesFree a k
  deep_by k f = let P : List Token → Type 0 = λ ts. FirstDeep DerivesFree ts k in subst P (one_tokens t s) f

  same_place : (k j : ℕ) → k ≡ j → token_place text a k ≡ token_place text b j
  same_place k j e = let same : a ≡ b = one_tokens s t in cc

-- where any refusal of the text is the same as this, and no program is its program
the_refusal : {text : List ℕ} {at : Place} {code : ℕ} → RefusedAt text at code
    → ((other : Place) (number : ℕ) → RefusedAt text other number → (other ≡ at) × (number ≡ code))
    → ((p : PlainProgram) → Accepted text p → ⊥) → IsRefusalOf text at code
the_refusal refused same unaccepted = record {
  refused = refused;
  place = λ other number r. (same other number r).0;
  number = λ other number r. (same other number r).1;
  unaccepted = unaccepted;
}

module _ {text : List ℕ} where
  pub refused_as_long : most_bytes < length text → IsRefusalOf text (record { line = 0; column = 0 }) 4
  refused_as_long more = the_refusal (too_long more) (λ q d r. same r) (λ p s. over text more s.has_tree.has_tokens.short)
    where
      same : {q : Place} {d : ℕ} → RefusedAt text q d → (q ≡ record { line = 0; column = 0 }) × (d ≡ 4)
      same (too_long b) = (refl, refl)
      same (no_token s f) = absurd (over text more s)
      same (wrong_token t f) = absurd (over text more t.short)
      same (deep_token t f) = absurd (over text more t.short)
      same (violates t f) = absurd (over text more t.has_tokens.short)

  pub refused_no_token : {at : Place} {fault : Refusal} → length text ≤ most_bytes → LexFault text at fault → IsRefusalOf text at (token_code fault)
  refused_no_token {at} {fault} short f = the_refusal (no_token short f) (λ q d r. same r) (λ p s. no_list f s.has_tree.has_tokens)
    where
      same : {q : Place} {d : ℕ} → RefusedAt text q d → (q ≡ at) × (d ≡ token_code fault)
      same (too_long b) = absurd (over text b short)
      same (no_token {at = q} {fault = y} t g) = let one = one_fault g at fault f in (one.0, ap token_code one.1)
      same (wrong_token t g) = absurd (no_list f t)
      same (deep_token t g) = absurd (no_list f t)
      same (violates t g) = absurd (no_list f t.has_tokens)

  pub refused_wrong : {tokens : List Token} {k : ℕ} → HasTokens text tokens → FirstWrong DerivesFree tokens k → IsRefusalOf text (token_place text tokens k) 10
  refused_wrong {tokens = a} {k = k} s f = the_refusal (wrong_token s f) (λ q d r. same r) (λ p t. wrong_or_derived a k t.tree f (derived_by s t.has_tree))
    where
      same : {q : Place} {d : ℕ} → RefusedAt text q d → (q ≡ token_place text a k) × (d ≡ 10)
      same (too_long b) = absurd (over text b s.short)
      same (no_token t g) = absurd (no_list g s)
      same (wrong_token {k = j} t g) = (sym (same_place s t k j (one_wrong a k j f (wrong_by s t j g))), refl)
      same (deep_token {k = j} t g) = absurd (wrong_or_deep a k j f (deep_by s t j g))
      same (violates {tree = x} t g) = absurd (wrong_or_derived a k x f (derived_by s t))

  pub refused_deep : {tokens : List Token} {k : ℕ} → HasTokens text tokens → FirstDeep DerivesFree tokens k → IsRefusalOf text (token_place text tokens k) 11
  refused_deep {tokens = a} {k = k} s f = the_refusal (deep_token s f) (λ q d r. same r) (λ p t. deep_or_derived a k t.tree f (derived_by s t.has_tree))
    where
      same : {q : Place} {d : ℕ} → RefusedAt text q d → (q ≡ token_place text a k) × (d ≡ 11)
      same (too_long b) = absurd (over text b s.short)
      same (no_token t g) = absurd (no_list g s)
      same (wrong_token {k = j} t g) = absurd (wrong_or_deep a j k (wrong_by s t j g) f)
      same (deep_token {k = j} t g) = (sym (same_place s t k j (one_deep a k j f (deep_by s t j g))), refl)
      same (violates {tree = x} t g) = absurd (deep_or_derived a k x f (derived_by s t))

  pub refused_violation : {tree : TextTree} (v : Violation) → HasOneTree text tree → IsLeast v (Violations tree) → IsRefusalOf text v.at v.code
  refused_violation {tree} v s f = the_refusal (violates s.is f) (λ q d r. same r) (λ p t. none_least t.tree (moved t.tree t.has_tree f) t.resolved)
    where
      moved : {w : Violation} (other : TextTree) → HasTree text other → IsLeast w (Violations tree) → IsLeast w (Violations other)
      moved {w} other t f = let P : TextTree → Type 0 = λ x. IsLeast w (Violations x) in subst P (sym (s.only other t)) f

      same : {q : Place} {d : ℕ} → RefusedAt text q d → (q ≡ v.at) × (d ≡ v.code)
      same (too_long b) = absurd (over text b s.is.has_tokens.short)
      same (no_token t g) = absurd (no_list g s.is.has_tokens)
      same (wrong_token {tokens = b} {k = j} t g) = absurd (wrong_or_derived b j tree g (derived_by t s.is))
      same (deep_token {tokens = b} {k = j} t g) = absurd (deep_or_derived b j tree g (derived_by t s.is))
      same (violates {tree = x} {v = w} t g) =
          let one : w ≡ v = one_least g (moved x t f) in
          (ap (λ u. u.at) one, ap (λ u. u.code) one)

  pub program_of_tree : {tree : TextTree} {p : PlainProgram} → HasOneTree text tree → judge tree ≡ fine p → IsProgramOf text p
  program_of_tree {tree} {p} s is = record {
    accepted = record { tree = tree; has_tree = s.is; resolved = is };
    only = one_program s is;
    unrefused = λ at code r. refuted r;
  }
    where
      refuted : {at : Place} {code : ℕ} → RefusedAt text at code → ⊥
      refuted (too_long b) = over text b s.is.has_tokens.short
      refuted (no_token t g) = no_list g s.is.has_tokens
      refuted (wrong_token {tokens = b} {k = j} t g) = wrong_or_derived b j tree g (derived_by t s.is)
      refuted (deep_token {tokens = b} {k = j} t g) = deep_or_derived b j tree g (derived_by t s.is)
      refuted (violates {tree = x} {v = v} t g) =
          let P : TextTree → Type 0 = λ y. IsLeast v (Violations y) in
          none_least tree (subst P (s.only x t) g) is

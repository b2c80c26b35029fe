-- What stands in front decides each step of a list of tokens, and each step to a refusal.
use Rattle.std.proofs.Common.{◌≡◌, ℕ, ◌+◌, ◌<◌, ◌≤◌, List, [], ◌∷◌, length, take, drop, refl, sym, ap, ◌∙◌, subst, arith}
use Rattle.std.proofs.Math.Logic.{◌⊎◌, inl, inr}
use Rattle.ca_tree.specs.declared.name.Place.{Place}
use Rattle.ca_tree.specs.declared.token.Token.{Token}
use Rattle.ca_lex.specs.Places.{advance}
use Rattle.ca_lex.specs.Pieces.{Piece, piece_of, blank_of, comment_of, token_of, too_great, letter_behind, refused}
use Rattle.ca_lex.specs.Tokens.{TokensFrom, at_end, blank, comment, token}
use Rattle.ca_lex.specs.Faults as fault
use Rattle.ca_lex.specs.declared.TheConstants.{MOST_TOKENS}
use Rattle.ca_lex.specs.Faults.{FaultFrom, Refusal, bad_byte, wide_number, token_limit}

-- what is left to derive behind the piece
abbrev pub Behind : Place → ℕ → List ℕ → List Token → Piece → Type 0
Behind p n s ts (blank_of k) = TokensFrom (advance p (take k s)) (n + k) (drop k s) ts
Behind p n s ts (comment_of k) = TokensFrom (advance p (take k s)) (n + k) (drop k s) ts
Behind p n s ts (token_of k x) = (us : List Token) × (ts ≡ record { kind = x; at = p; start = n; len = k } ∷ us) × TokensFrom (advance p (take k s)) (n + k) (drop k s) us
Behind p n s ts too_great = ⊥
Behind p n s ts (letter_behind k) = ⊥
Behind p n s ts refused = (s ≡ []) × (ts ≡ [])

pub behind : {p : Place} {n : ℕ} {s : List ℕ} {ts : List Token} → TokensFrom p n s ts → Behind p n s ts (piece_of s)
unfolding piece_of
behind at_end = (refl, refl)
behind {p = p} {n = n} {s = s} {ts = ts} (blank e d) = subst (Behind p n s ts) (sym e) d
behind {p = p} {n = n} {s = s} {ts = ts} (comment e d) = subst (Behind p n s ts) (sym e) d
behind {p = p} {n = n} {s = s} {ts = ts} (token {ts = us} e d) = subst (Behind p n s ts) (sym e) (us, refl, d)

pub one_list : {p : Place} {n : ℕ} {s : List ℕ} {a : List Token} → TokensFrom p n s a → (b : List Token) → TokensFrom p n s b → a ≡ b
unfolding piece_of
one_list at_end b f = sym (behind f).1
one_list {p = p} {n = n} {s = s} (blank e d) b f = one_list d b (subst (Behind p n s b) e (behind f))
one_list {p = p} {n = n} {s = s} (comment e d) b f = one_list d b (subst (Behind p n s b) e (behind f))
one_list {p = p} {n = n} {s = s} (token {k = k} {x = x} e d) b f =
    let g : Behind p n s b (token_of k x) = subst (Behind p n s b) e (behind f) in
    ap (λ us. record { kind = x; at = p; start = n; len = k } ∷ us) (one_list d g.0 g.2) ∙ sym g.1

-- the two cases of a token and of digits with a letter behind them: A is what stands below the limit
abbrev Counted : Place → ℕ → Place → Refusal → Type 0 → Type 0
Counted p n q f A = ((n < MOST_TOKENS) × A) ⊎ ((MOST_TOKENS ≤ n) × (q ≡ p) × (f ≡ token_limit))

-- what is left to refuse behind the piece, or is refused here
abbrev pub Refuses : Place → ℕ → List ℕ → Place → Refusal → Piece → Type 0
Refuses p n s q f (blank_of k) = FaultFrom (advance p (take k s)) n (drop k s) q f
Refuses p n s q f (comment_of k) = FaultFrom (advance p (take k s)) n (drop k s) q f
Refuses p n s q f (token_of k x) = Counted p n q f (FaultFrom (advance p (take k s)) (n + 1) (drop k s) q f)
Refuses p n s q f too_great = (q ≡ p) × (f ≡ wide_number)
Refuses p n s q f (letter_behind k) = Counted p n q f ((q ≡ advance p (take k s)) × (f ≡ bad_byte))
Refuses p n s q f refused = (q ≡ p) × (f ≡ bad_byte)

pub refuses : {p q : Place} {n : ℕ} {s : List ℕ} {f : Refusal} → FaultFrom p n s q f → Refuses p n s q f (piece_of s)
refuses {p = p} {q = q} {n = n} {s = s} {f = f} (fault.blank e d) = subst (Refuses p n s q f) (sym e) d
refuses {p = p} {q = q} {n = n} {s = s} {f = f} (fault.comment e d) = subst (Refuses p n s q f) (sym e) d
refuses {p = p} {q = q} {n = n} {s = s} {f = f} (fault.token e h d) = subst (Refuses p n s q f) (sym e) (inl (h, d))
refuses {p = p} {q = q} {n = n} {s = s} {f = f} (fault.too_many e h) = subst (Refuses p n s q f) (sym e) (inr (h, refl, refl))
refuses {p = p} {q = q} {n = n} {s = s} {f = f} (fault.too_many_digits e h) = subst (Refuses p n s q f) (sym e) (inr (h, refl, refl))
refuses {p = p} {q = q} {n = n} {s = s} {f = f} (fault.letter e h) = subst (Refuses p n s q f) (sym e) (inl (h, (refl, refl)))
refuses {p = p} {q = q} {n = n} {s = s} {f = f} (fault.wide e) = subst (Refuses p n s q f) (sym e) (refl, refl)
refuses {p = p} {q = q} {n = n} {s = s} {f = f} (fault.bad e) = subst (Refuses p n s q f) (sym e) (refl, refl)

abbrev Same : Place → Refusal → Place → Refusal → Type 0
Same p f q g = (p ≡ q) × (f ≡ g)

below : {p q : Place} {n : ℕ} {f : Refusal} (A : Type 0) → n < MOST_TOKENS → Counted p n q f A → A
below A h (inl a) = a.1
below A h (inr b) = absurd (omega (arith, h, b.0))

above : {p q : Place} {n : ℕ} {f : Refusal} (A : Type 0) → MOST_TOKENS ≤ n → Counted p n q f A → (q ≡ p) × (f ≡ token_limit)
above A h (inl a) = absurd (omega (arith, h, a.0))
above A h (inr b) = (b.1, b.2)

pub one_fault : {p q : Place} {n : ℕ} {s : List ℕ} {f : Refusal} → FaultFrom p n s q f → (r : Place) (g : Refusal) → FaultFrom p n s r g → Same q f r g
one_fault {p = p} {n = n} {s = s} (fault.blank e d) r g h = one_fault d r g (subst (Refuses p n s r g) e (refuses h))
one_fault {p = p} {n = n} {s = s} (fault.comment e d) r g h = one_fault d r g (subst (Refuses p n s r g) e (refuses h))
one_fault {p = p} {n = n} {s = s} (fault.token {k = k} {x = x} e few d) r g h =
    let o : Refuses p n s r g (token_of k x) = subst (Refuses p n s r g) e (refuses h) in
    one_fault d r g (below (FaultFrom (advance p (take k s)) (n + 1) (drop k s) r g) few o)
one_fault {p = p} {n = n} {s = s} (fault.too_many {k = k} {x = x} e full) r g h =
    let o : Refuses p n s r g (token_of k x) = subst (Refuses p n s r g) e (refuses h) in
    let c = above (FaultFrom (advance p (take k s)) (n + 1) (drop k s) r g) full o in
    (sym c.0, sym c.1)
one_fault {p = p} {n = n} {s = s} (fault.too_many_digits {k = k} e full) r g h =
    let o : Refuses p n s r g (letter_behind k) = subst (Refuses p n s r g) e (refuses h) in
    let c = above ((r ≡ advance p (take k s)) × (g ≡ bad_byte)) full o in
    (sym c.0, sym c.1)
one_fault {p = p} {n = n} {s = s} (fault.letter {k = k} e few) r g h =
    let o : Refuses p n s r g (letter_behind k) = subst (Refuses p n s r g) e (refuses h) in
    let c = below ((r ≡ advance p (take k s)) × (g ≡ bad_byte)) few o in
    (sym c.0, sym c.1)
one_fault {p = p} {n = n} {s = s} (fault.wide e) r g h =
    let o : Refuses p n s r g too_great = subst (Refuses p n s r g) e (refuses h) in
    (sym o.0, sym o.1)
one_fault {p = p} {n = n} (fault.bad {b = b} {s = s} e) r g h =
    let o : Refuses p n (b ∷ s) r g refused = subst (Refuses p n (b ∷ s) r g) e (refuses h) in
    (sym o.0, sym o.1)

-- bytes in which something is refused have no tokens within the limit
pub no_tokens : {p q : Place} {n : ℕ} {s : List ℕ} {f : Refusal} → FaultFrom p n s q f → (m : ℕ) (ts : List Token) → TokensFrom p m s ts → n + length ts ≤ MOST_TOKENS → ⊥
no_tokens {p = p} {s = s} (fault.blank e d) m ts t few = no_tokens d _ ts (subst (Behind p m s ts) e (behind t)) few
no_tokens {p = p} {s = s} (fault.comment e d) m ts t few = no_tokens d _ ts (subst (Behind p m s ts) e (behind t)) few
no_tokens {p = p} {s = s} (fault.token {k = k} {x = x} e h d) m ts t few =
    let o : Behind p m s ts (token_of k x) = subst (Behind p m s ts) e (behind t) in
    no_tokens d _ o.0 o.2 (omega (arith, few, ap length o.1))
no_tokens {p = p} {s = s} (fault.too_many {k = k} {x = x} e full) m ts t few =
    let o : Behind p m s ts (token_of k x) = subst (Behind p m s ts) e (behind t) in
    omega (arith, few, full, ap length o.1)
no_tokens {p = p} {s = s} (fault.too_many_digits e full) m ts t few = subst (Behind p m s ts) e (behind t)
no_tokens {p = p} {s = s} (fault.letter e h) m ts t few = subst (Behind p m s ts) e (behind t)
no_tokens {p = p} {s = s} (fault.wide e) m ts t few = subst (Behind p m s ts) e (behind t)
no_tokens {p = p} (fault.bad {b = b} {s = s} e) m ts t few =
    let o : Behind p m (b ∷ s) ts refused = subst (Behind p m (b ∷ s) ts) e (behind t) in
    let l = ap length o.0 in
    omega (arith, l)

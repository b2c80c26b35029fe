-- Flags that are set one after another say in the end which operations stand in a list: `FlagsOf` of
-- `specs/clauses/Flags.antt`.
use Rattle.std.proofs.Common.{◌≡◌, ◌≢◌, ◌<◌, ◌≤◌, ℕ, List, [], ◌∷◌, length, get_or, replicate, refl, sym, ◌∙◌, arith}
use Rattle.std.specs.Prelude.{Bool, true, false, ◌&&◌, ◌||◌, nat_eq, slice_set}
use Rattle.std.proofs.lemmas.Bool.{eqb-true, eqb-false}
use Rattle.std.proofs.lemmas.Grind.{get_or-set_at}
use Rattle.std.proofs.lemmas.List.{get_or-set_other, get_or-replicate}
use Rattle.ca_program.specs.declared.program.OpId.{OpId}
use Rattle.ca_parallel.specs.Lists.{op_in}
use Rattle.ca_serial.specs.clauses.Flags.{FlagsOf}

or_true : (b : Bool) → b || true ≡ true
or_true true = refl
or_true false = refl

or_false : (b : Bool) → b || false ≡ b
or_false true = refl
or_false false = refl

pub and_false : (b : Bool) → (b && false) ≡ false
and_false true = refl
and_false false = refl

-- an operation is marked where it has a flag, or stands in the rest
abbrev pub FlagsBut : List Bool → List OpId → List OpId → Type 0
FlagsBut flags ops rest = (op : OpId) → op.0 < length flags → op_in ops op ≡ get_or flags op.0 false || op_in rest op

pub no_flags : (count : ℕ) (ops : List OpId) → (op : OpId) → op.0 < count → op_in ops op ≡ get_or (replicate count false) op.0 false || op_in ops op
no_flags count ops op lt = rw (get_or-replicate count op.0 false false lt) refl

-- the first of the rest has its flag
pub flag_set : (flags : List Bool) (ops rest others : List OpId) (x : OpId) → FlagsBut flags ops rest → rest ≡ x ∷ others → (op : OpId) → op.0 < length flags → op_in ops op ≡ get_or (slice_set flags x.0 true) op.0 false || op_in others op
flag_set flags ops rest others x but is op lt = but op lt ∙ rw is (from (nat_eq x.0 op.0) refl)
  where
    from : (b : Bool) → nat_eq x.0 op.0 ≡ b → get_or flags op.0 false || (nat_eq x.0 op.0 || op_in others op) ≡ get_or (slice_set flags x.0 true) op.0 false || op_in others op
    from true e =
        let same : op.0 ≡ x.0 = sym (eqb-true x.0 op.0 e) in
        let here : x.0 < length flags = omega (arith, same, lt) in
        rw (e, get_or-set_at flags x.0 op.0 true false same here) (or_true (get_or flags op.0 false))
    from false e =
        let other : op.0 ≢ x.0 = λ same. eqb-false x.0 op.0 e (sym same) in
        rw (e, get_or-set_other flags x.0 op.0 true false other) refl

-- or is too great for one
pub flag_past : (flags : List Bool) (ops rest others : List OpId) (x : OpId) → FlagsBut flags ops rest → rest ≡ x ∷ others → length flags ≤ x.0 → FlagsBut flags ops others
flag_past flags ops rest others x but is past op lt = but op lt ∙ rw is (from (nat_eq x.0 op.0) refl)
  where
    from : (b : Bool) → nat_eq x.0 op.0 ≡ b → get_or flags op.0 false || (nat_eq x.0 op.0 || op_in others op) ≡ get_or flags op.0 false || op_in others op
    from true e = let same : x.0 ≡ op.0 = eqb-true x.0 op.0 e in absurd (omega (arith, same, lt, past))
    from false e = rw e refl

pub all_flags : (flags : List Bool) (ops rest : List OpId) → FlagsBut flags ops rest → rest ≡ [] → FlagsOf flags ops
all_flags flags ops rest but none op lt = sym (but op lt ∙ rw none (or_false (get_or flags op.0 false)))

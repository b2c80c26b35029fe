-- Keys of demands, a kind and the normal forms of the parts, and their order, by codes.
use Rattle.std.specs.Prelude.{ℕ, ◌≡◌}
use Rattle.std.proofs.Common.{refl, ap, ap₂, arith, Ordering}
use Rattle.std.specs.Ordering.{on}
use Rattle.std.specs.Coded.{Coded}
use Rattle.std.specs.Cmp.{IsTotalOrder}
use Rattle.std.proofs.lemmas.Cmp.{on_total}
use base.Stored.{Gv, gnum, gcons}
use Rattle.ca_forms.specs.Plain.{PlainScalars, scalars_code, scalars_inj}
use Rattle.ca_forms.specs.Trees.{tree_cmp, tree_cmp_total}
use Rattle.ca_norm.specs.Terms.{terms_of}
use Rattle.ca_norm.specs.Forms.{arguments_of}
use Rattle.ca_symbolic.specs.States.{DemandKind, not_null, in_range, calls, invokes, loops, sweeps, PlainDemand}

pub record Key : Type 0 where
  pub kind : DemandKind
  pub parts : PlainScalars

-- the kind of a demand, and the forms of its parts
abbrev pub key_of : PlainDemand → Key
key_of d = record { kind = d.kind; parts = arguments_of (terms_of d.parts) }

-- the number of a kind, and the numbers of what it names
abbrev pub numbers : ℕ → ℕ → ℕ → Gv
numbers k m n = gcons (gnum k) (gcons (gnum m) (gnum n))

abbrev pub kind_code : DemandKind → Gv
kind_code not_null = numbers 0 0 0
kind_code (in_range f) = numbers 1 f.class.0 f.field
kind_code (calls m) = numbers 2 m.0 0
kind_code (invokes op) = numbers 3 op.0 0
kind_code (loops l) = numbers 4 l.0 0
kind_code (sweeps f) = numbers 5 f.class.0 f.field

abbrev first_number : Gv → ℕ
first_number (gcons (gnum n) v) = n
first_number v = 6

abbrev second_number : Gv → ℕ
second_number (gcons u (gcons (gnum n) v)) = n
second_number v = 0

abbrev third_number : Gv → ℕ
third_number (gcons u (gcons v (gnum n))) = n
third_number v = 0

kind_inj : (k l : DemandKind) → kind_code k ≡ kind_code l → k ≡ l
kind_inj not_null not_null e = refl
kind_inj (in_range f) (in_range g) e =
    ap₂ (λ m n. in_range (record { class = record { 0 = m }; field = n })) (ap second_number e) (ap third_number e)
kind_inj (calls m) (calls n) e = ap (λ k. calls (record { 0 = k })) (ap second_number e)
kind_inj (invokes a) (invokes b) e = ap (λ k. invokes (record { 0 = k })) (ap second_number e)
kind_inj (loops l) (loops m) e = ap (λ k. loops (record { 0 = k })) (ap second_number e)
kind_inj (sweeps f) (sweeps g) e =
    ap₂ (λ m n. sweeps (record { class = record { 0 = m }; field = n })) (ap second_number e) (ap third_number e)
kind_inj k l e = let kinds : first_number (kind_code k) ≡ first_number (kind_code l) = ap first_number e in absurd (omega (arith, kinds))

abbrev pub key_code : Key → Gv
key_code k = gcons (kind_code k.kind) (scalars_code k.parts)

pub key_inj : (k l : Key) → key_code k ≡ key_code l → k ≡ l
key_inj k l e =
    let kinds : kind_code k.kind ≡ kind_code l.kind = cc in
    let parts : scalars_code k.parts ≡ scalars_code l.parts = cc in
    ap₂ (λ i xs. record { kind = i; parts = xs }) (kind_inj k.kind l.kind kinds) (scalars_inj k.parts l.parts parts)

abbrev pub coded_key : Coded Key
coded_key = record { code = key_code; inj = key_inj }

abbrev pub key_cmp : Key → Key → Ordering
key_cmp = on key_code tree_cmp

pub key_total : IsTotalOrder key_cmp
key_total = on_total key_code tree_cmp_total

-- A program with its code: where bodies begin.
use Rattle.std.proofs.Common.{◌≡◌, ◌<◌, ℕ, List, [], ◌∷◌, ◌++◌, length, map, Option, Some, None, refl, sym, ap, ◌∙◌, subst, arith}
use Rattle.std.specs.Prelude.{true, slice_get}
use Rattle.std.proofs.lemmas.Option.{same_Some, slice_get_within}
use Rattle.ca_program.specs.declared.program.OpId.{OpId}
use Rattle.ca_program.specs.declared.program.Program.{Program}
use Rattle.ca_program.specs.Instructions.{Code, HasAt, Placed, StandsAt}
use Rattle.ca_program.specs.Layout.{operation_code}
use Rattle.ca_program.specs.Plain.{PlainMethod, PlainProgram}
use Rattle.ca_program.specs.View.{program_view}
use Rattle.ca_code.specs.Codes.{code_seen}
use Rattle.ca_code.specs.Seen.{placed}
use Rattle.ca_code_laws.specs.Fitting.{FitsMethod}
use Rattle.ca_code_laws.proofs.Steps.{length_mapped}
use Rattle.ca_steps.specs.declared.running.Laid.{Laid}
use Rattle.ca_selection.specs.Ops.{Runs}
use Rattle.ca_sections.specs.Fitting.{IsCoded, Starts}

-- where rows stand something is run
rows_within : (c : Code) (at : ℕ) (xs : List Placed) (x : Placed) → HasAt c at (xs ++ x ∷ []) → at < length c.items
rows_within c at [] x h = slice_get_within c.items at x.instruction h.0.0
rows_within c at (y ∷ ys) x h = slice_get_within c.items at y.instruction h.0.0

body_within : (c : Code) (at : ℕ) (xs ys : List Placed) (x : Placed) → HasAt c at (xs ++ (ys ++ x ∷ [])) → at < length c.items
body_within c at [] ys x h = rows_within c at ys x h
body_within c at (z ∷ xs) ys x h = slice_get_within c.items at z.instruction h.0.0

place_within : (p : PlainProgram) (laid : Laid) (place : ℕ) (m : PlainMethod) → Runs (code_seen laid.code) laid.code.rows.items laid.ops.items → HasAt (code_seen laid.code) place (operation_code p m) → place < length laid.ops.items
place_within p laid place m runs h =
    let within : place < length (code_seen laid.code).items = body_within (code_seen laid.code) place _ _ _ h in
    let rows = laid.code.rows.items in
    let many : length (code_seen laid.code).items ≡ length rows = length_mapped (λ (r : Placed). r.instruction) (map placed rows) ∙ length_mapped placed rows in
    omega (arith, within, many, runs.many)

pub body_starts : (p : Program) (laid : Laid) (places : List ℕ) → IsCoded p laid places → (op : OpId) (place : ℕ) → slice_get places op.0 ≡ Some place → place < 4294967295 → Starts (program_view p) op laid place
body_starts p laid places is op place at there =
    let m = is.each op.0 place at there in
    let stands = subst (λ s. StandsAt (code_seen laid.code) s (operation_code (program_view p) m.0)) m.3 (is.laid.ops op.0 m.0 m.1).0 in
    record {
      functions = is.functions;
      laid = is.laid;
      runs = is.runs;
      method = m.0;
      is = m.1;
      fits = m.2;
      begins = m.3;
      within = place_within (program_view p) laid place m.0 is.runs stands;
    }

-- what stands somewhere begins at a place
begins_at : (c : Code) (s : Option ℕ) (xs : List Placed) → StandsAt c s xs → (start : ℕ) × (s ≡ Some start) × HasAt c start xs
begins_at c None xs h = absurd h
begins_at c (Some start) xs h = (start, refl, h)

-- an operation that fits has a place, which 32 bits hold
pub place_told : (p : Program) (laid : Laid) (places : List ℕ) → IsCoded p laid places → (op : OpId) (m : PlainMethod) → slice_get (program_view p).ops op.0 ≡ Some m → FitsMethod (program_view p) true m → (place : ℕ) × (slice_get places op.0 ≡ Some place) × (place < 4294967295)
place_told p laid places is op m there fits =
    let s = begins_at (code_seen laid.code) (slice_get (code_seen laid.code).ops op.0) (operation_code (program_view p) m) (is.laid.ops op.0 m there).0 in
    let within = place_within (program_view p) laid s.0 m is.runs s.2 in
    (s.0, is.all op.0 s.0 m there fits s.1, omega (arith, within, is.runs.few))

pub has_no_body : (p : Program) (laid : Laid) (places : List ℕ) → IsCoded p laid places → (op : OpId) → slice_get places op.0 ≡ None → (m : PlainMethod) → slice_get (program_view p).ops op.0 ≡ Some m → FitsMethod (program_view p) true m → ⊥
has_no_body p laid places is op none m there fits =
    let t = place_told p laid places is op m there fits in
    let e : None ≡ Some t.0 = sym none ∙ t.1 in
    absurd (cc)

pub has_no_place : (p : Program) (laid : Laid) (places : List ℕ) → IsCoded p laid places → (op : OpId) (place : ℕ) → slice_get places op.0 ≡ Some place → place ≡ 4294967295 → (m : PlainMethod) → slice_get (program_view p).ops op.0 ≡ Some m → FitsMethod (program_view p) true m → ⊥
has_no_place p laid places is op place at none m there fits =
    let t = place_told p laid places is op m there fits in
    let same : place ≡ t.0 = same_Some place t.0 (sym at ∙ t.1) in
    absurd (omega (arith, same, none, t.2))

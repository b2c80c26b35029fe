-- How bodies are laid out that heed marks: a marked call and a marked loop are handed on, and what runs in place of that is
-- laid out as without marks. So code of both kinds stands side by side, and nothing has to tell which marks are heeded now.
use Rattle.std.specs.Prelude.{◌≡◌, ℕ, ◌+◌, List, [], ◌∷◌, ◌++◌, length, map, Some, None, slice_get}
use Rattle.ca_program.specs.declared.program.OpId.{OpId}
use Rattle.ca_program.specs.Plain.{PlainProgram, Statement, invoke, PlainMethod}
use Rattle.ca_parallel.specs.Lists.{PlainMarks, op_in, loop_in, either}
use Rattle.ca_program.specs.Kinds.{Kind, Kinds, kind_type}
use Rattle.ca_program.specs.Instructions.{Instruction, Heed, Hand, Begin, Leave, Placed, on, Code, HasAt, StandsAt}
use Rattle.ca_program.specs.Layout.{Acts, Hands, no_hands, expression_code, expressions_code, all_acts, statement_code, statements_code, starts_code, others_of, width_of, kinds_of, main_kinds}

-- a call of an operation
abbrev pub heeding_call : PlainMarks → OpId → ℕ → Instruction
heeding_call marks op first = either (op_in marks.ops op) (Hand op first) (Heed op first)

abbrev pub heed_acts : PlainMarks → Kinds → Acts
heed_acts marks ks line (invoke _ e op es) top =
    expression_code ks line e top top ++ (expressions_code ks line es (top + 1) ++ on line (heeding_call marks op top) ∷ [])
heed_acts marks ks line other top = all_acts ks line other top

-- a loop that is handed on: where that isn't done its code follows, and where it is that is passed over
abbrev pub begin_at : ℕ → Statement → List Kind → ℕ → Placed
begin_at line s locals n = record { instruction = Begin n; line = line; loop = Some (record { loop = s; locals = locals }) }

abbrev pub plain_loop : Kinds → ℕ → Statement → ℕ → List Placed
plain_loop ks line s top = statement_code ks (all_acts ks) no_hands line s top

abbrev pub handed_code : Kinds → List Kind → ℕ → Statement → ℕ → List Placed
handed_code ks locals line s top = begin_at line s locals (length (plain_loop ks line s top)) ∷ plain_loop ks line s top

abbrev pub heed_hands : PlainMarks → Kinds → List Kind → Hands
heed_hands marks ks locals line s top = either (loop_in marks.loops s) (Some (handed_code ks locals line s top)) None

-- the body of an operation, and `main`
abbrev pub heeding_code : PlainMarks → PlainProgram → PlainMethod → List Placed
heeding_code marks p m =
    starts_code m.params (others_of m) ++ (statements_code (kinds_of p m) (heed_acts marks (kinds_of p m)) (heed_hands marks (kinds_of p m) (map kind_type m.body.locals)) m.body.statements (width_of m) ++ on 0 Leave ∷ [])

abbrev pub HeedingLaidOut : PlainMarks → PlainProgram → Code → Type 0
HeedingLaidOut marks p c = (m : ℕ) (f : PlainMethod) → slice_get p.ops m ≡ Some f → StandsAt c (slice_get c.heeding m) (heeding_code marks p f)

abbrev pub main_heeding : PlainMarks → PlainProgram → List Placed
main_heeding marks p =
    starts_code 0 p.main.locals ++ (statements_code (main_kinds p) (heed_acts marks (main_kinds p)) (heed_hands marks (main_kinds p) (map kind_type p.main.locals)) p.main.statements (length p.main.locals) ++ on 0 Leave ∷ [])

abbrev pub MainHeeds : PlainMarks → PlainProgram → Code → ℕ → Type 0
MainHeeds marks p c at = HasAt c at (main_heeding marks p)

-- What the words of the command line name, and the usage line.
use Rattle.std.specs.Prelude.{◌≡◌, Bool, true, false, ℕ, ◌≤◌, List, [], ◌∷◌, map, codes, decimal, String, string_bytes}
use Rattle.std.specs.declared.alloc.Global.{Global}
use Rattle.ca_words.specs.declared.Command.{Command}
use Rattle.ca_words.specs.declared.Command.TheVariants.{OnText, Alone, Trace, Verify}
use Rattle.ca_words.specs.declared.TextCommand.TheVariants.{Run, Tell}
use Rattle.ca_words.specs.declared.PlanCommand.TheVariants.{Pairs, Plan, Emit}
use Rattle.ca_words.specs.declared.LoneCommand.TheVariants.{Gen, Load}

-- each word as its bytes
abbrev pub texts : List (String Global) → List (List ℕ)
texts words = map string_bytes words

-- The words of a command. A number is its decimal digits, with no sign and no leading zero.
abbrev pub words_of : Command → List (List ℕ)
words_of (OnText (Run workers budget)) = codes "run" ∷ decimal workers ∷ decimal budget ∷ []
words_of (OnText (Tell Pairs)) = codes "pairs" ∷ []
words_of (OnText (Tell Plan)) = codes "plan" ∷ []
words_of (OnText (Tell Emit)) = codes "emit" ∷ []
words_of (Alone (Gen seed size)) = codes "gen" ∷ decimal seed ∷ decimal size ∷ []
words_of (Alone (Load seed size workers)) = codes "load" ∷ decimal seed ∷ decimal size ∷ decimal workers ∷ []
words_of (Trace workers budget) = codes "trace" ∷ decimal workers ∷ decimal budget ∷ []
words_of (Verify budget) = codes "verify" ∷ decimal budget ∷ []

abbrev pub IsWorkers : ℕ → Type 0
IsWorkers n = (1 ≤ n) × (n ≤ 64)

abbrev pub IsBudget : ℕ → Type 0
IsBudget n = (1 ≤ n) × (n ≤ 1000000000)

abbrev pub IsSeed : ℕ → Type 0
IsSeed n = n ≤ 18446744073709551615

abbrev pub IsSize : ℕ → Type 0
IsSize n = (1 ≤ n) × (n ≤ 20000)

-- each number of the command is in its range
abbrev pub IsInRange : Command → Type 0
IsInRange (OnText (Run workers budget)) = IsWorkers workers × IsBudget budget
IsInRange (OnText (Tell what)) = Unit {0}
IsInRange (Alone (Gen seed size)) = IsSeed seed × IsSize size
IsInRange (Alone (Load seed size workers)) = IsSeed seed × IsSize size × IsWorkers workers
IsInRange (Trace workers budget) = IsWorkers workers × IsBudget budget
IsInRange (Verify budget) = IsBudget budget

-- the words are those of the command, and its numbers are in their ranges
pub record Names (words : List (List ℕ)) (command : Command) : Type 0 where
  pub spelled : words ≡ words_of command
  pub in_range : IsInRange command

-- whether the command reads its source
abbrev pub reads : Command → Bool
reads (Alone command) = false
reads other = true

-- whether it reads a source and nothing behind it
abbrev pub reads_program : Command → Bool
reads_program (Verify budget) = false
reads_program (Alone command) = false
reads_program other = true

abbrev pub usage_text : List ℕ
usage_text = codes "usage: commute run WORKERS BUDGET | pairs | plan | emit | gen SEED SIZE | load SEED SIZE WORKERS | trace WORKERS BUDGET | verify BUDGET\n"

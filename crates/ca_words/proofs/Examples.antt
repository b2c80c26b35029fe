-- Worked examples of the words of a command and of the usage line.
use Rattle.std.proofs.Common.{◌≡◌, [], ◌∷◌, take, drop, codes, refl, arith, true, false}
use Rattle.std.specs.Fmt.{digits}
use Rattle.ca_words.specs.declared.Command.TheVariants.{OnText, Alone, Trace, Verify}
use Rattle.ca_words.specs.declared.TextCommand.TheVariants.{Run, Tell}
use Rattle.ca_words.specs.declared.PlanCommand.TheVariants.{Plan}
use Rattle.ca_words.specs.declared.LoneCommand.TheVariants.{Gen, Load}
use Rattle.ca_words.specs.Words.{words_of, Names, reads, reads_program, usage_text}

run_with_budget_100 : words_of (OnText (Run 1 100)) ≡ codes "run" ∷ codes "1" ∷ codes "100" ∷ []
unfolding digits
run_with_budget_100 = refl

least_names : Names (codes "run" ∷ codes "1" ∷ codes "1" ∷ []) (OnText (Run 1 1))
unfolding digits
least_names = record { spelled = refl; in_range = ((omega arith, omega arith), (omega arith, omega arith)) }

greatest_names : Names (codes "run" ∷ codes "64" ∷ codes "1000000000" ∷ []) (OnText (Run 64 1000000000))
unfolding digits
greatest_names = record { spelled = refl; in_range = ((omega arith, omega arith), (omega arith, omega arith)) }

greatest_seed_names : Names (codes "gen" ∷ codes "18446744073709551615" ∷ codes "20000" ∷ []) (Alone (Gen 18446744073709551615 20000))
unfolding digits
greatest_seed_names = record { spelled = refl; in_range = (omega arith, (omega arith, omega arith)) }

load_names : Names (codes "load" ∷ codes "0" ∷ codes "20000" ∷ codes "64" ∷ []) (Alone (Load 0 20000 64))
unfolding digits
load_names = record { spelled = refl; in_range = (omega arith, (omega arith, omega arith), (omega arith, omega arith)) }

usage_begins : take 14 usage_text ≡ codes "usage: commute"
usage_begins = refl

usage_ends : drop 97 usage_text ≡ codes "| trace WORKERS BUDGET | verify BUDGET\n"
usage_ends = refl

plan_names : Names (codes "plan" ∷ []) (OnText (Tell Plan))
plan_names = record { spelled = refl; in_range = tt }

verify_names : Names (codes "verify" ∷ codes "100" ∷ []) (Verify 100)
unfolding digits
verify_names = record { spelled = refl; in_range = (omega arith, omega arith) }

trace_names : Names (codes "trace" ∷ codes "4" ∷ codes "100" ∷ []) (Trace 4 100)
unfolding digits
trace_names = record { spelled = refl; in_range = ((omega arith, omega arith), (omega arith, omega arith)) }

reads_a_program_alone : reads_program (Trace 4 100) ≡ true
reads_a_program_alone = refl

reads_its_source : reads (OnText (Run 1 100)) ≡ true
reads_its_source = refl

reads_nothing : reads (Alone (Gen 7 3)) ≡ false
reads_nothing = refl

loads_nothing : reads (Alone (Load 7 3 4)) ≡ false
loads_nothing = refl

-- Lines that are recorded for each list, and then how the run ends, follow.
use Rattle.std.proofs.Common.{◌≡◌, ℕ, All, List, [], ◌∷◌, ◌++◌, refl, ap, sym, subst, ◌∙◌, append_assoc, arith}
use Rattle.std.proofs.lemmas.List.Elements.{All-cons, All-append}
use Rattle.ca_program.specs.Plain.{PlainProgram}
use Rattle.ca_meaning.specs.Serial.{Note, serial}
use Rattle.ca_parallel.specs.Accounts.{Reached, at_first, by_one}
use Rattle.ca_parallel.specs.Lists.{PlainMarks, lists}
use Rattle.ca_trace.specs.declared.line.Line.{Line}
use Rattle.ca_trace.specs.declared.line.Line.TheVariants.{Close}
use Rattle.ca_trace.specs.Lines.{LinesOfAll, of_none, outcome_line, Follows}
use Rattle.ca_trace.specs.Engines.{Recorded}
use Rattle.ca_trace.specs.Texts.{IsLineOf}
use Rattle.ca_trace.proofs.Segments.{of_last}

pub of_all : (p : PlainProgram) {ns : List Note} {a : List Line} → Reached Recorded p [] ns a → LinesOfAll p ns a
of_all p at_first = of_none
of_all p (by_one {b = b} {c = c} {ns = ns} n r s) = subst (λ ls. LinesOfAll p (ns ++ n ∷ []) ls) (sym s.added) (of_last p ns n b s.lines (of_all p r) s.of_list)

pub follow_by : (p : PlainProgram) (ms : PlainMarks) (budget : ℕ) (start lines taken one two : List Line) (l : Line) → start ≡ [] → Reached Recorded p start (lists p ms budget) lines → taken ≡ lines → l ≡ outcome_line budget (serial p budget) →
    one ≡ taken ++ l ∷ [] → two ≡ one ++ Close ∷ [] → Follows p ms budget two
follow_by p ms budget start lines taken one two l none reached same is first second = record {
  front = lines;
  of_lists = of_all p (subst (λ a. Reached Recorded p a (lists p ms budget) lines) none reached);
  whole = second ∙ (ap (λ (z : List Line). z ++ Close ∷ []) (first ∙ (ap (λ (z : List Line). z ++ l ∷ []) same ∙ ap (λ (x : Line). lines ++ x ∷ []) is)) ∙ append_assoc lines (outcome_line budget (serial p budget) ∷ []) (Close ∷ []));
}

-- each of them is a line of the program
pub each_of_all : (p : PlainProgram) {ns : List Note} {a : List Line} → Reached Recorded p [] ns a → All (IsLineOf p) a
each_of_all p at_first = λ k d l. absurd (omega (arith, l))
each_of_all p (by_one {b = b} {c = c} {ns = ns} n r s) = subst (λ ls. All (IsLineOf p) ls) (sym s.added) (All-append (IsLineOf p) b s.lines (each_of_all p r) s.of_program)

pub each_by : (p : PlainProgram) (ms : PlainMarks) (budget : ℕ) (start lines taken one two : List Line) (l : Line) → start ≡ [] → Reached Recorded p start (lists p ms budget) lines → taken ≡ lines → IsLineOf p l →
    one ≡ taken ++ l ∷ [] → two ≡ one ++ Close ∷ [] → All (IsLineOf p) two
each_by p ms budget start lines taken one two l none reached same is first second =
    let each : All (IsLineOf p) lines = each_of_all p (subst (λ a. Reached Recorded p a (lists p ms budget) lines) none reached) in
    let last : All (IsLineOf p) (l ∷ []) = All-cons (IsLineOf p) l [] is (λ k d m. absurd (omega (arith, m))) in
    let close : All (IsLineOf p) (Close ∷ []) = All-cons (IsLineOf p) Close [] tt (λ k d m. absurd (omega (arith, m))) in
    subst (λ (z : List Line). All (IsLineOf p) z) (sym second) (All-append (IsLineOf p) one (Close ∷ []) (subst (λ (z : List Line). All (IsLineOf p) z) (sym first) (All-append (IsLineOf p) taken (l ∷ []) (subst (λ (z : List Line). All (IsLineOf p) z) (sym same) each) last)) close)

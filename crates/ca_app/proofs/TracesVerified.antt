-- A schedule that is told of a source, behind that source, is verified.
use Rattle.std.proofs.Common.{◌≡◌, ℕ, ◌≤◌, ◌⊎◌, inl, inr, All, List, [], ◌∷◌, ◌++◌, length, length-append, get_or, codes, refl, sym, ap, ◌∙◌, arith}
use Rattle.std.specs.Prelude.{flat_map}
use Rattle.std.proofs.lemmas.List.Elements.{All-head, All-tail}
use Rattle.ca_program.specs.Plain.{PlainProgram}
use Rattle.ca_meaning.specs.Output.{Reply}
use Rattle.ca_trace.specs.declared.line.Line.{Line}
use Rattle.ca_trace.specs.declared.line.Line.TheVariants.{Block, End, Step, Declined, Done, Trapped, Spent, Close}
use Rattle.ca_trace.specs.Texts.{words_of_line, line_text, IsLineOf, ReadsAs, HasHeader, SplitAt}
use Rattle.ca_lines.specs.Pieces.{Without}
use Rattle.ca_lines.specs.Named.{NamesGood}
use Rattle.ca_lines.proofs.Bytes.{head_is}
use Rattle.ca_lines.proofs.Feeds.{words_without, line_whole}
use Rattle.ca_app.specs.Accepted.{Accepted}
use Rattle.ca_app.specs.Traced.{traces, TraceReplies, refuses, records}
use Rattle.ca_app.specs.Verified.{most_with_schedule, VerifyReplies, scheduled, reads, judges, follows, yes_reply}
use Rattle.ca_app.proofs.AcceptedNames.{accepted_names}
use Rattle.ca_app.proofs.OneReading.{is_refusal}

-- a line feed of a text is the first one, which ends these words, or stands behind it
after_feed : (words rest front behind : List ℕ) → Without 10 words → words ++ 10 ∷ rest ≡ front ++ 10 ∷ behind → (rest ≡ behind) ⊎ ((more : List ℕ) × (rest ≡ more ++ 10 ∷ behind))
after_feed [] rest [] behind h e = inl (head_is 10 10 rest behind e).1
after_feed [] rest (x ∷ front) behind h e = inr (front, (head_is 10 x rest (front ++ 10 ∷ behind) e).1)
after_feed (w ∷ words) rest [] behind h e = absurd (h.0 (head_is w 10 (words ++ 10 ∷ rest) behind e).0)
after_feed (w ∷ words) rest (x ∷ front) behind h e = after_feed words rest front behind h.1 (head_is w x (words ++ 10 ∷ rest) (front ++ 10 ∷ behind) e).1

-- a header begins with a slash, and no line does
header_slash : (text : List ℕ) → HasHeader text → get_or text 0 0 ≡ 47
header_slash text (inl e) = ap (λ (t : List ℕ). get_or t 0 0) e
header_slash text (inr r) = ap (λ (t : List ℕ). get_or t 0 0) r.1

first_byte : (p : PlainProgram) (lines : List Line) → get_or (flat_map (line_text p) lines) 0 0 ≡ 47 → ⊥
first_byte p [] e = absurd (omega (arith, e))
first_byte p (Block ∷ lines) e = absurd (omega (arith, e))
first_byte p (End ∷ lines) e = absurd (omega (arith, e))
first_byte p (Step o ∷ lines) e = absurd (omega (arith, e))
first_byte p (Declined ∷ lines) e = absurd (omega (arith, e))
first_byte p (Done n ∷ lines) e = absurd (omega (arith, e))
first_byte p (Trapped t ∷ lines) e = absurd (omega (arith, e))
first_byte p (Spent n ∷ lines) e = absurd (omega (arith, e))
first_byte p (Close ∷ lines) e = absurd (omega (arith, e))

header_without : Without 10 (codes "/*schedule")
header_without = ((λ e. omega (arith, e)), ((λ e. omega (arith, e)), ((λ e. omega (arith, e)), ((λ e. omega (arith, e)), ((λ e. omega (arith, e)), ((λ e. omega (arith, e)), ((λ e. omega (arith, e)), ((λ e. omega (arith, e)), ((λ e. omega (arith, e)), ((λ e. omega (arith, e)), tt))))))))))

-- behind no line feed of a text stands a header, where that holds of what stands behind its first line and this begins with no slash
no_header_behind : (words rest : List ℕ) → Without 10 words → (get_or rest 0 0 ≡ 47 → ⊥) → ((front behind : List ℕ) → rest ≡ front ++ 10 ∷ behind → ¬ HasHeader behind)
    → (front behind : List ℕ) → words ++ 10 ∷ rest ≡ front ++ 10 ∷ behind → ¬ HasHeader behind
no_header_behind words rest none first later front behind e h = from (after_feed words rest front behind none e)
  where
    from : (rest ≡ behind) ⊎ ((more : List ℕ) × (rest ≡ more ++ 10 ∷ behind)) → ⊥
    from (inl same) = first (ap (λ (t : List ℕ). get_or t 0 0) same ∙ header_slash behind h)
    from (inr m) = later m.0 behind m.1 h

module _ (p : PlainProgram) (good : NamesGood p) where
  no_header : (lines : List Line) → All (IsLineOf p) lines → (front behind : List ℕ) → flat_map (line_text p) lines ≡ front ++ 10 ∷ behind → ¬ HasHeader behind
  no_header [] each front behind e h = let a = ap length e in let b = length-append front (10 ∷ behind) in absurd (omega (arith, a, b))
  no_header (l ∷ lines) each front behind e h =
      no_header_behind (words_of_line p l) (flat_map (line_text p) lines) (words_without p good l (All-head (IsLineOf p) l lines each)) (first_byte p lines)
      (no_header lines (All-tail (IsLineOf p) l lines each)) front behind (sym (line_whole p l (flat_map (line_text p) lines)) ∙ e) h

  split_of : (source schedule : List ℕ) (lines : List Line) → ReadsAs p schedule lines → SplitAt (source ++ (codes "\n" ++ schedule)) source schedule
  split_of source schedule lines read = record {
    whole = refl;
    header = inr (flat_map (line_text p) lines, read.is);
    last = λ front behind e.
        no_header_behind (codes "/*schedule") (flat_map (line_text p) lines) header_without (first_byte p lines) (no_header lines read.each) front behind (sym read.is ∙ e);
  }

-- so is each reply of `trace` to a text that is accepted
pub trace_is_verified : (text : List ℕ) (p : PlainProgram) (budget : ℕ) (reply : Reply) → Accepted text p → TraceReplies budget text reply → length (text ++ reply.bytes) ≤ most_with_schedule → VerifyReplies budget (text ++ reply.bytes) yes_reply
trace_is_verified text p budget reply accepted (refuses refused) short = absurd ((is_refusal refused).unaccepted p accepted)
trace_is_verified text p budget reply accepted (records {p = q} named (traces {schedule = schedule} {lines = lines} read follow)) short =
    scheduled short (split_of q (accepted_names named) text schedule lines read) (reads named (judges read (follows follow)))

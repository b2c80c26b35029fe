-- A text has one reply of `verify`.
use Rattle.std.proofs.Common.{◌≡◌, ℕ, List, [], ◌∷◌, ◌++◌, refl, sym, ap, ◌∙◌, subst, arith}
use Rattle.ca_program.specs.Plain.{PlainProgram}
use Rattle.ca_meaning.specs.Output.{Reply}
use Rattle.ca_plan.specs.Plans.{PlainPlan, PlanOf}
use Rattle.ca_plan.proofs.OnePlan.{one_marks}
use Rattle.ca_parallel.specs.Lists.{PlainMarks}
use Rattle.ca_trace.specs.declared.line.Line.{Line}
use Rattle.ca_trace.specs.Lines.{Follows}
use Rattle.ca_trace.specs.Bad.{Begins, FirstBad}
use Rattle.ca_trace.specs.Bad as bad
use Rattle.ca_trace.specs.Texts.{HasHeader, SplitAt}
use Rattle.ca_trace.proofs.Splitting.{one_first_bad, none_where_bad}
use Rattle.ca_lines.specs.Named.{NamesGood}
use Rattle.ca_lines.proofs.Once.{one_list, reads_or_bad, one_bad_line}
use Rattle.ca_app.specs.Refusals.{refusal_reply}
use Rattle.ca_app.specs.Verified.{FollowsPlan, at_line, no_reply, LinesReplies, follows, goes_wrong, ScheduleReplies, ill_formed, judges, PairReplies, refuses, reads, VerifyReplies, too_long, unscheduled, scheduled}
use Rattle.ca_app.proofs.AcceptedNames.{accepted_names}
use Rattle.ca_app.proofs.OneReading.{is_refusal, is_program}

tails : (a b : ℕ) (xs ys : List ℕ) → a ∷ xs ≡ b ∷ ys → xs ≡ ys
tails a b xs ys e = cc

heads : (a b : ℕ) (xs ys : List ℕ) → a ∷ xs ≡ b ∷ ys → a ≡ b
heads a b xs ys e = cc

-- of two splits neither stands in front of the other
record Same (a b c d : List ℕ) : Type 0 where
  fronts : a ≡ c
  rests : b ≡ d

one_split : (a b c d : List ℕ) → a ++ 10 ∷ b ≡ c ++ 10 ∷ d → ((f g : List ℕ) → b ≡ f ++ 10 ∷ g → ¬ HasHeader g) → ((f g : List ℕ) → d ≡ f ++ 10 ∷ g → ¬ HasHeader g) → HasHeader b → HasHeader d → Same a b c d
one_split [] b [] d e n m h k = record { fronts = refl; rests = tails 10 10 b d e }
one_split [] b (x ∷ c) d e n m h k = absurd (n c d (tails 10 x b (c ++ 10 ∷ d) e) k)
one_split (x ∷ a) b [] d e n m h k = absurd (m a b (sym (tails x 10 (a ++ 10 ∷ b) d e)) h)
one_split (x ∷ a) b (y ∷ c) d e n m h k =
    let w = one_split a b c d (tails x y (a ++ 10 ∷ b) (c ++ 10 ∷ d) e) n m h k in
    record { fronts = ap (λ z. z ∷ a) (heads x y (a ++ 10 ∷ b) (c ++ 10 ∷ d) e) ∙ ap (λ z. y ∷ z) w.fronts; rests = w.rests }

-- a text is split in one way
pub split_one : (text a b c d : List ℕ) → SplitAt text a b → SplitAt text c d → (a ≡ c) × (b ≡ d)
split_one text a b c d sp sq = let w = one_split a b c d (sym sp.whole ∙ sq.whole) sp.last sq.last sp.header sq.header in (w.fronts, w.rests)

module _ (budget : ℕ) where
  pub lines_one : (p : PlainProgram) (lines : List Line) (r s : Reply) → LinesReplies p budget lines r → LinesReplies p budget lines s → r ≡ s
  lines_one p lines r s (follows f) (follows g) = refl
  lines_one p lines r s (follows f) (goes_wrong {n = n} b) = absurd (none_where_bad (FollowsPlan p budget) lines n b f)
  lines_one p lines r s (goes_wrong {n = n} b) (follows f) = absurd (none_where_bad (FollowsPlan p budget) lines n b f)
  lines_one p lines r s (goes_wrong {n = n} a) (goes_wrong {n = k} b) = ap (λ z. no_reply z) (one_first_bad (FollowsPlan p budget) lines n k a b)

  pub schedule_one : (p : PlainProgram) → NamesGood p → (schedule : List ℕ) (r s : Reply) → ScheduleReplies p budget schedule r → ScheduleReplies p budget schedule s → r ≡ s
  schedule_one p names schedule r s (ill_formed {n = n} a) (ill_formed {n = k} b) = ap (λ z. refusal_reply (at_line z) 61) (one_bad_line p names schedule n k a b)
  schedule_one p names schedule r s (ill_formed {n = n} a) (judges {lines = ls} l f) = absurd (reads_or_bad p names schedule ls n l a)
  schedule_one p names schedule r s (judges {lines = ls} l f) (ill_formed {n = n} a) = absurd (reads_or_bad p names schedule ls n l a)
  schedule_one p names schedule r s (judges {lines = ls} l f) (judges {lines = ms} m g) =
      lines_one p ms r s (subst (λ z. LinesReplies p budget z r) (one_list p names schedule ls ms l m) f) g

  pub pair_one : (source schedule : List ℕ) (r s : Reply) → PairReplies budget source schedule r → PairReplies budget source schedule s → r ≡ s
  pair_one source schedule x y (refuses {at = p} {code = c} one) (refuses {at = q} {code = d} two) =
      let is = is_refusal two in ap (λ x. refusal_reply x c) (is.place p c one) ∙ ap (λ x. refusal_reply q x) (is.number p c one)
  pair_one source schedule x y (refuses one) (reads {p = p} a b) = absurd ((is_refusal one).unaccepted p a)
  pair_one source schedule x y (reads {p = p} a b) (refuses one) = absurd ((is_refusal one).unaccepted p a)
  pair_one source schedule x y (reads {p = p} a b) (reads {p = q} c d) =
      schedule_one q (accepted_names c) schedule x y (subst (λ z. ScheduleReplies z budget schedule x) ((is_program c).only p a) b) d

  pub verify_one : (text : List ℕ) (r s : Reply) → VerifyReplies budget text r → VerifyReplies budget text s → r ≡ s
  verify_one text u v (too_long l) (too_long k) = refl
  verify_one text u v (too_long l) (unscheduled k n) = absurd (omega (arith, l, k))
  verify_one text u v (too_long l) (scheduled k sp x) = absurd (omega (arith, l, k))
  verify_one text u v (unscheduled k n) (too_long l) = absurd (omega (arith, l, k))
  verify_one text u v (scheduled k sp x) (too_long l) = absurd (omega (arith, l, k))
  verify_one text u v (unscheduled k n) (unscheduled l m) = refl
  verify_one text u v (unscheduled k n) (scheduled {source = a} {schedule = b} l sp x) = absurd (n a b sp.whole sp.header)
  verify_one text u v (scheduled {source = a} {schedule = b} l sp x) (unscheduled k n) = absurd (n a b sp.whole sp.header)
  verify_one text u v (scheduled {source = a} {schedule = b} l sp x) (scheduled {source = c} {schedule = d} k sq y) =
      let w = split_one text a b c d sp sq in
      pair_one c d u v (subst (λ z. PairReplies budget c z u) w.1 (subst (λ z. PairReplies budget z b u) w.0 x)) y

-- ---- with whichever plan of the program the lines were checked

module _ (Is Other : List Line → Type 0) (to : (ls : List Line) → Is ls → Other ls) (back : (ls : List Line) → Other ls → Is ls) where
  begins_too : (ls : List Line) → Begins Is ls → Begins Other ls
  begins_too ls b = record { more = b.more; is = to (ls ++ b.more) b.is }

  begins_back : (ls : List Line) → Begins Other ls → Begins Is ls
  begins_back ls b = record { more = b.more; is = back (ls ++ b.more) b.is }

  bad_too : (ls : List Line) (n : ℕ) → FirstBad Is ls n → FirstBad Other ls n
  bad_too ls n (bad.at_line front l behind whole long before none) = bad.at_line front l behind whole long (begins_too front before) (λ b. none (begins_back (front ++ l ∷ []) b))
  bad_too ls n (bad.at_end long all none) = bad.at_end long (begins_too ls all) (λ i. none (back ls i))

module _ (p : PlainProgram) (plan : PlainPlan) (is : PlanOf p plan) (ms : PlainMarks) (same : ms ≡ plan.marks) (budget : ℕ) where
  pub marks_follow : (ls : List Line) → Follows p ms budget ls → FollowsPlan p budget ls
  marks_follow ls f = record { plan = plan; is_plan = is; follows = subst (λ m. Follows p m budget ls) same f }

  back : (ls : List Line) → FollowsPlan p budget ls → Follows p ms budget ls
  back ls g = subst (λ m. Follows p m budget ls) (one_marks p g.plan plan g.is_plan is ∙ sym same) g.follows

  pub marks_go_wrong : (ls : List Line) (n : ℕ) → FirstBad (Follows p ms budget) ls n → FirstBad (FollowsPlan p budget) ls n
  marks_go_wrong ls n f = bad_too (Follows p ms budget) (FollowsPlan p budget) marks_follow back ls n f

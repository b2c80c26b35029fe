use Rattle.std.proofs.Common.{◌≡◌, length, sym, ◌∙◌, ap, subst, arith, length-drop, length-take}
use Rattle.std.proofs.lemmas.Bool.{eqb-true, eqb-false}
use Rattle.ca_lex.specs.clauses.Fronts.{piece_at}
use Rattle.ca_lex.specs.Places.{advance}
use Rattle.ca_lex.specs.Pieces.{piece_of, token_of, letter_behind, too_great, refused}
use Rattle.ca_lex.specs.Faults as fault
use Rattle.ca_lex.specs.Faults.{LexFault, bad_byte, wide_number, token_limit}
use Rattle.ca_lex.proofs.Sizes.{digits_size}
use Rattle.ca_lex.proofs.Readings.{Passed, passed_blank, passed_comment, passed_token, passed_to, complete, refused_byte}
use Rattle.ca_lex.proofs.Outcomes.{byte_place, number_place, limit_place}
use Rattle.ca_lex.proofs.lex.Goals as goal
use Rattle.ca_lex.proofs.lex.Goals.{Joined-front, in-Blank, in-Comment, in-Token+else-len-eq-MOST_TOKENS+in_ok-push-in-Token}

-- what stands in front has been read
passed : (c : Joined-front) → Passed c.args.text.now c.match-front.tokens.items c.pieces.at c.pieces.start c.pieces.rest.now c.match-front.len
passed c =
    let i = c.pieces.invariant in
    let here = sym c.in_ok-front.ensures in
    elim c.match-front.branch [
      | in-Blank w ↦ rw (w.tokens-is, w.len-is) (passed_blank w.in-Blank.len i.reading (here ∙ ap piece_at w.in-Blank.is) i.few)
      | in-Comment w ↦ rw (w.tokens-is, w.len-is) (passed_comment w.in-Comment.len i.reading (here ∙ ap piece_at w.in-Comment.is) i.few)
      | in-Token+else-len-eq-MOST_TOKENS+in_ok-push-in-Token w ↦
          let len = w.len.ensures in
          let below = w.if-len-eq-MOST_TOKENS.false in
          let few = i.few in
          rw (w.tokens-is, w.len-is, w.in_ok-push-in-Token.ensures.items)
          (passed_token w.in-Token.len w.in-Token.kind i.reading (here ∙ ap piece_at w.in-Token.is) (omega arith))
    ]

pub split_at-requires-in-pieces : goal.split_at-requires-in-pieces
split_at-requires-in-pieces c = (passed c).fits

pub pieces-smaller : goal.pieces-smaller
pieces-smaller c =
    let r = passed (goal.at.pieces-smaller c).Joined-front in
    omega (arith, r.some, r.fits, ap length c.split_at-in-pieces.ensures.back ∙ length-drop c.match-front.len c.pieces.rest.now)

pub pieces-preserved : goal.pieces-preserved
pieces-preserved c =
    let i = c.pieces.invariant in
    let r = passed (goal.at.pieces-preserved c).Joined-front in
    let s = c.split_at-in-pieces.ensures in
    let p = c.place_behind-at.ensures in
    let front_len = ap length s.front ∙ length-take c.match-front.len c.pieces.rest.now in
    let back_len = ap length s.back ∙ length-drop c.match-front.len c.pieces.rest.now in
    record {
      few = r.few;
      line = omega (arith, front_len, back_len, p.lines, r.fits);
      column = omega (arith, front_len, back_len, p.columns, r.fits);
      first = p.first;
      start = omega (arith, back_len, i.start, r.fits);
      reading = passed_to _ _ r (p.place ∙ ap (advance c.pieces.at) s.front) s.back;
    }

pub split_at-requires : goal.split_at-requires
split_at-requires c = (digits_size c.pieces.rest.now (sym c.in_ok-front.ensures ∙ ap piece_at c.in-LetterBehind.is)).1

pub returns-then-len-eq-MOST_TOKENS-clause-limit : goal.returns-then-len-eq-MOST_TOKENS-clause-limit
returns-then-len-eq-MOST_TOKENS-clause-limit c = λ p e.
    let r = c.pieces.invariant.reading in
    let len = c.len.ensures in
    let full = c.if-len-eq-MOST_TOKENS.true in
    let here : piece_of c.pieces.rest.now ≡ token_of c.in-Token.len c.in-Token.kind = sym c.in_ok-front.ensures ∙ ap piece_at c.in-Token.is in
    subst (λ q. LexFault c.args.text.now q token_limit) (limit_place e) (r.refuses _ token_limit (fault.too_many here (omega arith)))

pub returns-then-len-eq-MOST_TOKENS-2-clause-limit : goal.returns-then-len-eq-MOST_TOKENS-2-clause-limit
returns-then-len-eq-MOST_TOKENS-2-clause-limit c = λ p e.
    let r = c.pieces.invariant.reading in
    let len = c.len-in-LetterBehind.ensures in
    let full = c.if-len-eq-MOST_TOKENS-2.true in
    let here : piece_of c.pieces.rest.now ≡ letter_behind c.in-LetterBehind.len = sym c.in_ok-front.ensures ∙ ap piece_at c.in-LetterBehind.is in
    subst (λ q. LexFault c.args.text.now q token_limit) (limit_place e) (r.refuses _ token_limit (fault.too_many_digits here (omega arith)))

pub returns-in-LetterBehind-clause-bad_byte : goal.returns-in-LetterBehind-clause-bad_byte
returns-in-LetterBehind-clause-bad_byte c = λ p e.
    let r = c.pieces.invariant.reading in
    let len = c.len-in-LetterBehind.ensures in
    let below = c.if-len-eq-MOST_TOKENS-2.false in
    let few = c.pieces.invariant.few in
    let here : piece_of c.pieces.rest.now ≡ letter_behind c.in-LetterBehind.len = sym c.in_ok-front.ensures ∙ ap piece_at c.in-LetterBehind.is in
    let letter = c.place_behind.ensures.place ∙ ap (advance c.pieces.at) c.split_at.ensures.front in
    subst (λ q. LexFault c.args.text.now q bad_byte) (sym letter ∙ byte_place e) (r.refuses _ bad_byte (fault.letter here (omega arith)))

pub returns-in-TooGreat-clause-wide_number : goal.returns-in-TooGreat-clause-wide_number
returns-in-TooGreat-clause-wide_number c = λ p e.
    let r = c.pieces.invariant.reading in
    let here : piece_of c.pieces.rest.now ≡ too_great = sym c.in_ok-front.ensures ∙ ap piece_at c.in-TooGreat.is in
    subst (λ q. LexFault c.args.text.now q wide_number) (number_place e) (r.refuses _ wide_number (fault.wide here))

pub returns-in-Refused-clause-bad_byte : goal.returns-in-Refused-clause-bad_byte
returns-in-Refused-clause-bad_byte c = λ p e.
    let here : piece_of c.pieces.rest.now ≡ refused = sym c.in_ok-front.ensures ∙ ap piece_at c.in-Refused.is in
    subst (λ q. LexFault c.args.text.now q bad_byte) (byte_place e) (refused_byte c.pieces.invariant.reading here (omega (arith, eqb-false (length c.pieces.rest.now) 0 (sym c.pieces-test.ensures))))

pub returns-clause-tokens : goal.returns-clause-tokens
returns-clause-tokens c = complete c.pieces.invariant.reading (eqb-true _ 0 (sym c.pieces-test.ensures))

use Rattle.std.proofs.Common.{◌≡◌, ◌∙◌, ◌++◌, [], ap}
use Rattle.ca_model.proofs.Lines.{adds_written, adds_pending, adds_alone, not_flushed}
use Rattle.ca_model.proofs.line.Line.add.Goals as goal

pub returns-then-place-clause-bytes : goal.returns-then-place-clause-bytes
returns-then-place-clause-bytes g c =
    let put : c.place.new.self ≡ c.args.self.now ++ c.args.piece.now = rw c.if-place.true at c.place.ensures in
    adds_pending _ c.args.self.now _ c.args.piece.now tt put

pub returns-in-Err-clause-bytes : goal.returns-in-Err-clause-bytes
returns-in-Err-clause-bytes g c =
    let kept : c.place.new.self ≡ c.args.self.now = rw c.if-place.false at c.place.ensures in
    not_flushed _ _ c.args.self.now _ c.args.piece.now _ (rw kept at c.in-Err.ensures.bytes)

pub returns-then-place-2-clause-bytes : goal.returns-then-place-2-clause-bytes
returns-then-place-2-clause-bytes g c =
    let kept : c.place.new.self ≡ c.args.self.now = rw c.if-place.false at c.place.ensures in
    let put : c.place-2.new.self ≡ c.args.piece.now = (rw c.if-place-2.true at c.place-2.ensures) ∙ ap (λ t. t ++ c.args.piece.now) c.in_default.ensures.none_left in
    adds_alone _ _ c.args.self.now _ c.args.piece.now tt (rw kept at c.in_default.ensures.bytes.whole) put

pub returns-clause-bytes : goal.returns-clause-bytes
returns-clause-bytes g c =
    let kept : c.place.new.self ≡ c.args.self.now = rw c.if-place.false at c.place.ensures in
    let empty : c.place-2.new.self ≡ [] = (rw c.if-place-2.false at c.place-2.ensures) ∙ c.in_default.ensures.none_left in
    rw empty (adds_written _ _ _ c.args.self.now c.args.piece.now _ (rw kept at c.in_default.ensures.bytes.whole) c.write_all.ensures.bytes)

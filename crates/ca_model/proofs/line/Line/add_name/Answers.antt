use Rattle.std.proofs.Common.{◌≡◌, ◌++◌, codes}
use Rattle.ca_model.proofs.Lines.{adds_after, adds_more, went_after}
use Rattle.ca_model.proofs.line.Line.add_name.Goals as goal

pub returns-in-Err-clause-bytes : goal.returns-in-Err-clause-bytes
returns-in-Err-clause-bytes g c =
    let name = c.args.name.now in
    let kept : c.place_name.new.self ≡ c.args.self.now = rw c.if-place_name.false at c.place_name.ensures in
    adds_more _ _ _ _ _ (codes " " ++ name) (codes "=")
    (adds_more _ _ _ _ _ (codes " ") name (rw kept at c.in-Err.ensures.bytes))

pub returns-in-Err-add-clause-bytes : goal.returns-in-Err-add-clause-bytes
returns-in-Err-add-clause-bytes g c =
    let name = c.args.name.now in
    let kept : c.place_name.new.self ≡ c.args.self.now = rw c.if-place_name.false at c.place_name.ensures in
    adds_more _ _ _ _ _ (codes " " ++ name) (codes "=")
    (adds_after _ _ _ c.args.self.now (codes " ") _ name _ _ (rw kept at c.in_default.ensures.bytes.whole) c.in-Err-add.ensures.bytes)

pub returns-clause-bytes : goal.returns-clause-bytes
returns-clause-bytes g c =
    let name = c.args.name.now in
    let kept : c.place_name.new.self ≡ c.args.self.now = rw c.if-place_name.false at c.place_name.ensures in
    let named = went_after _ _ _ c.args.self.now (codes " ") _ name _ (rw kept at c.in_default.ensures.bytes.whole) c.in_default-add.ensures.bytes.whole in
    adds_after _ _ _ c.args.self.now (codes " " ++ name) _ (codes "=") _ _ named c.add-3.ensures.bytes

use Rattle.std.proofs.Common.{◌≡◌, false, is_err, sym, ◌∙◌}
use Rattle.ca_canonical.specs.clauses.Pens.{put}
use Rattle.ca_canonical.proofs.Writing.{no_error}
use Rattle.ca_canonical.proofs.pen.Pen.put.Goals as goal

pub returns-then-is_err : goal.returns-then-is_err
returns-then-is_err c = record { lasted = λ f. absurd (cc); is = λ f. absurd (cc) }

pub returns-else-is_err : goal.returns-else-is_err
returns-else-is_err c =
    let fine : is_err c.add.result ≡ false = sym c.is_err.ensures.value ∙ c.if-is_err.false in
    record {
      lasted = λ f. sym c.add.ensures.failed ∙ f;
      is = λ f. no_error (c.add.new.self ≡ put c.args.semicolon c.args.text.now c.args.gap c.args.self.now) c.add.result fine c.add.ensures.put;
    }

use Rattle.std.proofs.Common.{◌≡◌, ◌∷◌, ◌++◌, [], false, is_err, sym, ◌∙◌}
use Rattle.ca_code.specs.Seen.{row_of}
use Rattle.ca_code.specs.Laying.{laid}
use Rattle.ca_code.proofs.Laying.{no_error}
use Rattle.ca_code.proofs.rows.Rows.push.Goals as goal

pub returns-then-is_err : goal.returns-then-is_err
returns-then-is_err c = record { lasted = λ ok. absurd (cc); says = λ ok. absurd (cc) }

pub returns-else-is_err : goal.returns-else-is_err
returns-else-is_err c =
    let fine : is_err c.add.result ≡ false = sym c.is_err.ensures.value ∙ c.if-is_err.false in
    record {
      lasted = λ ok. sym c.add.ensures.failed ∙ ok;
      says = λ ok. no_error (laid c.add.new.self ≡ laid c.args.self.now ++ row_of c.args.line c.args.ins ∷ []) c.add.result fine c.add.ensures.added;
    }

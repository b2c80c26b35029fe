use Rattle.std.proofs.Common.{sym, ap, ◌∙◌}
use Rattle.std.specs.Prelude.{slice_set}
use Rattle.ca_code.specs.Seen.{placed}
use Rattle.ca_code.specs.Laying.{Laying, laid}
use Rattle.ca_code.proofs.Laying.{map_put}
use Rattle.ca_code.proofs.rows.Rows.put.Goals as goal

pub returns-then-place-len : goal.returns-then-place-len
returns-then-place-len c = record {
  lasted = λ ok. sym (ap (λ (l : Laying). l.failed) c.self.view_is) ∙ ok;
  says = λ ok.
      map_put c.self.inside.rows.items c.args.place (record { ins = c.args.ins; line = c.args.line })
      ∙ ap (λ (l : Laying). slice_set (laid l) c.args.place (placed (record { ins = c.args.ins; line = c.args.line }))) c.self.view_is;
}

pub returns-else-place-len : goal.returns-else-place-len
returns-else-place-len c = record { lasted = λ ok. absurd (cc); says = λ ok. absurd (cc) }

use Rattle.std.proofs.Common.{◌≡◌, ◌+◌, Some, map, sym, ap, ◌∙◌}
use Rattle.std.specs.Prelude.{slice_get}
use Rattle.ca_code.specs.Seen.{kind_seen}
use Rattle.ca_code_laws.specs.Machine.{row}
use Rattle.ca_code_laws.specs.Words.{read_as}
use Rattle.ca_steps.specs.Stands.{seen}
use Rattle.ca_steps.proofs.Loading.{some_by}
use Rattle.ca_sections.proofs.Few.{row_at}
use Rattle.ca_sections.proofs.listing.argument.Goals as goal

pub kind_in-kind-requires : goal.kind_in-kind-requires
kind_in-kind-requires c = c.requires

pub returns : goal.returns
returns c =
    let kinds = c.args.kinds.now in
    let xs = seen c.args.slots.now in
    let is = row_at xs c.args.first kinds c.args.place c.kind_in-kind.result c.kind_in-kind.ensures in
    some_by (λ v. v ≡ read_as (kind_seen c.kind_in-kind.result) (xs (c.args.first + c.args.place))) (λ v. slice_get (row xs c.args.first (map kind_seen kinds)) c.args.place ≡ Some v) c.value_at.result (λ v e. is ∙ ap Some (sym e)) c.value_at.ensures

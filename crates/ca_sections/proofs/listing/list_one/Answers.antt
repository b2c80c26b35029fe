use Rattle.std.proofs.Common.{◌++◌, [], ◌∷◌, refl, ap, ◌∙◌, arith}
use Rattle.std.proofs.lemmas.Result.{err_from_is_err_and}
use Rattle.ca_steps.specs.Stands.{seen}
use Rattle.ca_sections.proofs.Few.{row_of_one}
use Rattle.ca_sections.proofs.listing.list_one.Goals as goal

pub argument-requires : goal.argument-requires
argument-requires c = omega (arith, c.requires.many)

pub push_reserved-requires : goal.push_reserved-requires
push_reserved-requires c = c.requires.room

pub returns : goal.returns
returns c =
    let args = row_of_one (seen c.args.slots.now) c.args.first c.args.kinds.now c.in-Some.value c.requires.many c.in-Some.ensures in
    record {
      listed = c.push_reserved.ensures.items
          ∙ ap (λ args. c.args.listed.now.items ++ record { receiver = c.args.receiver; op = c.args.op; args = args } ∷ []) (c.in_ok-args.ensures ∙ args);
      kept = tt;
    }

pub returns-in_default : goal.returns-in_default
returns-in_default c = record { listed = tt; kept = refl }

pub returns-in_err-args : goal.returns-in_err-args
returns-in_err-args c =
    let p = err_from_is_err_and c.from_residual.result c.from_residual.ensures.1 in
    record { listed = rw p.1 tt; kept = rw p.1 refl }

use Rattle.std.proofs.Common.{◌++◌, [], ◌∷◌, refl, ap, ◌∙◌}
use Rattle.std.proofs.lemmas.Result.{err_from_is_err_and}
use Rattle.ca_sections.proofs.listing.list_many.Goals as goal

pub returns : goal.returns
returns c =
    record {
      listed = c.in_ok-push.ensures.items
          ∙ ap (λ args. c.args.listed.now.items ++ record { receiver = c.args.receiver; op = c.args.op; args = args } ∷ []) c.in_ok-args.ensures;
      kept = tt;
    }

pub returns-in_err-args : goal.returns-in_err-args
returns-in_err-args c =
    let p = err_from_is_err_and c.from_residual.result c.from_residual.ensures.1 in
    record { listed = rw p.1 tt; kept = rw p.1 refl }

pub returns-in_err-push : goal.returns-in_err-push
returns-in_err-push c =
    let p = err_from_is_err_and c.from_residual-in_err-push.result c.from_residual-in_err-push.ensures.1 in
    record { listed = rw p.1 tt; kept = rw p.1 c.in_err-push.ensures.items }

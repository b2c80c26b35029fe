use Rattle.std.proofs.Common.{is_some, sym, ap, ap₂, ◌∙◌}
use Rattle.std.specs.Prelude.{nat_eq}
use Rattle.ca_forms.specs.Seen.{part_of}
use Rattle.ca_forms.specs.Folds.{part_made}
use Rattle.ca_forms.proofs.Made.{told, no_made}
use Rattle.ca_forms.proofs.polynomial.Part.is_fold_of.Goals as goal

pub returns-in-Fold : goal.returns-in-Fold
returns-in-Fold c =
    ap₂ nat_eq c.number.ensures c.number-in-Fold.ensures ∙ told _ _ ∙ ap (λ n. is_some (part_made c.args.op (part_of n))) (sym c.in-Fold.is) ∙ ap (λ p. is_some (part_made c.args.op p)) c.self.view_is

pub returns-in_default : goal.returns-in_default
returns-in_default c = no_made c.args.op c.self.inside.node c.in_default.not-Fold ∙ ap (λ p. is_some (part_made c.args.op p)) c.self.view_is

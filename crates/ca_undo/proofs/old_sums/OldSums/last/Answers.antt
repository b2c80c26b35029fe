use Rattle.std.proofs.Common.{◌≡◌, [], ◌∷◌, subst}
use Rattle.std.specs.Prelude.{MatchOption}
use Rattle.ca_undo.specs.declared.puts.Put.{Put}
use Rattle.ca_undo.proofs.old_sums.OldSums.last.Goals as goal

pub invariant_of-self : goal.invariant_of-self
invariant_of-self c = c.none_at_hand-self-inside.ensures _

pub returns : goal.returns
returns c =
    let rest = c.last.new.self in
    subst (λ os. MatchOption c.last.result ((os ≡ []) × (rest ≡ [])) (λ (x : Put). os ≡ x ∷ rest)) c.self.view_is c.last.ensures

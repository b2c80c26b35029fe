-- What is the same by forms is the same.
use Rattle.std.proofs.Common.{inl, ◌≡◌, List, [], ◌∷◌, map}
use Rattle.ca_program.specs.declared.program.FieldId.{FieldId}
use Rattle.ca_program.specs.declared.program.OpId.{OpId}
use Rattle.ca_program.specs.Plain.{PlainProgram}
use Rattle.ca_norm.specs.Terms.{PlainTerm}
use Rattle.ca_norm.specs.Forms.{norm}
use Rattle.ca_verdicts.specs.declared.verdicts.Verdict.TheVariants.{Commutes}
use Rattle.ca_verdicts.specs.Orders.{first_order, second_order}
use Rattle.ca_verdicts.specs.Verdicts.{SameFields, VerdictOf}
use Rattle.ca_verdicts.specs.Laws.{CommutesByForms}

-- terms of the same forms
pub forms_same : (ts us : List PlainTerm) → map norm ts ≡ map norm us → SameFields ts us
forms_same [] [] e = tt
forms_same [] (u ∷ us) e = absurd (none e)
  where
    none : [] ≡ norm u ∷ map norm us → ⊥
    none f = cc
forms_same (t ∷ ts) [] e = absurd (none e)
  where
    none : norm t ∷ map norm ts ≡ [] → ⊥
    none f = cc
forms_same (t ∷ ts) (u ∷ us) e = (inl (first e), forms_same ts us (rest e))
  where
    first : norm t ∷ map norm ts ≡ norm u ∷ map norm us → norm t ≡ norm u
    first f = cc

    rest : norm t ∷ map norm ts ≡ norm u ∷ map norm us → map norm ts ≡ map norm us
    rest f = cc

pub none_lost : (p : PlainProgram) (written : List FieldId) (a b : OpId) → CommutesByForms p written a b → VerdictOf p written a b Commutes
none_lost p written a b h = (h.light, forms_same (first_order p a b).fields (second_order p a b).fields h.fields, λ k. inl (h.demands k))

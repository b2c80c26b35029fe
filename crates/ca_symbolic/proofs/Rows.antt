-- What is told of a row of expressions or statements, which are taken one behind the other.
use Rattle.std.proofs.Common.{◌≡◌, true, false, ◌||◌, List, [], ◌∷◌, ◌++◌, sym, ap, ap₂, ◌∙◌, append_assoc, append-nil}
use Rattle.std.proofs.lemmas.Bool.{or_left}
use Rattle.ca_program.specs.Plain.{PlainProgram, Expression, Expressions, no_expressions, expression_and, Statement, Statements, no_statements, statement_and}
use Rattle.ca_norm.specs.Terms.{PlainTerm}
use Rattle.ca_symbolic.specs.States.{State, PlainDemand}
use Rattle.ca_symbolic.specs.Execution.{term_of, after, after_all}
use Rattle.ca_symbolic.specs.Demands.{terms_in, demands_in, demands_in_all, demanded, demanded_all}
use Rattle.ca_symbolic.specs.Demanded.{Demanded, with_demands}
use Rattle.ca_symbolic.specs.clauses.Refusals.{refused, refused_all, refused_by, refused_by_all}

-- one step more, behind what was demanded so far
longer : (now next : Demanded) (g : PlainTerm) (f : PlainTerm → List PlainDemand) (rest : List PlainDemand) → now.guard ≡ g → next ≡ with_demands now (f now.guard) →
    next.list ++ rest ≡ now.list ++ (f g ++ rest)
longer now next g f rest same told =
    ap (λ l. l ++ rest) (ap (λ (z : Demanded). z.list) told ∙ ap (λ k. now.list ++ f k) same) ∙ append_assoc now.list (f g) rest

-- nothing more
whole : (d now : Demanded) (ds : List PlainDemand) → now.guard ≡ d.guard → now.list ++ [] ≡ d.list ++ ds → now ≡ with_demands d ds
whole d now ds guard list = ap₂ (λ (k : PlainTerm) (l : List PlainDemand). record { guard = k; list = l }) guard (sym (append-nil now.list) ∙ list)

-- where an expression is evaluated, and others are left
module _ (p : PlainProgram) (s : State) (d now : Demanded) (all left : Expressions) (vs : List PlainTerm)
    (values : vs ++ terms_in p s left ≡ terms_in p s all) (guard : now.guard ≡ d.guard)
    (list : now.list ++ demands_in_all p s d.guard left ≡ d.list ++ demands_in_all p s d.guard all) (refusal : refused_all p s d.guard left ≡ refused_all p s d.guard all) where
  module _ (y : Expression) (rest : Expressions) (opened : left ≡ expression_and y rest) where
    pub values_heavy : refused p s now.guard y ≡ true → refused_all p s d.guard all ≡ true
    values_heavy h =
        sym refusal ∙ (ap (refused_all p s d.guard) opened ∙ or_left (refused p s d.guard y) (refused_all p s d.guard rest) (ap (λ (k : PlainTerm). refused p s k y) (sym guard) ∙ h))

    pub values_step : (t : PlainTerm) (ts : List PlainTerm) (next : Demanded) → ts ≡ vs ++ t ∷ [] → t ≡ term_of p s y → next ≡ with_demands now (demands_in p s now.guard y) → refused p s now.guard y ≡ false →
        (ts ++ terms_in p s rest ≡ terms_in p s all) × (next.guard ≡ d.guard) × (next.list ++ demands_in_all p s d.guard rest ≡ d.list ++ demands_in_all p s d.guard all) ×
        (refused_all p s d.guard rest ≡ refused_all p s d.guard all)
    values_step t ts next more named told quiet = (
      ap (λ w. w ++ terms_in p s rest) more ∙ (append_assoc vs (t ∷ []) (terms_in p s rest) ∙ (ap (λ (u : PlainTerm). vs ++ u ∷ terms_in p s rest) named ∙ (ap (λ z. vs ++ terms_in p s z) (sym opened) ∙ values))),
      ap (λ (z : Demanded). z.guard) told ∙ guard,
      longer now next d.guard (λ k. demands_in p s k y) (demands_in_all p s d.guard rest) guard told ∙ (ap (λ z. now.list ++ demands_in_all p s d.guard z) (sym opened) ∙ list),
      sym (ap (refused_all p s d.guard) opened ∙ ap (λ b. b || refused_all p s d.guard rest) (ap (λ (k : PlainTerm). refused p s k y) (sym guard) ∙ quiet)) ∙ refusal,
    )

  -- where none is left
  module _ (ended : left ≡ no_expressions) where
    pub values_made : vs ≡ terms_in p s all
    values_made = sym (append-nil vs) ∙ (ap (λ z. vs ++ terms_in p s z) (sym ended) ∙ values)

    pub values_demand : now ≡ with_demands d (demands_in_all p s d.guard all)
    values_demand = whole d now (demands_in_all p s d.guard all) guard (ap (λ z. now.list ++ demands_in_all p s d.guard z) (sym ended) ∙ list)

    pub values_light : refused_all p s d.guard all ≡ false
    values_light = sym refusal ∙ ap (refused_all p s d.guard) ended

-- where a statement is run, and others are left
module _ (p : PlainProgram) (s here : State) (d now : Demanded) (all left : Statements)
    (state : after_all p here left ≡ after_all p s all) (guard : now.guard ≡ d.guard)
    (list : now.list ++ demanded_all p here d.guard left ≡ d.list ++ demanded_all p s d.guard all) (refusal : refused_by_all p here d.guard left ≡ refused_by_all p s d.guard all) where
  module _ (y : Statement) (rest : Statements) (opened : left ≡ statement_and y rest) where
    pub runs_heavy : refused_by p here now.guard y ≡ true → refused_by_all p s d.guard all ≡ true
    runs_heavy h =
        sym refusal
        ∙ (ap (refused_by_all p here d.guard) opened ∙ or_left (refused_by p here d.guard y) (refused_by_all p (after p here y) d.guard rest) (ap (λ (k : PlainTerm). refused_by p here k y) (sym guard) ∙ h))

    pub runs_step : (there : State) (next : Demanded) → there ≡ after p here y → next ≡ with_demands now (demanded p here now.guard y) → refused_by p here now.guard y ≡ false →
        (after_all p there rest ≡ after_all p s all) × (next.guard ≡ d.guard) × (next.list ++ demanded_all p there d.guard rest ≡ d.list ++ demanded_all p s d.guard all) ×
        (refused_by_all p there d.guard rest ≡ refused_by_all p s d.guard all)
    runs_step there next moved told quiet = (
      ap (λ z. after_all p z rest) moved ∙ (ap (after_all p here) (sym opened) ∙ state),
      ap (λ (z : Demanded). z.guard) told ∙ guard,
      ap (λ z. next.list ++ demanded_all p z d.guard rest) moved
          ∙ (longer now next d.guard (λ k. demanded p here k y) (demanded_all p (after p here y) d.guard rest) guard told ∙ (ap (λ z. now.list ++ demanded_all p here d.guard z) (sym opened) ∙ list)),
      ap (λ z. refused_by_all p z d.guard rest) moved
          ∙ (sym (ap (refused_by_all p here d.guard) opened ∙ ap (λ b. b || refused_by_all p (after p here y) d.guard rest) (ap (λ (k : PlainTerm). refused_by p here k y) (sym guard) ∙ quiet)) ∙ refusal),
    )

  -- where none is left
  module _ (ended : left ≡ no_statements) where
    pub runs_after : here ≡ after_all p s all
    runs_after = ap (after_all p here) (sym ended) ∙ state

    pub runs_demand : now ≡ with_demands d (demanded_all p s d.guard all)
    runs_demand = whole d now (demanded_all p s d.guard all) guard (ap (λ z. now.list ++ demanded_all p here d.guard z) (sym ended) ∙ list)

    pub runs_light : refused_by_all p s d.guard all ≡ false
    runs_light = sym refusal ∙ ap (refused_by_all p here d.guard) ended

use Rattle.std.proofs.Common.{◌≡◌, ◌++◌, ◌∷◌, [], option_to_list, Option, sym, ap, subst, ◌∙◌, append-nil, arith}
use Rattle.std.specs.Prelude.{IfOk, IfErr}
use Rattle.ca_beside.specs.Beside.{present}
use Rattle.ca_cells.specs.Rounds.{now_of}
use Rattle.ca_cells.specs.declared.rule.Given.{Given}
use Rattle.ca_logs.specs.declared.log.CellLog.{CellLog}
use Rattle.ca_cells.specs.clauses.Rule.{Stands}
use Rattle.ca_cells.specs.clauses.Shelves.{found, AreOnce, Without}
use Rattle.ca_cells.specs.declared.slot.Held.{Held}
use Rattle.ca_cells.proofs.Shelves.{last_out, last_found}
use Rattle.ca_cells.proofs.Turned.{Slot}
use Rattle.ca_cells.proofs.slot.take_out.Goals as goal

pub returns-then-mine-clause-out : goal.returns-then-mine-clause-out
returns-then-mine-clause-out c =
    let whole : c.into_parts-others.result.0.items ++ c.in-Some.held ∷ [] ≡ c.args.shelf = subst (λ (o : Option Held). c.into_parts-others.result.0.items ++ option_to_list o ≡ c.args.shelf) c.in-Some.is c.into_parts-others.ensures in
    subst (λ (s : Slot). Without s c.args.number c.into_parts-others.result.0.items) whole
    (last_out c.into_parts-others.result.0.items c.in-Some.held c.args.number (omega (arith, c.if-mine.true)) (subst AreOnce (sym whole) c.requires.once))

pub returns-then-mine-clause-log : goal.returns-then-mine-clause-log
returns-then-mine-clause-log c = λ given history is stands.
    let whole : c.into_parts-others.result.0.items ++ c.in-Some.held ∷ [] ≡ c.args.shelf = subst (λ (o : Option Held). c.into_parts-others.result.0.items ++ option_to_list o ≡ c.args.shelf) c.in-Some.is c.into_parts-others.ensures in
    let there = last_found c.into_parts-others.result.0.items c.in-Some.held c.args.number (omega (arith, c.if-mine.true)) (subst AreOnce (sym whole) c.requires.once) in
    subst (λ (k : Option CellLog). Stands given c.args.number k history) (ap (λ (s : Slot). found s c.args.number) (sym whole) ∙ there) stands

-- where another history stands by itself
pub returns-in-Ok-clause-out : goal.returns-in-Ok-clause-out
returns-in-Ok-clause-out c =
    let whole = c.in-Ok.ensures.all ∙ subst (λ (o : Option Held). c.into_parts-others.result.0.items ++ option_to_list o ≡ c.args.shelf) c.in-Some.is c.into_parts-others.ensures in
    subst (λ (s : Slot). IfOk c.search.result (λ taken. Without s c.args.number taken.1.others.items)) whole c.search.ensures.out

pub returns-in-Ok-clause-log : goal.returns-in-Ok-clause-log
returns-in-Ok-clause-log c =
    let whole = c.in-Ok.ensures.all ∙ subst (λ (o : Option Held). c.into_parts-others.result.0.items ++ option_to_list o ≡ c.args.shelf) c.in-Some.is c.into_parts-others.ensures in
    subst (λ (s : Slot). IfOk c.search.result (λ taken. (given : Given) (history : CellLog) → now_of given ≡ present c.args.heap.now c.args.beside.now → Stands given c.args.number (found s c.args.number) history → taken.0 ≡ history)) whole c.search.ensures.log

pub returns-in-Ok-clause-back : goal.returns-in-Ok-clause-back
returns-in-Ok-clause-back c =
    let whole = c.in-Ok.ensures.all ∙ subst (λ (o : Option Held). c.into_parts-others.result.0.items ++ option_to_list o ≡ c.args.shelf) c.in-Some.is c.into_parts-others.ensures in
    subst (λ (s : Slot). IfErr c.search.result (λ back. back ≡ s)) whole c.search.ensures.back

pub returns-in-Err-clause-back : goal.returns-in-Err-clause-back
returns-in-Err-clause-back c =
    c.in-Err.ensures.back ∙ subst (λ (o : Option Held). c.into_parts-others.result.0.items ++ option_to_list o ≡ c.args.shelf) c.in-Some.is c.into_parts-others.ensures

-- where none does
pub returns-in-None-clause-out : goal.returns-in-None-clause-out
returns-in-None-clause-out c =
    let whole = sym (append-nil c.into_parts-others.result.0.items) ∙ subst (λ (o : Option Held). c.into_parts-others.result.0.items ++ option_to_list o ≡ c.args.shelf) c.in-None.is c.into_parts-others.ensures in
    subst (λ (s : Slot). IfOk c.search-in-None.result (λ taken. Without s c.args.number taken.1.others.items)) whole c.search-in-None.ensures.out

pub returns-in-None-clause-log : goal.returns-in-None-clause-log
returns-in-None-clause-log c =
    let whole = sym (append-nil c.into_parts-others.result.0.items) ∙ subst (λ (o : Option Held). c.into_parts-others.result.0.items ++ option_to_list o ≡ c.args.shelf) c.in-None.is c.into_parts-others.ensures in
    subst (λ (s : Slot). IfOk c.search-in-None.result (λ taken. (given : Given) (history : CellLog) → now_of given ≡ present c.args.heap.now c.args.beside.now → Stands given c.args.number (found s c.args.number) history → taken.0 ≡ history)) whole c.search-in-None.ensures.log

pub returns-in-None-clause-back : goal.returns-in-None-clause-back
returns-in-None-clause-back c =
    let whole = sym (append-nil c.into_parts-others.result.0.items) ∙ subst (λ (o : Option Held). c.into_parts-others.result.0.items ++ option_to_list o ≡ c.args.shelf) c.in-None.is c.into_parts-others.ensures in
    subst (λ (s : Slot). IfErr c.search-in-None.result (λ back. back ≡ s)) whole c.search-in-None.ensures.back

pub search-requires-clause-once : goal.search-requires-clause-once
search-requires-clause-once c = subst AreOnce (sym (c.in-Ok.ensures.all ∙ subst (λ (o : Option Held). c.into_parts-others.result.0.items ++ option_to_list o ≡ c.args.shelf) c.in-Some.is c.into_parts-others.ensures)) c.requires.once

pub search-requires-in-None-clause-once : goal.search-requires-in-None-clause-once
search-requires-in-None-clause-once c = subst AreOnce (sym (sym (append-nil c.into_parts-others.result.0.items) ∙ subst (λ (o : Option Held). c.into_parts-others.result.0.items ++ option_to_list o ≡ c.args.shelf) c.in-None.is c.into_parts-others.ensures)) c.requires.once

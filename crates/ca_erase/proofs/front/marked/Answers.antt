use Rattle.std.proofs.Common.{◌≡◌, ℕ, ◌+◌, List, [], length, drop, sym, ap, ap₂, ◌∙◌, subst}
use Rattle.ca_canonical.specs.Marks.{mark_text}
use Rattle.ca_erase.specs.BadMarks.{space_of}
use Rattle.ca_erase.specs.clauses.Fronts.{Step}
use Rattle.ca_erase.proofs.Steps.{mark_step}
use Rattle.ca_erase.proofs.front.marked.Goals as goal

pub returns-in-Some : goal.returns-in-Some
returns-in-Some c =
    let m = c.in-Some.mark in
    let text = c.args.text.now in
    let r : List ℕ = drop (length (mark_text m)) text in
    let spelled = c.as_bytes.ensures.value ∙ c.text.ensures in
    let front : length c.split_at.result.0.now ≡ length (mark_text m) = c.split_at.ensures.front_len ∙ ap length spelled in
    let back : c.split_at.result.1.now ≡ r = c.split_at.ensures.back ∙ ap (λ z. drop (length z) text) spelled in
    let space : c.space_len.result ≡ length (space_of r) = c.space_len.ensures ∙ ap (λ z. length (space_of z)) back in
    subst (λ k. Step text k []) (sym (ap₂ (λ k l. k + l) front space)) (mark_step m text r c.in-Some.ensures.some)

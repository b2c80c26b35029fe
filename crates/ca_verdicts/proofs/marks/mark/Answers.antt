use Rattle.std.proofs.Common.{◌≡◌, ℕ, ◌+◌, ◌%◌, ◌^◌, ◌++◌, [], ◌∷◌, sym, ap, ◌∙◌, subst}
use Rattle.ca_sums.specs.Sums.{Sum}
use Rattle.ca_sums.proofs.Products.{SameTotals}
use Rattle.ca_verdicts.proofs.MarkSums.{last_counted}
use Rattle.ca_verdicts.proofs.marks.mark.Goals as goal

pub returns-in_ok-push-in-Some : goal.returns-in_ok-push-in-Some
returns-in_ok-push-in-Some c =
    let rest : Sum ℕ = c.pop.new.self.items in
    let n : ℕ = c.args.number in
    let t : ℕ = c.in-Some.times in
    let before : c.args.marks.now.items ≡ rest ++ (n, t) ∷ [] = c.in-Some.ensures.items ∙ ap (λ (k : ℕ). rest ++ (k, t) ∷ []) c.if-last-number.true in
    let behind : c.push-then-last-number.new.self.items ≡ rest ++ (n, (t + 1) % (2 ^ 64)) ∷ [] = c.in_ok-push-in-Some.ensures.items in
    subst (λ z. SameTotals z (c.args.marks.now.items ++ (n, 1) ∷ [])) (sym behind) (subst (λ z. SameTotals (rest ++ (n, (t + 1) % (2 ^ 64)) ∷ []) (z ++ (n, 1) ∷ [])) (sym before) (last_counted rest n t))

use Rattle.std.proofs.Common.{◌≡◌, ◌∙◌, ap, sym, subst, take, ◌++◌, ◌∷◌, [], ◌+◌}
use Rattle.ca_resolve.specs.clauses.Index.{IsIndex}
use Rattle.ca_resolve.proofs.Index.{inserted, index_new, index_kept, names_more, names_count, names_of}
use Rattle.ca_resolve.proofs.names.Names.new.Goals as goal
use Rattle.ca_resolve.proofs.names.Names.new.Goals.{then-not-contains_key+in-Ok+in_ok-insert, else-not-contains_key}

pub loop-i-preserved : goal.loop-i-preserved
loop-i-preserved c =
    let xs = c.deref-name-items.result.now in
    let i = c.loop-i.i in
    let x = c.name-item.result in
    let bs = c.as_bytes.result.now in
    let more : names_of (take (i + 1) xs) ≡ names_of (take i xs) ++ bs ∷ [] = names_more xs i x c.loop-i-test.true c.name-item.is ∙ ap (λ n. names_of (take i xs) ++ n ∷ []) (sym c.as_bytes.ensures) in
    elim c.if-not-contains_key.branch [
      | then-not-contains_key+in-Ok+in_ok-insert w ↦
          let cs = w.as_bytes-then-not-contains_key.result.now in
          let same : cs ≡ bs = w.as_bytes-then-not-contains_key.ensures ∙ sym c.as_bytes.ensures in
          subst (IsIndex c.if-not-contains_key.numbers) (sym more)
          (subst (λ m. IsIndex m (names_of (take i xs) ++ bs ∷ [])) (sym w.numbers-is)
          (index_new c.loop-i.numbers w.insert.new.self (names_of (take i xs)) bs i (names_count xs i c.loop-i-test.true) c.loop-i.invariant (sym c.contains_key.ensures ∙ w.if-not-contains_key.true)
          (inserted c.loop-i.numbers w.insert.new.self bs cs i w.in-Ok.number same w.in-Ok.ensures.1 w.in_ok-insert.ensures.updates)))
      | else-not-contains_key w ↦
          subst (IsIndex c.if-not-contains_key.numbers) (sym more)
          (subst (λ m. IsIndex m (names_of (take i xs) ++ bs ∷ [])) (sym w.numbers-is)
          (index_kept c.loop-i.numbers (names_of (take i xs)) bs c.loop-i.invariant (sym c.contains_key.ensures ∙ w.if-not-contains_key.false)))
    ]

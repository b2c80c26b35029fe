use Rattle.std.proofs.Common.{◌≡◌, ℕ, ◌+◌, ◌-◌, ◌++◌, List, [], length, take, drop, Result, Err, Vec, sym, ap, ◌∙◌, subst, arith, append-nil, length-drop, take_all}
use Rattle.ca_tree.specs.declared.name.Place.{Place}
use Rattle.ca_erase.specs.declared.EraseError.{EraseError}
use Rattle.ca_erase.specs.declared.EraseError.TheVariants.{BadMark}
use Rattle.ca_erase.specs.BadMarks.{FirstBadMark}
use Rattle.ca_erase.specs.clauses.Fronts.{Step, IsBadMark}
use Rattle.ca_erase.proofs.Steps.{Sofar, one_further, all_erased, refused_here}
use Rattle.ca_erase.proofs.erase.Goals as goal

rest_is : (s : List ℕ) (k : ℕ) → take (length s - k) (drop k s) ≡ drop k s
rest_is s k = take_all (length s - k) (drop k s) (omega (arith, length-drop k s))

same_place : {A : Type 0} {p q : Place} → ◌≡◌ {A = Result A EraseError} (Err (BadMark p)) (Err (BadMark q)) → p ≡ q
same_place e = cc

pub returns-in-BadMark-clause-bad_mark : goal.returns-in-BadMark-clause-bad_mark
returns-in-BadMark-clause-bad_mark c = λ p e.
    let text = c.args.text.now in
    let bad : IsBadMark (drop c.fronts.start text) = subst IsBadMark (rest_is text c.fronts.start) c.in-BadMark.ensures in
    subst (FirstBadMark text) (sym c.end_place.ensures ∙ same_place e) (refused_here text c.fronts.start c.fronts.out.items c.fronts.invariant.sofar bad)

pub fronts-preserved-in-Left : goal.fronts-preserved-in-Left
fronts-preserved-in-Left c =
    let text = c.args.text.now in
    let n = c.in-Left.len in
    let one : Step (drop c.fronts.start text) n [] = subst (λ z. Step z n []) (rest_is text c.fronts.start) c.in-Left.ensures in
    record {
      within = omega (arith, one.fits, length-drop c.fronts.start text, c.fronts.invariant.within);
      sofar = subst (Sofar text (c.fronts.start + n)) (append-nil c.fronts.out.items) (one_further text c.fronts.start n c.fronts.out.items [] c.fronts.invariant.sofar one);
    }

pub fronts-preserved : goal.fronts-preserved
fronts-preserved c =
    let text = c.args.text.now in
    let n = c.in-Kept.len in
    let one : Step (drop c.fronts.start text) n (take n (drop c.fronts.start text)) = subst (λ z. Step z n (take n z)) (rest_is text c.fronts.start) c.in-Kept.ensures in
    record {
      within = omega (arith, one.fits, length-drop c.fronts.start text, c.fronts.invariant.within);
      sofar = subst (Sofar text (c.fronts.start + n)) (sym (c.in_ok-extend_from_slice-in-Kept.ensures.items ∙ ap (λ z. c.fronts.out.items ++ take n z) (rest_is text c.fronts.start))) (one_further text c.fronts.start n c.fronts.out.items (take n (drop c.fronts.start text)) c.fronts.invariant.sofar one);
    }

pub returns-clause-erased : goal.returns-clause-erased
returns-clause-erased c = all_erased c.args.text.now c.fronts.start c.fronts.out.items (omega (arith, c.fronts-test.false)) c.fronts.invariant.sofar

-- The numbers of a seed and the lines of links, one behind the other.
use Rattle.std.proofs.Common.{◌≡◌, ℕ, suc, ◌+◌, ◌*◌, ◌%◌, List, [], ◌++◌, refl, ap, ◌∙◌, append_assoc, arith}
use Rattle.ca_gen.specs.Generated.{next, drawn, node_of, left_of, right_of, link_line, link_lines, node_class, table_begin, fill_begin, table_end, main_begin, text_before}
use Rattle.std.specs.Prelude.{decimal}

pub drawn_left : (seed i : ℕ) → next (drawn seed (2 * i)) ≡ drawn seed (2 * i + 1)
unfolding drawn
drawn_left seed i = let n : suc (2 * i) ≡ 2 * i + 1 = omega arith in ap (drawn seed) n

pub drawn_right : (seed i : ℕ) → next (drawn seed (2 * i + 1)) ≡ drawn seed (2 * i + 2)
unfolding drawn
drawn_right seed i = let n : suc (2 * i + 1) ≡ 2 * i + 2 = omega arith in ap (drawn seed) n

pub drawn_on : (seed i : ℕ) → drawn seed (2 * i + 2) ≡ drawn seed (2 * (i + 1))
drawn_on seed i = let n : 2 * i + 2 ≡ 2 * (i + 1) = omega arith in ap (drawn seed) n

pub first_drawn : (seed : ℕ) → seed % 2147483648 ≡ drawn seed (2 * 0)
unfolding drawn
first_drawn seed = refl

pub no_lines : (seed size : ℕ) → link_lines seed size 0 ≡ []
unfolding link_lines
no_lines seed size = refl

-- the lines with that of one node more
pub more_lines : (seed size i : ℕ) → link_lines seed size i ++ link_line i (left_of seed size i) (right_of seed size i) ≡ link_lines seed size (i + 1)
unfolding link_lines
more_lines seed size i = let n : suc i ≡ i + 1 = omega arith in ap (link_lines seed size) n

-- a text with the links so far, and with that of one node more, whose nodes were drawn
pub linked : (seed size i x y z : ℕ) (before old new : List ℕ) → x ≡ drawn seed (2 * i) → y ≡ next x → z ≡ next y
    → old ≡ before ++ link_lines seed size i → new ≡ old ++ link_line i (node_of size y) (node_of size z) → new ≡ before ++ link_lines seed size (i + 1)
linked seed size i x y z before old new first second third had has =
    let left : y ≡ drawn seed (2 * i + 1) = second ∙ ap next first ∙ drawn_left seed i in
    let right : z ≡ drawn seed (2 * i + 2) = third ∙ ap next left ∙ drawn_right seed i in
    has ∙ ap (λ t. t ++ link_line i (node_of size y) (node_of size z)) had
    ∙ append_assoc before (link_lines seed size i) (link_line i (node_of size y) (node_of size z))
    ∙ ap (λ l. before ++ (link_lines seed size i ++ link_line i (node_of size l) (node_of size z))) left
    ∙ ap (λ r. before ++ (link_lines seed size i ++ link_line i (left_of seed size i) (node_of size r))) right
    ∙ ap (λ t. before ++ t) (more_lines seed size i)

-- the number that is drawn twice further
pub drawn_twice : (seed i x y z : ℕ) → x ≡ drawn seed (2 * i) → y ≡ next x → z ≡ next y → z ≡ drawn seed (2 * (i + 1))
drawn_twice seed i x y z first second third =
    third ∙ ap next (second ∙ ap next first ∙ drawn_left seed i) ∙ drawn_right seed i ∙ drawn_on seed i

-- the text of its classes, which were added one behind the other
pub with_classes : (size : ℕ) (old a b c d new : List ℕ) → a ≡ old ++ node_class → b ≡ a ++ (table_begin ++ decimal size) → c ≡ b ++ (fill_begin ++ decimal size)
    → d ≡ c ++ table_end → new ≡ d ++ main_begin → new ≡ old ++ text_before size
with_classes size old a b c d new first second third fourth last =
    last ∙ ap (λ t. t ++ main_begin) (fourth ∙ ap (λ t. t ++ table_end) (third ∙ ap (λ t. t ++ (fill_begin ++ decimal size)) (second ∙ ap (λ t. t ++ (table_begin ++ decimal size)) first)))
    ∙ simp append_assoc refl

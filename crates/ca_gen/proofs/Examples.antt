-- Worked examples of the numbers of a seed, and of the lines of links.
use Rattle.std.proofs.Common.{◌≡◌, codes, refl}
use Rattle.std.specs.Fmt.{digits}
use Rattle.ca_gen.specs.Generated.{drawn, left_of, right_of, link_lines, generated, text_with}

first_drawn : drawn 7 1 ≡ 1282168116
unfolding drawn
first_drawn = refl

third_drawn : drawn 7 3 ≡ 712265938
unfolding drawn
third_drawn = refl

sixth_drawn : drawn 7 6 ≡ 220562521
unfolding drawn
sixth_drawn = refl

-- a seed counts modulo 2 ^ 31
far_seed : drawn 2147483655 6 ≡ drawn 7 6
unfolding drawn
far_seed = refl

left_of_the_first : left_of 7 3 0 ≡ 1
unfolding drawn
left_of_the_first = refl

right_of_the_first : right_of 7 3 0 ≡ 2
unfolding drawn
right_of_the_first = refl

three_links : link_lines 7 3 3 ≡ codes "  t->link(0, 1, 2);\n  t->link(1, 2, 0);\n  t->link(2, 2, 2);\n"
unfolding digits drawn link_lines
three_links = refl

-- a text of one node, which is linked to itself
one_node : generated 0 1 ≡ text_with 1 (codes "  t->link(0, 0, 0);\n")
unfolding digits drawn link_lines generated
one_node = refl

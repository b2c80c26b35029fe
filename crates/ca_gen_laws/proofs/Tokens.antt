-- The tokens of a generated text.
use Rattle.std.proofs.Common.{◌≡◌, ℕ, zero, suc, ◌+◌, ◌*◌, ◌<◌, ◌≤◌, List, [], ◌∷◌, ◌++◌, length, false, refl, sym, ap, ◌∙◌, subst, append_assoc, arith}
use Rattle.std.specs.Prelude.{Some, pos, codes, decimal}
use Rattle.std.specs.Char.{is_ascii_digit}
use Rattle.std.proofs.lemmas.Fmt.{length-decimal-le}
use Rattle.std.proofs.lemmas.List.{length-append}
use Rattle.ca_tree.specs.declared.name.Place.{Place}
use Rattle.ca_tree.specs.declared.token.Kind.{Kind}
use Rattle.ca_tree.specs.declared.token.Kind.TheVariants.{Number}
use Rattle.ca_tree.specs.declared.token.Token.{Token}
use Rattle.ca_lex.specs.Bytes.{is_letter}
use Rattle.ca_lex.specs.Places.{start}
use Rattle.ca_lex.specs.Tokens.{Tokens, TokensFrom, at_end}
use Rattle.ca_gen.specs.Generated.{left_of, right_of, link_line, node_class, table_begin, fill_begin, table_end, main_begin, main_end, text_before, generated}
use Rattle.ca_gen_laws.proofs.Chunks.{scan, spread, Chunk, chunk_of, chunk_before, digits_first, number_chunk, joined, length_spread}
use Rattle.ca_gen_laws.proofs.Scans.{node_kinds, table_begin_kinds, fill_begin_kinds, table_end_kinds, main_begin_kinds, main_end_kinds, link_begin_kinds, comma_kinds, link_end_kinds, table_kinds, link_kinds, scan_node, scan_table_begin, scan_fill_begin, scan_table_end, scan_main_begin, scan_main_end, scan_link_begin, scan_comma, scan_link_end}
use Rattle.ca_gen_laws.proofs.MainTree.{Link, link_tokens, text_tokens}
use Rattle.ca_gen_laws.proofs.LinkLines.{lines_from, line_of, same_lines, left_below, right_below, short_lines, short_link}

-- chunks wherever they begin
abbrev Chunks : List ℕ → List Kind → List ℕ → Type 0
Chunks s ks r = (p : Place) (m : ℕ) → Chunk s ks r p m

joins : {s r u : List ℕ} {ks ls : List Kind} → Chunks s ks r → Chunks r ls u → Chunks s (ks ++ ls) u
joins a b p m = let c = a p m in joined c (b c.q c.m)

fixed : (n : ℕ) (text : List ℕ) (ks : List Kind) (rest : List ℕ) → scan n (text ++ rest) ≡ Some (ks, rest) → Chunks (text ++ rest) ks rest
fixed n text ks rest scans p m = chunk_of n (text ++ rest) ks rest p m scans

-- text that stands before a number
before : (n : ℕ) (text : List ℕ) (ks : List Kind) (v : ℕ) (rest : List ℕ) → v ≤ 20000
    → ((d : ℕ) (more : List ℕ) → scan n (text ++ (d ∷ more)) ≡ Some (ks, d ∷ more)) → Chunks (text ++ (decimal v ++ rest)) ks (decimal v ++ rest)
before n text ks v rest small scans p m = chunk_before n text ks (decimal v ++ rest) p m (digits_first v rest small) scans

a_number : (v g : ℕ) (rest : List ℕ) → v ≤ 20000 → is_ascii_digit g ≡ false → is_letter g ≡ false → Chunks (decimal v ++ (g ∷ rest)) (Number (pos v) ∷ []) (g ∷ rest)
a_number v g rest small no_digit no_letter p m = number_chunk v g rest p m small no_digit no_letter

-- a line of a link

module _ (i l r : ℕ) (rest : List ℕ) where
  abbrev third : List ℕ
  third = decimal r ++ (codes ");\n" ++ rest)

  abbrev second : List ℕ
  second = decimal l ++ (codes ", " ++ third)

  abbrev first : List ℕ
  first = decimal i ++ (codes ", " ++ second)

  line_split : link_line i l r ++ rest ≡ codes "  t->link(" ++ first
  line_split = simp append_assoc refl

  link_chunk : i ≤ 20000 → l ≤ 20000 → r ≤ 20000 → Chunks (link_line i l r ++ rest) (link_kinds i l r) rest
  link_chunk a b c =
      subst (λ z. Chunks z (link_kinds i l r) rest) (sym line_split)
      (joins (before 6 (codes "  t->link(") link_begin_kinds i (codes ", " ++ second) a scan_link_begin)
      (joins (a_number i 44 (32 ∷ second) a refl refl)
      (joins (fixed 2 (codes ", ") comma_kinds second (scan_comma second))
      (joins (a_number l 44 (32 ∷ third) b refl refl)
      (joins (fixed 2 (codes ", ") comma_kinds third (scan_comma third))
      (joins (a_number r 41 (59 ∷ (10 ∷ rest)) c refl refl)
      (fixed 3 (codes ");\n") link_end_kinds rest (scan_link_end rest))))))))

-- links of the nodes from i on, each to two nodes that there are
abbrev pub Linked : ℕ → ℕ → List Link → Type 0
Linked size i [] = i ≡ size
Linked size i (x ∷ xs) = (x.node ≡ i) × ((x.left < size) × ((x.right < size) × Linked size (suc i) xs))

-- The text s is lines of such links and then r.
record LinkChunk (s r : List ℕ) (size i : ℕ) (p : Place) (n : ℕ) : Type 0 where
  pub links : List Link
  pub are : Linked size i links
  pub q : Place
  pub m : ℕ
  pub on : (ts : List Token) → TokensFrom q m r ts → TokensFrom p n s (link_tokens links ts)

module _ (seed size : ℕ) (some : 1 ≤ size) (most : size ≤ 20000) where
  abbrev line : ℕ → List ℕ
  line = line_of seed size

  links_chunk : (r : List ℕ) (i n : ℕ) (p : Place) (m : ℕ) → i + n ≡ size → LinkChunk (lines_from line i n ++ r) r size i p m
  links_chunk r i zero p m is = record { links = []; are = omega (arith, is); q = p; m = m; on = λ ts t. t }
  links_chunk r i (suc n) p m is =
      let left = left_of seed size i in
      let right = right_of seed size i in
      let left_small : left < size = left_below seed size i some in
      let right_small : right < size = right_below seed size i some in
      let c = link_chunk i left right (lines_from line (suc i) n ++ r) (omega (arith, is, most)) (omega (arith, left_small, most)) (omega (arith, right_small, most)) p m in
      let d = links_chunk r (suc i) n c.q c.m (omega (arith, is)) in
      let one : Link = record { node = i; left = left; right = right; f = c.f } in
      record {
        links = one ∷ d.links;
        are = (refl, (left_small, (right_small, d.are)));
        q = d.q;
        m = d.m;
        on = λ ts t. subst (λ z. TokensFrom p m z (link_tokens (one ∷ d.links) ts)) (sym (append_assoc (line i) (lines_from line (suc i) n) r)) (c.on (link_tokens d.links ts) (d.on ts t));
      }

  -- the parts of the text

  abbrev main_rest : List ℕ
  main_rest = lines_from line 0 size ++ (main_end ++ [])

  abbrev rest_5 : List ℕ
  rest_5 = table_end ++ (main_begin ++ main_rest)

  abbrev rest_3 : List ℕ
  rest_3 = fill_begin ++ (decimal size ++ rest_5)

  abbrev split_text : List ℕ
  split_text = node_class ++ (table_begin ++ (decimal size ++ rest_3))

  text_is : generated seed size ≡ split_text
  unfolding generated main_end
  text_is = ap (λ z. text_before size ++ (z ++ main_end)) (same_lines seed size size) ∙ simp append_assoc refl

  table_number : Chunks (decimal size ++ rest_3) (Number (pos size) ∷ []) rest_3
  unfolding fill_begin
  table_number = a_number size 93 _ most refl refl

  bound_number : Chunks (decimal size ++ rest_5) (Number (pos size) ∷ []) rest_5
  unfolding table_end
  bound_number = a_number size 59 _ most refl refl

  table_chunk : Chunks (table_begin ++ (decimal size ++ rest_3)) (table_kinds size) (main_begin ++ main_rest)
  table_chunk =
      joins (before 16 table_begin table_begin_kinds size rest_3 most scan_table_begin)
      (joins table_number
      (joins (fixed 33 fill_begin fill_begin_kinds (decimal size ++ rest_5) (scan_fill_begin (decimal size ++ rest_5)))
      (joins bound_number (fixed 85 table_end table_end_kinds (main_begin ++ main_rest) (scan_table_end (main_begin ++ main_rest))))))

  -- The text has these tokens.
  pub record HasText : Type 0 where
    pub a : ℕ → Token
    pub b : ℕ → Token
    pub f : ℕ → Token
    pub links : List Link
    pub h : ℕ → Token
    pub are : Linked size 0 links
    pub tokens : Tokens (generated seed size) (text_tokens size a b f links h)

  pub has_text : HasText
  has_text =
      let c = fixed 199 node_class node_kinds (table_begin ++ (decimal size ++ rest_3)) (scan_node (table_begin ++ (decimal size ++ rest_3))) start 0 in
      let d = table_chunk c.q c.m in
      let e = fixed 33 main_begin main_begin_kinds main_rest (scan_main_begin main_rest) d.q d.m in
      let l = links_chunk (main_end ++ []) 0 size e.q e.m (omega arith) in
      let z = fixed 24 main_end main_end_kinds [] (scan_main_end []) l.q l.m in
      let last = spread z.f main_end_kinds [] in
      let linked = link_tokens l.links last in
      let in_main = spread e.f main_begin_kinds linked in
      let in_table = spread d.f (table_kinds size) in_main in
      record {
        a = c.f;
        b = d.f;
        f = e.f;
        links = l.links;
        h = z.f;
        are = l.are;
        tokens = subst (λ s. Tokens s (text_tokens size c.f d.f e.f l.links z.f)) (sym text_is)
            (c.on in_table (d.on in_main (e.on linked (l.on last (z.on [] at_end)))));
      }

  -- the text is short enough

  five : length (decimal size) ≤ 5
  five = length-decimal-le 5 size (omega arith) (omega (arith, most)) (omega (arith, most))

  sum : (x y : List ℕ) (m n : ℕ) → length x ≤ m → length y ≤ n → length (x ++ y) ≤ m + n
  sum x y m n p q = omega (arith, length-append x y, p, q)

  pub short_text : length (generated seed size) ≤ 1048576
  unfolding node_class table_begin fill_begin table_end main_begin main_end
  short_text =
      let lines = short_lines line 0 size (λ j h. short_link seed size j some most (omega (arith, h))) in
      let r6 = sum (lines_from line 0 size) (main_end ++ []) (32 * size) 36 lines (omega arith) in
      let r5 = sum main_begin main_rest 52 (32 * size + 36) (omega arith) r6 in
      let r4 = sum table_end (main_begin ++ main_rest) 113 (52 + (32 * size + 36)) (omega arith) r5 in
      let r3 = sum (decimal size) rest_5 5 (113 + (52 + (32 * size + 36))) five r4 in
      let r2 = sum fill_begin (decimal size ++ rest_5) 44 (5 + (113 + (52 + (32 * size + 36)))) (omega arith) r3 in
      let r1 = sum (decimal size) rest_3 5 (44 + (5 + (113 + (52 + (32 * size + 36))))) five r2 in
      let r0 = sum table_begin (decimal size ++ rest_3) 33 (5 + (44 + (5 + (113 + (52 + (32 * size + 36)))))) (omega arith) r1 in
      let whole = sum node_class (table_begin ++ (decimal size ++ rest_3)) 315 (33 + (5 + (44 + (5 + (113 + (52 + (32 * size + 36))))))) (omega arith) r0 in
      omega (arith, whole, most, ap length text_is)

-- the tokens are few enough

pub linked_length : (size i : ℕ) (links : List Link) → Linked size i links → i + length links ≡ size
linked_length size i [] are = omega (arith, are)
linked_length size i (x ∷ xs) are = omega (arith, linked_length size (suc i) xs are.1.1.1)

pub linked_below : (size i : ℕ) (links : List Link) → Linked size i links → i ≤ size
linked_below size i links are = omega (arith, linked_length size i links are)

links_length : (links : List Link) (ts : List Token) → length (link_tokens links ts) ≡ 11 * length links + length ts
links_length [] ts = omega arith
links_length (x ∷ xs) ts =
    let n : length (link_kinds x.node x.left x.right) ≡ 11 = refl in
    omega (arith, length_spread (link_kinds x.node x.left x.right) x.f (link_tokens xs ts), n, links_length xs ts)

pub few_tokens : (size : ℕ) (a b f : ℕ → Token) (links : List Link) (h : ℕ → Token) → size ≤ 20000 → Linked size 0 links → length (text_tokens size a b f links h) ≤ 262144
few_tokens size a b f links h most are =
    let n1 : length node_kinds ≡ 89 = refl in
    let n2 : length (table_kinds size) ≡ 80 = refl in
    let n3 : length main_begin_kinds ≡ 20 = refl in
    let n4 : length main_end_kinds ≡ 16 = refl in
    let t4 = spread h main_end_kinds [] in
    let t3 = link_tokens links t4 in
    let t2 = spread f main_begin_kinds t3 in
    let t1 = spread b (table_kinds size) t2 in
    omega (arith, most, length_spread node_kinds a t1, length_spread (table_kinds size) b t2, length_spread main_begin_kinds f t3, links_length links t4, length_spread main_end_kinds h [], linked_length size 0 links are, n1, n2, n3, n4)

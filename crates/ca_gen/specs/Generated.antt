-- The text that a seed and a size give: a table of so many nodes, each linked to two nodes that are drawn from the seed,
-- and a visit that begins at the first node.
use Rattle.std.specs.Prelude.{ℕ, zero, suc, ◌+◌, ◌*◌, ◌/◌, ◌%◌, List, [], ◌++◌, codes, decimal}

-- the number behind another, modulo 2 ^ 31
abbrev pub next : ℕ → ℕ
next x = (1103515245 * x + 12345) % 2147483648

-- the numbers of a seed, of which the seed itself gives the one of place 0
unfoldable pub drawn : ℕ → ℕ → ℕ
drawn seed zero = seed % 2147483648
drawn seed (suc k) = next (drawn seed k)

-- a node below the size, by the quotient of a number by 2 ^ 16
abbrev pub node_of : ℕ → ℕ → ℕ
node_of size x = x / 65536 % size

-- the two nodes to which node i is linked
abbrev pub left_of : ℕ → ℕ → ℕ → ℕ
left_of seed size i = node_of size (drawn seed (2 * i + 1))

abbrev pub right_of : ℕ → ℕ → ℕ → ℕ
right_of seed size i = node_of size (drawn seed (2 * i + 2))

-- the line that links node i to the nodes l and r
abbrev pub link_line : ℕ → ℕ → ℕ → List ℕ
link_line i l r = codes "  t->link(" ++ (decimal i ++ (codes ", " ++ (decimal l ++ (codes ", " ++ (decimal r ++ codes ");\n")))))

-- the lines of the first n nodes
unfoldable pub link_lines : ℕ → ℕ → ℕ → List ℕ
link_lines seed size zero = []
link_lines seed size (suc n) = link_lines seed size n ++ link_line n (left_of seed size n) (right_of seed size n)

-- the parts of the text between which its numbers and its links stand

unfoldable pub node_class : List ℕ
node_class = codes "class Node {\npublic:\n  bool mark;\n  long value;\n  long sum;\n  Node *left;\n  Node *right;\n  void set(long v, Node *l, Node *r) {\n    value = v;\n    left = l;\n    right = r;\n  }\n  void visit(long p) {\n    sum += p;\n    if (!mark) {\n      mark = true;\n      left->visit(value);\n      right->visit(value);\n    }\n  }\n};\n"

unfoldable pub table_begin : List ℕ
table_begin = codes "class Table {\npublic:\n  Node *at["

unfoldable pub fill_begin : List ℕ
fill_begin = codes "];\n  void fill() {\n    for (long i = 0; i < "

unfoldable pub table_end : List ℕ
table_end = codes "; i++) at[i] = new Node();\n  }\n  void link(long i, long l, long r) {\n    at[i]->set(i + 1, at[l], at[r]);\n  }\n};\n"

unfoldable pub main_begin : List ℕ
main_begin = codes "int main() {\n  Table *t = new Table();\n  t->fill();\n"

unfoldable pub main_end : List ℕ
main_end = codes "  t->at[0]->visit(1);\n  return 0;\n}\n"

-- the text up to the links
abbrev pub text_before : ℕ → List ℕ
text_before size = node_class ++ (table_begin ++ (decimal size ++ (fill_begin ++ (decimal size ++ (table_end ++ main_begin)))))

-- the text with these lines of links
abbrev pub text_with : ℕ → List ℕ → List ℕ
text_with size links = text_before size ++ (links ++ main_end)

unfoldable pub generated : ℕ → ℕ → List ℕ
generated seed size = text_with size (link_lines seed size size)

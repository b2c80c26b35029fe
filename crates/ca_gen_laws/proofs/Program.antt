-- The program of a generated text.
use Rattle.std.proofs.Common.{◌≡◌, ℕ, ◌≤◌, true, false, List, [], ◌∷◌, ◌++◌, map, refl, ap, ◌∙◌, arith}
use Rattle.std.specs.Prelude.{Some, None, pos, codes, int_lt, int_le}
use Rattle.std.proofs.lemmas.Bool.{lt-leb, le-ltb}
use Rattle.ca_tree.specs.declared.token.Token.{Token}
use Rattle.ca_tree.specs.declared.tree.AssignOp.TheVariants.{Put, Add}
use Rattle.ca_tree.specs.declared.tree.UnaryOp.TheVariants.{Not}
use Rattle.ca_tree.specs.declared.tree.BinaryOp.TheVariants.{Less, Plus}
use Rattle.ca_tree.specs.Plain.{ClassTree, TextTree}
use Rattle.ca_program.specs.declared.program.ClassId.{ClassId}
use Rattle.ca_program.specs.declared.program.FieldId.{FieldId}
use Rattle.ca_program.specs.declared.program.OpId.{OpId}
use Rattle.ca_program.specs.declared.program.LocalId.{LocalId}
use Rattle.ca_program.specs.declared.program.ValueType.TheVariants.{Long as LongType, Bool as BoolType, Pointer as PointerType}
use Rattle.ca_program.specs.declared.program.FirstPart.TheVariants.{Declares}
use Rattle.ca_program.specs.Plain.{PlainProgram, PlainClass, PlainMethod, Statement, Statements, number, truth, local, own, own_item, read_item, unary, binary, no_expressions, expression_and, block, put_local, put_field, new_local, new_item, invoke, if_else, for_loop, no_statements, statement_and}
use Rattle.ca_parse.specs.Grammar.{statements}
use Rattle.ca_resolve.specs.Judged.{Judged, fine, both, within}
use Rattle.ca_types.specs.Statements.{Env, behind, behind_all, judge_statements, statements_in}
use Rattle.ca_types.specs.Classes.{Parts, first_class, judge_classes, main_begin, program_of, judge}
use Rattle.ca_resolve.specs.Scopes.{classes_of}
use Rattle.ca_gen_laws.proofs.NodeTree.{node_tree}
use Rattle.ca_gen_laws.proofs.TableTree.{table_tree}
use Rattle.ca_gen_laws.proofs.MainTree.{Link, link_tree, begin_tree, visit_tree, text_tree}

-- the numbers of its classes, fields and operations

abbrev pub node : ClassId
node = record { 0 = 0 }

abbrev pub table : ClassId
table = record { 0 = 1 }

abbrev pub field : ClassId → ℕ → FieldId
field c n = record { class = c; field = n }

abbrev pub op : ℕ → OpId
op n = record { 0 = n }

abbrev pub the_local : ℕ → LocalId
the_local n = record { 0 = n }

-- its classes

abbrev node_plain : PlainClass
node_plain = record {
  name = codes "Node";
  fields =
      record { name = codes "mark"; ty = BoolType; length = None }
      ∷ record { name = codes "value"; ty = LongType; length = None }
      ∷ record { name = codes "sum"; ty = LongType; length = None }
      ∷ record { name = codes "left"; ty = PointerType node; length = None }
      ∷ record { name = codes "right"; ty = PointerType node; length = None } ∷ [];
}

abbrev table_plain : ℕ → PlainClass
table_plain size = record { name = codes "Table"; fields = record { name = codes "at"; ty = PointerType node; length = Some size } ∷ [] }

-- its operations, by the places in the text

abbrev pub set_body : (ℕ → Token) → Statements
set_body a =
    statement_and (put_field (a 37).at.line (field node 1) Put (local (the_local 0)))
    (statement_and (put_field (a 41).at.line (field node 3) Put (local (the_local 1)))
    (statement_and (put_field (a 45).at.line (field node 4) Put (local (the_local 2))) no_statements))

abbrev pub branch_body : (ℕ → Token) → Statements
branch_body a =
    statement_and (put_field (a 67).at.line (field node 0) Put (truth true))
    (statement_and (invoke (a 71).at.line (own (field node 3)) (op 1) (expression_and (own (field node 1)) no_expressions))
    (statement_and (invoke (a 78).at.line (own (field node 4)) (op 1) (expression_and (own (field node 1)) no_expressions)) no_statements))

abbrev pub visit_body : (ℕ → Token) → Statements
visit_body a =
    statement_and (put_field (a 57).at.line (field node 2) Add (local (the_local 0)))
    (statement_and (if_else (a 61).at.line (unary Not (own (field node 0))) (block (a 66).at.line (branch_body a)) (block (a 61).at.line no_statements)) no_statements)

abbrev pub fill_loop : ℕ → (ℕ → Token) → Statement
fill_loop size b =
    for_loop (b 17).at.line (record { 0 = 0 }) Declares
    (put_local (b 19).at.line (the_local 0) Put (number (pos 0)))
    (binary Less (local (the_local 0)) (number (pos size)))
    (put_local (b 28).at.line (the_local 0) Add (number (pos 1)))
    (new_item (b 31).at.line (field table 0) (local (the_local 0)) node)

abbrev pub link_body : (ℕ → Token) → Statements
link_body b =
    statement_and (invoke (b 55).at.line (own_item (field table 0) (local (the_local 0))) (op 0)
    (expression_and (binary Plus (local (the_local 0)) (number (pos 1)))
    (expression_and (own_item (field table 0) (local (the_local 1)))
    (expression_and (own_item (field table 0) (local (the_local 2))) no_expressions)))) no_statements

abbrev node_ops : (ℕ → Token) → List PlainMethod
node_ops a =
    record { class = node; name = codes "set"; params = 3; body = record { locals = LongType ∷ PointerType node ∷ PointerType node ∷ []; statements = set_body a }; result = None }
    ∷ record { class = node; name = codes "visit"; params = 1; body = record { locals = LongType ∷ []; statements = visit_body a }; result = None } ∷ []

abbrev table_ops : ℕ → (ℕ → Token) → List PlainMethod
table_ops size b =
    record { class = table; name = codes "fill"; params = 0; body = record { locals = LongType ∷ []; statements = statement_and (fill_loop size b) no_statements }; result = None }
    ∷ record { class = table; name = codes "link"; params = 3; body = record { locals = LongType ∷ LongType ∷ LongType ∷ []; statements = link_body b }; result = None } ∷ []

-- its `main`

abbrev pub link_plain : Link → Statement
link_plain x =
    invoke (x.f 0).at.line (local (the_local 0)) (op 3)
    (expression_and (number (pos x.node)) (expression_and (number (pos x.left)) (expression_and (number (pos x.right)) no_expressions)))

abbrev pub visit_plain : (ℕ → Token) → Statement
visit_plain h = invoke (h 0).at.line (read_item (local (the_local 0)) (field table 0) (number (pos 0))) (op 1) (expression_and (number (pos 1)) no_expressions)

abbrev pub begin_plain : (ℕ → Token) → Statement
begin_plain f = new_local (f 5).at.line (the_local 0) table

abbrev pub fill_plain : (ℕ → Token) → Statement
fill_plain f = invoke (f 14).at.line (local (the_local 0)) (op 2) no_expressions

abbrev pub main_plain : (ℕ → Token) → List Link → (ℕ → Token) → List Statement
main_plain f links h = begin_plain f ∷ fill_plain f ∷ (map link_plain links ++ visit_plain h ∷ [])

abbrev pub the_program : ℕ → (ℕ → Token) → (ℕ → Token) → Statements → PlainProgram
the_program size a b main = record {
  classes = node_plain ∷ table_plain size ∷ [];
  ops = node_ops a ++ table_ops size b;
  functions = [];
  main = record { locals = PointerType table ∷ []; statements = main };
}

-- what its classes resolve to

abbrev trees : ℕ → (ℕ → Token) → (ℕ → Token) → List ClassTree
trees size a b = node_tree a ∷ table_tree size b ∷ []

abbrev parts : ℕ → (ℕ → Token) → (ℕ → Token) → Parts
parts size a b = record { classes = node_plain ∷ table_plain size ∷ []; ops = node_ops a ++ table_ops size b; functions = [] }

not_long : (size : ℕ) → size ≤ 20000 → int_lt (pos 1000000) (pos size) ≡ false
not_long size most = le-ltb 1000000 size (omega (arith, most))

not_empty : (size : ℕ) → 1 ≤ size → int_le (pos size) (pos 0) ≡ false
not_empty size least = lt-leb size 0 (omega (arith, least))

module _ (size : ℕ) (a b : ℕ → Token) (least : 1 ≤ size) (most : size ≤ 20000) where
  classes_fine : judge_classes (first_class (classes_of (trees size a b))) (trees size a b) ≡ fine (parts size a b)
  classes_fine = rw (not_long size most, not_empty size least) refl

-- what `main` resolves to, where it stands behind the classes

module _ (size : ℕ) (a b f : ℕ → Token) (links : List Link) (h : ℕ → Token) where
  abbrev whole : TextTree
  whole = text_tree size a b f links h

  -- where its links stand
  abbrev within_main : Env
  within_main = behind (main_begin whole) (begin_tree f)

  -- statements behind one that is judged so
  abbrev behind_one : Statement → Judged (List Statement) → Judged (List Statement)
  behind_one x j = within (both (fine x) j) (λ (p : Statement × List Statement). fine (p.0 ∷ p.1))

  links_fine : (xs : List Link) → judge_statements within_main (statements (map link_tree xs ++ visit_tree h ∷ [])) ≡ fine (map link_plain xs ++ visit_plain h ∷ [])
  links_fine [] = refl
  links_fine (x ∷ xs) = ap (behind_one (link_plain x)) (links_fine xs)

  main_fine : judge_statements (main_begin whole) whole.main ≡ fine (main_plain f links h)
  main_fine = ap (λ j. behind_one (begin_plain f) (behind_one (fill_plain f) j)) (links_fine links)

  links_keep : (xs : List Link) → (behind_all within_main (statements (map link_tree xs ++ visit_tree h ∷ []))).locals ≡ PointerType table ∷ []
  links_keep [] = refl
  links_keep (x ∷ xs) = links_keep xs

  pub text_resolves : 1 ≤ size → size ≤ 20000 → judge whole ≡ fine (the_program size a b (statements_in (main_plain f links h)))
  text_resolves least most =
      let main = statements_in (main_plain f links h) in
      ap (λ j. within (both j (judge_statements (main_begin whole) whole.main)) (λ p. fine (program_of (behind_all (main_begin whole) whole.main).locals p))) (classes_fine size a b least most)
      ∙ ap (λ j. within (both (fine (parts size a b)) j) (λ p. fine (program_of (behind_all (main_begin whole) whole.main).locals p))) main_fine
      ∙ ap (λ l. fine (program_of l (parts size a b, main_plain f links h))) (links_keep links)

-- Bodies that heed marks, none of them a loop's, are those that heed none, with each row changed.
use Rattle.std.proofs.Common.{◌≡◌, ℕ, ◌+◌, Bool, true, false, List, [], ◌∷◌, ◌++◌, length, map, refl, sym, ap, ◌∙◌, subst}
use Rattle.std.specs.Prelude.{pos}
use Rattle.std.proofs.lemmas.List.{map-append, length-map}
use Rattle.ca_tree.specs.declared.tree.AssignOp.{AssignOp}
use Rattle.ca_tree.specs.declared.tree.AssignOp.TheVariants as change
use Rattle.ca_program.specs.declared.program.OpId.{OpId}
use Rattle.ca_program.specs.declared.program.ValueType.{ValueType}
use Rattle.ca_program.specs.Plain.{Expression, Expressions, number, truth, null, this, local, own, own_item, read, read_item, value_call, unary, binary, no_expressions, expression_and, Statement, Statements, block, put_local, put_field, put_item, new_local, new_field, new_item, invoke, if_else, while_loop, for_loop, return_value, print_value, no_statements, statement_and}
use Rattle.ca_program.specs.Lines.{line_of}
use Rattle.ca_program.specs.Kinds.{Kind, Kinds, kind_of, kind_type}
use Rattle.ca_program.specs.Instructions.{Constant, OwnItem, Field, Item, Unary, Binary, Update, Check, CheckItem, Decide, Jump, Unless, Turn, Call, Return, Leave, PutField, PutItem, NewItem, Print, Invoke, Placed, on}
use Rattle.ca_program.specs.Layout.{unless_local, stands, is_lazy, if_lazy, expression_code, expressions_code, operand_code, update_code, loop_code, statement_code, statements_code, all_acts, no_hands, starts_code, others_of, width_of, kinds_of}
use Rattle.ca_parallel.specs.Lists.{PlainMarks}
use Rattle.ca_code.specs.declared.ins.Ins.{Ins}
use Rattle.ca_code.specs.declared.ins.Ins.TheVariants as held
use Rattle.ca_code.specs.Seen.{row_of}
use Rattle.ca_code.specs.Texts.{IsCopied}
use Rattle.ca_code_laws.specs.Heeding.{heeding_call, heed_acts, heed_hands}
use Rattle.ca_serial.specs.clauses.Copies.{heeding_row}

module _ (marks : PlainMarks) where
  abbrev g : Placed → Placed
  g r = heeding_row marks r

  abbrev Same : List Placed → Type 0
  Same xs = map g xs ≡ xs

  both : (xs ys : List Placed) → Same xs → Same ys → Same (xs ++ ys)
  both xs ys v w = map-append g xs ys ∙ (ap (λ l. l ++ map g ys) v ∙ ap (λ l. xs ++ l) w)

  first : (x : Placed) (xs : List Placed) → g x ≡ x → Same xs → Same (x ∷ xs)
  first x xs v w = ap (λ y. y ∷ map g xs) v ∙ ap (λ l. x ∷ l) w

  where_lazy : (b : Bool) (x : Placed) (xs : List Placed) → g x ≡ x → Same xs → Same (if_lazy b x xs)
  where_lazy true x xs v w = first x xs v w
  where_lazy false x xs v w = w

  of_operand : (e : Expression) (xs : List Placed) → Same xs → Same (unless_local e xs)
  of_operand (number n) xs w = w
  of_operand (truth b) xs w = w
  of_operand null xs w = w
  of_operand this xs w = w
  of_operand (local l) xs w = refl
  of_operand (own f) xs w = w
  of_operand (own_item f i) xs w = w
  of_operand (read e f) xs w = w
  of_operand (read_item e f i) xs w = w
  of_operand (value_call e m es) xs w = w
  of_operand (unary op e) xs w = w
  of_operand (binary op a b) xs w = w

  mutual
    of_expression : (ks : Kinds) (line : ℕ) (e : Expression) (to top : ℕ) → Same (expression_code ks line e to top)
    of_expression ks line (number n) to top = refl
    of_expression ks line (truth b) to top = refl
    of_expression ks line null to top = refl
    of_expression ks line this to top = refl
    of_expression ks line (local l) to top = refl
    of_expression ks line (own f) to top = refl
    of_expression ks line (own_item f i) to top =
        both (unless_local i (expression_code ks line i top top)) (on line (OwnItem to (ks.field f) f (stands i top)) ∷ []) (of_operand i (expression_code ks line i top top) (of_expression ks line i top top)) refl
    of_expression ks line (read e f) to top =
        both (unless_local e (expression_code ks line e top top)) (on line (Field to (stands e top) (ks.field f) f) ∷ []) (of_operand e (expression_code ks line e top top) (of_expression ks line e top top)) refl
    of_expression ks line (read_item e f i) to top =
        let index = unless_local i (expression_code ks line i (top + 1) (top + 1)) in
        let item = on line (Item to (stands e top) (ks.field f) f (stands i (top + 1))) in
        both (unless_local e (expression_code ks line e top top)) (on line (Check (stands e top)) ∷ (index ++ item ∷ [])) (of_operand e (expression_code ks line e top top) (of_expression ks line e top top))
        (first (on line (Check (stands e top))) (index ++ item ∷ []) refl (both index (item ∷ []) (of_operand i (expression_code ks line i (top + 1) (top + 1)) (of_expression ks line i (top + 1) (top + 1))) refl))
    of_expression ks line (value_call e m es) to top =
        both (expression_code ks line e top top) (expressions_code ks line es (top + 1) ++ on line (Call m top to) ∷ []) (of_expression ks line e top top)
        (both (expressions_code ks line es (top + 1)) (on line (Call m top to) ∷ []) (of_expressions ks line es (top + 1)) refl)
    of_expression ks line (unary op e) to top =
        both (unless_local e (expression_code ks line e top top)) (on line (Unary to op (stands e top)) ∷ []) (of_operand e (expression_code ks line e top top) (of_expression ks line e top top)) refl
    of_expression ks line (binary op a b) to top =
        let right = unless_local b (expression_code ks line b (top + 1) (top + 1)) ++ on line (Binary to op (kind_of ks a) (kind_of ks b) (stands a top) (stands b (top + 1))) ∷ [] in
        let decide = on line (Decide to op (stands a top) (length right)) in
        both (unless_local a (expression_code ks line a top top)) (if_lazy (is_lazy op) decide right) (of_operand a (expression_code ks line a top top) (of_expression ks line a top top))
        (where_lazy (is_lazy op) decide right refl
        (both (unless_local b (expression_code ks line b (top + 1) (top + 1))) (on line (Binary to op (kind_of ks a) (kind_of ks b) (stands a top) (stands b (top + 1))) ∷ []) (of_operand b (expression_code ks line b (top + 1) (top + 1)) (of_expression ks line b (top + 1) (top + 1))) refl))

    of_expressions : (ks : Kinds) (line : ℕ) (es : Expressions) (top : ℕ) → Same (expressions_code ks line es top)
    of_expressions ks line no_expressions top = refl
    of_expressions ks line (expression_and e es) top =
        both (expression_code ks line e top top) (expressions_code ks line es (top + 1)) (of_expression ks line e top top) (of_expressions ks line es (top + 1))

  put_in_slot : (ks : Kinds) (line : ℕ) (e : Expression) (top : ℕ) → Same (operand_code ks line e top)
  put_in_slot ks line e top = of_operand e (expression_code ks line e top top) (of_expression ks line e top top)

  of_update : (ks : Kinds) (line l : ℕ) (op : AssignOp) (e : Expression) (top : ℕ) → Same (update_code ks line l op e top)
  of_update ks line l change.Put e top = of_expression ks line e l top
  of_update ks line l change.Add e top = both (operand_code ks line e top) (on line (Update l change.Add (ks.locals l) (stands e top)) ∷ []) (put_in_slot ks line e top) refl
  of_update ks line l change.Sub e top = both (operand_code ks line e top) (on line (Update l change.Sub (ks.locals l) (stands e top)) ∷ []) (put_in_slot ks line e top) refl
  of_update ks line l change.Mul e top = both (operand_code ks line e top) (on line (Update l change.Mul (ks.locals l) (stands e top)) ∷ []) (put_in_slot ks line e top) refl
  of_update ks line l change.BitAnd e top = both (operand_code ks line e top) (on line (Update l change.BitAnd (ks.locals l) (stands e top)) ∷ []) (put_in_slot ks line e top) refl
  of_update ks line l change.BitOr e top = both (operand_code ks line e top) (on line (Update l change.BitOr (ks.locals l) (stands e top)) ∷ []) (put_in_slot ks line e top) refl
  of_update ks line l change.BitXor e top = both (operand_code ks line e top) (on line (Update l change.BitXor (ks.locals l) (stands e top)) ∷ []) (put_in_slot ks line e top) refl

  -- two texts one behind the other
  joined : (xs ys us vs : List Placed) → map g xs ≡ us → map g ys ≡ vs → map g (xs ++ ys) ≡ us ++ vs
  joined xs ys us vs v w = map-append g xs ys ∙ (ap (λ l. l ++ map g ys) v ∙ ap (λ l. us ++ l) w)

  as_long : (xs us : List Placed) → map g xs ≡ us → length xs ≡ length us
  as_long xs us v = sym (length-map xs g) ∙ ap length v

  -- a jump past a text, and that text
  passed : (line : ℕ) (xs us rest now : List Placed) → map g xs ≡ us → map g rest ≡ now → map g (on line (Jump (length xs)) ∷ rest) ≡ on line (Jump (length us)) ∷ now
  passed line xs us rest now v w = ap (λ l. on line (Jump (length xs)) ∷ l) w ∙ ap (λ n. on line (Jump n) ∷ now) (as_long xs us v)

  of_loop : (ks : Kinds) (line : ℕ) (c : Expression) (xs us : List Placed) (top : ℕ) → map g xs ≡ us → map g (loop_code ks line c xs top) ≡ loop_code ks line c us top
  of_loop ks line c xs us top v =
      let test = operand_code ks line c top in
      joined xs (test ++ on line (Turn (stands c top) (length xs + length test)) ∷ []) us (test ++ on line (Turn (stands c top) (length us + length test)) ∷ []) v
      (joined test (on line (Turn (stands c top) (length xs + length test)) ∷ []) test (on line (Turn (stands c top) (length us + length test)) ∷ []) (put_in_slot ks line c top)
      (ap (λ n. on line (Turn (stands c top) (n + length test)) ∷ []) (as_long xs us v)))

-- with these operations marked, and no loop
module _ (os : List OpId) (ks : Kinds) (κs : List Kind) where
  abbrev ms : PlainMarks
  ms = record { ops = os; loops = [] }

  abbrev plain : ℕ → Statement → ℕ → List Placed
  plain line s top = statement_code ks (all_acts ks) no_hands line s top

  abbrev heeding : ℕ → Statement → ℕ → List Placed
  heeding line s top = statement_code ks (heed_acts ms ks) (heed_hands ms ks κs) line s top

  mutual
    of_statement : (line : ℕ) (s : Statement) (top : ℕ) → map (heeding_row ms) (plain line s top) ≡ heeding line s top
    of_statement line (block ln ss) top = of_statements ss top
    of_statement line (put_local ln l op e) top = of_update ms ks line l.0 op e top
    of_statement line (if_else ln c x y) top =
        let test = operand_code ks line c top in
        let past : map (heeding_row ms) (plain (line_of x) x top ++ (on line (Jump (length (plain (line_of y) y top))) ∷ plain (line_of y) y top)) ≡ heeding (line_of x) x top ++ (on line (Jump (length (heeding (line_of y) y top))) ∷ heeding (line_of y) y top) =
        joined ms (plain (line_of x) x top) (on line (Jump (length (plain (line_of y) y top))) ∷ plain (line_of y) y top) (heeding (line_of x) x top) (on line (Jump (length (heeding (line_of y) y top))) ∷ heeding (line_of y) y top) (of_statement (line_of x) x top)
        (passed ms line (plain (line_of y) y top) (heeding (line_of y) y top) (plain (line_of y) y top) (heeding (line_of y) y top) (of_statement (line_of y) y top) (of_statement (line_of y) y top)) in
        joined ms test (on line (Unless (stands c top) (length (plain (line_of x) x top) + 1)) ∷ (plain (line_of x) x top ++ (on line (Jump (length (plain (line_of y) y top))) ∷ plain (line_of y) y top))) test (on line (Unless (stands c top) (length (heeding (line_of x) x top) + 1)) ∷ (heeding (line_of x) x top ++ (on line (Jump (length (heeding (line_of y) y top))) ∷ heeding (line_of y) y top))) (put_in_slot ms ks line c top)
        (ap (λ l. on line (Unless (stands c top) (length (plain (line_of x) x top) + 1)) ∷ l) past
        ∙ ap (λ n. on line (Unless (stands c top) (n + 1)) ∷ (heeding (line_of x) x top ++ (on line (Jump (length (heeding (line_of y) y top))) ∷ heeding (line_of y) y top))) (as_long ms (plain (line_of x) x top) (heeding (line_of x) x top) (of_statement (line_of x) x top)))
    of_statement line (while_loop ln c b) top =
        passed ms line (plain (line_of b) b top) (heeding (line_of b) b top) (loop_code ks line c (plain (line_of b) b top) top) (loop_code ks line c (heeding (line_of b) b top) top) (of_statement (line_of b) b top)
        (of_loop ms ks line c (plain (line_of b) b top) (heeding (line_of b) b top) top (of_statement (line_of b) b top))
    of_statement line (for_loop ln site part begin c next b) top =
        let turn = plain (line_of b) b top ++ plain line next top in
        let turned = heeding (line_of b) b top ++ heeding line next top in
        let same : map (heeding_row ms) turn ≡ turned = joined ms (plain (line_of b) b top) (plain line next top) (heeding (line_of b) b top) (heeding line next top) (of_statement (line_of b) b top) (of_statement line next top) in
        joined ms (plain line begin top) (on line (Jump (length turn)) ∷ loop_code ks line c turn top) (heeding line begin top) (on line (Jump (length turned)) ∷ loop_code ks line c turned top) (of_statement line begin top)
        (passed ms line turn turned (loop_code ks line c turn top) (loop_code ks line c turned top) same (of_loop ms ks line c turn turned top same))
    of_statement line (return_value ln e) top = both ms (operand_code ks line e top) (on line (Return (stands e top)) ∷ []) (put_in_slot ms ks line e top) refl
    of_statement line (invoke ln e op es) top =
        joined ms (expression_code ks line e top top) (expressions_code ks line es (top + 1) ++ on line (Invoke op top) ∷ []) (expression_code ks line e top top) (expressions_code ks line es (top + 1) ++ on line (heeding_call ms op top) ∷ []) (of_expression ms ks line e top top)
        (joined ms (expressions_code ks line es (top + 1)) (on line (Invoke op top) ∷ []) (expressions_code ks line es (top + 1)) (on line (heeding_call ms op top) ∷ []) (of_expressions ms ks line es (top + 1)) refl)
    of_statement line (put_field ln f op e) top = both ms (operand_code ks line e top) (on line (PutField f op (kind_of ks e) (stands e top)) ∷ []) (put_in_slot ms ks line e top) refl
    of_statement line (put_item ln f i op e) top =
        let right = operand_code ks line e (top + 1) in
        let put = on line (PutItem f (stands i top) op (kind_of ks e) (stands e (top + 1))) in
        both ms (operand_code ks line i top) (on line (CheckItem f (stands i top)) ∷ (right ++ put ∷ [])) (put_in_slot ms ks line i top)
        (first ms (on line (CheckItem f (stands i top))) (right ++ put ∷ []) refl (both ms right (put ∷ []) (put_in_slot ms ks line e (top + 1)) refl))
    of_statement line (new_local ln l c) top = refl
    of_statement line (new_field ln f c) top = refl
    of_statement line (new_item ln f i c) top = both ms (operand_code ks line i top) (on line (NewItem f (stands i top) c) ∷ []) (put_in_slot ms ks line i top) refl
    of_statement line (print_value ln e) top = both ms (operand_code ks line e top) (on line (Print (kind_of ks e) (stands e top)) ∷ []) (put_in_slot ms ks line e top) refl

    of_statements : (ss : Statements) (top : ℕ) → map (heeding_row ms) (statements_code ks (all_acts ks) no_hands ss top) ≡ statements_code ks (heed_acts ms ks) (heed_hands ms ks κs) ss top
    of_statements no_statements top = refl
    of_statements (statement_and x rest) top =
        joined ms (plain (line_of x) x top) (statements_code ks (all_acts ks) no_hands rest top) (heeding (line_of x) x top) (statements_code ks (heed_acts ms ks) (heed_hands ms ks κs) rest top) (of_statement (line_of x) x top) (of_statements rest top)

of_starts : (marks : PlainMarks) (n : ℕ) (tys : List ValueType) → map (heeding_row marks) (starts_code n tys) ≡ starts_code n tys
of_starts marks n [] = refl
of_starts marks n (ty ∷ tys) = ap (λ l. on 0 (Constant n (pos 0)) ∷ l) (of_starts marks (n + 1) tys)

copied_so : (os : List OpId) → IsCopied (λ ks. heed_acts (record { ops = os; loops = [] }) ks) (λ ks κs. heed_hands (record { ops = os; loops = [] }) ks κs) (heeding_row (record { ops = os; loops = [] }))
copied_so os = λ p m.
    let marks : PlainMarks = record { ops = os; loops = [] } in
    let ks = kinds_of p m in
    let κs = map kind_type m.body.locals in
    let starts = starts_code m.params (others_of m) in
    let old = statements_code ks (all_acts ks) no_hands m.body.statements (width_of m) in
    let new = statements_code ks (heed_acts marks ks) (heed_hands marks ks κs) m.body.statements (width_of m) in
    sym (joined marks starts (old ++ on 0 Leave ∷ []) starts (new ++ on 0 Leave ∷ []) (of_starts marks m.params (others_of m))
    (joined marks old (on 0 Leave ∷ []) new (on 0 Leave ∷ []) (of_statements os ks κs m.body.statements (width_of m)) refl))

-- the bodies that heed marks among which there is no loop
pub is_copied : (marks : PlainMarks) → marks.loops ≡ [] → IsCopied (λ ks. heed_acts marks ks) (λ ks κs. heed_hands marks ks κs) (heeding_row marks)
is_copied marks none =
    subst (λ ls. IsCopied (λ ks. heed_acts (record { ops = marks.ops; loops = ls }) ks) (λ ks κs. heed_hands (record { ops = marks.ops; loops = ls }) ks κs) (heeding_row (record { ops = marks.ops; loops = ls }))) (sym none) (copied_so marks.ops)

-- a row that is no call of an operation
pub other_row : (marks : PlainMarks) (line : ℕ) (i : Ins) → ((a : _) (b : _) → i ≡ held.Invoke a b → ⊥) → row_of line i ≡ heeding_row marks (row_of line i)
other_row marks line (held.Constant d n) h = refl
other_row marks line (held.Receiver d) h = refl
other_row marks line (held.Move d a) h = refl
other_row marks line (held.Own d κ f) h = refl
other_row marks line (held.OwnItem d κ f a) h = refl
other_row marks line (held.Field d a κ f) h = refl
other_row marks line (held.Item d a κ f b) h = refl
other_row marks line (held.Unary d op a) h = refl
other_row marks line (held.Binary d op x y a b) h = refl
other_row marks line (held.Update l op κ a) h = refl
other_row marks line (held.Check a) h = refl
other_row marks line (held.CheckItem f a) h = refl
other_row marks line (held.Decide d op a n) h = refl
other_row marks line (held.Jump n) h = refl
other_row marks line (held.Unless a n) h = refl
other_row marks line (held.Turn a n) h = refl
other_row marks line (held.Call m first to) h = refl
other_row marks line (held.Return a) h = refl
other_row marks line held.Lack h = refl
other_row marks line held.Leave h = refl
other_row marks line (held.PutField f op κ a) h = refl
other_row marks line (held.PutItem f i op κ a) h = refl
other_row marks line (held.NewLocal l c) h = refl
other_row marks line (held.NewField f c) h = refl
other_row marks line (held.NewItem f i c) h = refl
other_row marks line (held.Print κ a) h = refl
other_row marks line (held.Invoke op first) h = absurd (h op first refl)
other_row marks line (held.Heed op first) h = refl
other_row marks line (held.Hand op first) h = refl
other_row marks line (held.Begin n s tys) h = refl

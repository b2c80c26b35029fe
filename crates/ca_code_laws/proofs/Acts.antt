-- Puts, creations, prints and calls of operations do what they mean in typed programs, however a world is accessed.
use Rattle.std.proofs.Common.{◌≡◌, ℕ, ◌+◌, ◌<◌, ◌≤◌, List, [], ◌∷◌, ◌++◌, length, ap, subst, arith, ◌⊎◌, inl, inr}
use Rattle.std.specs.Prelude.{slice_get}
use Rattle.std.proofs.lemmas.Option.{slice_get_within}
use Rattle.ca_program.specs.declared.program.ClassId.{ClassId}
use Rattle.ca_program.specs.declared.program.OpId.{OpId}
use Rattle.ca_program.specs.Plain.{Expression, Expressions, Statement, put_field, put_item, new_local, new_field, new_item, print_value, PlainProgram}
use Rattle.ca_model.specs.declared.value.Value.{Value as Datum}
use Rattle.ca_meaning.specs.Expressions.{gives, ◌>>=◌, pointed, Calls, eval, eval_all, Invocation, invocation, due}
use Rattle.ca_meaning.specs.Flows.{Flow, with}
use Rattle.ca_meaning.specs.Functions.{functions_of}
use Rattle.ca_program.specs.declared.program.ValueType.{ValueType}
use Rattle.ca_program.specs.declared.program.ValueType.TheVariants.{Long as LongType, Bool as BoolType, Pointer}
use Rattle.ca_model.specs.Typed.{HasType}
use Rattle.ca_meaning.specs.WellTyped.{ValuesTyped}
use Rattle.ca_meaning.specs.ProgramTyped.{Scope, IsOperation, ExpressionTyped, ExpressionsTyped, StatementTyped}
use Rattle.ca_meaning_laws.specs.Typed.{PlaceTyped}
use Rattle.ca_meaning_laws.proofs.Evals.{CallsTyped, eval_typed, all_typed}
use Rattle.ca_code_laws.specs.Words.{read_as}
use Rattle.ca_program.specs.Kinds.{Kind, kind_at, as_pointer, Kinds, kinds_in}
use Rattle.ca_program.specs.Instructions.{Instruction, Code, on, IsAt, HasAt}
use Rattle.ca_program.specs.Layout.{expression_code, expressions_code, all_acts, FunctionsLaidOut}
use Rattle.ca_code_laws.specs.Machine.{Store, Back, Accesses, State}
use Rattle.ca_code_laws.specs.Told.{Holds}
use Rattle.ca_code_laws.proofs.Steps.{Within, Flows}
use Rattle.ca_code_laws.proofs.Instead.{nothing_else, only}
use Rattle.ca_code_laws.proofs.Acted.{seen, act_by, ActParts, Operands, acts_do, calls_do}
use Rattle.ca_code_laws.proofs.Typed.{given, kind_is, arguments_fit, operation_params, slot_within}
use Rattle.ca_code_laws.proofs.Values.{CallsRun, operand_runs, expression_runs, expressions_runs}
use Rattle.ca_code_laws.proofs.Executed.{LocalsAt}

module _ {S : Type 0} (acc : Accesses S) (code : Code) (p : PlainProgram) (laid : FunctionsLaidOut p code) (sc : Scope) (Good : S → Type 0) (me : Datum) (below : List Back) (base n top : ℕ) (wide : length sc.locals ≡ top) (room_within : (line : ℕ) (x : S) (c : ClassId) (k : ℕ) → Within k (acc.room line x c k)) (calls_run : (x : S) → Good x → CallsRun acc code p laid x (functions_of p.functions (acc.heap x)).call n) (calls : (x : S) → Good x → CallsTyped p (acc.heap x) (functions_of p.functions (acc.heap x)).call) (places : (line : ℕ) (ls : List Datum) (x : S) → Good x → ValuesTyped (acc.heap x) ls sc.locals → PlaceTyped p sc (record { heap = acc.heap x; this = me; own = acc.own below x me; locals = ls; line = line })) where
  -- the kinds in the body
  abbrev pub ks : Kinds
  ks = kinds_in p sc.locals

  -- the kind of what it gives back
  abbrev pub ret : Kind
  ret = kind_at sc.result

  -- a good world, and typed locals
  abbrev pub Here : List Datum → S → Type 0
  Here ls x = Good x × ValuesTyped (acc.heap x) ls sc.locals

  abbrev pub there : ℕ → ℕ → Store → S → State S
  there at k f x = record { at = at; base = base; left = k; this = me; below = below; slots = f; world = x }

  -- the value methods that may be called
  abbrev calls_of : S → Calls
  calls_of x = (functions_of p.functions (acc.heap x)).call

  -- expressions of some type
  abbrev E : Expression → Type 0
  E e = (ty : ValueType) × ExpressionTyped p sc e ty

  abbrev Es : Expressions → Type 0
  Es es = (tys : List ValueType) × ExpressionsTyped p sc es tys

  operands : Operands acc calls_of me below code (nothing_else acc code) ks ret base n top E Es Here
  operands = record {
    within = λ e t. slot_within p sc e t.0 top t.1 (omega (arith, wide));
    room = room_within;
    operand = λ e t line free ls x at k f h len good le left holds.
        inr (operand_runs acc code p laid sc (there at k f x) (calls_of x) n (calls_run x good.0) (calls x good.0) e t.0 t.1 line free ls (places line ls x good.0 good.1) at k f h (omega (arith, len, le)) left holds);
    expression = λ e t line ls x at k f h len good left holds.
        inr (expression_runs acc code p laid sc (there at k f x) (calls_of x) n (calls_run x good.0) (calls x good.0) e t.0 t.1 line top top ls (places line ls x good.0 good.1) at k f h (omega (arith, len)) (omega arith) left holds);
    expressions = λ es t κs line ls x at k f h fits len good left holds.
        inr (expressions_runs acc code p laid sc (there at k f x) (calls_of x) n (calls_run x good.0) (calls x good.0) es t.0 t.1 κs line (top + 1) ls (places line ls x good.0 good.1) at k f h fits (omega (arith, len)) left holds);
  }

  abbrev pub Makes : Statement → Type 0
  Makes (put_field l f op e) = Unit {0}
  Makes (put_item l f i op e) = Unit {0}
  Makes (new_local l x c) = Unit {0}
  Makes (new_field l f c) = Unit {0}
  Makes (new_item l f i c) = Unit {0}
  Makes (print_value l e) = Unit {0}
  Makes other = ⊥

  printable : (e : Expression) → ExpressionTyped p sc e LongType ⊎ ExpressionTyped p sc e BoolType → (ty : ValueType) × ExpressionTyped p sc e ty
  printable e (inl t) = (LongType, t)
  printable e (inr t) = (BoolType, t)

  act_parts : (s : Statement) → Makes s → StatementTyped p sc s → ActParts ks top E s
  act_parts (put_field l y op e) is t = (t.0, t.3.1)
  act_parts (put_item l y i op e) is t = (kind_is p sc i LongType t.3, (LongType, t.3), (t.0, t.4.1))
  act_parts (new_local l y c) is t = (subst (λ n. y.0 < n) wide (slice_get_within sc.locals y.0 (Pointer c) t.1), ap kind_at t.1)
  act_parts (new_field l y c) is t = tt
  act_parts (new_item l y i c) is t = (kind_is p sc i LongType t.2, (LongType, t.2))
  act_parts (print_value l e) is t = printable e t.1
  act_parts other is t = absurd is

  pub acts_run : (s : Statement) (line : ℕ) (ls : List Datum) (x : S) (at k : ℕ) (f : Store) → Makes s → HasAt code at (all_acts ks line s top) → StatementTyped p sc s → length ls ≡ top → Here ls x → k ≤ n → Holds ks.locals f base ls → Flows acc code (λ (x : S). x) ret (there at k f x) (length (all_acts ks line s top)) (LocalsAt ks base top) (act_by acc calls_of me below line ls x s k)
  acts_run s line ls x at k f is h t len good left holds =
      only (acts_do acc calls_of me below code (nothing_else acc code) ks ret base n top E Es Here operands s line ls x at k f (act_parts s is t) h len good left holds)

  -- what the call itself does, with the receiver and the arguments in their slots
  abbrev pub Hands : (OpId → ℕ → Instruction) → (List Datum → Invocation → S → ℕ → Flow S) → Type 0
  Hands instruction runs_call =
      (line : ℕ) (op : OpId) (class : ClassId) (tys : List ValueType) (ls vs : List Datum) (v : Datum) (x : S) (at k : ℕ) (f : Store) → IsAt code at (on line (instruction op top)) → IsOperation (slice_get p.ops op.0) class tys → HasType (acc.heap x) v (Pointer class) → ValuesTyped (acc.heap x) vs tys → read_as as_pointer (f (base + top)) ≡ v → Holds (ks.arguments op) f (base + (top + 1)) vs → length ls ≡ top → Here ls x → k ≤ n → Holds ks.locals f base ls → Flows acc code (λ (x : S). x) ret (there at k f x) 1 (LocalsAt ks base top) (with (pointed line v k >>= λ r k. gives (invocation r op vs) k) x (λ i k. runs_call ls i x k))

  pub invokes : (instruction : OpId → ℕ → Instruction) (runs_call : List Datum → Invocation → S → ℕ → Flow S) → Hands instruction runs_call → (e : Expression) (op : OpId) (es : Expressions) (class : ClassId) (tys : List ValueType) (line : ℕ) (ls : List Datum) (x : S) (at k : ℕ) (f : Store) → HasAt code at (expression_code ks line e top top ++ (expressions_code ks line es (top + 1) ++ on line (instruction op top) ∷ [])) → IsOperation (slice_get p.ops op.0) class tys → ExpressionTyped p sc e (Pointer class) → ExpressionsTyped p sc es tys → length ls ≡ top → Here ls x → k ≤ n → Holds ks.locals f base ls → Flows acc code (λ (x : S). x) ret (there at k f x) (length (expression_code ks line e top top ++ (expressions_code ks line es (top + 1) ++ on line (instruction op top) ∷ []))) (LocalsAt ks base top) (with (due (calls_of x) (seen acc calls_of me below line ls x) e op es k) x (λ i k. runs_call ls i x k))
  invokes instruction runs_call hands e op es class tys line ls x at k f h is_op te tes len good left holds =
      let place = places line ls x good.0 good.1 in
      let pl = seen acc calls_of me below line ls x in
      only (calls_do acc calls_of me below code (nothing_else acc code) ks ret base n top E Es Here operands instruction runs_call e op es line ls x k
      (λ v vs j i at f y z many h is arguments le locals.
      inr (hands line op class tys ls vs v x at i f h is_op
      (given (λ v. HasType (acc.heap x) v (Pointer class)) (eval (calls_of x) pl e k) v j (eval_typed p sc pl (calls_of x) (calls x good.0) place e (Pointer class) te k) y)
      (given (λ vs. ValuesTyped (acc.heap x) vs tys) (eval_all (calls_of x) pl es j) vs i (all_typed p sc pl (calls_of x) (calls x good.0) place es tys tes j) z)
      is arguments len good (omega (arith, le, left)) locals))
      (kind_is p sc e (Pointer class) te) (arguments_fit p sc es tys (ks.arguments op) tes (operation_params (slice_get p.ops op.0) class tys is_op)) (Pointer class, te) (tys, tes) at f h len good left holds)

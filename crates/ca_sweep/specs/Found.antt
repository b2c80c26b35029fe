-- How a sweep is found: the parts of a loop that sweeps, step by step as the code looks at them, and which sums it may have.
use Rattle.std.specs.Prelude.{ℕ, Bool, true, false, ◌&&◌, nat_eq, nat_lt, if◌then◌else◌, pos, List, [], Option, Some, None}
use Rattle.std.specs.List.{list_any}
use Rattle.std.specs.Ordering.{int_eq}
use Rattle.ca_tree.specs.declared.tree.AssignOp.{AssignOp}
use Rattle.ca_tree.specs.declared.tree.AssignOp.TheVariants.{Put, Add, Sub}
use Rattle.ca_tree.specs.declared.tree.BinaryOp.{BinaryOp}
use Rattle.ca_tree.specs.declared.tree.BinaryOp.TheVariants.{Less, Plus, Minus}
use Rattle.ca_program.specs.declared.program.FieldId.{FieldId}
use Rattle.ca_program.specs.declared.program.LocalId.{LocalId}
use Rattle.ca_program.specs.declared.program.FirstPart.{FirstPart}
use Rattle.ca_program.specs.declared.program.FirstPart.TheVariants.{Declares}
use Rattle.ca_program.specs.Fields.{same_field}
use Rattle.ca_program.specs.Plain.{Expression, number, local, own_item, binary, Statement, Statements, block, put_local, put_item, for_loop, no_statements, statement_and}
use Rattle.ca_meaning.specs.Operators.{not_of}
use Rattle.ca_sweep.specs.Sweeps.{PlainSweep, Known, is_sum}

-- the counter that the first part declares, with what it is put to
pub record Beginning : Type 0 where
  pub counter : LocalId
  pub from : Expression

abbrev pub put_by : Statement → Option Beginning
put_by (put_local line i Put e) = Some (record { counter = i; from = e })
put_by x = None

abbrev pub beginning : FirstPart → Statement → Option Beginning
beginning Declares x = put_by x
beginning part x = None

-- what the counter is compared with
abbrev pub bound : Expression → LocalId → Option Expression
bound (binary Less (local l) e) i = if nat_eq l.0 i.0 then Some e else None
bound c i = None

-- the next part: `i += 1` or `i = i + 1`
abbrev pub counts_up : Statement → LocalId → Bool
counts_up (put_local line l Add (number n)) i = nat_eq l.0 i.0 && int_eq n (pos 1)
counts_up (put_local line l Put (binary Plus (local m) (number n))) i = nat_eq l.0 i.0 && (nat_eq m.0 i.0 && int_eq n (pos 1))
counts_up x i = false

-- what is added at the counter's item, or taken off
pub record Addition : Type 0 where
  pub field : FieldId
  pub addend : Expression
  pub minus : Bool

abbrev pub is_counter : Expression → LocalId → Bool
is_counter (local l) i = nat_eq l.0 i.0
is_counter e i = false

abbrev pub is_its_item : Expression → FieldId → LocalId → Bool
is_its_item (own_item g e) f i = same_field f g && is_counter e i
is_its_item e f i = false

abbrev pub added_if : Bool → FieldId → Expression → Bool → Option Addition
added_if true f e minus = Some (record { field = f; addend = e; minus = minus })
added_if false f e minus = None

abbrev pub of_sides : BinaryOp → FieldId → Expression → Expression → LocalId → Option Addition
of_sides Plus f a b i = added_if (is_its_item a f i) f b false
of_sides Minus f a b i = added_if (is_its_item a f i) f b true
of_sides op f a b i = None

abbrev pub of_right : FieldId → Expression → LocalId → Option Addition
of_right f (binary op a b) i = of_sides op f a b i
of_right f e i = None

abbrev pub of_put : AssignOp → FieldId → Expression → LocalId → Option Addition
of_put Add f e i = added_if true f e false
of_put Sub f e i = added_if true f e true
of_put Put f e i = of_right f e i
of_put op f e i = None

abbrev pub if_counter : Bool → Option Addition → Option Addition
if_counter true a = a
if_counter false a = None

abbrev pub addition : Statement → LocalId → Option Addition
addition (put_item line f e op r) i = if_counter (is_counter e i) (of_put op f r i)
addition x i = None

-- of statements that are one
abbrev pub addition_in : Statements → LocalId → Option Addition
addition_in no_statements i = None
addition_in (statement_and x no_statements) i = addition x i
addition_in (statement_and x (statement_and y xs)) i = None

-- alone, or in a block of its own
abbrev pub addition_alone : Statement → LocalId → Option Addition
addition_alone (block line xs) i = addition_in xs i
addition_alone x i = addition x i

abbrev pub with_addition : Beginning → Expression → Option Addition → Option PlainSweep
with_addition b to None = None
with_addition b to (Some a) = Some (record { counter = b.counter; field = a.field; from = b.from; to = to; addend = a.addend; minus = a.minus })

abbrev pub with_bound : Beginning → Option Expression → Statement → Statement → Option PlainSweep
with_bound b None next body = None
with_bound b (Some to) next body = if counts_up next b.counter then with_addition b to (addition_alone body b.counter) else None

abbrev pub with_beginning : Option Beginning → Expression → Statement → Statement → Option PlainSweep
with_beginning None c next body = None
with_beginning (Some b) c next body = with_bound b (bound c b.counter) next body

-- the loop has the form of a sweep, whatever its bounds and its addend are
abbrev pub sweep_form : Statement → Option PlainSweep
sweep_form (for_loop line site part first c next body) = with_beginning (beginning part first) c next body
sweep_form x = None

-- any local but the counter, below a number if there is one, and any field that isn't written
abbrev pub is_below : ℕ → Option ℕ → Bool
is_below n None = true
is_below n (Some below) = nat_lt n below

abbrev pub known : ℕ → Option ℕ → List FieldId → Known
known counter below written = record { local = λ n. not_of (nat_eq counter n) && is_below n below; field = λ f. not_of (list_any (same_field f) written) }

abbrev pub sums_known : PlainSweep → Option ℕ → List FieldId → Bool
sums_known s below written = is_sum (known s.counter.0 below written) s.from && (is_sum (known s.counter.0 below written) s.to && is_sum (known s.counter.0 below written) s.addend)

abbrev pub if_sums : Option ℕ → List FieldId → Option PlainSweep → Option PlainSweep
if_sums below written None = None
if_sums below written (Some s) = if sums_known s below written then Some s else None

-- The sweep that a statement is, in a method with so many parameters, of an extent that writes these fields.
abbrev pub sweep_in : ℕ → List FieldId → Statement → Option PlainSweep
sweep_in params written x = if_sums (Some params) written (sweep_form x)

-- The sweep that a statement is by its form, whatever locals and own fields it names.
abbrev pub sweep_at : Statement → Option PlainSweep
sweep_at x = if_sums None [] (sweep_form x)

-- Which loops are sweeps, what one leaves, and what it takes.
use Rattle.std.proofs.Common.{◌≡◌, ℕ, pos, negsuc, true, false, [], ◌∷◌, None, Some, refl}
use Rattle.std.specs.Int.{int_wrap}
use Rattle.ca_tree.specs.declared.tree.AssignOp.{AssignOp}
use Rattle.ca_tree.specs.declared.tree.AssignOp.TheVariants.{Put, Add, Sub, Mul}
use Rattle.ca_tree.specs.declared.tree.BinaryOp.TheVariants.{Less, Plus, Minus, Times}
use Rattle.ca_program.specs.declared.program.ClassId.{ClassId}
use Rattle.ca_program.specs.declared.program.FieldId.{FieldId}
use Rattle.ca_program.specs.declared.program.LocalId.{LocalId}
use Rattle.ca_program.specs.declared.program.FirstPart.TheVariants.{Declares, Assigns}
use Rattle.ca_program.specs.Plain.{Expression, number, local, own, own_item, binary, Statement, block, put_local, put_item, for_loop, no_statements, statement_and}
use Rattle.ca_model.specs.declared.value.Value.TheVariants.{Long}
use Rattle.ca_sweep.specs.Sweeps.{PlainSweep}
use Rattle.ca_sweep.specs.Found.{sweep_form, sweep_in, sweep_at}
use Rattle.ca_sweep.specs.Means.{Table, swept, sweep_cost}

-- an array and a number of one class; a counter behind three parameters
abbrev class : ClassId
class = record { 0 = 0 }

abbrev a : FieldId
a = record { class = class; field = 0 }

abbrev n : FieldId
n = record { class = class; field = 1 }

abbrev named : ℕ → Expression
named l = local (record { 0 = l })

abbrev i : LocalId
i = record { 0 = 3 }

-- for (long i = from; i < to; i++) body
abbrev loop : Expression → Expression → Statement → Statement
loop from to body = for_loop 1 (record { 0 = 0 }) Declares (put_local 1 i Put from) (binary Less (local i) to) (put_local 1 i Add (number (pos 1))) body

abbrev item : AssignOp → Expression → Statement
item op e = put_item 1 a (local i) op e

abbrev swept_of : Expression → Expression → PlainSweep
swept_of to e = record { counter = i; field = a; from = named 0; to = to; addend = e; minus = false }

abbrev minus_of : Expression → PlainSweep
minus_of e = record { counter = i; field = a; from = named 0; to = named 1; addend = e; minus = true }

added : sweep_in 3 (a ∷ n ∷ []) (loop (named 0) (named 1) (item Add (named 2))) ≡ Some (swept_of (named 1) (named 2))
added = refl

taken_off : sweep_in 3 (a ∷ []) (loop (named 0) (named 1) (item Sub (number (pos 1)))) ≡ Some (minus_of (number (pos 1)))
taken_off = refl

in_block : sweep_in 3 (a ∷ []) (loop (named 0) (named 1) (block 1 (statement_and (item Put (binary Minus (own_item a (local i)) (named 2))) no_statements))) ≡ Some (minus_of (named 2))
in_block = refl

sums_of_products : sweep_in 3 (a ∷ []) (loop (named 0) (binary Plus (binary Times (number (pos 2)) (own n)) (named 1)) (item Add (binary Times (named 2) (named 2)))) ≡ Some (swept_of (binary Plus (binary Times (number (pos 2)) (own n)) (named 1)) (binary Times (named 2) (named 2)))
sums_of_products = refl

two_statements : sweep_form (loop (named 0) (named 1) (block 1 (statement_and (item Add (named 2)) (statement_and (item Add (named 2)) no_statements)))) ≡ None
two_statements = refl

multiplied : sweep_form (loop (named 0) (named 1) (item Mul (named 2))) ≡ None
multiplied = refl

put_alone : sweep_form (loop (named 0) (named 1) (item Put (named 2))) ≡ None
put_alone = refl

other_way_round : sweep_form (loop (named 0) (named 1) (item Put (binary Plus (named 2) (own_item a (local i))))) ≡ None
other_way_round = refl

another_item : sweep_form (loop (named 0) (named 1) (item Put (binary Plus (own_item a (named 0)) (named 2)))) ≡ None
another_item = refl

counter_of_another : sweep_form (for_loop 1 (record { 0 = 0 }) Assigns (put_local 1 i Put (named 0)) (binary Less (local i) (named 1)) (put_local 1 i Add (number (pos 1))) (item Add (named 2))) ≡ None
counter_of_another = refl

names_its_counter : sweep_at (loop (named 0) (named 1) (item Add (local i))) ≡ None
names_its_counter = refl

product_of_a_sum : sweep_at (loop (named 0) (named 1) (item Add (binary Times (binary Plus (named 0) (named 1)) (named 2)))) ≡ None
product_of_a_sum = refl

difference : sweep_at (loop (named 0) (binary Minus (named 1) (number (pos 1))) (item Add (named 2))) ≡ None
difference = refl

-- a field that is written and a local that is no parameter may stand in none of an extent, though the form is that of one
written_bound : sweep_in 3 (n ∷ []) (loop (named 0) (own n) (item Add (named 2))) ≡ None
written_bound = refl

constant_bound : sweep_in 3 (a ∷ []) (loop (named 0) (own n) (item Add (named 2))) ≡ Some (swept_of (own n) (named 2))
constant_bound = refl

local_added : sweep_in 3 [] (loop (named 0) (named 1) (item Add (named 4))) ≡ None
local_added = refl

by_its_form : sweep_at (loop (named 0) (own n) (item Add (named 4))) ≡ Some (swept_of (own n) (named 4))
by_its_form = refl

-- a table that has each number at it
abbrev numbers : Table
numbers k = Long k

first_number : swept numbers (pos 2) (pos 4) (Long (pos 7)) (pos 2) ≡ Long (pos 9)
unfolding int_wrap
first_number = refl

last_number : swept numbers (pos 2) (pos 4) (Long (pos 7)) (pos 3) ≡ Long (pos 10)
unfolding int_wrap
last_number = refl

behind_it : swept numbers (pos 2) (pos 4) (Long (pos 7)) (pos 4) ≡ Long (pos 4)
behind_it = refl

bounds_turned_round : swept numbers (pos 4) (pos 2) (Long (pos 7)) (pos 3) ≡ Long (pos 3)
bounds_turned_round = refl

whole_array : sweep_cost 5 (pos 0) (pos 5) ≡ Some 5
whole_array = refl

past_its_end : sweep_cost 5 (pos 2) (pos 6) ≡ None
past_its_end = refl

before_its_beginning : sweep_cost 5 (negsuc 0) (pos 2) ≡ None
before_its_beginning = refl

nothing_anywhere : sweep_cost 5 (pos 9) (negsuc 4) ≡ Some 0
nothing_anywhere = refl

-- Worked examples of single instructions: what each does, its traps, where a step is due that isn't left, and where a value
-- has another kind.
use Rattle.std.proofs.Common.{◌≡◌, ℕ, List, [], ◌∷◌, length, Some, None, refl, ap, codes, pos, negsuc, true, false}
use Rattle.std.specs.Prelude.{Bool, ◌+◌, ℤ}
use Rattle.std.specs.Int.{int_wrap}
use Rattle.ca_tree.specs.declared.tree.AssignOp.TheVariants.{Add, Sub}
use Rattle.ca_tree.specs.declared.tree.AssignOp.TheVariants as change
use Rattle.ca_tree.specs.declared.tree.UnaryOp.TheVariants as sign
use Rattle.ca_tree.specs.declared.tree.BinaryOp.TheVariants.{Or, And, Plus, Divide, Less, BitXor, Max}
use Rattle.ca_program.specs.declared.program.ValueType.TheVariants.{Long as LongType, Pointer}
use Rattle.ca_program.specs.declared.program.ClassId.{ClassId}
use Rattle.ca_program.specs.declared.program.FieldId.{FieldId}
use Rattle.ca_program.specs.declared.program.FirstPart.TheVariants.{Declares}
use Rattle.ca_program.specs.declared.program.FunctionId.{FunctionId}
use Rattle.ca_program.specs.declared.program.OpId.{OpId}
use Rattle.ca_program.specs.Plain.{PlainProgram, PlainClass, number, truth, Statement, put_local, for_loop, no_statements, statement_and, block, while_loop}
use Rattle.ca_model.specs.declared.value.Value.{Value as Datum}
use Rattle.ca_model.specs.declared.value.Value.TheVariants.{Long, Bool as Truth, Null, Ref}
use Rattle.ca_model.specs.declared.value.Slot.TheVariants.{One, Many}
use Rattle.ca_model.specs.declared.value.Object.{Object}
use Rattle.ca_model.specs.declared.value.TrapKind.TheVariants.{NullPointer, OutOfRange, ZeroDivisor, HeapFull}
use Rattle.ca_model.specs.Heaps.{starts_of, is_full}
use Rattle.ca_meaning.specs.Expressions.{traps, trap_at, invocation}
use Rattle.ca_meaning.specs.Serial.{World, fresh, printed, unless_full}
use Rattle.ca_meaning.specs.Sections.{Section}
use Rattle.ca_parallel.specs.Lists.{note, noted}
use Rattle.ca_program.specs.Kinds.{as_long, as_truth, as_pointer}
use Rattle.ca_program.specs.Instructions.{Instruction, Constant, Receiver, Move, Own, OwnItem, Field, Item, Unary, Binary, Update, Check, CheckItem, Decide, Jump, Unless, Turn, Call, Return, Lack, Leave, PutField, PutItem, NewLocal, NewField, NewItem, Print, Invoke, Heed, Hand, Begin, Code}
use Rattle.ca_code_laws.specs.Machine.{Back, Accesses, State, Outcome, Finished, Trapped, Spent, Wanting, Stuck, Next, loaded, act}
use Rattle.ca_code_laws.specs.Runs.{run_access, section_access}

-- class A { public: long n; long a[2]; A *next; .. };
abbrev class_a : ClassId
class_a = record { 0 = 0 }

abbrev n : FieldId
n = record { class = class_a; field = 0 }

abbrev a : FieldId
a = record { class = class_a; field = 1 }

abbrev a_class : PlainClass
a_class = record {
  name = codes "A";
  fields = record { name = codes "n"; ty = LongType; length = None } ∷ record { name = codes "a"; ty = LongType; length = Some 2 } ∷ record { name = codes "next"; ty = Pointer class_a; length = None } ∷ [];
}

abbrev method : FunctionId
method = record { 0 = 0 }

abbrev op : OpId
op = record { 0 = 0 }

abbrev program : PlainProgram
program = record { classes = a_class ∷ []; ops = []; functions = []; main = record { locals = []; statements = no_statements } }

-- object 0 of the heap: n is 7, a is [8, 9]
abbrev object : ℕ → ℕ → ℕ → Datum → Object
object x y z next = record { class = class_a; slots = One (Long (pos x)) ∷ Many (Long (pos y) ∷ Long (pos z) ∷ []) ∷ One next ∷ [] }

abbrev world : World
world = fresh (object 7 8 9 Null ∷ [])

-- for (long i = 5; true; i += 1) { }, which lists nothing and is handed on at place 1
abbrev loop : Bool → Statement
loop goes = for_loop 9 (record { 0 = 0 }) Declares (put_local 9 (record { 0 = 0 }) Add (number (pos 5))) (truth goes) (put_local 9 (record { 0 = 0 }) Add (number (pos 1))) (put_local 9 (record { 0 = 0 }) Add (number (pos 1)))

-- the value method begins at 100, the operation at 200, and where it heeds marks at 300
abbrev code : Bool → Code
code goes = record { items = []; lines = []; loops = None ∷ Some (record { loop = loop goes; locals = as_long ∷ [] }) ∷ []; functions = 100 ∷ []; ops = 200 ∷ []; heeding = 300 ∷ []; params = (as_pointer ∷ []) ∷ [] }

-- at place 1 with so many steps, in a body of object 0, whose frame begins at slot 4: slots 0 to 5 of it hold 6, 1, the object,
-- null, true and -1, as the numbers 6, 1, 1, 0, 1 and -1
abbrev here : ℕ → List Back → State World
here k below = record { at = 1; base = 4; left = k; this = Ref 0; below = below; slots = loaded (λ j. pos 0) 4 (Long (pos 6) ∷ Long (pos 1) ∷ Ref 0 ∷ Null ∷ Truth true ∷ Long (negsuc 0) ∷ []); world = world }

-- what a state shows: what slot d of its frame holds, where it is, and the steps left
abbrev shows : ℕ → Next World
shows d t = Finished (printed (printed t.world (Long (t.slots (t.base + d)))) (Long (pos t.at))) t.left

abbrev shown : World → ℤ → ℕ → ℕ → Outcome World
shown w x at k = Finished (printed (printed w (Long x)) (Long (pos at))) k

-- an instruction on line 9, with five steps left: what slot d shows behind it
abbrev does : Instruction → ℕ → Outcome World
does i d = act (run_access program) (code true) 9 (Some i) (shows d) (here 5 [])

-- with no step left
abbrev does_last : Instruction → ℕ → Outcome World
does_last i d = act (run_access program) (code true) 9 (Some i) (shows d) (here 0 [])

-- ---- values

number_set : does (Constant 7 (pos 4)) 7 ≡ shown world (pos 4) 2 5
number_set = refl

zero_set : does (Constant 0 (pos 0)) 0 ≡ shown world (pos 0) 2 5
zero_set = refl

receiver_set : does (Receiver 7) 7 ≡ shown world (pos 1) 2 5
receiver_set = refl

moved_on : does (Move 7 1) 7 ≡ shown world (pos 1) 2 5
moved_on = refl

-- other slots stay
stays : does (Move 7 1) 0 ≡ shown world (pos 6) 2 5
stays = refl

own_field : does (Own 7 as_long n) 7 ≡ shown world (pos 7) 2 5
own_field = refl

own_item_read : does (OwnItem 7 as_long a 1) 7 ≡ shown world (pos 9) 2 5
own_item_read = refl

own_item_out_of_range : does (OwnItem 7 as_long a 0) 7 ≡ Trapped (trap_at 9 OutOfRange) world
own_item_out_of_range = refl

own_item_below_zero : does (OwnItem 7 as_long a 5) 7 ≡ Trapped (trap_at 9 OutOfRange) world
own_item_below_zero = refl

field_read : does (Field 7 2 as_long n) 7 ≡ shown world (pos 7) 2 5
field_read = refl

field_of_null : does (Field 7 3 as_long n) 7 ≡ Trapped (trap_at 9 NullPointer) world
field_of_null = refl

item_read : does (Item 7 2 as_long a 1) 7 ≡ shown world (pos 9) 2 5
item_read = refl

item_of_null : does (Item 7 3 as_long a 1) 7 ≡ Trapped (trap_at 9 NullPointer) world
item_of_null = refl

item_out_of_range : does (Item 7 2 as_long a 0) 7 ≡ Trapped (trap_at 9 OutOfRange) world
item_out_of_range = refl

minus_six : does (Unary 7 sign.Minus 0) 7 ≡ shown world (negsuc 5) 2 5
unfolding int_wrap
minus_six = refl

sum : does (Binary 7 Plus as_long as_long 0 1) 7 ≡ shown world (pos 7) 2 5
unfolding int_wrap
sum = refl

bits_of_one : does (Binary 7 BitXor as_long as_long 0 1) 7 ≡ shown world (pos 7) 2 5
bits_of_one = refl

greater : does (Binary 7 Max as_long as_long 0 1) 7 ≡ shown world (pos 6) 2 5
greater = refl

less : does (Binary 7 Less as_long as_long 0 1) 7 ≡ shown world (pos 0) 2 5
less = refl

quotient_by_zero : act (run_access program) (code true) 9 (Some (Binary 7 Divide as_long as_long 0 0)) (shows 7) (record { at = 1; base = 0; left = 5; this = Null; below = []; slots = λ j. pos 0; world = world }) ≡ Trapped (trap_at 9 ZeroDivisor) world
quotient_by_zero = refl

update : does (Update 0 Sub as_long 1) 0 ≡ shown world (pos 5) 2 5
unfolding int_wrap
update = refl

update_by_bits : does (Update 0 change.BitOr as_long 1) 0 ≡ shown world (pos 7) 2 5
update_by_bits = refl

-- ---- values of another kind

kind_lost : does (Own 7 as_truth n) 7 ≡ Wanting
kind_lost = refl

item_kind_lost : does (Item 7 2 as_pointer a 1) 7 ≡ Wanting
item_kind_lost = refl

-- no value method of the checker comes to its end
end_of_a_value_method : does Lack 0 ≡ Wanting
end_of_a_value_method = refl

-- ---- order

pointer_checked : does (Check 2) 7 ≡ shown world (pos 0) 2 5
pointer_checked = refl

null_checked : does (Check 3) 7 ≡ Trapped (trap_at 9 NullPointer) world
null_checked = refl

index_checked : does (CheckItem a 1) 7 ≡ shown world (pos 0) 2 5
index_checked = refl

index_refused : does (CheckItem a 0) 7 ≡ Trapped (trap_at 9 OutOfRange) world
index_refused = refl

-- `true || ..` is true, three instructions on; behind `true && ..` the right side is due
decided_alone : does (Decide 7 Or 4 3) 7 ≡ shown world (pos 1) 5 5
decided_alone = refl

not_decided : does (Decide 7 And 4 3) 7 ≡ shown world (pos 0) 2 5
not_decided = refl

-- ---- flow

jumps : does (Jump 3) 0 ≡ shown world (pos 6) 5 5
jumps = refl

unless_true : does (Unless 4 3) 0 ≡ shown world (pos 6) 2 5
unless_true = refl

unless_false : act (run_access program) (code true) 9 (Some (Unless 0 3)) (shows 0) (record { at = 1; base = 0; left = 5; this = Null; below = []; slots = λ j. pos 0; world = world }) ≡ shown world (pos 0) 5 5
unless_false = refl

-- a turn takes its step and goes back
turns : does (Turn 4 1) 0 ≡ shown world (pos 6) 0 4
turns = refl

turn_is_due : does_last (Turn 4 1) 0 ≡ Spent world
turn_is_due = refl

no_turn : act (run_access program) (code true) 9 (Some (Turn 0 1)) (shows 0) (record { at = 1; base = 0; left = 0; this = Null; below = []; slots = λ j. pos 0; world = world }) ≡ shown world (pos 0) 2 0
no_turn = refl

-- a call takes a step; the frame of its body begins behind the receiver, with the arguments
called : does (Call method 2 7) 0 ≡ shown world (pos 0) 100 4
called = refl

call_is_due : does_last (Call method 2 7) 0 ≡ Spent world
call_is_due = refl

-- the null check comes before the step
call_on_null : does_last (Call method 3 7) 0 ≡ Trapped (trap_at 9 NullPointer) world
call_on_null = refl

-- a body below, at place 20, whose frame begins at slot 1, and which wants a value in its slot 2, or wants none
abbrev waiting : Bool → Back
waiting wants = record { at = 20; base = 1; this = Ref 1; wants = wants; to = 2 }

given_back : act (run_access program) (code true) 9 (Some (Return 1)) (shows 2) (here 5 (waiting true ∷ [])) ≡ shown world (pos 1) 20 5
given_back = refl

-- no operation gives a value back
not_wanted : act (run_access program) (code true) 9 (Some (Return 1)) (shows 2) (here 5 (waiting false ∷ [])) ≡ Spent world
not_wanted = refl

left_behind : act (run_access program) (code true) 9 (Some Leave) (shows 3) (here 5 (waiting false ∷ [])) ≡ shown world (pos 6) 20 5
left_behind = refl

finished : does Leave 0 ≡ Finished world 5
finished = refl

-- ---- puts, creations, prints

field_put : does (PutField n Add as_long 1) 0 ≡ shown (fresh (object 8 8 9 Null ∷ [])) (pos 6) 2 5
unfolding int_wrap
field_put = refl

item_put : does (PutItem a 1 Sub as_long 1) 0 ≡ shown (fresh (object 7 8 8 Null ∷ [])) (pos 6) 2 5
unfolding int_wrap
item_put = refl

item_not_put : does (PutItem a 0 Sub as_long 1) 0 ≡ Trapped (trap_at 9 OutOfRange) world
item_not_put = refl

local_made : does (NewLocal 3 class_a) 3 ≡ shown (fresh (object 7 8 9 Null ∷ object 0 0 0 Null ∷ [])) (pos 2) 2 5
local_made = refl

field_made : does (NewField (record { class = class_a; field = 2 }) class_a) 0 ≡ shown (fresh (object 7 8 9 (Ref 1) ∷ object 0 0 0 Null ∷ [])) (pos 6) 2 5
field_made = refl

-- no typed program puts an object into an array of numbers; the index is checked before there is an object
item_made : does (NewItem a 1 class_a) 0 ≡ shown (fresh (record { class = class_a; slots = One (Long (pos 7)) ∷ Many (Long (pos 8) ∷ Ref 1 ∷ []) ∷ One Null ∷ [] } ∷ object 0 0 0 Null ∷ [])) (pos 6) 2 5
item_made = refl

item_not_made : does (NewItem a 0 class_a) 0 ≡ Trapped (trap_at 9 OutOfRange) world
item_not_made = refl

-- where there is no room
no_room : (h : List Object) → is_full h (starts_of program class_a) ≡ true → (run_access program).room 9 (fresh h) class_a 5 ≡ traps (trap_at 9 HeapFull)
no_room h full = ap (λ b. unless_full b 9 (length h) 5) full

abbrev without_room : Accesses World
without_room = record (run_access program) { room = λ line w c k. traps (trap_at line HeapFull) }

local_not_made : act without_room (code true) 9 (Some (NewLocal 3 class_a)) (shows 3) (here 5 []) ≡ Trapped (trap_at 9 HeapFull) world
local_not_made = refl

field_not_made : act without_room (code true) 9 (Some (NewField n class_a)) (shows 3) (here 5 []) ≡ Trapped (trap_at 9 HeapFull) world
field_not_made = refl

item_without_room : act without_room (code true) 9 (Some (NewItem a 1 class_a)) (shows 3) (here 5 []) ≡ Trapped (trap_at 9 HeapFull) world
item_without_room = refl

prints : does (Print as_long 5) 0 ≡ shown (printed world (Long (negsuc 0))) (pos 6) 2 5
prints = refl

-- ---- calls of operations

invoked : does (Invoke op 2) 0 ≡ shown world (pos 0) 200 4
invoked = refl

invocation_is_due : does_last (Invoke op 2) 0 ≡ Spent world
invocation_is_due = refl

invoked_on_null : does_last (Invoke op 3) 0 ≡ Trapped (trap_at 9 NullPointer) world
invoked_on_null = refl

-- a body that heeds marks
heeded : does (Heed op 2) 0 ≡ shown world (pos 0) 300 4
heeded = refl

heeding_is_due : does_last (Heed op 2) 0 ≡ Spent world
heeding_is_due = refl

heeded_on_null : does_last (Heed op 3) 0 ≡ Trapped (trap_at 9 NullPointer) world
heeded_on_null = refl

-- a call that is handed on is noted, with its arguments and the steps before its own, and where its run is done it is passed over
abbrev noted_here : ℕ → World
noted_here k = noted world (note world.heap (invocation 0 op (Null ∷ []) ∷ []) k)

handed : does (Hand op 2) 0 ≡ shown (noted_here 5) (pos 6) 2 4
handed = refl

-- one that isn't done within the steps enters its body, which heeds no marks
abbrev endless : PlainProgram
endless = record {
  classes = a_class ∷ [];
  ops = record { class = class_a; name = codes "f"; params = 1; body = record { locals = Pointer class_a ∷ []; statements = statement_and (while_loop 9 (truth true) (block 9 no_statements)) no_statements }; result = None } ∷ [];
  functions = [];
  main = record { locals = []; statements = no_statements };
}

entered_plainly : act (run_access endless) (code true) 9 (Some (Hand op 2)) (shows 0) (here 5 []) ≡ shown (noted_here 5) (pos 0) 200 4
entered_plainly = refl

handed_step_is_due : does_last (Hand op 2) 0 ≡ Spent (noted_here 0)
handed_step_is_due = refl

handed_on_null : does_last (Hand op 3) 0 ≡ Trapped (trap_at 9 NullPointer) world
handed_on_null = refl

-- The loop whose condition is false is done behind its first part: it is noted with nothing listed, its local is 11, and it is
-- passed over. That of two steps and more isn't done in one: its code runs.
begun_and_passed : act (run_access program) (code false) 9 (Some (Begin 30)) (shows 0) (here 5 []) ≡ shown (noted world (note world.heap [] 5)) (pos 11) 32 5
unfolding int_wrap
begun_and_passed = refl

begun_plainly : act (run_access program) (code true) 9 (Some (Begin 30)) (shows 0) (here 1 []) ≡ shown world (pos 6) 2 1
unfolding int_wrap
begun_plainly = refl

nothing_stands : act (run_access program) (code true) 9 None (shows 0) (here 5 []) ≡ Stuck
nothing_stands = refl

-- ---- sections

-- the receiver's slots in hand: n is 1, and in the frozen heap it is 7
abbrev in_hand : State Section
in_hand = record { at = 1; base = 4; left = 0; this = Ref 0; below = []; slots = loaded (λ j. pos 0) 4 (Long (pos 6) ∷ Long (pos 1) ∷ Ref 0 ∷ []); world = record { own = One (Long (pos 1)) ∷ []; listed = [] } }

abbrev after_it : ℕ → State Section → Outcome Section
after_it d t = Finished t.world t.at

-- an own field is read in hand, and another object's in the frozen heap, be it the receiver
abbrev reads : Instruction → Outcome Section
reads i = act (section_access (object 7 8 9 Null ∷ [])) (code true) 9 (Some i) (λ t. act (section_access (object 7 8 9 Null ∷ [])) (code true) 9 (Some (PutField n Add as_long 3)) (after_it 3) t) in_hand

own_in_hand : reads (Own 3 as_long n) ≡ Finished (record { own = One (Long (pos 2)) ∷ []; listed = [] }) 3
unfolding int_wrap
own_in_hand = refl

own_through_a_pointer : reads (Field 3 2 as_long n) ≡ Finished (record { own = One (Long (pos 8)) ∷ []; listed = [] }) 3
unfolding int_wrap
own_through_a_pointer = refl

-- a value method that the section calls reads its receiver in the frozen heap
in_a_value_method : act (section_access (object 7 8 9 Null ∷ [])) (code true) 9 (Some (Own 3 as_long n)) (λ t. act (section_access (object 7 8 9 Null ∷ [])) (code true) 9 (Some (PutField n Add as_long 3)) (after_it 3) t) (record { at = 1; base = 4; left = 0; this = Ref 0; below = waiting true ∷ []; slots = λ j. pos 0; world = record { own = One (Long (pos 1)) ∷ []; listed = [] } }) ≡ Finished (record { own = One (Long (pos 14)) ∷ []; listed = [] }) 3
unfolding int_wrap
in_a_value_method = refl

-- a call is listed, and takes no step
call_listed : act (section_access (object 7 8 9 Null ∷ [])) (code true) 9 (Some (Invoke op 2)) (after_it 0) in_hand ≡ Finished (record { own = One (Long (pos 1)) ∷ []; listed = invocation 0 op (Null ∷ []) ∷ [] }) 2
call_listed = refl

-- Worked examples of heaps and their texts.
use Rattle.std.proofs.Common.{◌≡◌, ℕ, [], ◌∷◌, None, refl, codes, pos}
use Rattle.std.specs.Fmt.{digits}
use Rattle.ca_program.specs.declared.program.ValueType.TheVariants.{Long as LongType, Pointer}
use Rattle.ca_program.specs.declared.program.ClassId.{ClassId}
use Rattle.ca_program.specs.Plain.{PlainProgram, PlainClass, no_statements}
use Rattle.ca_model.specs.declared.value.Value.{Value as Datum}
use Rattle.ca_model.specs.declared.value.Value.TheVariants.{Long, Null, Ref}
use Rattle.ca_model.specs.declared.value.Slot.TheVariants.{One, Many}
use Rattle.ca_model.specs.declared.value.Object.{Object}
use Rattle.ca_model.specs.Heaps.{stored}
use Rattle.ca_model.specs.Texts.{slot_text, heap_text}

-- class Acc { public: long sum; Acc *peer; void add(long x); };
abbrev first_class : ClassId
first_class = record { 0 = 0 }

abbrev acc : PlainClass
acc = record {
  name = codes "Acc";
  fields = record { name = codes "sum"; ty = LongType; length = None } ∷ record { name = codes "peer"; ty = Pointer first_class; length = None } ∷ [];
}

-- an object of this sum and peer
abbrev object : ℕ → Datum → Object
object sum peer = record { class = first_class; slots = One (Long (pos sum)) ∷ One peer ∷ [] }

-- a program with this one class
abbrev program : PlainProgram
program = record { classes = acc ∷ []; ops = []; functions = []; main = record { locals = []; statements = no_statements } }

two_objects : heap_text program (object 8 (Ref 1) ∷ object 4 Null ∷ []) ≡ codes "#0 Acc sum=8 peer=#1\n#1 Acc sum=4 peer=null\n"
unfolding digits
two_objects = refl

array : slot_text (Many (Long (pos 7) ∷ Null ∷ Ref 12 ∷ [])) ≡ codes "[7,null,#12]"
unfolding digits
array = refl

-- a store changes the one item, and a store to a missing object changes nothing
store_peer : stored (object 8 Null ∷ object 4 Null ∷ []) 0 1 0 (Ref 1) ≡ object 8 (Ref 1) ∷ object 4 Null ∷ []
store_peer = refl

store_nowhere : stored (object 8 Null ∷ []) 1 0 0 (Long (pos 5)) ≡ object 8 Null ∷ []
store_nowhere = refl

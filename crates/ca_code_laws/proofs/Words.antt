-- Values of a kind are read back from slots.
use Rattle.std.proofs.Common.{◌≡◌, true, false, refl}
use Rattle.ca_model.specs.declared.value.Value.{Value as Datum}
use Rattle.ca_model.specs.declared.value.Value.TheVariants.{Long, Bool as Truth, Null, Ref}
use Rattle.ca_program.specs.Kinds.{Kind, as_long, as_truth, as_pointer}
use Rattle.ca_code_laws.specs.Words.{word, read_as, has_kind}

pub back : (κ : Kind) (v : Datum) → has_kind κ v ≡ true → read_as κ (word v) ≡ v
back as_long (Long n) has = refl
back as_truth (Truth true) has = refl
back as_truth (Truth false) has = refl
back as_pointer Null has = refl
back as_pointer (Ref n) has = refl
back as_long (Truth x) has = cc
back as_long Null has = cc
back as_long (Ref n) has = cc
back as_truth (Long n) has = cc
back as_truth Null has = cc
back as_truth (Ref n) has = cc
back as_pointer (Long n) has = cc
back as_pointer (Truth x) has = cc

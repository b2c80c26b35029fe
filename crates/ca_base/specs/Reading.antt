-- The errors of reading to the end.
use Rattle.std.specs.Prelude.{Result, Ok, Err}
use Rattle.ca_base.specs.declared.read_to_end.ReadError.{ReadError}
use Rattle.ca_base.specs.declared.read_to_end.ReadError.TheVariants.{Fault, Limit, Memory}

-- P, where the error is Fault
abbrev pub OnFault : {T : Type 0} → Result T ReadError → Type 0 → Type 0
OnFault (Ok x) P = Unit {0}
OnFault (Err Fault) P = P
OnFault (Err Limit) P = Unit {0}
OnFault (Err Memory) P = Unit {0}

-- P, where the error is Limit
abbrev pub OnLimit : {T : Type 0} → Result T ReadError → Type 0 → Type 0
OnLimit (Ok x) P = Unit {0}
OnLimit (Err Fault) P = Unit {0}
OnLimit (Err Limit) P = P
OnLimit (Err Memory) P = Unit {0}

use Rattle.std.proofs.Common.{◌≡◌, Bool, true, false, ◌&&◌, refl}
use Rattle.ca_serial.proofs.running.nothing_is_marked.Goals as goal

-- what both tests tell
both_tell : {A B C : Type 0} (a b : Bool) → (a ≡ true → A) → (b ≡ true → B) → (A → B → C) → (a && b) ≡ true → C
both_tell true b f g h e = h (f refl) (g e)
both_tell false b f g h e = absurd cc

pub returns : goal.returns
returns c = λ ok. both_tell c.no_calls.result c.no_loops.result c.no_calls.ensures c.no_loops.ensures (λ ops loops i. record { ops = ops i; loops = loops i }) ok

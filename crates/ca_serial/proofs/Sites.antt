-- Loops whose number stands in a list.
use Rattle.std.proofs.Common.{◌≡◌, ℕ, List, [], ◌∷◌, refl, sym}
use Rattle.std.specs.Prelude.{false, nat_eq}
use Rattle.ca_program.specs.declared.program.LoopId.{LoopId}
use Rattle.ca_program.specs.Plain.{Statement, block, put_local, put_field, put_item, new_local, new_field, new_item, invoke, if_else, while_loop, for_loop, return_value, print_value}
use Rattle.ca_parallel.specs.Lists.{has_site, loop_in}
use Rattle.ca_serial.specs.clauses.Marked.{site_in, is_marked}

for_sites : (sites : List LoopId) (own : ℕ) (site : LoopId) (loop : Statement) → ((x : LoopId) → has_site loop x ≡ nat_eq site.0 x.0) → loop_in sites loop ≡ site_in sites site
for_sites [] own site loop has = refl
for_sites (x ∷ xs) own site loop has = rw (has x, for_sites xs own site loop has) refl

pub none_in : (sites : List LoopId) (s : Statement) → ((x : LoopId) → has_site s x ≡ false) → loop_in sites s ≡ false
none_in [] s free = refl
none_in (x ∷ xs) s free = rw (free x, none_in xs s free) refl

pub marked_is : (sites : List LoopId) (s : Statement) → is_marked sites s ≡ loop_in sites s
marked_is sites (for_loop own site part first c next b) = sym (for_sites sites own site (for_loop own site part first c next b) (λ x. refl))
marked_is sites (block own ss) = sym (none_in sites (block own ss) (λ x. refl))
marked_is sites (put_local own l op e) = sym (none_in sites (put_local own l op e) (λ x. refl))
marked_is sites (put_field own f op e) = sym (none_in sites (put_field own f op e) (λ x. refl))
marked_is sites (put_item own f i op e) = sym (none_in sites (put_item own f i op e) (λ x. refl))
marked_is sites (new_local own l c) = sym (none_in sites (new_local own l c) (λ x. refl))
marked_is sites (new_field own f c) = sym (none_in sites (new_field own f c) (λ x. refl))
marked_is sites (new_item own f i c) = sym (none_in sites (new_item own f i c) (λ x. refl))
marked_is sites (invoke own e op es) = sym (none_in sites (invoke own e op es) (λ x. refl))
marked_is sites (if_else own c a b) = sym (none_in sites (if_else own c a b) (λ x. refl))
marked_is sites (while_loop own c b) = sym (none_in sites (while_loop own c b) (λ x. refl))
marked_is sites (return_value own e) = sym (none_in sites (return_value own e) (λ x. refl))
marked_is sites (print_value own e) = sym (none_in sites (print_value own e) (λ x. refl))

-- A task for each operation of a list, one after the other, made of the list turned round.
use Rattle.std.proofs.Common.{◌≡◌, ℕ, List, [], ◌∷◌, ◌++◌, map, length, reverse, ap, sym, ◌∙◌, arith}
use Rattle.std.proofs.lemmas.List.{append_assoc, append-nil, reverse-append}
use Rattle.ca_parallel.specs.declared.op.Op.{Op}
use Rattle.ca_logs.specs.declared.log.Task.{Task}
use Rattle.ca_logs.specs.Entries.{task_after}

pub none_made : (clock : ℕ) (tasks : List Task) (all ops : List Op) → tasks ≡ [] → reverse ops ≡ all → tasks ++ map (task_after clock) (reverse ops) ≡ map (task_after clock) all
none_made clock tasks all ops e d = ap (λ (l : List Task). l ++ map (task_after clock) (reverse ops)) e ∙ ap (map (task_after clock)) d

pub one_made : (clock : ℕ) (tasks more : List Task) (all ops rest : List Op) (op : Op) → ops ≡ rest ++ op ∷ [] → more ≡ tasks ++ task_after clock op ∷ []
    → tasks ++ map (task_after clock) (reverse ops) ≡ map (task_after clock) all → more ++ map (task_after clock) (reverse rest) ≡ map (task_after clock) all
one_made clock tasks more all ops rest op e d i =
    let turned : reverse ops ≡ op ∷ reverse rest = ap reverse e ∙ reverse-append rest (op ∷ []) in
    ap (λ (l : List Task). l ++ map (task_after clock) (reverse rest)) d
    ∙ (append_assoc tasks (task_after clock op ∷ []) (map (task_after clock) (reverse rest)) ∙ (ap (λ (l : List Op). tasks ++ map (task_after clock) l) (sym turned) ∙ i))

pub all_made : (clock : ℕ) (tasks : List Task) (all ops : List Op) (n : ℕ) → n ≡ 0 → n ≡ length ops → tasks ++ map (task_after clock) (reverse ops) ≡ map (task_after clock) all → tasks ≡ map (task_after clock) all
all_made clock tasks all [] n z e i = sym (append-nil tasks) ∙ i
all_made clock tasks all (op ∷ ops) n z e i = absurd (omega (arith, z, e))

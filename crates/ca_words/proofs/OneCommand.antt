-- A list of words names one command at most.
use Rattle.std.proofs.Common.{◌≡◌, ◌+◌, ◌*◌, ℕ, List, [], get_or, decimal, refl, ap, sym, ◌∙◌, arith}
use Rattle.std.proofs.lemmas.Fmt.{decimal_injective}
use Rattle.ca_words.specs.declared.Command.{Command}
use Rattle.ca_words.specs.declared.Command.TheVariants.{OnText, Alone, Trace, Verify}
use Rattle.ca_words.specs.declared.TextCommand.TheVariants.{Run, Tell}
use Rattle.ca_words.specs.declared.PlanCommand.TheVariants.{Pairs, Plan, Emit}
use Rattle.ca_words.specs.declared.LoneCommand.TheVariants.{Gen, Load}
use Rattle.ca_words.specs.Words.{words_of, Names}

-- the first and the third letter of the words, by which commands differ
abbrev pub letters : List (List ℕ) → ℕ
letters words = get_or (get_or words 0 []) 0 0 * 256 + get_or (get_or words 0 []) 2 0

abbrev pub letters_of : Command → ℕ
letters_of (OnText (Run w b)) = 29294
letters_of (OnText (Tell Pairs)) = 28777
letters_of (OnText (Tell Plan)) = 28769
letters_of (OnText (Tell Emit)) = 25961
letters_of (Alone (Gen x n)) = 26478
letters_of (Alone (Load x n w)) = 27745
letters_of (Trace w b) = 29793
letters_of (Verify b) = 30322

pub are_letters : (c : Command) → letters (words_of c) ≡ letters_of c
are_letters (OnText (Run w b)) = refl
are_letters (OnText (Tell Pairs)) = refl
are_letters (OnText (Tell Plan)) = refl
are_letters (OnText (Tell Emit)) = refl
are_letters (Alone (Gen x n)) = refl
are_letters (Alone (Load x n w)) = refl
are_letters (Trace w b) = refl
are_letters (Verify b) = refl

same_letters : {words : List (List ℕ)} (c d : Command) → Names words c → Names words d → letters_of c ≡ letters_of d
same_letters c d s t = sym (are_letters c) ∙ ap letters (sym s.spelled ∙ t.spelled) ∙ are_letters d

-- words name one command at most
pub one_command : (words : List (List ℕ)) (c d : Command) → Names words c → Names words d → c ≡ d
one_command words (OnText (Run w b)) (OnText (Run v a)) s t =
    let same_workers : decimal w ≡ decimal v = cc in
    let same_budget : decimal b ≡ decimal a = cc in
    let workers : w ≡ v = decimal_injective w v (omega arith) (omega arith) same_workers in
    let budget : b ≡ a = decimal_injective b a (omega arith) (omega arith) same_budget in
    cc
one_command words (OnText (Tell Pairs)) (OnText (Tell Pairs)) s t = refl
one_command words (OnText (Tell Plan)) (OnText (Tell Plan)) s t = refl
one_command words (OnText (Tell Emit)) (OnText (Tell Emit)) s t = refl
one_command words (OnText (Run w b)) (OnText (Tell Pairs)) s t = absurd (omega (arith, same_letters (OnText (Run w b)) (OnText (Tell Pairs)) s t))
one_command words (OnText (Tell Pairs)) (OnText (Run v a)) s t = absurd (omega (arith, same_letters (OnText (Tell Pairs)) (OnText (Run v a)) s t))
one_command words (Alone (Gen x n)) (OnText (Tell Pairs)) s t = absurd (omega (arith, same_letters (Alone (Gen x n)) (OnText (Tell Pairs)) s t))
one_command words (OnText (Tell Pairs)) (Alone (Gen y m)) s t = absurd (omega (arith, same_letters (OnText (Tell Pairs)) (Alone (Gen y m)) s t))
one_command words (OnText (Run w b)) (OnText (Tell Plan)) s t = absurd (omega (arith, same_letters (OnText (Run w b)) (OnText (Tell Plan)) s t))
one_command words (OnText (Tell Plan)) (OnText (Run v a)) s t = absurd (omega (arith, same_letters (OnText (Tell Plan)) (OnText (Run v a)) s t))
one_command words (Alone (Gen x n)) (OnText (Tell Plan)) s t = absurd (omega (arith, same_letters (Alone (Gen x n)) (OnText (Tell Plan)) s t))
one_command words (OnText (Tell Plan)) (Alone (Gen y m)) s t = absurd (omega (arith, same_letters (OnText (Tell Plan)) (Alone (Gen y m)) s t))
one_command words (OnText (Run w b)) (OnText (Tell Emit)) s t = absurd (omega (arith, same_letters (OnText (Run w b)) (OnText (Tell Emit)) s t))
one_command words (OnText (Tell Emit)) (OnText (Run v a)) s t = absurd (omega (arith, same_letters (OnText (Tell Emit)) (OnText (Run v a)) s t))
one_command words (Alone (Gen x n)) (OnText (Tell Emit)) s t = absurd (omega (arith, same_letters (Alone (Gen x n)) (OnText (Tell Emit)) s t))
one_command words (OnText (Tell Emit)) (Alone (Gen y m)) s t = absurd (omega (arith, same_letters (OnText (Tell Emit)) (Alone (Gen y m)) s t))
one_command words (OnText (Tell Pairs)) (OnText (Tell Plan)) s t = absurd (omega (arith, same_letters (OnText (Tell Pairs)) (OnText (Tell Plan)) s t))
one_command words (OnText (Tell Pairs)) (OnText (Tell Emit)) s t = absurd (omega (arith, same_letters (OnText (Tell Pairs)) (OnText (Tell Emit)) s t))
one_command words (OnText (Tell Plan)) (OnText (Tell Pairs)) s t = absurd (omega (arith, same_letters (OnText (Tell Plan)) (OnText (Tell Pairs)) s t))
one_command words (OnText (Tell Plan)) (OnText (Tell Emit)) s t = absurd (omega (arith, same_letters (OnText (Tell Plan)) (OnText (Tell Emit)) s t))
one_command words (OnText (Tell Emit)) (OnText (Tell Pairs)) s t = absurd (omega (arith, same_letters (OnText (Tell Emit)) (OnText (Tell Pairs)) s t))
one_command words (OnText (Tell Emit)) (OnText (Tell Plan)) s t = absurd (omega (arith, same_letters (OnText (Tell Emit)) (OnText (Tell Plan)) s t))
one_command words (OnText (Run w b)) (Alone (Gen x n)) s t = absurd (omega (arith, same_letters (OnText (Run w b)) (Alone (Gen x n)) s t))
one_command words (Alone (Gen x n)) (OnText (Run w b)) s t = absurd (omega (arith, same_letters (Alone (Gen x n)) (OnText (Run w b)) s t))
one_command words (Alone (Gen x n)) (Alone (Gen y m)) s t =
    let same_seed : decimal x ≡ decimal y = cc in
    let same_size : decimal n ≡ decimal m = cc in
    let seed : x ≡ y = decimal_injective x y (omega arith) (omega arith) same_seed in
    let size : n ≡ m = decimal_injective n m (omega arith) (omega arith) same_size in
    cc
one_command words (Alone (Load x n w)) (OnText (Run k b)) s t = absurd (omega (arith, same_letters (Alone (Load x n w)) (OnText (Run k b)) s t))
one_command words (OnText (Run k b)) (Alone (Load x n w)) s t = absurd (omega (arith, same_letters (OnText (Run k b)) (Alone (Load x n w)) s t))
one_command words (Alone (Load x n w)) (OnText (Tell Pairs)) s t = absurd (omega (arith, same_letters (Alone (Load x n w)) (OnText (Tell Pairs)) s t))
one_command words (OnText (Tell Pairs)) (Alone (Load x n w)) s t = absurd (omega (arith, same_letters (OnText (Tell Pairs)) (Alone (Load x n w)) s t))
one_command words (Alone (Load x n w)) (OnText (Tell Plan)) s t = absurd (omega (arith, same_letters (Alone (Load x n w)) (OnText (Tell Plan)) s t))
one_command words (OnText (Tell Plan)) (Alone (Load x n w)) s t = absurd (omega (arith, same_letters (OnText (Tell Plan)) (Alone (Load x n w)) s t))
one_command words (Alone (Load x n w)) (OnText (Tell Emit)) s t = absurd (omega (arith, same_letters (Alone (Load x n w)) (OnText (Tell Emit)) s t))
one_command words (OnText (Tell Emit)) (Alone (Load x n w)) s t = absurd (omega (arith, same_letters (OnText (Tell Emit)) (Alone (Load x n w)) s t))
one_command words (Alone (Load x n w)) (Alone (Gen z k)) s t = absurd (omega (arith, same_letters (Alone (Load x n w)) (Alone (Gen z k)) s t))
one_command words (Alone (Gen z k)) (Alone (Load x n w)) s t = absurd (omega (arith, same_letters (Alone (Gen z k)) (Alone (Load x n w)) s t))
one_command words (Alone (Load x n w)) (Alone (Load y m v)) s t =
    let same_seed : decimal x ≡ decimal y = cc in
    let same_size : decimal n ≡ decimal m = cc in
    let same_workers : decimal w ≡ decimal v = cc in
    let seed : x ≡ y = decimal_injective x y (omega arith) (omega arith) same_seed in
    let size : n ≡ m = decimal_injective n m (omega arith) (omega arith) same_size in
    let workers : w ≡ v = decimal_injective w v (omega arith) (omega arith) same_workers in
    cc
one_command words (Verify k) (OnText (Run w b)) s t = absurd (omega (arith, same_letters (Verify k) (OnText (Run w b)) s t))
one_command words (OnText (Run w b)) (Verify k) s t = absurd (omega (arith, same_letters (OnText (Run w b)) (Verify k) s t))
one_command words (Verify k) (OnText (Tell Pairs)) s t = absurd (omega (arith, same_letters (Verify k) (OnText (Tell Pairs)) s t))
one_command words (OnText (Tell Pairs)) (Verify k) s t = absurd (omega (arith, same_letters (OnText (Tell Pairs)) (Verify k) s t))
one_command words (Verify k) (OnText (Tell Plan)) s t = absurd (omega (arith, same_letters (Verify k) (OnText (Tell Plan)) s t))
one_command words (OnText (Tell Plan)) (Verify k) s t = absurd (omega (arith, same_letters (OnText (Tell Plan)) (Verify k) s t))
one_command words (Verify k) (OnText (Tell Emit)) s t = absurd (omega (arith, same_letters (Verify k) (OnText (Tell Emit)) s t))
one_command words (OnText (Tell Emit)) (Verify k) s t = absurd (omega (arith, same_letters (OnText (Tell Emit)) (Verify k) s t))
one_command words (Verify k) (Alone (Gen x n)) s t = absurd (omega (arith, same_letters (Verify k) (Alone (Gen x n)) s t))
one_command words (Alone (Gen x n)) (Verify k) s t = absurd (omega (arith, same_letters (Alone (Gen x n)) (Verify k) s t))
one_command words (Verify k) (Alone (Load x n w)) s t = absurd (omega (arith, same_letters (Verify k) (Alone (Load x n w)) s t))
one_command words (Alone (Load x n w)) (Verify k) s t = absurd (omega (arith, same_letters (Alone (Load x n w)) (Verify k) s t))
one_command words (Verify b) (Verify a) s t =
    let same_budget : decimal b ≡ decimal a = cc in
    let budget : b ≡ a = decimal_injective b a (omega arith) (omega arith) same_budget in
    cc
one_command words (Trace v k) (OnText (Run w b)) s t = absurd (omega (arith, same_letters (Trace v k) (OnText (Run w b)) s t))
one_command words (OnText (Run w b)) (Trace v k) s t = absurd (omega (arith, same_letters (OnText (Run w b)) (Trace v k) s t))
one_command words (Trace v k) (OnText (Tell Pairs)) s t = absurd (omega (arith, same_letters (Trace v k) (OnText (Tell Pairs)) s t))
one_command words (OnText (Tell Pairs)) (Trace v k) s t = absurd (omega (arith, same_letters (OnText (Tell Pairs)) (Trace v k) s t))
one_command words (Trace v k) (OnText (Tell Plan)) s t = absurd (omega (arith, same_letters (Trace v k) (OnText (Tell Plan)) s t))
one_command words (OnText (Tell Plan)) (Trace v k) s t = absurd (omega (arith, same_letters (OnText (Tell Plan)) (Trace v k) s t))
one_command words (Trace v k) (OnText (Tell Emit)) s t = absurd (omega (arith, same_letters (Trace v k) (OnText (Tell Emit)) s t))
one_command words (OnText (Tell Emit)) (Trace v k) s t = absurd (omega (arith, same_letters (OnText (Tell Emit)) (Trace v k) s t))
one_command words (Trace v k) (Alone (Gen x n)) s t = absurd (omega (arith, same_letters (Trace v k) (Alone (Gen x n)) s t))
one_command words (Alone (Gen x n)) (Trace v k) s t = absurd (omega (arith, same_letters (Alone (Gen x n)) (Trace v k) s t))
one_command words (Trace v k) (Alone (Load x n w)) s t = absurd (omega (arith, same_letters (Trace v k) (Alone (Load x n w)) s t))
one_command words (Alone (Load x n w)) (Trace v k) s t = absurd (omega (arith, same_letters (Alone (Load x n w)) (Trace v k) s t))
one_command words (Trace v k) (Verify a) s t = absurd (omega (arith, same_letters (Trace v k) (Verify a) s t))
one_command words (Verify a) (Trace v k) s t = absurd (omega (arith, same_letters (Verify a) (Trace v k) s t))
one_command words (Trace w b) (Trace v a) s t =
    let same_workers : decimal w ≡ decimal v = cc in
    let same_budget : decimal b ≡ decimal a = cc in
    let workers : w ≡ v = decimal_injective w v (omega arith) (omega arith) same_workers in
    let budget : b ≡ a = decimal_injective b a (omega arith) (omega arith) same_budget in
    cc

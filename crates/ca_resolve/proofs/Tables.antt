-- The walks that make the tables of classes and members.
use Rattle.std.proofs.Common.{◌≡◌, ℕ, ◌+◌, ◌<◌, ◌≤◌, List, [], ◌∷◌, ◌++◌, map, length, take, drop, get_or, refl, sym, ◌∙◌, ap, arith, Bor}
use Rattle.std.proofs.lemmas.List.{append_assoc, append-nil, drop_all, take_all, take_more, map-append, length-append}
use Rattle.std.specs.List.{zip}
use Rattle.ca_lists.proofs.Places.{item_and_rest}
use Rattle.ca_tree.specs.declared.tree.Member.{Member}
use Rattle.ca_tree.specs.declared.tree.ClassNode.{ClassNode}
use Rattle.ca_tree.specs.View.{member_view, class_view}
use Rattle.ca_resolve.specs.declared.classes.Meaning.{Meaning as CodeMeaning}
use Rattle.ca_resolve.specs.declared.classes.MemberTable.{MemberTable}
use Rattle.ca_resolve.specs.Scopes.{Numbers, meaning_of, meanings, member_name, after_member, after_members, after_class, members_from}
use Rattle.ca_resolve.specs.View.{meaning_view, members_view}
use Rattle.ca_resolve.proofs.Index.{names_of}

zip_more : {X : Type 0} (ns : List (List ℕ)) (xs : List X) (n : List ℕ) (x : X) → length ns ≡ length xs → zip (ns ++ n ∷ []) (xs ++ x ∷ []) ≡ zip ns xs ++ (n, x) ∷ []
zip_more [] [] n x h = refl
zip_more [] (y ∷ ys) n x h = absurd (omega (arith, h))
zip_more (m ∷ ms) [] n x h = absurd (omega (arith, h))
zip_more (m ∷ ms) (y ∷ ys) n x h = ap (λ zs. (m, y) ∷ zs) (zip_more ms ys n x (omega (arith, h)))

-- one item more has been read and seen
pub one_more_seen : {X Y Z V : Type 0} (view : X → Y) (f : Y → Z) (g : V → Z) (xs : List X) (i : ℕ) (x : X) (vs ws : List V) (v : V)
    → i < length xs → x ≡ get_or xs i x → g v ≡ f (view x) → ws ≡ vs ++ v ∷ [] → map g vs ≡ map f (map view (take i xs)) → map g ws ≡ map f (map view (take (i + 1) xs))
one_more_seen view f g xs i x vs ws v h is same more seen =
    let front = take i xs in
    let taken : take (i + 1) xs ≡ front ++ x ∷ [] = take_more xs i x h ∙ ap (λ y. front ++ y ∷ []) (sym is) in
    ap (map g) more
    ∙ (map-append g vs (v ∷ [])
    ∙ (ap (λ l. l ++ g v ∷ []) seen
    ∙ (ap (λ z. map f (map view front) ++ z ∷ []) same
    ∙ (sym (map-append f (map view front) (view x ∷ []))
    ∙ (ap (map f) (sym (map-append view front (x ∷ []))) ∙ ap (λ l. map f (map view l)) (sym taken))))))

pub all_seen : {X Y Z V : Type 0} (view : X → Y) (f : Y → Z) (g : V → Z) (xs : List X) (i : ℕ) (vs : List V) → length xs ≤ i → map g vs ≡ map f (map view (take i xs)) → map g vs ≡ map f (map view xs)
all_seen view f g xs i vs h seen = seen ∙ ap (λ l. map f (map view l)) (take_all i xs h)

-- members

-- the walk has come to i, with these names, meanings and numbers
abbrev pub Tabled : List (List ℕ) → ℕ → Numbers → List Member → ℕ → List (Bor (List ℕ)) → List CodeMeaning → Numbers → Type 0
Tabled classes class first members i names found next =
    (length (names_of names) ≡ length (map meaning_view found))
    × (meanings classes class first (map member_view members) ≡ zip (names_of names) (map meaning_view found) ++ meanings classes class next (map member_view (drop i members)))
    × (after_members first (map member_view members) ≡ after_members next (map member_view (drop i members)))

pub table_start : (classes : List (List ℕ)) (class : ℕ) (first : Numbers) (members : List Member) (names : List (Bor (List ℕ))) (found : List CodeMeaning) → names ≡ [] → found ≡ [] → Tabled classes class first members 0 names found first
table_start classes class first members names found p q = rw (p, q) (refl, refl, refl)

pub table_step : (classes : List (List ℕ)) (class : ℕ) (first : Numbers) (members : List Member) (i : ℕ) (x : Member) (names more_names : List (Bor (List ℕ))) (found more : List CodeMeaning) (name : Bor (List ℕ)) (m : CodeMeaning) (next after : Numbers)
    → i < length members → x ≡ get_or members i x → name.now ≡ member_name (member_view x) → meaning_view m ≡ meaning_of classes class next (member_view x) → after ≡ after_member next (member_view x)
    → more_names ≡ names ++ name ∷ [] → more ≡ found ++ m ∷ [] → Tabled classes class first members i names found next → Tabled classes class first members (i + 1) more_names more after
table_step classes class first members i x names more_names found more name m next after h is called means follows p q (as_many, whole, numbers) =
    let rest = item_and_rest members i x h is in
    let tail = meanings classes class (after_member next (member_view x)) (map member_view (drop (i + 1) members)) in
    let front = zip (names_of names) (map meaning_view found) in
    let all_names : names_of (names ++ name ∷ []) ≡ names_of names ++ name.now ∷ [] = map-append (λ n. n.now) names (name ∷ []) in
    let all_found : map meaning_view (found ++ m ∷ []) ≡ map meaning_view found ++ meaning_view m ∷ [] = map-append meaning_view found (m ∷ []) in
    let one : meanings classes class next (map member_view (drop i members)) ≡ (name.now, meaning_view m) ∷ tail =
    ap (λ ms. meanings classes class next (map member_view ms)) rest
    ∙ (ap (λ n. (n, meaning_of classes class next (member_view x)) ∷ tail) (sym called) ∙ ap (λ v. (name.now, v) ∷ tail) (sym means)) in
    let longer : zip (names_of (names ++ name ∷ [])) (map meaning_view (found ++ m ∷ [])) ≡ front ++ (name.now, meaning_view m) ∷ [] =
    rw (all_names, all_found) (zip_more (names_of names) (map meaning_view found) name.now (meaning_view m) as_many) in
    let a : length (names_of (names ++ name ∷ [])) ≡ length (names_of names) + 1 = ap length all_names ∙ length-append (names_of names) (name.now ∷ []) in
    let b : length (map meaning_view (found ++ m ∷ [])) ≡ length (map meaning_view found) + 1 = ap length all_found ∙ length-append (map meaning_view found) (meaning_view m ∷ []) in
    rw (p, q, follows) (
      omega (arith, a, b, as_many),
      whole ∙ (ap (λ ms. front ++ ms) one ∙ (sym (append_assoc front ((name.now, meaning_view m) ∷ []) tail) ∙ ap (λ zs. zs ++ tail) (sym longer))),
      numbers ∙ ap (λ ms. after_members next (map member_view ms)) rest,
    )

pub table_end : (classes : List (List ℕ)) (class : ℕ) (first : Numbers) (members : List Member) (i : ℕ) (names : List (Bor (List ℕ))) (found : List CodeMeaning) (next : Numbers) → length members ≤ i → Tabled classes class first members i names found next
    → (meanings classes class first (map member_view members) ≡ zip (names_of names) (map meaning_view found)) × (after_members first (map member_view members) ≡ next)
table_end classes class first members i names found next h (as_many, whole, numbers) =
    let nothing = drop_all i members h in (
      whole ∙ (ap (λ ms. zip (names_of names) (map meaning_view found) ++ meanings classes class next (map member_view ms)) nothing ∙ append-nil (zip (names_of names) (map meaning_view found))),
      numbers ∙ ap (λ ms. after_members next (map member_view ms)) nothing,
    )

-- classes

-- the walk has come to i, with these tables and the next class's numbers
abbrev pub Listed : List (List ℕ) → Numbers → List ClassNode → ℕ → List MemberTable → ℕ → Numbers → Type 0
Listed names first classes i tables class next =
    members_from names 0 first (map class_view classes) ≡ map members_view tables ++ members_from names class next (map class_view (drop i classes))

pub list_start : (names : List (List ℕ)) (first : Numbers) (classes : List ClassNode) (tables : List MemberTable) (class : ℕ) (next : Numbers) → tables ≡ [] → class ≡ 0 → next ≡ first → Listed names first classes 0 tables class next
list_start names first classes tables class next p q r = rw (p, q, r) refl

pub list_step : (names : List (List ℕ)) (first : Numbers) (classes : List ClassNode) (i : ℕ) (c : ClassNode) (members : List Member) (tables more : List MemberTable) (t : MemberTable) (class following : ℕ) (next after : Numbers)
    → i < length classes → c ≡ get_or classes i c → members ≡ c.members.items → members_view t ≡ meanings names class next (map member_view members) → following ≡ class + 1 → after ≡ after_class next (map member_view members)
    → more ≡ tables ++ t ∷ [] → Listed names first classes i tables class next → Listed names first classes (i + 1) more following after
list_step names first classes i c members tables more t class following next after h is same table counted follows p whole =
    let tail = members_from names (class + 1) (after_class next (map member_view members)) (map class_view (drop (i + 1) classes)) in
    let one : members_from names class next (map class_view (drop i classes)) ≡ members_view t ∷ tail =
    ap (λ cs. members_from names class next (map class_view cs)) (item_and_rest classes i c h is)
    ∙ (ap (λ ms. meanings names class next (map member_view ms) ∷ members_from names (class + 1) (after_class next (map member_view ms)) (map class_view (drop (i + 1) classes))) (sym same) ∙ ap (λ v. v ∷ tail) (sym table)) in
    rw (p, counted, follows)
    (whole ∙ (ap (λ ts. map members_view tables ++ ts) one ∙ (sym (append_assoc (map members_view tables) (members_view t ∷ []) tail) ∙ ap (λ ts. ts ++ tail) (sym (map-append members_view tables (t ∷ []))))))

pub list_end : (names : List (List ℕ)) (first : Numbers) (classes : List ClassNode) (i : ℕ) (tables : List MemberTable) (class : ℕ) (next : Numbers) → length classes ≤ i → Listed names first classes i tables class next
    → members_from names 0 first (map class_view classes) ≡ map members_view tables
list_end names first classes i tables class next h whole =
    whole ∙ (ap (λ cs. map members_view tables ++ members_from names class next (map class_view cs)) (drop_all i classes h) ∙ append-nil (map members_view tables))

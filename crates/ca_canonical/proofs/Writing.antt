-- Writing some pieces and then others.
use Rattle.std.proofs.Common.{◌≡◌, ℕ, List, [], ◌∷◌, ◌++◌, Bool, Option, Some, None, Result, Ok, Err, OnOk, is_err, refl, sym, ap, ◌∙◌, subst, append_assoc, append-nil, false}
use Rattle.std.proofs.lemmas.List.{map-append}
use Rattle.ca_tree.specs.declared.token.Kind.{Kind}
use Rattle.ca_tree.specs.declared.token.Kind.TheVariants.{Sign as SignKind}
use Rattle.ca_tree.specs.declared.token.Sign.{Sign}
use Rattle.ca_tree.specs.Spellings.{sign_text}
use Rattle.ca_canonical.specs.Marks.{Piece, token, tokens}
use Rattle.ca_canonical.specs.Texts.{is_semicolon, semicolon_first, behind_brace, gap_behind, gap_before, depth_behind_sign, pieces_from, text_of_pieces}
use Rattle.ca_canonical.specs.clauses.Pens.{Written, Puts, Writes, WritesPieces, gap_text, waits, waiting, whole}

pub tokens_both : (ks ls : List Kind) → tokens (ks ++ ls) ≡ tokens ks ++ tokens ls
tokens_both ks ls = map-append token ks ls

pub as_pieces : {a b : Written} {ks : List Kind} → Writes a b ks → WritesPieces a b (tokens ks)
as_pieces w = record { lasted = w.lasted; says = w.says }

as_tokens : {a b : Written} {ks : List Kind} {ps : List Piece} → WritesPieces a b ps → ps ≡ tokens ks → Writes a b ks
as_tokens {a = a} w e = record { lasted = w.lasted; says = λ f more. w.says f more ∙ ap (λ ps. whole a (ps ++ more)) e }

pub nothing : (p : Written) → Writes p p []
nothing p = record { lasted = λ f. f; says = λ f more. refl }

pub after : {a b c : Written} {ps qs : List Piece} → WritesPieces a b ps → WritesPieces b c qs → WritesPieces a c (ps ++ qs)
after {a = a} {ps = ps} {qs = qs} v w = record {
  lasted = λ f. v.lasted (w.lasted f);
  says = λ f more. w.says f more ∙ v.says (w.lasted f) (qs ++ more) ∙ ap (whole a) (sym (append_assoc ps qs more));
}

pub then : {a b c : Written} {ks ls : List Kind} → Writes a b ks → Writes b c ls → Writes a c (ks ++ ls)
then {ks = ks} {ls = ls} v w = as_tokens (after (as_pieces v) (as_pieces w)) (sym (tokens_both ks ls))

-- a piece of this text, and the byte behind it
ended_by : (front text rest : List ℕ) (b : ℕ) → ((front ++ text) ++ b ∷ []) ++ rest ≡ front ++ (text ++ b ∷ rest)
ended_by front text rest b = append_assoc (front ++ text) (b ∷ []) rest ∙ append_assoc front text (b ∷ rest)

gap_ends : (front text rest : List ℕ) (gap : Option ℕ) (more : List Piece)
    → (((front ++ text) ++ gap_text gap) ++ waiting (waits gap) (semicolon_first more)) ++ rest ≡ front ++ (text ++ gap_before gap more ∷ rest)
gap_ends front text rest (Some b) more = ap (λ z. z ++ rest) (append-nil ((front ++ text) ++ b ∷ [])) ∙ ended_by front text rest b
gap_ends front text rest None more = ap (λ z. (z ++ behind_brace (semicolon_first more) ∷ []) ++ rest) (append-nil (front ++ text)) ∙ ended_by front text rest (behind_brace (semicolon_first more))

-- a piece behind which the round brackets are as before
pub one_piece : {old now : Written} {semicolon : Bool} {text : List ℕ} {gap : Option ℕ} (p : Piece) → Puts semicolon text gap old now
    → ((more : List Piece) → semicolon_first (p ∷ more) ≡ semicolon)
    → ((more : List Piece) → pieces_from old.depth (p ∷ more) ≡ text ++ gap_before gap more ∷ pieces_from old.depth more) → WritesPieces old now (p ∷ [])
one_piece {old = old} {semicolon = semicolon} {text = text} {gap = gap} p w s e = record {
  lasted = w.lasted;
  says = λ f more.
      ap (λ z. whole z more) (w.is f)
      ∙ (gap_ends (old.text ++ waiting old.brace semicolon) text (pieces_from old.depth more) gap more
      ∙ (ap (λ b. (old.text ++ waiting old.brace b) ++ (text ++ gap_before gap more ∷ pieces_from old.depth more)) (sym (s more))
      ∙ ap (λ z. (old.text ++ waiting old.brace (semicolon_first (p ∷ more))) ++ z) (sym (e more))));
}

pub one_token : {old now : Written} {semicolon : Bool} {text : List ℕ} {gap : Option ℕ} (k : Kind) → Puts semicolon text gap old now
    → ((more : List Piece) → semicolon_first (token k ∷ more) ≡ semicolon)
    → ((more : List Piece) → pieces_from old.depth (token k ∷ more) ≡ text ++ gap_before gap more ∷ pieces_from old.depth more) → Writes old now (k ∷ [])
one_token k w s e = as_tokens (one_piece (token k) w s e) refl

-- a sign, behind which they are counted
pub one_sign : {old mid : Written} (s : Sign) → Puts (is_semicolon s) (sign_text s) (gap_behind old.depth s) old mid
    → (depth : ℕ) → depth ≡ depth_behind_sign mid.depth s → Writes old (record { text = mid.text; depth = depth; brace = mid.brace; failed = mid.failed }) (SignKind s ∷ [])
one_sign {old = old} s w depth e = record {
  lasted = w.lasted;
  says = λ f more.
      let is = w.is f in
      let n : depth ≡ depth_behind_sign old.depth s = e ∙ ap (λ z. depth_behind_sign z.depth s) is in
      rw (is, n) (gap_ends (old.text ++ waiting old.brace (is_semicolon s)) (sign_text s) (pieces_from (depth_behind_sign old.depth s) more) (gap_behind old.depth s) more);
}

-- of all that is to be written behind the old text, these pieces are left
pub record Leaves (old : Written) (all : List Piece) (now : Written) (left : List Piece) : Type 0 where
  pub lasted : now.failed ≡ false → old.failed ≡ false
  pub says : now.failed ≡ false → (more : List Piece) → whole now (left ++ more) ≡ whole old (all ++ more)

pub all_left : (p : Written) (all : List Piece) → Leaves p all p all
all_left p all = record { lasted = λ f. f; says = λ f more. refl }

pub fewer_left : {old now next : Written} {all ps left : List Piece} → Leaves old all now (ps ++ left) → WritesPieces now next ps → Leaves old all next left
fewer_left {now = now} {ps = ps} {left = left} l w = record {
  lasted = λ f. l.lasted (w.lasted f);
  says = λ f more. w.says f (left ++ more) ∙ ap (whole now) (sym (append_assoc ps left more)) ∙ l.says (w.lasted f) more;
}

pub fewer_tokens : {old now next : Written} {all : List Piece} {ks : List Kind} (left : List Kind) → Leaves old all now (tokens (ks ++ left)) → Writes now next ks → Leaves old all next (tokens left)
fewer_tokens {old = old} {now = now} {all = all} {ks = ks} left l w = fewer_left (subst (λ ps. Leaves old all now ps) (tokens_both ks left) l) (as_pieces w)

pub none_left : {old now : Written} {all left : List Piece} → Leaves old all now left → left ≡ [] → WritesPieces old now all
none_left {now = now} l e = record { lasted = l.lasted; says = λ f more. ap (λ ps. whole now (ps ++ more)) (sym e) ∙ l.says f more }

pub no_token_left : {old now : Written} {all left : List Kind} → Leaves old (tokens all) now (tokens left) → left ≡ [] → Writes old now all
no_token_left l e = as_tokens (none_left l (ap tokens e)) refl

pub finished : (p : Written) (ps : List Piece) → p ≡ record { text = []; depth = 0; brace = false; failed = false } → whole p (ps ++ []) ≡ text_of_pieces ps
finished p ps e = ap (λ q. whole q (ps ++ [])) e ∙ ap text_of_pieces (append-nil ps)

-- what holds where there is no error
pub no_error : {T E : Type 0} (P : Type 0) (r : Result T E) → is_err r ≡ false → OnOk r P → P
no_error P (Ok t) h p = p
no_error P (Err e) h p = absurd (cc)

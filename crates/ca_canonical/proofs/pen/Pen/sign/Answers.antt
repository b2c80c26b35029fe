use Rattle.std.proofs.Common.{subst, sym, ap}
use Rattle.ca_tree.specs.Spellings.{sign_text}
use Rattle.ca_canonical.specs.Texts.{gap_behind, is_semicolon}
use Rattle.ca_canonical.specs.clauses.Pens.{Written, Puts}
use Rattle.ca_canonical.proofs.Writing.{one_sign}
use Rattle.ca_canonical.proofs.pen.Pen.sign.Goals as goal

pub returns : goal.returns
returns c =
    let s = c.args.sign in
    let old = c.args.self.now in
    let given : Puts (is_semicolon s) (sign_text s) (gap_behind c.self.inside.depth s) old c.put.new.self = rw (c.gap_behind-gap.ensures, c.is_semicolon.ensures, c.as_bytes.ensures.value, c.text.ensures) at c.put.ensures in
    let seen : Puts (is_semicolon s) (sign_text s) (gap_behind old.depth s) old c.put.new.self = subst (λ d. Puts (is_semicolon s) (sign_text s) (gap_behind d s) old c.put.new.self) (ap (λ (p : Written). p.depth) c.self.view_is) given in
    one_sign s (subst (λ (p : Written). Puts (is_semicolon s) (sign_text s) (gap_behind old.depth s) old p) (sym c.self-2.view_is) seen) c.depth_behind-self-inside.result c.depth_behind-self-inside.ensures

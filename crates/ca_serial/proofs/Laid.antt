-- Bodies that heed marks, as they are laid out.
use Rattle.std.proofs.Common.{◌≡◌, ℕ, List, true, false, Some, None, refl, ap, sym, subst}
use Rattle.std.specs.Prelude.{slice_get}
use Rattle.ca_program.specs.declared.program.StmtForm.{StmtForm, Block', PutLocal, PutField, PutItem, NewLocal, NewField, NewItem, Invoke, If', While', For', Return, Print}
use Rattle.ca_program.specs.Plain.{PlainProgram, Statement}
use Rattle.ca_program.specs.View.{form_view}
use Rattle.ca_program.specs.Kinds.{Kind, Kinds}
use Rattle.ca_program.specs.Instructions.{Code, HasAt, StandsAt}
use Rattle.ca_program.specs.Layout.{all_acts}
use Rattle.ca_meaning.specs.ProgramTyped.{ProgramTyped}
use Rattle.ca_parallel.specs.Lists.{PlainMarks, no_marks, loop_in, either}
use Rattle.ca_parallel.specs.Marks.{SoundMarks}
use Rattle.ca_code.specs.declared.layout.Code.{Code as CodeHeld}
use Rattle.ca_code.specs.Codes.{IsLaidOutOnce, IsLaidOutWith, code_seen}
use Rattle.ca_code.specs.Laying.{Laying, Adds, HandsOn}
use Rattle.ca_code.proofs.LaidOut.{main_is}
use Rattle.ca_code_laws.specs.Heeding.{heed_acts, heed_hands, handed_code, heeding_code, main_heeding}
use Rattle.ca_code_laws.specs.Told.{IsLaidOut}
use Rattle.ca_code_laws.proofs.Grown.{marked_ends, plain_ends}
use Rattle.ca_sections.specs.Extending.{Extended}
use Rattle.ca_sections.proofs.Extending.{still_has, still_laid, still_stands}
use Rattle.ca_sections.proofs.Fitting.{call_loop_fits}
use Rattle.ca_serial.specs.Codes.{IsMarked, IsRun}

-- a statement that is no call of an operation
pub other_act : (marks : PlainMarks) (ks : Kinds) (line top : ℕ) (k : StmtForm) (own : ℕ) → ((a : _) (b : _) (c : _) → k ≡ Invoke a b c → ⊥) → all_acts ks line (form_view k own) top ≡ heed_acts marks ks line (form_view k own) top
other_act marks ks line top (Block' shape all) own h = refl
other_act marks ks line top (PutLocal l op e) own h = refl
other_act marks ks line top (PutField f op e) own h = refl
other_act marks ks line top (PutItem f i op e) own h = refl
other_act marks ks line top (NewLocal l c) own h = refl
other_act marks ks line top (NewField f c) own h = refl
other_act marks ks line top (NewItem f i c) own h = refl
other_act marks ks line top (Invoke e op args) own h = absurd (h e op args refl)
other_act marks ks line top (If' c p line1 a q line2 b) own h = refl
other_act marks ks line top (While' c p line1 b) own h = refl
other_act marks ks line top (For' site part p line1 first c q line2 next r line3 b) own h = refl
other_act marks ks line top (Return e) own h = refl
other_act marks ks line top (Print e) own h = refl

-- a loop that is marked, and a statement that isn't
pub handed_is : (marks : PlainMarks) (ks : Kinds) (κs : List Kind) (line top : ℕ) (s : Statement) (old now : Laying) → loop_in marks.loops s ≡ true → Adds old now (handed_code ks κs line s top) → HandsOn old now (heed_hands marks ks κs line s top) true
handed_is marks ks κs line top s old now e w = subst (λ b. HandsOn old now (either b (Some (handed_code ks κs line s top)) None) true) (sym e) w

pub unhanded_is : (marks : PlainMarks) (ks : Kinds) (κs : List Kind) (line top : ℕ) (s : Statement) (old now : Laying) → loop_in marks.loops s ≡ false → now ≡ old → HandsOn old now (heed_hands marks ks κs line s top) false
unhanded_is marks ks κs line top s old now e same = subst (λ b. HandsOn old now (either b (Some (handed_code ks κs line s top)) None) false) (sym e) same

-- the whole code
pub marked_so : (marks : PlainMarks) (p : PlainProgram) (c : CodeHeld) → IsLaidOutWith (λ ks. heed_acts marks ks) (λ ks κs. heed_hands marks ks κs) p c → IsMarked marks p (code_seen c) c.main
marked_so marks p c h = record {
  laid = record { functions = h.functions; ops = h.operations };
  heeding = λ m f is. h.heeding m f is;
  main = subst (λ code. HasAt (code_seen c) c.main code) (main_is (λ ks. heed_acts marks ks) (λ ks κs. heed_hands marks ks κs) p) h.main;
}

-- a code behind which loops are added is marked as it was
pub still_marked : (marks : PlainMarks) (p : PlainProgram) (c d : CodeHeld) → Extended c d → IsMarked marks p (code_seen c) c.main → IsMarked marks p (code_seen d) d.main
still_marked marks p c d e h = record {
  laid = still_laid c d e p h.laid;
  heeding = λ m f is. subst (λ xs. StandsAt (code_seen d) (slice_get xs m) (heeding_code marks p f)) (sym (ap (λ (c : CodeHeld). c.heeding.items) e.same)) (still_stands c d e (slice_get c.heeding.items m) (heeding_code marks p f) (h.heeding m f is));
  main = subst (λ (at : ℕ). HasAt (code_seen d) at (main_heeding marks p)) (sym (ap (λ (c : CodeHeld). c.main) e.same)) (still_has c d e c.main (main_heeding marks p) h.main);
}

-- what such a code runs, and one that holds each body once, where nothing is marked
pub marked_runs : (p : PlainProgram) → ProgramTyped p → (marks : PlainMarks) → SoundMarks p marks → (c : Code) (at : ℕ) → IsMarked marks p c at → IsRun marks p c at
marked_runs p typed marks sound c at h = record { laid = h.laid; ends = marked_ends p typed marks sound call_loop_fits c h.laid h.heeding at h.main }

pub once_runs : (p : PlainProgram) → ProgramTyped p → (marks : PlainMarks) → marks ≡ no_marks → (c : CodeHeld) → IsLaidOutOnce p c → IsRun marks p (code_seen c) c.main
once_runs p typed marks none c h =
    let laid : IsLaidOut p (code_seen c) = record { functions = h.functions; ops = h.operations } in
    let plain : IsRun no_marks p (code_seen c) c.main = record { laid = laid; ends = plain_ends p typed (code_seen c) laid c.main h.main } in
    subst (λ ms. IsRun ms p (code_seen c) c.main) (sym none) plain

use Rattle.std.proofs.Common.{◌≡◌, None, map, subst, ◌∙◌, ap}
use Rattle.ca_tree.specs.View.{class_view, statements_view, tree_view}
use Rattle.ca_program.specs.View.{program_view}
use Rattle.ca_resolve.specs.Judged.{Answers, fine, both, within}
use Rattle.ca_resolve.specs.Scopes.{classes_of}
use Rattle.ca_resolve.specs.View.{classes_view}
use Rattle.ca_types.specs.Statements.{behind_all, judge_statements}
use Rattle.ca_types.specs.Classes.{beginning, first_class, behind_classes, judge_classes, main_begin, program_of}
use Rattle.ca_types.specs.clauses.View.{env_view, parts_view, all_view}
use Rattle.ca_types.proofs.Answering.{joined}
use Rattle.ca_types.proofs.program.walk_over.Goals as goal

pub returns : goal.returns
returns c =
    let t = tree_view c.args.tree.now in
    let table : classes_view c.in_ok-table.table ≡ classes_of t.classes = c.in_ok-table.ensures ∙ ap (λ xs. classes_of (map class_view xs)) c.deref.ensures.value in
    let first = first_class (classes_of t.classes) in
    let j = judge_classes first t.classes in
    let parts : Answers parts_view c.in_ok-parts.parts j =
    subst (λ xs. Answers parts_view c.in_ok-parts.parts (judge_classes first (map class_view xs))) c.deref-2.ensures.value
    (subst (λ z. Answers parts_view c.in_ok-parts.parts (judge_classes (first_class z) (map class_view c.deref-2.result.now))) table c.in_ok-parts.ensures.judged) in
    let loops : c.in_ok-parts.loops ≡ (behind_classes first t.classes).loops =
    c.in_ok-parts.ensures.loops ∙ (ap (λ z. (behind_classes (first_class z) (map class_view c.deref-2.result.now)).loops) table ∙ ap (λ xs. (behind_classes first (map class_view xs)).loops) c.deref-2.ensures.value) in
    let begun : env_view c.new-walk.result ≡ main_begin t =
    c.new-walk.ensures ∙ (ap (λ z. beginning z None c.in_ok-parts.loops None) table ∙ ap (λ n. beginning (classes_of t.classes) None n None) loops) in
    let k = judge_statements (main_begin t) t.main in
    let stmts : Answers all_view c.in_ok-stmts.stmts k =
    subst (λ ss. Answers all_view c.in_ok-stmts.stmts (judge_statements (main_begin t) (statements_view ss))) c.deref-3.ensures.value
    (subst (λ z. Answers all_view c.in_ok-stmts.stmts (judge_statements z (statements_view c.deref-3.result.now))) begun c.in_ok-stmts.ensures.judged) in
    let left : env_view c.check_statements.new.walk ≡ behind_all (main_begin t) t.main =
    c.in_ok-stmts.ensures.behind ∙ (ap (λ z. behind_all z (statements_view c.deref-3.result.now)) begun ∙ ap (λ ss. behind_all (main_begin t) (statements_view ss)) c.deref-3.ensures.value) in
    let all = joined parts_view all_view c.in_ok-parts.parts c.in_ok-stmts.stmts c.both.result j k c.both.ensures parts stmts in
    subst (λ ls. Answers program_view c.program.result (within (both j k) (λ p. fine (program_of ls p)))) (ap (λ z. z.locals) left) (c.program.ensures (both j k) all)

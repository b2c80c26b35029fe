-- A text has one tree, one program or one refusal at most.
use Rattle.std.proofs.Common.{ℕ, List}
use Rattle.ca_tree.specs.declared.name.Place.{Place}
use Rattle.ca_tree.specs.Plain.{TextTree}
use Rattle.ca_program.specs.Plain.{PlainProgram}
use Rattle.ca_parse.proofs.OneTree.{tree_is_one}
use Rattle.ca_app.specs.Accepted.{HasTree, Accepted}
use Rattle.ca_app.specs.Refusals.{RefusedAt, too_long, no_token, wrong_token, deep_token, violates}
use Rattle.ca_app.specs.clauses.Reading.{HasOneTree, IsProgramOf, IsRefusalOf}
use Rattle.ca_app.proofs.OneProgram.{derived_by}
use Rattle.ca_app.proofs.OneRefusal.{refused_as_long, refused_no_token, refused_wrong, refused_deep, refused_violation, program_of_tree}

-- a text has one tree at most
pub has_one : {text : List ℕ} {tree : TextTree} → HasTree text tree → HasOneTree text tree
has_one {tree = tree} h = record { is = h; only = λ other o. tree_is_one h.tokens 0 0 other tree (derived_by h.has_tokens o) h.derived }

pub is_refusal : {text : List ℕ} {at : Place} {code : ℕ} → RefusedAt text at code → IsRefusalOf text at code
is_refusal (too_long more) = refused_as_long more
is_refusal (no_token short fault) = refused_no_token short fault
is_refusal (wrong_token tokens first) = refused_wrong tokens first
is_refusal (deep_token tokens first) = refused_deep tokens first
is_refusal (violates {v = v} tree least) = refused_violation v (has_one tree) least

pub is_program : {text : List ℕ} {p : PlainProgram} → Accepted text p → IsProgramOf text p
is_program accepted = program_of_tree (has_one accepted.has_tree) accepted.resolved

-- The numbers of the codes that the checker doesn't tell, of the statuses, and of the limit on a text.
use Rattle.std.specs.Prelude.{◌≡◌}
use Rattle.ca_app.specs.declared.refusals.TheConstants.{NO_TOKEN, TOO_GREAT, TOO_MANY, TOO_LONG, WRONG_TOKEN, TOO_DEEP, NO_SCHEDULE, ILL_FORMED}
use Rattle.ca_app.specs.declared.serving.TheConstants.{MOST_BYTES, MOST_WITH_SCHEDULE, DONE, REFUSED, USAGE, TRAPPED, SPENT, NO_MEMORY, READ_FAULT, WRITE_FAULT, PAST_LIMIT, GOES_WRONG}

pub record AreCodesOfTexts : Type 0 where
  pub no_token : NO_TOKEN.0 ≡ 1
  pub too_great : TOO_GREAT.0 ≡ 2
  pub too_many : TOO_MANY.0 ≡ 3
  pub too_long : TOO_LONG.0 ≡ 4
  pub wrong_token : WRONG_TOKEN.0 ≡ 10
  pub too_deep : TOO_DEEP.0 ≡ 11
  pub no_schedule : NO_SCHEDULE.0 ≡ 60
  pub ill_formed : ILL_FORMED.0 ≡ 61

pub record AreStatuses : Type 0 where
  pub done : DONE ≡ 0
  pub refused : REFUSED ≡ 1
  pub usage : USAGE ≡ 2
  pub trapped : TRAPPED ≡ 3
  pub spent : SPENT ≡ 4
  pub no_memory : NO_MEMORY ≡ 5
  pub read_fault : READ_FAULT ≡ 6
  pub write_fault : WRITE_FAULT ≡ 7
  pub past_limit : PAST_LIMIT ≡ 8
  pub goes_wrong : GOES_WRONG ≡ 9

-- the most bytes of a source, and of one with a schedule behind it
pub record IsMostOfText : Type 0 where
  pub bytes : MOST_BYTES ≡ 1048576
  pub with_schedule : MOST_WITH_SCHEDULE ≡ 67108864

use Rattle.std.proofs.Common.{refl}
use Rattle.ca_app.proofs.laws.codes_and_statuses_are_these.Goals as goal

pub returns-clause-codes : goal.returns-clause-codes
returns-clause-codes c = record {
  no_token = refl;
  too_great = refl;
  too_many = refl;
  too_long = refl;
  wrong_token = refl;
  too_deep = refl;
  no_schedule = refl;
  ill_formed = refl;
}

pub returns-clause-statuses : goal.returns-clause-statuses
returns-clause-statuses c = record {
  done = refl;
  refused = refl;
  usage = refl;
  trapped = refl;
  spent = refl;
  no_memory = refl;
  read_fault = refl;
  write_fault = refl;
  past_limit = refl;
  goes_wrong = refl;
}

pub returns-clause-most : goal.returns-clause-most
returns-clause-most c = record { bytes = refl; with_schedule = refl }

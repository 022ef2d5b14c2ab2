-- Document 01's P cases hold: each side computes to the other.
use mathlib.Core.Path.{refl}
use Rattle.promises.specs.Cases.{DocumentCases}
use Rattle.promises.proofs.Apart.{log_promises, quorum_promises, window_promises}

pub document_cases : DocumentCases
unfolding log_promises quorum_promises window_promises
document_cases = record {
  term_0 = refl;
  term_5 = refl;
  term_6 = refl;
  empty = record { answers = refl; stores = refl };
  second_differs = record { answers = refl; stores = refl };
  below_offset = record { answers = refl; stores = refl };
  below_committed = λ commit. record { answers = refl; stores = refl };
  another_term = λ commit. record { answers = refl; stores = refl };
  beyond_last = record { answers = refl; stores = refl };
  by_term_5_2 = refl;
  by_term_5_1 = refl;
  by_term_5_0 = refl;
  by_term_6_9 = refl;
  by_term_10_3 = refl;
  five_voters = refl;
  four_voters = refl;
  two_missing = refl;
  two_rows_missing = refl;
  incoming = refl;
  outgoing = refl;
  joint = refl;
  one_vote_missing = refl;
  two_against_two = refl;
  too_many_voters = refl;
  repeated_voter = refl;
  too_many_rows = refl;
  repeated_row = refl;
  window_new = refl;
  first_5 = (refl, refl);
  second_5 = (refl, refl);
  then_6 = (refl, refl);
  flights_5_5_6 = refl;
  cap_2_defers = refl;
  then_full = refl;
  free_to_5 = refl;
  leaves_6 = refl;
  then_not_full = refl;
}

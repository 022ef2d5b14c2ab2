-- Wrong answers to the calls of units, quorum and peer_tables, two for each call in the order of docs/PROMISES.md: what a plausible faulty engine would give, at an input that is written out. Then whole wrong engines of document 01.
-- A reader must know: each line says that the call's promise is not the wrong answer, and holds by computing both sides (proofs/WrongQuorum.antt).
use Rattle.std.specs.Prelude.{ℕ, suc, ◌+◌, ◌-◌, ◌/◌, min, ◌≡◌, ◌≢◌, true, false, cond, List, [], ◌∷◌, ◌++◌, length, replicate, leb, Ok, Err, Some, None, Option, Bool}
use Rattle.std.proofs.lemmas.List.Edits.{sets}
use Rattle.units.specs.Units.{word_max, index_limit, index_of, as_term}
use Rattle.units.specs.Refusals.{number_of, refusal_of, both_checks, Answer, fine}
use Rattle.units.specs.declared.refusal.Refusal.TheVariants as refusal
use Rattle.units.specs.declared.Index.{Index}
use Rattle.rules.specs.Count.{count}
use Rattle.rules.specs.Majority.{kth_largest, falling}
use Rattle.quorum.specs.Limits.{voter_limit, row_limit}
use Rattle.quorum.specs.Rows.{nobody, ack_number, vote_number, rows_check, value_for, gathered, ids_of, values_of, plain_check}
use Rattle.quorum.specs.Voters.{voters_check, set_of, no_voters, made}
use Rattle.quorum.specs.Votes.{is_yes, is_missing, result_of, joint_result}
use Rattle.quorum.specs.Half.{half_index, joined, value_in, numbers_result}
use Rattle.quorum.specs.Majority.{index_unless, result_unless, acks_of, votes_of, committed_index, vote_result, committed_index_by, vote_result_by, plain_committed_index, plain_vote_result}
use Rattle.quorum.specs.Joint.{one_set, config_check, joint_committed_index, joint_vote_result, joint_committed_index_by, joint_vote_result_by, plain_joint_committed_index, plain_joint_vote_result, is_singleton, contains_of, id_list, joint_ids}
use Rattle.quorum.specs.declared.VoteResult.{VoteResult}
use Rattle.quorum.specs.declared.VoteResult.TheVariants as result
use Rattle.quorum.specs.declared.half.Half.{Half}
use Rattle.quorum.specs.declared.majority.Voters.{Voters}
use Rattle.quorum.specs.declared.joint.JointConfig.{JointConfig}
use Rattle.quorum.specs.declared.rows.Peer.{Peer}
use Rattle.quorum.specs.declared.rows.Question.TheVariants as question
use Rattle.quorum.specs.declared.rows.Rows.{Rows}
use Rattle.peer_tables.specs.Table.{no_rows, with_row, rows_lent, table_committed_index, table_vote_result, table_joint_committed_index, table_joint_vote_result}
use Rattle.peer_tables.specs.declared.Table.{Table}
use Rattle.promises.specs.Cases.{ids_from, voters_from, three_voters, voter_twice, halves, acked, acking, voting, up_to, three_and_two}

-- ---- inputs

-- Words to copy into.
abbrev pub four_words : List ℕ
four_words = 1 ∷ 2 ∷ 3 ∷ 4 ∷ []

-- What `Voters::new` answers with nothing refused, and this set.
abbrev pub fine_set : Voters → Answer Voters
fine_set v = Ok v

-- A set whose count alone was made 0: the ids are left in its unused words.
abbrev pub uncounted : Voters → Voters
uncounted v = record { ids = v.ids; count = 0 }

-- Rows with these acknowledgements, ids from 1 on, gathered for the index question.
abbrev pub ack_rows : List ℕ → Rows
ack_rows acks = gathered question.Index (acking acks)

-- Rows with these votes, ids from 1 on, gathered for the vote.
abbrev pub vote_rows : List (Option Bool) → Rows
vote_rows votes = gathered question.Vote (voting votes)

-- What rows say of an id that have these values, ids from 1 on.
abbrev pub saying : List ℕ → ℕ → ℕ
saying values = value_in (ids_from 1 (length values)) values

-- And what such rows say where they are gathered.
abbrev pub said_by : Rows → ℕ → ℕ
said_by rows = value_in (ids_of rows) (values_of rows)

-- Two rows of the id 1, which have acknowledged 4 and 6: broken (12).
abbrev pub twice_one : List Peer
twice_one = acking (4 ∷ []) ++ acking (6 ∷ [])

-- The row of the id 65: it has acknowledged 7 and votes yes.
abbrev pub somebody : Peer
somebody = record { id = 65; ack = Some (index_of 7); vote = Some true }

-- A table of these rows, with so many counted.
abbrev pub table_with : ℕ → List Peer → Table
table_with n rows = record { peers = rows ++ replicate (row_limit - length rows) nobody; count = n }

-- A table of these rows, all of them counted.
abbrev pub table_of : List Peer → Table
table_of rows = table_with (length rows) rows

-- A full table, where everybody has acknowledged 5.
abbrev pub full_table : Table
full_table = table_of (acking (replicate row_limit 5))

-- That table after one row more than it takes: "over 64 rows".
abbrev pub overfull_table : Table
overfull_table = with_row full_table somebody

-- ---- THE TABLE: what each call does not answer.
pub record WrongQuorum : Type 0 where
  -- ---- units
  -- `Index::new(5)`: the index after it, as if a place counted from 0 were handed in.
  pub index_new_next : index_of 5 ≢ index_of 6
  -- `Index::new(u64::MAX)`: cut to the limit.
  pub index_new_cut : index_of word_max ≢ index_of index_limit
  -- `Term::new(3)`: the term after it, as a candidate raises it.
  pub term_new_next : as_term 3 ≢ as_term 4
  -- `Term::new(3)`: 0, the number lost.
  pub term_new_zero : as_term 3 ≢ as_term 0
  -- Refusal 5: 6, the number of the next line.
  pub refusal_number_shifted : number_of refusal.Mismatch ≢ 6
  -- Refusal 5: 0, as if nothing were wrong.
  pub refusal_number_lost : number_of refusal.Mismatch ≢ 0
  -- A fine check: 1, a refusal's number.
  pub check_refusal_of_fine : refusal_of fine ≢ number_of refusal.BrokenState
  -- Refusal 12: 0, as if the check were fine.
  pub check_refusal_lost : refusal_of (Err refusal.BrokenSet) ≢ 0
  -- 1, then 12: 12, the second refusal.
  pub check_and_second : both_checks (Err refusal.BrokenState) (Err refusal.BrokenSet) ≢ Err refusal.BrokenSet
  -- Fine, then 12: fine, the second not asked.
  pub check_and_first_only : both_checks fine (Err refusal.BrokenSet) ≢ fine
  -- The smaller of 2 and 5: the larger.
  pub smaller_larger : min 2 5 ≢ 5
  -- The smaller of 5 and 2: the first.
  pub smaller_first : min 5 2 ≢ 5
  -- Five words, and room for three: five.
  pub shorter_longer : min 5 3 ≢ 5
  -- Three words, and room for three: two, one short of the end.
  pub shorter_one_less : min 3 3 ≢ 2
  -- 8 and 9 into 1, 2, 3, 4 from place 1 on: the word behind them cleared.
  pub copy_at_clears_behind : sets four_words 1 (8 ∷ 9 ∷ []) ≢ 1 ∷ 8 ∷ 9 ∷ 0 ∷ []
  -- 7, 8 and 9 into them from place 2 on: nothing copied, since there is room for two.
  pub copy_at_all_or_nothing : sets four_words 2 (7 ∷ 8 ∷ 9 ∷ []) ≢ four_words
  -- ---- quorum: one voter set
  -- The empty set: one voter, of the id 0.
  pub voters_empty_counts : no_voters ≢ set_of (0 ∷ [])
  -- The empty set: ids left in its unused words.
  pub voters_empty_words : no_voters ≢ uncounted (voters_from 1 3)
  -- Eight ids: the first seven, with no 12.
  pub voters_new_first_seven : made (ids_from 1 (suc voter_limit)) ≢ fine_set (voters_from 1 voter_limit)
  -- 1, 2, 1: the repeated id dropped, with no 12.
  pub voters_new_dropped : made (1 ∷ 2 ∷ 1 ∷ []) ≢ fine_set (voters_from 1 2)
  -- 1, 2, 1 as they are: the repeated id dropped.
  pub voters_holding_dropped : set_of (1 ∷ 2 ∷ 1 ∷ []) ≢ voters_from 1 2
  -- Eight ids as they are: the first seven, as if there were no more.
  pub voters_holding_stops : set_of (ids_from 1 (suc voter_limit)) ≢ voters_from 1 voter_limit
  -- Eight ids: fine.
  pub ids_checked_eight : voters_check (set_of (ids_from 1 (suc voter_limit))) ≢ fine
  -- Seven ids: 12, one too early.
  pub ids_checked_seven : voters_check (set_of (ids_from 1 voter_limit)) ≢ Err refusal.BrokenSet
  -- 1, 2, 1: fine, as if only neighbours were compared.
  pub voters_checked_repeated : voters_check (set_of (1 ∷ 2 ∷ 1 ∷ [])) ≢ fine
  -- Seven voters: 12, one too early.
  pub voters_checked_seven : voters_check (voters_from 1 voter_limit) ≢ Err refusal.BrokenSet
  -- Three voters, all at 5: 0. It is 5.
  pub majority_committed_index_zero : committed_index (voters_from 1 3) (acking (5 ∷ 5 ∷ 5 ∷ [])) ≢ up_to 0
  -- Four voters at 9, 7, 3, 3: 7, which half of the voters have reached. It is 3.
  pub majority_committed_index_half : committed_index (voters_from 1 4) (acking (9 ∷ 7 ∷ 3 ∷ 3 ∷ [])) ≢ up_to 7
  -- Three voters, all yes: Pending. It is Won.
  pub majority_vote_result_pending : vote_result (voters_from 1 3) (voting (Some true ∷ Some true ∷ Some true ∷ [])) ≢ Ok result.Pending
  -- Four voters, two yes, two no: Won, with half of the votes. It is Lost.
  pub majority_vote_result_half : vote_result (voters_from 1 4) (voting (Some true ∷ Some true ∷ Some false ∷ Some false ∷ [])) ≢ Ok result.Won
  -- Three voters, all at 5: 0. It is 5.
  pub majority_committed_index_by_zero : committed_index_by (ids_from 1 3) fine (saying (5 ∷ 5 ∷ 5 ∷ [])) ≢ up_to 0
  -- Three voters, all at 5, broken rows: 5, the check of the rows not asked. It is 12.
  pub majority_committed_index_by_broken : committed_index_by (ids_from 1 3) (Err refusal.BrokenSet) (saying (5 ∷ 5 ∷ 5 ∷ [])) ≢ up_to 5
  -- Four voters, two yes, two no: Won, with half of the votes. It is Lost.
  pub majority_vote_result_by_half : vote_result_by (ids_from 1 4) fine (saying (1 ∷ 1 ∷ 2 ∷ 2 ∷ [])) ≢ Ok result.Won
  -- The voter 1 twice, yes: Won. It is 12.
  pub majority_vote_result_by_repeated : vote_result_by (1 ∷ 1 ∷ []) fine (saying (1 ∷ [])) ≢ Ok result.Won
  -- The voter 1, two rows of 1 at 4 and 6: 4, by the first row. It is 12.
  pub majority_committed_index_of_repeated : plain_committed_index (voters_from 1 1) (gathered question.Index twice_one) ≢ up_to 4
  -- Voters 3, 4, 5, rows of 1 to 5 at 9, 9, 9, 2, 2: 9, where each voter reads a row by its place and not by its id. It is 2.
  pub majority_committed_index_of_by_place : plain_committed_index (voters_from 3 3) (ack_rows (9 ∷ 9 ∷ 9 ∷ 2 ∷ 2 ∷ [])) ≢ up_to 9
  -- The voter 1, 65 rows, all yes: Won. It is 12.
  pub majority_vote_result_of_too_many : plain_vote_result (voters_from 1 1) (vote_rows (replicate (suc row_limit) (Some true))) ≢ Ok result.Won
  -- Three voters, one yes: Lost, where a missing vote is a no. It is Pending.
  pub majority_vote_result_of_missing : plain_vote_result (voters_from 1 3) (vote_rows (Some true ∷ [])) ≢ Ok result.Lost
  -- ---- quorum: joint configurations
  -- Voters 1, 2, 3: put into the outgoing half.
  pub joint_new_outgoing : one_set (voters_from 1 3) ≢ halves no_voters (voters_from 1 3)
  -- Voters 1, 2, 3: 4 and 5 left in the unused words of the outgoing half.
  pub joint_new_words : one_set (voters_from 1 3) ≢ halves (voters_from 1 3) (uncounted (voters_from 4 2))
  -- 1, 2, 3 and 4, 5: the outgoing half kept.
  pub joint_clear_outgoing : one_set no_voters ≢ halves no_voters three_and_two.outgoing
  -- 1, 2, 3 and 4, 5: only the counts made 0.
  pub joint_clear_words : one_set no_voters ≢ halves (uncounted three_and_two.incoming) (uncounted three_and_two.outgoing)
  -- 1, 2, 3 and 4, 4: fine, the outgoing half not asked.
  pub joint_checked_outgoing : config_check (halves (voters_from 1 3) (set_of (4 ∷ 4 ∷ []))) ≢ fine
  -- 1, 2, 3 and 3, 4: 12, where an id may not stand in both halves. It is fine.
  pub joint_checked_in_both : config_check (halves (voters_from 1 3) (voters_from 3 2)) ≢ Err refusal.BrokenSet
  -- 1 and 2: yes, the outgoing half not asked.
  pub joint_is_singleton_outgoing : is_singleton (halves (voters_from 1 1) (voters_from 2 1)) ≢ Ok true
  -- 1, 1 and nobody: yes, the repeated id dropped. It is 12.
  pub joint_is_singleton_repeated : is_singleton voter_twice ≢ Ok true
  -- 1, 2, 3 and 4, 5, asked for 4: no, the outgoing half not asked.
  pub joint_contains_outgoing : contains_of three_and_two 4 ≢ Ok false
  -- 1, 2, 3 and 4, 5, asked for 0: yes, by an unused word.
  pub joint_contains_unused : contains_of three_and_two 0 ≢ Ok true
  -- 1, 2, 3 and 3, 4: the 3 listed twice.
  pub joint_ids_twice : joint_ids (halves (voters_from 1 3) (voters_from 3 2)) ≢ Ok (id_list (1 ∷ 2 ∷ 3 ∷ 3 ∷ 4 ∷ []))
  -- 4, 5 and 1, 2: one half behind the other, not in rising order.
  pub joint_ids_order : joint_ids (halves (voters_from 4 2) (voters_from 1 2)) ≢ Ok (id_list (4 ∷ 5 ∷ 1 ∷ 2 ∷ []))
  -- Incoming at 5, 4, 3, outgoing at 3, 8: 4, the larger of 4 and 3.
  pub joint_committed_index_larger : joint_committed_index three_and_two (acking (5 ∷ 4 ∷ 3 ∷ 3 ∷ 8 ∷ [])) ≢ up_to 4
  -- Incoming at 5, 4, 3, nobody outgoing: 0, the empty half counted as 0. It is 4.
  pub joint_committed_index_empty : joint_committed_index three_voters (acking (5 ∷ 4 ∷ 3 ∷ [])) ≢ up_to 0
  -- Incoming all yes, outgoing one yes and one missing: Won, the outgoing half not waited for. It is Pending.
  pub joint_vote_result_one_half : joint_vote_result three_and_two (voting (Some true ∷ Some true ∷ Some true ∷ Some true ∷ [])) ≢ Ok result.Won
  -- Incoming one yes and two missing, outgoing all no: Pending, the incoming half waited for. It is Lost.
  pub joint_vote_result_waits : joint_vote_result three_and_two (voting (Some true ∷ None ∷ None ∷ Some false ∷ Some false ∷ [])) ≢ Ok result.Pending
  -- Incoming at 5, 4, 3, outgoing at 3, 8: 4, the larger of 4 and 3.
  pub joint_committed_index_by_larger : joint_committed_index_by (ids_from 1 3) (ids_from 4 2) fine (saying (5 ∷ 4 ∷ 3 ∷ 3 ∷ 8 ∷ [])) ≢ up_to 4
  -- Incoming at 5, 4, 3, outgoing 4 twice, at 3: 3. It is 12.
  pub joint_committed_index_by_repeated : joint_committed_index_by (ids_from 1 3) (4 ∷ 4 ∷ []) fine (saying (5 ∷ 4 ∷ 3 ∷ 3 ∷ [])) ≢ up_to 3
  -- Incoming all yes, outgoing one yes and one missing: Won, the outgoing half not waited for. It is Pending.
  pub joint_vote_result_by_one_half : joint_vote_result_by (ids_from 1 3) (ids_from 4 2) fine (saying (1 ∷ 1 ∷ 1 ∷ 1 ∷ [])) ≢ Ok result.Won
  -- Incoming one yes and two missing, outgoing all no: Pending, the incoming half waited for. It is Lost.
  pub joint_vote_result_by_waits : joint_vote_result_by (ids_from 1 3) (ids_from 4 2) fine (saying (1 ∷ 0 ∷ 0 ∷ 2 ∷ 2 ∷ [])) ≢ Ok result.Pending
  -- The four of the questions by the lent rows, over gathered rows.
  pub joint_committed_index_of_larger : plain_joint_committed_index three_and_two (ack_rows (5 ∷ 4 ∷ 3 ∷ 3 ∷ 8 ∷ [])) ≢ up_to 4
  pub joint_committed_index_of_empty : plain_joint_committed_index three_voters (ack_rows (5 ∷ 4 ∷ 3 ∷ [])) ≢ up_to 0
  pub joint_vote_result_of_one_half : plain_joint_vote_result three_and_two (vote_rows (Some true ∷ Some true ∷ Some true ∷ Some true ∷ [])) ≢ Ok result.Won
  pub joint_vote_result_of_waits : plain_joint_vote_result three_and_two (vote_rows (Some true ∷ None ∷ None ∷ Some false ∷ Some false ∷ [])) ≢ Ok result.Pending
  -- ---- quorum: one half, by what its voters said
  -- 5, 5, 5: 0. It is 5.
  pub half_index_of_zero : half_index (5 ∷ 5 ∷ 5 ∷ []) ≢ record { index = 0; free = false }
  -- 3, 9, 7: the words left as they were. They are sorted in place.
  pub half_index_of_unsorted : falling (3 ∷ 9 ∷ 7 ∷ []) ≢ 3 ∷ 9 ∷ 7 ∷ []
  -- Two yes, two no: Won, with half of the votes.
  pub half_result_of_half : numbers_result (1 ∷ 1 ∷ 2 ∷ 2 ∷ []) ≢ result.Won
  -- One yes, two missing: Lost, where a missing vote is a no.
  pub half_result_of_missing : numbers_result (1 ∷ 0 ∷ 0 ∷ []) ≢ result.Lost
  -- 4 and 3: the larger.
  pub half_joined_larger : joined (record { index = 4; free = false }) (record { index = 3; free = false }) ≢ record { index = 4; free = false }
  -- A half without voters, and 3: nobody had a say.
  pub half_joined_free : joined (record { index = word_max; free = true }) (record { index = 3; free = false }) ≢ record { index = 3; free = true }
  -- Won and pending: Won.
  pub half_joint_result_one : joint_result result.Won result.Pending ≢ result.Won
  -- Pending and lost: Pending. It is Lost.
  pub half_joint_result_waits : joint_result result.Pending result.Lost ≢ result.Pending
  -- ---- quorum: peer rows
  -- One row at 5, asked for the index: the votes gathered.
  pub rows_gather_column : gathered question.Index (acking (5 ∷ [])) ≢ gathered question.Vote (acking (5 ∷ []))
  -- 65 rows: 64 counted, so that nobody sees that there were more.
  pub rows_gather_count : ack_rows (replicate (suc row_limit) 5) ≢ ack_rows (replicate row_limit 5)
  -- Two rows of 1: fine.
  pub rows_checked_repeated : plain_check (gathered question.Index twice_one) ≢ fine
  -- 65 rows: fine, by those that the array has.
  pub rows_checked_too_many : plain_check (ack_rows (replicate (suc row_limit) 5)) ≢ fine
  -- Rows of 1 and 2 at 7 and 5, asked for 2: 7, of the row before it. It is 5.
  pub rows_said_by_place : said_by (ack_rows (7 ∷ 5 ∷ [])) 2 ≢ 7
  -- Rows of 1 and 2 at 7 and 5, asked for 3: 5, of the last row. It is 0.
  pub rows_said_of_nobody : said_by (ack_rows (7 ∷ 5 ∷ [])) 3 ≢ 5
  -- The row 65 at 7, yes, asked for the index: 1, its vote.
  pub rows_value_vote : value_for question.Index somebody ≢ vote_number somebody.vote
  -- The row 65 at 7, yes, asked for the vote: 65, its id.
  pub rows_value_id : value_for question.Vote somebody ≢ somebody.id
  -- A missing acknowledgement: 1, as if the first record were there.
  pub rows_ack_number_missing : ack_number None ≢ 1
  -- At 5: 0, as if it were missing.
  pub rows_ack_number_lost : ack_number (Some (index_of 5)) ≢ 0
  -- A missing vote: the number of a no.
  pub rows_vote_number_missing : vote_number None ≢ vote_number (Some false)
  -- A yes: 2, with yes and no changed over.
  pub rows_vote_number_changed : vote_number (Some true) ≢ 2
  -- ---- peer_tables
  -- The empty table: all 64 rows counted, as many as the array has.
  pub table_empty_counts : no_rows ≢ table_with row_limit []
  -- The empty table: rows that have acknowledged 0, where it is missing.
  pub table_empty_zeros : no_rows ≢ record { peers = replicate row_limit (acked 0 0); count = 0 }
  -- One row into the empty table: written and not counted.
  pub table_with_not_counted : with_row no_rows somebody ≢ table_with 0 (somebody ∷ [])
  -- One row into a full table: the table as it was, the row lost with no sign.
  pub table_with_stays_full : overfull_table ≢ full_table
  -- An overfull table: the 64 rows that it has. It is 12.
  pub table_rows_too_many : rows_lent overfull_table ≢ Ok full_table.peers
  -- Three rows, of which one is counted: all three, two unused rows too.
  pub table_rows_unused : rows_lent (table_with 1 (acking (5 ∷ 2 ∷ 5 ∷ []))) ≢ Ok (acking (5 ∷ 2 ∷ 5 ∷ []))
  -- Three voters at 5 in an overfull table: 5. It is 12.
  pub table_committed_index_too_many : table_committed_index (voters_from 1 3) overfull_table ≢ up_to 5
  -- Three voters at 5, 2, 5: 2, the last row left out. It is 5.
  pub table_committed_index_last_row : table_committed_index (voters_from 1 3) (table_of (acking (5 ∷ 2 ∷ 5 ∷ []))) ≢ up_to 2
  -- An overfull table: 7, no room. It is 12.
  pub table_vote_result_by_seven : table_vote_result (voters_from 1 3) overfull_table ≢ Err refusal.NoRoom
  -- Three yes, of which one row is counted: Won, by unused rows. It is Pending.
  pub table_vote_result_unused : table_vote_result (voters_from 1 3) (table_with 1 (voting (Some true ∷ Some true ∷ Some true ∷ []))) ≢ Ok result.Won
  -- Both halves at 5 in an overfull table: 5. It is 12.
  pub table_joint_committed_index_too_many : table_joint_committed_index three_and_two overfull_table ≢ up_to 5
  -- Incoming at 5, 4, 3, outgoing at 3, 8: 0, the last row left out. It is 3.
  pub table_joint_committed_index_last_row : table_joint_committed_index three_and_two (table_of (acking (5 ∷ 4 ∷ 3 ∷ 3 ∷ 8 ∷ []))) ≢ up_to 0
  -- An overfull table: 7, no room. It is 12.
  pub table_joint_vote_result_by_seven : table_joint_vote_result three_and_two overfull_table ≢ Err refusal.NoRoom
  -- Five yes, of which three rows are counted: Won, by unused rows. It is Pending.
  pub table_joint_vote_result_unused : table_joint_vote_result three_and_two (table_with 3 (voting (Some true ∷ Some true ∷ Some true ∷ Some true ∷ Some true ∷ []))) ≢ Ok result.Won

-- ---- WRONG ENGINES

-- `committed_index` of one set, by another rule for its half; its refusals stay.
abbrev pub index_by : (List ℕ → Half) → Voters → List Peer → Answer (Index × Bool)
index_by rule v peers = index_unless (both_checks (voters_check v) (rows_check peers)) (rule (acks_of peers v))

-- `committed_index` of two sets, by another rule for each half; its refusals, and how it joins the halves, stay.
abbrev pub joint_index_by : (List ℕ → Half) → JointConfig → List Peer → Answer (Index × Bool)
joint_index_by rule c peers = index_unless (both_checks (config_check c) (rows_check peers)) (joined (rule (acks_of peers c.incoming)) (rule (acks_of peers c.outgoing)))

-- `vote_result` of one set, by another rule for its half; its refusals stay.
abbrev pub result_by : (List (Option Bool) → VoteResult) → Voters → List Peer → Answer VoteResult
result_by rule v peers = result_unless (both_checks (voters_check v) (rows_check peers)) (rule (votes_of peers v))

-- `vote_result` of two sets, by another rule for each half; its refusals, and how it joins the halves, stay.
abbrev pub joint_result_by : (List (Option Bool) → VoteResult) → JointConfig → List Peer → Answer VoteResult
joint_result_by rule c peers = result_unless (both_checks (config_check c) (rows_check peers)) (joint_result (rule (votes_of peers c.incoming)) (rule (votes_of peers c.outgoing)))

-- 01, "Promises without gaps": "a quorum that answers 0".
abbrev pub answers_zero : List ℕ → Half
answers_zero acks = record { index = 0; free = false }

-- 01, the same: "a vote that stays Pending".
abbrev pub stays_pending : List (Option Bool) → VoteResult
stays_pending votes = result.Pending

-- 01, tempting mistakes: "taking n/2 as a majority". For the index; the empty set stays as it is.
abbrev pub half_is_enough : List ℕ → Half
half_is_enough [] = record { index = word_max; free = true }
half_is_enough (a ∷ acks) = record { index = kth_largest (length (a ∷ acks) / 2) (a ∷ acks); free = false }

-- And for the vote, "taking n/2 as a majority": Won if yes reaches n/2, else Pending if yes plus missing reaches it, else Lost.
abbrev pub half_wins : List (Option Bool) → VoteResult
half_wins votes =
    cond (leb (length votes / 2) (count is_yes votes)) result.Won
    (cond (leb (length votes / 2) (count is_yes votes + count is_missing votes)) result.Pending result.Lost)

-- None of them keeps the promise.
pub record WrongEnginesQuorum : Type 0 where
  -- One thing alone is wrong with them: by the right rule each is the promise.
  pub index_by_the_rule : (v : Voters) (peers : List Peer) → committed_index v peers ≡ index_by half_index v peers
  pub joint_index_by_the_rule : (c : JointConfig) (peers : List Peer) → joint_committed_index c peers ≡ joint_index_by half_index c peers
  pub result_by_the_rule : (v : Voters) (peers : List Peer) → vote_result v peers ≡ result_by result_of v peers
  pub joint_result_by_the_rule : (c : JointConfig) (peers : List Peer) → joint_vote_result c peers ≡ joint_result_by result_of c peers
  -- Three voters, all at 5.
  pub answers_zero_fails : ¬ ((v : Voters) (peers : List Peer) → committed_index v peers ≡ index_by answers_zero v peers)
  pub answers_zero_joint : ¬ ((c : JointConfig) (peers : List Peer) → joint_committed_index c peers ≡ joint_index_by answers_zero c peers)
  -- Three voters, all yes.
  pub stays_pending_fails : ¬ ((v : Voters) (peers : List Peer) → vote_result v peers ≡ result_by stays_pending v peers)
  pub stays_pending_joint : ¬ ((c : JointConfig) (peers : List Peer) → joint_vote_result c peers ≡ joint_result_by stays_pending c peers)
  -- Four voters at 9, 7, 3, 3.
  pub half_is_enough_fails : ¬ ((v : Voters) (peers : List Peer) → committed_index v peers ≡ index_by half_is_enough v peers)
  pub half_is_enough_joint : ¬ ((c : JointConfig) (peers : List Peer) → joint_committed_index c peers ≡ joint_index_by half_is_enough c peers)
  -- Four voters, two yes, two no.
  pub half_wins_fails : ¬ ((v : Voters) (peers : List Peer) → vote_result v peers ≡ result_by half_wins v peers)
  pub half_wins_joint : ¬ ((c : JointConfig) (peers : List Peer) → joint_vote_result c peers ≡ joint_result_by half_wins c peers)

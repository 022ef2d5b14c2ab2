-- `state_ok` meets its contract: each test that fails breaks a rule, and where all pass the rules hold.
use Rattle.std.proofs.Common.{sym, arith}
use Rattle.raft_log.proofs.States.{good_ok, bad_state, not_both}
use Rattle.raft_log.proofs.state.state_ok.Goals as goal

pub returns-then-not-both_zero_or_none : goal.returns-then-not-both_zero_or_none
returns-then-not-both_zero_or_none c =
    sym (bad_state _ _ _ (λ g. not_both g.starts (sym c.if-not-both_zero_or_none.ensures)))

pub returns-then-offset-start : goal.returns-then-offset-start
returns-then-offset-start c = sym (bad_state _ _ _ (λ g. omega arith))

pub returns-then-offset-persisted : goal.returns-then-offset-persisted
returns-then-offset-persisted c = sym (bad_state _ _ _ (λ g. omega arith))

pub returns-then-persisted-applied : goal.returns-then-persisted-applied
returns-then-persisted-applied c = sym (bad_state _ _ _ (λ g. omega arith))

pub returns-then-applied-start : goal.returns-then-applied-start
returns-then-applied-start c = sym (bad_state _ _ _ (λ g. omega arith))

pub returns-then-committed-applied : goal.returns-then-committed-applied
returns-then-committed-applied c = sym (bad_state _ _ _ (λ g. omega arith))

pub returns-then-count-gt-LIMIT : goal.returns-then-count-gt-LIMIT
returns-then-count-gt-LIMIT c = sym (bad_state _ _ _ (λ g. omega arith))

pub returns-then-offset-count : goal.returns-then-offset-count
returns-then-offset-count c = sym (bad_state _ _ _ (λ g. omega arith))

pub returns-then-committed-offset : goal.returns-then-committed-offset
returns-then-committed-offset c = sym (bad_state _ _ _ (λ g. omega arith))

pub returns-then-offset-start-2 : goal.returns-then-offset-start-2
returns-then-offset-start-2 c = sym (bad_state _ _ _ (λ g. omega arith))

pub returns-then-count-room : goal.returns-then-count-room
returns-then-count-room c = sym (bad_state _ _ _ (λ g. omega arith))

pub returns : goal.returns
returns c =
    sym (good_ok _ _ _ (record {
      starts = sym c.if-not-both_zero_or_none.ensures;
      start_le_applied = omega arith;
      applied_le_committed = omega arith;
      start_le_committed = omega arith;
      committed_le_last = omega arith;
      applied_le_persisted = omega arith;
      persisted_lt_offset = omega arith;
      start_lt_offset = omega arith;
      settled_room = omega arith;
      pending_room = omega arith;
      last_le_limit = omega arith;
    }))

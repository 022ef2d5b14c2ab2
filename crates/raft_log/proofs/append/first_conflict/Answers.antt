-- `first_conflict` meets its contract: the search in pending, or the one in settled and where it finds nothing the one in pending, is the search in the log.
use Rattle.std.proofs.Common.{ℕ, ◌-◌, ◌≤◌, arith}
use Rattle.raft_log.specs.Words.{other_term}
use Rattle.raft_log.proofs.Searching.{found}
use Rattle.raft_log.proofs.Conflicts.{conflict_pending, conflict_held, conflict_settled, conflict_over}
use Rattle.raft_log.proofs.append.first_conflict.Goals as goal

pub returns-then-offset-idx : goal.returns-then-offset-idx
returns-then-offset-idx c =
    conflict_pending (record { good = c.args.held.good; within = c.requires; set = c.args.run.terms_set }) _ _ (omega arith) (omega arith) c.same_terms.ensures

pub returns-then-known-gap : goal.returns-then-known-gap
returns-then-known-gap c =
    conflict_held (record { good = c.args.held.good; within = c.requires; set = c.args.run.terms_set }) _ (omega arith) (omega arith) c.same_terms-then-known-gap.ensures

pub returns-then-k-gap : goal.returns-then-k-gap
returns-then-k-gap c =
    conflict_settled (record { good = c.args.held.good; within = c.requires; set = c.args.run.terms_set }) _ (omega arith) (omega arith) c.same_terms-k.ensures c.if-k-gap.true

-- the search in pending ends within what it searches
pub overflow_add-result : goal.overflow_add-result
overflow_add-result c =
    let h = c.args.held in
    let gap : ℕ = h.log.offset.0 - 1 - c.args.run.after in
    let known : ℕ = c.min-known.result in
    let r : c.same_terms-2.result ≤ known - gap =
    omega (arith, c.same_terms-2.ensures, (found (other_term h.pending.now 0 c.args.run.words.now gap) 0 (known - gap)).within) in
    omega arith

pub returns : goal.returns
returns c =
    conflict_over (record { good = c.args.held.good; within = c.requires; set = c.args.run.terms_set }) _ _
    (omega arith)
    (omega arith)
    c.same_terms-k.ensures
    c.if-k-gap.false
    c.same_terms-2.ensures

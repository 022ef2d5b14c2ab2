-- `maybe_append` meets its contract: the answer is decided first, and what it says is what the copy asks.
use Rattle.std.proofs.Common.{◌∙◌, sym, arith}
use Rattle.std.proofs.lemmas.Result.{err_from_is_err_and}
use Rattle.raft_log.proofs.Appending.{answer_cut, store_refused, store_same, store_cut}
use Rattle.raft_log.proofs.Log.maybe_append.Goals as goal

pub returns-in_err-answer-clause-store : goal.returns-in_err-answer-clause-store
returns-in_err-answer-clause-store c =
    store_refused _ _ _ (err_from_is_err_and c.from_residual.result c.from_residual.ensures.1).1

pub returns-then-conflict-eq0-clause-store : goal.returns-then-conflict-eq0-clause-store
returns-then-conflict-eq0-clause-store c = store_same _ _ _ _ c.if-conflict-eq0.true

pub overflow_sub-at : goal.overflow_sub-at
overflow_sub-at c =
    let cut = answer_cut _ _ _ _ _ _ _ (sym c.in_ok-answer.ensures) c.if-conflict-eq0.false in
    omega arith

pub overflow_sub-from : goal.overflow_sub-from
overflow_sub-from c =
    let cut = answer_cut _ _ _ _ _ _ _ (sym c.in_ok-answer.ensures) c.if-conflict-eq0.false in
    omega arith

pub overflow_sub-from-2 : goal.overflow_sub-from-2
overflow_sub-from-2 c =
    let cut = answer_cut _ _ _ _ _ _ _ (sym c.in_ok-answer.ensures) c.if-conflict-eq0.false in
    omega arith

pub overflow_add-n : goal.overflow_add-n
overflow_add-n c =
    let cut = answer_cut _ _ _ _ _ _ _ (sym c.in_ok-answer.ensures) c.if-conflict-eq0.false in
    omega arith

pub overflow_sub-n : goal.overflow_sub-n
overflow_sub-n c =
    let cut = answer_cut _ _ _ _ _ _ _ (sym c.in_ok-answer.ensures) c.if-conflict-eq0.false in
    omega arith

pub put_run-requires-clause-in_store : goal.put_run-requires-clause-in_store
put_run-requires-clause-in_store c =
    let cut = answer_cut _ _ _ _ _ _ _ (sym c.in_ok-answer.ensures) c.if-conflict-eq0.false in
    omega arith

pub put_run-requires-clause-in_run : goal.put_run-requires-clause-in_run
put_run-requires-clause-in_run c =
    let cut = answer_cut _ _ _ _ _ _ _ (sym c.in_ok-answer.ensures) c.if-conflict-eq0.false in
    omega arith

pub returns-clause-store : goal.returns-clause-store
returns-clause-store c = c.put_run.ensures ∙ store_cut _ _ _ _ c.if-conflict-eq0.false

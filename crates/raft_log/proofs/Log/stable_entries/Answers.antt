-- `stable_entries` meets its contract: where the answer is no refusal both stores have the room, and the copy is the settled store after it.
use Rattle.std.proofs.Common.{refl, sym, ◌∙◌, arith}
use Rattle.std.proofs.lemmas.Result.{err_from_is_err_and}
use lib.Seq.{length-take-le}
use Rattle.raft_log.proofs.Settling.{settle_room, settled_kept, settled_copied}
use Rattle.raft_log.proofs.Log.stable_entries.Goals as goal

pub returns-in_err-after-clause-store : goal.returns-in_err-after-clause-store
returns-in_err-after-clause-store c =
    settled_kept _ _ _ (err_from_is_err_and c.from_residual.result c.from_residual.ensures.1).1

pub overflow_sub-at : goal.overflow_sub-at
overflow_sub-at c =
    let known = settle_room c.args.self c.args.settled.now c.args.pending.now c.args.i.0 c.args.t.0 (sym c.in_ok-after.ensures) in
    omega arith

pub overflow_sub-at-2 : goal.overflow_sub-at-2
overflow_sub-at-2 c =
    let known = settle_room c.args.self c.args.settled.now c.args.pending.now c.args.i.0 c.args.t.0 (sym c.in_ok-after.ensures) in
    omega arith

pub slice_bounds-copy_at-end : goal.slice_bounds-copy_at-end
slice_bounds-copy_at-end c =
    let known = settle_room c.args.self c.args.settled.now c.args.pending.now c.args.i.0 c.args.t.0 (sym c.in_ok-after.ensures) in
    sym (length-take-le _ _ (omega arith))

pub returns-clause-store : goal.returns-clause-store
returns-clause-store c =
    let known = settle_room c.args.self c.args.settled.now c.args.pending.now c.args.i.0 c.args.t.0 (sym c.in_ok-after.ensures) in
    c.copy_at.ensures ∙ settled_copied _ _ _ refl (omega arith) (omega arith)

-- `append_run_answer` meets its contract: past refusal 1, each answer has its law.
use Rattle.std.proofs.Common.{◌≡◌, ◌+◌, ◌-◌, ℕ, List, sym, ap, ◌∙◌, arith}
use Rattle.std.proofs.lemmas.Result.{err_from_is_err_and}
use Rattle.units.specs.Refusals.{Answer}
use Rattle.raft_log.specs.Run.{check_run}
use Rattle.raft_log.specs.Extend.{first_of}
use Rattle.raft_log.proofs.Runs.{run_passed}
use Rattle.raft_log.proofs.Extending.{extend_empty, extend_run, extend_on}
use Rattle.raft_log.proofs.append.append_run_answer.Goals as goal

-- the check after the index before the run's first
from_first : (run : List ℕ) {a b : ℕ} {r : Answer ℕ} → a ≡ b → check_run run (a - 1) ≡ r → check_run run (b - 1) ≡ r
from_first run e f = ap (λ (x : ℕ). check_run run (x - 1)) (sym e) ∙ f

pub returns-then-run-eq0 : goal.returns-then-run-eq0
returns-then-run-eq0 c =
    let h = c.in_ok-held.ensures in
    rw (c.last.ensures, h.1) (sym (extend_empty _ _ _ _ h.0 c.if-run-eq0.true))

pub returns-in_err-run : goal.returns-in_err-run
returns-in_err-run c =
    let first = c.run_index-first.ensures in
    let p = err_from_is_err_and c.from_residual-in_err-run.result c.from_residual-in_err-run.ensures.1 in
    rw (p.1, p.2) (sym (extend_run _ _ _ _ c.in_ok-held.ensures.0 c.if-run-eq0.false (λ z. c.if-first-eq0.false (first ∙ z)) (from_first _ first c.in_err-run.ensures)))

pub extended-requires : goal.extended-requires
extended-requires c =
    let run = run_passed c.args.run.now (c.run_index-first.result - 1) c.in_ok-run.ensures.2 in
    omega arith

pub returns : goal.returns
returns c =
    let h = c.in_ok-held.ensures in
    let first = c.run_index-first.ensures in
    let after : c.in_ok-run.run'.after + 1 ≡ first_of c.args.run.now = omega (arith, c.in_ok-run.ensures.1) in
    let on = extend_on _ _ _ _ h.0 c.if-run-eq0.false (λ z. c.if-first-eq0.false (first ∙ z)) (from_first _ first c.in_ok-run.ensures.2) in
    c.extended.ensures ∙ rw (h.1, h.3, after) (sym on)

-- Records that all have a nonzero term, as a list and as a log; the paper's receiver keeps them so.
use Prim.Native.Nat.{ℕ, ◌+◌, ◌-◌, ◌<◌}
use mathlib.Core.Path.{◌≡◌, sym, ap, subst, ◌∙◌}
use mathlib.Core.List.{List, [], ◌∷◌}
use native.Mathlib.Omega.{arith}
use lib.ListN.{get_or, drop}
use Rattle.units.specs.Lists.{Each}
use Rattle.units.proofs.Cond.{both_ends}
use Rattle.units.proofs.Lists.{each_append, each_drop, each_at, at_each, each_take}
use Rattle.rules.specs.Log.{Entry, nothing, Log, last}
use Rattle.rules.specs.Receiver.{AppendEntries, Answer, reply_false, success, contains, conflicts, step_3, step_4, receiver}
use Rattle.log_laws.specs.Keep.{NonzeroTerms}
use Rattle.log_laws.proofs.Views.{entry_after}

-- ---- a list

abbrev pub TermSet : Entry → Type 0
TermSet e = 0 < e.term

abbrev pub AllSet : List Entry → Type 0
AllSet = Each TermSet

-- ---- a log

module _ (l : Log) where
  pub nonzero_set : NonzeroTerms l → AllSet l.entries
  nonzero_set h =
      at_each TermSet nothing l.entries (λ j k.
      let i : ℕ = l.start + 1 + j in
      let place : i - l.start - 1 ≡ j = omega arith in
      subst TermSet (entry_after l i (omega arith) ∙ ap (λ (x : ℕ). get_or l.entries x nothing) place) (h i (omega arith) (omega arith)))

  pub set_nonzero : AllSet l.entries → NonzeroTerms l
  set_nonzero p i h k = subst TermSet (sym (entry_after l i h)) (each_at TermSet nothing l.entries p (i - l.start - 1) (omega arith))

-- ---- the paper's receiver

step_3_set : (l : Log) (i : ℕ) (es : List Entry) → AllSet l.entries → AllSet (step_3 l i es).entries
unfolding step_3
step_3_set l i [] p = p
step_3_set l i (e ∷ es) p = both_ends (λ (d : Log). AllSet d.entries) (conflicts l i e) (each_take TermSet (i - l.start - 1) l.entries p) (step_3_set l (i + 1) es p)

step_4_set : (l : Log) (prev : ℕ) (es : List Entry) → AllSet l.entries → AllSet es → AllSet (step_4 l prev es).entries
unfolding step_4
step_4_set l prev es p q = each_append TermSet l.entries (drop (last l - prev) es) p (each_drop TermSet (last l - prev) es q)

-- Where it does not reply false, the log after the steps.
abbrev pub AfterSteps : Answer → Type 0
AfterSteps reply_false = Unit {0}
AfterSteps (success l commit_index) = NonzeroTerms l

pub receiver_nonzero : (l : Log) (commit_index : ℕ) (m : AppendEntries) → NonzeroTerms l → AllSet m.entries → AfterSteps (receiver l commit_index m)
unfolding receiver
receiver_nonzero l commit_index m h q =
    let cut : Log = step_3 l (m.prev_log_index + 1) m.entries in
    let longer : Log = step_4 cut m.prev_log_index m.entries in
    both_ends AfterSteps (contains l m.prev_log_index m.prev_log_term)
    (set_nonzero longer (step_4_set cut m.prev_log_index m.entries (step_3_set l (m.prev_log_index + 1) m.entries (nonzero_set l h)) q))
    tt

-- What `is_up_to_date` answers, by what holds of the log.
use mathlib.Core.Path.{◌≡◌, sym, ap, ◌∙◌}
use mathlib.Core.Bool.{true, false}
use mathlib.Core.List.{List}
use Prim.Native.Nat.{ℕ, ◌<◌, ◌≤◌}
use native.Mathlib.Omega.{arith}
use lib.Dec.{leb}
use borrow.Author.Tests.{lt-ltb, le-ltb, eq-eqb, ne_eqb}
use Rattle.raft_log.specs.declared.Log.{Log}
use Rattle.raft_log.specs.State.{last_of, broken, term_at}
use Rattle.raft_log.specs.Look.{is_up_to_date}
use Rattle.std.specs.Prelude.{Ok}

-- where the state rules hold; the last index and its term are named as they were found
module _ (l : Log) (settled pending : List ℕ) (h : broken l settled pending ≡ false) {last term : ℕ} (e : last ≡ last_of l) (f : term ≡ term_at l settled pending last) (i t : ℕ) where
  last_term_lem : term_at l settled pending (last_of l) ≡ term
  last_term_lem = sym (f ∙ ap (term_at l settled pending) e)

  pub later_term : term < t → is_up_to_date l settled pending i t ≡ Ok true
  unfolding is_up_to_date
  later_term k = simp (h, last_term_lem, lt-ltb _ _ k)

  pub earlier_term : t ≤ term → (t ≡ term → ⊥) → is_up_to_date l settled pending i t ≡ Ok false
  unfolding is_up_to_date
  earlier_term k d = simp (h, last_term_lem, le-ltb term t k, ne_eqb t term d)

  pub same_term : t ≡ term → is_up_to_date l settled pending i t ≡ Ok (leb last i)
  unfolding is_up_to_date
  same_term k = simp (h, last_term_lem, le-ltb term t (omega arith), eq-eqb t term k, e)

-- What the loop keeps that puts a run's records into a store one by one.
use mathlib.Core.Path.{◌≡◌, refl, sym, ap, ◌∙◌}
use mathlib.Core.List.{List}
use Prim.Native.Nat.{ℕ, suc, ◌+◌, ◌*◌, ◌-◌, ◌≤◌, ◌<◌}
use native.Mathlib.Omega.{arith}
use lib.ListN.{length}
use lib.Seq.{length-sets}
use Rattle.raft_log.specs.Words.{put_run, put_record, record_of, record_words}

-- i of the n records are in place
pub record Putting (store₀ store : List ℕ) (at : ℕ) (run : List ℕ) (k n i : ℕ) : Type 0 where
  pub within : i ≤ n
  pub same : put_run store₀ at run k n ≡ put_run store (at + i) run (k + i) (n - i)
  pub long : length store ≡ length store₀

pub put_start : (store : List ℕ) (at : ℕ) (run : List ℕ) (k n : ℕ) → Putting store store at run k n 0
put_start store at run k n =
    let a : at + 0 ≡ at = omega arith in
    let b : k + 0 ≡ k = omega arith in
    let e : n - 0 ≡ n = omega arith in
    record { within = omega arith; same = cc; long = refl }

module _ {store₀ store : List ℕ} {at : ℕ} {run : List ℕ} {k n i : ℕ} (m : Putting store₀ store at run k n i) where
  pub put_next : {next : List ℕ} → i < n → next ≡ put_record store (at + i) (record_of run (k + i)) → Putting store₀ next at run k n (i + 1)
  unfolding put_run
  put_next {next} h e =
      let f : n - i ≡ suc (n - (i + 1)) = omega arith in
      let a : at + (i + 1) ≡ at + i + 1 = omega arith in
      let b : k + (i + 1) ≡ k + i + 1 = omega arith in
      let more : put_run store₀ at run k n ≡ put_run (put_record store (at + i) (record_of run (k + i))) (at + i + 1) run (k + i + 1) (n - (i + 1)) =
      m.same ∙ ap (put_run store (at + i) run (k + i)) f in
      record {
        within = omega arith;
        same = more ∙ cc;
        long = ap length e ∙ length-sets store ((at + i) * record_words) (record_of run (k + i)) ∙ m.long;
      }

  pub put_end : n ≤ i → store ≡ put_run store₀ at run k n
  unfolding put_run
  put_end h =
      let e : n - i ≡ 0 = omega arith in
      sym (m.same ∙ ap (put_run store (at + i) run (k + i)) e)

-- The words of a state lose nothing: what was put into a slice is read back, and what stands behind it is as it was.
use mathlib.Core.Path.{◌≡◌, refl, ap, ◌∙◌}
use mathlib.Core.List.{List, ◌++◌}
use Prim.Native.Nat.{ℕ, ◌≤◌}
use native.Mathlib.Nat.{zero-add}
use native.Mathlib.Omega.{arith}
use lib.ListN.{length, drop}
use lib.Seq.{sets-eq}
use Rattle.raft_log.specs.declared.Log.{Log}
use Rattle.inflights.specs.declared.Inflights.{Inflights}
use Rattle.exports.specs.Words.{log_length, window_length, log_from, log_words, put}
use Rattle.exports.specs.WindowCalls.{deferred_from, is_deferred, deferred_cap, window_from, window_words}
use Rattle.std.specs.Prelude.{Some, None, Option}

-- A slice with its first words replaced is these words, and then its own from there on.
pub put_splits : (slice words : List ℕ) → length words ≤ length slice → put slice words ≡ words ++ drop (length words) slice
put_splits slice words h = sets-eq words slice 0 (omega arith) ∙ simp zero-add

-- The log that was put into a slice is the one that it then holds.
pub log_back : (slice : List ℕ) (l : Log) → log_length ≤ length slice → log_from (put slice (log_words l)) ≡ l
unfolding log_from
log_back slice l h = ap log_from (put_splits slice (log_words l) h)

-- The two words of a deferred cap say what it is.
deferred_back : (d : Option ℕ) → deferred_from (is_deferred d) (deferred_cap d) ≡ d
unfolding deferred_from
deferred_back None = refl
deferred_back (Some c) = refl

-- The words of a window say what it is, whatever stands behind them.
words_back : (w : Inflights) (rest : List ℕ) → window_from (window_words w ++ rest) ≡ w
unfolding window_from
words_back w rest = rw (deferred_back w.deferred)

-- The window that was put into a slice is the one that it then holds.
pub window_back : (slice : List ℕ) (w : Inflights) → window_length ≤ length slice → window_from (put slice (window_words w)) ≡ w
window_back slice w h = ap window_from (put_splits slice (window_words w) h) ∙ words_back w (drop window_length slice)

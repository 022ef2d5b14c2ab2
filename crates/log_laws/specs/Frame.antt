-- Which words of a store a call leaves. A reader must know: the laws of proofs/Frames.antt say of each call that writes that every word that is `Elsewhere` stays.
use Rattle.std.specs.Prelude.{ℕ, ◌+◌, ◌*◌, ◌≤◌, ◌<◌, ◌⊎◌}
use Rattle.raft_log.specs.Words.{record_words}

-- 01: "A call writes only the records it adds or copies; every other word stays." Word w belongs to none of the n records from record `at` on.
abbrev pub Elsewhere : ℕ → ℕ → ℕ → Type 0
Elsewhere at n w = (w < at * record_words) ⊎ ((at + n) * record_words ≤ w)

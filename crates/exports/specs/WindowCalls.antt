-- The exported calls of the inflight window. A reader must know: each is the call of crate inflights on the window whose state the slice `window` begins with; a slice too short for the state or for the value of the answer is refusal 1.
-- The result is 0 or the refusal's number. A refusal leaves every slice as it was.
use Rattle.std.specs.Prelude.{ℕ, true, false, cond, Option, Some, None, List, [], ◌∷◌, length, get_or, eqb}
use Rattle.units.specs.Refusals.{Answer}
use Rattle.inflights.specs.Calls.{made_window, capped, added, ring_after, freed_to, freed_first, cleared, rewound, fullness, counted}
use Rattle.inflights.specs.declared.Inflights.{Inflights}
use Rattle.exports.specs.Words.{single_length, window_length, flag_word, Outcome, values_leave, yes_or_no_leaves, with_store, unless_short, reading}

-- ---- The window's words

-- 01, Inflights: a smaller cap "is deferred until it empties". Two words say whether one is: any first word but 0 says so, and the second is then the cap.
unfoldable pub deferred_from : ℕ → ℕ → Option ℕ
deferred_from is cap = cond (eqb is 0) None (Some cap)

-- The first of the two words that say whether a cap "is deferred": a yes or a no.
abbrev pub is_deferred : Option ℕ → ℕ
is_deferred None = flag_word false
is_deferred (Some cap) = flag_word true

-- The second of them: the cap that "is deferred", else 0.
abbrev pub deferred_cap : Option ℕ → ℕ
deferred_cap None = 0
deferred_cap (Some cap) = cap

-- The window whose state a slice begins with, in the order of `window_words`. For the state that refusal 13 of 01 checks: "window state broken".
unfoldable pub window_from : List ℕ → Inflights
window_from words = record {
  start = get_or words 0 0;
  count = get_or words 1 0;
  cap = get_or words 2 0;
  deferred = deferred_from (get_or words 3 0) (get_or words 4 0);
}

-- The state of a window as words, the same. That `window_from` reads back what these say is proved in proofs/ReadBack.antt.
abbrev pub window_words : Inflights → List ℕ
window_words w = w.start ∷ w.count ∷ w.cap ∷ is_deferred w.deferred ∷ deferred_cap w.deferred ∷ []

-- ---- What an answer leaves

-- Of `window`, by a call that changes it: the state after it.
abbrev pub window_leaves : Answer Inflights → List ℕ → Outcome
window_leaves = values_leave window_words

-- Of `answer`: the count.
abbrev pub counted_leaves : Answer ℕ → List ℕ → Outcome
counted_leaves = values_leave (λ count. count ∷ [])

-- ---- THE PROMISES, each of the call whose name it has

-- What a call that changes the window, and no other slice, leaves of `window`, by its answer: "Only `add` writes a word."
abbrev pub changes : List ℕ → Answer Inflights → Outcome
changes window said = unless_short window window_length (window ∷ []) (window_leaves said window)

-- `inflights_new`, which does not read the words of `window`; 7: "a window cap above the ring's length".
abbrev pub new_window_leaves : ℕ → List ℕ → List ℕ → Outcome
new_window_leaves cap ring window = changes window (made_window cap (length ring))

-- `inflights_set_cap`: "equal to the current cap cancels a deferred change; larger takes effect and cancels it; smaller takes effect if the queue is empty, else is deferred until it empties."
abbrev pub set_cap_leaves : List ℕ → List ℕ → ℕ → Outcome
set_cap_leaves window ring cap = changes window (capped (window_from window) (length ring) cap)

-- `inflights_free_to`: "drops from the front while the flight is at most `to`, stopping at the first larger one".
abbrev pub free_to_leaves : List ℕ → List ℕ → ℕ → Outcome
free_to_leaves window ring to = changes window (freed_to (window_from window) ring to)

-- `inflights_free_first_one`: "does so with the first flight's value".
abbrev pub free_first_one_leaves : List ℕ → List ℕ → Outcome
free_first_one_leaves window ring = changes window (freed_first (window_from window) ring)

-- `inflights_reset`: "empties and takes the deferred cap".
abbrev pub reset_leaves : List ℕ → List ℕ → Outcome
reset_leaves window ring = changes window (cleared (window_from window) (length ring))

-- `inflights_maybe_free_buffer`: start becomes 0 "on `maybe_free_buffer` of an empty queue".
abbrev pub maybe_free_buffer_leaves : List ℕ → List ℕ → Outcome
maybe_free_buffer_leaves window ring = changes window (rewound (window_from window) (length ring))

-- `inflights_add`, which "puts one last": of `ring` and `window`. "Only `add` writes a word."
abbrev pub add_leaves : List ℕ → List ℕ → ℕ → Outcome
add_leaves window ring inflight =
    unless_short window window_length (ring ∷ window ∷ [])
    (with_store (ring_after (window_from window) ring inflight) (window_leaves (added (window_from window) (length ring)) window))

-- `inflights_full`: "count = cap, or a deferred cap exists and count is at least that".
abbrev pub full_leaves : List ℕ → List ℕ → List ℕ → Outcome
full_leaves window ring answer = reading window window_length single_length answer (yes_or_no_leaves (fullness (window_from window) (length ring)) answer)

-- `inflights_count`: how many flights; "`full` and `count` take the ring too and refuse 13" (open points).
abbrev pub count_leaves : List ℕ → List ℕ → List ℕ → Outcome
count_leaves window ring answer = reading window window_length single_length answer (counted_leaves (counted (window_from window) (length ring)) answer)

-- Wrong answers to the calls of inflights, two or more for each call in the order of docs/PROMISES.md: what a plausible faulty engine would give, at an input that is written out. Then the whole wrong engines of document 01.
-- A reader must know: each line says that the call's promise is not the wrong answer, and holds by computing both sides (proofs/WrongWindow.antt). The ring has 4 words, and a window cap 4 where nothing else is said.
use Rattle.std.specs.Prelude.{ℕ, ◌≡◌, true, false, ◌≢◌, List, [], ◌∷◌, length, leb, Ok, Err, Some, None}
use Rattle.units.specs.declared.refusal.Refusal.TheVariants as refusal
use Rattle.units.specs.Refusals.{Answer, Check, fine}
use Rattle.rules.specs.Count.{count}
use Rattle.inflights.specs.State.{window_check, empty_of}
use Rattle.inflights.specs.Ring.{flights, leading}
use Rattle.inflights.specs.Calls.{window_unless, made_window, capped, fullness, counted, added, ring_after, take_up, behind, freed_to, freed_first, cleared, rewound}
use Rattle.inflights.specs.InPlace.{step_of, Stored}
use Rattle.inflights.specs.declared.Inflights.{Inflights}
use Rattle.promises.specs.Cases.{window, old, flown}

-- ---- inputs

-- A window of cap 4 at the ring's first word, with no flights.
abbrev pub empty : Inflights
empty = window 0 0 None

-- The same with three flights: 5, 5, 6 in `flown`, and 9, 1, 2 in `large_first`.
abbrev pub three : Inflights
three = window 0 3 None

-- The same with four flights: full.
abbrev pub full : Inflights
full = window 0 4 None

-- A ring whose first flight, 9, is larger than the two behind it, 1 and 2.
abbrev pub large_first : List ℕ
large_first = 9 ∷ 1 ∷ 2 ∷ 9 ∷ []

-- A window of another cap, with nothing deferred.
abbrev pub of_cap : ℕ → ℕ → ℕ → Inflights
of_cap cap start count = record { start = start; count = count; cap = cap; deferred = None }

-- One of cap 5: "cap above the ring" of 4 words, broken (13).
abbrev pub above_ring : ℕ → ℕ → Inflights
above_ring start count = of_cap 5 start count

-- What an answer leaves, as one value: what is returned, and the window.
abbrev pub step_left : Inflights → Check → Check × Inflights
step_left w said = (said, w)

-- ---- THE TABLE: what each call does not answer.
pub record WrongWindow : Type 0 where
  -- ---- by value
  -- Cap 5 in 4 words: a window.
  pub new_no_refusal : made_window 5 4 ≢ Ok (empty_of 5)
  -- Cap 4 in 4 words: 7, one word too early.
  pub new_whole_ring : made_window 4 4 ≢ Err refusal.NoRoom
  -- Three flights, cap 2: in effect at once. It is deferred.
  pub set_cap_at_once : capped three 4 2 ≢ Ok (of_cap 2 0 3)
  -- A broken window, cap 5: 7, for the cap that is handed in. It is 13.
  pub set_cap_seven_first : capped (above_ring 0 3) 4 5 ≢ Err refusal.NoRoom
  -- Two flights, cap 4, deferred 2: not full.
  pub full_deferred : fullness (window 0 2 (Some 2)) 4 ≢ Ok false
  -- Three flights, cap 4: full, one too early.
  pub full_early : fullness three 4 ≢ Ok true
  -- 5 into an empty window: one flight counted, and the word not written.
  pub add_not_written : ¬ ((added empty 4 ≡ Ok (window 0 1 None)) × (ring_after empty old 5 ≡ old))
  -- 5 into a full window: 11, and a word written.
  pub add_refused_written : ¬ ((added full 4 ≡ Err refusal.WindowFull) × (ring_after full old 5 ≡ 5 ∷ 9 ∷ 9 ∷ 9 ∷ []))
  -- Two flights, cap 4, deferred 2: a third taken. It is 11.
  pub add_past_deferred : added (window 0 2 (Some 2)) 4 ≢ Ok (window 0 3 (Some 2))
  -- 9, 1, 2, free to 5: 1 and 2 freed from behind the 9. Nothing goes.
  pub free_to_behind_larger : freed_to three large_first 5 ≢ Ok (window 0 1 None)
  -- 5, 5, 6, free to 5: nothing freed, as if only smaller ones went.
  pub free_to_stops_at_equal : freed_to three flown 5 ≢ Ok three
  -- 5, 5, 6: one freed, what the crate's comment says. The second 5 goes too.
  pub free_first_one_alone : freed_first three flown ≢ Ok (window 1 2 None)
  -- An empty queue at start 3: start 0.
  pub free_first_one_rewinds : freed_first (window 3 0 None) old ≢ Ok empty
  -- Three flights, cap 4, deferred 2: emptied, cap 4 kept.
  pub reset_keeps_cap : cleared (window 0 3 (Some 2)) 4 ≢ Ok empty
  -- One flight at start 2: emptied, the start kept.
  pub reset_keeps_start : cleared (window 2 1 None) 4 ≢ Ok (window 2 0 None)
  -- An empty queue at start 3: the start kept.
  pub maybe_free_buffer_keeps_start : rewound (window 3 0 None) 4 ≢ Ok (window 3 0 None)
  -- One flight at start 2: start 0, before a word that is no flight.
  pub maybe_free_buffer_not_empty : rewound (window 2 1 None) 4 ≢ Ok (window 0 1 None)
  -- Three flights, cap 4: 4, the cap.
  pub count_cap : counted three 4 ≢ Ok 4
  -- A broken window: its count. It is 13.
  pub count_broken : counted (above_ring 0 3) 4 ≢ Ok 3
  -- ---- in place: what is returned, and the window that is left
  -- Three flights, cap 5 in 4 words: no refusal, for 7.
  pub in_place_set_cap_no_refusal : ¬ Stored fine three (step_of three (capped three 4 5))
  -- Three flights, cap 5 in 4 words: 7, and the cap stored all the same.
  pub in_place_set_cap_changed : ¬ Stored (Err refusal.NoRoom) (of_cap 5 0 3) (step_of three (capped three 4 5))
  -- A full window: no refusal, for 11.
  pub in_place_add_no_refusal : ¬ Stored fine full (step_of full (added full 4))
  -- A full window: 11, and one more counted all the same.
  pub in_place_add_changed : ¬ Stored (Err refusal.WindowFull) (window 0 5 None) (step_of full (added full 4))
  -- 5 into an empty window: one flight counted, and the word not written.
  pub in_place_add_not_written : ¬ (Stored fine (window 0 1 None) (step_of empty (added empty 4)) × (old ≡ ring_after empty old 5))
  -- 5, 5, 6 in a broken window, free to 5: no refusal, for 13.
  pub in_place_free_to_no_refusal : ¬ Stored fine (above_ring 0 3) (step_of (above_ring 0 3) (freed_to (above_ring 0 3) flown 5))
  -- 5, 5, 6 in a broken window, free to 5: 13, and two freed all the same.
  pub in_place_free_to_changed : ¬ Stored (Err refusal.BrokenWindow) (above_ring 2 1) (step_of (above_ring 0 3) (freed_to (above_ring 0 3) flown 5))
  -- 5, 5, 6 in a broken window: no refusal, for 13.
  pub in_place_free_first_one_no_refusal : ¬ Stored fine (above_ring 0 3) (step_of (above_ring 0 3) (freed_first (above_ring 0 3) flown))
  -- 5, 5, 6 in a broken window: 13, and two freed all the same.
  pub in_place_free_first_one_changed : ¬ Stored (Err refusal.BrokenWindow) (above_ring 2 1) (step_of (above_ring 0 3) (freed_first (above_ring 0 3) flown))
  -- A broken window: no refusal, for 13.
  pub in_place_reset_no_refusal : ¬ Stored fine (above_ring 0 3) (step_of (above_ring 0 3) (cleared (above_ring 0 3) 4))
  -- A broken window: 13, and emptied all the same.
  pub in_place_reset_changed : ¬ Stored (Err refusal.BrokenWindow) (empty_of 5) (step_of (above_ring 0 3) (cleared (above_ring 0 3) 4))
  -- A broken window with an empty queue at start 3: no refusal, for 13.
  pub in_place_maybe_free_buffer_no_refusal : ¬ Stored fine (above_ring 3 0) (step_of (above_ring 3 0) (rewound (above_ring 3 0) 4))
  -- A broken window with an empty queue at start 3: 13, and start 0 all the same.
  pub in_place_maybe_free_buffer_changed : ¬ Stored (Err refusal.BrokenWindow) (above_ring 0 0) (step_of (above_ring 3 0) (rewound (above_ring 3 0) 4))
  -- ---- the same as one value, and where the window stays as it was handed in
  -- Three flights, cap 5 in 4 words: no refusal, for 7.
  pub bridge_set_cap_no_refusal : step_of three (capped three 4 5) ≢ step_left three fine
  -- Three flights, cap 2: the window as it was handed in, nothing deferred.
  pub bridge_set_cap_unchanged : step_of three (capped three 4 2) ≢ step_left three fine
  -- A full window: no refusal, for 11.
  pub bridge_add_no_refusal : step_of full (added full 4) ≢ step_left full fine
  -- An empty window: as it was handed in, nothing counted.
  pub bridge_add_unchanged : step_of empty (added empty 4) ≢ step_left empty fine
  -- 5 into an empty window: one flight counted, and the word not written.
  pub bridge_add_not_written : ¬ ((step_of empty (added empty 4) ≡ step_left (window 0 1 None) fine) × (ring_after empty old 5 ≡ old))
  -- 5, 5, 6 in a broken window, free to 5: no refusal, for 13.
  pub bridge_free_to_no_refusal : step_of (above_ring 0 3) (freed_to (above_ring 0 3) flown 5) ≢ step_left (above_ring 0 3) fine
  -- 5, 5, 6, free to 5: the window as it was handed in.
  pub bridge_free_to_unchanged : step_of three (freed_to three flown 5) ≢ step_left three fine
  -- 5, 5, 6 in a broken window: no refusal, for 13.
  pub bridge_free_first_one_no_refusal : step_of (above_ring 0 3) (freed_first (above_ring 0 3) flown) ≢ step_left (above_ring 0 3) fine
  -- 5, 5, 6: the window as it was handed in.
  pub bridge_free_first_one_unchanged : step_of three (freed_first three flown) ≢ step_left three fine
  -- A broken window: no refusal, for 13.
  pub bridge_reset_no_refusal : step_of (above_ring 0 3) (cleared (above_ring 0 3) 4) ≢ step_left (above_ring 0 3) fine
  -- Three flights: the window as it was handed in.
  pub bridge_reset_unchanged : step_of three (cleared three 4) ≢ step_left three fine
  -- A broken window with an empty queue at start 3: no refusal, for 13.
  pub bridge_maybe_free_buffer_no_refusal : step_of (above_ring 3 0) (rewound (above_ring 3 0) 4) ≢ step_left (above_ring 3 0) fine
  -- An empty queue at start 3: the window as it was handed in.
  pub bridge_maybe_free_buffer_unchanged : step_of (window 3 0 None) (rewound (window 3 0 None) 4) ≢ step_left (window 3 0 None) fine

-- ---- WRONG ENGINES

-- 01, "Promises without gaps": "a window that only counts": the ring stays as it was.
abbrev pub only_counts : Inflights → List ℕ → ℕ → List ℕ
only_counts w ring flight = ring

-- `free_to` with another rule for how many flights go; its refusal, and what becomes of the rest, stay.
abbrev pub freed_by : (ℕ → List ℕ → ℕ) → Inflights → List ℕ → ℕ → Answer Inflights
freed_by rule w ring to = window_unless (window_check w (length ring)) (take_up (behind w (rule to (flights w ring)) (length ring)))

-- 01, tempting mistakes: "freeing every flight at most `to` when a larger one stands in front".
abbrev pub every_at_most : ℕ → List ℕ → ℕ
every_at_most to queue = count (λ flight. leb flight to) queue

-- Neither keeps the promise.
pub record WrongEnginesWindow : Type 0 where
  -- 5 into an empty window.
  pub only_counts_fails : ¬ ((w : Inflights) (ring : List ℕ) (flight : ℕ) → ring_after w ring flight ≡ only_counts w ring flight)
  -- One thing alone is wrong with the other: by the right rule it is the promise.
  pub freed_by_the_rule : (w : Inflights) (ring : List ℕ) (to : ℕ) → freed_to w ring to ≡ freed_by leading w ring to
  -- 9, 1, 2, free to 5.
  pub frees_behind_larger : ¬ ((w : Inflights) (ring : List ℕ) (to : ℕ) → freed_to w ring to ≡ freed_by every_at_most w ring to)

-- The ring and the flights in it. A reader must know: the queue of a window and its ring is the list `flights`, its first flight first.
use Rattle.std.specs.Prelude.{cond, ℕ, suc, ◌+◌, ◌≤◌, ◌<◌, ◌%◌, max, List, [], ◌∷◌, length, get_or, leb}
use Rattle.units.specs.Lists.{listed}
use Rattle.inflights.specs.declared.Inflights.{Inflights}

-- 01, "What must change shape": "The ring is used modulo its own length". The place i behind the start, in a ring of n words. (In an empty ring start and i are 0, and so is the place.)
unfoldable pub place_of : ℕ → ℕ → ℕ → ℕ
place_of start i n = (start + i) % n

-- The k-th flight, counted from 0. For 01's "queue of u64 flights".
abbrev pub flight_at : ℕ → List ℕ → ℕ → ℕ
flight_at start ring k = get_or ring (place_of start k (length ring)) 0

-- All flights of the "queue of u64 flights", by where they start and how many they are.
unfoldable pub flights_from : ℕ → ℕ → List ℕ → List ℕ
flights_from start count ring = listed (flight_at start ring) 0 count

-- 01, Inflights: "A queue of u64 flights." That of a window and its ring.
abbrev pub flights : Inflights → List ℕ → List ℕ
flights w ring = flights_from w.start w.count ring

-- How many in front are at most `to`: "from the front while the flight is at most `to`, stopping at the first larger one".
unfoldable pub leading : ℕ → List ℕ → ℕ
leading to [] = 0
leading to (x ∷ xs) = cond (leb x to) (suc (leading to xs)) 0

-- A start and a number of flights behind it that a ring of n words has: refusal 13 keeps out "cap above the ring, a start outside the ring".
pub record InRing (start i n : ℕ) : Type 0 where
  pub start_ring : start < max n 1
  pub count_ring : i ≤ n

-- Two words about lists that several crates use. A reader must know: `listed` makes a list of what a function gives, and `Each` says one thing of every element.
use Rattle.std.specs.Prelude.{ℕ, zero, suc, ◌+◌, List, [], ◌∷◌}

-- f k, f (k + 1), .. : n of them. For the records of a store, "two words a record, term then body number", and for 01's "queue of u64 flights".
unfoldable pub listed : {A : Type 0} → (ℕ → A) → ℕ → ℕ → List A
listed f k zero = []
listed f k (suc n) = f k ∷ listed f (k + 1) n

-- Every element of a list is so. For the flights that go "while the flight is at most `to`", and for acknowledgements of 64 bits, each "missing or a number".
abbrev pub Each : {A : Type 0} → (A → Type 0) → List A → Type 0
Each P [] = Unit {0}
Each P (x ∷ xs) = P x × Each P xs

-- Lists of ids. A reader must know: an id stands in a list where its position is below the length; `distinct` says that none stands twice; `padded` is a list laid into an array.
use Rattle.std.specs.Prelude.{ℕ, suc, ◌-◌, Bool, true, not, ◌&&◌, cond, List, [], ◌∷◌, ◌++◌, length, take, replicate, eqb, leb, ltb}
use Rattle.units.specs.Refusals.{fine_or, Check}
use Rattle.units.specs.declared.refusal.Refusal.TheVariants as refusal

-- Where an id first stands, counted from 0; the length where it stands nowhere. For `contains` (01, Joint), and for rows that are "looked up by id".
unfoldable pub position : ℕ → List ℕ → ℕ
position id [] = 0
position id (x ∷ xs) = cond (eqb x id) 0 (suc (position id xs))

-- The id stands in the list. For `contains` (01, Joint), and for refusal 12: "a repeated voter id .. a repeated row id".
unfoldable pub has : ℕ → List ℕ → Bool
has id xs = ltb (position id xs) (length xs)

-- No id stands twice. 01, Majority: "A voter set of 0 to 7 different ids."
unfoldable pub distinct : List ℕ → Bool
distinct [] = true
distinct (x ∷ xs) = not (has x xs) && distinct xs

-- The test of refusal 12: the count is within its limit, and no id stands twice. 01, the table: "over 7 voters, a repeated voter id, over 64 rows, a repeated row id".
abbrev pub few_distinct : ℕ → ℕ → List ℕ → Bool
few_distinct count limit ids = leb count limit && distinct ids

-- The check of such a test: nothing wrong, or refusal 12, whose line of the table stands above.
abbrev pub fine_if : Bool → Check
fine_if b = fine_or b refusal.BrokenSet

-- Refusal 12 of 01's "duplicate-free array with a count": more than the array has, or a repeated id among the first `count`. (The array of a voter set, and of rows, is as long as their limit.)
abbrev pub check_of : List ℕ → ℕ → Check
check_of ids count = fine_if (few_distinct count (length ids) (take count ids))

-- How a list lies in an array of n words, for "a duplicate-free array with a count" (01, "What must change shape"): its first n, and zeros where it is shorter.
abbrev pub padded : ℕ → List ℕ → List ℕ
padded n xs = take n xs ++ replicate (n - length xs) 0

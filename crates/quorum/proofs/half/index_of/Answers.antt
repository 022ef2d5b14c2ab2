-- Nobody to ask, or the word in the middle of the sorted list, which is the quorum-th largest.
use Rattle.std.proofs.Common.{◌≡◌, ℕ, ◌-◌, ◌/◌, true, false, List, [], ◌∷◌, length, get_or, refl, ap, ◌∙◌, arith}
use Rattle.units.specs.Units.{word_max}
use Rattle.rules.specs.Majority.{quorum, falling, kth_largest, committed}
use Rattle.quorum.specs.Half.{half_index}
use Rattle.quorum.proofs.half.index_of.Goals as goal

nobody_had_a_say : (acks : List ℕ) → length acks ≡ 0 → (record { index = word_max; free = true } ≡ half_index acks) × (acks ≡ falling acks)
unfolding half_index falling
nobody_had_a_say [] e = (refl, refl)
nobody_had_a_say (a ∷ acks) e = let z : ⊥ = omega arith in absurd z

middle : (acks sorted : List ℕ) → sorted ≡ falling acks → get_or sorted (length acks / 2) 0 ≡ committed acks
unfolding committed kth_largest
middle acks sorted e =
    let same : length acks / 2 ≡ quorum (length acks) - 1 = omega arith in
    ap (λ (k : ℕ). get_or sorted k 0) same ∙ ap (λ (l : List ℕ). get_or l (quorum (length acks) - 1) 0) e

some_had_a_say : (acks sorted : List ℕ) → (length acks ≡ 0 → ⊥) → sorted ≡ falling acks → record { index = get_or sorted (length acks / 2) 0; free = false } ≡ half_index acks
unfolding half_index
some_had_a_say [] sorted h e = absurd (h refl)
some_had_a_say (a ∷ acks) sorted h e = ap (λ (n : ℕ). record { index = n; free = false }) (middle (a ∷ acks) sorted e)

pub returns-then-count-eq0 : goal.returns-then-count-eq0
returns-then-count-eq0 c = nobody_had_a_say c.args.acks.now c.if-count-eq0.true

pub returns : goal.returns
returns c = (some_had_a_say c.args.acks.now c.sort.new.words c.if-count-eq0.false c.sort.ensures, c.sort.ensures)

-- The smaller of the two halves' indices meets the joint rule, and no other number does: a half backs exactly the numbers up to its own index.
use Prim.Native.Nat.{ℕ, ◌≤◌, min}
use mathlib.Core.Path.{◌≡◌, refl}
use mathlib.Core.Bool.{true, and-eq-true_iff}
use mathlib.Core.List.{List, [], ◌∷◌}
use mathlib.Core.Logic.{◌↔◌}
use native.Mathlib.Omega.{arith}
use native.Mathlib.Nat.{le_antisymm, le_trans}
use Rattle.units.specs.Units.{word_max}
use Rattle.rules.specs.Majority.{committed}
use Rattle.rules.proofs.Majority.{reached_falls, committed_commits, committed_each}
use Rattle.quorum.specs.Half.{half_index, joined}
use Rattle.quorum_laws.specs.JointRule.{Backs, JointCommits}
use Rattle.quorum_laws.specs.Questions.{Words}

-- At most one number meets the rule.
pub joint_unique : {xs ys : List ℕ} {m n : ℕ} → JointCommits xs ys m → JointCommits xs ys n → m ≡ n
joint_unique {xs} {ys} {m} {n} a b =
    le_antisymm (b.largest m a.fits a.by_incoming a.by_outgoing) (a.largest n b.fits b.by_incoming b.by_outgoing)

-- One half.
pub index_fits : (acks : List ℕ) → Words acks → (half_index acks).index ≤ word_max
unfolding half_index
index_fits [] w = omega arith
index_fits (a ∷ acks) w = committed_each (λ n. n ≤ word_max) (a ∷ acks) (omega arith) w

-- It backs every number up to its index, ..
pub half_backs : (acks : List ℕ) (m : ℕ) → m ≤ (half_index acks).index → Backs acks m
unfolding half_index
half_backs [] m le some = let z : ⊥ = omega arith in absurd z
half_backs (a ∷ acks) m le some = le_trans (committed_commits (a ∷ acks) some).by_majority (reached_falls m _ (a ∷ acks) le)

-- .. and of the numbers of 64 bits no other.
pub backs_up_to_index : (acks : List ℕ) (m : ℕ) → m ≤ word_max → (m ≤ (half_index acks).index) ↔ Backs acks m
unfolding half_index
backs_up_to_index [] m fits = (half_backs [] m, (λ b. fits))
backs_up_to_index (a ∷ acks) m fits = (half_backs (a ∷ acks) m, (λ b. (committed_commits (a ∷ acks) (omega arith)).largest m (b (omega arith))))

free_if_nobody : (acks : List ℕ) → ((half_index acks).free ≡ true) ↔ (acks ≡ [])
unfolding half_index
free_if_nobody [] = ((λ e. refl), (λ e. refl))
free_if_nobody (a ∷ acks) = ((λ e. cc), (λ e. cc))

-- THE THEOREM
pub joined_commits : (xs ys : List ℕ) → Words xs → Words ys → JointCommits xs ys (joined (half_index xs) (half_index ys)).index
joined_commits xs ys v w =
    let fits : (joined (half_index xs) (half_index ys)).index ≤ word_max = omega (arith, index_fits xs v) in
    record {
      fits = fits;
      by_incoming = half_backs xs _ (omega arith);
      by_outgoing = half_backs ys _ (omega arith);
      largest = λ m h b c. omega (arith, (backs_up_to_index xs m h).1 b, (backs_up_to_index ys m h).1 c);
    }

-- The flag says that nobody had a say, and then the index is the largest word.
pub joined_free : (xs ys : List ℕ) → ((joined (half_index xs) (half_index ys)).free ≡ true) ↔ ((xs ≡ []) × (ys ≡ []))
joined_free xs ys = (
  (λ e. let f = (and-eq-true_iff (half_index xs).free (half_index ys).free).0 e in ((free_if_nobody xs).0 f.0, (free_if_nobody ys).0 f.1)),
  (λ e. (and-eq-true_iff (half_index xs).free (half_index ys).free).1 ((free_if_nobody xs).1 e.0, (free_if_nobody ys).1 e.1)),
)

pub joined_nobody : joined (half_index []) (half_index []) ≡ record { index = word_max; free = true }
unfolding half_index
joined_nobody = refl

-- One set alone is the joint with nobody outgoing.
pub joined_one_set : (acks : List ℕ) → (half_index acks).index ≤ word_max → joined (half_index acks) (half_index []) ≡ half_index acks
unfolding half_index
joined_one_set [] h = refl
joined_one_set (a ∷ acks) h = let smaller : min (committed (a ∷ acks)) word_max ≡ committed (a ∷ acks) = omega arith in cc

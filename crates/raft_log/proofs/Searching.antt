-- The one search: what a loop that runs it keeps, and what the place found says of the places before it.
use mathlib.Core.Path.{◌≡◌, sym, ap, subst, ◌∙◌}
use mathlib.Core.Bool.{Bool, true, false, not, cond}
use mathlib.Core.Logic.{⊎_elim}
use Prim.Native.Nat.{ℕ, zero, suc, ◌+◌, ◌-◌, ◌≤◌, ◌<◌}
use native.Mathlib.Omega.{arith}
use lib.Dec.{eqb}
use borrow.Author.Tests.{eq-eqb, ne_eqb, eqb-true}
use Rattle.std.specs.Prelude.{Option, Some, None, MatchOption, unwrap_or}
use Rattle.units.proofs.Cond.{either_end}
use Rattle.units.proofs.Numbers.{below_or_not}
use Rattle.raft_log.specs.Words.{first_from, none}
use Rattle.raft_log.proofs.States.{not_both}

pub same_not : {a b : ℕ} → a ≡ b → not (eqb a b) ≡ false
same_not h = ap not (eq-eqb _ _ h)

pub other_not : {a b : ℕ} → (a ≡ b → ⊥) → not (eqb a b) ≡ true
other_not h = ap not (ne_eqb _ _ h)

-- the search below n for the first position that p holds of has passed every position below k
pub record Seek (p : ℕ → Bool) (n k : ℕ) : Type 0 where
  pub within : k ≤ n
  pub same : first_from p 0 n ≡ first_from p k (n - k)

pub seek_start : (p : ℕ → Bool) (n : ℕ) → Seek p n 0
seek_start p n = record { within = omega arith; same = ap (first_from p 0) (omega arith) }

module _ {p : ℕ → Bool} {n k : ℕ} (s : Seek p n k) where
  one_more : (b : Bool) → k < n → p k ≡ b → first_from p 0 n ≡ cond b k (first_from p (k + 1) (n - (k + 1)))
  unfolding first_from
  one_more b h t =
      let e : n - k ≡ suc (n - (k + 1)) = omega arith in
      s.same ∙ ap (first_from p k) e ∙ ap (λ (x : Bool). cond x k (first_from p (k + 1) (n - (k + 1)))) t

  pub seek_next : k < n → p k ≡ false → Seek p n (k + 1)
  seek_next h f = record { within = omega arith; same = one_more false h f }

  pub seek_hit : k < n → p k ≡ true → k ≡ first_from p 0 n
  seek_hit h t = sym (one_more true h t)

  pub seek_end : n ≤ k → n ≡ first_from p 0 n
  unfolding first_from
  seek_end h =
      let e : n - k ≡ 0 = omega arith in
      let f : n ≡ k = omega arith in
      f ∙ sym (s.same ∙ ap (first_from p k) e)

-- the place found: p holds there unless it is the end, and of nothing before it
pub record Found (p : ℕ → Bool) (k n r : ℕ) : Type 0 where
  pub within : r ≤ k + n
  pub hit : r < k + n → p r ≡ true
  pub passed : (j : ℕ) → k ≤ j → j < r → p j ≡ false

module _ {p : ℕ → Bool} {k n : ℕ} where
  found_here : p k ≡ true → Found p k (suc n) k
  found_here t = record { within = omega arith; hit = λ h. t; passed = λ j h w. absurd (omega arith) }

  found_later : {r : ℕ} → Found p (k + 1) n r → p k ≡ false → Found p k (suc n) r
  found_later f t = record {
    within = omega (arith, f.within);
    hit = λ h. f.hit (omega arith);
    passed = λ j h w.
        ⊎_elim
        (λ lt. f.passed j (omega arith) w)
        (λ le.
        let e : k ≡ j = omega arith in
        subst (λ (x : ℕ). p x ≡ false) e t)
        (below_or_not k j);
  }

pub found : (p : ℕ → Bool) (k n : ℕ) → Found p k n (first_from p k n)
unfolding first_from
found p k zero = record { within = omega arith; hit = λ h. absurd (omega arith); passed = λ j h w. absurd (omega arith) }
found p k (suc n) = either_end (Found p k (suc n)) (p k) found_here (found_later (found p (k + 1) n))

-- and it is the only such place
pub found_is : {p : ℕ → Bool} {n r s : ℕ} → Found p 0 n r → Found p 0 n s → r ≡ s
found_is {p} {n} {r} {s} f g =
    ⊎_elim
    (λ lt. absurd (not_both (f.hit (omega (arith, g.within))) (g.passed r (omega arith) lt)))
    (λ ge.
    ⊎_elim
    (λ lt. absurd (not_both (g.hit (omega (arith, f.within))) (f.passed s (omega arith) lt)))
    (λ le. omega arith)
    (below_or_not s r))
    (below_or_not r s)

-- the answer of a library search over the range up to n, with n for none
pub first_in_range : (p : ℕ → Bool) (n : ℕ) (r : Option ℕ)
    → MatchOption r ((k : ℕ) → 0 ≤ k → k < n → p k ≡ false) (λ i. (0 ≤ i) × (i < n) × (p i ≡ true) × ((k : ℕ) → 0 ≤ k → k < i → p k ≡ false))
    → unwrap_or r n ≡ first_from p 0 n
first_in_range p n None h =
    found_is (record { within = omega arith; hit = λ l. absurd (omega arith); passed = λ j g l. h j g l }) (found p 0 n)
first_in_range p n (Some i) h =
    found_is (record { within = omega (arith, h.1); hit = λ l. h.2; passed = λ j g l. h.3 j g l }) (found p 0 n)

-- p holds of none of n positions: as the test says, and of each
module _ (p : ℕ → Bool) (n : ℕ) where
  pub none_below : none p n ≡ true → (j : ℕ) → j < n → p j ≡ false
  none_below h j r = (found p 0 n).passed j (omega arith) (omega (arith, eqb-true (first_from p 0 n) n h))

  pub below_none : ((j : ℕ) → j < n → p j ≡ false) → none p n ≡ true
  below_none h =
      eq-eqb (first_from p 0 n) n
      (found_is (found p 0 n) (record { within = omega arith; hit = λ r. absurd (omega arith); passed = λ j _ r. h j r }))

-- A search downwards: what its loop keeps, and the answers of `find_conflict_by_term` that rest on it.
use mathlib.Core.Path.{◌≡◌, refl, sym, ap, subst, ◌∙◌}
use mathlib.Core.Bool.{Bool, true, false, cond}
use mathlib.Core.List.{List}
use Prim.Native.Nat.{ℕ, zero, suc, ◌+◌, ◌-◌, ◌≤◌, ◌<◌}
use native.Mathlib.Omega.{arith}
use lib.Dec.{leb}
use borrow.Author.Tests.{le-leb, lt-leb, lt-ltb, le-ltb}
use Rattle.units.specs.Units.{index_of, as_term}
use Rattle.raft_log.specs.declared.Log.{Log}
use Rattle.raft_log.specs.Words.{store_term}
use Rattle.raft_log.specs.State.{Good, term_at, last_of}
use Rattle.raft_log.specs.Look.{at_most, record_at_most, last_down, by_term_in}
use Rattle.raft_log.proofs.States.{term_settled, term_pending}
use Rattle.units.proofs.Cond.{either_end}
use Rattle.std.specs.Prelude.{Ok, Some, None}

-- the search from i down has passed every number above j
pub record Down (p : ℕ → Bool) (i j : ℕ) : Type 0 where
  pub same : last_down p i ≡ last_down p j

pub down_start : (p : ℕ → Bool) (i : ℕ) → Down p i i
down_start p i = record { same = refl }

one_step : (p : ℕ → Bool) (j : ℕ) → 0 < j → last_down p j ≡ cond (p j) j (last_down p (j - 1))
unfolding last_down
one_step p zero h = absurd (omega arith)
one_step p (suc j) h =
    let e : suc j - 1 ≡ j = omega arith in
    rw e

module _ {p : ℕ → Bool} {i j : ℕ} (d : Down p i j) where
  pub down_next : 0 < j → p j ≡ false → Down p i (j - 1)
  down_next h f = record { same = d.same ∙ one_step p j h ∙ simp f }

  pub down_hit : 0 < j → p j ≡ true → j ≡ last_down p i
  down_hit h t = sym (d.same ∙ one_step p j h ∙ simp t)

  pub down_end : j ≤ 0 → 0 ≡ last_down p i
  unfolding last_down
  down_end h =
      let e : j ≡ 0 = omega arith in
      sym (d.same ∙ ap (last_down p) e)

-- on the n numbers past a, p is q
pub record Alike (p q : ℕ → Bool) (a n : ℕ) : Type 0 where
  pub same : (k : ℕ) → 0 < k → k ≤ n → p (a + k) ≡ q k

-- the search of q from n down ends at r, and q is p past a: so p's from a + n down has passed every number above a + r
record Over (p : ℕ → Bool) (a n r : ℕ) : Type 0 where
  within : r ≤ n
  passed : Down p (a + n) (a + r)
  hit : 0 < r → p (a + r) ≡ true

over_here : {p : ℕ → Bool} {a n : ℕ} → p (a + suc n) ≡ true → Over p a (suc n) (suc n)
over_here {p} {a} {n} t = record { within = omega arith; passed = down_start p (a + suc n); hit = λ h. t }

over_later : {p : ℕ → Bool} {a n r : ℕ} → p (a + suc n) ≡ false → Over p a n r → Over p a (suc n) r
over_later {p} {a} {n} {r} f o =
    let above : 0 < a + suc n = omega arith in
    let e : a + suc n - 1 ≡ a + n = omega arith in
    record {
      within = omega (arith, o.within);
      passed = record { same = (down_next (down_start p (a + suc n)) above f).same ∙ ap (last_down p) e ∙ o.passed.same };
      hit = o.hit;
    }

over : (p q : ℕ → Bool) (a n : ℕ) → Alike p q a n → Over p a n (last_down q n)
unfolding last_down
over p q a zero alike = record { within = omega arith; passed = down_start p (a + 0); hit = λ h. absurd (omega arith) }
over p q a (suc n) alike =
    let s : p (a + suc n) ≡ q (suc n) = alike.same (suc n) (omega arith) (omega arith) in
    either_end (Over p a (suc n)) (q (suc n))
    (λ t. over_here (s ∙ t))
    (λ f. over_later (s ∙ f) (over p q a n (record { same = λ k h w. alike.same k h (omega arith) })))

-- what the search of q found
module _ {p q : ℕ → Bool} {a n i k : ℕ} (alike : Alike p q a n) (e : a + n ≡ i) (f : k ≡ last_down q n) where
  found_over : Over p a n k
  found_over = subst (Over p a n) (sym f) (over p q a n alike)

  pub over_within : a + k ≤ i
  over_within = omega (arith, found_over.within)

  pub over_hit : 0 < k → a + k ≡ last_down p i
  over_hit h = down_hit found_over.passed (omega arith) (found_over.hit h) ∙ ap (last_down p) e

  pub over_none : {r : ℕ} → k ≤ 0 → r ≡ last_down p a → r ≡ last_down p i
  over_none h w =
      let z : a ≡ a + k = omega arith in
      w ∙ ap (last_down p) z ∙ sym found_over.passed.same ∙ ap (last_down p) e

module _ {l : Log} {settled pending : List ℕ} (good : Good l settled pending) (n t : ℕ) where
  -- the records after the start, in settled
  pub over_settled : l.start.0 + n < l.offset.0 → Alike (at_most l settled pending t) (record_at_most settled t) l.start.0 n
  over_settled w =
      record {
        same = λ k h v.
            let q : l.start.0 + k - l.start.0 - 1 ≡ k - 1 = omega arith in
            ap (λ x. leb x t) (term_settled l settled pending (l.start.0 + k) (omega arith) (omega arith) ∙ ap (store_term settled) q);
      }

  -- and those from the offset on, in pending
  pub over_pending : n ≤ l.count → Alike (at_most l settled pending t) (record_at_most pending t) (l.offset.0 - 1) n
  over_pending w =
      record {
        same = λ k h v.
            let o = good.start_lt_offset in
            let q : l.offset.0 - 1 + k - l.offset.0 ≡ k - 1 = omega arith in
            ap (λ x. leb x t) (term_pending l settled pending (l.offset.0 - 1 + k) (omega arith) (omega arith) (omega arith) ∙ ap (store_term pending) q);
      }

module _ (l : Log) (settled pending : List ℕ) where
  -- the term that was read at j, against t
  module _ (j t : ℕ) {read : ℕ} (e : read ≡ term_at l settled pending j) where
    pub at_most_lem : read ≤ t → at_most l settled pending t j ≡ true
    at_most_lem h = le-leb (term_at l settled pending j) t (omega arith)

    pub above : t < read → at_most l settled pending t j ≡ false
    above h = lt-leb (term_at l settled pending j) t (omega arith)

  module _ (i t : ℕ) where
    pub by_beyond : last_of l < i → by_term_in l settled pending i t ≡ Ok (index_of i, None)
    unfolding by_term_in
    by_beyond h = simp (lt-ltb _ _ h)

    pub by_found : {j u : ℕ} → i ≤ last_of l → j ≡ last_down (at_most l settled pending t) i → u ≡ term_at l settled pending j
        → by_term_in l settled pending i t ≡ Ok (index_of j, Some (as_term u))
    unfolding by_term_in
    by_found h e f = simp (le-ltb _ _ h, f, e)

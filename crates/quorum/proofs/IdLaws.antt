-- Laws of positions, of standing in a list and of distinct ids.
use Prim.Native.Nat.{ℕ, suc, ◌≤◌, ◌<◌}
use mathlib.Core.Path.{◌≡◌, refl, ap}
use mathlib.Core.Bool.{Bool, true, false, ◌||◌, cond}
use mathlib.Core.List.{List, [], ◌∷◌, map}
use native.Mathlib.Omega.{arith}
use lib.ListN.{length, get_or}
use lib.Dec.{eqb, ltb, leb-suc-suc}
use Rattle.std.specs.Option.{unwrap_or}
use Rattle.std.specs.List.{position_or_len}
use Rattle.std.proofs.lemmas.List.Recursion.{is_position_or_len}
use Rattle.std.proofs.Common.{Option, Some, None}
use Rattle.units.proofs.Cond.{either_end, both_ends}
use borrow.Author.Tests.{ltb-false, eq-eqb, ne_eqb, lt-ltb, le-ltb}
use Rattle.quorum.specs.Ids.{position, has, distinct}
use Rattle.quorum.specs.Rows.{nobody, id_of, row_of}
use Rattle.quorum.specs.declared.rows.Peer.{Peer}

pub position_here : (id x : ℕ) (xs : List ℕ) → x ≡ id → position id (x ∷ xs) ≡ 0
unfolding position
position_here id x xs e = rw (eq-eqb x id e)

pub position_next : (id x : ℕ) (xs : List ℕ) → (x ≡ id → ⊥) → position id (x ∷ xs) ≡ suc (position id xs)
unfolding position
position_next id x xs e = rw (ne_eqb x id e)

position_within : (id : ℕ) (xs : List ℕ) → position id xs ≤ length xs
unfolding position
position_within id [] = omega arith
position_within id (x ∷ xs) = both_ends (λ (n : ℕ). n ≤ length (x ∷ xs)) (eqb x id) (omega arith) (omega (arith, position_within id xs))

-- It is what the library's `position` finds; the length where that finds none.
pub position_or_length : (id : ℕ) (xs : List ℕ) → unwrap_or (cond (ltb (position_or_len (λ x. eqb x id) xs) (length xs)) (Some (position_or_len (λ x. eqb x id) xs)) None) (length xs) ≡ position id xs
unfolding position
position_or_length id xs =
    rw (← is_position_or_len (position id) (λ x. eqb x id) refl (λ x ys. ap (cond (eqb x id) 0) (omega arith)) xs)
    (either_end (λ (o : Option ℕ). unwrap_or o (length xs) ≡ position id xs) (ltb (position id xs) (length xs)) (λ t. refl) (λ f. omega (arith, ltb-false _ _ f, position_within id xs)))

pub distinct_none : (xs : List ℕ) → length xs ≡ 0 → distinct xs ≡ true
unfolding distinct
distinct_none [] h = refl
distinct_none (x ∷ xs) h = let z : ⊥ = omega arith in absurd z

pub distinct_twice : (x : ℕ) (xs : List ℕ) → position x xs < length xs → distinct (x ∷ xs) ≡ false
unfolding distinct has
distinct_twice x xs h = rw (lt-ltb (position x xs) (length xs) h)

pub distinct_once : (x : ℕ) (xs : List ℕ) → length xs ≤ position x xs → distinct (x ∷ xs) ≡ distinct xs
unfolding distinct has
distinct_once x xs h = rw (le-ltb (position x xs) (length xs) h)

-- An id stands in no empty list; in a longer one, at its head or behind it.
pub has_none : (id : ℕ) → has id [] ≡ false
unfolding has position
has_none id = refl

pub has_cons : (id x : ℕ) (xs : List ℕ) → has id (x ∷ xs) ≡ eqb x id || has id xs
unfolding has position
has_cons id x xs = at (eqb x id) (position id xs)
  where
    at : (b : Bool) (n : ℕ) → ltb (cond b 0 (suc n)) (length (x ∷ xs)) ≡ b || ltb n (length xs)
    at true n = lt-ltb 0 (length (x ∷ xs)) (omega arith)
    at false n = leb-suc-suc (suc n) (length xs)

-- The row of an id: the first where it has the id, else that among the others.
pub row_cons : (p : Peer) (peers : List Peer) (id : ℕ) → row_of (p ∷ peers) id ≡ cond (eqb (id_of p) id) p (row_of peers id)
unfolding position
row_cons p peers id = at (eqb (id_of p) id)
  where
    at : (b : Bool) → get_or (p ∷ peers) (cond b 0 (suc (position id (map id_of peers)))) nobody ≡ cond b p (row_of peers id)
    at true = refl
    at false = refl

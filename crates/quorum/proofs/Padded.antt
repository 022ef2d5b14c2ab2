-- Laws of `padded`: a list lies at the front of an array with zeros behind it, and what is stored at its end makes it longer.
use Prim.Native.Nat.{ℕ, zero, suc, ◌+◌, ◌-◌, ◌≤◌, ◌<◌, min}
use mathlib.Core.Path.{◌≡◌, refl, sym, ap, ◌∙◌}
use mathlib.Core.List.{List, [], ◌∷◌, ◌++◌, map, map-append}
use native.Mathlib.Omega.{arith}
use native.Mathlib.Nat.{zero-sub}
use native.Mathlib.Numerals.{add-one, unary_clauses}
use lib.ListN.{length, get_or, set, take, replicate, length-append, length-map, length-take, length-replicate}
use lib.Seq.{sets, take_all, take-nil, take-append_seam, take-suc, length-take-le}
use Rattle.units.proofs.Lists.{sets_cons, sets_out}
use Rattle.quorum.specs.Ids.{padded}
use Rattle.quorum.proofs.Front.{Front, front}

abbrev zeros : ℕ → List ℕ
zeros n = replicate n 0

pub length-padded : (n : ℕ) (xs : List ℕ) → length (padded n xs) ≡ n
length-padded n xs = simp (length-append, length-take, length-replicate) (omega arith)

-- An array of zeros holds the empty list.
pub padded_none : (n : ℕ) → replicate n 0 ≡ padded n []
padded_none n = let e : n ≡ n - length {A = ℕ} [] = omega arith in rw take-nil (ap zeros e)

module _ (n : ℕ) (xs : List ℕ) (fits : length xs ≤ n) where
  padded_fits : padded n xs ≡ xs ++ zeros (n - length xs)
  padded_fits = ap (λ (l : List ℕ). l ++ zeros (n - length xs)) (take_all n xs fits)

  pub take-padded : take (length xs) (padded n xs) ≡ xs
  take-padded = rw padded_fits (take-append_seam xs (zeros (n - length xs)))

-- An array in which a list lies: so many words at its front are the list.
pub record Laid (all : List ℕ) (count : ℕ) (xs : List ℕ) : Type 0 where
  pub part : Front all count
  pub is : take count all ≡ xs

pub laid : (n count : ℕ) (xs all : List ℕ) → all ≡ padded n xs → length xs ≡ count → count ≤ n → Laid all count xs
laid n count xs all e long few =
    record {
      part = front all count (ap length e ∙ length-padded n xs) few;
      is = ap (take count) e ∙ ap (λ (k : ℕ). take k (padded n xs)) (sym long) ∙ take-padded n xs (omega arith);
    }

-- What f says of a list lies at the front.
pub front_padded : {A : Type 0} (f : A → ℕ) (n : ℕ) (xs : List A) → length xs ≤ n → take (length xs) (padded n (map f xs)) ≡ map f xs
front_padded f n xs h = (laid n (length xs) (map f xs) (padded n (map f xs)) refl (length-map xs f) h).is

-- A list that is stored at the end of the one that the array holds: what there is no room for does not count.
pub sets_zeros : (n : ℕ) (ys : List ℕ) → sets (replicate n 0) 0 ys ≡ padded n ys
sets_zeros zero ys = rw zero-sub (sets_out [] 0 ys (omega arith))
sets_zeros (suc n) [] = padded_none (suc n)
sets_zeros (suc n) (y ∷ ys) = simp unary_clauses (sets_cons y (zeros n) 0 ys ∙ ap (λ (zs : List ℕ). y ∷ zs) (sets_zeros n ys))

pub sets-padded : (n : ℕ) (xs ys : List ℕ) → sets (padded n xs) (length xs) ys ≡ padded n (xs ++ ys)
sets-padded n [] ys = ap (λ (l : List ℕ). sets l 0 ys) (sym (padded_none n)) ∙ sets_zeros n ys
sets-padded zero (x ∷ xs) ys = simp zero-sub (sets_out [] (suc (length xs)) ys (omega arith))
sets-padded (suc n) (x ∷ xs) ys = simp unary_clauses (sets_cons x (padded n xs) (length xs) ys ∙ ap (λ (zs : List ℕ). x ∷ zs) (sets-padded n xs ys))

-- A loop that fills an array with f of the elements of a list: one turn is one store, and the last turn leaves nothing out that fits.
module _ {A : Type 0} (f : A → ℕ) (d : A) where
  pub filled_more : (n i : ℕ) (xs : List A) → i < n → i < length xs → set (padded n (map f (take i xs))) i (f (get_or xs i d)) ≡ padded n (map f (take (i + 1) xs))
  filled_more n i xs h g =
      let len : length (map f (take i xs)) ≡ i = length-map (take i xs) f ∙ length-take-le i xs (omega arith) in
      ap (λ (k : ℕ). set (padded n (map f (take i xs))) k (f (get_or xs i d))) (sym len)
      ∙ sets-padded n (map f (take i xs)) (f (get_or xs i d) ∷ [])
      ∙ ap (padded n) (sym (map-append f (take i xs) (get_or xs i d ∷ [])) ∙ ap (map f) (sym (take-suc xs i d g)) ∙ ap (λ (k : ℕ). map f (take k xs)) (sym (add-one i)))

pub filled_all : {A : Type 0} (f : A → ℕ) (n i : ℕ) (xs : List A) → i ≡ min (length xs) n → padded n (map f (take i xs)) ≡ padded n (map f xs)
filled_all f zero i xs e = simp zero-sub
filled_all f (suc n) zero [] e = refl
filled_all f (suc n) zero (x ∷ xs) e = let z : ⊥ = omega arith in absurd z
filled_all f (suc n) (suc i) [] e = refl
filled_all f (suc n) (suc i) (x ∷ xs) e = simp unary_clauses (ap (λ (zs : List ℕ). f x ∷ zs) (filled_all f n i xs (omega arith)))

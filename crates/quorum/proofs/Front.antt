-- The front of an array, as a count names it: so many are there, and they are so many. It is what lending `&words[..count]` asks.
use Prim.Native.Nat.{ℕ, ◌≤◌}
use mathlib.Core.Path.{◌≡◌, sym}
use mathlib.Core.List.{List}
use native.Mathlib.Omega.{arith}
use lib.ListN.{length, take}
use lib.Seq.{length-take-le}

pub record Front {A : Type 0} (words : List A) (count : ℕ) : Type 0 where
  pub held : count ≤ length words
  pub counted : count ≡ length (take count words)

-- Each count within the array's length names one.
pub front : {A : Type 0} (words : List A) (count : ℕ) {limit : ℕ} → length words ≡ limit → count ≤ limit → Front words count
front words count sized few =
    let held : count ≤ length words = omega arith in
    record { held = held; counted = sym (length-take-le count words held) }

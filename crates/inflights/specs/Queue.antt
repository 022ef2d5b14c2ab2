-- What the calls do to the queue, in plain words on lists. A reader must know: proofs/Queue.antt shows that the promises of `Calls` do this to `flights`, and proofs/Stays.antt that a window that a call answers is `NeverBroken`.
use Rattle.std.specs.Prelude.{ℕ, ◌≤◌, ◌<◌, ◌≡◌, ◌≢◌, ◌⊎◌, List, [], ◌∷◌, ◌++◌, length, Err, Some, None, Option}
use Rattle.units.specs.declared.refusal.Refusal.TheVariants as refusal
use Rattle.units.specs.Lists.{Each}
use Rattle.inflights.specs.Calls.{capped, fullness, counted, added, freed_to, freed_first, cleared, rewound}
use Rattle.inflights.specs.declared.Inflights.{Inflights}

-- Every flight of a list is at most `to`: those that go "while the flight is at most `to`".
unfoldable pub AllAtMost : ℕ → List ℕ → Type 0
AllAtMost to = Each (λ x. x ≤ to)

-- A list is empty, or begins with a flight above `to`: "stopping at the first larger one".
unfoldable pub BeginsAbove : ℕ → List ℕ → Type 0
BeginsAbove to [] = Unit {0}
BeginsAbove to (x ∷ xs) = to < x

-- 01, Inflights: "drops from the front while the flight is at most `to`, stopping at the first larger one". No shorter and no longer front part is so (`frees_one_way`).
pub record Frees (to : ℕ) (before after : List ℕ) : Type 0 where
  pub gone : List ℕ
  pub parts : before ≡ gone ++ after
  pub small : AllAtMost to gone
  pub stops : BeginsAbove to after

-- 01, Inflights: "a deferred cap exists and count is at least that".
abbrev pub Reached : Option ℕ → ℕ → Type 0
Reached None count = ⊥
Reached (Some c) count = c ≤ count

-- 01, Inflights: "`full` is count = cap, or a deferred cap exists and count is at least that."
abbrev pub IsFull : Inflights → ℕ → Type 0
IsFull w count = (count ≡ w.cap) ⊎ Reached w.deferred count

-- No call on this ring refuses the window with 13: "window state broken".
pub record NeverBroken (w : Inflights) (ring : List ℕ) : Type 0 where
  pub full : fullness w (length ring) ≢ Err refusal.BrokenWindow
  pub count : counted w (length ring) ≢ Err refusal.BrokenWindow
  pub set_cap : (cap : ℕ) → capped w (length ring) cap ≢ Err refusal.BrokenWindow
  pub add : added w (length ring) ≢ Err refusal.BrokenWindow
  pub free_to : (to : ℕ) → freed_to w ring to ≢ Err refusal.BrokenWindow
  pub free_first_one : freed_first w ring ≢ Err refusal.BrokenWindow
  pub reset : cleared w (length ring) ≢ Err refusal.BrokenWindow
  pub maybe_free_buffer : rewound w (length ring) ≢ Err refusal.BrokenWindow

-- What the list of the ids of a joint configuration is, as a statement. A reader must know: `ListsBoth c ids` says it; that `both_ids` is such a list, and the only one, is proved in proofs/Ids.antt.
use Rattle.std.specs.Prelude.{ℕ, ◌<◌, ◌≡◌, true, ◌||◌, List, [], ◌∷◌}
use Rattle.quorum.specs.Ids.{has}
use Rattle.quorum.specs.Voters.{voters_of}
use Rattle.quorum.specs.declared.joint.JointConfig.{JointConfig}

-- Each id is smaller than all that stand behind it ("in rising order"); so none stands twice ("each once").
abbrev pub Rising : List ℕ → Type 0
Rising [] = Unit {0}
Rising (x ∷ xs) = ((y : ℕ) → has y xs ≡ true → x < y) × Rising xs

-- 01, Joint: "the ids of both, each once. We list ids in rising order".
pub record ListsBoth (c : JointConfig) (ids : List ℕ) : Type 0 where
  pub rises : Rising ids
  pub members : (id : ℕ) → has id ids ≡ has id (voters_of c.incoming) || has id (voters_of c.outgoing)

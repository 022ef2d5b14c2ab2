-- Rows in words, one after the other: the row at a place, the ids from there on, and what a question reads of the row of an id.
use Prim.Native.Nat.{ℕ, zero, suc, ◌+◌, ◌*◌, ◌/◌, ◌≤◌, ◌<◌}
use mathlib.Core.Path.{◌≡◌, refl, sym, ap, ◌∙◌}
use mathlib.Core.List.{List, [], ◌∷◌, map}
use native.Mathlib.Omega.{arith}
use native.Mathlib.Nat.{add-zero}
use native.Mathlib.Numerals.{add-one}
use lib.ListN.{length, get_or, drop, length-drop, length-map, get_or-eq_default}
use lib.Seq.{get_or-drop, drop-drop}
use Rattle.quorum.specs.Ids.{position}
use Rattle.quorum.specs.Rows.{nobody, id_of, value_for}
use Rattle.quorum.specs.declared.rows.Peer.{Peer}
use Rattle.quorum.specs.declared.rows.Question.{Question}
use Rattle.quorum.proofs.Gathered.{nothing_read}
use Rattle.exports.specs.Rows.{row_length, peer_from, peers_from, row_ids, read_of}

-- Four words are a row, and the other rows stand behind it.
first_row : (words : List ℕ) → row_length ≤ length words
    → peers_from words ≡ peer_from (get_or words 0 0) (get_or words 1 0) (get_or words 2 0) (get_or words 3 0) ∷ peers_from (drop row_length words)
unfolding peers_from
first_row [] h = let z : ⊥ = omega arith in absurd z
first_row (a ∷ []) h = let z : ⊥ = omega arith in absurd z
first_row (a ∷ b ∷ []) h = let z : ⊥ = omega arith in absurd z
first_row (a ∷ b ∷ c ∷ []) h = let z : ⊥ = omega arith in absurd z
first_row (a ∷ b ∷ c ∷ d ∷ words) h = refl

-- Fewer are none.
no_row : (words : List ℕ) → length words < row_length → peers_from words ≡ []
unfolding peers_from
no_row [] h = refl
no_row (a ∷ []) h = refl
no_row (a ∷ b ∷ []) h = refl
no_row (a ∷ b ∷ c ∷ []) h = refl
no_row (a ∷ b ∷ c ∷ d ∷ words) h = let z : ⊥ = omega arith in absurd z

-- There are as many rows as the words have room for.
pub rows_count : (words : List ℕ) → length (peers_from words) ≡ length words / row_length
unfolding peers_from
rows_count [] = refl
rows_count (a ∷ []) = refl
rows_count (a ∷ b ∷ []) = refl
rows_count (a ∷ b ∷ c ∷ []) = refl
rows_count (a ∷ b ∷ c ∷ d ∷ words) = let rest = rows_count words in omega arith

pub ids_count : (words : List ℕ) → length (row_ids words) ≡ length words / row_length
ids_count words = length-map (peers_from words) id_of ∙ rows_count words

-- The row whose words begin at a place, by its words.
pub row_at : (words : List ℕ) (at : ℕ) → at + row_length ≤ length words
    → peers_from (drop at words) ≡ peer_from (get_or words at 0) (get_or words (at + 1) 0) (get_or words (at + 2) 0) (get_or words (at + 3) 0) ∷ peers_from (drop (at + row_length) words)
row_at words at h =
    let enough : row_length ≤ length (drop at words) = simp length-drop (omega arith) in
    first_row (drop at words) enough ∙ simp (get_or-drop, drop-drop, add-zero)

-- The ids from a place on: that of the row there first, and none where no whole row is left.
pub ids_next : (words : List ℕ) (at : ℕ) → at + row_length ≤ length words → row_ids (drop at words) ≡ get_or words at 0 ∷ row_ids (drop (at + row_length) words)
ids_next words at h = ap (map id_of) (row_at words at h)

pub ids_end : (words : List ℕ) (at : ℕ) → length words < at + row_length → row_ids (drop at words) ≡ []
ids_end words at short = let fewer : length (drop at words) < row_length = simp length-drop (omega arith) in ap (map id_of) (no_row (drop at words) fewer)

-- The rows from the k-th on are those of the words from its first on.
rows_from_lem : (words : List ℕ) (k : ℕ) → k * row_length ≤ length words → peers_from (drop (k * row_length) words) ≡ drop k (peers_from words)
rows_from_lem words zero h = refl
rows_from_lem words (suc k) h =
    let row : suc k * row_length ≡ k * row_length + row_length = omega arith in
    ap (λ (at : ℕ). peers_from (drop at words)) row
    ∙ ap (drop 1) (sym (row_at words (k * row_length) (omega arith)) ∙ rows_from_lem words k (omega arith))
    ∙ drop-drop 1 k (peers_from words)
    ∙ ap (λ (n : ℕ). drop n (peers_from words)) (add-one k)

-- What a question reads of the row of an id, by where its words begin; 0 where no whole row is left there.
module _ (q : Question) (words : List ℕ) (id at : ℕ) (begins : at ≡ position id (row_ids words) * row_length) where
  pub read_there : at + row_length ≤ length words → (p : Peer) (others : List Peer) → peers_from (drop at words) ≡ p ∷ others → value_for q p ≡ read_of q words id
  read_there h p others e =
      let k = position id (row_ids words) in
      let inside : k * row_length ≤ length words = omega arith in
      let first : get_or (drop k (peers_from words)) 0 nobody ≡ get_or (peers_from words) k nobody = simp (get_or-drop, add-zero) in
      ap (λ (rows : List Peer). value_for q (get_or rows 0 nobody)) (sym e ∙ ap (λ (n : ℕ). peers_from (drop n words)) begins ∙ rows_from_lem words k inside)
      ∙ ap (value_for q) first

  pub read_nowhere : length words < at + row_length → read_of q words id ≡ 0
  read_nowhere h =
      let beyond : length (peers_from words) ≤ position id (row_ids words) = omega (arith, rows_count words) in
      ap (value_for q) (get_or-eq_default (peers_from words) nobody beyond) ∙ nothing_read q

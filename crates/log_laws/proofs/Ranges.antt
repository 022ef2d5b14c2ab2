-- The records of a range of a log, and the words that read as them: a part of a store, and two parts one after the other.
use mathlib.Core.Path.{◌≡◌, refl, sym, ap, ap₂, ◌∙◌}
use mathlib.Core.List.{List, ◌∷◌, ◌++◌}
use Prim.Native.Nat.{ℕ, zero, suc, ◌+◌, ◌-◌, ◌*◌, ◌≤◌, ◌<◌}
use native.Mathlib.Omega.{arith}
use lib.ListN.{length, get_or, take, drop, length-take, length-drop, length-append, get_or-append}
use lib.Seq.{drop-cons, get_or-take, get_or-drop, get_or-append-add}
use Rattle.units.specs.Lists.{listed}
use Rattle.units.proofs.Lists.{same_listed, append-listed}
use Rattle.rules.specs.Log.{Entry, nothing, Log as Abstract, last, entry_at}
use Rattle.raft_log.specs.Words.{record_words, room}
use Rattle.raft_log.specs.Slice.{store_part}
use Rattle.log_laws.specs.View.{store_entry, records}
use Rattle.log_laws.specs.Slicing.{records_from, Reads}
use Rattle.raft_log.proofs.Slices.{part_some}
use Rattle.log_laws.proofs.Views.{listed_two, same_entry, entry_after}

taken_listed : (es : List Entry) (k n : ℕ) → k + n ≤ length es → take n (drop k es) ≡ listed (λ (i : ℕ). get_or es i nothing) k n
unfolding listed
taken_listed es k zero h = refl
taken_listed es k (suc n) h =
    let next : suc k ≡ k + 1 = omega arith in
    ap (take (suc n)) (drop-cons es k nothing (omega arith))
    ∙ ap (λ (rest : List Entry). get_or es k nothing ∷ rest) (ap (λ (j : ℕ). take n (drop j es)) next ∙ taken_listed es (k + 1) n (omega arith))

module _ (log : Abstract) where
  -- The records of a range are what the log has at each index of it.
  pub from_entries : (low high : ℕ) → log.start < low → low ≤ high → high ≤ last log + 1 → records_from log low high ≡ listed (entry_at log) low (high - low)
  unfolding records_from
  from_entries low high h k m =
      taken_listed log.entries (low - log.start - 1) (high - low) (omega arith)
      ∙ same_listed (λ (i : ℕ). get_or log.entries i nothing) (entry_at log) (low - log.start - 1) low (high - low)
      (λ i r. ap (λ (j : ℕ). get_or log.entries j nothing) (omega arith) ∙ sym (entry_after log (low + i) (omega arith)))

  from_joined : (low mid high : ℕ) → log.start < low → low ≤ mid → mid ≤ high → high ≤ last log + 1
      → records_from log low mid ++ records_from log mid high ≡ records_from log low high
  from_joined low mid high h a b m =
      let seam : mid ≡ low + (mid - low) = omega arith in
      let number : mid - low + (high - mid) ≡ high - low = omega arith in
      ap₂ (λ (x y : List Entry). x ++ y)
      (from_entries low mid h a (omega arith))
      (from_entries mid high (omega arith) b m ∙ ap (λ (x : ℕ). listed (entry_at log) x (high - mid)) seam)
      ∙ sym (append-listed (entry_at log) low (mid - low) (high - mid))
      ∙ ap (listed (entry_at log) low) number
      ∙ sym (from_entries low high h (omega arith) m)

module _ (store : List ℕ) (first low high : ℕ) (above : first ≤ low) (order : low ≤ high) (held : high - first ≤ room store) where
  abbrev part : List ℕ
  part = store_part store first low high

  part_long : length part ≡ (high - low) * record_words
  part_long = rw part_some (simp (length-take, length-drop) (omega arith))

  part_word : (w : ℕ) → w < (high - low) * record_words → get_or part w 0 ≡ get_or store ((low - first) * record_words + w) 0
  part_word w h =
      let a : w < (high - first) * record_words - (low - first) * record_words = omega arith in
      rw part_some (rw (get_or-take, get_or-drop))

  part_entry : (i : ℕ) → i < high - low → store_entry part i ≡ store_entry store (low + i - first)
  part_entry i h =
      same_entry part store i (low + i - first)
      (λ w k. part_word (i * record_words + w) (omega arith) ∙ ap (λ (x : ℕ). get_or store x 0) (omega arith))

  -- A part of a store reads as the log's records, where the store has them in their places.
  pub part_reads : (log : Abstract) → log.start < low → high ≤ last log + 1 → ((i : ℕ) → low ≤ i → i < high → entry_at log i ≡ store_entry store (i - first)) → Reads log low high part
  part_reads log h m same = record {
    long = part_long;
    same =
        same_listed (store_entry part) (entry_at log) 0 low (high - low)
        (λ i r. ap (store_entry part) (omega arith) ∙ part_entry i r ∙ sym (same (low + i) (omega arith) (omega arith)))
        ∙ sym (from_entries log low high h order m);
  }

module _ (xs ys : List ℕ) where
  abbrev both : List ℕ
  both = xs ++ ys

  records_joined : (n m : ℕ) → length xs ≡ n * record_words → records (n + m) both ≡ records n xs ++ records m ys
  records_joined n m long =
      listed_two (store_entry both) (store_entry xs) (store_entry ys) n 0 m
      (λ i h. same_entry both xs i i (λ w k. get_or-append xs ys 0 (i * record_words + w) (omega arith)))
      (λ i h. same_entry both ys (n + i) (0 + i) (λ w k. ap (λ (x : ℕ). get_or both x 0) (omega arith) ∙ get_or-append-add xs ys ((0 + i) * record_words + w) 0))

  -- Two runs of words, one after the other, read as the range of both.
  pub joined_reads : (log : Abstract) (low mid high : ℕ) → log.start < low → low ≤ mid → mid ≤ high → high ≤ last log + 1 → Reads log low mid xs → Reads log mid high ys → Reads log low high both
  joined_reads log low mid high h a b m r q =
      let number : high - low ≡ mid - low + (high - mid) = omega arith in
      record {
        long = length-append xs ys ∙ omega (arith, r.long, q.long);
        same =
            ap (λ (n : ℕ). records n both) number
            ∙ records_joined (mid - low) (high - mid) r.long
            ∙ ap₂ (λ (x y : List Entry). x ++ y) r.same q.same
            ∙ from_joined log low mid high h a b m;
      }

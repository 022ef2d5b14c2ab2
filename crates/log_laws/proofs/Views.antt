-- The view is what the calls look up: its terms are `term_at`, its last index `last_of`. And what a write to a store does to its records: those written are the new ones, every other word stays.
use mathlib.Core.Path.{◌≡◌, refl, sym, ap, ap₂, ◌∙◌}
use mathlib.Core.Bool.{Bool, cond}
use mathlib.Core.Logic.{◌⊎◌, ⊎_elim, ⊎_map, inl}
use mathlib.Core.List.{List, [], ◌∷◌, ◌++◌}
use Prim.Native.Nat.{ℕ, zero, suc, ◌+◌, ◌-◌, ◌*◌, ◌≤◌, ◌<◌}
use native.Mathlib.Omega.{arith}
use native.Mathlib.Nat.{eq-or-lt_of_le}
use borrow.Author.Tests.{lt-ltb, le-ltb}
use lib.ListN.{length, get_or, set, take, drop, length-append, length-set, get_or-append, get_or-eq_default}
use lib.Seq.{get_or-append-add, sets, length-sets, get_or-set_same, get_or-set_other, get_or-take, get_or-drop, paste, length-take-le, length_paste_head}
use Rattle.units.specs.Lists.{listed}
use Rattle.units.proofs.Cond.{both_ends}
use Rattle.units.proofs.Lists.{length-listed, at_listed, same_listed, append-listed}
use Rattle.units.proofs.Numbers.{below_or_not}
use Rattle.rules.specs.Log.{Entry, entry, nothing, Log as Abstract, last, entry_at, term_of}
use Rattle.raft_log.specs.declared.Log.{Log}
use Rattle.raft_log.specs.Words.{record_words, room, put_record, put_run, record_of}
use Rattle.raft_log.specs.State.{Good, last_of, settled_count, term_at}
use Rattle.log_laws.specs.View.{store_entry, run_entry, records, view_of}
use Rattle.log_laws.specs.Frame.{Elsewhere}
use Rattle.raft_log.proofs.States.{term_below, term_start, term_settled, term_pending, term_beyond}

abbrev term : Entry → ℕ
term e = e.term

-- the records of two sources, one after the other
pub listed_two : (f g h : ℕ → Entry) (m k n : ℕ) → ((i : ℕ) → i < m → f i ≡ g i) → ((i : ℕ) → i < n → f (m + i) ≡ h (k + i))
    → listed f 0 (m + n) ≡ listed g 0 m ++ listed h k n
listed_two f g h m k n first second =
    append-listed f 0 m n
    ∙ ap₂ (λ (x y : List Entry). x ++ y)
    (same_listed f g 0 0 m (λ i r. ap f (omega arith) ∙ first i r ∙ ap g (omega arith)))
    (same_listed f h (0 + m) k n (λ i r. ap f (omega arith) ∙ second i r))

-- a record is its two words
pub same_entry : (s t : List ℕ) (i j : ℕ) → ((w : ℕ) → w < record_words → get_or s (i * record_words + w) 0 ≡ get_or t (j * record_words + w) 0) → store_entry s i ≡ store_entry t j
same_entry s t i j h =
    ap₂ entry
    (ap (λ (w : ℕ). get_or s w 0) (omega arith) ∙ h 0 (omega arith) ∙ ap (λ (w : ℕ). get_or t w 0) (omega arith))
    (h 1 (omega arith))

-- ---- the view

-- after its start, a log's record at i is the one that stands there in its list
pub entry_after : (log : Abstract) (i : ℕ) → log.start < i → entry_at log i ≡ get_or log.entries (i - log.start - 1) nothing
unfolding entry_at
entry_after log i h =
    let e : i - log.start ≡ suc (i - log.start - 1) = omega arith in
    simp (le-ltb i log.start (omega arith)) (ap (λ (j : ℕ). get_or (entry log.start_term 0 ∷ log.entries) j nothing) e)

pub view_start : (l : Log) (settled pending : List ℕ) → (view_of l settled pending).start ≡ l.start.0
unfolding view_of
view_start l settled pending = refl

module _ (l : Log) (settled pending : List ℕ) (good : Good l settled pending) where
  abbrev start : Entry
  start = entry l.startterm.0 0

  abbrev front : List Entry
  front = records (settled_count l) settled

  abbrev back : List Entry
  back = records l.count pending

  front_length : length front ≡ settled_count l
  front_length = length-listed (store_entry settled) 0 (settled_count l)

  back_length : length back ≡ l.count
  back_length = length-listed (store_entry pending) 0 l.count

  pub view_last : last (view_of l settled pending) ≡ last_of l
  unfolding view_of
  view_last =
      let a = good.start_lt_offset in
      omega (arith, length-append front back, front_length, back_length)

  module _ (i : ℕ) where
    entry_below : i < l.start.0 → entry_at (view_of l settled pending) i ≡ nothing
    unfolding view_of entry_at
    entry_below h = simp (lt-ltb _ _ h)

    pub entry_start : i ≡ l.start.0 → entry_at (view_of l settled pending) i ≡ start
    unfolding view_of entry_at
    entry_start h =
        let e : i - l.start.0 ≡ 0 = omega arith in
        simp (le-ltb i l.start.0 (omega arith), e)

    after_start : l.start.0 < i → entry_at (view_of l settled pending) i ≡ get_or (front ++ back) (i - l.start.0 - 1) nothing
    unfolding view_of
    after_start h = entry_after (view_of l settled pending) i h

    pub entry_settled : l.start.0 < i → i < l.offset.0 → entry_at (view_of l settled pending) i ≡ store_entry settled (i - l.start.0 - 1)
    entry_settled h k =
        after_start h
        ∙ get_or-append front back nothing (i - l.start.0 - 1) (omega (arith, front_length))
        ∙ at_listed (store_entry settled) 0 (settled_count l) (i - l.start.0 - 1) nothing (omega arith)
        ∙ ap (store_entry settled) (omega arith)

    in_back : l.start.0 < i → l.offset.0 ≤ i → entry_at (view_of l settled pending) i ≡ get_or back (i - l.offset.0) nothing
    in_back h k =
        let e : i - l.start.0 - 1 ≡ length front + (i - l.offset.0) = omega (arith, front_length, good.start_lt_offset) in
        after_start h ∙ ap (λ (j : ℕ). get_or (front ++ back) j nothing) e ∙ get_or-append-add front back (i - l.offset.0) nothing

    pub entry_pending : l.start.0 < i → l.offset.0 ≤ i → i - l.offset.0 < l.count
        → entry_at (view_of l settled pending) i ≡ store_entry pending (i - l.offset.0)
    entry_pending h k m =
        in_back h k
        ∙ at_listed (store_entry pending) 0 l.count (i - l.offset.0) nothing m
        ∙ ap (store_entry pending) (omega arith)

    entry_beyond : l.start.0 < i → l.offset.0 ≤ i → l.count ≤ i - l.offset.0 → entry_at (view_of l settled pending) i ≡ nothing
    entry_beyond h k m = in_back h k ∙ get_or-eq_default back nothing (omega (arith, back_length))

    -- THE VIEW'S TERMS are the ones that the calls look up, inside the log and outside.
    pub view_term : term_of (view_of l settled pending) i ≡ term_at l settled pending i
    view_term =
        ⊎_elim
        (λ a. ap term (entry_below a) ∙ sym (term_below l settled pending i a))
        (λ a.
        ⊎_elim
        (λ b. ap term (entry_start (sym b)) ∙ sym (term_start l settled pending i (sym b)))
        (λ b.
        ⊎_elim
        (λ d. ap term (entry_settled b d) ∙ sym (term_settled l settled pending i b d))
        (λ d.
        ⊎_elim
        (λ e. ap term (entry_pending b d e) ∙ sym (term_pending l settled pending i b d e))
        (λ e. ap term (entry_beyond b d e) ∙ sym (term_beyond l settled pending i b d e))
        (below_or_not (i - l.offset.0) l.count))
        (below_or_not i l.offset.0))
        (eq-or-lt_of_le a))
        (below_or_not i l.start.0)

-- ---- words stored one after the other

sets_elsewhere : (vs s : List ℕ) (i w : ℕ) → (w < i) ⊎ (i + length vs ≤ w) → get_or (sets s i vs) w 0 ≡ get_or s w 0
sets_elsewhere [] s i w h = refl
sets_elsewhere (v ∷ vs) s i w h =
    sets_elsewhere vs (set s i v) (suc i) w (⊎_map (λ before. omega arith) (λ behind. omega arith) h)
    ∙ get_or-set_other s i w v 0 (⊎_elim (λ before. omega arith) (λ behind. omega arith) h)

sets_inside : (vs s : List ℕ) (i j : ℕ) → i + length vs ≤ length s → j < length vs → get_or (sets s i vs) (i + j) 0 ≡ get_or vs j 0
sets_inside [] s i j h k = absurd (omega arith)
sets_inside (v ∷ vs) s i zero h k =
    ap (λ (w : ℕ). get_or (sets (set s i v) (suc i) vs) w 0) (omega arith)
    ∙ sets_elsewhere vs (set s i v) (suc i) i (inl (omega arith))
    ∙ get_or-set_same s i v 0 (omega arith)
sets_inside (v ∷ vs) s i (suc j) h k =
    let long = length-set s i v in
    ap (λ (w : ℕ). get_or (sets (set s i v) (suc i) vs) w 0) (omega arith)
    ∙ sets_inside vs (set s i v) (suc i) j (omega arith) (omega arith)

-- ---- a run put into a store

length-put : (s : List ℕ) (at : ℕ) (run : List ℕ) (k n : ℕ) → length (put_run s at run k n) ≡ length s
unfolding put_run
length-put s at run k zero = refl
length-put s at run k (suc n) =
    length-put (put_record s at (record_of run k)) (at + 1) run (k + 1) n ∙ length-sets s (at * record_words) (record_of run k)

-- so too where it is put only by a test
pub length_put_or : (b : Bool) (s : List ℕ) (at : ℕ) (run : List ℕ) (k n : ℕ) → length (cond b s (put_run s at run k n)) ≡ length s
length_put_or b s at run k n = both_ends (λ (x : List ℕ). length x ≡ length s) b refl (length-put s at run k n)

-- every word before the records and every word behind them stays
pub put_elsewhere : (s : List ℕ) (at : ℕ) (run : List ℕ) (k n w : ℕ) → Elsewhere at n w → get_or (put_run s at run k n) w 0 ≡ get_or s w 0
unfolding put_run
put_elsewhere s at run k zero w h = refl
put_elsewhere s at run k (suc n) w h =
    put_elsewhere (put_record s at (record_of run k)) (at + 1) run (k + 1) n w (⊎_map (λ before. omega arith) (λ behind. omega arith) h)
    ∙ sets_elsewhere (record_of run k) s (at * record_words) w (⊎_map (λ before. before) (λ behind. omega arith) h)

-- a word of a record put: the j-th of record at + i is the j-th of the run's record k + i
put_word : (s : List ℕ) (at : ℕ) (run : List ℕ) (k n i j : ℕ) → at + n ≤ room s → i < n → j < record_words
    → get_or (put_run s at run k n) ((at + i) * record_words + j) 0 ≡ get_or (record_of run (k + i)) j 0
unfolding put_run
put_word s at run k zero i j r h w = absurd (omega arith)
put_word s at run k (suc n) zero j r h w =
    ap (λ (x : ℕ). get_or (put_run (put_record s at (record_of run k)) (at + 1) run (k + 1) n) x 0) (omega arith)
    ∙ put_elsewhere (put_record s at (record_of run k)) (at + 1) run (k + 1) n (at * record_words + j) (inl (omega arith))
    ∙ sets_inside (record_of run k) s (at * record_words) j (omega arith) w
    ∙ ap (λ (x : ℕ). get_or (record_of run x) j 0) (omega arith)
put_word s at run k (suc n) (suc i) j r h w =
    let long = length-sets s (at * record_words) (record_of run k) in
    ap (λ (x : ℕ). get_or (put_run (put_record s at (record_of run k)) (at + 1) run (k + 1) n) x 0) (omega arith)
    ∙ put_word (put_record s at (record_of run k)) (at + 1) run (k + 1) n i j (omega arith) (omega arith) w
    ∙ ap (λ (x : ℕ). get_or (record_of run x) j 0) (omega arith)

-- THE RECORDS of a store that a run was put into: the run's own where it was put, those before as they were.
module _ (s : List ℕ) (at : ℕ) (run : List ℕ) (k n : ℕ) where
  pub put_inside : (i : ℕ) → at + n ≤ room s → i < n → store_entry (put_run s at run k n) (at + i) ≡ run_entry run (k + i)
  put_inside i r h =
      same_entry (put_run s at run k n) (record_of run (k + i)) (at + i) 0
      (λ w b. let here : w ≡ 0 * record_words + w = omega arith in put_word s at run k n i w r h b ∙ ap (λ (x : ℕ). get_or (record_of run (k + i)) x 0) here)

  pub put_below : (i : ℕ) → i < at → store_entry (put_run s at run k n) i ≡ store_entry s i
  put_below i h = same_entry (put_run s at run k n) s i i (λ w b. put_elsewhere s at run k n (i * record_words + w) (inl (omega arith)))

-- ---- words copied

module _ (s : List ℕ) (at : ℕ) (t : List ℕ) (n : ℕ) where
  pub paste_before : (w : ℕ) → at ≤ length s → w < at → get_or (paste s at t n) w 0 ≡ get_or s w 0
  paste_before w r h =
      let long = length-take-le at s r in
      get_or-append (take at s ++ take n t) (drop (at + n) s) 0 w (omega (arith, length-append (take at s) (take n t)))
      ∙ get_or-append (take at s) (take n t) 0 w (omega arith)
      ∙ get_or-take at s w 0 h

  paste_inside : (j : ℕ) → at ≤ length s → n ≤ length t → j < n → get_or (paste s at t n) (at + j) 0 ≡ get_or t j 0
  paste_inside j r q h =
      let long = length-take-le at s r in
      let same : at + j ≡ length (take at s) + j = omega arith in
      get_or-append (take at s ++ take n t) (drop (at + n) s) 0 (at + j) (omega (arith, length_paste_head s at t n r q))
      ∙ ap (λ (w : ℕ). get_or (take at s ++ take n t) w 0) same
      ∙ get_or-append-add (take at s) (take n t) j 0
      ∙ get_or-take n t j 0 h

  pub paste_after : (w : ℕ) → at ≤ length s → n ≤ length t → at + n ≤ w → get_or (paste s at t n) w 0 ≡ get_or s w 0
  paste_after w r q h =
      let same : w ≡ length (take at s ++ take n t) + (w - (at + n)) = omega (arith, length_paste_head s at t n r q) in
      ap (λ (x : ℕ). get_or (paste s at t n) x 0) same
      ∙ get_or-append-add (take at s ++ take n t) (drop (at + n) s) (w - (at + n)) 0
      ∙ get_or-drop (at + n) s (w - (at + n)) 0
      ∙ ap (λ (x : ℕ). get_or s x 0) (omega arith)

-- THE RECORDS of a store that n records were copied into.
module _ (s : List ℕ) (at : ℕ) (t : List ℕ) (n : ℕ) (room-here : at + n ≤ room s) (room-there : n ≤ room t) where
  abbrev pub pasted : List ℕ
  pasted = paste s (at * record_words) t (n * record_words)

  pub pasted_below : (i : ℕ) → i < at → store_entry pasted i ≡ store_entry s i
  pasted_below i h = same_entry pasted s i i (λ w b. paste_before s (at * record_words) t (n * record_words) (i * record_words + w) (omega arith) (omega arith))

  pub pasted_inside : (i : ℕ) → i < n → store_entry pasted (at + i) ≡ store_entry t i
  pasted_inside i h =
      same_entry pasted t (at + i) i
      (λ w b.
      ap (λ (x : ℕ). get_or pasted x 0) (omega arith)
      ∙ paste_inside s (at * record_words) t (n * record_words) (i * record_words + w) (omega arith) (omega arith) (omega arith))

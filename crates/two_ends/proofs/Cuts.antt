-- Messages cut from a leader's list: records as a run are well-numbered and read back as the same records; a cut message is well-formed, and stays a cut of what the list grows to.
use Prim.Native.Nat.{ℕ, zero, suc, ◌+◌, ◌-◌, ◌*◌, ◌%◌, ◌≤◌, ◌<◌}
use mathlib.Core.Path.{◌≡◌, refl, sym, ap, ap₂, ◌∙◌}
use mathlib.Core.Bool.{Bool, true, false, not}
use mathlib.Core.List.{List, [], ◌∷◌, ◌++◌}
use native.Mathlib.Omega.{arith}
use lib.ListN.{length, get_or, take, drop, length-append, length-take, length-drop, get_or-append}
use lib.Seq.{get_or-take, get_or-drop, drop-cons, take-append-le, drop-append-le, ext_get_or}
use borrow.Author.Tests.{eq-eqb, ne_eqb, le-leb}
use Rattle.units.specs.Units.{index_limit}
use Rattle.units.proofs.Lists.{length-listed, at_listed}
use Rattle.rules.specs.Log.{Entry, entry, nothing, whole_list, records_after, entry_at, term_of}
use Rattle.raft_log.specs.Words.{run_words, run_count, run_index, run_term, none, zero_at}
use Rattle.raft_log.specs.Run.{misplaced, numbered, terms_set}
use Rattle.raft_log.proofs.Searching.{same_not, below_none}
use Rattle.log_laws.specs.View.{run_entry, run_entries}
use Rattle.log_laws.specs.Keep.{NonzeroTerms}
use Rattle.log_laws.proofs.Views.{entry_after}
use Rattle.two_ends.specs.Follower.{Message, last_index_of, WellFormed}
use Rattle.two_ends.specs.Leader.{as_run, cut, CutFrom}

-- ---- records as a run

-- three words a record
pub as_run_length : (i : ℕ) (es : List Entry) → length (as_run i es) ≡ length es * run_words
unfolding as_run
as_run_length i [] = refl
as_run_length i (e ∷ es) = omega (arith, as_run_length (i + 1) es)

pub as_run_count : (i : ℕ) (es : List Entry) → run_count (as_run i es) ≡ length es
as_run_count i es = omega (arith, as_run_length i es)

-- the words from record k on are those of the records from k on
run_word : (i : ℕ) (es : List Entry) (k j : ℕ) → get_or (as_run i es) (k * run_words + j) 0 ≡ get_or (as_run (i + k) (drop k es)) j 0
unfolding as_run
run_word i es zero j = ap₂ (λ (x w : ℕ). get_or (as_run x es) w 0) (omega arith) (omega arith)
run_word i [] (suc k) j = refl
run_word i (e ∷ es) (suc k) j =
    let at : suc k * run_words + j ≡ suc (suc (suc (k * run_words + j))) = omega arith in
    ap (λ (w : ℕ). get_or (as_run i (e ∷ es)) w 0) at ∙ run_word (i + 1) es k j ∙ ap (λ (x : ℕ). get_or (as_run x (drop k es)) j 0) (omega arith)

module _ (i : ℕ) (es : List Entry) (k : ℕ) (h : k < length es) where
  -- word j of record k
  word_of : (j : ℕ) → get_or (as_run i es) (k * run_words + j) 0 ≡ get_or (as_run (i + k) (get_or es k nothing ∷ drop (suc k) es)) j 0
  word_of j = run_word i es k j ∙ ap (λ (fs : List Entry). get_or (as_run (i + k) fs) j 0) (drop-cons es k nothing h)

  -- the indices rise by one from i on
  pub as_run_index : run_index (as_run i es) k ≡ i + k
  unfolding as_run
  as_run_index = ap (λ (w : ℕ). get_or (as_run i es) w 0) (omega arith) ∙ word_of 0

  -- record k of the run is record k of the list
  pub as_run_entry : run_entry (as_run i es) k ≡ get_or es k nothing
  unfolding as_run
  as_run_entry = ap₂ entry (word_of 1) (word_of 2)

-- the run reads back as the records that it was made of
pub as_run_entries : (i : ℕ) (es : List Entry) → run_entries (as_run i es) ≡ es
as_run_entries i es =
    let run : List ℕ = as_run i es in
    let count = as_run_count i es in
    let long = length-listed (run_entry run) 0 (run_count run) ∙ count in
    ext_get_or nothing (run_entries run) es long (λ k h. at_listed (run_entry run) 0 (run_count run) k nothing (omega arith) ∙ ap (run_entry run) (omega arith) ∙ as_run_entry i es k (omega arith))

-- ---- a run passes both tests

-- a search for what no record has finds none
none_of : (i : ℕ) (es : List Entry) (p : ℕ → Bool) → ((k : ℕ) → k < length es → p k ≡ false) → none p (run_count (as_run i es)) ≡ true
none_of i es p h =
    let count = as_run_count i es in
    below_none p _ (λ k r. h k (omega arith))

-- refusal 2 is not given to it where it ends within the limit
pub as_run_numbered : (idx : ℕ) (es : List Entry) → idx + length es ≤ index_limit → numbered (as_run (idx + 1) es) idx ≡ true
unfolding numbered
as_run_numbered idx es h =
    let run : List ℕ = as_run (idx + 1) es in
    let whole = eq-eqb (length run % run_words) 0 (omega (arith, as_run_length (idx + 1) es)) in
    let limited = le-leb (idx + run_count run) index_limit (omega (arith, as_run_count (idx + 1) es)) in
    simp (whole, limited, none_of (idx + 1) es (misplaced run idx) (λ k r. same_not (as_run_index (idx + 1) es k r)))

-- nor refusal 3 where no term is 0
pub as_run_terms : (i : ℕ) (es : List Entry) → ((k : ℕ) → k < length es → 0 < (get_or es k nothing).term) → terms_set (as_run i es) ≡ true
unfolding terms_set
as_run_terms i es h =
    none_of i es (zero_at (run_term (as_run i es))) (λ k r. ne_eqb (run_term (as_run i es) k) 0 (λ z. omega (arith, h k r, ap (λ (e : Entry). e.term) (as_run_entry i es k r))))

-- ---- the records after an index of the list

-- there are n of them where the list reaches so far
pub records_length : (xs : List Entry) (idx n : ℕ) → idx + n ≤ length xs → length (records_after xs idx n) ≡ n
records_length xs idx n h = length-take n (drop idx xs) ∙ omega (arith, length-drop idx xs)

-- the k-th is the list's record at idx + 1 + k
pub records_at : (xs : List Entry) (idx n k : ℕ) → idx + n ≤ length xs → k < n → get_or (records_after xs idx n) k nothing ≡ entry_at (whole_list xs) (idx + 1 + k)
records_at xs idx n k h r =
    get_or-take n (drop idx xs) k nothing r ∙ get_or-drop idx xs k nothing ∙ ap (λ (i : ℕ). get_or xs i nothing) (omega arith) ∙ sym (entry_after (whole_list xs) (idx + 1 + k) (omega arith))

-- ---- a message cut from the list

-- its previous term, its records and its last index are the list's
module _ {xs : List Entry} {m : Message} (c : CutFrom xs m) where
  abbrev sent : List Entry
  sent = records_after xs m.idx c.count

  sent_length : length sent ≡ c.count
  sent_length = records_length xs m.idx c.count c.inside

  pub cut_term : m.term ≡ term_of (whole_list xs) m.idx
  unfolding cut
  cut_term = ap (λ (r : Message). r.term) c.is

  pub cut_run : m.run ≡ as_run (m.idx + 1) sent
  unfolding cut
  cut_run = ap (λ (r : Message). r.run) c.is

  pub cut_count : run_count m.run ≡ c.count
  cut_count = ap run_count cut_run ∙ as_run_count (m.idx + 1) sent ∙ sent_length

  pub cut_entries : run_entries m.run ≡ sent
  cut_entries = ap run_entries cut_run ∙ as_run_entries (m.idx + 1) sent

  pub cut_last : last_index_of m ≡ m.idx + c.count
  cut_last = ap (λ (n : ℕ). m.idx + n) cut_count

  -- no record sent has term 0
  sent_terms : NonzeroTerms (whole_list xs) → (k : ℕ) → k < length sent → 0 < (get_or sent k nothing).term
  sent_terms set k h =
      let inside = c.inside in
      let long = sent_length in
      rw (records_at xs m.idx c.count k inside (omega arith)) (set (m.idx + 1 + k) (omega arith) (omega arith))

-- A LEADER'S MESSAGE is given neither refusal 2 nor 3
pub cut_well_formed : {xs : List Entry} {m : Message} → NonzeroTerms (whole_list xs) → length xs ≤ index_limit → CutFrom xs m → WellFormed m
cut_well_formed {xs} {m} set limit c = (
  ap not (ap (λ (run : List ℕ). numbered run m.idx) (cut_run c) ∙ as_run_numbered m.idx (sent c) (omega (arith, sent_length c, c.inside))),
  ap not (ap terms_set (cut_run c) ∙ as_run_terms (m.idx + 1) (sent c) (sent_terms c set)),
)

-- ---- what the list grows to

-- growth changes no record that the list had, its start among them
entry_grown : (xs ys : List Entry) (i : ℕ) → i ≤ length xs → entry_at (whole_list (xs ++ ys)) i ≡ entry_at (whole_list xs) i
unfolding entry_at
entry_grown xs ys zero h = refl
entry_grown xs ys (suc i) h =
    entry_after (whole_list (xs ++ ys)) (suc i) (omega arith) ∙ get_or-append xs ys nothing (suc i - 0 - 1) (omega arith) ∙ sym (entry_after (whole_list xs) (suc i) (omega arith))

-- so the same cut of either list is the same message
same_cut : (xs ys : List Entry) (idx n commit : ℕ) → idx + n ≤ length xs → cut (xs ++ ys) idx n commit ≡ cut xs idx n commit
unfolding cut
same_cut xs ys idx n commit h =
    ap₂ (λ (e : Entry) (es : List Entry). record { idx = idx; term = e.term; commit = commit; run = as_run (idx + 1) es })
    (entry_grown xs ys idx (omega arith))
    (ap (take n) (drop-append-le idx xs ys (omega arith)) ∙ take-append-le n (drop idx xs) ys (omega (arith, length-drop idx xs)))

-- a message cut from a list is cut from all that the list grows to
pub cut_grown : (xs ys : List Entry) (m : Message) → CutFrom xs m → CutFrom (xs ++ ys) m
cut_grown xs ys m c =
    let same = same_cut xs ys m.idx c.count m.commit c.inside in
    record { count = c.count; inside = omega (arith, c.inside, length-append xs ys); is = c.is ∙ sym same }

-- what is cut within the list is a cut of it
unfoldable pub sent_cut : (xs : List Entry) (idx n commit : ℕ) → idx + n ≤ length xs → CutFrom xs (cut xs idx n commit)
unfolding cut
sent_cut xs idx n commit h = record { count = n; inside = h; is = refl }

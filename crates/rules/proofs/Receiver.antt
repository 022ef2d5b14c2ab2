-- The receiver's steps, law by law: what step 2 tests, what step 3 leaves (the log itself where no new entry conflicts, else the log before the first that does), how step 4 goes on from there, what step 5 does to commitIndex; and the steps on an example.
use Prim.Native.Nat.{ℕ, zero, suc, ◌+◌, ◌-◌, ◌≤◌, ◌<◌, min, max}
use mathlib.Core.Path.{◌≡◌, refl, ap, ◌∙◌}
use mathlib.Core.Bool.{Bool, true, false, ◌&&◌, cond, and-eq-true_iff}
use mathlib.Core.List.{List, [], ◌∷◌, ◌++◌}
use mathlib.Core.Logic.{◌↔◌}
use native.Mathlib.Omega.{arith}
use lib.Dec.{leb, ltb, eqb}
use borrow.Author.Tests.{ltb-true, ltb-false, leb-true, eqb-true, le-leb, eq-eqb}
use lib.ListN.{length, get_or, drop}
use lib.Seq.{length-take-le, take_all}
use Rattle.units.proofs.Cond.{either_end}
use Rattle.rules.specs.Log.{Entry, entry, nothing, Log, whole_list, last, entry_at, term_of, Holds}
use Rattle.rules.specs.Receiver.{Answer, reply_false, success, with_entries, contains, conflicts, delete_from, step_3, step_4, step_5, receiver}

-- Step 2's test, as facts.
pub contains_holds : (l : Log) (i t : ℕ) → (contains l i t ≡ true) ↔ (Holds l i × (term_of l i ≡ t))
unfolding contains
contains_holds l i t = (
  (λ e.
      let both = (and-eq-true_iff (leb l.start i && leb i (last l)) (eqb (term_of l i) t)).0 e in
      let inside = (and-eq-true_iff (leb l.start i) (leb i (last l))).0 both.0 in
      ((leb-true _ _ inside.0, leb-true _ _ inside.1), eqb-true _ _ both.1)),
  (λ h. simp (le-leb _ _ h.0.0, le-leb _ _ h.0.1, eq-eqb _ _ h.1)),
)

module _ (l : Log) where
  -- the new entry j, of those from i on
  abbrev pub conflict_at : ℕ → List Entry → ℕ → Bool
  conflict_at i es j = conflicts l (i + j) (get_or es j nothing)

  -- step 3 by its first new entry; the others are those from i + 1 on
  step_3_first : (i : ℕ) (e : Entry) (es : List Entry) {b : Bool} → conflict_at i (e ∷ es) 0 ≡ b → step_3 l i (e ∷ es) ≡ cond b (delete_from l i) (step_3 l (i + 1) es)
  unfolding step_3
  step_3_first i e es h = ap (λ (b : Bool). cond b (delete_from l i) (step_3 l (i + 1) es)) (ap (λ (x : ℕ). conflicts l x e) (omega arith) ∙ h)

  further : (i : ℕ) (e : Entry) (es : List Entry) (j : ℕ) → conflict_at (i + 1) es j ≡ conflict_at i (e ∷ es) (suc j)
  further i e es j = ap (λ (x : ℕ). conflicts l x (get_or es j nothing)) (omega arith)

  pub step_3_keeps : (i : ℕ) (es : List Entry) → ((j : ℕ) → j < length es → conflict_at i es j ≡ false) → step_3 l i es ≡ l
  unfolding step_3
  step_3_keeps i [] h = refl
  step_3_keeps i (e ∷ es) h = step_3_first i e es (h 0 (omega arith)) ∙ step_3_keeps (i + 1) es (λ j k. further i e es j ∙ h (suc j) (omega arith))

  pub step_3_deletes : (i k : ℕ) (es : List Entry) → k < length es
      → ((j : ℕ) → j < k → conflict_at i es j ≡ false) → conflict_at i es k ≡ true → step_3 l i es ≡ delete_from l (i + k)
  step_3_deletes i k [] r h t = absurd (omega arith)
  step_3_deletes i zero (e ∷ es) r h t = step_3_first i e es t ∙ ap (delete_from l) (omega arith)
  step_3_deletes i (suc k) (e ∷ es) r h t =
      step_3_first i e es (h 0 (omega arith))
      ∙ step_3_deletes (i + 1) k es (omega arith) (λ j q. further i e es j ∙ h (suc j) (omega arith)) (further i e es k ∙ t)
      ∙ ap (delete_from l) (omega arith)

  -- there is nothing to delete after the last
  pub delete_none : delete_from l (last l + 1) ≡ l
  delete_none = ap (with_entries l) (take_all (last l + 1 - l.start - 1) l.entries (omega arith))

  -- The log cut before an index, and the records that follow the cut.
  abbrev pub cut_on : ℕ → List Entry → Log
  cut_on from es = with_entries l ((delete_from l from).entries ++ es)

  module _ (from : ℕ) (low : l.start < from) (high : from ≤ last l + 1) where
    pub cut_length : length (delete_from l from).entries ≡ from - l.start - 1
    cut_length = length-take-le (from - l.start - 1) l.entries (omega arith)

    -- where step 3 leaves the log before `from`, step 4 goes on with the new entries from there
    pub steps : (prev : ℕ) (es : List Entry) → l.start ≤ prev → prev < from → step_3 l (prev + 1) es ≡ delete_from l from
        → step_4 (step_3 l (prev + 1) es) prev es ≡ cut_on from (drop (from - (prev + 1)) es)
    unfolding step_4
    steps prev es inside above s =
        let e : last (delete_from l from) - prev ≡ from - (prev + 1) = omega (arith, cut_length) in
        ap (λ (d : Log). step_4 d prev es) s ∙ ap (λ (x : ℕ). cut_on from (drop x es)) e

module _ (c m x : ℕ) where
  -- Step 5 as it is worded: it never lowers commitIndex where the new entries reach it ..
  pub step_5_rises : c ≤ x → c ≤ step_5 c m x
  unfolding step_5
  step_5_rises h = either_end (λ i. c ≤ i) (ltb c m) (λ e. let higher = ltb-true c m e in omega arith) (λ e. omega arith)

  -- .. and the larger of commitIndex and what it says is the larger of commitIndex and the minimum
  pub raised : max c (step_5 c m x) ≡ max c (min m x)
  unfolding step_5
  raised = either_end (λ i. max c i ≡ max c (min m x)) (ltb c m) (λ e. refl) (λ e. let lower = ltb-false c m e in omega arith)

-- Where the new entries do not reach commitIndex, step 5 lowers it.
pub step_5_can_lower : step_5 1 2 0 ≡ 0
unfolding step_5
step_5_can_lower = refl

-- The steps on document 01's log A (terms 1, 1, 2, 2, 3 from index 1 on; committed 2; here each body is its index): what a reader may expect of them.
abbrev log_A : Log
log_A = whole_list (entry 1 1 ∷ entry 1 2 ∷ entry 2 3 ∷ entry 2 4 ∷ entry 3 5 ∷ [])

abbrev asked : ℕ → ℕ → List Entry → ℕ → Answer
asked prev term es commit =
    receiver log_A 2 (record { prev_log_index = prev; prev_log_term = term; entries = es; leader_commit = commit })

pub on_log_A :
    asked 5 3 [] 9 ∷ asked 3 2 (entry 2 4 ∷ entry 4 5 ∷ entry 4 6 ∷ []) 4 ∷ asked 2 1 (entry 2 3 ∷ []) 0 ∷ asked 5 2 [] 2 ∷ asked 9 0 [] 2 ∷ []
    ≡ success log_A 5 ∷ success (whole_list (entry 1 1 ∷ entry 1 2 ∷ entry 2 3 ∷ entry 2 4 ∷ entry 4 5 ∷ entry 4 6 ∷ [])) 4 ∷ success log_A 2 ∷ reply_false ∷ reply_false ∷ []
unfolding receiver contains step_3 step_4 step_5 entry_at
on_log_A = refl

-- The promises of `Calls` as a queue: what each call that answers a window does to its list of flights, and what `full` and `count` say of it.
--     add_puts_last, add_writes_one_word      `add`               free_to_frees, free_first_frees      `free_to`, `free_first_one`
--     set_cap_keeps, rewind_keeps             the list stays      reset_empties, new_empty             it is empty
--     full_means, not_full_means, count_means
use Prim.Native.Nat.{ℕ, zero, suc, ◌+◌, ◌-◌, ◌≤◌, ◌<◌}
use mathlib.Core.Path.{◌≡◌, refl, sym, ap, ◌∙◌, subst}
use mathlib.Core.Bool.{Bool, true, false, ◌||◌, cond}
use mathlib.Core.Logic.{◌≢◌, ◌⊎◌, inl, inr}
use mathlib.Core.List.{List, [], ◌∷◌, ◌++◌}
use native.Mathlib.Omega.{arith}
use borrow.Author.Tests.{eqb-true, eqb-false, leb-true, leb-false}
use lib.Dec.{leb, eqb}
use lib.ListN.{length, get_or, set, drop, length-set}
use lib.Seq.{get_or-set_same, get_or-set_other}
use Rattle.units.specs.Lists.{listed}
use Rattle.units.proofs.Cond.{either_end, both_ends}
use Rattle.units.proofs.Never.{never}
use Rattle.units.proofs.Lists.{length-listed, same_listed, drop-listed, append-listed}
use Rattle.inflights.specs.State.{window_check, cap_check, is_full, deferred_reached, empty_of, Sound}
use Rattle.inflights.specs.Ring.{place_of, flight_at, flights_from, flights, leading}
use Rattle.inflights.specs.Calls.{window_unless, ring_unless, made_window, with_cap, set_cap_check, capped, fullness, counted, add_check, one_more, added, ring_after, taken_up, take_up, behind, free_to, freed_to, freed_first, cleared, rewound_to_zero, rewind, rewound}
use Rattle.inflights.specs.Queue.{Frees, Reached, IsFull}
use Rattle.inflights.specs.declared.Inflights.{Inflights}
use Rattle.inflights.proofs.Facts.{may_add}
use Rattle.inflights.proofs.Places.{place_in, place_place, place_other}
use Rattle.inflights.proofs.Leading.{leading_at_most}
use Rattle.inflights.proofs.Lists.{leading_frees}
use Rattle.std.specs.Prelude.{Ok, Err, Some, None, Option}
use Rattle.units.specs.Refusals.{Check, fine, unless}

-- What a call that does not refuse has passed, and what it answers.
told : {A : Type 0} (c : Check) (x : A) {y : A} → unless c (Ok x) ≡ Ok y → (c ≡ fine) × (x ≡ y)
told (Ok _) x e = (refl, cc)
told (Err n) x e = never cc

-- What then holds of the new window holds of the answer's.
pub of_answer : (P : Inflights → Type 0) (c : Check) (u : Inflights) {v : Inflights} → (c ≡ fine → P u) → window_unless c u ≡ Ok v → P v
of_answer P c u h e = let a = told c u e in subst P a.1 (h a.0)

-- What holds of the ring as it was, and of the one that was written, holds of the one that a call leaves.
either_ring : (P : List ℕ → Type 0) (c : Check) {before after : List ℕ} → P after → P before → P (ring_unless c before after)
either_ring P (Ok _) p q = p
either_ring P (Err n) p q = q

-- add
module _ (w : Inflights) (ring : List ℕ) (f : ℕ) where
  abbrev at : ℕ
  at = place_of w.start w.count (length ring)

  -- the k-th flight once f is written, over the old ring's length
  same_ring : (k : ℕ) → flight_at w.start (set ring at f) k ≡ get_or (set ring at f) (place_of w.start k (length ring)) 0
  same_ring k = ap (λ (m : ℕ). get_or (set ring at f) (place_of w.start k m) 0) (length-set ring at f)

  written : Sound w (length ring) → w.count < w.cap → flights_from w.start (w.count + 1) (set ring at f) ≡ flights w ring ++ (f ∷ [])
  unfolding flights_from listed
  written s r =
      let n0 : w.start < length ring = omega (arith, s.start_ring, s.cap_ring) in
      let others : listed (flight_at w.start (set ring at f)) 0 w.count ≡ flights w ring =
      same_listed _ _ 0 0 w.count (λ k l. same_ring (0 + k) ∙ get_or-set_other ring at (place_of w.start (0 + k) (length ring)) f 0 (place_other w.start (0 + k) w.count (length ring) n0 (omega arith) (omega (arith, s.cap_ring)))) in
      let here : flight_at w.start (set ring at f) (0 + w.count) ≡ f =
      ap (flight_at w.start (set ring at f)) (omega arith) ∙ same_ring w.count ∙ get_or-set_same ring at f 0 (place_in w.start w.count (length ring) n0) in
      append-listed (flight_at w.start (set ring at f)) 0 w.count 1 ∙ (λ i. others i ++ (here i ∷ []))

  pub add_puts_last : {v : Inflights} → added w (length ring) ≡ Ok v → flights v (ring_after w ring f) ≡ flights w ring ++ (f ∷ [])
  unfolding added ring_after
  add_puts_last e = of_answer (λ v. flights v (ring_after w ring f) ≡ flights w ring ++ (f ∷ [])) (add_check w (length ring)) (one_more w) (λ g. let m = may_add w (length ring) g in ap (flights_from w.start (w.count + 1)) (ap (λ (c : Check). ring_unless c ring (set ring at f)) g) ∙ written m.0 m.1) e

  -- every word but one stays, and no other is there
  pub add_writes_one_word : (j : ℕ) → j ≢ at → get_or (ring_after w ring f) j 0 ≡ get_or ring j 0
  unfolding ring_after
  add_writes_one_word j h = either_ring (λ l. get_or l j 0 ≡ get_or ring j 0) (add_check w (length ring)) (get_or-set_other ring at j f 0 h) refl

  pub add_keeps_length : length (ring_after w ring f) ≡ length ring
  unfolding ring_after
  add_keeps_length = either_ring (λ l. length l ≡ length ring) (add_check w (length ring)) (length-set ring at f) refl

-- no flights
no_flights : (start count : ℕ) (ring : List ℕ) → count ≡ 0 → flights_from start count ring ≡ []
unfolding flights_from listed
no_flights start zero ring e = refl
no_flights start (suc count) ring e = absurd (omega arith)

still_none : (ring : List ℕ) (u v : Inflights) → u.count ≡ 0 → v.count ≡ 0 → flights v ring ≡ flights u ring
still_none ring u v e d = no_flights v.start v.count ring d ∙ sym (no_flights u.start u.count ring e)

-- a window that changes only where its queue is empty
if_none : (ring : List ℕ) (u v : Inflights) → (u.count ≡ 0 → flights v ring ≡ flights u ring) → flights (cond (eqb u.count 0) v u) ring ≡ flights u ring
if_none ring u v h = either_end (λ x. flights x ring ≡ flights u ring) (eqb u.count 0) (λ e. h (eqb-true _ _ e)) (λ _. refl)

taken_keeps : (ring : List ℕ) (u : Inflights) (d : Option ℕ) → u.count ≡ 0 → flights (taken_up u d) ring ≡ flights u ring
taken_keeps ring u None e = refl
taken_keeps ring u (Some c) e = still_none ring u (empty_of c) e refl

take_up_keeps : (ring : List ℕ) (u : Inflights) → flights (take_up u) ring ≡ flights u ring
unfolding take_up
take_up_keeps ring u = if_none ring u (taken_up u u.deferred) (taken_keeps ring u u.deferred)

-- free
module _ (w : Inflights) (ring : List ℕ) (to : ℕ) where
  without : (k : ℕ) → k ≤ w.count → flights (behind w k (length ring)) ring ≡ drop k (flights w ring)
  unfolding flights_from
  without k l =
      same_listed _ _ 0 (0 + k) (w.count - k)
      (λ j p. ap (λ (m : ℕ). get_or ring m 0) (place_place w.start k (0 + j) (length ring) ∙ ap (λ (m : ℕ). place_of w.start m (length ring)) (omega arith)))
      ∙ sym (drop-listed (flight_at w.start ring) 0 w.count k l)

  free_drops : flights (free_to w ring to) ring ≡ drop (leading to (flights w ring)) (flights w ring)
  unfolding free_to
  free_drops = take_up_keeps ring (behind w (leading to (flights w ring)) (length ring)) ∙ without (leading to (flights w ring)) (leading_at_most to w.start w.count ring)

  pub free_to_frees : {v : Inflights} → freed_to w ring to ≡ Ok v → Frees to (flights w ring) (flights v ring)
  unfolding freed_to
  free_to_frees e = of_answer (λ v. Frees to (flights w ring) (flights v ring)) (window_check w (length ring)) (free_to w ring to) (λ _. subst (Frees to (flights w ring)) (sym free_drops) (leading_frees to (flights w ring))) e

pub free_first_frees : (w : Inflights) (ring : List ℕ) {v : Inflights} → freed_first w ring ≡ Ok v → Frees (get_or (flights w ring) 0 0) (flights w ring) (flights v ring)
unfolding freed_first
free_first_frees w ring e = free_to_frees w ring (get_or (flights w ring) 0 0) e

-- the others
cap_keeps : (w : Inflights) (ring : List ℕ) (cap : ℕ) → flights (with_cap w cap) ring ≡ flights w ring
unfolding with_cap
cap_keeps w ring cap =
    let Kept : Inflights → Type 0 = λ v. flights v ring ≡ flights w ring in
    both_ends Kept (leb w.cap cap) refl
    (either_end Kept (eqb w.count 0) (λ e. still_none ring w (empty_of cap) (eqb-true _ _ e) refl) (λ _. refl))

pub set_cap_keeps : (w : Inflights) (ring : List ℕ) (cap : ℕ) {v : Inflights} → capped w (length ring) cap ≡ Ok v → flights v ring ≡ flights w ring
unfolding capped
set_cap_keeps w ring cap e = of_answer (λ v. flights v ring ≡ flights w ring) (set_cap_check w (length ring) cap) (with_cap w cap) (λ _. cap_keeps w ring cap) e

pub rewind_keeps : (w : Inflights) (ring : List ℕ) {v : Inflights} → rewound w (length ring) ≡ Ok v → flights v ring ≡ flights w ring
unfolding rewound rewind
rewind_keeps w ring e = of_answer (λ v. flights v ring ≡ flights w ring) (window_check w (length ring)) (rewind w) (λ _. if_none ring w (rewound_to_zero w) (λ z. still_none ring w (rewound_to_zero w) z z)) e

pub reset_empties : (w : Inflights) (ring : List ℕ) {v : Inflights} → cleared w (length ring) ≡ Ok v → flights v ring ≡ []
unfolding cleared
reset_empties w ring e = of_answer (λ v. flights v ring ≡ []) (window_check w (length ring)) _ (λ _. no_flights 0 0 ring refl) e

pub new_empty : (cap : ℕ) (ring : List ℕ) {v : Inflights} → made_window cap (length ring) ≡ Ok v → flights v ring ≡ []
unfolding made_window
new_empty cap ring e = of_answer (λ v. flights v ring ≡ []) (cap_check cap (length ring)) (empty_of cap) (λ _. no_flights 0 0 ring refl) e

-- full and count
flights_length : (w : Inflights) (ring : List ℕ) → length (flights w ring) ≡ w.count
unfolding flights_from
flights_length w ring = length-listed (flight_at w.start ring) 0 w.count

full_by : (w : Inflights) (n : ℕ) (d : Option ℕ) (b : Bool) → eqb n w.cap ≡ b → (b || deferred_reached d n) ≡ true → (n ≡ w.cap) ⊎ Reached d n
full_by w n d true e h = inl (eqb-true _ _ e)
full_by w n (Some c) false e h = inr (leb-true _ _ h)
full_by w n None false e h = let z : ◌≡◌ {A = Bool} false true = h in never cc

not_by : (w : Inflights) (n : ℕ) (d : Option ℕ) (b : Bool) → eqb n w.cap ≡ b → (b || deferred_reached d n) ≡ false → (n ≡ w.cap) ⊎ Reached d n → ⊥
not_by w n d true e h a = let z : ◌≡◌ {A = Bool} true false = h in never cc
not_by w n d false e h (inl a) = eqb-false _ _ e a
not_by w n (Some c) false e h (inr a) = let z : n < c = leb-false _ _ h in omega arith
not_by w n None false e h (inr a) = a

pub full_means : (w : Inflights) (ring : List ℕ) → fullness w (length ring) ≡ Ok true → IsFull w (length (flights w ring))
unfolding fullness is_full
full_means w ring e = subst (IsFull w) (sym (flights_length w ring)) (full_by w w.count w.deferred _ refl (told (window_check w (length ring)) (is_full w) e).1)

pub not_full_means : (w : Inflights) (ring : List ℕ) → fullness w (length ring) ≡ Ok false → IsFull w (length (flights w ring)) → ⊥
unfolding fullness is_full
not_full_means w ring e f = not_by w w.count w.deferred _ refl (told (window_check w (length ring)) (is_full w) e).1 (subst (IsFull w) (flights_length w ring) f)

pub count_means : (w : Inflights) (ring : List ℕ) {k : ℕ} → counted w (length ring) ≡ Ok k → length (flights w ring) ≡ k
unfolding counted
count_means w ring e = flights_length w ring ∙ (told (window_check w (length ring)) w.count e).1

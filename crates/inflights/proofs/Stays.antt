-- A call that answers a window answers one that passes the check (`.._stays`), and no later call on that ring refuses such a window with 13 (`never_broken`).
use Prim.Native.Nat.{ℕ, zero, suc, ◌+◌, ◌-◌, ◌≤◌, ◌<◌, max}
use mathlib.Core.Path.{◌≡◌, refl, sym, subst}
use mathlib.Core.Bool.{not}
use mathlib.Core.Logic.{◌≢◌}
use mathlib.Core.List.{List}
use native.Mathlib.Omega.{arith}
use borrow.Author.Tests.{eqb-false, leb-true, leb-false}
use lib.Dec.{leb, eqb}
use lib.ListN.{length, get_or}
use Rattle.units.specs.declared.refusal.Refusal.{Refusal}
use Rattle.units.specs.declared.refusal.Refusal.TheVariants as refusal
use Rattle.units.proofs.Cond.{either_end, both_ends}
use Rattle.units.proofs.Never.{never}
use Rattle.units.proofs.Checks.{Refuses, fine_refuses, rule_refuses, both_refuse, handed_over}
use Rattle.inflights.specs.State.{window_check, cap_check, is_full, room_check, empty_of, Waits, Sound}
use Rattle.inflights.specs.Ring.{place_of, flights, leading}
use Rattle.inflights.specs.Calls.{window_unless, made_window, with_cap, set_cap_check, capped, add_check, one_more, added, ring_after, taken_up, take_up, free_to, freed_to, freed_first, cap_on_empty, cleared, rewind, rewound, fullness, counted}
use Rattle.inflights.specs.Queue.{NeverBroken}
use Rattle.inflights.specs.declared.Inflights.{Inflights}
use Rattle.inflights.proofs.Facts.{window_sound, sound_window, cap_fits, may_add, may_set_cap}
use Rattle.inflights.proofs.Places.{place_in, place_zero}
use Rattle.inflights.proofs.Leading.{leading_at_most}
use Rattle.inflights.proofs.Queue.{of_answer, add_keeps_length}
use Rattle.std.specs.Prelude.{Ok, Err, Some, None, Option}
use Rattle.units.specs.Refusals.{Check, fine, unless}

-- A window that passes the check is never refused with 13: each call begins with that check, and its other refusals are others.
abbrev Other : Refusal → Type 0
Other n = n ≢ refusal.BrokenWindow

not_broken : {A : Type 0} (c : Check) (said : A) → Refuses Other c → unless c (Ok said) ≢ Err refusal.BrokenWindow
not_broken c said h e = h refusal.BrokenWindow (handed_over c said e) refl

pub never_broken : (w : Inflights) (ring : List ℕ) → window_check w (length ring) ≡ fine → NeverBroken w ring
unfolding fullness counted capped set_cap_check cap_check added add_check room_check freed_to freed_first cleared rewound
never_broken w ring f =
    let n : ℕ = length ring in
    let ok : Refuses Other (window_check w n) = fine_refuses Other f in
    record {
      full = not_broken (window_check w n) _ ok;
      count = not_broken (window_check w n) _ ok;
      set_cap = λ cap. not_broken (set_cap_check w n cap) _ (both_refuse Other (window_check w n) ok (rule_refuses Other (leb cap n) (λ e. never cc)));
      add = not_broken (add_check w n) _ (both_refuse Other (window_check w n) ok (rule_refuses Other (not (is_full w)) (λ e. never cc)));
      free_to = λ to. not_broken (window_check w n) _ ok;
      free_first_one = not_broken (window_check w n) _ ok;
      reset = not_broken (window_check w n) _ ok;
      maybe_free_buffer = not_broken (window_check w n) _ ok;
    }

-- The answer's window is sound where the new window is.
stays : (n : ℕ) (c : Check) (u : Inflights) {v : Inflights} → (c ≡ fine → Sound u n) → window_unless c u ≡ Ok v → window_check v n ≡ fine
stays n c u h e = of_answer (λ v. window_check v n ≡ fine) c u (λ g. sound_window u n (h g)) e

-- A cap that waits goes on waiting while there are flights.
still_waits : (d : Option ℕ) (count more cap : ℕ) → Waits d count cap → 0 < more → Waits d more cap
still_waits None count more cap h p = tt
still_waits (Some c) count more cap h p = (h.0, p)

empty_sound : (cap n : ℕ) → cap ≤ n → Sound (empty_of cap) n
empty_sound cap n h = record { count_cap = omega arith; cap_ring = h; start_ring = omega arith; waits = tt }

-- A window that has lost flights, and one that has lost all and takes up the cap that waited.
fewer_sound : (s c cap n c₀ : ℕ) (d : Option ℕ) → c ≤ cap → cap ≤ n → s < max n 1 → Waits d c₀ cap → Sound (take_up (record { start = s; count = c; cap = cap; deferred = d })) n
unfolding take_up
fewer_sound s c cap n c₀ d h i j w =
    either_end (λ v. Sound v n) (eqb c 0) (λ _. none_left d w)
    (λ e. let z : c ≡ 0 → ⊥ = eqb-false _ _ e in record { count_cap = h; cap_ring = i; start_ring = j; waits = still_waits d c₀ c cap w (omega (arith, z)) })
  where
    none_left : (e : Option ℕ) → Waits e c₀ cap → Sound (taken_up (record { start = s; count = c; cap = cap; deferred = e }) e) n
    none_left None x = record { count_cap = h; cap_ring = i; start_ring = j; waits = tt }
    none_left (Some m) x = empty_sound m n (omega (arith, x.0))

-- The start stays in the ring.
place_max : (s i n : ℕ) → s < max n 1 → i ≤ n → place_of s i n < max n 1
place_max s i (suc n) h k = let p = place_in s i (suc n) (omega arith) in omega arith
place_max s zero zero h k = let e = place_zero s zero h in omega arith
place_max s (suc i) zero h k = absurd (omega arith)

free_sound : (w : Inflights) (ring : List ℕ) (to : ℕ) → Sound w (length ring) → Sound (free_to w ring to) (length ring)
unfolding free_to
free_sound w ring to s =
    let k : leading to (flights w ring) ≤ w.count = leading_at_most to w.start w.count ring in
    fewer_sound (place_of w.start (leading to (flights w ring)) (length ring)) (w.count - leading to (flights w ring)) w.cap (length ring) w.count w.deferred
    (omega (arith, s.count_cap)) s.cap_ring (place_max w.start (leading to (flights w ring)) (length ring) s.start_ring (omega (arith, s.count_cap, s.cap_ring))) s.waits

cap_sound : (w : Inflights) (n cap : ℕ) → Sound w n → cap ≤ n → Sound (with_cap w cap) n
unfolding with_cap
cap_sound w n cap s l =
    either_end (λ v. Sound v n) (leb w.cap cap)
    (λ p. let z : w.cap ≤ cap = leb-true _ _ p in record { count_cap = omega (arith, s.count_cap); cap_ring = l; start_ring = s.start_ring; waits = tt })
    (λ p. either_end (λ v. Sound v n) (eqb w.count 0) (λ _. empty_sound cap n l)
    (λ q. let z : w.count ≡ 0 → ⊥ = eqb-false _ _ q in record { count_cap = s.count_cap; cap_ring = s.cap_ring; start_ring = s.start_ring; waits = (leb-false _ _ p, omega (arith, z)) }))

next_fits : (d : Option ℕ) (count cap n : ℕ) → Waits d count cap → cap ≤ n → cap_on_empty d cap ≤ n
next_fits None count cap n w h = h
next_fits (Some c) count cap n w h = omega (arith, w.0)

rewind_sound : (w : Inflights) (n : ℕ) → Sound w n → Sound (rewind w) n
unfolding rewind
rewind_sound w n s = both_ends (λ v. Sound v n) (eqb w.count 0) (record { count_cap = s.count_cap; cap_ring = s.cap_ring; start_ring = omega arith; waits = s.waits }) s

pub new_stays : (cap n : ℕ) {v : Inflights} → made_window cap n ≡ Ok v → window_check v n ≡ fine
unfolding made_window
new_stays cap n e = stays n (cap_check cap n) (empty_of cap) (λ g. empty_sound cap n (cap_fits cap n g)) e

pub set_cap_stays : (w : Inflights) (n cap : ℕ) {v : Inflights} → capped w n cap ≡ Ok v → window_check v n ≡ fine
unfolding capped
set_cap_stays w n cap e = stays n (set_cap_check w n cap) (with_cap w cap) (λ g. let m = may_set_cap w n cap g in cap_sound w n cap m.0 m.1) e

more_sound : (w : Inflights) (n : ℕ) → Sound w n → w.count < w.cap → Sound (one_more w) n
more_sound w n s r = record { count_cap = omega arith; cap_ring = s.cap_ring; start_ring = s.start_ring; waits = still_waits w.deferred w.count (w.count + 1) w.cap s.waits (omega arith) }

pub add_stays : (w : Inflights) (ring : List ℕ) (f : ℕ) {v : Inflights} → added w (length ring) ≡ Ok v → window_check v (length (ring_after w ring f)) ≡ fine
unfolding added
add_stays w ring f {v} e = subst (λ (n : ℕ). window_check v n ≡ fine) (sym (add_keeps_length w ring f))
    (stays (length ring) (add_check w (length ring)) (one_more w) (λ g. let m = may_add w (length ring) g in more_sound w (length ring) m.0 m.1) e)

pub free_to_stays : (w : Inflights) (ring : List ℕ) (to : ℕ) {v : Inflights} → freed_to w ring to ≡ Ok v → window_check v (length ring) ≡ fine
unfolding freed_to
free_to_stays w ring to e = stays (length ring) (window_check w (length ring)) (free_to w ring to) (λ g. free_sound w ring to (window_sound w (length ring) g)) e

pub free_first_stays : (w : Inflights) (ring : List ℕ) {v : Inflights} → freed_first w ring ≡ Ok v → window_check v (length ring) ≡ fine
unfolding freed_first
free_first_stays w ring e = free_to_stays w ring (get_or (flights w ring) 0 0) e

pub reset_stays : (w : Inflights) (n : ℕ) {v : Inflights} → cleared w n ≡ Ok v → window_check v n ≡ fine
unfolding cleared
reset_stays w n e = stays n (window_check w n) _ (λ g. let s = window_sound w n g in empty_sound _ n (next_fits w.deferred w.count w.cap n s.waits s.cap_ring)) e

pub rewind_stays : (w : Inflights) (n : ℕ) {v : Inflights} → rewound w n ≡ Ok v → window_check v n ≡ fine
unfolding rewound
rewind_stays w n e = stays n (window_check w n) (rewind w) (λ g. rewind_sound w n (window_sound w n g)) e

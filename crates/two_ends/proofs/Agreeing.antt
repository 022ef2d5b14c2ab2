-- What a message of the leader's does to a log that matches the leader's: up to the message's last index it then has the leader's records, what it had of them before it keeps, and it still matches.
use Prim.Native.Nat.{ℕ, ◌+◌, ◌-◌, ◌≤◌, ◌<◌}
use mathlib.Core.Path.{◌≡◌, sym, ap, ◌∙◌}
use mathlib.Core.List.{List}
use mathlib.Core.Logic.{⊎_elim}
use native.Mathlib.Omega.{arith}
use lib.ListN.{length, get_or}
use Rattle.rules.specs.Log.{Entry, nothing, Log, last, entry_at, term_of, Holds, Same, Matching, Agree}
use Rattle.two_ends.proofs.Received.{Received}
use Rattle.units.proofs.Numbers.{below_or_not}

-- Logs that agree up to k agree up to every index that is held before it.
pub agree_down : (a b : Log) (j k : ℕ) → a.start ≤ j → j ≤ k → Agree a b k → Agree a b j
agree_down a b j k low le g = record { here = (low, omega (arith, g.here.1)); there = omega (arith, g.there); same = λ i s h. g.same i s (omega arith) }

-- The same record, where one log has another's at that index.
same_moved : (a b c : Log) (i : ℕ) → entry_at a i ≡ entry_at b i → a.start ≡ b.start → Same b c i → Same a c i
same_moved a b c i e s h = record {
  terms = ap (λ (x : Entry). x.term) e ∙ h.terms;
  bodies = λ p q. ap (λ (x : Entry). x.body) e ∙ h.bodies (omega arith) q;
}

-- Two logs with the same record as a third that starts at 0 have the same.
pub same_third : (a b c : Log) (i : ℕ) → c.start ≡ 0 → Same a c i → Same b c i → Same a b i
same_third a b c i zero s t = record { terms = s.terms ∙ sym t.terms; bodies = λ p q. s.bodies p (omega arith) ∙ sym (t.bodies q (omega arith)) }

-- The very entry.
same_entry : (a b : Log) (i : ℕ) → entry_at a i ≡ entry_at b i → Same a b i
same_entry a b i e = record { terms = ap (λ (x : Entry). x.term) e; bodies = λ p q. ap (λ (x : Entry). x.body) e }

module _ (l after leader : Log) (idx : ℕ) (es : List Entry) (r : Received l idx es after)
    (whole : leader.start ≡ 0)
    (inside : idx + length es ≤ last leader)
    (cut : (k : ℕ) → k < length es → get_or es k nothing ≡ entry_at leader (idx + 1 + k))
    (matching : Matching l leader)
    (held : Holds l idx)
    (previous : term_of l idx ≡ term_of leader idx) where
  by_leader : (i : ℕ) → i ≤ last leader → Holds leader i
  by_leader i h = (omega (arith, whole), h)

  -- up to the previous record, and up to the first of the message's own that differs, the log had the leader's already
  alike_same : (j : ℕ) → l.start ≤ j → j < r.from → j ≤ idx + length es → Same l leader j
  unfolding Matching
  alike_same j low before le =
      ⊎_elim
      (λ above.
      let k : ℕ = j - idx - 1 in
      let place : idx + 1 + k ≡ j = omega arith in
      let terms : term_of l j ≡ term_of leader j =
      ap (term_of l) (sym place)
      ∙ sym (r.alike k (omega arith) (omega arith))
      ∙ ap (λ (x : Entry). x.term) (cut k (omega arith))
      ∙ ap (term_of leader) place in
      let here : Holds l j = (low, omega (arith, r.reach)) in
      matching j here (by_leader j (omega arith)) terms j (omega arith) here (by_leader j (omega arith)))
      (λ not_above. matching idx held (by_leader idx (omega arith)) previous j (omega arith) (low, omega (arith, held.1)) (by_leader j (omega arith)))
      (below_or_not idx j)

  new_same : (j : ℕ) → after.start ≤ j → j ≤ idx + length es → Same after leader j
  new_same j low le =
      ⊎_elim
      (λ before. same_moved after l leader j (r.before j before) r.same_start.0 (alike_same j (omega (arith, r.same_start.0)) before le))
      (λ from.
      let k : ℕ = j - idx - 1 in
      let place : idx + 1 + k ≡ j = omega (arith, r.above) in
      let fresh : entry_at after j ≡ entry_at leader j =
      ap (entry_at after) (sym place) ∙ r.new k (omega (arith, r.above)) (omega arith) ∙ cut k (omega (arith, r.above)) ∙ ap (entry_at leader) place in
      same_entry after leader j fresh)
      (below_or_not j r.from)

  -- the message's last index is held then
  reached : idx + length es ≤ last after
  reached = ⊎_elim (λ e. omega (arith, e.1)) (λ e. omega (arith, e.0, e.1.0, e.1.1)) r.end

  -- "from its start to there the follower then holds exactly the leader's records"
  pub new_agree : Agree after leader (idx + length es)
  new_agree = record { here = (omega (arith, r.same_start.0, held.0), reached); there = inside; same = new_same }

  -- A record that agrees with the leader's is never one that the message replaces.
  pub agree_below : (k : ℕ) → Agree l leader k → k < r.from
  agree_below k g =
      ⊎_elim
      (λ lower. lower)
      (λ from.
      ⊎_elim
      (λ e.
      let j : ℕ = r.from - idx - 1 in
      let place : r.from ≡ idx + 1 + j = omega (arith, r.above) in
      let long : j < length es = omega (arith, r.above, e.0) in
      let terms : (get_or es j nothing).term ≡ term_of l r.from =
      ap (λ (x : Entry). x.term) (cut j long) ∙ ap (term_of leader) (sym place) ∙ sym (g.same r.from (omega (arith, held.0, r.above)) from).terms in
      absurd (r.differs j long place (omega (arith, g.here.1)) terms))
      (λ e. absurd (omega (arith, e.0, g.here.1)))
      r.end)
      (below_or_not k r.from)

  -- ".. and keeps them"
  pub keep_agree : (k : ℕ) → Agree l leader k → Agree after leader k
  keep_agree k g =
      let low = agree_below k g in
      record {
        here = (omega (arith, g.here.0, r.same_start.0), ⊎_elim (λ e. omega (arith, e.0, e.1)) (λ e. omega (arith, g.here.1, e.1.1)) r.end);
        there = g.there;
        same = λ j s h. same_moved after l leader j (r.before j (omega arith)) r.same_start.0 (g.same j (omega (arith, r.same_start.0)) h);
      }

  pub keep_matching : Matching after leader
  unfolding Matching
  keep_matching i here there terms j le hj lj =
      ⊎_elim
      (λ beyond.
      ⊎_elim
      (λ e. absurd (omega (arith, e.1, here.1)))
      as_before
      r.end)
      (λ not_beyond. new_same j hj.0 (omega arith))
      (below_or_not (idx + length es) i)
    where
      as_before : (r.from ≡ last l + 1) × ((idx + length es < r.from) × (last after ≡ last l)) → Same after leader j
      as_before e =
          let s = r.same_start.0 in
          let terms-then : term_of l i ≡ term_of leader i = ap (λ (x : Entry). x.term) (sym (r.before i (omega (arith, e.0, e.1.1, here.1)))) ∙ terms in
          same_moved after l leader j (r.before j (omega (arith, e.0, e.1.1, here.1))) s
          (matching i (omega (arith, here.0), omega (arith, e.1.1, here.1)) there terms-then j le (omega (arith, hj.0), omega (arith, e.1.1, here.1)) lj)

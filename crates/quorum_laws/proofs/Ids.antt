-- The ids of both halves, put in falling order and listed from the last to the first, each once, are the one rising list of them.
use Prim.Native.Nat.{ℕ, ◌≤◌, ◌<◌}
use mathlib.Core.Path.{◌≡◌, refl, sym, ap, ◌∙◌}
use mathlib.Core.Bool.{Bool, true, false, ◌||◌, cond, or-true, or-false, or_comm}
use mathlib.Core.List.{List, [], ◌∷◌, ◌++◌}
use mathlib.Core.Logic.{◌⊎◌, inl, inr, ⊎_elim}
use native.Mathlib.Omega.{arith}
use native.Mathlib.Nat.{le_antisymm}
use lib.ListN.{length, take, length-append, length-take}
use lib.Dec.{eqb, leb}
use borrow.Author.Tests.{eqb-true, eq-eqb}
use Rattle.std.specs.Prelude.{Ok}
use Rattle.units.proofs.Cond.{either_end}
use Rattle.units.proofs.Never.{never}
use Rattle.units.proofs.Numbers.{below_or_not}
use Rattle.units.specs.Refusals.{fine}
use Rattle.rules.specs.Majority.{reached, falling}
use Rattle.rules.proofs.Count.{count_cons, one_at_least}
use Rattle.rules.proofs.Majority.{reached_hit, Capped, Falls, falls_falling, length-falling}
use Rattle.quorum.specs.Limits.{id_limit}
use Rattle.quorum.specs.Ids.{has}
use Rattle.quorum.specs.Voters.{voters_of}
use Rattle.quorum.specs.Joint.{config_check, rising, both_ids, id_list, joint_ids, contains_of}
use Rattle.quorum.specs.declared.joint.Ids.{Ids}
use Rattle.quorum.specs.declared.joint.JointConfig.{JointConfig}
use Rattle.quorum_laws.specs.IdsRule.{Rising, ListsBoth}
use Rattle.quorum_laws.proofs.Members.{has_append, has_falling}
use Rattle.quorum.proofs.IdLaws.{has_none, has_cons}
use Rattle.quorum.proofs.Listing.{length-rising}
use Rattle.quorum.proofs.Padded.{take-padded}
use Rattle.quorum.proofs.Checks.{incoming_within, outgoing_within}

-- Standing in a list, by cases on its head.
either : (a b : Bool) → a || b ≡ true → (a ≡ true) ⊎ (b ≡ true)
either true b e = inl refl
either false b e = inr e

head_or_behind : (id x : ℕ) (xs : List ℕ) → has id (x ∷ xs) ≡ true → (x ≡ id) ⊎ (has id xs ≡ true)
head_or_behind id x xs e = ⊎_elim (λ h. inl (eqb-true x id h)) (λ h. inr h) (either (eqb x id) (has id xs) (sym (has_cons id x xs) ∙ e))

has_head : (x : ℕ) (xs : List ℕ) → has x (x ∷ xs) ≡ true
has_head x xs = has_cons x x xs ∙ rw (eq-eqb x x refl)

has_behind : (id x : ℕ) (xs : List ℕ) → has id xs ≡ true → has id (x ∷ xs) ≡ true
has_behind id x xs e = has_cons id x xs ∙ rw (e, or-true (eqb x id))

-- The same members, however often: a list that falls, turned round.
module _ (id : ℕ) where
  has_one_more : (x : ℕ) (ids : List ℕ) → has id (cond (has x ids) ids (ids ++ (x ∷ []))) ≡ eqb x id || has id ids
  has_one_more x ids = either_end (λ l. has id l ≡ eqb x id || has id ids) (has x ids) (there (eqb x id) refl) (λ new. has_append id ids (x ∷ []) ∙ rw (has_cons id x [], has_none id, or-false (eqb x id)) (or_comm (has id ids) (eqb x id)))
    where
      there : (t : Bool) → eqb x id ≡ t → has x ids ≡ true → has id ids ≡ t || has id ids
      there true q e = ap (λ (n : ℕ). has n ids) (sym (eqb-true x id q)) ∙ e
      there false q e = refl

  has_rising : (xs : List ℕ) → has id (rising xs) ≡ has id xs
  unfolding rising
  has_rising [] = refl
  has_rising (x ∷ xs) = has_one_more x (rising xs) ∙ ap (λ (b : Bool). eqb x id || b) (has_rising xs) ∙ sym (has_cons id x xs)

-- Turned round, it rises.
reached_has : (id : ℕ) (xs : List ℕ) → has id xs ≡ true → 0 < reached id xs
reached_has id [] e = never (cc (has_none id))
reached_has id (x ∷ xs) e =
    ⊎_elim (λ h. omega (arith, reached_hit id x xs (omega arith))) (λ h. omega (arith, reached_has id xs h, count_cons (leb id) x xs, one_at_least (leb id x) (reached id xs))) (head_or_behind id x xs e)

at_most_cap : (x id : ℕ) (xs : List ℕ) → Capped x xs → has id xs ≡ true → id ≤ x
at_most_cap x id xs c e = ⊎_elim (λ h. omega (arith, c id h, reached_has id xs e)) (λ h. h) (below_or_not x id)

rises_last : (x : ℕ) (xs : List ℕ) → Rising xs → ((y : ℕ) → has y xs ≡ true → y < x) → Rising (xs ++ (x ∷ []))
rises_last x [] r h = ((λ y e. absurd (nowhere y e)), tt)
  where
    nowhere : (y : ℕ) → has y [] ≡ true → ⊥
    nowhere y e = never (cc (has_none y))
rises_last x (y ∷ ys) r h = (above, rises_last x ys r.1 (λ z e. h z (has_behind z y ys e)))
  where
    above : (z : ℕ) → has z (ys ++ (x ∷ [])) ≡ true → y < z
    above z e =
        ⊎_elim (λ g. r.0 z g)
        (λ g. ⊎_elim (λ q. omega (arith, h y (has_head y ys))) (λ q. never (cc (has_none z))) (head_or_behind z x [] g))
        (either (has z ys) (has z (x ∷ [])) (sym (has_append z ys (x ∷ [])) ∙ e))

rises_one_more : (x : ℕ) (ids : List ℕ) → Rising ids → ((y : ℕ) → has y ids ≡ true → y ≤ x) → Rising (cond (has x ids) ids (ids ++ (x ∷ [])))
rises_one_more x ids r h = either_end Rising (has x ids) (λ there. r) (λ new. rises_last x ids r (λ y g. other new y g (below_or_not y x)))
  where
    other : has x ids ≡ false → (y : ℕ) → has y ids ≡ true → (y < x) ⊎ (x ≤ y) → y < x
    other new y g (inl l) = l
    other new y g (inr l) = let q : y ≡ x = le_antisymm (h y g) l in never cc

rising_rises : (xs : List ℕ) → Falls xs → Rising (rising xs)
unfolding rising
rising_rises [] f = tt
rising_rises (x ∷ xs) f = rises_one_more x (rising xs) (rising_rises xs f.1) (λ y e. at_most_cap x y xs f.0 (sym (has_rising y xs) ∙ e))

-- A list that rises is known by its members.
first_smallest : (x y : ℕ) (ys : List ℕ) → Rising (y ∷ ys) → has x (y ∷ ys) ≡ true → y ≤ x
first_smallest x y ys r e = ⊎_elim (λ q. omega arith) (λ h. omega (arith, r.0 x h)) (head_or_behind x y ys e)

same_behind : (x y : ℕ) (xs ys : List ℕ) → x ≡ y → Rising (x ∷ xs) → Rising (y ∷ ys) → ((id : ℕ) → has id (x ∷ xs) ≡ has id (y ∷ ys)) → (id : ℕ) → has id xs ≡ has id ys
same_behind x y xs ys q r s h id = at (eqb x id) refl
  where
    not_behind : (z : ℕ) (zs : List ℕ) → Rising (z ∷ zs) → z ≡ id → (b : Bool) → has id zs ≡ b → b ≡ false
    not_behind z zs t e true g = let w : ⊥ = omega (arith, t.0 id g) in absurd w
    not_behind z zs t e false g = refl

    at : (t : Bool) → eqb x id ≡ t → has id xs ≡ has id ys
    at true e = not_behind x xs r (eqb-true x id e) (has id xs) refl ∙ sym (not_behind y ys s (sym q ∙ eqb-true x id e) (has id ys) refl)
    at false e = cc (has_cons id x xs, has_cons id y ys, h id)

rising_unique : (xs ys : List ℕ) → Rising xs → Rising ys → ((id : ℕ) → has id xs ≡ has id ys) → xs ≡ ys
rising_unique [] [] r s h = refl
rising_unique [] (y ∷ ys) r s h = cc (h y, has_none y, has_head y ys)
rising_unique (x ∷ xs) [] r s h = cc (h x, has_none x, has_head x xs)
rising_unique (x ∷ xs) (y ∷ ys) r s h =
    let q : x ≡ y = le_antisymm (first_smallest y x xs r (h y ∙ has_head y ys)) (first_smallest x y ys s (sym (h x) ∙ has_head x xs)) in
    let behind : xs ≡ ys = rising_unique xs ys r.1 s.1 (same_behind x y xs ys q r s h) in
    cc

-- THE THEOREMS: the list is the promised one, and there is no other.
pub both_ids_lem : (c : JointConfig) → ListsBoth c (both_ids c)
unfolding both_ids
both_ids_lem c =
    record {
      rises = rising_rises _ (falls_falling (voters_of c.incoming ++ voters_of c.outgoing));
      members =
          λ id. has_rising id (falling (voters_of c.incoming ++ voters_of c.outgoing)) ∙ has_falling id (voters_of c.incoming ++ voters_of c.outgoing) ∙ has_append id (voters_of c.incoming) (voters_of c.outgoing);
    }

pub both_ids_unique : (c : JointConfig) (ids : List ℕ) → ListsBoth c ids → ids ≡ both_ids c
both_ids_unique c ids l = rising_unique ids (both_ids c) l.rises (both_ids_lem c).rises (λ id. l.members id ∙ sym ((both_ids_lem c).members id))

-- There is room for it.
length_both_ids : (c : JointConfig) → config_check c ≡ fine → length (both_ids c) ≤ id_limit
unfolding both_ids
length_both_ids c e =
    let both : List ℕ = voters_of c.incoming ++ voters_of c.outgoing in
    omega (arith, length-rising (falling both), length-falling both, length-append (voters_of c.incoming) (voters_of c.outgoing), length-take c.incoming.count c.incoming.ids, length-take c.outgoing.count c.outgoing.ids, incoming_within c e, outgoing_within c e)

-- So the answer holds all of it, and `contains` says yes to those ids.
module _ (c : JointConfig) (sound : config_check c ≡ fine) where
  pub ids_listed : (s : Ids) × ((joint_ids c ≡ Ok s) × (take s.count s.ids ≡ both_ids c))
  ids_listed = (id_list (both_ids c), (rw sound, take-padded id_limit (both_ids c) (length_both_ids c sound)))

  pub contains_listed : (id : ℕ) → contains_of c id ≡ Ok (has id (both_ids c))
  contains_listed id = rw (sound, (both_ids_lem c).members id)

-- Laws of checks: what one that was passed tells, by which numbers one refuses, and what an answer is that goes by one. Said once, for every rule, every number and every type of answer.
use mathlib.Core.Path.{◌≡◌, refl, subst}
use mathlib.Core.Bool.{Bool, true, false, cond}
use mathlib.Core.Logic.{◌↔◌}
use Rattle.std.specs.Prelude.{Ok, Err}
use Rattle.units.specs.Refusals.{Answer, Check, fine, number_of, both_checks, fine_or, unless}
use Rattle.units.specs.declared.refusal.Refusal.{Refusal}
use Rattle.units.proofs.Cond.{past, taken}
use Rattle.units.proofs.Never.{never}

-- A rule's check that is fine says that the rule holds.
pub holds : (b : Bool) (m : Refusal) → fine_or b m ≡ fine → b ≡ true
holds true m e = refl
holds false m e = never cc

-- Two checks are fine exactly if each is.
pub both_fine : (a b : Check) → (both_checks a b ≡ fine) ↔ ((a ≡ fine) × (b ≡ fine))
both_fine (Ok _) b = ((λ e. (refl, e)), (λ e. e.1))
both_fine (Err n) b = ((λ e. never cc), (λ e. e.0))

pub refused_not_fine : {k : Check} {n : Refusal} → k ≡ Err n → ¬ (k ≡ fine)
refused_not_fine e f = never cc

-- The checks that a question made, one after the other: `both` is what they answered, x and y are what each did.
pub checks_made : (a b both x y : Check) → both ≡ both_checks x y → x ≡ a → y ≡ b → both ≡ both_checks a b
checks_made a b both x y e f g = rw (← f, ← g) e

-- BY WHICH NUMBERS. Each number that the check refuses by is one of P; one that is fine refuses by none.
abbrev pub Refuses : (Refusal → Type 0) → Check → Type 0
Refuses P k = (n : Refusal) → k ≡ Err n → P n

module _ (P : Refusal → Type 0) where
  pub fine_refuses : {k : Check} → k ≡ fine → Refuses P k
  fine_refuses e n f = absurd (refused_not_fine f e)

  pub rule_refuses : (b : Bool) {m : Refusal} → P m → Refuses P (fine_or b m)
  rule_refuses true p = fine_refuses refl
  rule_refuses false p = λ n e. subst P (cc) p

  pub both_refuse : (a : Check) {b : Check} → Refuses P a → Refuses P b → Refuses P (both_checks a b)
  both_refuse (Ok _) p q = q
  both_refuse (Err n) p q = p

-- BY A CHECK. An answer is the refusal where its check refuses, and then the rest doesn't matter; else what it says.
module _ {A : Type 0} where
  pub unless_refused : {k : Check} {n : Refusal} (said : Answer A) → k ≡ Err n → unless k said ≡ Err n
  unless_refused said e = rw e

  pub unless_fine : {k : Check} (said : Answer A) → k ≡ fine → unless k said ≡ said
  unless_fine said e = rw e

  pub same_unless : (k : Check) {x y : Answer A} → (k ≡ fine → x ≡ y) → unless k x ≡ unless k y
  same_unless (Ok _) e = e refl
  same_unless (Err n) e = refl

  -- An answer that refuses hands its check's refusal on, where what it says otherwise is none.
  pub handed_over : (k : Check) (said : A) {n : Refusal} → unless k (Ok said) ≡ Err n → k ≡ Err n
  handed_over (Ok _) said same = never cc
  handed_over (Err m) said same = cc

  -- What holds of the answer and of each refusal, by what the check then says, holds of either.
  pub either_answer : (P : Answer A → Type 0) (k : Check) {x : Answer A} → (k ≡ fine → P x) → ((n : Refusal) → k ≡ Err n → P (Err n)) → P (unless k x)
  either_answer P (Ok _) p q = p refl
  either_answer P (Err n) p q = q n refl

  -- What is no refusal is the answer, and the check finds nothing wrong.
  pub answered : (k : Check) {x : Answer A} {z : A} → unless k x ≡ Ok z → (k ≡ fine) × (x ≡ Ok z)
  answered (Ok _) h = (refl, h)
  answered (Err n) h = never cc

  -- A refusal by one number is none by another.
  pub other_refusal : {r s : Refusal} → (number_of r ≡ number_of s → ⊥) → ◌≡◌ {A = Answer A} (Err r) (Err s) → ⊥
  other_refusal other h = other cc

  -- BY A TEST. What is no refusal has passed a test that refuses where it says yes, and met one that refuses where it says no.
  pub past_refusal : (b : Bool) (n : Refusal) {x : Answer A} {z : A} → cond b (Err n) x ≡ Ok z → (b ≡ false) × (x ≡ Ok z)
  past_refusal b n h = past b (λ e. never cc) h

  pub met_else_refused : (b : Bool) (n : Refusal) {x : Answer A} {z : A} → cond b x (Err n) ≡ Ok z → (b ≡ true) × (x ≡ Ok z)
  met_else_refused b n h = taken b (λ e. never cc) h

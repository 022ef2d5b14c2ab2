-- That a promise leaves no choice. A reader must know: 01, "Promises without gaps": "Each public call's promise fixes its whole answer, the new state and every word of each lent buffer, refusals included. Two answers that meet it are proved equal".
-- A promise is what the contract asks of an answer. proofs/Unique.antt has the law for each public call.
use Rattle.std.specs.Prelude.{◌≡◌}

-- Any two answers that meet the promise are the same: "Two answers that meet it are proved equal".
abbrev pub OneAnswer : {A : Type 0} → (A → Type 0) → Type 0
OneAnswer {A} promise = (a b : A) → promise a → promise b → a ≡ b

-- A call that writes lent buffers promises of its answer and of what it leaves in them, as one outcome: "the new state and every word of each lent buffer". Any two outcomes that meet the promise have the same answer and leave the same.
abbrev pub OneOutcome : {A B : Type 0} → (A → B → Type 0) → Type 0
OneOutcome {A} {B} promise = (a b : A) (x y : B) → promise a x → promise b y → (a ≡ b) × (x ≡ y)

-- The check of soundness before other checks: their answer may be worked out first, and where nothing is refused the record is sound and they find no fault.
use mathlib.Core.Path.{◌≡◌, ◌∙◌}
use mathlib.Core.Bool.{Bool, true, not}
use mathlib.Core.List.{List, [], ◌∷◌}
use Prim.Native.Nat.{ℕ}
use native.Mathlib.Omega.{arith}
use borrow.Author.Tests.{not-false}
use Rattle.refusals.specs.Numbers.{no_refusal, unsound_record}
use Rattle.refusals.specs.Answers.{first_fault}
use Rattle.refusals.proofs.Answers.{no-fault}
use Rattle.records.specs.declared.Observation.{Observation}
use Rattle.records.specs.Soundness.{is_sound, sound_first}

-- where what the others answer is worked out first, the check before it answers for the whole row
pub sound_first-rest :
    (o : Observation) (checks : List (Bool × ℕ)) {rest answer : ℕ} → rest ≡ first_fault checks →
    answer ≡ first_fault (sound_first o ((true, rest) ∷ [])) → answer ≡ first_fault (sound_first o checks)
sound_first-rest o checks others e = e ∙ rw others

-- where nothing is refused, the record is sound and the other checks find no fault
pub sound_first-none :
    (o : Observation) (checks : List (Bool × ℕ)) → first_fault (sound_first o checks) ≡ no_refusal →
    (is_sound o ≡ true) × (first_fault checks ≡ no_refusal)
sound_first-none o checks e =
    let passed = no-fault (not (is_sound o)) unsound_record (first_fault checks) (omega arith) e in
    (not-false (is_sound o) passed.0, passed.1)

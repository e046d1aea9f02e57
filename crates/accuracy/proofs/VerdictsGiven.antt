-- The hypothesis of demand 3's verdicts is met after every worked list that holds a window: no order with a limit, no class and no K in range is refused.
use mathlib.Core.Path.{◌≡◌, ap, ◌∙◌}
use mathlib.Core.Bool.{true}
use Prim.Native.Nat.{ℕ, ◌<◌}
use native.Mathlib.Omega.{arith}
use borrow.Author.Tests.{ne_eqb}
use Rattle.refusals.specs.Numbers.{no_refusal}
use Rattle.rows.specs.Setups.{is_setup}
use Rattle.kinds.specs.declared.Kind.{Kind}
use Rattle.records.specs.Soundness.{is_sound}
use Rattle.observation.proofs.SoundRecord.{fresh-record-after-sound}
use Rattle.classes.specs.declared.Class.{Class}
use Rattle.classes.specs.Letters.{letter_of}
use Rattle.limits.specs.Limit.{has_limit}
use Rattle.classes.proofs.ClassLetters.{letter_of-class}
use Rattle.verdict.specs.Call.{Given, verdict_in, verdict_refusal, verdict_answer}
use Rattle.verdict.specs.Question.{asked, is_scale}
use Rattle.verdict.proofs.Verdicts.{accepted-given}
use Rattle.accuracy.specs.CallList.{CallList, after}
use Rattle.accuracy.specs.Claim.{WorkedList}
use Rattle.accuracy.proofs.WorkedRows.{worked-list-fits}

module _ (kind : Kind) (list : CallList) (known : is_setup list.setup ≡ true) (worked : WorkedList kind list) where
  pub after-sound : is_sound (after list) ≡ true
  unfolding after
  after-sound = fresh-record-after-sound list.setup list.rows known (worked-list-fits kind list worked)

  module _
      (some : 0 < (after list).windows) (class : Class) (order scale : ℕ)
      (has-limit : has_limit order ≡ true) (is-scale : is_scale scale ≡ true)
    where
      pub not-refused : verdict_refusal (after list) (asked order (letter_of class) scale) ≡ no_refusal
      unfolding verdict_refusal
      not-refused =
          rw (after-sound, ne_eqb (after list).windows 0 (λ e. omega (arith, e, some)), has-limit, (letter_of-class class).0, is-scale)

      pub given-in : verdict_answer (after list) (asked order (letter_of class) scale) ≡ Given (verdict_in class (after list) order scale)
      given-in =
          accepted-given (after list) (asked order (letter_of class) scale) not-refused
          ∙ ap (λ (named : Class). Given (verdict_in named (after list) order scale)) (letter_of-class class).1

-- What a verdict's answer says of the call.
use mathlib.Core.Path.{◌≡◌, refl}
use mathlib.Core.Bool.{Bool, true, false, cond}
use Prim.Native.Nat.{ℕ}
use native.Mathlib.Omega.{arith}
use lib.Dec.{eqb}
use borrow.Author.Tests.{eqb-true}
use Rattle.refusals.specs.Numbers.{no_refusal}
use Rattle.records.specs.declared.Observation.{Observation}
use Rattle.verdict.specs.declared.Question.{Question}
use Rattle.verdict.specs.declared.Verdict.{Verdict}
use Rattle.verdict.specs.Call.{Given, Refused, verdict_of, verdict_refusal, verdict_answer}

module _ (o : Observation) (q : Question) where
  -- the call is not refused, and the verdict is the order's
  pub given-case : (v : Verdict) → verdict_answer o q ≡ Given v → (verdict_refusal o q ≡ no_refusal) × (v ≡ verdict_of o q)
  unfolding verdict_answer
  given-case v = go (eqb (verdict_refusal o q) no_refusal) refl
    where
      go :
          (accepted : Bool) → eqb (verdict_refusal o q) no_refusal ≡ accepted →
          cond accepted (Given (verdict_of o q)) (Refused (verdict_refusal o q)) ≡ Given v →
          (verdict_refusal o q ≡ no_refusal) × (v ≡ verdict_of o q)
      go true p e = (eqb-true _ _ p, cc)
      go false p e = let z : ◌≡◌ {A = ℕ} 0 1 = cc in absurd (omega arith)

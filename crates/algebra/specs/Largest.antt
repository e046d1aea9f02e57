-- The largest number that passes a test which, once failed, stays failed.
use Rattle.std.specs.Prelude.{Bool, cond, ℕ, zero, suc, ◌+◌, ◌*◌}

-- the largest t below 2^b that passes, found by its binary digits: twice the largest h whose double passes, and 1 more if that passes
unfoldable pub largest : (ℕ → Bool) → ℕ → ℕ
largest passes zero = 0
largest passes (suc b) =
    let h = largest (λ t. passes (2 * t)) b in
    cond (passes (2 * h + 1)) (2 * h + 1) (2 * h)

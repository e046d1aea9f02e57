-- A test of every entry of a list together with its place, which the checker computes: the form in which document 01 wants the rule of the sine table and of the worked numbers shown.
-- proofs/Computed.antt carries the one computed test to each entry.
use Rattle.std.specs.Prelude.{Bool, true, ◌&&◌, List, [], ◌∷◌, ℕ, suc}

-- each entry passes with its place, where the first entry's place is i
abbrev pub pass_from {ℓ} : {A : Type ℓ} → (ℕ → A → Bool) → ℕ → List A → Bool
pass_from test i [] = true
pass_from test i (entry ∷ entries) = test i entry && pass_from test (suc i) entries

-- each entry passes with its place, counted from 0
abbrev pub all_pass {ℓ} : {A : Type ℓ} → (ℕ → A → Bool) → List A → Bool
all_pass test entries = pass_from test 0 entries

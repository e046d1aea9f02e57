-- The form of the tables of calls: each has one computed theorem over its rows.
use mathlib.Core.Path.{◌≡◌}
use mathlib.Core.List.{List, map}
use Prim.Native.Nat.{ℕ}

-- each row is what a call answers and leaves, and the same in figures
unfoldable pub Alike : {A : Type 0} → List ((ℕ × A) × (ℕ × A)) → Type 0
Alike rows = map (λ row. row.0) rows ≡ map (λ row. row.1) rows

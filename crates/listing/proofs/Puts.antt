-- A text put into a buffer after the text at its front.
use mathlib.Core.List.{List, ◌++◌, append_assoc}
use mathlib.Core.Path.{◌≡◌, ap, ◌∙◌}
use Prim.Native.Nat.{ℕ, ◌+◌, ◌≤◌}
use lib.ListN.{length, take, drop}
use Rattle.std.proofs.Common.{arith}
use Rattle.std.proofs.lemmas.List.{drop-drop}
use Rattle.std.proofs.lemmas.Grind.{common_steps}

-- the bytes after the two are as they were
pub put_next :
    (front text old buffer after : List ℕ) (at next : ℕ) → at ≡ length front → next ≡ at + length text → next ≤ length old →
    buffer ≡ front ++ drop at old → after ≡ take at buffer ++ text ++ drop next buffer →
    after ≡ (front ++ text) ++ drop next old
put_next front text old buffer after at next place end room before put =
    let head : take at buffer ≡ front = grind (arith, common_steps) in
    let tail : drop at buffer ≡ drop at old = grind (arith, common_steps) in
    let rest : drop next buffer ≡ drop next old = rw (end, ← drop-drop (length text) at buffer, ← drop-drop (length text) at old) (ap (drop (length text)) tail) in
    put ∙ rw (head, rest, append_assoc)

-- Parts and the words that hold them determine each other.
use mathlib.Core.Path.{◌≡◌, refl, ap₂, ◌∙◌}
use mathlib.Core.List.{List, [], ◌∷◌, ◌++◌, map, append_assoc}
use Prim.Native.Nat.{ℕ, ◌+◌, ◌≤◌}
use native.Mathlib.Omega.{arith}
use lib.ListN.{length, take, drop, length-append}
use lib.Seq.{take_at, drop_at, take-add, drop-drop, length-take-le}
use Rattle.algebra.specs.Lists.{joined}
use Rattle.algebra.proofs.Lists.{tabulate-part}
use Rattle.lists.specs.LentWords.{words_from}
use Rattle.record_words.specs.Parts.{parts_from, total}

pub joined_length : (parts : List (List ℕ)) → length (joined parts) ≡ total (map length parts)
unfolding joined
joined_length [] = refl
joined_length (part ∷ parts) = rw (length-append, joined_length parts)

-- a part that stands after the words before it, up to its end
pub take_part :
    (words part after : List ℕ) (place end : ℕ) →
    place + length part ≡ end →
    end ≤ length words →
    take end (take place words ++ (part ++ after)) ≡ take place words ++ part
take_part words part after place end long room =
    let before : length (take place words) ≡ place = length-take-le place words (omega arith) in
    rw (← append_assoc) (take_at (take place words ++ part) after end (length-append (take place words) part ∙ omega arith))

-- the parts of joined parts are those parts
pub parts_from-joined :
    (before : List ℕ) (parts : List (List ℕ)) →
    parts_from (length before) (map length parts) (before ++ joined parts) ≡ parts
unfolding parts_from words_from joined
parts_from-joined before [] = refl
parts_from-joined before (part ∷ parts) =
    let words = before ++ (part ++ joined parts) in
    let room : length before + length part ≤ length words = simp length-append (omega arith) in
    let first : words_from (length before) (length part) words ≡ part =
    tabulate-part words (length before) (length part) room ∙
    rw (drop_at before (part ++ joined parts) (length before) refl) (take_at part (joined parts) (length part) refl) in
    let rest : parts_from (length before + length part) (map length parts) words ≡ parts =
    rw (← append_assoc, ← length-append) (parts_from-joined (before ++ part) parts) in
    ap₂ (λ (x : List ℕ) (xs : List (List ℕ)). x ∷ xs) first rest

-- the parts of some words, joined, are the words
pub joined-parts_from :
    (place : ℕ) (counts words : List ℕ) →
    place + total counts ≤ length words →
    joined (parts_from place counts words) ≡ take (total counts) (drop place words)
unfolding parts_from words_from joined
joined-parts_from place [] words room = refl
joined-parts_from place (count ∷ counts) words room =
    rw (
      tabulate-part words place count (omega arith),
      joined-parts_from (place + count) counts words (omega arith),
      take-add count (total counts) (drop place words),
      drop-drop count place words,
    )

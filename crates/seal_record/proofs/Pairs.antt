-- The pairs of a list of offsets, one after another.
use Rattle.std.proofs.Common.{[], ℕ, ℤ, ◌++◌, ◌+◌, ◌<◌, ◌∙◌, ◌∷◌, ◌≡◌, List, ap, flat_map, get_or, length, take}
use Rattle.std.proofs.lemmas.{Grind.{flat_map-append}, List.{append-nil, take_more}}
use Rattle.seal_record.specs.Spelling.{pair_bytes}

pub one_more_pair : (pairs : List (ℕ × ℤ)) (i : ℕ) (d : ℕ × ℤ) → i < length pairs
    → flat_map pair_bytes (take (i + 1) pairs) ≡ flat_map pair_bytes (take i pairs) ++ pair_bytes (get_or pairs i d)
one_more_pair pairs i d lt =
    ap (flat_map pair_bytes) (take_more pairs i d lt) ∙ (flat_map-append pair_bytes (take i pairs) (get_or pairs i d
    ∷ []) ∙ ap (λ (xs : List ℕ). flat_map pair_bytes (take i pairs) ++ xs) (append-nil (pair_bytes (get_or pairs i d))))

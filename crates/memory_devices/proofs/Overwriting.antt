-- What bytes that are put from a place on leave of an image.
use Rattle.std.proofs.Common.{[], ℕ, ◌++◌, ◌+◌, ◌-◌, ◌<◌, ◌∙◌, ◌∷◌, ◌≡◌, ◌≤◌, ◌⊎◌, List, ap, arith, drop, get_or, inl}
use Rattle.std.proofs.Common.{inr, length, length-append, length-drop, length-take, subst, suc, sym, take, zero, ⊎_elim}
use Rattle.std.proofs.lemmas.{Bool.{cases_lt}, List.{get_or-append_right, get_or-drop, get_or-take, get_or_append_left}}
use Rattle.{std.proofs.lemmas.Grind.{common_steps}, outside.proofs.Laws.{slice_bytes}}
use Rattle.memory_devices.specs.{Calls.{overwrite}, Common.{AreBytes, IsWithin, SameBut}}

module _ (at : ℕ) (bytes image : List ℕ) (fits : at + length bytes ≤ length image) where
  front_size : length (take at image ++ bytes) ≡ at + length bytes
  front_size = omega (arith, fits, length-append (take at image) bytes, length-take at image)

  whole_size : length (take at image ++ bytes ++ drop (at + length bytes) image) ≡ length image
  whole_size = omega (
    arith,
    fits,
    front_size,
    length-append (take at image ++ bytes) (drop (at + length bytes) image),
    length-drop (at + length bytes) image,
  )

  rest_same : (place : ℕ) → ¬ IsWithin at (length bytes) place → (place < at) ⊎ (at ≤ place)
      → get_or (take at image ++ bytes ++ drop (at + length bytes) image) place 0 ≡ get_or image place 0
  rest_same place none (inl below) =
      get_or_append_left (take at image ++ bytes) (drop (at + length bytes) image) 0 place
      (omega (arith, front_size, below))
      ∙ get_or_append_left (take at image) bytes 0 place (omega (arith, fits, below, length-take at image))
      ∙ get_or-take at image place 0 below
  rest_same place none (inr above) =
      ⊎_elim (λ inside. absurd (none (record { low = above; high = inside }))) (λ (behind : at + length bytes ≤ place).
      get_or-append_right (take at image ++ bytes) (drop (at + length bytes) image)
      (at + length bytes) place 0 front_size behind
      ∙ get_or-drop (at + length bytes) image (place - (at + length bytes)) 0
      ∙ ap (λ (k : ℕ). get_or image k 0) (omega (arith, behind))) (cases_lt place (at + length bytes))

  pub overwrite_size : length (overwrite at bytes image) ≡ length image
  overwrite_size = whole_size

  pub overwrite_same : SameBut (IsWithin at (length bytes)) image (overwrite at bytes image)
  overwrite_same = record {
    size = whole_size;
    rest = λ place none. rest_same place none (cases_lt place at);
  }

  pub overwrite_written : take (length bytes) (drop at (overwrite at bytes image)) ≡ bytes
  overwrite_written = grind (arith, fits, common_steps)

-- bytes of bytes
append_bytes : (front back : List ℕ) → AreBytes front → AreBytes back → (place : ℕ)
    → get_or (front ++ back) place 0 < 256
append_bytes [] back small more place = more place
append_bytes (byte ∷ front) back small more zero = small 0
append_bytes (byte ∷ front) back small more (suc place) = append_bytes front back (λ k. small (suc k)) more place

pub overwrite_bytes : (at : ℕ) (bytes image : List ℕ) → AreBytes image → AreBytes bytes
    → AreBytes (overwrite at bytes image)
overwrite_bytes at bytes image small more = append_bytes (take at image ++ bytes) (drop (at + length bytes) image)
    (append_bytes (take at image) bytes (slice_bytes image 0 at small) more)
    (λ place. subst (λ (byte : ℕ). byte < 256) (sym (get_or-drop (at + length bytes) image place 0))
    (small (at + length bytes + place)))

-- images that are the same but at the places of a slice are the same but at those of one around it
pub same_inside : (at count from room : ℕ) (old new : List ℕ) → SameBut (IsWithin at count) old new → from ≤ at
    → at + count ≤ from + room → SameBut (IsWithin from room) old new
same_inside at count from room old new same low high = record {
  size = same.size;
  rest =
      λ place none. same.rest place (λ h. none (record { low = omega (arith, h.low); high = omega (arith, h.high) }));
}

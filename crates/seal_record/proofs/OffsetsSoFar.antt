-- What has been said with one offset more.
use Rattle.std.proofs.Common.{[], ℕ, ℤ, ◌++◌, ◌∷◌, ◌≡◌, Bool, List, None, Some, ap, false, if◌then◌else◌, refl, subst}
use Rattle.{std.proofs.Common.{true}, seal_record.specs.OffsetList.{is_list_so_far, is_offset_list}}
use Rattle.seal_record.specs.{ParamLineStages.{with_pair}, ParamsSoFar.{ParamsSoFar}}

-- a list that is given as lawful may be the list so far
pub lawful_so_far : (list found : List (ℕ × ℤ)) → (if is_offset_list list then Some list else None) ≡ Some found
    → is_list_so_far found ≡ true
lawful_so_far list found given = by (is_offset_list list) refl given
  where
    so_far : (pairs : List (ℕ × ℤ)) → is_offset_list pairs ≡ true → is_list_so_far pairs ≡ true
    so_far [] lawful = refl
    so_far (pair ∷ pairs) lawful = lawful

    by : (b : Bool) → is_offset_list list ≡ b → (if b then Some list else None) ≡ Some found
        → is_list_so_far found ≡ true
    by true lawful is = let same : list ≡ found = cc in
        subst (λ (pairs : List (ℕ × ℤ)). is_list_so_far pairs ≡ true) same (so_far list lawful)
    by false lawful is = absurd cc

-- if the list with one more is given, that is what has been said then
pub said_with : (said : ParamsSoFar) (pair : ℕ × ℤ) (found : List (ℕ × ℤ))
    → (if is_offset_list (said.offsets ++ pair ∷ []) then Some (said.offsets ++ pair ∷ []) else None) ≡ Some found
    → with_pair said pair ≡ Some (record said { offsets = found })
said_with said pair found given = by (is_offset_list (said.offsets ++ pair ∷ [])) given
  where
    by : (b : Bool) → (if b then Some (said.offsets ++ pair ∷ []) else None) ≡ Some found
        → (if b then Some (record said { offsets = said.offsets ++ pair ∷ [] }) else None)
        ≡ Some (record said { offsets = found })
    by true is = let same : said.offsets ++ pair ∷ [] ≡ found = cc in
        ap (λ (pairs : List (ℕ × ℤ)). Some (record said { offsets = pairs })) same
    by false is = absurd cc

-- if it isn't, nothing is said with the pair
pub said_without : (said : ParamsSoFar) (pair : ℕ × ℤ)
    → (if is_offset_list (said.offsets ++ pair ∷ []) then Some (said.offsets ++ pair ∷ []) else None) ≡ None
    → with_pair said pair ≡ None
said_without said pair given = by (is_offset_list (said.offsets ++ pair ∷ [])) given
  where
    by : (b : Bool) → (if b then Some (said.offsets ++ pair ∷ []) else None) ≡ None
        → (if b then Some (record said { offsets = said.offsets ++ pair ∷ [] }) else None) ≡ None
    by true is = absurd cc
    by false is = refl

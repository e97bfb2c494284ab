-- The greatest place of the entries is that of the newest record.
use Rattle.std.proofs.Common.{ℕ, ◌-◌, ◌<◌, ◌^◌, ◌≡◌, ◌≤◌, ◌⊎◌, List, None, Option, Some, arith, get_or, inl, inr, subst}
use Rattle.{std.proofs.Common.{sym, ⊎_elim}, log_commands.proofs.Bounds.{bound_closed, bound_entry, bound_first}}
use Rattle.log_commands.specs.{LogList.{EndsWith}, LogRow.{AreEntries, IsAtMost, IsBound, IsPlaceOf, slot_back}}
use Rattle.log_commands.specs.LogScan.{IsEntry}
use Rattle.log_commands.{specs.{Record.{Record}, declared.scanning.Entry.{Entry}}, proofs.Rows.{slot_found, slot_small}}

module _ (image : List ℕ) (entries : List (Option Entry)) (last place : ℕ) (records : List Record)
    (are : AreEntries image entries) (ends : EndsWith image last records) where
  bound : (back : ℕ) → IsBound records back (2 ^ 64 - 1)
  bound back k other small = bound_first image last records ends k other (omega (arith, small))

  -- the newest record's place is among them
  reached : (entry : Option Entry) → IsEntry image (slot_back last 0) entry → IsAtMost place entry → last ≤ place
  reached None shut most = ⊎_elim (λ none. omega (arith, none)) (λ no. absurd (omega (arith, no)))
      (bound_closed image last 0 (2 ^ 64 - 1) records (omega arith) ends (bound 0) shut).0
  reached (Some entry) is most =
      omega (arith, most, (bound_entry image last 0 (2 ^ 64 - 1) records (omega arith) ends (bound 0) entry is).1)

  -- and there is none above it
  within : (slot : ℕ) (entry : Option Entry) → slot < 256 → IsEntry image slot entry → IsPlaceOf place entry
      → place ≤ last
  within slot None small is none = absurd none
  within slot (Some entry) small is place_is =
      omega (
        arith,
        place_is,
        (bound_entry image last (slot_back last slot) (2 ^ 64 - 1) records (slot_small last slot) ends
            (bound (slot_back last slot)) entry
            (subst (λ (s : ℕ). IsEntry image s (Some entry)) (sym (slot_found last slot small)) is)).1,
      )

  pub newest_is : ((slot : ℕ) → slot < 256 → IsAtMost place (get_or entries slot None))
      → (place ≡ 0) ⊎ ((slot : ℕ) × (slot < 256) × IsPlaceOf place (get_or entries slot None)) → last ≡ place
  newest_is most (inl none) = omega (
    arith,
    none,
    reached (get_or entries (slot_back last 0) None) (are (slot_back last 0) (omega arith))
        (most (slot_back last 0) (omega arith)),
  )
  newest_is most (inr (slot, small, is)) = omega (
    arith,
    reached (get_or entries (slot_back last 0) None) (are (slot_back last 0) (omega arith))
        (most (slot_back last 0) (omega arith)),
    within slot (get_or entries slot None) small (are slot small) is,
  )

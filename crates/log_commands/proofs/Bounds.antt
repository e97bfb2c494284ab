-- A log that stands for a list passes each slot from the newest record back.
use Rattle.std.proofs.Common.{[], ℕ, ◌+◌, ◌-◌, ◌<◌, ◌^◌, ◌∙◌, ◌∷◌, ◌≡◌, ◌≤◌, ◌⊎◌, List, Some, ap, arith, get_or, inl}
use Rattle.std.proofs.{Common.{inr, length, refl, subst, suc, sym, zero}, lemmas.Bool.{cases_lt}}
use Rattle.log_commands.{specs.LogList.{AreInSlots, EndsWith, RiseFrom}, proofs.OtherSlots.{Bounds, bounds}}
use Rattle.log_commands.{specs.{LogRow.{IsBound, slot_back}, Record.{IsRecord, Record}}, proofs.Spelled.{one_spelled}}
use Rattle.log_commands.{specs.LogScan.{IsEntry}, proofs.{Rows.{slots_agree}, Scans.{one_place}}}
use Rattle.log_commands.specs.{Slots.{HasRecord, IsClosed, behind_gate, slot_of}, declared.scanning.Entry.{Entry}}

-- each record of the list is in its slot
pub held_at : (image : List ℕ) (place : ℕ) (records : List Record) (k : ℕ) (other : Record) → k < length records
    → AreInSlots image place records
    → HasRecord image (slot_of (place + k)) (place + k) (get_or records k other)
held_at image place [] k other small held = absurd (omega (arith, small))
held_at image place (it ∷ more) zero other small held =
    subst (λ (p : ℕ). HasRecord image (slot_of p) p it) (let e : place ≡ place + 0 = omega arith in e) held.0
held_at image place (it ∷ more) (suc k) other small held =
    subst (λ (p : ℕ). HasRecord image (slot_of p) p (get_or more k other)) (let e : place + 1 + k ≡ place + suc k =
    omega arith in e) (held_at image (place + 1) more k other (omega (arith, small)) held.1)

rise_above : (number : ℕ) (records : List Record) (k : ℕ) (other : Record) → k < length records
    → RiseFrom number records → number < (get_or records k other).number
rise_above number [] k other small rise = absurd (omega (arith, small))
rise_above number (it ∷ more) zero other small rise = rise.0
rise_above number (it ∷ more) (suc k) other small rise =
    omega (arith, rise.0, rise_above it.number more k other (omega (arith, small)) rise.1)

rise_between : (number : ℕ) (records : List Record) (j k : ℕ) (other : Record) → j < k → k < length records
    → RiseFrom number records → (get_or records j other).number < (get_or records k other).number
rise_between number [] j k other below small rise = absurd (omega (arith, small))
rise_between number (it ∷ more) j zero other below small rise = absurd (omega (arith, below))
rise_between number (it ∷ more) zero (suc k) other below small rise =
    rise_above it.number more k other (omega (arith, small)) rise.1
rise_between number (it ∷ more) (suc j) (suc k) other below small rise =
    rise_between it.number more j k other (omega (arith, below)) (omega (arith, small)) rise.1

-- the greatest number of 64 bits is above all
pub bound_first : (image : List ℕ) (last : ℕ) (records : List Record) → EndsWith image last records
    → IsBound records 0 (2 ^ 64 - 1)
bound_first image last records ends k other small =
    let holds = held_at image (last + 1 - length records) records k other (omega (arith, small)) ends.held in
    least holds.spells.is
  where
    least : {it : Record} → IsRecord it → it.number < 2 ^ 64 - 1
    least is = omega (arith, is.number_is, is.is.receipt_is.number)

module _ (image : List ℕ) (last back newer : ℕ) (records : List Record) (small : back < 256)
    (ends : EndsWith image last records) (bound : IsBound records back newer) where
  fits : Bounds last (length records)
  fits = bounds last (length records) ends.count

  -- a slot among those of the list
  module _ (other : Record) (among : back < length records) where
    abbrev it : Record
    it = get_or records (length records - 1 - back) other

    holds : HasRecord image (slot_back last back) (last - back) it
    holds = subst (λ (s : ℕ). HasRecord image s (last - back) it)
        (slots_agree last back (omega (arith, among, fits.within)) small)
        (subst (λ (p : ℕ). HasRecord image (slot_of p) p it) (let e : last + 1 - length records
        + (length records - 1 - back) ≡ last - back = omega (arith, among, fits.within) in e)
        (held_at image (last + 1 - length records) records (length records - 1 - back) other
        (omega (arith, among)) ends.held))

    below : it.number < newer
    below = bound (length records - 1 - back) other (omega (arith, among))

  -- a slot behind the oldest is closed
  closed_behind : length records ≤ back → IsClosed image (slot_back last back)
  closed_behind over = ends.others (slot_back last back) (omega arith)
      (λ place low high e. omega (arith, over, low, high, fits.within, fits.most, small, e))

  -- the entry of a slot among them
  pub bound_entry : (entry : Entry) → IsEntry image (slot_back last back) (Some entry)
      → (back < last) × (entry.place ≡ last - back) × (entry.number < newer) × IsBound records (back + 1) entry.number
  bound_entry entry (found, is, number_is, own) = elim (cases_lt back (length records)) [
    | inr over ↦ absurd (closed_behind over is.opened)
    | inl among ↦ (
      omega (arith, among, fits.within),
      one_place (behind_gate image (slot_back last back)) entry.place (last - back) found (it found among) is.spells
          (holds found among).spells,
      omega (arith, number_is, same among, below found among),
      λ k other less. subst (λ (n : ℕ). (get_or records k other).number < n) (sym (same_of among other) ∙ number_is)
          (rise_between 0 records k (length records - 1 - back) other (omega (arith, less))
          (omega (arith, among)) ends.rise),
    )
  ]
    where
      same : (among : back < length records) → found.number ≡ (it found among).number
      same among = ap (λ (r : Record). r.number) (one_spelled (behind_gate image (slot_back last back)) entry.place
          (last - back) found (it found among) is.spells (holds found among).spells)

      same_of : (among : back < length records) (other : Record) → found.number ≡ (it other among).number
      same_of among other = ap (λ (r : Record). r.number) (one_spelled (behind_gate image (slot_back last back))
          entry.place (last - back) found (it other among) is.spells (holds other among).spells)

  -- a closed slot is behind the oldest, or the oldest's
  pub bound_closed : IsClosed image (slot_back last back)
      → ((last ≤ back) ⊎ (back ≡ 255)) × IsBound records (back + 1) newer
  bound_closed shut = elim (cases_lt back (length records)) [
    | inl among ↦ absurd (absurd_open among)
    | inr over ↦ (
      elim (cases_lt last 256) [
        | inl few ↦ inl (omega (arith, over, fits.small few))
        | inr many ↦ inr (omega (arith, over, small, fits.great many))
      ],
      λ k other less. bound k other (omega (arith, less)),
    )
  ]
    where
      absurd_open : back < length records → ⊥
      absurd_open among = by records among refl
        where
          by : (l : List Record) → back < length l → l ≡ records → ⊥
          by [] less same = absurd (omega (arith, less))
          by (first ∷ more) less same = shut (holds first among).opened

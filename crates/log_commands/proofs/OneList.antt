-- An image stands for one list at most, and then no slot of it is bad.
use Rattle.std.proofs.Common.{[], ℕ, ◌+◌, ◌-◌, ◌<◌, ◌^◌, ◌∙◌, ◌∷◌, ◌≡◌, ◌≤◌, List, Some, ap, arith, get_or, inl, inr}
use Rattle.{std.proofs.{Common.{length, refl, subst, sym}, lemmas.Bool.{cases_lt}}, log_commands.specs.Record.{Record}}
use Rattle.log_commands.{specs.LogList.{AreInSlots, EndsWith, StandsFor}, proofs.OtherSlots.{Bounds, bounds}}
use Rattle.log_commands.specs.{LogRow.{IsBound, slot_back}, Slots.{HasRecord, IsClosed, IsOpen, behind_gate, slot_of}}
use Rattle.log_commands.{specs.{LogScan.{IsEntry}, Unread.{IsBad}}, proofs.Spelled.{one_spelled}}
use Rattle.log_commands.proofs.{Bounds.{bound_entry, bound_first, held_at}, Rows.{slot_found, slot_small, slots_agree}}

-- the records at the places of a row are those that are held
same_held : (image : List ℕ) (place : ℕ) (a b : List Record) → AreInSlots image place a → AreInSlots image place b
    → length a ≡ length b → a ≡ b
same_held image place [] [] h k e = refl
same_held image place [] (x ∷ b) h k e = absurd (omega (arith, e))
same_held image place (x ∷ a) [] h k e = absurd (omega (arith, e))
same_held image place (x ∷ a) (y ∷ b) h k e =
    let one = one_spelled (behind_gate image (slot_of place)) place place x y h.0.spells k.0.spells in
    ap (λ (z : Record). z ∷ a) one
    ∙ ap (λ (zs : List Record). y ∷ zs) (same_held image (place + 1) a b h.1 k.1 (omega (arith, e)))

first_open : (image : List ℕ) (place : ℕ) (records : List Record) → 0 < length records → AreInSlots image place records
    → IsOpen image (slot_of place)
first_open image place [] some held = absurd (omega (arith, some))
first_open image place (it ∷ more) some held = held.0.opened

module _ (image : List ℕ) (last : ℕ) (records : List Record) (ends : EndsWith image last records) where
  fits : Bounds last (length records)
  fits = bounds last (length records) ends.count

  -- the slot of the next place is open exactly if that of the oldest of 256 is
  pub next_shut : length records ≤ 255 → IsClosed image (slot_of (last + 1))
  next_shut few =
      ends.others (slot_of (last + 1)) (omega arith) (λ place low high e. omega (arith, low, high, few, fits.within, e))

  pub next_open : length records ≡ 256 → IsOpen image (slot_of (last + 1))
  next_open all = subst (IsOpen image)
      (let e : slot_of (last + 1 - length records) ≡ slot_of (last + 1) = omega (arith, all, fits.within) in e)
      (first_open image (last + 1 - length records) records (omega (arith, all)) ends.held)

-- the newest of a row is held at its last place
last_held : (image : List ℕ) (from : ℕ) (records : List Record) → 0 < length records → AreInSlots image from records
    → (it : Record) × HasRecord image (slot_of (from + length records - 1)) (from + length records - 1) it
last_held image from [] some held = absurd (omega (arith, some))
last_held image from (it ∷ []) some held = (
  it,
  subst (λ (p : ℕ). HasRecord image (slot_of p) p it)
      (let e : from ≡ from + length (it ∷ []) - 1 = omega arith in e) held.0,
)
last_held image from (it ∷ next ∷ more) some held =
    let there = last_held image (from + 1) (next ∷ more) (omega arith) held.1 in (
      there.0,
      subst (λ (p : ℕ). HasRecord image (slot_of p) p there.0) (let e : from + 1 + length (next ∷ more) - 1
          ≡ from + length (it ∷ next ∷ more) - 1 = omega arith in e) there.1,
    )

newest_held : (image : List ℕ) (last : ℕ) (records : List Record) → EndsWith image last records → 0 < length records
    → (it : Record) × HasRecord image (slot_of last) last it
newest_held image last records ends some =
    let there = last_held image (last + 1 - length records) records some ends.held in
    let fits = bounds last (length records) ends.count in (
      there.0,
      subst (λ (p : ℕ). HasRecord image (slot_of p) p there.0) (let e : last + 1 - length records + length records - 1
          ≡ last = omega (arith, fits.within, some) in e) there.1,
    )

-- each record in its slot has a place that is among those of the list
pub held_within : (image : List ℕ) (last place : ℕ) (records : List Record) (it : Record) (slot : ℕ) → slot < 256
    → slot_of place ≡ slot → EndsWith image last records → HasRecord image slot place it → place ≤ last
held_within image last place records it slot small own ends holds =
    let bound : IsBound records (slot_back last slot) (2 ^ 64 - 1) =
    λ k other less. bound_first image last records ends k other (omega (arith, less)) in
    omega (
      arith,
      (bound_entry image last (slot_back last slot) (2 ^ 64 - 1) records (slot_small last slot) ends bound
          (record { place = place; number = it.number })
          (subst (λ (s : ℕ). IsEntry image s (Some (record { place = place; number = it.number })))
          (sym (slot_found last slot small)) (it, holds, refl, own))).1,
    )

last_within : (image : List ℕ) (last last' : ℕ) (a b : List Record) → EndsWith image last a → EndsWith image last' b
    → last ≤ last'
last_within image last last' a b h k = elim (cases_lt 0 (length a)) [
  | inl some ↦ (let there = newest_held image last a h some in
      held_within image last' last b there.0 (slot_of last) (omega arith) refl k there.1)
  | inr none ↦ omega (arith, none, (bounds last (length a) h.count).all (omega (arith, none)))
]

same_count : (image : List ℕ) (last : ℕ) (a b : List Record) → EndsWith image last a → EndsWith image last b
    → length a ≤ length b
same_count image last a b h k =
    let first = bounds last (length a) h.count in
    let second = bounds last (length b) k.count in
    elim (cases_lt (length b) (length a)) [
      | inr most ↦ most
      | inl fewer ↦ absurd (next_shut image last b k (omega (arith, fewer, first.most)) (next_open image last a h
          (elim (cases_lt last 256) [
            | inl few ↦ omega (arith, fewer, first.small few, second.small few)
            | inr many ↦ omega (arith, fewer, first.most, second.great many)
          ])))
    ]

same_lists : (image : List ℕ) (last last' : ℕ) (a b : List Record) → EndsWith image last a → EndsWith image last' b
    → last' ≡ last → a ≡ b
same_lists image last last' a b h k e =
    let other : EndsWith image last b = subst (λ (n : ℕ). EndsWith image n b) e k in
    let count : length a ≡ length b =
    omega (arith, same_count image last a b h other, same_count image last b a other h) in
    same_held image (last + 1 - length a) a b h.held
    (subst (λ (n : ℕ). AreInSlots image (last + 1 - n) b) (sym count) other.held) count

-- an image stands for one list
pub one_list : (image : List ℕ) (a b : List Record) → StandsFor a image → StandsFor b image → a ≡ b
one_list image a b h k = same_lists image h.0 k.0 a b h.1 k.1
    (omega (arith, last_within image h.0 k.0 a b h.1 k.1, last_within image k.0 h.0 b a k.1 h.1))

-- a slot that is open in it has a record of its own
module _ (image : List ℕ) (last : ℕ) (records : List Record) (slot : ℕ) (small : slot < 256)
    (ends : EndsWith image last records) (bad : IsBad image slot) where
  abbrev back : ℕ
  back = slot_back last slot

  own_held : back < length records → (l : List Record) → l ≡ records → ⊥
  own_held among [] same = absurd (omega (arith, among, ap length same))
  own_held among (other ∷ more) same =
      let fits = bounds last (length records) ends.count in
      let place = last - back in
      let own : slot_of place ≡ slot =
      slots_agree last back (omega (arith, among, fits.within)) (slot_small last slot) ∙ slot_found last slot small in
      let held = held_at image (last + 1 - length records) records (length records - 1 - back) other
      (omega (arith, among)) ends.held in
      let there : HasRecord image (slot_of place) place (get_or records (length records - 1 - back) other) =
      subst (λ (p : ℕ). HasRecord image (slot_of p) p (get_or records (length records - 1 - back) other)) (let e : last
      + 1 - length records + (length records - 1 - back) ≡ place = omega (arith, among, fits.within) in e) held in
      bad.none place _
      (subst (λ (s : ℕ). HasRecord image s place (get_or records (length records - 1 - back) other)) own there) own

  shut_behind : length records ≤ back → IsClosed image slot
  shut_behind over =
      let fits = bounds last (length records) ends.count in
      ends.others slot small (λ place low high e. omega (arith, over, low, high, fits.within, fits.most, e, small))

  not_bad_by : ⊥
  not_bad_by = elim (cases_lt back (length records)) [
    | inl among ↦ own_held among records refl
    | inr over ↦ shut_behind over bad.opened
  ]

pub none_bad : (image : List ℕ) (records : List Record) (slot : ℕ) → slot < 256 → StandsFor records image
    → ¬ IsBad image slot
none_bad image records slot small stands bad = not_bad_by image stands.0 records slot small stands.1 bad

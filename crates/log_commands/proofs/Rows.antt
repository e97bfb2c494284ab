-- Going through the slots of the log from the newest record back.
use Rattle.std.proofs.Common.{[], ℕ, ◌+◌, ◌-◌, ◌<◌, ◌∙◌, ◌∷◌, ◌≡◌, ◌≤◌, List, Some, arith, inl, inr, length, refl}
use Rattle.std.proofs.{Common.{subst, sym}, lemmas.Bool.{cases_lt}}
use Rattle.log_commands.specs.{LogList.{AreInSlots, IsCount, StandsAt}, LogRow.{IsCountBack, IsRow, slot_back}}
use Rattle.log_commands.specs.{LogScan.{IsEntry}, Slots.{HasRecord, IsClosed, slot_of}, declared.scanning.Entry.{Entry}}

-- no slot
pub row_none : (image : List ℕ) (last newer : ℕ) → 0 < newer → IsRow image last 0 newer
row_none image last newer some = record {
  records = [];
  count = inl (omega arith, refl);
  held = tt;
  rise = λ number below. tt;
  some = some;
  others = λ other below few. absurd (omega (arith, below));
}

-- if the slot of the next place back has its record, there was one in each slot before
whole_back : (last back count : ℕ) → back < last → IsCountBack last back count → back < 256 → count ≡ back
whole_back last back count below (inl whole) small = whole.1
whole_back last back count below (inr (inl over)) small = absurd (omega (arith, below, over.0))
whole_back last back count below (inr (inr but_one)) small = absurd (omega (arith, small, but_one.0))

pub slots_agree : (last back : ℕ) → back < last → back < 256 → slot_of (last - back) ≡ slot_back last back
slots_agree last back below small = omega (arith, below, small)

module _ (image : List ℕ) (last back newer : ℕ) (small : back < 256) (row : IsRow image last back newer) where
  -- one more record
  pub row_record : (entry : Entry) → IsEntry image (slot_back last back) (Some entry) → back < last
      → entry.place ≡ last - back → entry.number < newer → IsRow image last (back + 1) entry.number
  row_record entry (it, holds, number_is, slot_is) below place_is older = record {
    records = it ∷ row.records;
    count = inl (omega (arith, below), omega (arith, whole));
    held = subst (λ (p : ℕ). AreInSlots image p (it ∷ row.records))
        (let e : last - back ≡ last + 1 - length (it ∷ row.records) = omega (arith, whole, below) in e) (
          subst (λ (s : ℕ). HasRecord image s (last - back) it) (sym (slots_agree last back below small))
              (subst (λ (p : ℕ). HasRecord image (slot_back last back) p it) place_is holds),
          subst (λ (p : ℕ). AreInSlots image p row.records)
              (let e : last + 1 - length row.records ≡ last - back + 1 = omega (arith, whole, below) in e) row.held,
        );
    rise = λ number less. (omega (arith, less, number_is), row.rise it.number (omega (arith, older, number_is)));
    some = omega (arith, holds.spells.first, holds.spells.most, number_is);
    others = λ other before few. absurd (omega (arith, before, few, whole));
  }
    where
      whole : length row.records ≡ back
      whole = whole_back last back (length row.records) below row.count small

  others_more : IsClosed image (slot_back last back) → (other : ℕ) → other < back + 1 → length row.records ≤ other
      → IsClosed image (slot_back last other)
  others_more shut other before few = elim (cases_lt other back) [
    | inl earlier ↦ row.others other earlier few
    | inr now ↦ subst (λ (o : ℕ). IsClosed image (slot_back last o))
        (let e : back ≡ other = omega (arith, now, before) in e) shut
  ]

  count_over : last ≤ back → IsCountBack last (back + 1) (length row.records)
  count_over over = elim row.count [
    | inl whole ↦ inr (inl (omega (arith, over), omega (arith, over, whole.0, whole.1)))
    | inr (inl past) ↦ inr (inl (omega (arith, over), past.1))
    | inr (inr but_one) ↦ absurd (omega (arith, small, but_one.0))
  ]

  count_spare : back ≡ 255 → back < last → IsCountBack last (back + 1) (length row.records)
  count_spare is below = inr (inr (
    omega (arith, is),
    omega (arith, is, below),
    omega (arith, is, whole_back last back (length row.records) below row.count small),
  ))

  -- a closed slot, behind the oldest, or of the oldest
  row_closed : IsClosed image (slot_back last back) → IsCountBack last (back + 1) (length row.records)
      → IsRow image last (back + 1) newer
  row_closed shut count = record {
    records = row.records;
    count = count;
    held = row.held;
    rise = row.rise;
    some = row.some;
    others = others_more shut;
  }

  pub row_over : IsClosed image (slot_back last back) → last ≤ back → IsRow image last (back + 1) newer
  row_over shut over = row_closed shut (count_over over)

  pub row_spare : IsClosed image (slot_back last back) → back ≡ 255 → IsRow image last (back + 1) newer
  row_spare shut is = elim (cases_lt back last) [
    | inl below ↦ row_closed shut (count_spare is below)
    | inr over ↦ row_over shut over
  ]

-- each slot is one of the 256 from the newest back
pub slot_found : (last slot : ℕ) → slot < 256 → slot_back last (slot_back last slot) ≡ slot
slot_found last slot small = omega (arith, small)

pub slot_small : (last slot : ℕ) → slot_back last slot < 256
slot_small last slot = omega arith

-- all slots
pub row_stands : (image : List ℕ) (last newer : ℕ) → IsRow image last 256 newer → StandsAt image last
row_stands image last newer row = (
  row.records,
  record {
    count = count row.count;
    held = row.held;
    rise = row.rise 0 row.some;
    others = λ slot small none. elim (cases_lt (slot_back last slot) (length row.records)) [
      | inl among ↦ absurd (none (last - slot_back last slot) (omega (arith, among, few row.count)) (omega arith)
          (sym (slots_agree last (slot_back last slot) (omega (arith, among, few row.count)) (slot_small last slot)
          ∙ slot_found last slot small)))
      | inr beyond ↦ subst (IsClosed image) (slot_found last slot small)
          (row.others (slot_back last slot) (slot_small last slot) beyond)
    ];
  },
)
  where
    count : IsCountBack last 256 (length row.records) → IsCount last (length row.records)
    count (inl whole) = inr (whole.0, inl whole.1)
    count (inr (inl past)) = inl (past.0, past.1)
    count (inr (inr but_one)) = inr (but_one.1, inr but_one.2)

    few : IsCountBack last 256 (length row.records) → length row.records ≤ last
    few (inl whole) = omega (arith, whole.0, whole.1)
    few (inr (inl past)) = omega (arith, past.1)
    few (inr (inr but_one)) = omega (arith, but_one.1, but_one.2)

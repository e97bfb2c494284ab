-- What stays of the log when one of its slots is written.
use Rattle.std.proofs.Common.{[], ℕ, ◌++◌, ◌+◌, ◌-◌, ◌<◌, ◌∙◌, ◌∷◌, ◌≡◌, ◌≢◌, ◌≤◌, List, ap, arith, drop, get_or, inl}
use Rattle.std.proofs.Common.{inr, length, length-append, subst, suc, sym, zero, ⊎_elim}
use Rattle.std.proofs.lemmas.{Bool.{cases_eq, cases_lt}, List.{drop-append-le, length-drop}}
use Rattle.outside.{specs.Disk.{IsWithin}, proofs.Laws.{same_slice}}
use Rattle.log_commands.specs.{Common.{SameBut}, LogList.{AreInSlots, EndsWith, IsCount, RiseFrom, last_ones}}
use Rattle.log_commands.specs.{Record.{Record}, Slots.{HasRecord, IsClosed, Spells, slot_at, slot_of}}

module _ (old new : List ℕ) (slot : ℕ) (same : SameBut (IsWithin (slot_at slot) 512) old new) where
  gate_same : (other : ℕ) → other ≢ slot → get_or new (slot_at other) 0 ≡ get_or old (slot_at other) 0
  gate_same other differ = same.rest (slot_at other) (λ within. differ (omega (arith, within.low, within.high)))

  pub stays_closed : (other : ℕ) → other ≢ slot → IsClosed old other → IsClosed new other
  stays_closed other differ shut = λ opened. shut (sym (gate_same other differ) ∙ opened)

  stays_held : (other place : ℕ) (it : Record) → other ≢ slot → HasRecord old other place it
      → HasRecord new other place it
  stays_held other place it differ h = record {
    opened = gate_same other differ ∙ h.opened;
    spells = subst (λ (b : List ℕ). Spells b place it)
        (sym (same_slice (IsWithin (slot_at slot) 512) old new (slot_at other + 1) 511 same
        (λ at within touched. differ (omega (arith, within.low, within.high, touched.low, touched.high))))) h.spells;
  }

  all_stay : (place : ℕ) (records : List Record) → ((p : ℕ) → place ≤ p → p < place + length records → slot_of p ≢ slot)
      → AreInSlots old place records → AreInSlots new place records
  all_stay place [] apart held = tt
  all_stay place (it ∷ more) apart held = (
    stays_held (slot_of place) place it (apart place (omega arith) (omega arith)) held.0,
    all_stay (place + 1) more (λ p low high. apart p (omega (arith, low)) (omega (arith, high))) held.1,
  )

-- the next place has another slot than the last 255 places
slots_apart : (last p : ℕ) → 1 ≤ p → p ≤ last → last < p + 255 → slot_of p ≢ slot_of (last + 1)
slots_apart last p first low high e = omega (arith, first, low, high, e)

rise_weaker : (a b : ℕ) (records : List Record) → b ≤ a → RiseFrom a records → RiseFrom b records
rise_weaker a b [] le h = tt
rise_weaker a b (it ∷ more) le h = (omega (arith, le, h.0), h.1)

pub rise_drop : (n number : ℕ) (records : List Record) → RiseFrom number records → RiseFrom number (drop n records)
rise_drop zero number records h = h
rise_drop (suc n) number [] h = tt
rise_drop (suc n) number (it ∷ more) h =
    rise_weaker it.number number (drop n more) (omega (arith, h.0)) (rise_drop n it.number more h.1)

held_append : (image : List ℕ) (place : ℕ) (records : List Record) (it : Record) → AreInSlots image place records
    → HasRecord image (slot_of (place + length records)) (place + length records) it
    → AreInSlots image place (records ++ it ∷ [])
held_append image place [] it held new =
    (subst (λ (p : ℕ). HasRecord image (slot_of p) p it) (let e : place + 0 ≡ place = omega arith in e) new, tt)
held_append image place (first ∷ more) it held new = (
  held.0,
  held_append image (place + 1) more it held.1 (subst (λ (p : ℕ). HasRecord image (slot_of p) p it)
      (let e : place + length (first ∷ more) ≡ place + 1 + length more = omega arith in e) new),
)

held_drop : (image : List ℕ) (n place : ℕ) (records : List Record) → n ≤ length records → AreInSlots image place records
    → AreInSlots image (place + n) (drop n records)
held_drop image zero place records le held =
    subst (λ (p : ℕ). AreInSlots image p records) (let e : place ≡ place + 0 = omega arith in e) held
held_drop image (suc n) place [] le held = absurd (omega (arith, le))
held_drop image (suc n) place (it ∷ more) le held = subst (λ (p : ℕ). AreInSlots image p (drop n more)) (let e : place
    + 1 + n ≡ place + suc n = omega arith in e) (held_drop image n (place + 1) more (omega (arith, le)) held.1)

-- how many records there are
pub record Bounds (last count : ℕ) : Type 0 where
  pub within : count ≤ last
  pub most : count ≤ 256
  pub all : count < 255 → count ≡ last
  pub small : last < 256 → count ≡ last
  pub great : 256 ≤ last → 255 ≤ count

pub bounds : (last count : ℕ) → IsCount last count → Bounds last count
bounds last count (inl below) = record {
  within = omega (arith, below.1);
  most = omega (arith, below.0, below.1);
  all = λ few. below.1;
  small = λ few. below.1;
  great = λ many. absurd (omega (arith, below.0, many));
}
bounds last count (inr (many, close)) =
    let near : (255 ≤ count) × (count ≤ 256) =
    ⊎_elim (λ whole. (omega (arith, whole), omega (arith, whole)))
    (λ but_one. (omega (arith, but_one), omega (arith, but_one))) close in
    record {
      within = omega (arith, many, near.1);
      most = near.1;
      all = λ few. absurd (omega (arith, few, near.0));
      small = λ few. absurd (omega (arith, few, many));
      great = λ great. near.0;
    }

-- the records that stay when the next place's slot is written
abbrev pub kept_of : List Record → List Record
kept_of records = last_ones 255 records

kept_count : (records : List Record) → length (kept_of records) ≡ length records - (length records - 255)
kept_count records = length-drop (length records - 255) records

pub kept_few : (records : List Record) → length (kept_of records) ≤ 255
kept_few records = omega (arith, kept_count records)

-- the last 256 with a new one are the kept ones with it
pub kept_and_new : (records : List Record) (it : Record)
    → last_ones 256 (records ++ it ∷ []) ≡ kept_of records ++ it ∷ []
kept_and_new records it =
    ap (λ (n : ℕ). drop n (records ++ it ∷ [])) (let e : length (records ++ it ∷ []) - 256 ≡ length records - 255 =
    omega (arith, length-append records (it ∷ [])) in e)
    ∙ drop-append-le (length records - 255) records (it ∷ []) (omega arith)

module _ (old new : List ℕ) (last : ℕ) (records : List Record) (ends : EndsWith old last records)
    (same : SameBut (IsWithin (slot_at (slot_of (last + 1))) 512) old new) where
  abbrev n : ℕ
  n = length records - 255

  fits : Bounds last (length records)
  fits = bounds last (length records) ends.count

  from : last + 1 - length records + n ≡ last + 1 - length (kept_of records)
  from = omega (arith, fits.within, kept_count records)

  kept_stay : AreInSlots new (last + 1 - length (kept_of records)) (kept_of records)
  kept_stay = all_stay old new (slot_of (last + 1)) same (last + 1 - length (kept_of records)) (kept_of records)
      (λ p low high. slots_apart last p (omega (arith, low, fits.within, kept_count records))
      (omega (arith, high, fits.within, kept_count records)) (omega (arith, low, kept_count records)))
      (subst (λ (place : ℕ). AreInSlots old place (kept_of records)) from
      (held_drop old n (last + 1 - length records) records (omega arith) ends.held))

  others_stay : (slot : ℕ) → slot < 256 → slot ≢ slot_of (last + 1) → ((place : ℕ)
      → last < place + length (kept_of records) → place ≤ last → slot ≢ slot_of place) → IsClosed new slot
  others_stay slot small differ none = stays_closed old new (slot_of (last + 1)) same slot differ
      (ends.others slot small (λ place low high. elim (cases_lt last (place + length (kept_of records))) [
        | inl kept ↦ none place kept high
        | inr gone ↦ (λ is. differ (is ∙ (let e : slot_of place ≡ slot_of (last + 1) =
            omega (arith, low, high, gone, fits.within, fits.most, kept_count records) in e)))
      ]))

  -- a closed slot
  pub ends_closed : IsClosed new (slot_of (last + 1)) → EndsWith new last (kept_of records)
  ends_closed shut = record {
    count = elim (cases_lt last 256) [
      | inl few ↦ inl (few, omega (arith, few, fits.small few, kept_count records))
      | inr many ↦ inr (many, inr (omega (arith, many, fits.great many, kept_count records)))
    ];
    held = kept_stay;
    rise = rise_drop n 0 records ends.rise;
    others = λ slot small none. elim (cases_eq slot (slot_of (last + 1))) [
      | inl is ↦ subst (IsClosed new) (sym is) shut
      | inr differ ↦ others_stay slot small differ none
    ];
  }

  -- a slot with the new record
  module _ (it : Record) (rise : RiseFrom 0 (records ++ it ∷ []))
      (holds : HasRecord new (slot_of (last + 1)) (last + 1) it) where
    more_count : length (kept_of records ++ it ∷ []) ≡ length (kept_of records) + 1
    more_count = length-append (kept_of records) (it ∷ [])

    pub ends_opened : EndsWith new (last + 1) (kept_of records ++ it ∷ [])
    ends_opened = record {
      count = elim (cases_lt (last + 1) 256) [
        | inl few ↦ inl (few, omega (arith, few, fits.small (omega (arith, few)), more_count, kept_count records))
        | inr many ↦ inr (
          many,
          inl (elim (cases_lt last 256) [
            | inl exact ↦ omega (arith, many, exact, fits.small exact, more_count, kept_count records)
            | inr beyond ↦ omega (arith, fits.great beyond, more_count, kept_count records)
          ]),
        )
      ];
      held = subst (λ (place : ℕ). AreInSlots new place (kept_of records ++ it ∷ [])) (let e : last + 1 - length
          (kept_of records) ≡ last + 1 + 1 - length (kept_of records ++ it ∷ []) = omega (arith, more_count) in e)
          (held_append new (last + 1 - length (kept_of records)) (kept_of records) it kept_stay
          (subst (λ (p : ℕ). HasRecord new (slot_of p) p it) (let e : last + 1 ≡ last + 1 - length (kept_of records)
          + length (kept_of records) = omega (arith, fits.within, kept_count records) in e) holds));
      rise = subst (RiseFrom 0) (drop-append-le n records (it ∷ []) (omega arith))
          (rise_drop n 0 (records ++ it ∷ []) rise);
      others = λ slot small none. others_stay slot small (none (last + 1) (omega (arith, more_count)) (omega arith))
          (λ place low high. none place (omega (arith, low, more_count)) (omega (arith, high)));
    }

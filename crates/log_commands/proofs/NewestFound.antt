-- The newest record of a log that stands for a list.
use Rattle.std.{specs.declared.result.Result.TheVariants.{Err}, proofs.lemmas.Bool.{cases_lt, false≢true}}
use Rattle.std.proofs.Common.{[], ℕ, ◌+◌, ◌-◌, ◌∙◌, ◌∷◌, ◌≡◌, ◌≤◌, List, None, Option, Result, Some, ap, arith, drop}
use Rattle.std.proofs.Common.{false, get_or, inl, inr, is_some, length, refl, subst, suc, sym, true}
use Rattle.log_commands.specs.{Appends.{IsStill}, Record.{Record}}
use Rattle.log_commands.specs.{Filings.{IsTailOf, newest_after, newest_of}, declared.finding.FindFault.{FindFault}}
use Rattle.log_commands.specs.{LogList.{EndsWith, last_ones}, Slots.{HasRecord, IsClosed, IsOpen, behind_gate, slot_of}}
use Rattle.log_commands.specs.{LogScan.{IsContent, IsEntry}, declared.scanning.{Content.{Content}, Entry.{Entry}}}
use Rattle.log_commands.specs.declared.scanning.{Content.TheVariants.{Closed, Filled, Unread}, ScanFault.{ScanFault}}
use Rattle.log_commands.proofs.{Bounds.{held_at}, OtherSlots.{Bounds, bounds}, Scans.{one_place}, Spelled.{one_spelled}}

newest_last : (newest : Option Record) (records : List Record) (other : Record) → 1 ≤ length records
    → newest_after newest records ≡ Some (get_or records (length records - 1) other)
newest_last newest [] other some = absurd (omega (arith, some))
newest_last newest (it ∷ []) other some = refl
newest_last newest (it ∷ next ∷ more) other some =
    newest_last (Some it) (next ∷ more) other (omega arith)
    ∙ ap (λ (r : Record). Some r) (ap (λ (k : ℕ). get_or (it ∷ next ∷ more) k other)
    (let e : suc (length (next ∷ more) - 1) ≡ length (it ∷ next ∷ more) - 1 = omega arith in e))

-- an empty list has no newest
pub none_newest : (image : List ℕ) (last : ℕ) (records : List Record) → last ≡ 0 → EndsWith image last records
    → newest_of records ≡ None
none_newest image last records is ends =
    by records (omega (arith, is, (bounds last (length records) ends.count).within))
  where
    by : (l : List Record) → length l ≡ 0 → newest_of l ≡ None
    by [] none = refl
    by (first ∷ more) none = absurd (omega (arith, none))

first_of : (l : List Record) → 1 ≤ length l → Record
first_of [] some = absurd (omega (arith, some))
first_of (it ∷ more) some = it

module _ (image : List ℕ) (last : ℕ) (records : List Record) (some : 1 ≤ last)
    (ends : EndsWith image last records) where
  fits : Bounds last (length records)
  fits = bounds last (length records) ends.count

  many : 1 ≤ length records
  many = elim (cases_lt last 256) [
    | inl few ↦ omega (arith, some, fits.small few)
    | inr great ↦ omega (arith, fits.great great)
  ]

  abbrev newest : Record
  newest = get_or records (length records - 1) (first_of records many)

  held : HasRecord image (slot_of last) last newest
  held = subst (λ (p : ℕ). HasRecord image (slot_of p) p newest)
      (let e : last + 1 - length records + (length records - 1) ≡ last = omega (arith, many, fits.within) in e)
      (held_at image (last + 1 - length records) records (length records - 1) (first_of records many)
      (omega (arith, many)) ends.held)

  newest_is : newest_of records ≡ Some newest
  newest_is = newest_last None records (first_of records many) many

  -- what the newest record's slot holds
  pub newest_told : (content : Content) → IsContent image (slot_of last) content
      → (it : Record) × (content ≡ Filled last it) × (newest_of records ≡ Some it)
  newest_told Closed shut = absurd (shut held.opened)
  newest_told Unread none = absurd (none.1 last newest held.spells)
  newest_told (Filled at found) is = (
    found,
    ap (λ (place : ℕ). Filled place found)
        (one_place (behind_gate image (slot_of last)) at last found newest is.spells held.spells),
    newest_is ∙ ap (λ (r : Record). Some r)
        (one_spelled (behind_gate image (slot_of last)) last at newest found held.spells is.spells),
  )

-- the end of a log that is at rest
pub tail_found : (image : List ℕ) (flown flying : ℕ → Type 0) (last : ℕ) (entry : Option Entry)
    (last_one : Option Record) (records : List Record) → IsStill flown → ((place : ℕ) → flying place → flown place)
    → EndsWith image last records → IsEntry image (slot_of (last + 1)) entry → newest_of records ≡ last_one
    → IsTailOf image flying (record { last = last; is_open = is_some entry; newest = last_one; filed = 0 }) records
tail_found image flown flying last entry last_one records still fewer ends known newest_are = record {
  ready = record {
    still = λ place flies. still place (fewer place flies);
    ends = subst (EndsWith image last) (sym whole) ends;
    opened = opened entry known;
    closed = closed entry known;
  };
  newest = newest_are;
}
  where
    whole : last_ones 256 records ≡ records
    whole = ap (λ (n : ℕ). drop n records)
        (let e : length records - 256 ≡ 0 = omega (arith, (bounds last (length records) ends.count).most) in e)

    opened : (e : Option Entry) → IsEntry image (slot_of (last + 1)) e → is_some e ≡ true
        → IsOpen image (slot_of (last + 1))
    opened None shut is = absurd (false≢true is)
    opened (Some e) (it, holds, number_is, own) is = holds.opened

    closed : (e : Option Entry) → IsEntry image (slot_of (last + 1)) e → is_some e ≡ false
        → IsClosed image (slot_of (last + 1))
    closed None shut is = shut
    closed (Some e) known is = absurd (false≢true (sym is))

-- the fault of an answer
pub same_fault : (T : Type 0) (a b : FindFault) → ◌≡◌ {A = Result T FindFault} (Err a) (Err b) → a ≡ b
same_fault T a b e = cc

pub fault_known : (T : Type 0) (a b : ScanFault) → a ≡ b → ◌≡◌ {A = Result T ScanFault} (Err a) (Err b)
fault_known T a b e = ap Err e

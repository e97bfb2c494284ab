-- What each stage of an append leaves, while it goes on and at its end.
use Rattle.std.{specs.Prelude.{nat_lt}, proofs.lemmas.Bool.{cases_eq, cases_lt, false≢true}}
use Rattle.std.proofs.Common.{[], ℕ, ◌++◌, ◌+◌, ◌-◌, ◌<◌, ◌∙◌, ◌∷◌, ◌≡◌, ◌≤◌, ◌⊎◌, Bool, List, ap, arith, drop, false}
use Rattle.std.proofs.Common.{get_or, inl, inr, length, length-append, refl, subst, sym, take, true, ⊎_elim}
use Rattle.std.proofs.lemmas.{Bool.Decides.{Decides-ltb}, List.{drop-append-le, ext_get_or, get_or-drop, get_or-take}}
use Rattle.{outside.{specs.Disk.{IsWithin}, proofs.Laws.{same_slice}}, log_commands.specs.Record.{IsRecord, Record}}
use Rattle.log_commands.specs.{Appends.{IsListKept, IsReady, IsShut, IsStill, IsWritten}, Common.{OrWithin, SameBut}}
use Rattle.log_commands.specs.LogList.{AreInSlots, EndsWith, RiseFrom, StandsFor, last_ones}
use Rattle.log_commands.specs.Slots.{IsClosed, IsOpen, Spells, behind_gate, slot_at, slot_of, spelling}
use Rattle.log_commands.proofs.OtherSlots.{bounds, ends_closed, ends_opened, kept_few, kept_of, rise_drop}

-- what was written lies in the slot
in_slot : (in_flight : ℕ → Type 0) (start count slot : ℕ) (old new : List ℕ) → IsStill in_flight → slot_at slot ≤ start
    → start + count ≤ slot_at slot + 512
    → SameBut (OrWithin in_flight start count) old new → SameBut (IsWithin (slot_at slot) 512) old new
in_slot in_flight start count slot old new still low high same = record {
  size = same.size;
  rest = λ place none. same.rest place (⊎_elim (λ flying. still place flying)
      (λ within. none (record { low = omega (arith, low, within.low); high = omega (arith, high, within.high) })));
}

byte_is : (image : List ℕ) (start byte : ℕ) → take 1 (drop start image) ≡ byte ∷ [] → get_or image start 0 ≡ byte
byte_is image start byte written =
    ap (λ (place : ℕ). get_or image place 0) (let e : start ≡ start + 0 = omega arith in e)
    ∙ sym (get_or-drop start image 0 0) ∙ sym (get_or-take 1 (drop start image) 0 0 (omega arith))
    ∙ ap (λ (bytes : List ℕ). get_or bytes 0 0) written

module _ (old new : List ℕ) (in_flight : ℕ → Type 0) (last : ℕ) (records : List Record) where
  abbrev at : ℕ
  at = slot_at (slot_of (last + 1))

  -- the gate of the next place is the only byte that may differ, and it is as it was
  same_image : IsStill in_flight → SameBut (OrWithin in_flight at 1) old new
      → get_or new at 0 ≡ get_or old at 0 → new ≡ old
  same_image still same gate = ext_get_or 0 new old same.size (λ place small. elim (cases_eq place at) [
    | inl is ↦ ap (λ (p : ℕ). get_or new p 0) is ∙ gate ∙ ap (λ (p : ℕ). get_or old p 0) (sym is)
    | inr differ ↦ same.rest place
        (⊎_elim (λ flying. still place flying) (λ within. differ (omega (arith, within.low, within.high))))
  ])

  -- the first stage
  pub shut_leaves : IsReady old in_flight last true records → SameBut (OrWithin in_flight at 1) old new
      → IsListKept records new
  shut_leaves ready same = elim (cases_eq (get_or new at 0) 165) [
    | inl opened ↦ inl (
      last,
      subst (λ (i : List ℕ). EndsWith i last records)
          (sym (same_image ready.still same (opened ∙ sym (ready.opened refl)))) ready.ends,
    )
    | inr shut ↦ inr (
      last,
      ends_closed old new last records ready.ends
          (in_slot in_flight at 1 (slot_of (last + 1)) old new ready.still (omega arith) (omega arith) same) shut,
    )
  ]

  pub shut_ends : (is_open : Bool) (after : ℕ → Type 0) → IsReady old in_flight last is_open records
      → SameBut (OrWithin in_flight at 1) old new → take 1 (drop at new) ≡ 0 ∷ [] → IsStill after
      → IsShut new after last (last_ones 255 records)
  shut_ends is_open after ready same written durable = record {
    still = durable;
    ends = ends_closed old new last records ready.ends
        (in_slot in_flight at 1 (slot_of (last + 1)) old new ready.still (omega arith) (omega arith) same) shut;
    few = kept_few records;
    closed = shut;
  }
    where
      shut : IsClosed new (slot_of (last + 1))
      shut = λ opened. absurd (omega (arith, opened, byte_is new at 0 written))

  -- if the slot is closed already nothing is written
  pub shut_already : (after : ℕ → Type 0) → IsReady old in_flight last false records → new ≡ old → IsStill after
      → IsShut new after last (last_ones 255 records)
  shut_already after ready same durable = record {
    still = durable;
    ends = ends_closed old new last records ready.ends
        (record { size = ap length same; rest = λ place none. ap (λ (i : List ℕ). get_or i place 0) same }) shut;
    few = kept_few records;
    closed = shut;
  }
    where
      shut : IsClosed new (slot_of (last + 1))
      shut = subst (λ (i : List ℕ). IsClosed i (slot_of (last + 1))) (sym same) (ready.closed refl)

  module _ (shut : IsShut old in_flight last records) where
    -- a list that has no oldest to lose is kept whole
    whole : last_ones 255 records ≡ records
    whole = ap (λ (n : ℕ). drop n records) (let e : length records - 255 ≡ 0 = omega (arith, shut.few) in e)

    kept : (start count : ℕ) → at ≤ start → start + count ≤ at + 512 → SameBut (OrWithin in_flight start count) old new
        → IsClosed new (slot_of (last + 1)) → EndsWith new last records
    kept start count low high same closed = subst (EndsWith new last) whole (ends_closed old new last records shut.ends
        (in_slot in_flight start count (slot_of (last + 1)) old new shut.still low high same) closed)

    gate_stays : (count : ℕ) → SameBut (OrWithin in_flight (at + 1) count) old new → IsClosed new (slot_of (last + 1))
    gate_stays count same = λ opened. shut.closed (sym (same.rest at
        (⊎_elim (λ flying. shut.still at flying) (λ within. absurd (omega (arith, within.low))))) ∙ opened)

    -- the second stage
    pub write_leaves : SameBut (OrWithin in_flight (at + 1) 511) old new → EndsWith new last records
    write_leaves same = kept (at + 1) 511 (omega arith) (omega arith) same (gate_stays 511 same)

    pub write_ends : (after : ℕ → Type 0) (it : Record) → Spells (take 511 (drop (at + 1) new)) (last + 1) it
        → SameBut (OrWithin in_flight (at + 1) 511) old new → IsStill after → IsWritten new after last records it
    write_ends after it spells same durable = record {
      shut = record { still = durable; ends = write_leaves same; few = shut.few; closed = gate_stays 511 same };
      spells = spells;
    }

  module _ (it : Record) (written : IsWritten old in_flight last records it) (rise : RiseFrom 0 (records ++ it ∷ []))
      (same : SameBut (OrWithin in_flight at 1) old new) where
    body_stays : Spells (behind_gate new (slot_of (last + 1))) (last + 1) it
    body_stays = subst (λ (b : List ℕ). Spells b (last + 1) it)
        (sym (same_slice (OrWithin in_flight at 1) old new (at + 1) 511 same (λ place within. ⊎_elim (λ flying.
        written.shut.still place flying) (λ touched. omega (arith, within.low, touched.high))))) written.spells

    slot_same : SameBut (IsWithin at 512) old new
    slot_same = in_slot in_flight at 1 (slot_of (last + 1)) old new written.shut.still (omega arith) (omega arith) same

    opened_ends : get_or new at 0 ≡ 165 → EndsWith new (last + 1) (records ++ it ∷ [])
    opened_ends opened = subst (λ (l : List Record). EndsWith new (last + 1) (l ++ it ∷ [])) (whole written.shut)
        (ends_opened old new last records written.shut.ends slot_same it rise
        (record { opened = opened; spells = body_stays }))

    -- the third stage
    pub open_leaves : StandsFor records new ⊎ StandsFor (records ++ it ∷ []) new
    open_leaves = elim (cases_eq (get_or new at 0) 165) [
      | inl opened ↦ inr (last + 1, opened_ends opened)
      | inr shut ↦ inl (last, kept written.shut at 1 (omega arith) (omega arith) same shut)
    ]

    pub open_ends : take 1 (drop at new) ≡ 165 ∷ [] → EndsWith new (last + 1) (records ++ it ∷ [])
    open_ends done = opened_ends (byte_is new at 165 done)

-- a piece that begins where the slot does
pub same_place : (old : List ℕ) (in_flight : ℕ → Type 0) (new : List ℕ) (found wanted count : ℕ) → found ≡ wanted
    → SameBut (OrWithin in_flight found count) old new → SameBut (OrWithin in_flight wanted count) old new
same_place old in_flight new found wanted count is same =
    subst (λ (at : ℕ). SameBut (OrWithin in_flight at count) old new) is same

-- nothing was written, and nothing is in flight
pub still_leaves : (old new : List ℕ) (in_flight : ℕ → Type 0) (last : ℕ) (is_open : Bool) (records : List Record)
    → IsReady old in_flight last is_open records → SameBut in_flight old new → IsListKept records new
still_leaves old new in_flight last is_open records ready same =
    inl (
      last,
      subst (λ (i : List ℕ). EndsWith i last records)
          (sym (ext_get_or 0 new old same.size (λ place small. same.rest place (ready.still place)))) ready.ends,
    )

-- the slot of the next place, in a log that has all that it may have
module _ (image : List ℕ) (last : ℕ) (records : List Record) (ends : EndsWith image last records)
    (full : 256 ≤ last → length records ≡ 256) where
  first_held : (from : ℕ) (l : List Record) → 1 ≤ length l → AreInSlots image from l → IsOpen image (slot_of from)
  first_held from [] some held = absurd (omega (arith, some))
  first_held from (it ∷ more) some held = held.0.opened

  next_open : 256 ≤ last → IsOpen image (slot_of (last + 1))
  next_open many = subst (IsOpen image)
      (let e : slot_of (last + 1 - length records) ≡ slot_of (last + 1) = omega (arith, many, full many) in e)
      (first_held (last + 1 - length records) records (omega (arith, full many)) ends.held)

  next_closed : last < 256 → IsClosed image (slot_of (last + 1))
  next_closed few = ends.others (slot_of (last + 1)) (omega arith)
      (λ place low high e. omega (arith, few, (bounds last (length records) ends.count).small few, low, high, e))

-- a log that got a record is ready for the next
ready_next : (image : List ℕ) (in_flight : ℕ → Type 0) (last : ℕ) (records : List Record) → IsStill in_flight
    → EndsWith image (last + 1) records → (255 ≤ last → length records ≡ 256)
    → IsReady image in_flight (last + 1) (nat_lt 254 last) records
ready_next image in_flight last records still ends full = record {
  still = still;
  ends = ends;
  opened = λ is. next_open image (last + 1) records ends (λ many. full (omega (arith, many)))
      (omega (arith, (Decides-ltb 254 last).0 is));
  closed =
      λ is. next_closed image (last + 1) records ends (λ many. full (omega (arith, many))) (few is (cases_lt 254 last));
}
  where
    few : nat_lt 254 last ≡ false → (254 < last) ⊎ (last ≤ 254) → last + 1 < 256
    few is (inl many) = absurd (false≢true (sym is ∙ (Decides-ltb 254 last).1 many))
    few is (inr small) = omega (arith, small)

-- behind the third stage
pub open_ready : (old new : List ℕ) (in_flight after : ℕ → Type 0) (last : ℕ) (records : List Record) (it : Record)
    → IsWritten old in_flight last records it → RiseFrom 0 (records ++ it ∷ [])
    → SameBut (OrWithin in_flight (slot_at (slot_of (last + 1))) 1) old new
    → take 1 (drop (slot_at (slot_of (last + 1))) new) ≡ 165 ∷ [] → IsStill after
    → IsReady new after (last + 1) (nat_lt 254 last) (records ++ it ∷ [])
open_ready old new in_flight after last records it written rise same done durable =
    ready_next new after last (records ++ it ∷ []) durable
    (open_ends old new in_flight last records it written rise same done)
    (λ many. omega (arith, size many, length-append records (it ∷ []), written.shut.few))
  where
    size : 255 ≤ last → 255 ≤ length records
    size many = elim (cases_lt last 256) [
      | inl few ↦ omega (arith, many, (bounds last (length records) written.shut.ends.count).small few)
      | inr great ↦ (bounds last (length records) written.shut.ends.count).great great
    ]

-- the kept records rise up to a new one, as all of them do
pub kept_rise : (records : List Record) (it : Record) → RiseFrom 0 (records ++ it ∷ [])
    → RiseFrom 0 (kept_of records ++ it ∷ [])
kept_rise records it rise = subst (RiseFrom 0) (drop-append-le (length records - 255) records (it ∷ []) (omega arith))
    (rise_drop (length records - 255) 0 (records ++ it ∷ []) rise)

-- a piece at a place and of a length that are known
pub same_piece : (old : List ℕ) (in_flight : ℕ → Type 0) (new : List ℕ) (at wanted count size : ℕ) → at ≡ wanted
    → count ≡ size → SameBut (OrWithin in_flight at count) old new → SameBut (OrWithin in_flight wanted size) old new
same_piece old in_flight new at wanted count size is long same = subst (λ (n : ℕ).
    SameBut (OrWithin in_flight wanted n) old new) long (same_place old in_flight new at wanted count is same)

-- the bytes that were written are the record's
pub written_spells : (new : List ℕ) (at wanted count last : ℕ) (bytes : List ℕ) (it : Record) → at ≡ wanted
    → count ≡ 511 → take count (drop at new) ≡ bytes → bytes ≡ spelling (last + 1) it.text
    → IsRecord it → last < it.number → Spells (take 511 (drop wanted new)) (last + 1) it
written_spells new at wanted count last bytes it is long written own receipt below = record {
  is = receipt;
  first = omega arith;
  most = omega (arith, below);
  bytes_are =
      ap (λ (a : ℕ). take 511 (drop a new)) (sym is) ∙ ap (λ (n : ℕ). take n (drop at new)) (sym long) ∙ written ∙ own;
}

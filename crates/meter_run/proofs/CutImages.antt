-- What an image that a cut left has.
use Rattle.std.{specs.Prelude.{Contains, get_or}, proofs.lemmas.List.Elements.{Contains-append_left, Contains-push}}
use Rattle.std.proofs.Common.{[], ℕ, ◌++◌, ◌+◌, ◌<◌, ◌∙◌, ◌∷◌, ◌≡◌, ◌≤◌, ◌⊎◌, List, ap, append_assoc, arith, inl, inr}
use Rattle.{std.proofs.Common.{length, length-append, refl, subst, sym, ⊎_elim}, slot_store.specs.Slots.{IsAt}}
use Rattle.{slot_store.proofs.Laws.{answer_is, apart_same, at_stands, same_at}, totals_record.specs.Reading.{reads}}
use Rattle.meter_run.specs.Common.{Change, Durable, Enter, Entry, Ghosts, HasSeal, HoldsSeal, IsAtRest, Place, Receipt}
use Rattle.meter_run.specs.{Common.{Seal, TableParts, entries_of, state_number_of}, OnStore.{HasBeside, WritesTotals}}
use Rattle.meter_run.{specs.{Deeds.{Deed, Does, changes_of}, PointLaws.{changes_joined}}, proofs.Cuts.{begins_in}}
use Rattle.meter_run.specs.Points.{HasEntries, HasEntryOf, IsCutOfDeeds, IsEntered, IsNumberedWithin}
use Rattle.meter_run.specs.Runs.{OpensWith}
use Rattle.seal_record.specs.Decoding as seals
use Rattle.taxi_units.specs.declared.receipt.Receipt as receipts
use Rattle.totals_record.specs.declared.change.Change.TheVariants as changes

-- ---- what deeds commit

entries_joined : (xs ys : List Change) → entries_of (xs ++ ys) ≡ entries_of xs ++ entries_of ys
entries_joined [] ys = refl
entries_joined (changes.Enter entry ∷ xs) ys = ap (λ (l : List Entry). entry ∷ l) (entries_joined xs ys)
entries_joined (changes.Hold trip ∷ xs) ys = entries_joined xs ys

entries_of_joined : (xs ys : List Deed)
    → entries_of (changes_of (xs ++ ys)) ≡ entries_of (changes_of xs) ++ entries_of (changes_of ys)
entries_of_joined xs ys = ap entries_of (changes_joined xs ys) ∙ entries_joined (changes_of xs) (changes_of ys)

entered_among : (number : ℕ) (kept earlier : List Deed) (receipt : receipts.Receipt)
    → IsEntered number kept earlier receipt → HasEntryOf receipt (entries_of (changes_of kept))
entered_among number kept earlier receipt h =
    let entry = h.entry.entry in
    let before = h.entry.before in
    let here : Contains (entries_of (changes_of (before ++ Does (Enter entry) ∷ []))) entry =
    subst (λ (l : List Entry). Contains l entry) (sym (entries_of_joined before (Does (Enter entry) ∷ [])))
    (Contains-push (entries_of (changes_of before)) entry) in
    let among : Contains (entries_of (changes_of earlier)) entry =
    subst (λ (l : List Deed). Contains (entries_of (changes_of l)) entry) (sym h.entry.last) here in
    record {
      entry = entry;
      among = subst (λ (l : List Deed). Contains (entries_of (changes_of l)) entry) (sym h.has)
          (subst (λ (l : List Entry). Contains l entry) (sym (entries_of_joined earlier h.more))
          (Contains-append_left (entries_of (changes_of earlier)) (entries_of (changes_of h.more)) entry among));
      is = h.entry.is;
    }

-- the number of a receipt
changes_before : (before : List Deed) (entry : Entry)
    → length (changes_of (before ++ Does (Enter entry) ∷ [])) ≡ length (changes_of before) + 1
changes_before before entry = ap length (changes_joined before (Does (Enter entry) ∷ []))
    ∙ length-append (changes_of before) (changes.Enter entry ∷ [])

more_changes : (before earlier more : List Deed) → before ≡ earlier ++ more
    → length (changes_of earlier) ≤ length (changes_of before)
more_changes before earlier more is =
    omega (
      arith,
      ap (λ (l : List Deed). length (changes_of l)) is,
      ap length (changes_joined earlier more),
      length-append (changes_of earlier) (changes_of more),
    )

pub numbers_rise : (number : ℕ) (earlier between later : List Deed) (first next : receipts.Receipt)
    → HasEntries number (earlier ++ Does (Receipt first) ∷ (between ++ Does (Receipt next) ∷ later))
    → first.number < next.number
numbers_rise number earlier between later first next entries =
    let one = entries earlier (between ++ Does (Receipt next) ∷ later) first refl in
    let two = entries (earlier ++ Does (Receipt first) ∷ between) later next
    (sym (append_assoc earlier (Does (Receipt first) ∷ between) (Does (Receipt next) ∷ later))) in
    let within =
    begins_in two.before (Does (Enter two.entry) ∷ []) earlier (Does (Receipt first) ∷ between) (sym two.last)
    (omega (
      arith,
      ap length two.last,
      length-append earlier (Does (Receipt first) ∷ between),
      length-append two.before (Does (Enter two.entry) ∷ []),
    )) in
    omega (
      arith,
      one.numbered,
      two.numbered,
      ap (λ (l : List Deed). length (changes_of l)) two.last,
      changes_before two.before two.entry,
      more_changes two.before earlier within.0 within.1,
    )

numbered_within : (number most : ℕ) (kept earlier : List Deed) (receipt : receipts.Receipt)
    → most ≡ number + length (changes_of kept) → IsEntered number kept earlier receipt
    → IsNumberedWithin number most receipt
numbered_within number most kept earlier receipt found h =
    let above : number < receipt.number = omega (
      arith,
      h.entry.numbered,
      ap (λ (l : List Deed). length (changes_of l)) h.entry.last,
      changes_before h.entry.before h.entry.entry,
    ) in
    (above, omega (arith, h.entry.numbered, found, more_changes kept earlier h.more h.has))

module _ (tables : TableParts) (seal : Seal) (told : Type 0) (d : Durable) (p : List ℕ) (deeds : List Deed)
    (i x : List ℕ) (cut : IsCutOfDeeds tables seal told d p deeds i x) where
  pub kept_begins : (more : List Deed) × (deeds ≡ cut.kept ++ more)
  kept_begins = by cut.kept_is
    where
      by : (cut.kept ≡ cut.done) ⊎ (cut.kept ≡ cut.done ++ cut.next) → (more : List Deed) × (deeds ≡ cut.kept ++ more)
      by (inl same) = (cut.next ++ cut.left, cut.split ∙ ap (λ (l : List Deed). l ++ (cut.next ++ cut.left)) (sym same))
      by (inr same) = (
        cut.left,
        cut.split ∙ sym (append_assoc cut.done cut.next cut.left) ∙ ap (λ (l : List Deed). l ++ cut.left) (sym same),
      )

  pub receipt_entered : (earlier later : List Deed) (receipt : receipts.Receipt) → cut.done ++ cut.next
      ≡ earlier ++ Does (Receipt receipt) ∷ later → HasEntryOf receipt (entries_of (changes_of cut.kept))
  receipt_entered earlier later receipt is =
      entered_among d.number cut.kept earlier receipt (cut.receipts earlier later receipt is)

  pub receipt_numbered : (earlier later : List Deed) (receipt : receipts.Receipt) → cut.done ++ cut.next
      ≡ earlier ++ Does (Receipt receipt) ∷ later → IsNumberedWithin d.number cut.found.number receipt
  receipt_numbered earlier later receipt is = numbered_within d.number cut.found.number cut.kept earlier receipt
      cut.follows.number (cut.receipts earlier later receipt is)

  -- the next run may open with it
  pub next_opens : {D L : Type 0} {N : ℕ} (B : Ghosts D N L) (board : D) → B.image board ≡ i → IsAtRest B board
      → OpensWith B tables board cut.found
  next_opens B board is settled = record {
    place = cut.scanned.0;
    settled = record {
      quiet = λ place within flies. settled place flies;
      is_at = subst (λ (image : List ℕ). IsAt reads state_number_of 0 cut.scanned.0 image cut.found) (sym is)
          ((answer_is reads state_number_of 0 i _).0 cut.scanned.1);
    };
    fits = cut.fits;
  }

-- ---- the seals

module _ {D L : Type 0} {N : ℕ} (B : Ghosts D N L) where
  pub beside_bytes : (board : D) (left : List ℕ) (place : ℕ) → HasBeside B board left → 1024 ≤ place
      → ¬ B.in_flight board place → get_or left place 0 ≡ get_or (B.image board) place 0
  beside_bytes board left place h le grounded =
      h.bytes.rest place (⊎_elim grounded (λ within. omega (arith, le, within.high)))

  pub seal_left : (board : D) (left : List ℕ) (place : Place) (seal : Seal) → HasBeside B board left
      → HoldsSeal B place board seal → HasSeal left seal
  seal_left board left place seal h keeps =
      at_stands seals.reads seals.seal_number_of 1024 place left seal
      (same_at seals.reads seals.seal_number_of 1024 place (B.image board) left seal keeps.is_at
      (apart_same 1024 0 1024 (B.image board) (B.in_flight board) left (inl (omega arith)) keeps.quiet h.bytes))

  pub seal_kept : (a b : D) (place : Place) (seal : Seal) → WritesTotals B a b → HoldsSeal B place a seal
      → HoldsSeal B place b seal
  seal_kept a b place seal h keeps = record {
    quiet = λ byte within flies. ⊎_elim (keeps.quiet byte within) (λ touched. omega (arith, within.low, touched.high))
        (h.flight byte flies);
    is_at = same_at seals.reads seals.seal_number_of 1024 place (B.image a) (B.image b) seal keeps.is_at
        (apart_same 1024 0 1024 (B.image a) (B.in_flight a) (B.image b) (inl (omega arith)) keeps.quiet h.rest);
  }

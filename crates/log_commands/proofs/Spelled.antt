-- What a record's bytes are read as.
use Rattle.std.{specs.Int.{from_be_bytes, w16, w64}, proofs.Math.Seq.{take-append_seam}}
use Rattle.std.proofs.Common.{[], ℕ, ◌++◌, ◌-◌, ◌<◌, ◌^◌, ◌↔◌, ◌∙◌, ◌∷◌, ◌≡◌, ◌≤◌, ◌⊎◌, Bool, IsTrue, List, None}
use Rattle.std.proofs.Common.{Option, Some, ap, arith, drop, false, length, refl, replicate, subst, sym, take, ⊎_elim}
use Rattle.std.proofs.lemmas.Nat.{from_be_bytes-to_be_bytes_2, from_be_bytes-to_be_bytes_8}
use Rattle.{receipt_text.proofs.Laws.{one_part, one_receipt, short_texts}, log_commands.specs.Record.{IsRecord, Record}}
use Rattle.log_commands.specs.{Common.{IsReceiptText, Part, Receipt}, Slots.{IsRecordOf, Spells, spelling}}

same_parts : (t u : List ℕ) (m n : ℕ) (x y : List ℕ) → t ≡ u → m ≡ n → x ≡ y
    → ◌≡◌ {A = Record} (record { text = t; number = m; taxi = x }) (record { text = u; number = n; taxi = y })
same_parts t u m n x y text number taxi = cc

-- a text is one record at most
pub one_record : (text : List ℕ) (a b : Record) → IsRecordOf text a → IsRecordOf text b → a ≡ b
one_record text a b h k = same_parts a.text b.text a.number b.number a.taxi b.taxi (h.text_is ∙ sym k.text_is)
    (h.is.number_is ∙ ap (λ (r : Receipt). r.number)
    (one_receipt text h.is.receipt k.is.receipt h.is.part k.is.part read_a read_b) ∙ sym k.is.number_is)
    (h.is.taxi_is ∙ ap (λ (p : Part). p.taxi)
    (one_part text h.is.receipt k.is.receipt h.is.part k.is.part read_a read_b) ∙ sym k.is.taxi_is)
  where
    read_a : IsReceiptText text h.is.receipt h.is.part
    read_a = subst (λ (t : List ℕ). IsReceiptText t h.is.receipt h.is.part) h.text_is h.is.is

    read_b : IsReceiptText text k.is.receipt k.is.part
    read_b = subst (λ (t : List ℕ). IsReceiptText t k.is.receipt k.is.part) k.text_is k.is.is

-- the record of a text that is read
pub read_record : (text items taxi : List ℕ) (receipt : Receipt) (part : Part) → IsReceiptText text receipt part
    → items ≡ text → taxi ≡ part.taxi
    → IsRecordOf text (record { text = items; number = receipt.number; taxi = taxi })
read_record text items taxi receipt part is items_are taxi_is = record {
  is = record {
    receipt = receipt;
    part = part;
    is = subst (λ (t : List ℕ). IsReceiptText t receipt part) (sym items_are) is;
    number_is = refl;
    taxi_is = taxi_is;
  };
  text_is = items_are;
}

-- it is the only one
pub record_exact : (text : List ℕ) (found : Record) → IsRecordOf text found → (it : Record)
    → (◌≡◌ {A = Option Record} (Some found) (Some it)) ↔ IsRecordOf text it
record_exact text found is it = (
  λ same.
      let inner : found ≡ it = cc in
      subst (IsRecordOf text) inner is,
  λ h. ap Some (one_record text found it is h),
)

-- a record's text is short
pub short_record : (it : Record) → IsRecord it → length it.text ≤ 480
short_record it is = short_texts it.text is.receipt is.part is.is

-- its number fits
pub small_number : (it : Record) → IsRecord it → it.number < 2 ^ 64
small_number it is = omega (arith, is.number_is, is.is.receipt_is.number)

-- a comparison with a record's own bytes tells whether they are its
pub spells_exact : (bytes own : List ℕ) (place : ℕ) (it : Record) (same : Bool) → IsRecord it → 1 ≤ place
    → place ≤ it.number → own ≡ spelling place it.text
    → (IsTrue same ↔ (own ≡ bytes)) → IsTrue same ↔ Spells bytes place it
spells_exact bytes own place it same is first most own_is told = (
  λ yes. record { is = is; first = first; most = most; bytes_are = sym (told.0 yes) ∙ own_is },
  λ h. told.1 (own_is ∙ sym h.bytes_are),
)

-- no bytes spell a record at a place below 1 or above its number
pub none_spells : (bytes : List ℕ) (place : ℕ) (it : Record) → (place ≡ 0) ⊎ (it.number < place)
    → IsTrue false ↔ Spells bytes place it
none_spells bytes place it wrong = (
  λ yes. absurd cc,
  λ h. absurd (⊎_elim (λ none. omega (arith, none, h.first)) (λ beyond. omega (arith, beyond, h.most)) wrong),
)

pub place_of_spelling : (place : ℕ) (text : List ℕ) → place < 2 ^ 64
    → from_be_bytes w64 (take 8 (spelling place text)) ≡ place
place_of_spelling place text small = from_be_bytes-to_be_bytes_8 place small

pub count_of_spelling : (place : ℕ) (text : List ℕ) → length text ≤ 480
    → from_be_bytes w16 (take 2 (drop 8 (spelling place text))) ≡ length text
count_of_spelling place text short = from_be_bytes-to_be_bytes_2 (length text) (omega (arith, short))

pub text_of_spelling : (place : ℕ) (text : List ℕ) → take (length text) (drop 10 (spelling place text)) ≡ text
text_of_spelling place text = take-append_seam text (replicate (500 - length text) 0 ++ (1 ∷ []))

module _ (bytes : List ℕ) (place count : ℕ) (place_is : place ≡ from_be_bytes w64 (take 8 bytes))
    (count_is : count ≡ from_be_bytes w16 (take 2 (drop 8 bytes))) where
  -- what the bytes of a record are read as
  module _ (at : ℕ) (it : Record) (h : Spells bytes at it) where
    same_place : place ≡ at
    same_place = place_is ∙ ap (λ (b : List ℕ). from_be_bytes w64 (take 8 b)) h.bytes_are
        ∙ place_of_spelling at it.text (omega (arith, h.most, small_number it h.is))

    same_count : count ≡ length it.text
    same_count = count_is ∙ ap (λ (b : List ℕ). from_be_bytes w16 (take 2 (drop 8 b))) h.bytes_are
        ∙ count_of_spelling at it.text (short_record it h.is)

    same_text : take count (drop 10 bytes) ≡ it.text
    same_text = ap (λ (n : ℕ). take n (drop 10 bytes)) same_count
        ∙ ap (λ (b : List ℕ). take (length it.text) (drop 10 b)) h.bytes_are ∙ text_of_spelling at it.text

    is_read : IsRecordOf (take count (drop 10 bytes)) it
    is_read = record { is = h.is; text_is = sym same_text }

  -- a text that is too long is none's
  pub none_longer : 480 < count → (at : ℕ) (it : Record) → (◌≡◌ {A = Option (ℕ × Record)} None (Some (at, it)))
      ↔ Spells bytes at it
  none_longer long at it = (λ e. absurd cc, λ h. absurd (omega (arith, long, same_count at it h, short_record it h.is)))

  -- one that isn't a receipt is none's
  pub none_other : ((it : Record) → (◌≡◌ {A = Option Record} None (Some it))
      ↔ IsRecordOf (take count (drop 10 bytes)) it)
      → (at : ℕ) (it : Record) → (◌≡◌ {A = Option (ℕ × Record)} None (Some (at, it))) ↔ Spells bytes at it
  none_other none at it = (
    λ e. absurd cc,
    λ h.
        let told : ◌≡◌ {A = Option Record} None (Some it) = (none it).1 (is_read at it h) in
        absurd cc,
  )

  module _ (found : Record) (is : IsRecordOf (take count (drop 10 bytes)) found) where
    same_record : (at : ℕ) (it : Record) → Spells bytes at it → ◌≡◌ {A = ℕ × Record} (place, found) (at, it)
    same_record at it h =
        let first = same_place at it h in
        let second = one_record (take count (drop 10 bytes)) found it is (is_read at it h) in
        cc

    -- bytes that aren't the record's own are none's
    pub none_spelled : ¬ Spells bytes place found → (at : ℕ) (it : Record)
        → (◌≡◌ {A = Option (ℕ × Record)} None (Some (at, it))) ↔ Spells bytes at it
    none_spelled not at it = (
      λ e. absurd cc,
      λ h. absurd (not (subst (λ (x : ℕ × Record). Spells bytes x.0 x.1) (sym (same_record at it h)) h)),
    )

    pub some_spelled : Spells bytes place found → (at : ℕ) (it : Record)
        → (◌≡◌ {A = Option (ℕ × Record)} (Some (place, found)) (Some (at, it))) ↔ Spells bytes at it
    some_spelled spells at it = (
      λ same.
          let inner : ◌≡◌ {A = ℕ × Record} (place, found) (at, it) = cc in
          subst (λ (x : ℕ × Record). Spells bytes x.0 x.1) inner spells,
      λ h. ap Some (same_record at it h),
    )

-- bytes are one record's at most
pub one_spelled : (bytes : List ℕ) (p q : ℕ) (a b : Record) → Spells bytes p a → Spells bytes q b → a ≡ b
one_spelled bytes p q a b h k =
    one_record (take count (drop 10 bytes)) a b (is_read bytes place count refl refl p a h)
    (is_read bytes place count refl refl q b k)
  where
    place : ℕ
    place = from_be_bytes w64 (take 8 bytes)

    count : ℕ
    count = from_be_bytes w16 (take 2 (drop 8 bytes))

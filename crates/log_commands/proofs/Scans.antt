-- What a slot's content tells of it.
use Rattle.std.specs.{Int.{from_be_bytes, w64}, Prelude.{set}, declared.result.Result.TheVariants.{Err, Ok}}
use Rattle.std.proofs.Common.{[], ℕ, ◌+◌, ◌<◌, ◌∙◌, ◌∷◌, ◌≡◌, IfOk, List, None, Option, Result, Some, ap, arith, drop}
use Rattle.std.proofs.{Common.{get_or, inl, inr, length, refl, subst, suc, sym, take, zero}, lemmas.Bool.{cases_eq}}
use Rattle.std.proofs.lemmas.List.{drop-take, get_or-drop, get_or-set_other, get_or-set_same, get_or-take}
use Rattle.log_commands.specs.LogScan.{IsBad, IsContent, IsContentOf, IsEntry, IsEntryOf, IsLowestBad}
use Rattle.log_commands.specs.{Record.{Record}, Slots.{Spells, behind_gate, slot_at, slot_of}}
use Rattle.log_commands.specs.declared.scanning.{Content.{Content, TheVariants.{Closed, Filled, Unread}}, Entry.{Entry}}
use Rattle.log_commands.specs.declared.scanning.ScanFault.{ScanFault, TheVariants.{BadSlot, DeviceFailed}}
use Rattle.log_commands.proofs.Spelled.{place_of_spelling, small_number}

-- one byte more is left out
drop_more : (n : ℕ) (list : List ℕ) → drop 1 (drop n list) ≡ drop (suc n) list
drop_more zero list = refl
drop_more (suc n) [] = refl
drop_more (suc n) (byte ∷ list) = drop_more n list

-- bytes have one place in the log at most
place_read : (bytes : List ℕ) (place : ℕ) (it : Record) → Spells bytes place it
    → from_be_bytes w64 (take 8 bytes) ≡ place
place_read bytes place it h = ap (λ (b : List ℕ). from_be_bytes w64 (take 8 b)) h.bytes_are
    ∙ place_of_spelling place it.text (omega (arith, h.most, small_number it h.is))

pub one_place : (bytes : List ℕ) (p q : ℕ) (a b : Record) → Spells bytes p a → Spells bytes q b → p ≡ q
one_place bytes p q a b h k = sym (place_read bytes p a h) ∙ place_read bytes q b k

-- an answer of a slot
pub entry_told : (image : List ℕ) (slot : ℕ) (content : Content) (result : Result (Option Entry) ScanFault)
    → IsContent image slot content → IsEntryOf slot content result
    → IfOk result (λ entry. IsEntry image slot entry)
entry_told image slot Closed result content is =
    subst (λ (r : Result (Option Entry) ScanFault). IfOk r (λ entry. IsEntry image slot entry)) (sym is) content
entry_told image slot Unread result content is =
    subst (λ (r : Result (Option Entry) ScanFault). IfOk r (λ entry. IsEntry image slot entry)) (sym is) tt
entry_told image slot (Filled at found) result content (inl (own, is)) =
    subst (λ (r : Result (Option Entry) ScanFault). IfOk r (λ entry. IsEntry image slot entry)) (sym is)
    (found, content, refl, own)
entry_told image slot (Filled at found) result content (inr (other, is)) =
    subst (λ (r : Result (Option Entry) ScanFault). IfOk r (λ entry. IsEntry image slot entry)) (sym is) tt

-- a bad slot
pub bad_told : (image : List ℕ) (slot : ℕ) (content : Content) (result : Result (Option Entry) ScanFault)
    (fault : ScanFault) → IsContent image slot content → IsEntryOf slot content result
    → result ≡ Err fault → IsBad image slot × (fault ≡ BadSlot slot)
bad_told image slot Closed result fault content is err =
    let no : ◌≡◌ {A = Result (Option Entry) ScanFault} (Ok None) (Err fault) = sym is ∙ err in absurd cc
bad_told image slot Unread result fault content is err =
    (record { opened = content.0; none = λ place it holds. absurd (content.1 place it holds.spells) }, same)
  where
    same : fault ≡ BadSlot slot
    same = let e : ◌≡◌ {A = Result (Option Entry) ScanFault} (Err (BadSlot slot)) (Err fault) = sym is ∙ err in cc
bad_told image slot (Filled at found) result fault content (inl (own, is)) err =
    let no : ◌≡◌ {A = Result (Option Entry) ScanFault} (Ok (Some (record { place = at; number = found.number })))
    (Err fault) = sym is ∙ err in absurd cc
bad_told image slot (Filled at found) result fault content (inr (other, is)) err = (
  record {
    opened = content.opened;
    none = λ place it holds own.
        other (ap slot_of (one_place (behind_gate image slot) at place found it content.spells holds.spells) ∙ own);
  },
  same,
)
  where
    same : fault ≡ BadSlot slot
    same = let e : ◌≡◌ {A = Result (Option Entry) ScanFault} (Err (BadSlot slot)) (Err fault) = sym is ∙ err in cc

-- a slot with an entry isn't bad
pub not_bad : (image : List ℕ) (slot : ℕ) (entry : Option Entry) → IsEntry image slot entry → ¬ IsBad image slot
not_bad image slot None shut bad = shut bad.opened
not_bad image slot (Some entry) (it, holds, number_is, own) bad = bad.none entry.place it holds own

-- a fault that is told by what a slot holds
pub fault_is : (slot : ℕ) (content : Content) (result : Result (Option Entry) ScanFault) (fault : ScanFault)
    → IsEntryOf slot content result → result ≡ Err fault → fault ≡ BadSlot slot
fault_is slot Closed result fault is err = let no : ◌≡◌ {A = Result (Option Entry) ScanFault} (Ok None) (Err fault) =
    sym is ∙ err in absurd cc
fault_is slot Unread result fault is err =
    let e : ◌≡◌ {A = Result (Option Entry) ScanFault} (Err (BadSlot slot)) (Err fault) = sym is ∙ err in cc
fault_is slot (Filled at found) result fault (inl (own, is)) err =
    let no : ◌≡◌ {A = Result (Option Entry) ScanFault} (Ok (Some (record { place = at; number = found.number })))
    (Err fault) = sym is ∙ err in absurd cc
fault_is slot (Filled at found) result fault (inr (other, is)) err =
    let e : ◌≡◌ {A = Result (Option Entry) ScanFault} (Err (BadSlot slot)) (Err fault) = sym is ∙ err in cc

same_slot : (a b : ℕ) → ◌≡◌ {A = ScanFault} (BadSlot a) (BadSlot b) → a ≡ b
same_slot a b e = cc

pub bad_is : (image : List ℕ) (slot other : ℕ) (told : Type 0) (content : Content)
    (result : Result (Option Entry) ScanFault) → (told → IsContent image slot content) → IsEntryOf slot content result
    → result ≡ Err (BadSlot other) → (other ≡ slot) × (told → IsBad image slot)
bad_is image slot other told content result is_content is err = (
  same_slot other slot (fault_is slot content result (BadSlot other) is err),
  λ tells. (bad_told image slot content result (BadSlot other) (is_content tells) is err).0,
)

pub not_failed : (slot : ℕ) (content : Content) (result : Result (Option Entry) ScanFault)
    → IsEntryOf slot content result → ¬ (result ≡ Err DeviceFailed)
not_failed slot content result is err = let e : ◌≡◌ {A = ScanFault} DeviceFailed (BadSlot slot) =
    fault_is slot content result DeviceFailed is err in absurd cc

-- the bytes of a slot that were read
module _ (image bytes : List ℕ) (slot : ℕ) (read : bytes ≡ take 512 (drop (slot_at slot) image)) where
  gate_read : get_or bytes 0 0 ≡ get_or image (slot_at slot) 0
  gate_read = ap (λ (b : List ℕ). get_or b 0 0) read ∙ get_or-take 512 (drop (slot_at slot) image) 0 0 (omega arith)
      ∙ get_or-drop (slot_at slot) image 0 0
      ∙ ap (λ (place : ℕ). get_or image place 0) (let e : slot_at slot + 0 ≡ slot_at slot = omega arith in e)

  behind_read : drop 1 bytes ≡ behind_gate image slot
  behind_read = ap (drop 1) read ∙ drop-take 1 511 (drop (slot_at slot) image) ∙ ap (take 511) (drop_more (slot_at slot)
      image ∙ ap (λ (n : ℕ). drop n image) (let e : suc (slot_at slot) ≡ slot_at slot + 1 = omega arith in e))

  pub content_read : (content : Content) → IsContentOf bytes content → IsContent image slot content
  content_read Closed shut = λ opened. shut (gate_read ∙ opened)
  content_read Unread is = (
    sym gate_read ∙ is.0,
    λ place it spells. is.1 place it (subst (λ (b : List ℕ). Spells b place it) (sym behind_read) spells),
  )
  content_read (Filled at found) is =
      record { opened = sym gate_read ∙ is.0; spells = subst (λ (b : List ℕ). Spells b at found) behind_read is.1 }

-- one slot more is known
pub entries_more : (image : List ℕ) (entries : List (Option Entry)) (n : ℕ) (entry : Option Entry) → n < length entries
    → ((slot : ℕ) → slot < n → IsEntry image slot (get_or entries slot None)) → IsEntry image n entry
    → (slot : ℕ) → slot < n + 1 → IsEntry image slot (get_or (set entries n entry) slot None)
entries_more image entries n entry fits known is slot small = elim (cases_eq slot n) [
  | inl same ↦ subst (λ (s : ℕ). IsEntry image s (get_or (set entries n entry) s None)) (sym same)
      (subst (IsEntry image n) (sym (get_or-set_same entries n entry None fits)) is)
  | inr other ↦ subst (IsEntry image slot) (sym (get_or-set_other entries n slot entry None other))
      (known slot (omega (arith, small, other)))
]

-- the first bad slot is the lowest
pub lowest_told : (old now : List ℕ) (slot n : ℕ) (entries : List (Option Entry)) → slot ≡ n → n < 256 → now ≡ old
    → IsBad now n → ((k : ℕ) → k < n → IsEntry old k (get_or entries k None)) → IsLowestBad old slot
lowest_told old now slot n entries is small same bad known = record {
  small = omega (arith, is, small);
  bad = subst (λ (i : List ℕ). IsBad i slot) same (subst (IsBad now) (sym is) bad);
  lowest = λ lower below. not_bad old lower (get_or entries lower None) (known lower (omega (arith, below, is)));
}

-- one fault of two answers
pub err_same : (A B : Type 0) (fault other : ScanFault) → ◌≡◌ {A = Result A ScanFault} (Err fault) (Err other)
    → ◌≡◌ {A = Result B ScanFault} (Err fault) (Err other)
err_same A B fault other e = ap Err same
  where
    same : fault ≡ other
    same = cc

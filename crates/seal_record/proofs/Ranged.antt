-- Parameters and seals that bytes give, if they are in their ranges.
use Rattle.{std.specs.Str.{bytes_eq}, taxi_units.specs.Reading.{GivesSame}, seal_record.specs.Decoding.{decoded, reads}}
use Rattle.std.proofs.Common.{ℕ, ℤ, ◌↔◌, ◌∙◌, ◌≡◌, Bool, Decides, List, MatchOption, None, Option, Some, ap, false}
use Rattle.std.proofs.{Common.{if◌then◌else◌, refl, subst, sym, true}, lemmas.Bool.{false_from_ne_true}}
use Rattle.slot_bodies.proofs.Laws.{not_in_range, other_bytes, own_bytes, reads_exactly}
use Rattle.seal_record.specs.{Common.{Gives, IsOffsetList, Params}, OffsetList.{is_offset_list, offsets_test}}
use Rattle.seal_record.specs.{RangeTests.{seal_test, taxi_test}, Ranges.{IsSeal, IsTaxi}, declared.seal.Seal.{Seal}}
use Rattle.seal_record.specs.{SealLaws.{again}, Spelling.{spelling}, Values.{taxi_read}}

-- what is found if a test lets something through
by_test : {R A : Type 0} (view : R → A) (P : A → Type 0) (found : Option R) (x : A) (b : Bool) → Decides b (P x)
    → Gives view found (if b then Some x else None) → MatchOption found (¬ (P x)) (λ y. (view y ≡ x) × P (view y))
by_test view P (Some y) x true decides given = let same : view y ≡ x = cc in (same, subst P (sym same) (decides.0 refl))
by_test view P (Some y) x false decides given = absurd cc
by_test view P None x true decides given = absurd cc
by_test view P None x false decides given = λ is. absurd (let e : false ≡ true = decides.1 is in cc)

pub taxi_by : {R : Type 0} (view : R → List ℕ) (found : Option R) (text : List ℕ) → Gives view found (taxi_read text)
    → MatchOption found (¬ (IsTaxi text)) (λ taxi. (view taxi ≡ text) × IsTaxi (view taxi))
taxi_by view found text given = by_test view IsTaxi found text (taxi_test text).passes (taxi_test text).decides given

gives_same : {A : Type 0} (found read : Option A) → found ≡ read → GivesSame found read
gives_same (Some x) read is = sym is
gives_same None read is = sym is

pub offsets_by : (found : Option (List (ℕ × ℤ))) (pairs list : List (ℕ × ℤ)) → pairs ≡ list
    → found ≡ (if is_offset_list pairs then Some pairs else None)
    → MatchOption found (¬ (IsOffsetList list)) (λ offsets. (offsets ≡ list) × IsOffsetList offsets)
offsets_by found pairs list same given =
    by_test (λ (xs : List (ℕ × ℤ)). xs) IsOffsetList found list (is_offset_list list) (offsets_test list).decides
    (gives_same found (if is_offset_list list then Some list else None)
    (given ∙ ap (λ (xs : List (ℕ × ℤ)). if is_offset_list xs then Some xs else None) same))

-- parameters with the same fields
pub same_params : (a b : Params) → a.taxi.items ≡ b.taxi.items → a.constant ≡ b.constant → a.mode ≡ b.mode
    → a.hold_time ≡ b.hold_time → a.offsets ≡ b.offsets → a.secured ≡ b.secured → a ≡ b
same_params a b taxi constant mode hold_time offsets secured = λ i. record {
  taxi = record { items = taxi i };
  constant = constant i;
  mode = mode i;
  hold_time = hold_time i;
  offsets = offsets i;
  secured = secured i;
}

-- bytes whose fields are out of their ranges aren't read
pub read_none : (bytes : List ℕ) → ¬ (IsSeal (decoded bytes)) → reads bytes ≡ None
unfolding reads
read_none bytes none = not_in_range seal_test spelling decoded bytes
    (false_from_ne_true (seal_test (decoded bytes)).passes
    (λ passes. none ((seal_test (decoded bytes)).decides.0 passes)))

-- what the bytes of a seal in its ranges are read as, if another spelling was found, and if their own
pub read_other : (bytes shown : List ℕ) (seal : Seal) (same : Bool) → seal ≡ decoded bytes → shown ≡ spelling seal
    → same ≡ bytes_eq shown bytes → same ≡ false → reads bytes ≡ None
unfolding reads
read_other bytes shown seal same is spelled test other = other_bytes seal_test spelling decoded bytes
    (ap (λ (xs : List ℕ). bytes_eq xs bytes) (sym (spelled ∙ ap spelling is)) ∙ sym test ∙ other)

pub read_own : (bytes shown : List ℕ) (seal : Seal) (same : Bool) → seal ≡ decoded bytes → IsSeal seal
    → shown ≡ spelling seal → same ≡ bytes_eq shown bytes → same ≡ true → reads bytes ≡ Some seal
unfolding reads
read_own bytes shown seal same is valid spelled test own =
    own_bytes seal_test spelling decoded bytes ((seal_test (decoded bytes)).decides.1 (subst IsSeal is valid))
    (ap (λ (xs : List ℕ). bytes_eq xs bytes) (sym (spelled ∙ ap spelling is)) ∙ sym test ∙ own)
    ∙ ap (λ (s : Seal). Some s) (sym is)

-- bytes are read as a seal exactly if it is in its ranges and the bytes are its spelling
pub seals_are_read_by_their_table : (bytes : List ℕ) (seal : Seal)
    → (reads bytes ≡ Some seal) ↔ (IsSeal seal × (bytes ≡ spelling seal))
unfolding reads
seals_are_read_by_their_table bytes seal = reads_exactly seal_test spelling decoded again bytes seal

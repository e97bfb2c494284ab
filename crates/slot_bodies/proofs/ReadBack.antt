-- What bytes are read as: the value that is in its ranges and spells them.
use Rattle.std.{specs.Str.{bytes_eq}, proofs.{Common.{refl, subst, sym, true}, lemmas.Slice.Eq.{bytes_eq-Decides}}}
use Rattle.std.proofs.Common.{ℕ, ◌&&◌, ◌↔◌, ◌∙◌, ◌≡◌, Bool, List, None, Option, Some, ap, false, if◌then◌else◌, length}
use Rattle.{taxi_units.specs.Test.{Test}, slot_bodies.specs.{Bodies.{AreBodies, body_size}, ReadBack.{read_back}}}

-- a value behind two tests that both passed is given
both_passed : {T : Type 0} (one two : Bool) (x : T) → one ≡ true → two ≡ true
    → (if one && two then Some x else None) ≡ Some x
both_passed one two x first second = rw first (rw second refl)

-- a value behind two tests isn't given if the first fails
first_failed : {T : Type 0} (one two : Bool) (x : T) → one ≡ false → (if one && two then Some x else None) ≡ None
first_failed one two x fails = rw fails refl

-- a value behind two tests isn't given if the second fails
second_failed : {T : Type 0} (one two : Bool) (x : T) → two ≡ false → (if one && two then Some x else None) ≡ None
second_failed true two x fails = rw fails refl
second_failed false two x fails = refl

-- a value that is given behind two tests has passed both
was_given : {T : Type 0} (one two : Bool) (x y : T) → (if one && two then Some x else None) ≡ Some y
    → (one ≡ true) × (two ≡ true) × (x ≡ y)
was_given true true x y is = (refl, refl, cc)
was_given true false x y is = absurd cc
was_given false two x y is = absurd cc

module _ {T : Type 0} (ranges : T → Test) (spelling : T → List ℕ) (found : List ℕ → T) where
  -- bytes in which a value stands that fails the test of its ranges aren't read
  pub not_in_range : (bytes : List ℕ) → (ranges (found bytes)).passes ≡ false
      → read_back ranges spelling found bytes ≡ None
  not_in_range bytes fails =
      first_failed (ranges (found bytes)).passes (bytes_eq (spelling (found bytes)) bytes) (found bytes) fails

  -- bytes that aren't those of the value that stands in them aren't read
  pub other_bytes : (bytes : List ℕ) → bytes_eq (spelling (found bytes)) bytes ≡ false
      → read_back ranges spelling found bytes ≡ None
  other_bytes bytes differs =
      second_failed (ranges (found bytes)).passes (bytes_eq (spelling (found bytes)) bytes) (found bytes) differs

  -- bytes of the value that stands in them are read as it if it passes the test of its ranges
  pub own_bytes : (bytes : List ℕ) → (ranges (found bytes)).passes ≡ true
      → bytes_eq (spelling (found bytes)) bytes ≡ true → read_back ranges spelling found bytes ≡ Some (found bytes)
  own_bytes bytes pass same =
      both_passed (ranges (found bytes)).passes (bytes_eq (spelling (found bytes)) bytes) (found bytes) pass same

  -- bytes are read as a value exactly if it is in its ranges and they are its own, if what is spelled is found again
  pub reads_exactly : ((x : T) → (ranges x).Fact → found (spelling x) ≡ x) → (bytes : List ℕ) (x : T)
      → (read_back ranges spelling found bytes ≡ Some x) ↔ ((ranges x).Fact × (bytes ≡ spelling x))
  reads_exactly again bytes x = (λ read. there read, λ is. back is.0 is.1)
    where
      there : read_back ranges spelling found bytes ≡ Some x → (ranges x).Fact × (bytes ≡ spelling x)
      there read =
          let y = found bytes in
          let tests = was_given (ranges y).passes (bytes_eq (spelling y) bytes) y x read in (
            subst (λ (z : T). (ranges z).Fact) tests.2 ((ranges y).decides.0 tests.0),
            sym ((bytes_eq-Decides (spelling y) bytes).0 tests.1) ∙ ap spelling tests.2,
          )

      back : (ranges x).Fact → bytes ≡ spelling x → read_back ranges spelling found bytes ≡ Some x
      back fact own =
          let same : found bytes ≡ x = ap found own ∙ again x fact in
          own_bytes bytes (ap (λ (z : T). (ranges z).passes) same ∙ (ranges x).decides.1 fact)
          ((bytes_eq-Decides (spelling (found bytes)) bytes).1 (ap spelling same ∙ sym own))
          ∙ ap {B = Option T} Some same

  -- values in their ranges are bodies, if each takes the bytes of a body and is found again
  pub bodies_of : ((x : T) → (ranges x).Fact → length (spelling x) ≡ body_size)
      → ((x : T) → (ranges x).Fact → found (spelling x) ≡ x)
      → AreBodies (λ x. (ranges x).Fact) spelling (read_back ranges spelling found)
  bodies_of long again = record {
    size = long;
    reads_it = λ x fact. (reads_exactly again (spelling x) x).1 (fact, refl);
    gives_valid = λ bytes x read. ((reads_exactly again bytes x).0 read).0;
    nothing_else = λ bytes x size small read. ((reads_exactly again bytes x).0 read).1;
  }

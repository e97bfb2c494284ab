-- Fields that are numbers.
use Rattle.std.{specs.Str.Parse.{AllDigits}, proofs.Common.{[], ℕ, ◌∷◌, ◌≡◌, ◌≢◌, List, Some, arith, length, refl}}
use Rattle.std.proofs.lemmas.{List.Elements.{All-cons, All-nil}, Str.Parse.{digit_from_value}}
use Rattle.{taxi_units.proofs.Laws.{figures_are_read_by_their_digits}, drive_text.specs.Common.{IsNumberIn, number_in}}
use Rattle.drive_text.specs.Lines.{HasNone}

-- digits are no blanks
pub digits_blankless : (ds : List ℕ) → AllDigits 10 ds → HasNone 32 ds
digits_blankless [] h = All-nil (λ b. b ≢ 32)
digits_blankless (d ∷ ds) h =
    let r = digit_from_value d h.0 in
    All-cons (λ b. b ≢ 32) d ds (λ e. omega arith) (digits_blankless ds h.1)

-- a field that is read as a number is one
pub number_sound : (low high : ℕ) (field : List ℕ) (n : ℕ) → number_in low high field ≡ Some n
    → IsNumberIn low high field n
number_sound low high field n e = (figures_are_read_by_their_digits 1 12 low high field n (omega arith)).0 e

-- and one that is a number is read so
pub number_complete : (low high : ℕ) (field : List ℕ) (n : ℕ) → IsNumberIn low high field n
    → number_in low high field ≡ Some n
number_complete low high field n h = (figures_are_read_by_their_digits 1 12 low high field n (omega arith)).1 h

-- a text without bytes is empty
pub no_bytes : (t : List ℕ) → length t ≡ 0 → t ≡ []
no_bytes [] e = refl
no_bytes (x ∷ xs) e = absurd (omega arith)

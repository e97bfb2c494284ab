-- The text of what a store was sealed with is read as the parameters of its seal.
use Rattle.std.{specs.Fmt.{decimal}, proofs.lemmas.{Fmt.{decimal_is_IsNumeral_wide}, Str.Parse.{digit_from_value}}}
use Rattle.std.specs.{List.{list_all}, Prelude.{Bool, codes, false, if◌then◌else◌, nat_lt, true}, Str.Parse.{AllDigits}}
use Rattle.std.proofs.Common.{[], ℕ, ◌%◌, ◌*◌, ◌++◌, ◌+◌, ◌/◌, ◌<◌, ◌^◌, ◌∷◌, ◌≡◌, ◌≤◌, All, List, Ok, arith, leb}
use Rattle.std.proofs.{Common.{length, length-append, map, refl}, lemmas.List.Elements.{All-append, All-cons, All-nil}}
use Rattle.taxi_units.{specs.Test.{at_most, each}, proofs.Laws.{numbers_are_short}}
use Rattle.{seal_record.specs.PlainText.{AreShown}, receipt_text.specs.Receipts.{hex_digit, hex_text}}
use Rattle.seal_record.{specs.Reading.{params_read}, proofs.Laws.{comments_are_passed_over, comments_make_it_longer}}
use Rattle.{call_ends.specs.LastLine.{numbered}, store_commands.specs.Common.{IsSeal, Seal, comment_line, ended_text}}
use Rattle.store_commands.specs.SealedText.{seal_comments, sealed_text}

abbrev IsShown : ℕ → Type 0
IsShown b = 32 ≤ b

-- ---- each byte of a comment is a blank or a visible character

digits_shown : (digits : List ℕ) → AllDigits 10 digits → AreShown digits
digits_shown [] all = All-nil IsShown
digits_shown (c ∷ cs) all =
    All-cons IsShown c cs (omega (arith, digit_from_value c all.0)) (digits_shown cs all.1)

number_shown : (n : ℕ) → n < 10 ^ 16 → AreShown (decimal n)
number_shown n small = digits_shown (decimal n) (decimal_is_IsNumeral_wide n (omega (arith, small))).0.1

digit_shown : (b : Bool) (n : ℕ) → 32 ≤ (if b then 48 + n else 87 + n)
digit_shown true n = omega arith
digit_shown false n = omega arith

hex_shown : (bytes : List ℕ) → AreShown (hex_text bytes)
unfolding hex_text
hex_shown [] = All-nil IsShown
hex_shown (byte ∷ bytes) =
    All-cons IsShown (hex_digit (byte / 16)) (hex_digit (byte % 16) ∷ hex_text bytes)
    (digit_shown (nat_lt (byte / 16) 10) (byte / 16))
    (All-cons IsShown (hex_digit (byte % 16)) (hex_text bytes) (digit_shown (nat_lt (byte % 16) 10) (byte % 16))
    (hex_shown bytes))

are_shown : (bytes : List ℕ) → list_all (leb 32) bytes ≡ true → AreShown bytes
are_shown bytes e = (each (at_most 32) bytes).decides.0 e

numbered_shown : (name : List ℕ) (n : ℕ) → list_all (leb 32) name ≡ true → n < 10 ^ 16 → AreShown (numbered name n)
numbered_shown name n e small =
    All-append IsShown name (codes " " ++ decimal n) (are_shown name e)
    (All-append IsShown (codes " ") (decimal n) (are_shown (codes " ") refl) (number_shown n small))

comments_shown : (seal : Seal) → IsSeal seal → All AreShown (seal_comments seal)
comments_shown seal is =
    let first = numbered (codes " SEAL") seal.seal_number in
    let second = numbered (codes " DECIMALS") seal.decimals in
    let third = codes " TARIFF " ++ hex_text seal.digest in
    All-cons AreShown first (second ∷ third ∷ [])
    (numbered_shown (codes " SEAL") seal.seal_number refl (omega (arith, is.seal_number.1)))
    (All-cons AreShown second (third ∷ [])
    (numbered_shown (codes " DECIMALS") seal.decimals refl (omega (arith, is.decimals)))
    (All-cons AreShown third []
    (All-append IsShown (codes " TARIFF ") (hex_text seal.digest) (are_shown (codes " TARIFF ") refl)
    (hex_shown seal.digest))
    (All-nil AreShown)))

-- ---- the comments are short

hex_length : (bytes : List ℕ) → length (hex_text bytes) ≡ 2 * length bytes
unfolding hex_text
hex_length [] = refl
hex_length (byte ∷ bytes) = omega (arith, hex_length bytes)

ended_length : (a b c : List ℕ) → length (ended_text (a ∷ b ∷ c ∷ [])) ≡ length a + length b + length c + 3
ended_length a b c =
    omega (
      arith,
      length-append (a ++ 10 ∷ []) ((b ++ 10 ∷ []) ++ ((c ++ 10 ∷ []) ++ [])),
      length-append (b ++ 10 ∷ []) ((c ++ 10 ∷ []) ++ []),
      length-append (c ++ 10 ∷ []) [],
      length-append a (10 ∷ []),
      length-append b (10 ∷ []),
      length-append c (10 ∷ []),
    )

comments_short : (seal : Seal) → IsSeal seal → length (ended_text (map comment_line (seal_comments seal))) ≤ 200
comments_short seal is =
    omega (
      arith,
      ended_length (comment_line (numbered (codes " SEAL") seal.seal_number))
          (comment_line (numbered (codes " DECIMALS") seal.decimals))
          (comment_line (codes " TARIFF " ++ hex_text seal.digest)),
      numbers_are_short 16 seal.seal_number (omega arith) (omega arith) (omega (arith, is.seal_number.1)),
      numbers_are_short 1 seal.decimals (omega arith) (omega arith) (omega (arith, is.decimals)),
      hex_length seal.digest,
      is.digest,
    )

pub sealed_again : (seal : Seal) → IsSeal seal → params_read (sealed_text seal) ≡ Ok seal.params
sealed_again seal is =
    comments_are_passed_over (seal_comments seal) seal.params is.params (comments_shown seal is)
    (omega (arith, comments_make_it_longer (seal_comments seal) seal.params is.params, comments_short seal is))

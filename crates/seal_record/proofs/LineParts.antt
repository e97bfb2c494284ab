-- A text is parted into lines, and a line into key and value.
use Rattle.{std.specs.List.{slice_split}, seal_record.specs.Lines.{before, key_in, lines_of, value_in, without_ends}}
use Rattle.std.{specs.Str.Lines.{strip_carriage_return}, proofs.lemmas.List.Elements.{All-head, All-tail}}
use Rattle.std.proofs.Common.{[], ℕ, ◌++◌, ◌<◌, ◌∙◌, ◌∷◌, ◌≡◌, ◌≢◌, All, List, ap, arith, eqb, false, length, refl}
use Rattle.std.proofs.lemmas.{Bool.{eq-eqb, ne_eqb}, List.Splits.{length-slice_split, slice_split_at, slice_split_none}}
use Rattle.seal_record.specs.TextParts.{HasNone}

-- no test for this byte holds
none_tests : (byte : ℕ) (bytes : List ℕ) → HasNone byte bytes → All (λ b. eqb b byte ≡ false) bytes
none_tests byte bytes none = λ k d lt. ne_eqb _ byte (none k d lt)

-- an LF ends a line
ended_by : (line : List ℕ) (parts : List (List ℕ)) → 0 < length parts
    → without_ends (line ∷ parts) ≡ strip_carriage_return line ∷ without_ends parts
ended_by line [] some = absurd (omega arith)
ended_by line (next ∷ parts) some = refl

pub ended_line : (line rest : List ℕ) → HasNone 10 line
    → lines_of (line ++ 10 ∷ rest) ≡ strip_carriage_return line ∷ lines_of rest
ended_line line rest none =
    ap without_ends (slice_split_at (λ b. eqb b 10) line 10 rest (none_tests 10 line none) refl)
    ∙ ended_by line (slice_split (λ b. eqb b 10) rest) (omega (arith, length-slice_split (λ b. eqb b 10) rest))

-- and the last line is what has no LF
pub last_line : (line : List ℕ) → HasNone 10 line → lines_of line ≡ line ∷ []
last_line line none = ap without_ends (slice_split_none (λ b. eqb b 10) line (none_tests 10 line none))

-- the key and the value round the first blank
pub before_byte : (byte : ℕ) (front rest : List ℕ) → HasNone byte front → before byte (front ++ byte ∷ rest) ≡ front
before_byte byte [] rest none = rw (eq-eqb byte byte refl) refl
before_byte byte (c ∷ cs) rest none =
    rw (ne_eqb c byte (All-head (λ b. b ≢ byte) c cs none))
    (ap (λ (xs : List ℕ). c ∷ xs) (before_byte byte cs rest (All-tail (λ b. b ≢ byte) c cs none)))

pub key_before : (key value : List ℕ) → HasNone 32 key → key_in (key ++ 32 ∷ value) ≡ key
key_before key value none = before_byte 32 key value none

pub value_after : (key value : List ℕ) → HasNone 32 key → value_in (key ++ 32 ∷ value) ≡ value
value_after [] value none = refl
value_after (c ∷ cs) value none =
    rw (ne_eqb c 32 (All-head (λ b. b ≢ 32) c cs none)) (value_after cs value (All-tail (λ b. b ≢ 32) c cs none))

-- a line without a blank is its key
pub before_none : (byte : ℕ) (bytes : List ℕ) → HasNone byte bytes → before byte bytes ≡ bytes
before_none byte [] none = refl
before_none byte (c ∷ cs) none =
    rw (ne_eqb c byte (All-head (λ b. b ≢ byte) c cs none))
    (ap (λ (xs : List ℕ). c ∷ xs) (before_none byte cs (All-tail (λ b. b ≢ byte) c cs none)))

pub key_alone : (key : List ℕ) → HasNone 32 key → key_in key ≡ key
key_alone key none = before_none 32 key none

pub no_value : (key : List ℕ) → HasNone 32 key → value_in key ≡ []
no_value [] none = refl
no_value (c ∷ cs) none =
    rw (ne_eqb c 32 (All-head (λ b. b ≢ 32) c cs none)) (no_value cs (All-tail (λ b. b ≢ 32) c cs none))

-- the key and the value of a line that has a blank, and of one that has none
pub ruleset key_and_value_of_line = (key_before, value_after, key_alone, no_value)

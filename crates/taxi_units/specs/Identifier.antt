-- Rules: the characters of which the names of taxis and of drivers consist.
use Rattle.std.specs.Prelude.{ℕ, ◌&&◌, ◌==◌, ◌||◌, ◌≡◌, ◌≤◌, ◌⊎◌, Bool, nat_le}

-- a byte is a character of identifiers, of taxis and of drivers, if it is one of A to Z, of 0 to 9, or -
abbrev pub IsIdentifierCharacter : ℕ → Type 0
IsIdentifierCharacter c = ((65 ≤ c) × (c ≤ 90)) ⊎ (((48 ≤ c) × (c ≤ 57)) ⊎ (c ≡ 45))

-- the test `is_identifier_character` is true if a byte is a character of identifiers
abbrev pub is_identifier_character : ℕ → Bool
is_identifier_character c = (nat_le 65 c && nat_le c 90) || ((nat_le 48 c && nat_le c 57) || (c == 45))

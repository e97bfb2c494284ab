-- For proofs: tables of bytes as values that are made of parts. What is spelled is read again, and the laws of a table
-- follow from those of its parts. A place counts from 0, and numbers have their greatest byte first.
use Rattle.std.{specs.Int.{from_be_bytes, to_be_bytes, w16, w32, w64}, proofs.lemmas.List.Elements.{All-head, All-tail}}
use Rattle.std.specs.Prelude.{[], ℕ, ⊤, ◌%◌, ◌*◌, ◌++◌, ◌+◌, ◌-◌, ◌/◌, ◌<◌, ◌==◌, ◌^◌, ◌∷◌, ◌≡◌, ◌≤◌, All, IfSome, List}
use Rattle.std.specs.Prelude.{None, Option, Some, drop, flat_map, get_or, if◌then◌else◌, length, replicate, suc, take}
use Rattle.std.{specs.Prelude.{zero}, proofs.lemmas.Nat.{from_be_bytes-to_be_bytes_8, mod_below, shr_split}}
use Rattle.std.proofs.Common.{◌∙◌, add-sub_of_le, ap, append_assoc, length-append, pow_pos, refl, subst, sym}
use Rattle.std.proofs.Math.Seq.{drop-append_seam, get_or-append_seam, take-append_seam}
use Rattle.{std.proofs.lemmas.List.{length-replicate}, slot_bodies.specs.BytesAt.{byte_at, eight_at, four_at, two_at}}
use Rattle.std.proofs.lemmas.Nat.{div_below, from_be_bytes-to_be_bytes_2, from_be_bytes-to_be_bytes_4}
use Rattle.slot_bodies.specs.Bodies.{padded}

-- a codec has the size of a value in bytes, the bytes of each value, the value that is read from a place on, and which
-- values fit; a value that fits has that size, and is read again wherever its bytes stand
pub record Codec (A : Type 0) : Type 1 where
  pub size : ℕ
  pub spell : A → List ℕ
  pub read : List ℕ → ℕ → A
  pub Fits : A → Type 0
  pub long : (a : A) → Fits a → length (spell a) ≡ size
  pub again : (a : A) (before rest : List ℕ) (place : ℕ) → Fits a → length before ≡ place
      → read (before ++ (spell a ++ rest)) place ≡ a

-- ---- what stands at a place

-- what is left behind some bytes is what stands behind them
pub behind : (before after : List ℕ) (place : ℕ) → length before ≡ place → drop place (before ++ after) ≡ after
behind before after place at = subst (λ (n : ℕ). drop n (before ++ after) ≡ after) at (drop-append_seam before after)

-- the byte behind some bytes is the first that stands behind them
pub byte_behind : (before : List ℕ) (byte : ℕ) (after : List ℕ) (place : ℕ) → length before ≡ place
    → byte_at (before ++ byte ∷ after) place ≡ byte
byte_behind before byte after place at =
    subst (λ (n : ℕ). get_or (before ++ byte ∷ after) n 0 ≡ byte) at (get_or-append_seam before byte after 0)

-- the first `k` of `k` bytes with more behind them are these bytes
pub front : (k : ℕ) (bytes after : List ℕ) → length bytes ≡ k → take k (bytes ++ after) ≡ bytes
front k bytes after long = subst (λ (n : ℕ). take n (bytes ++ after) ≡ bytes) long (take-append_seam bytes after)

-- bytes behind a first part stand behind what is before it and the part
pub apart : (before first second rest : List ℕ)
    → before ++ ((first ++ second) ++ rest) ≡ (before ++ first) ++ (second ++ rest)
apart before first second rest =
    ap (λ (l : List ℕ). before ++ l) (append_assoc first second rest)
    ∙ sym (append_assoc before first (second ++ rest))

-- ---- bytes and numbers

-- one byte is a number
abbrev pub byte : Codec ℕ
byte = record {
  size = 1;
  spell = λ n. n ∷ [];
  read = λ bytes place. byte_at bytes place;
  Fits = λ n. ⊤;
  long = λ n fits. refl;
  again = λ n before rest place fits at. byte_behind before n rest place at;
}

-- two bytes are a number
abbrev pub two_bytes : Codec ℕ
two_bytes = record {
  size = 2;
  spell = λ n. to_be_bytes w16 n;
  read = λ bytes place. two_at bytes place;
  Fits = λ n. n < 2 ^ 16;
  long = λ n fits. refl;
  again = λ n before rest place fits at.
      ap (λ (l : List ℕ). from_be_bytes w16 (take 2 l)) (behind before (to_be_bytes w16 n ++ rest) place at)
      ∙ from_be_bytes-to_be_bytes_2 n fits;
}

-- four bytes are a number
abbrev pub four_bytes : Codec ℕ
four_bytes = record {
  size = 4;
  spell = λ n. to_be_bytes w32 n;
  read = λ bytes place. four_at bytes place;
  Fits = λ n. n < 2 ^ 32;
  long = λ n fits. refl;
  again = λ n before rest place fits at.
      ap (λ (l : List ℕ). from_be_bytes w32 (take 4 l)) (behind before (to_be_bytes w32 n ++ rest) place at)
      ∙ from_be_bytes-to_be_bytes_4 n fits;
}

-- eight bytes are a number
abbrev pub eight_bytes : Codec ℕ
eight_bytes = record {
  size = 8;
  spell = λ n. to_be_bytes w64 n;
  read = λ bytes place. eight_at bytes place;
  Fits = λ n. n < 2 ^ 64;
  long = λ n fits. refl;
  again = λ n before rest place fits at.
      ap (λ (l : List ℕ). from_be_bytes w64 (take 8 l)) (behind before (to_be_bytes w64 n ++ rest) place at)
      ∙ from_be_bytes-to_be_bytes_8 n fits;
}

-- `k` bytes stand as they are
abbrev pub bytes : ℕ → Codec (List ℕ)
bytes k = record {
  size = k;
  spell = λ part. part;
  read = λ all place. take k (drop place all);
  Fits = λ part. length part ≡ k;
  long = λ part fits. fits;
  again = λ part before rest place fits at.
      ap (λ (l : List ℕ). take k l) (behind before (part ++ rest) place at) ∙ front k part rest fits;
}

-- `k` zeros say nothing
abbrev pub zeros : ℕ → Codec ⊤
zeros k = record {
  size = k;
  spell = λ _. replicate k 0;
  read = λ _ _. tt;
  Fits = λ _. ⊤;
  long = λ _ _. length-replicate k 0;
  again = λ _ _ _ _ _ _. refl;
}

-- one byte that is always the same says nothing
abbrev pub always : ℕ → Codec ⊤
always n = record {
  size = 1;
  spell = λ _. n ∷ [];
  read = λ _ _. tt;
  Fits = λ _. ⊤;
  long = λ _ _. refl;
  again = λ _ _ _ _ _ _. refl;
}

-- ---- two values, and values by way of others

-- two values that stand one after the other are read again
pub pair_again : {A B : Type 0} (one : Codec A) (two : Codec B) (a : A) (b : B) (before rest : List ℕ) (place : ℕ)
    → one.Fits a → two.Fits b → length before ≡ place
    → (one.read (before ++ ((one.spell a ++ two.spell b) ++ rest)) place ≡ a)
    × (two.read (before ++ ((one.spell a ++ two.spell b) ++ rest)) (place + one.size) ≡ b)
pair_again one two a b before rest place fits_one fits_two at = (
  ap (λ (l : List ℕ). one.read (before ++ l) place) (append_assoc (one.spell a) (two.spell b) rest)
      ∙ one.again a before (two.spell b ++ rest) place fits_one at,
  ap (λ (l : List ℕ). two.read l (place + one.size)) (apart before (one.spell a) (two.spell b) rest)
      ∙ two.again b (before ++ one.spell a) rest (place + one.size) fits_two
      (length-append before (one.spell a) ∙ (λ i. at i + one.long a fits_one i)),
)

infixr 20 ◌⊗◌
-- two values stand one after the other
abbrev pub ◌⊗◌ : {A B : Type 0} → Codec A → Codec B → Codec (A × B)
one ⊗ two = record {
  size = one.size + two.size;
  spell = λ both. one.spell both.0 ++ two.spell both.1;
  read = λ bytes place. (one.read bytes place, two.read bytes (place + one.size));
  Fits = λ both. one.Fits both.0 × two.Fits both.1;
  long = λ both fits. length-append (one.spell both.0) (two.spell both.1)
      ∙ (λ i. one.long both.0 fits.0 i + two.long both.1 fits.1 i);
  again = λ both before rest place fits at.
      let found = pair_again one two both.0 both.1 before rest place fits.0 fits.1 at in
      λ i. (found.0 i, found.1 i);
}

infixr 20 ◌⊙◌
-- two values, as the codec of both has them
abbrev pub ◌⊙◌ : {A B : Type 0} → A → B → A × B
a ⊙ b = (a, b)

-- a value stands as another one from which it can be made again
abbrev pub made : {A B : Type 0} → Codec A → (B → A) → (A → B) → Codec B
made codec to from = record {
  size = codec.size;
  spell = λ value. codec.spell (to value);
  read = λ bytes place. from (codec.read bytes place);
  Fits = λ value. codec.Fits (to value) × (from (to value) ≡ value);
  long = λ value fits. codec.long (to value) fits.0;
  again = λ value before rest place fits at. ap from (codec.again (to value) before rest place fits.0 at) ∙ fits.1;
}

-- the same bytes, with another name for the values that fit
abbrev pub fitting : {A : Type 0} → (Fits : A → Type 0) → (codec : Codec A) → ((a : A) → Fits a → codec.Fits a)
    → Codec A
fitting Fits codec sound = record {
  size = codec.size;
  spell = codec.spell;
  read = codec.read;
  Fits = Fits;
  long = λ a fits. codec.long a (sound a fits);
  again = λ a before rest place fits at. codec.again a before rest place (sound a fits) at;
}

-- sixteen bytes are a number: the first eight have the quotient by 2^64, and the others the remainder
abbrev pub sixteen_bytes : Codec ℕ
sixteen_bytes = fitting (λ (n : ℕ). n < 2 ^ 128)
    (made (eight_bytes ⊗ eight_bytes) (λ (n : ℕ). (n / 2 ^ 64, n % 2 ^ 64))
    (λ (halves : ℕ × ℕ). halves.0 * 2 ^ 64 + halves.1))
    (λ n fits. (
      (div_below n (2 ^ 64) (2 ^ 64) (pow_pos 64) fits, mod_below n (2 ^ 64) (pow_pos 64)),
      shr_split n 64,
    ))

-- ---- what is there only if a number says so

-- the bytes of what may be there: 1 and its own, or zeros
abbrev pub spell_optional : {A : Type 0} → Codec A → Option A → List ℕ
spell_optional codec None = 0 ∷ replicate codec.size 0
spell_optional codec (Some a) = 1 ∷ codec.spell a

-- what may be there, by the byte that stands before it
abbrev pub read_optional : {A : Type 0} → Codec A → ℕ → List ℕ → ℕ → Option A
read_optional codec first bytes place = if first == 1 then Some (codec.read bytes (place + 1)) else None

-- whether it is there or not, it takes the same number of bytes
pub optional_long : {A : Type 0} (codec : Codec A) (found : Option A) → IfSome found codec.Fits
    → length (spell_optional codec found) ≡ suc codec.size
optional_long codec None fits = ap suc (length-replicate codec.size 0)
optional_long codec (Some a) fits = ap suc (codec.long a fits)

-- what may be there is read again
pub optional_again : {A : Type 0} (codec : Codec A) (found : Option A) (before rest : List ℕ) (place : ℕ)
    → IfSome found codec.Fits → length before ≡ place
    → read_optional codec (byte_at (before ++ (spell_optional codec found ++ rest)) place)
    (before ++ (spell_optional codec found ++ rest)) place ≡ found
optional_again codec None before rest place fits at =
    ap (λ (n : ℕ). read_optional codec n (before ++ 0 ∷ (replicate codec.size 0 ++ rest)) place)
    (byte_behind before 0 (replicate codec.size 0 ++ rest) place at)
optional_again codec (Some a) before rest place fits at =
    ap (λ (n : ℕ). read_optional codec n (before ++ 1 ∷ (codec.spell a ++ rest)) place)
    (byte_behind before 1 (codec.spell a ++ rest) place at)
    ∙ ap Some
    (ap (λ (l : List ℕ). codec.read l (place + 1)) (sym (append_assoc before (1 ∷ []) (codec.spell a ++ rest)))
    ∙ codec.again a (before ++ 1 ∷ []) rest (place + 1) fits
    (length-append before (1 ∷ []) ∙ ap (λ (n : ℕ). n + 1) at))

-- a value is there if the byte before it is 1, and else zeros stand in its place
abbrev pub optional : {A : Type 0} → Codec A → Codec (Option A)
optional codec = record {
  size = suc codec.size;
  spell = spell_optional codec;
  read = λ bytes place. read_optional codec (byte_at bytes place) bytes place;
  Fits = λ found. IfSome found codec.Fits;
  long = optional_long codec;
  again = optional_again codec;
}

-- ---- lists

-- the values of a row stand one after another
abbrev pub read_row : {A : Type 0} → Codec A → ℕ → List ℕ → ℕ → List A
read_row codec zero bytes place = []
read_row codec (suc n) bytes place = codec.read bytes place ∷ read_row codec n bytes (place + codec.size)

-- how many bytes a row takes
abbrev pub row_size : ℕ → ℕ → ℕ
row_size zero size = 0
row_size (suc n) size = size + row_size n size

-- a row takes its bytes for each of its values
pub row_long : {A : Type 0} (codec : Codec A) (row : List A) → All codec.Fits row
    → length (flat_map codec.spell row) ≡ row_size (length row) codec.size
row_long codec [] fits = refl
row_long codec (a ∷ others) fits =
    length-append (codec.spell a) (flat_map codec.spell others)
    ∙ (λ i. codec.long a (All-head codec.Fits a others fits) i
    + row_long codec others (All-tail codec.Fits a others fits) i)

-- a row is read again
pub row_again : {A : Type 0} (codec : Codec A) (row : List A) (before rest : List ℕ) (place : ℕ) → All codec.Fits row
    → length before ≡ place → read_row codec (length row) (before ++ (flat_map codec.spell row ++ rest)) place ≡ row
row_again codec [] before rest place fits at = refl
row_again codec (a ∷ others) before rest place fits at =
    let first = codec.spell a in
    let more = flat_map codec.spell others in
    let fits_first = All-head codec.Fits a others fits in
    let here = ap (λ (l : List ℕ). codec.read (before ++ l) place) (append_assoc first more rest)
    ∙ codec.again a before (more ++ rest) place fits_first at in
    let there =
    ap (λ (l : List ℕ). read_row codec (length others) l (place + codec.size)) (apart before first more rest)
    ∙ row_again codec others (before ++ first) rest (place + codec.size) (All-tail codec.Fits a others fits)
    (length-append before first ∙ (λ i. at i + codec.long a fits_first i)) in
    λ i. here i ∷ there i

-- `n` values stand one after another
abbrev pub row : {A : Type 0} → ℕ → Codec A → Codec (List A)
row n codec = record {
  size = row_size n codec.size;
  spell = flat_map codec.spell;
  read = read_row codec n;
  Fits = λ values. (length values ≡ n) × All codec.Fits values;
  long = λ values fits. row_long codec values fits.1 ∙ ap (λ (k : ℕ). row_size k codec.size) fits.0;
  again = λ values before rest place fits at.
      ap (λ (k : ℕ). read_row codec k (before ++ (flat_map codec.spell values ++ rest)) place) (sym fits.0)
      ∙ row_again codec values before rest place fits.1 at;
}

-- bytes that are padded to a count have that length
pub length-padded : (count : ℕ) (part : List ℕ) → length part ≤ count → length (padded count part) ≡ count
length-padded count part fits =
    length-append part (replicate (count - length part) 0)
    ∙ ap (λ (k : ℕ). length part + k) (length-replicate (count - length part) 0) ∙ add-sub_of_le fits

-- a counted list is read again
pub counted_again : {A : Type 0} (codec : Codec A) (room : ℕ) (values : List A) (before rest : List ℕ) (place : ℕ)
    → All codec.Fits values → length before ≡ place
    → read_row codec
    (byte_at (before ++ length values ∷ (padded room (flat_map codec.spell values) ++ rest)) place)
    (before ++ length values ∷ (padded room (flat_map codec.spell values) ++ rest)) (place + 1) ≡ values
counted_again codec room values before rest place fits at =
    let count = length values in
    let spelled = flat_map codec.spell values in
    let spare = replicate (room - length spelled) 0 in
    ap (λ (k : ℕ). read_row codec k (before ++ count ∷ (padded room spelled ++ rest)) (place + 1))
    (byte_behind before count (padded room spelled ++ rest) place at)
    ∙ ap (λ (l : List ℕ). read_row codec count (before ++ count ∷ l) (place + 1)) (append_assoc spelled spare rest)
    ∙ ap (λ (l : List ℕ). read_row codec count l (place + 1))
    (sym (append_assoc before (count ∷ []) (spelled ++ (spare ++ rest))))
    ∙ row_again codec values (before ++ count ∷ []) (spare ++ rest) (place + 1) fits
    (length-append before (count ∷ []) ∙ ap (λ (n : ℕ). n + 1) at)

-- a byte tells how many values there are; they have room for so many bytes, with zeros behind them
abbrev pub counted : {A : Type 0} → (room : ℕ) → Codec A → Codec (List A)
counted room codec = record {
  size = suc room;
  spell = λ values. length values ∷ padded room (flat_map codec.spell values);
  read = λ bytes place. read_row codec (byte_at bytes place) bytes (place + 1);
  Fits = λ values. (length (flat_map codec.spell values) ≤ room) × All codec.Fits values;
  long = λ values fits. ap suc (length-padded room (flat_map codec.spell values) fits.0);
  again = λ values before rest place fits at. counted_again codec room values before rest place fits.1 at;
}

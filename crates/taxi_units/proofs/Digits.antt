-- Digits at the front of a text, and the numbers that they make.
use Rattle.std.specs.{Char.{digit_value, is_ascii_digit}, Str.Parse.{AllDigits, digits_value, digits_value_after}}
use Rattle.std.proofs.Common.{[], ℕ, ◌*◌, ◌++◌, ◌+◌, ◌-◌, ◌<◌, ◌^◌, ◌∙◌, ◌∷◌, ◌≡◌, ◌≤◌, Bool, Err, List, add-one, ap}
use Rattle.std.proofs.Common.{arith, cond, drop, drop-cons, false, get_or, length, ltb, refl, suc, sym, take, true}
use Rattle.std.proofs.Math.Nat.{le-mul_of_pos_right, mul-le-mul_left, mul_assoc, one-le-pow, pow-le-pow_right, pow-suc}
use Rattle.std.proofs.lemmas.{Bool.{le-ltb, lt-ltb, Decides.{nat_tests}}, Int.Digits.{digits_value-lt}}
use Rattle.taxi_units.specs.{Common.{TooBig}, Decimal.{units_of}, NumberStages.{digits_at_front, units_read}}

one_more : (xs : List ℕ) (i : ℕ) → i < length xs → drop i xs ≡ get_or xs i 0 ∷ drop (i + 1) xs
one_more xs i h = rw add-one (drop-cons xs i 0 h)

-- one step of a value
value_next : (n : ℕ) (xs : List ℕ) (i : ℕ) → i < length xs → digits_value_after 10 n (drop i xs)
    ≡ digits_value_after 10 (n * 10 + digit_value (get_or xs i 0)) (drop (i + 1) xs)
value_next n xs i h = ap (digits_value_after 10 n) (one_more xs i h)

-- a digit's value
pub digit_value_is : (c : ℕ) → is_ascii_digit c ≡ true → digit_value c ≡ c - 48
digit_value_is c h = grind (arith, nat_tests)

digit_below : (c : ℕ) → is_ascii_digit c ≡ true → digit_value c < 10
digit_below c h = grind (arith, nat_tests)

-- a value doesn't fall
pub value_grows : (n : ℕ) (xs : List ℕ) → n ≤ digits_value_after 10 n xs
value_grows n [] = omega arith
value_grows n (x ∷ xs) = omega (arith, value_grows (n * 10 + digit_value x) xs)

-- the value of digits and more digits
pub value_append : (n : ℕ) (xs ys : List ℕ)
    → digits_value_after 10 n (xs ++ ys) ≡ digits_value_after 10 (digits_value_after 10 n xs) ys
value_append n [] ys = refl
value_append n (x ∷ xs) ys = value_append (n * 10 + digit_value x) xs ys

front_of : (b : Bool) (x : ℕ) (xs : List ℕ) → is_ascii_digit x ≡ b → digits_at_front (take (digits_at_front xs) xs)
    ≡ length (take (digits_at_front xs) xs) → digits_at_front (take (cond b (1 + digits_at_front xs) 0) (x ∷ xs))
    ≡ length (take (cond b (1 + digits_at_front xs) 0) (x ∷ xs))
front_of true x xs e h =
    let one : 1 + digits_at_front xs ≡ suc (digits_at_front xs) = omega arith in
    rw (one, e) (omega (arith, h))
front_of false x xs e h = refl

-- what is taken from the front is digits alone
pub digits_in_front : (xs : List ℕ)
    → digits_at_front (take (digits_at_front xs) xs) ≡ length (take (digits_at_front xs) xs)
digits_in_front [] = refl
digits_in_front (x ∷ xs) = front_of (is_ascii_digit x) x xs refl (digits_in_front xs)

first_digit : (b : Bool) (x : ℕ) (xs : List ℕ) → is_ascii_digit x ≡ b
    → cond b (1 + digits_at_front xs) 0 ≡ length (x ∷ xs) → is_ascii_digit x ≡ true
first_digit true x xs e h = e
first_digit false x xs e h = absurd (omega arith)

-- digits alone begin with a digit
pub digit_first : (xs : List ℕ) (i : ℕ) → i < length xs → digits_at_front (drop i xs) ≡ length (drop i xs)
    → is_ascii_digit (get_or xs i 0) ≡ true
digit_first xs i h e =
    let one = one_more xs i h in
    first_digit (is_ascii_digit (get_or xs i 0)) (get_or xs i 0) (drop (i + 1) xs) refl
    (sym (ap digits_at_front one) ∙ (e ∙ ap length one))

all_digits : (b : Bool) (x : ℕ) (xs : List ℕ) → is_ascii_digit x ≡ b → cond b (1 + digits_at_front xs) 0
    ≡ length (x ∷ xs) → (digits_at_front xs ≡ length xs → AllDigits 10 xs) → AllDigits 10 (x ∷ xs)
all_digits true x xs e h rest = (omega (arith, digit_below x e), rest (omega arith))
all_digits false x xs e h rest = absurd (omega arith)

-- as many digits at the front as the text is long: all are digits
pub digits_are_all : (xs : List ℕ) → digits_at_front xs ≡ length xs → AllDigits 10 xs
digits_are_all [] h = tt
digits_are_all (x ∷ xs) h = all_digits (is_ascii_digit x) x xs refl h (digits_are_all xs)

-- a number of 12 digits doesn't pass the largest
pub twelve_digits : (xs : List ℕ) → digits_at_front xs ≡ length xs → length xs ≤ 12 → digits_value 10 xs ≤ 10 ^ 12
twelve_digits xs all few =
    let below : digits_value 10 xs < 10 ^ length xs = digits_value-lt 10 xs (digits_are_all xs all) in
    let most : 10 ^ length xs ≤ 10 ^ 12 = pow-le-pow_right (omega arith) few in
    omega arith

-- a number that has reached a limit stays there as digits follow it
pub numbers_grow_by_their_digits : (limit n : ℕ) (xs : List ℕ) (i : ℕ) → i < length xs → digits_at_front (drop i xs)
    ≡ length (drop i xs) → limit ≤ n * 10 + (get_or xs i 0 - 48) → limit ≤ digits_value_after 10 n (drop i xs)
numbers_grow_by_their_digits limit n xs i h digits large =
    let value = digit_value_is (get_or xs i 0) (digit_first xs i h digits) in
    rw (value_next n xs i h)
    (omega (arith, value, value_grows (n * 10 + digit_value (get_or xs i 0)) (drop (i + 1) xs)))

-- the units, from the digits before the point and then those after it
pub units_by_parts : (decimals : ℕ) (whole parts : List ℕ) → digits_value_after 10 (digits_value 10 whole) parts * 10
    ^ (decimals - length parts) ≡ units_of decimals whole parts
units_by_parts decimals whole parts =
    ap (λ (n : ℕ). n * 10 ^ (decimals - length parts)) (sym (value_append 0 whole parts))

pub large_by_parts : (decimals : ℕ) (whole parts : List ℕ)
    → 10 ^ 12 < digits_value_after 10 (digits_value 10 whole) parts → 10 ^ 12 < units_of decimals whole parts
large_by_parts decimals whole parts large =
    let one : 0 < 10 ^ (decimals - length parts) = one-le-pow (decimals - length parts) 10 (omega arith) in
    let more = le-mul_of_pos_right (digits_value_after 10 (digits_value 10 whole) parts) one in
    omega (arith, more, units_by_parts decimals whole parts)

pub too_big : (decimals : ℕ) (whole parts : List ℕ) → length parts ≤ decimals → 10 ^ 12 < units_of decimals whole parts
    → units_read decimals whole parts ≡ Err TooBig
too_big decimals whole parts few large =
    let first : ltb decimals (length parts) ≡ false = le-ltb _ _ few in
    let second : ltb (10 ^ 12) (units_of decimals whole parts) ≡ true = lt-ltb _ _ large in
    rw (first, second) refl

pub too_big_by_parts : (decimals : ℕ) (whole parts : List ℕ) → length parts ≤ decimals
    → 10 ^ 12 < digits_value_after 10 (digits_value 10 whole) parts → units_read decimals whole parts ≡ Err TooBig
too_big_by_parts decimals whole parts few large =
    too_big decimals whole parts few (large_by_parts decimals whole parts large)

pub too_big_by_whole : (decimals : ℕ) (whole parts : List ℕ) → length parts ≤ decimals → 10 ^ 12 < digits_value 10 whole
    → units_read decimals whole parts ≡ Err TooBig
too_big_by_whole decimals whole parts few large =
    too_big_by_parts decimals whole parts few (omega (arith, value_grows (digits_value 10 whole) parts))

-- one zero more behind a number
pub one_zero_more : (number zeros : ℕ) → number * 10 ^ zeros * 10 ≡ number * 10 ^ (zeros + 1)
one_zero_more number zeros =
    let next : zeros + 1 ≡ suc zeros = omega arith in
    rw (next, pow-suc 10 zeros) (mul_assoc number (10 ^ zeros) 10)

-- a number that passes the largest with some zeros behind it passes it with more
pub large_with_zeros : (number few zeros : ℕ) → few < zeros → 10 ^ 12 < number * 10 ^ few * 10
    → 10 ^ 12 < number * 10 ^ zeros
large_with_zeros number few zeros lt large =
    let more : 10 ^ (few + 1) ≤ 10 ^ zeros = pow-le-pow_right (omega arith) (omega arith) in
    omega (arith, one_zero_more number few, mul-le-mul_left number more)

-- at most twelve digits in front, and their number
pub ruleset few_digits_in_front = (digits_in_front, twelve_digits)

-- the units of the digits before the point and after it, within the limit and beyond it
pub ruleset units_of_both_parts = (units_by_parts, too_big_by_parts, too_big_by_whole)

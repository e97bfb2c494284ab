-- How many bytes the items of a request have together.
use Rattle.std.proofs.Common.{[], ℕ, ◌+◌, ◌-◌, ◌<◌, ◌∙◌, ◌∷◌, ◌≡◌, ◌≤◌, List, ap, arith, get_or, length, length-append}
use Rattle.std.proofs.{Common.{map, refl, suc, take, zero}, lemmas.List.{get_or-map, take_all}}
use Rattle.data_port.specs.{Common.{Durable, IsDurable, IsSeal, Seal, line_size}, Reply.{item_bytes, items_bytes}}
use Rattle.data_port.{specs.Items.{all_items_size, item_count, size_of, sizes}, proofs.Parts.{item_long}}
use Rattle.data_port.specs.Requests.{Rise}

abbrev total : List ℕ → ℕ
total [] = 0
total (x ∷ xs) = x + total xs

total_more : (xs : List ℕ) (k : ℕ) → k < length xs → total (take (suc k) xs) ≡ total (take k xs) + get_or xs k 0
total_more [] k lt = absurd (omega arith)
total_more (x ∷ xs) zero lt = omega arith
total_more (x ∷ xs) (suc k) lt = omega (arith, total_more xs k (omega arith))

total_most : (xs : List ℕ) (a b : ℕ) → a ≤ b → total (take a xs) ≤ total (take b xs)
total_most xs zero b le = omega arith
total_most [] (suc a) b le = omega arith
total_most (x ∷ xs) (suc a) zero le = absurd (omega arith)
total_most (x ∷ xs) (suc a) (suc b) le = omega (arith, total_most xs a b (omega arith))

-- a code and its content, of each item
abbrev weights : List ℕ
weights = map suc sizes

-- the bytes of all items up to a code
abbrev reach : ℕ → ℕ
reach code = total (take code weights)

next_reach : (above k : ℕ) → above ≤ k → k < item_count → reach above + suc (get_or sizes k 0) ≤ reach (suc k)
next_reach above k low high =
    let inside : k < length weights = omega arith in
    let one : k < length sizes = omega arith in
    omega (arith, total_more weights k inside, total_most weights above k low, get_or-map suc sizes k 0 0 one)

-- with one item more
more_reach : (above code : ℕ) → above < code → code ≤ item_count → reach above + (1 + size_of code) ≤ reach code
more_reach above zero low high = absurd (omega arith)
more_reach above (suc k) low high =
    let same : suc k - 1 ≡ k = omega arith in
    let size : size_of (suc k) ≡ get_or sizes k 0 = ap (λ (n : ℕ). get_or sizes n 0) same in
    omega (arith, size, next_reach above k (omega arith) (omega arith))

-- with one item more there are at most all items
reach_most : (above code : ℕ) → above < code → code ≤ item_count → reach above + (1 + size_of code) ≤ all_items_size
reach_most above code low high =
    let most : reach item_count ≡ all_items_size = refl in
    omega (arith, more_reach above code low high, most, total_most weights code item_count high)

-- the items before one of them, and that one
pub before_item : (durable : Durable) (seal : Seal) → IsDurable durable → IsSeal seal
    → (above : ℕ) (codes : List ℕ) (i d : ℕ) → Rise above codes → i < length codes
    → reach above + length (items_bytes durable seal (take i codes)) + (1 + size_of (get_or codes i d))
    ≤ all_items_size
before_item durable seal d s above [] i e rise lt = absurd (omega arith)
before_item durable seal d s above (code ∷ codes) zero e rise lt =
    omega (arith, reach_most above code rise.0 rise.1.0)
before_item durable seal d s above (code ∷ codes) (suc i) e rise lt =
    omega (
      arith,
      before_item durable seal d s code codes i e rise.1.1 (omega arith),
      more_reach above code rise.0 rise.1.0,
      item_long durable seal code d s (omega (arith, rise.0)) rise.1.0,
      length-append (item_bytes durable seal code) (items_bytes durable seal (take i codes)),
    )

-- all items
pub whole_items : (durable : Durable) (seal : Seal) → IsDurable durable → IsSeal seal → (above : ℕ) (codes : List ℕ)
    → Rise above codes → above ≤ item_count
    → reach above + length (items_bytes durable seal codes) ≤ all_items_size
whole_items durable seal d s above [] rise le =
    let most : reach item_count ≡ all_items_size = refl in
    omega (arith, most, total_most weights above item_count le)
whole_items durable seal d s above (code ∷ codes) rise le =
    omega (
      arith,
      whole_items durable seal d s code codes rise.1.1 rise.1.0,
      more_reach above code rise.0 rise.1.0,
      item_long durable seal code d s (omega (arith, rise.0)) rise.1.0,
      length-append (item_bytes durable seal code) (items_bytes durable seal codes),
    )

-- the line that has the items before one of them, or all items
pub room_before : (durable : Durable) (seal : Seal) (codes : List ℕ) (i d : ℕ) (line : List ℕ) → IsDurable durable
    → IsSeal seal → Rise 0 codes → i < length codes → line ≡ items_bytes durable seal (take i codes)
    → length line + (1 + size_of (get_or codes i d)) ≤ line_size
room_before durable seal codes i e line d s rise lt is =
    omega (arith, ap length is, before_item durable seal d s 0 codes i e rise lt)

pub most_of_all : (durable : Durable) (seal : Seal) (codes : List ℕ) (i : ℕ) (line : List ℕ) → IsDurable durable
    → IsSeal seal → Rise 0 codes → length codes ≤ i → line ≡ items_bytes durable seal (take i codes)
    → length line ≤ all_items_size
most_of_all durable seal codes i line d s rise all is =
    let whole : line ≡ items_bytes durable seal codes = is ∙ ap (items_bytes durable seal) (take_all i codes all) in
    omega (arith, ap length whole, whole_items durable seal d s 0 codes rise (omega arith))

-- codes that rise are in their range
pub rise_low : (above : ℕ) (codes : List ℕ) (i d : ℕ) → Rise above codes → i < length codes → above < get_or codes i d
rise_low above [] i d rise lt = absurd (omega arith)
rise_low above (code ∷ codes) zero d rise lt = rise.0
rise_low above (code ∷ codes) (suc i) d rise lt = omega (arith, rise.0, rise_low code codes i d rise.1.1 (omega arith))

pub rise_high : (above : ℕ) (codes : List ℕ) (i d : ℕ) → Rise above codes → i < length codes
    → get_or codes i d ≤ item_count
rise_high above [] i d rise lt = absurd (omega arith)
rise_high above (code ∷ codes) zero d rise lt = rise.1.0
rise_high above (code ∷ codes) (suc i) d rise lt = rise_high code codes i d rise.1.1 (omega arith)

-- there are few of them
pub rise_few : (above : ℕ) (codes : List ℕ) → Rise above codes → above ≤ item_count → above + length codes ≤ item_count
rise_few above [] rise le = omega arith
rise_few above (code ∷ codes) rise le = omega (arith, rise.0, rise_few code codes rise.1.1 rise.1.0)

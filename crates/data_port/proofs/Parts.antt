-- The parts of a reply: how many bytes the content of each item has, and what it speaks of.
use Rattle.std.{specs.List.{flat_map}, proofs.Common.{get_or, length, length-append, map, refl, replicate, sym, take}}
use Rattle.std.proofs.Common.{[], ℕ, ◌*◌, ◌++◌, ◌+◌, ◌-◌, ◌<◌, ◌∙◌, ◌∷◌, ◌≡◌, ◌≤◌, List, None, Option, Some, ap, arith}
use Rattle.{std.proofs.lemmas.Grind.{flat_map-append}, taxi_units.proofs.Laws.{appended_behind}}
use Rattle.std.proofs.lemmas.List.{append-nil, get_or-map, length-replicate, take_all, take_more}
use Rattle.{drive_modes.specs.declared.charges.Mode.{Mode}, totals_record.specs.declared.totals.Totals.{Totals}}
use Rattle.{totals_record.specs.declared.totals.Share.{Share}, seal_record.specs.Spelling.{mode_byte, signed_bytes}}
use Rattle.data_port.specs.Common.{Durable, IsDurable, IsSeal, Seal, eight, four, padded, share_bytes, sixteen}
use Rattle.data_port.specs.Items.{Agrees, HeldTrip, content, held_content, held_values, item_count, rows}
use Rattle.data_port.specs.{Items.{shares_content, size_of, sizes}, Reply.{item_bytes}}
use Rattle.data_port.specs.Items as items

-- one element more
pub flat_more : {X A : Type 0} (f : X → List A) (xs : List X) (i : ℕ) (d : X) → i < length xs
    → flat_map f (take (i + 1) xs) ≡ flat_map f (take i xs) ++ f (get_or xs i d)
flat_more f xs i d lt =
    ap (flat_map f) (take_more xs i d lt) ∙ (flat_map-append f (take i xs) (get_or xs i d ∷ [])
    ∙ ap (λ ys. flat_map f (take i xs) ++ ys) (append-nil (f (get_or xs i d))))

pub one_more : (shares : List Share) (i : ℕ) (d : Share) → i < length shares → flat_map share_bytes
    (take (i + 1) shares) ≡ flat_map share_bytes (take i shares) ++ share_bytes (get_or shares i d)
one_more shares i d lt = flat_more share_bytes shares i d lt

-- the shares so far, and one more
pub shares_more : (start middle last : List ℕ) (shares : List Share) (i : ℕ) (d : Share) → i < length shares
    → middle ≡ start ++ flat_map share_bytes (take i shares) → last ≡ middle ++ share_bytes (get_or shares i d)
    → last ≡ start ++ flat_map share_bytes (take (i + 1) shares)
shares_more start middle last shares i d lt so_far next =
    appended_behind start (flat_map share_bytes (take i shares)) (share_bytes (get_or shares i d)) middle last
    so_far next
    ∙ ap (λ (l : List ℕ). start ++ l) (sym (one_more shares i d lt))

-- all shares, and what was counted before
pub shares_all : (start middle last : List ℕ) (totals : Totals) (i : ℕ) → length totals.shares ≤ i
    → middle ≡ start ++ flat_map share_bytes (take i totals.shares) → last ≡ middle ++ share_bytes totals.before
    → last ≡ start ++ shares_content totals
shares_all start middle last totals i all so_far next =
    appended_behind start (flat_map share_bytes totals.shares) (share_bytes totals.before) middle last
    (so_far ∙ ap (λ (xs : List Share). start ++ flat_map share_bytes xs) (take_all i totals.shares all)) next

-- ---- how long contents are

padded_long : (taxi : List ℕ) → length taxi ≤ 16 → length (padded 16 taxi) ≡ 16
padded_long taxi few =
    omega (arith, length-append taxi (replicate (16 - length taxi) 0), length-replicate {A = ℕ} (16 - length taxi) 0)

held_long : (held : Option HeldTrip) → length (held_content held) ≡ size_of 12
held_long None = refl
held_long (Some held) = refl

all_shares : (shares : List Share) → length (flat_map share_bytes shares) ≡ 24 * length shares
all_shares [] = refl
all_shares (share ∷ shares) =
    let one : length (share_bytes share) ≡ 24 = refl in
    omega (arith, one, all_shares shares, length-append (share_bytes share) (flat_map share_bytes shares))

shares_long : (totals : Totals) → length totals.shares ≡ 9 → length (shares_content totals) ≡ 240
shares_long totals nine =
    let one : length (share_bytes totals.before) ≡ 24 = refl in
    omega (
      arith,
      one,
      nine,
      all_shares totals.shares,
      length-append (flat_map share_bytes totals.shares) (share_bytes totals.before),
    )

lengths_are : (durable : Durable) (seal : Seal) → IsDurable durable → IsSeal seal
    → map length (rows durable seal) ≡ sizes
lengths_are durable seal d s =
    let taxi = padded_long seal.params.taxi.items s.params.taxi.few in
    let digest = s.digest in
    let held = held_long (held_values seal.params.constant durable.hold) in
    let shares = shares_long durable.totals d.shares.nine in
    λ i. taxi i ∷ (4 ∷ (4 ∷ (digest i ∷ (1 ∷ (8 ∷ (16 ∷ (16 ∷ (8 ∷ (16 ∷ (16 ∷ (held i ∷ (shares i ∷ []))))))))))))

pub content_long : (durable : Durable) (seal : Seal) (code : ℕ) → IsDurable durable → IsSeal seal → 1 ≤ code
    → code ≤ item_count
    → length (content durable seal code) ≡ size_of code
content_long durable seal code d s low high =
    let inside : code - 1 < length (rows durable seal) = omega arith in
    sym (get_or-map length (rows durable seal) (code - 1) [] 0 inside)
    ∙ ap (λ (xs : List ℕ). get_or xs (code - 1) 0) (lengths_are durable seal d s)

pub item_long : (durable : Durable) (seal : Seal) (code : ℕ) → IsDurable durable → IsSeal seal → 1 ≤ code
    → code ≤ item_count
    → length (item_bytes durable seal code) ≡ 1 + size_of code
item_long durable seal code d s low high = omega (arith, content_long durable seal code d s low high)

-- ---- what contents speak of

-- stores that agree on what an item speaks of have the same content of it
pub same_content : (one : Durable) (seal : Seal) (other : Durable) (another : Seal) (code : ℕ)
    → Agrees one seal other another code → content one seal code ≡ content other another code
same_content one seal other another code (items.taxi e) = ap (padded 16) e
same_content one seal other another code (items.constant e) = ap four e
same_content one seal other another code (items.secured e) = ap signed_bytes e
same_content one seal other another code (items.digest e) = e
same_content one seal other another code (items.mode e) = ap (λ (m : Mode). mode_byte m ∷ []) e
same_content one seal other another code (items.number e) = ap eight e
same_content one seal other another code (items.distance e) = ap sixteen e
same_content one seal other another code (items.hired e) = ap sixteen e
same_content one seal other another code (items.hirings e) = ap eight e
same_content one seal other another code (items.supplements e) = ap sixteen e
same_content one seal other another code (items.fare e) = ap sixteen e
same_content one seal other another code (items.held e) = ap held_content e
same_content one seal other another code (items.shares e f) = λ i. flat_map share_bytes (e i) ++ share_bytes (f i)

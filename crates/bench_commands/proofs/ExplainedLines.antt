-- The amounts of an explanation: a charge that is cut off, in its parts.
use Rattle.{std.{specs.Fmt.{decimal}, proofs.Math.Nat.{mod-lt, mul_assoc}}, bench_commands.specs.Common.{money_text}}
use Rattle.std.proofs.Common.{ℕ, ◌%◌, ◌*◌, ◌++◌, ◌+◌, ◌/◌, ◌<◌, ◌^◌, ◌∙◌, ◌∷◌, ◌≡◌, ◌≤◌, ap, arith, length, refl, suc}
use Rattle.std.proofs.{Common.{sym, zero}, lemmas.Nat.{div-add-mod', div-mul-add, div_below, mod-mul-add}}
use Rattle.taxi_units.{specs.Number.{padded_text}, proofs.Laws.{numbers_are_short, padded_numbers_fill_the_width}}

-- a charge has fewer than ten thousand ten-thousandths beside whole units of money
pub few_parts : (charge unit : ℕ) → 0 < unit → (charge % unit < unit) × (charge % unit * 10000 / unit < 10000)
few_parts charge unit some =
    let rest : charge % unit < unit = mod-lt charge some in
    (rest, div_below (charge % unit * 10000) unit 10000 some (omega (arith, rest)))

-- digits that are padded to a width of at most 7
pub digits_fit : (width value : ℕ) → width ≤ 7 → value < 10000000 → length (padded_text width value) ≤ 7
digits_fit width value few small =
    omega (
      arith,
      padded_numbers_fill_the_width width value,
      numbers_are_short 7 value (omega arith) (omega arith) (omega arith),
    )

-- ten thousand times a charge, divided by the units of charge in a unit of money
parted : (charge unit : ℕ) → 0 < unit → charge * 10000 / unit ≡ charge / unit * 10000 + charge % unit * 10000 / unit
parted charge unit some =
    let whole = charge / unit in
    let rest = charge % unit * 10000 in
    let split : charge * 10000 ≡ whole * unit * 10000 + rest =
    omega (arith, ap (λ (n : ℕ). n * 10000) (div-add-mod' charge unit)) in
    let again : rest / unit * unit + rest % unit ≡ rest = div-add-mod' rest unit in
    let below : rest % unit < unit = mod-lt rest some in
    let turned : whole * unit * 10000 ≡ whole * 10000 * unit = grind arith in
    let together : charge * 10000 ≡ (whole * 10000 + rest / unit) * unit + rest % unit =
    grind (arith, split, again, turned) in
    ap (λ (n : ℕ). n / unit) together ∙ div-mul-add (whole * 10000 + rest / unit) unit (rest % unit) below

-- a whole with ten thousandths, divided by as many of both
scaled : (whole part one n : ℕ) → part < 10000 → 0 < one → n ≡ whole * 10000 + part
    → (n / (one * 10000) ≡ whole / one) × (n % (one * 10000) ≡ whole % one * 10000 + part)
scaled whole part one n few some is =
    let rest : whole % one < one = mod-lt whole some in
    let below : whole % one * 10000 + part < one * 10000 = omega (arith, rest, few) in
    let turned : whole / one * (one * 10000) ≡ whole / one * one * 10000 = sym (mul_assoc (whole / one) one 10000) in
    let parts : n ≡ whole / one * (one * 10000) + (whole % one * 10000 + part) =
    omega (arith, is, turned, div-add-mod' whole one) in (
      ap (λ (m : ℕ). m / (one * 10000)) parts
          ∙ div-mul-add (whole / one) (one * 10000) (whole % one * 10000 + part) below,
      ap (λ (m : ℕ). m % (one * 10000)) parts
          ∙ mod-mul-add (whole / one) (one * 10000) (whole % one * 10000 + part) below,
    )

-- four decimals more
power : (decimals : ℕ) → decimals ≤ 3 → (10 ^ (decimals + 4) ≡ 10 ^ decimals * 10000) × (0 < 10 ^ decimals)
power zero small = (refl, omega arith)
power (suc zero) small = (refl, omega arith)
power (suc (suc zero)) small = (refl, omega arith)
power (suc (suc (suc zero))) small = (refl, omega arith)
power (suc (suc (suc (suc more)))) small = absurd (omega (arith, small))

-- an amount with at least one decimal, by what stands before its point and behind it
pointed : (decimals n : ℕ) → money_text (decimals + 4) n
    ≡ decimal (n / 10 ^ (decimals + 4)) ++ 46 ∷ padded_text (decimals + 4) (n % 10 ^ (decimals + 4))
pointed decimals n =
    let more : decimals + 4 ≡ suc (decimals + 3) = omega arith in
    rw more refl

-- a charge is written as money, cut off, by its whole units of money and its ten-thousandths
pub cut_in_parts : (decimals charge unit : ℕ) → decimals ≤ 3 → 0 < unit
    → money_text (decimals + 4) (charge * 10000 / unit)
    ≡ decimal (charge / unit / 10 ^ decimals)
    ++ 46 ∷ padded_text (decimals + 4) (charge / unit % 10 ^ decimals * 10000 + charge % unit * 10000 / unit)
cut_in_parts decimals charge unit small some =
    let ten = power decimals small in
    let parts = scaled (charge / unit) (charge % unit * 10000 / unit) (10 ^ decimals) (charge * 10000 / unit)
    (few_parts charge unit some).1 ten.1 (parted charge unit some) in
    pointed decimals (charge * 10000 / unit) ∙ rw (ten.0, parts.0, parts.1) refl

-- the powers of ten that the decimals of a tariff ask for
pub few_powers : (decimals : ℕ) → decimals ≤ 3 → (0 < 10 ^ decimals) × (10 ^ decimals ≤ 1000)
few_powers zero small = (omega arith, omega arith)
few_powers (suc zero) small = (omega arith, omega arith)
few_powers (suc (suc zero)) small = (omega arith, omega arith)
few_powers (suc (suc (suc zero))) small = (omega arith, omega arith)
few_powers (suc (suc (suc (suc more)))) small = absurd (omega (arith, small))

pub rest_below : (whole one : ℕ) → 0 < one → whole % one < one
rest_below whole one some = mod-lt whole some

-- the same by the numbers that the code makes
pub cut_by : (decimals charge unit one part digits : ℕ) → decimals ≤ 3 → 0 < unit → one ≡ 10 ^ decimals
    → part ≡ charge % unit * 10000 / unit → digits ≡ charge / unit % one * 10000 + part
    → decimal (charge / unit / one) ++ (46 ∷ padded_text (decimals + 4) digits)
    ≡ money_text (decimals + 4) (charge * 10000 / unit)
cut_by decimals charge unit one part digits small some one_is part_is digits_are =
    rw (digits_are, part_is, one_is) (sym (cut_in_parts decimals charge unit small some))

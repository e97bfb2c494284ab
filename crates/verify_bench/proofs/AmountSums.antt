-- The amounts of supplements, number by number.
use Rattle.{std.specs.Prelude.{cond, nat_eq}, verify_bench.specs.Common.{IsSupplementNumber, times}}
use Rattle.std.proofs.Common.{[], ℕ, ◌*◌, ◌++◌, ◌+◌, ◌-◌, ◌<◌, ◌∙◌, ◌∷◌, ◌≡◌, ◌≤◌, All, List, ap, arith, inl, inr, map}
use Rattle.std.proofs.{Common.{refl, suc, sum, sym, zero}, lemmas.List.Elements.{All-head, All-push, All-tail}}
use Rattle.std.proofs.{Math.Nat.{add-mul}, lemmas.{Bool.Decides.{eqb_tells}, List.Sums.{sum_by-append, sum_by-cons}}}
use Rattle.verify_bench.{specs.Amounts.{amounts_among}, proofs.GatheredSums.{zero_plus}}

-- a number at the head of a list
times_head : (number x : ℕ) (xs : List ℕ) → times number (x ∷ xs) ≡ cond (nat_eq x number) 1 0 + times number xs
times_head number x xs = sum_by-cons (λ (n : ℕ). cond (nat_eq n number) 1 0) x xs

pub sum_head : (n : ℕ) (ns : List ℕ) → sum (n ∷ ns) ≡ n + sum ns
sum_head n ns = sum_by-cons (λ (m : ℕ). m) n ns

module _ (amount : ℕ → ℕ) where
  pub among_none : (first many : ℕ) → amounts_among amount first many [] ≡ 0
  unfolding amounts_among
  among_none first zero = refl
  among_none first (suc many) = omega (arith, among_none (first + 1) many)

  -- a number below the first changes nothing
  below_first : (first many x : ℕ) (xs : List ℕ) → x < first
      → amounts_among amount first many (x ∷ xs) ≡ amounts_among amount first many xs
  unfolding amounts_among
  below_first first zero x xs below = refl
  below_first first (suc many) x xs below = elim (eqb_tells x first) [
    | inl same ↦ absurd (omega (arith, same.1))
    | inr apart ↦
        rw (times_head first x xs, apart.0, below_first (first + 1) many x xs (omega arith), zero_plus (times first xs))
        refl
  ]

  -- a number among them adds its amount
  pub among_more : (first many x : ℕ) (xs : List ℕ) → first ≤ x → x < first + many
      → amounts_among amount first many (x ∷ xs) ≡ amount x + amounts_among amount first many xs
  unfolding amounts_among
  among_more first zero x xs least most = absurd (omega arith)
  among_more first (suc many) x xs least most = elim (eqb_tells x first) [
    | inl same ↦
        let rest = below_first (first + 1) many x xs (omega (arith, same.1)) in
        let amounts : amount x ≡ amount first = ap amount same.1 in
        rw (times_head first x xs, same.0, rest, amounts, add-mul 1 (times first xs) (amount first)) (omega arith)
    | inr apart ↦
        let rest = among_more (first + 1) many x xs (omega (arith, apart.1)) (omega arith) in
        rw (times_head first x xs, apart.0, rest, zero_plus (times first xs)) (omega arith)
  ]

  pub all_among : (xs : List ℕ) → All IsSupplementNumber xs → amounts_among amount 1 16 xs ≡ sum (map amount xs)
  all_among [] all = among_none 1 16
  all_among (x ∷ xs) all =
      let here = All-head IsSupplementNumber x xs all in
      among_more 1 16 x xs here.0 (omega (arith, here.1))
      ∙ (ap (λ (n : ℕ). amount x + n) (all_among xs (All-tail IsSupplementNumber x xs all))
      ∙ sym (sum_head (amount x) (map amount xs)))

  -- one number of those up to 16 more
  pub among_here : (number sum_so_far count price total : ℕ) (xs : List ℕ) → number ≤ 16 → count ≡ times number xs
      → price ≡ amount number
      → sum_so_far + amounts_among amount number (17 - number) xs ≡ total
      → (sum_so_far + count * price) + amounts_among amount (number + 1) (17 - (number + 1)) xs ≡ total
  unfolding amounts_among
  among_here number sum_so_far count price total xs few counted priced so_far =
      let many : 17 - number ≡ suc (16 - number) = omega arith in
      let fewer : 17 - (number + 1) ≡ 16 - number = omega arith in
      let before : sum_so_far + amounts_among amount number (suc (16 - number)) xs ≡ total = rw many at so_far in
      rw (fewer, counted, priced) (omega (arith, before))

  pub among_nothing : (number sum_so_far total : ℕ) (xs : List ℕ) → 17 ≤ number
      → sum_so_far + amounts_among amount number (17 - number) xs ≡ total → sum_so_far ≡ total
  unfolding amounts_among
  among_nothing number sum_so_far total xs all so_far =
      let none : 17 - number ≡ 0 = omega arith in
      let before : sum_so_far + amounts_among amount number 0 xs ≡ total = rw none at so_far in
      omega (arith, before)

-- a supplement more
times_push : (number x : ℕ) (xs : List ℕ) → times number (xs ++ x ∷ []) ≡ times number xs + cond (nat_eq x number) 1 0
times_push number x xs =
    let one : times number (x ∷ []) ≡ cond (nat_eq x number) 1 0 = omega (arith, times_head number x []) in
    sum_by-append (λ (n : ℕ). cond (nat_eq n number) 1 0) xs (x ∷ []) ∙ ap (λ (m : ℕ). times number xs + m) one

pub few_times : (x : ℕ) (xs : List ℕ) → times x xs < 99 → ((number : ℕ) → times number xs ≤ 99) → (number : ℕ)
    → times number (xs ++ x ∷ []) ≤ 99
few_times x xs room few number = elim (eqb_tells x number) [
  | inl same ↦
      let here : times number xs < 99 = rw same.1 at room in
      rw (times_push number x xs, same.0) (omega (arith, here))
  | inr apart ↦ rw (times_push number x xs, apart.0) (omega (arith, few number))
]

pub all_numbers : (x : ℕ) (xs : List ℕ) → IsSupplementNumber x → All IsSupplementNumber xs
    → All IsSupplementNumber (xs ++ x ∷ [])
all_numbers x xs here all = All-push IsSupplementNumber xs x all here

-- Where a number stands among those of a range that pass a test.
use Rattle.std.{specs.{List.{range_with_len}, Prelude.{filter}}, proofs.Common.{refl, suc, true, zero}}
use Rattle.std.proofs.Common.{ℕ, ◌+◌, ◌-◌, ◌<◌, ◌∙◌, ◌∷◌, ◌≡◌, ◌≤◌, Bool, List, ap, arith, cond, false, get_or, length}

-- one number more in front
filter_step : (test : ℕ → Bool) (a n : ℕ) (b : Bool) → test a ≡ b → filter test (range_with_len a (suc n))
    ≡ cond b (a ∷ filter test (range_with_len (a + 1) n)) (filter test (range_with_len (a + 1) n))
filter_step test a n b is =
    ap (λ (x : Bool). cond x (a ∷ filter test (range_with_len (a + 1) n)) (filter test (range_with_len (a + 1) n))) is

pub count_step : (test : ℕ → Bool) (a n : ℕ) (b : Bool) → test a ≡ b
    → length (filter test (range_with_len a (suc n))) ≡ cond b 1 0 + length (filter test (range_with_len (a + 1) n))
count_step test a n true is = ap (length {A = ℕ}) (filter_step test a n true is) ∙ omega arith
count_step test a n false is = ap (length {A = ℕ}) (filter_step test a n false is) ∙ omega arith

-- none passes
pub none_counted : (test : ℕ → Bool) (a n : ℕ) → ((k : ℕ) → a ≤ k → k < a + n → test k ≡ false)
    → length (filter test (range_with_len a n)) ≡ 0
none_counted test a zero none = refl
none_counted test a (suc n) none =
    let rest = none_counted test (a + 1) n (λ k from to. none k (omega arith) (omega arith)) in
    omega (arith, rest, count_step test a n false (none a (omega arith) (omega arith)))

placed_first : (test : ℕ → Bool) (a n d : ℕ) → test d ≡ true → a ≡ d
    → get_or (filter test (range_with_len a (suc n))) 0 0 ≡ d
placed_first test a n d hit same =
    let here : test a ≡ true = rw same hit in
    ap (λ (xs : List ℕ). get_or xs 0 0) (filter_step test a n true here) ∙ same

placed_more : (test : ℕ → Bool) (a n d before : ℕ) (b : Bool) → test a ≡ b
    → get_or (filter test (range_with_len (a + 1) n)) (length (filter test (range_with_len (a + 1) before))) 0 ≡ d
    → get_or (filter test (range_with_len a (suc n))) (length (filter test (range_with_len a (suc before)))) 0 ≡ d
placed_more test a n d before true is rest =
    let counted : length (filter test (range_with_len a (suc before)))
    ≡ suc (length (filter test (range_with_len (a + 1) before))) = omega (arith, count_step test a before true is) in
    rw (filter_step test a n true is, counted) rest
placed_more test a n d before false is rest =
    let counted : length (filter test (range_with_len a (suc before)))
    ≡ length (filter test (range_with_len (a + 1) before)) = omega (arith, count_step test a before false is) in
    rw (filter_step test a n false is, counted) rest

-- the number at the place of its count is the number
pub placed : (test : ℕ → Bool) (a n d before : ℕ) → test d ≡ true → a + before ≡ d → before < n
    → get_or (filter test (range_with_len a n)) (length (filter test (range_with_len a before))) 0 ≡ d
placed test a zero d before hit at lt = absurd (omega arith)
placed test a (suc n) d zero hit at lt = placed_first test a n d hit (omega arith)
placed test a (suc n) d (suc before) hit at lt =
    placed_more test a n d before (test a) refl (placed test (a + 1) n d before hit (omega arith) (omega arith))

-- if none passes after a number that does, the count of all is one more than that of those before it
pub counted_to_last : (test : ℕ → Bool) (a n d before : ℕ) → test d ≡ true → a + before ≡ d → before < n
    → ((k : ℕ) → d < k → k < a + n → test k ≡ false)
    → length (filter test (range_with_len a n)) ≡ suc (length (filter test (range_with_len a before)))
counted_to_last test a zero d before hit at lt none = absurd (omega arith)
counted_to_last test a (suc n) d zero hit at lt none =
    let same : a ≡ d = omega arith in
    let here : test a ≡ true = rw same hit in
    let later = none_counted test (a + 1) n (λ k from to. none k (omega arith) (omega arith)) in
    omega (arith, count_step test a n true here, later)
counted_to_last test a (suc n) d (suc before) hit at lt none =
    let rest =
    counted_to_last test (a + 1) n d before hit (omega arith) (omega arith) (λ k from to. none k from (omega arith)) in
    omega (arith, rest, count_step test a n (test a) refl, count_step test a before (test a) refl)

-- so it stands at the last place
pub placed_last : (test : ℕ → Bool) (a n d before : ℕ) → test d ≡ true → a + before ≡ d → before < n
    → ((k : ℕ) → d < k → k < a + n → test k ≡ false)
    → get_or (filter test (range_with_len a n)) (length (filter test (range_with_len a n)) - 1) 0 ≡ d
placed_last test a n d before hit at lt none =
    let last : length (filter test (range_with_len a n)) - 1 ≡ length (filter test (range_with_len a before)) =
    omega (arith, counted_to_last test a n d before hit at lt none) in
    rw last (placed test a n d before hit at lt)

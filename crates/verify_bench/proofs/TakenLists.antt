-- The supplements that were taken, number by number.
use Rattle.{std.{specs.List.{range_with_len}, proofs.lemmas.List.{append-nil}}, verify_bench.specs.Common.{Taken}}
use Rattle.std.proofs.Common.{ℕ, ◌++◌, ◌+◌, ◌-◌, ◌∙◌, ◌≡◌, ◌≤◌, List, append_assoc, arith, flat_map, suc, sym}

module _ (taken : ℕ → List Taken) where
  pub one_more_taken : (number : ℕ) (so_far all : List Taken) → number ≤ 16
      → so_far ++ flat_map taken (range_with_len number (17 - number)) ≡ all
      → (so_far ++ taken number) ++ flat_map taken (range_with_len (number + 1) (17 - (number + 1))) ≡ all
  one_more_taken number so_far all few before =
      let many : 17 - number ≡ suc (16 - number) = omega arith in
      let fewer : 17 - (number + 1) ≡ 16 - number = omega arith in
      let split : so_far ++ flat_map taken (range_with_len number (suc (16 - number))) ≡ all = rw many at before in
      rw fewer (append_assoc so_far (taken number) (flat_map taken (range_with_len (number + 1) (16 - number))) ∙ split)

  pub no_more_taken : (number : ℕ) (so_far all : List Taken) → 17 ≤ number
      → so_far ++ flat_map taken (range_with_len number (17 - number)) ≡ all → so_far ≡ all
  no_more_taken number so_far all whole before =
      let none : 17 - number ≡ 0 = omega arith in
      let split : so_far ++ flat_map taken (range_with_len number 0) ≡ all = rw none at before in
      sym (append-nil so_far) ∙ split

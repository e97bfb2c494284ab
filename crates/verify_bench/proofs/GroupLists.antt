-- The groups of rates, one after another.
use Rattle.std.proofs.Common.{[], ℕ, ◌++◌, ◌+◌, ◌<◌, ◌∙◌, ◌∷◌, ◌≡◌, ◌≤◌, List, add-one, ap, append_assoc, arith, drop}
use Rattle.std.proofs.{Common.{drop-cons, get_or, length, refl, subst, suc, sym, zero}, lemmas.List.{append-nil}}
use Rattle.tariff_check.specs.declared.choice.Choice.{Choice}
use Rattle.verify_bench.specs.{Common.{Group, Part, Setting, own_lines}, Groups.{groups_at, groups_from}}

-- the numbers of choices from a place on, if one is there
pub numbers_at : {V : Type 0} (choices : List (Choice V)) (i : ℕ) (d : Choice V) → i < length choices
    → own_lines (drop i choices) ≡ (get_or choices i d).line ∷ own_lines (drop (i + 1) choices)
numbers_at choices i d within = rw add-one (ap own_lines (drop-cons choices i d within))

-- the groups of a rate line more
pub groups_more : (s : Setting) (parts : List Part) (place line : ℕ) (so_far all : List Group) (numbers rest : List ℕ)
    → numbers ≡ line ∷ rest → so_far ++ groups_from s parts place numbers ≡ all
    → (so_far ++ groups_at s parts place line) ++ groups_from s parts (place + 1) rest ≡ all
unfolding groups_from
groups_more s parts place line so_far all numbers rest is before =
    append_assoc so_far (groups_at s parts place line) (groups_from s parts (place + 1) rest)
    ∙ subst (λ (ns : List ℕ). so_far ++ groups_from s parts place ns ≡ all) is before

pub drop_past : {A : Type 0} (xs : List A) (n : ℕ) → length xs ≤ n → drop n xs ≡ []
drop_past [] zero past = refl
drop_past [] (suc n) past = refl
drop_past (x ∷ xs) zero past = absurd (omega arith)
drop_past (x ∷ xs) (suc n) past = drop_past xs n (omega arith)

pub no_more_groups : {V : Type 0} (s : Setting) (parts : List Part) (place : ℕ) (choices : List (Choice V))
    (so_far all : List Group) → length choices ≤ place
    → so_far ++ groups_from s parts place (own_lines (drop place choices)) ≡ all → so_far ≡ all
unfolding groups_from
no_more_groups {V} s parts place choices so_far all past before =
    sym (append-nil so_far) ∙ subst
    (λ (xs : List (Choice V)). so_far ++ groups_from s parts place (own_lines xs) ≡ all)
    (drop_past choices place past) before

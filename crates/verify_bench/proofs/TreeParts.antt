-- The parts of a sound tariff that hold in a context are sound.
use Rattle.{std.specs.Option.{unwrap_or}, tariff_tree.specs.Meaning.{rate_place}, verify_bench.specs.Wholes.{IsOfText}}
use Rattle.std.proofs.{Common.{ℕ, ◌<◌, ◌∙◌, ◌≡◌, ◌≤◌, Some, ap, arith, inl, inr, sym}, lemmas.Bool.{cases_lt}}
use Rattle.{tariff_check.specs.declared.choice.ChoiceKind.TheVariants.{Rate}, verify_bench.specs.Common.{supplement_of}}
use Rattle.verify_bench.specs.Common.{Context, IsSound, IsSoundRate, IsSupplementNumber, IsWritable, Setting}
use Rattle.verify_bench.specs.Common.{SoundTariff, Supplement, Tree, rate_in_force, sound_of, supplement_numbered}
use Rattle.tariff_check.proofs.Laws as check

pub sound_rate : (t : Tree) (x : Context) → IsWritable t → IsSound t → IsSoundRate (rate_in_force (sound_of t) x)
sound_rate t x writable sound =
    let parts = check.sound_tariffs_have_sound_parts-parts t writable sound in
    let holds = check.lines_that_hold_are_there-rate t x sound in
    rw holds.1 (parts.choices Rate holds.0 (record { a = 0; b = 0; c = 0; e = 0 }) holds.2)

pub few_rates : (t : Tree) (x : Context) → IsWritable t → IsSound t → unwrap_or (rate_place t x) 0 < 64
few_rates t x writable sound =
    let parts = check.sound_tariffs_have_sound_parts-parts t writable sound in
    let holds = check.lines_that_hold_are_there-rate t x sound in
    rw holds.1 (omega (arith, holds.2, parts.choice_count Rate))

pub supplement_number : (t : Tree) (number : ℕ) (found : Supplement) → IsWritable t
    → supplement_of t.lines number ≡ Some found → IsSupplementNumber number
supplement_number t number found writable there = elim (cases_lt 16 number) [
  | inl many ↦
      absurd (let none = check.supplements_are_numbered_to_16 t number writable (λ range. omega (arith, range.1)) in cc)
  | inr few ↦ elim (cases_lt 0 number) [
    | inl some ↦ (omega (arith, some), few)
    | inr none_of ↦ absurd
        (let none = check.supplements_are_numbered_to_16 t number writable (λ range. omega (arith, range.0)) in cc)
  ]
]

pub supplement_of_text : (s : Setting) (number : ℕ) (found : Supplement) → IsOfText s
    → supplement_numbered s.tariff.supplements number ≡ Some found → IsSupplementNumber number
supplement_of_text s number found of_text there =
    supplement_number of_text.0 number found of_text.1
    (sym (ap (λ (p : SoundTariff). supplement_numbered p.supplements number) of_text.2) ∙ there)

pub sound_supplement : (t : Tree) (number : ℕ) (found : Supplement) → IsWritable t → IsSound t
    → supplement_of t.lines number ≡ Some found
    → IsSupplementNumber number × (found.amount ≤ 1000000) × (found.max ≤ 99)
sound_supplement t number found writable sound there =
    let parts = check.sound_tariffs_have_sound_parts-parts t writable sound in
    let good = parts.supplements number found there in
    (supplement_number t number found writable there, good.amount, good.most.1)

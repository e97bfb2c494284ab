-- What is proved of each kind of line.
use Rattle.{std.specs.Option.{is_some}, tariff_tree.specs.Writable.{IsWritableIf}}
use Rattle.std.proofs.{Common.{ℕ, ◌^◌, ◌≡◌, Some, ap, arith, false, refl, subst, true}, lemmas.Bool.{ltb-false}}
use Rattle.tariff_check.specs.Common.{ChoiceKind, Entry, Initial, IsWritableEntry, Minimum, Rate, Tree, choices}
use Rattle.tariff_check.specs.Common.{initial, largest_amount, minimum, rate, step, when_part}
use Rattle.tariff_check.specs.Kinds.{EachKind, InitialNumbers, IsSoundInitial, IsSoundRate, IsSoundSaid, RateNumbers}
use Rattle.tariff_check.{specs.Kinds.{Said, entry_with, is_great, is_of, part_of}, proofs.MeasureLaws.{both_some}}
use Rattle.tariff_check.specs.Lines.{is_alike, is_for_nothing, most_alike}
use Rattle.tariff_check.{specs.SoundTariff.{IsInOnePart, choices_in, sound_of}, proofs.FaultStages.{or_false}}
use Rattle.tariff_tree.specs.Part as part

-- what holds of each kind holds of one
pub of_kind : (P : ChoiceKind → Type 0) → EachKind P → (kind : ChoiceKind) → P kind
of_kind P each Rate = each.0
of_kind P each Initial = each.1
of_kind P each Minimum = each.2

-- and what holds of any kind holds of each
pub each_kind : (P : ChoiceKind → Type 0) → ((kind : ChoiceKind) → P kind) → EachKind P
each_kind P all = (all Rate, all Initial, all Minimum)

-- the choices of a kind in a tariff as its parts are those of its lines
pub choices_are : (t : Tree) (kind : ChoiceKind) → choices_in kind (sound_of t) ≡ choices (part_of kind) t.lines
choices_are t Rate = refl
choices_are t kind = refl

-- an entry is of a kind exactly if it has the kind's part
pub part_is : (kind : ChoiceKind) (x : Entry) → is_some (part_of kind x) ≡ is_of kind x
part_is Rate (rate a b c e when) = refl
part_is Rate x = refl
part_is Initial (initial amount covers when) = refl
part_is Initial x = refl
part_is Minimum (minimum amount when) = refl
part_is Minimum x = refl

-- lines of a kind are like each other and like no other line, and there may be 64 of them
pub kind_alike : (kind : ChoiceKind) (x y : Entry) → is_some (part_of kind x) ≡ true
    → (most_alike x ≡ 64) × (is_alike x y ≡ is_of kind y)
kind_alike Rate (rate a b c e when) y h = (refl, refl)
kind_alike Rate x y h = absurd cc
kind_alike Initial (initial amount covers when) y h = (refl, refl)
kind_alike Initial x y h = absurd cc
kind_alike Minimum (minimum amount when) y h = (refl, refl)
kind_alike Minimum x y h = absurd cc

-- an entry of a kind is made again of what it says and of its condition
pub entry_again : (kind : ChoiceKind) (x : Entry) (said : Said kind) → part_of kind x ≡ Some said
    → entry_with kind said (when_part x) ≡ x
entry_again Rate (rate a b c e when) r h =
    let same : r ≡ record { a = a; b = b; c = c; e = e } = cc in
    ap (λ (r : RateNumbers). entry_with Rate r when) same
entry_again Rate x r h = absurd cc
entry_again Initial (initial amount covers when) i h =
    let same : i ≡ record { amount = amount; covers = covers } = cc in
    ap (λ (i : InitialNumbers). entry_with Initial i when) same
entry_again Initial x i h = absurd cc
entry_again Minimum (minimum amount when) n h = let same : n ≡ amount = cc in ap (λ (n : ℕ). minimum n when) same
entry_again Minimum x n h = absurd cc

-- what an entry of a kind says is sound if none of its numbers is too great or 0
pub said_sound : (kind : ChoiceKind) (x : Entry) → IsWritableEntry x → is_great x ≡ false → is_for_nothing x ≡ false
    → (said : Said kind) → part_of kind x ≡ Some said → IsSoundSaid kind said
said_sound Rate (rate a b c e when) writable moderate measured r h =
    let same : record { a = a; b = b; c = c; e = e } ≡ r = cc in
    let amounts = or_false _ _ moderate in
    let measures = both_some b e measured in
    subst IsSoundRate same (record {
      distance_amount = ltb-false (10 ^ 6) a amounts.0;
      distance = (measures.0, writable 2 part.comma (omega arith));
      time_amount = ltb-false (10 ^ 6) c amounts.1;
      time = (measures.1, writable 7 part.comma (omega arith));
    })
said_sound Rate x writable moderate measured r h = absurd cc
said_sound Initial (initial amount covers when) writable moderate measured i h =
    let same : record { amount = amount; covers = covers } ≡ i = cc in
    let amounts = or_false _ _ moderate in
    subst IsSoundInitial same
    (record { amount = ltb-false largest_amount amount amounts.0; covers = ltb-false largest_amount covers amounts.1 })
said_sound Initial x writable moderate measured i h = absurd cc
said_sound Minimum (minimum amount when) writable moderate measured n h =
    let same : amount ≡ n = cc in
    let most = ltb-false largest_amount amount moderate in
    omega arith
said_sound Minimum x writable moderate measured n h = absurd cc

-- the condition of a writable entry is writable
pub when_writable : (x : Entry) → IsWritableEntry x → IsWritableIf (when_part x)
when_writable (initial amount covers when) h = h 2 part.comma (omega arith)
when_writable (rate a b c e when) h = h 9 part.comma (omega arith)
when_writable (minimum amount when) h = h 1 part.comma (omega arith)
when_writable x h = tt

-- each entry is told by exactly one part
pub in_one_part : (x : Entry) → IsInOnePart x
in_one_part (step amount rounding) = refl
in_one_part x = refl

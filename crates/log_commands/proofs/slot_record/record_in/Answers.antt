use Rattle.std.proofs.Common.{ℕ, ◌↔◌, ◌≡◌, List, None, Option, Some, refl, rules, subst}
use Rattle.log_commands.{specs.Record.{Record}, proofs.Spelled.{none_longer, none_other, none_spelled, some_spelled}}
use Rattle.log_commands.specs.Slots.{IsRecordOf, Spells}
use Rattle.log_commands.proofs.slot_record.record_in.Goals as goal

pub returns-then-count-gt-LONGEST : goal.returns-then-count-gt-LONGEST
returns-then-count-gt-LONGEST c =
    none_longer c.args.bytes.now c.eight_at-place.result c.two_at-count.result c.eight_at-place.ensures
    c.two_at-count.ensures c.if-count-gt-LONGEST.true

pub returns-in_err-record : goal.returns-in_err-record
returns-in_err-record c =
    let none : c.from_residual.result ≡ None = search rules in
    rw none (none_other c.args.bytes.now c.eight_at-place.result c.two_at-count.result c.eight_at-place.ensures
    c.two_at-count.ensures
    (λ it. subst (λ (t : List ℕ). (◌≡◌ {A = Option Record} None (Some it)) ↔ IsRecordOf t it) c.text_in.ensures
    (c.in_err-record.ensures it)))

pub returns-then-not-spells : goal.returns-then-not-spells
returns-then-not-spells c =
    let found = c.in_ok-record.record in
    let is = subst (λ (t : List ℕ). IsRecordOf t found) c.text_in.ensures ((c.in_ok-record.ensures found).0 refl) in
    let not : ¬ Spells c.args.bytes.now c.eight_at-place.result found = λ h. let told =
    c.if-not-spells.ensures.1 h in absurd cc in
    none_spelled c.args.bytes.now c.eight_at-place.result c.two_at-count.result c.eight_at-place.ensures
    c.two_at-count.ensures found is not

pub returns : goal.returns
returns c =
    let found = c.in_ok-record.record in
    let is = subst (λ (t : List ℕ). IsRecordOf t found) c.text_in.ensures ((c.in_ok-record.ensures found).0 refl) in
    let spells : Spells c.args.bytes.now c.eight_at-place.result found = c.if-not-spells.ensures.0 refl in
    some_spelled c.args.bytes.now c.eight_at-place.result c.two_at-count.result c.eight_at-place.ensures
    c.two_at-count.ensures found is spells

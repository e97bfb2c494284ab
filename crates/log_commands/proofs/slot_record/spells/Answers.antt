use Rattle.std.proofs.Common.{◌↔◌, ◌∙◌, ◌≡◌, IsTrue, ap, arith, inl, inr, rules}
use Rattle.log_commands.{specs.Record.{Record}, proofs.Spelled.{none_spells, spells_exact}}
use Rattle.log_commands.{specs.Slots.{spelling}, proofs.slot_record.spells.Goals.{then-place-eq0-via-then-place-eq0}}
use Rattle.log_commands.proofs.slot_record.spells.Goals.{then-place-eq0-via-else-place-eq0+then-place-it}
use Rattle.log_commands.proofs.slot_record.spells.Goals as goal

pub returns : goal.returns
returns c =
    let it : Record = c.args.it.now in
    let own_is = c.as_slice-2.ensures.value ∙ c.spelled.ensures.items
    ∙ ap (spelling c.args.place) (c.as_slice.ensures.value ∙ ap (λ (r : Record). r.text) c.it.view_is) in
    let told : IsTrue c.eq.result ↔ (c.as_slice-2.result.now ≡ c.args.bytes.now) = search rules in
    spells_exact c.args.bytes.now _ c.args.place it c.eq.result c.requires (omega (arith, c.if-place-eq0.false))
    (omega (arith, c.if-place-it.false, ap (λ (r : Record). r.number) c.it.view_is)) own_is told

pub returns-then-place-eq0 : goal.returns-then-place-eq0
returns-then-place-eq0 c = none_spells c.args.bytes.now c.args.place c.args.it.now (elim c.then-place-eq0.branch [
  | then-place-eq0-via-then-place-eq0 w ↦ inl w.if-place-eq0.true
  | then-place-eq0-via-else-place-eq0+then-place-it w ↦ inr (omega (
    arith,
    w.if-place-it.true,
    ap (λ (r : Record). r.number) c.it.view_is,
  ))
])

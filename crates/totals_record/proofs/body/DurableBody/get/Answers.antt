use Rattle.std.{specs.Str.{bytes_eq}, proofs.{Common.{ℕ, ◌∙◌, List, Some, ap, sym}, lemmas.Bool.{not-false, not-true}}}
use Rattle.{slot_bodies.proofs.Laws.{not_in_range, other_bytes, own_bytes}, totals_record.specs.Table.{durable_test}}
use Rattle.totals_record.specs.{Common.{Durable}, Reading.{decoded, reads}, Spelling.{spelling}}
use Rattle.totals_record.proofs.body.DurableBody.get.Goals as goal

pub returns-then-not-is_durable : goal.returns-then-not-is_durable
unfolding reads
returns-then-not-is_durable c =
    sym (not_in_range durable_test spelling decoded c.args.bytes.now
    (ap (λ (d : Durable). (durable_test d).passes) (sym c.decode-durable.ensures) ∙ sym c.is_durable.ensures
    ∙ c.if-not-is_durable.true))

pub spell-requires : goal.spell-requires
spell-requires c =
    (durable_test c.decode-durable.result).decides.0 (sym c.is_durable.ensures ∙ c.if-not-is_durable.false)

pub returns-then-ne : goal.returns-then-ne
unfolding reads
returns-then-ne c =
    let spelled = ap spelling (sym c.decode-durable.ensures) ∙ sym c.spell.ensures in
    sym (other_bytes durable_test spelling decoded c.args.bytes.now
    (ap (λ (l : List ℕ). bytes_eq l c.args.bytes.now) spelled
    ∙ not-true (bytes_eq c.spell.result c.args.bytes.now) (sym c.ne.ensures ∙ c.if-ne.true)))

pub returns : goal.returns
unfolding reads
returns c =
    let spelled = ap spelling (sym c.decode-durable.ensures) ∙ sym c.spell.ensures in
    ap Some c.decode-durable.ensures ∙ sym (own_bytes durable_test spelling decoded c.args.bytes.now
    (ap (λ (d : Durable). (durable_test d).passes) (sym c.decode-durable.ensures) ∙ sym c.is_durable.ensures
    ∙ c.if-not-is_durable.false)
    (ap (λ (l : List ℕ). bytes_eq l c.args.bytes.now) spelled
    ∙ not-false (bytes_eq c.spell.result c.args.bytes.now) (sym c.ne.ensures ∙ c.if-ne.false)))

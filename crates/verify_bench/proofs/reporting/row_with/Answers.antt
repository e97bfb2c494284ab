use Rattle.std.proofs.{Common.{[], ℕ, Bor, List, arith, map, subst}, lemmas.List.{map_more, take_all}}
use Rattle.verify_bench.specs.CsvWriter.{IsRow}
use Rattle.verify_bench.proofs.reporting.row_with.Goals as goal

pub loop-field-preserved : goal.loop-field-preserved
loop-field-preserved c =
    let field : Bor (List ℕ) = record { ref_ptr = (0, 0); now = [] } in
    rw (map_more (λ (f : Bor (List ℕ)). f.now) c.args.fields.now c.loop-field.field-index field c.loop-field-test.true)
    (c.in_ok-put_field.ensures _ c.loop-field.invariant)

pub returns : goal.returns
returns c =
    let all = take_all c.loop-field.field-index c.args.fields.now (omega (arith, c.loop-field-test.false)) in
    subst (λ (fields : List (Bor (List ℕ))). IsRow c.loop-field.row (map (λ field. field.now) fields)) all
    c.loop-field.invariant

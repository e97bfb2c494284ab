use Rattle.std.proofs.Common.{[], ℕ, ◌++◌, ◌<◌, ◌∙◌, ◌∷◌, ◌≤◌, Bor, List, Some, arith, inl, inr, length, refl, sym}
use Rattle.{std.proofs.lemmas.{Bool.{eqb-false, eqb-true}, Result.{err_from_is_err_and}}, csv.specs.Records.{fields_of}}
use Rattle.csv.{specs.Reading.{Reached, default_config, strip_bom}, proofs.ReadFacts.{rows-end, rows-more}}
use Rattle.verify_bench.{specs.Readings.{empty, readings_limit}, proofs.Rows.{fault_of_row, none_is_bad}}
use Rattle.csv.specs.declared.parser.State.TheVariants as states
use Rattle.verify_bench.proofs.readings.read_readings.Goals as goal

-- a text without a byte has no first row
pub returns-then-is_empty-clause-err : goal.returns-then-is_empty-clause-err
returns-then-is_empty-clause-err c =
    none_is_bad c.args.decimals c.args.text.now (eqb-true _ 0 (sym c.is_empty.ensures ∙ c.if-is_empty.true))

pub loop-row-init : goal.loop-row-init
unfolding Reached
loop-row-init c =
    let made = c.from_reader-reader.ensures in
    let built = rw c.has_headers.ensures at c.flexible.ensures in
    let same = c.into_iter-row-iterator.ensures.into_iter_gives ∙ refl in
    let reader = c.into_byte_records-row-items.ensures.rdr in
    rw (same, reader, c.new-readings.ensures.items) record {
      trim = rw built at made.trim ∙ c.new.ensures.trim;
      ready = inr (inr (rw built at made.has_headers, made.headers));
      left = c.into_byte_records-row-items.ensures.left;
      config = rw built at made.config ∙ c.new.ensures.config;
      rest = strip_bom c.args.text.now;
      source = made.source;
      rows = [];
      reached = (sym made.state, refl);
      given = (refl, refl);
    }

pub loop-row-preserved : goal.loop-row-preserved
loop-row-preserved c =
    let inv = c.loop-row.invariant in
    let step = rw (c.in-Some.is, c.in-Ok.is) at ((c.next.ensures.steps inv.left inv.trim).0 inv.ready) in
    let more = rows-more (λ (s : Bor (List ℕ)). Some s.now) c.loop-row.row-iterator.rdr c.next.new.self.rdr
    (fields_of c.in-Ok.row) default_config states.StartRecord
    (strip_bom c.args.text.now) inv.rest inv.rows inv.config inv.source inv.reached step.0 in
    record {
      trim = step.0.3 ∙ inv.trim;
      ready = inl step.1;
      left = step.2;
      config = step.0.2 ∙ inv.config;
      rest = more.0;
      source = more.1;
      rows = inv.rows ++ fields_of c.in-Ok.row ∷ [];
      reached = more.2;
      given = c.in_ok-take_row.ensures.ok inv.rows inv.given;
    }

pub returns-in_err-take_row-clause-err : goal.returns-in_err-take_row-clause-err
returns-in_err-take_row-clause-err c =
    let inv = c.loop-row.invariant in
    let step = rw (c.in-Some.is, c.in-Ok.is) at ((c.next.ensures.steps inv.left inv.trim).0 inv.ready) in
    let more = rows-more (λ (s : Bor (List ℕ)). Some s.now) c.loop-row.row-iterator.rdr c.next.new.self.rdr
    (fields_of c.in-Ok.row) default_config states.StartRecord
    (strip_bom c.args.text.now) inv.rest inv.rows inv.config inv.source inv.reached step.0 in
    let short : length c.args.text.now ≤ readings_limit = omega arith in
    let any = eqb-false _ 0 (sym c.is_empty.ensures ∙ c.if-is_empty.false) in
    let some : 0 < length c.args.text.now = omega arith in
    let p = err_from_is_err_and c.from_residual.result c.from_residual.ensures.1 in
    rw (p.1, p.2) (fault_of_row c.args.decimals c.args.text.now inv.rows (fields_of c.in-Ok.row) _ short some
    (c.next.new.self.rdr.state, more.0, more.2) (c.in_err-take_row.ensures.err inv.rows inv.given))

-- no row came, and the text ends
pub returns-else-headed-clause-err : goal.returns-else-headed-clause-err
returns-else-headed-clause-err c =
    let inv = c.loop-row.invariant in
    let none = rw c.if-headed.false at inv.given in
    let step = rw c.in-None.is at ((c.next.ensures.steps inv.left inv.trim).0 inv.ready) in
    let ended = rows-end (λ (s : Bor (List ℕ)). Some s.now) c.loop-row.row-iterator.rdr c.next.new.self.rdr []
    default_config inv.rest inv.config inv.source step in
    let short : length c.args.text.now ≤ readings_limit = omega arith in
    (short, empty (c.loop-row.row-iterator.rdr.state, inv.rest, rw none.0 at inv.reached, ended))

-- all rows came, and the text ends
pub returns-then-headed-clause-ok : goal.returns-then-headed-clause-ok
returns-then-headed-clause-ok c =
    let inv = c.loop-row.invariant in
    let reader = c.loop-row.row-iterator.rdr in
    let step = rw c.in-None.is at ((c.next.ensures.steps inv.left inv.trim).0 inv.ready) in
    let ended = rows-end (λ (s : Bor (List ℕ)). Some s.now) reader c.next.new.self.rdr []
    default_config inv.rest inv.config inv.source step in
    (omega arith, inv.rows, (reader.state, inv.rest, inv.reached, ended), rw c.if-headed.true at inv.given)

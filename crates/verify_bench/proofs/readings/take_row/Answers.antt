use Rattle.std.proofs.Common.{[], ◌++◌, ◌∙◌, ◌∷◌, ◌≡◌, None, OnOk, Some, arith, rules, sym}
use Rattle.{std.proofs.lemmas.Result.{on_ok_weaker}, csv.specs.Records.{fields_of}}
use Rattle.verify_bench.{specs.ReadingStages.{reading_of_row}, proofs.Rows.{bad_behind, good_length, good_more}}
use Rattle.verify_bench.specs.Readings.{AreGood}
use Rattle.verify_bench.proofs.readings.take_row.Goals as goal

pub returns-in_default-clause-err : goal.returns-in_default-clause-err
returns-in_default-clause-err c rows given =
    let good : AreGood c.args.decimals rows c.args.readings.now.items = rw c.if-not-headed.false at given in
    let many = good_length c.args.decimals rows c.args.readings.now.items good in
    let none : reading_of_row c.args.decimals (fields_of c.args.row.now) ≡ None =
    sym c.reading_of.ensures ∙ c.in_default.is in (
      omega (arith, c.len.ensures, many),
      bad_behind c.args.decimals rows c.args.readings.now.items (fields_of c.args.row.now) good none,
    )

pub returns-clause-ok : goal.returns-clause-ok
returns-clause-ok c =
    let pushed : OnOk c.map_err.result (c.push.new.self.items ≡ c.args.readings.now.items ++ c.in-Some.reading ∷ []) =
    search rules in
    on_ok_weaker c.map_err.result (λ items rows given.
    let good : AreGood c.args.decimals rows c.args.readings.now.items = rw c.if-not-headed.false at given in
    let said : reading_of_row c.args.decimals (fields_of c.args.row.now) ≡ Some c.in-Some.reading =
    sym c.reading_of.ensures ∙ c.in-Some.is in
    rw items (good_more c.args.decimals rows c.args.readings.now.items
    (fields_of c.args.row.now) c.in-Some.reading good said)) pushed

use Rattle.std.proofs.Common.{ℕ, ◌<◌, ◌≡◌, List, Some}
use Rattle.{csv.specs.Reading.{Reached, Ready, default_config, source_of, strip_bom}, verify_bench.specs.Readings.{Row}}
use Rattle.verify_bench.specs.RowsTaken.{HaveGiven}
use Rattle.csv.specs.declared.parser.State.TheVariants as states
use Rattle.csv.specs.declared.reader.Trim.TheVariants as trims
use Rattle.verify_bench.proofs.readings.read_readings.Given as goal

abbrev pub invariant-loop-row : goal.invariant-loop-row
invariant-loop-row l = record {
  trim : l.row-iterator.rdr.trim ≡ trims.None;
  ready : Ready l.row-iterator.rdr;
  left : 0 < l.row-iterator.left;
  config : l.row-iterator.rdr.config ≡ default_config;
  rest : List ℕ;
  source : source_of (λ s. Some s.now) l.row-iterator.rdr ≡ Some rest;
  rows : List Row;
  reached : Reached default_config states.StartRecord (strip_bom l.fn.text) rows l.row-iterator.rdr.state rest;
  given : HaveGiven l.decimals rows l.headed l.readings.items;
}

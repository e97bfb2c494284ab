use Rattle.{std.{specs.Prelude.{map, string_bytes}, proofs.Common.{refl}}, run_chains.proofs.ChainLinks.{not_read}}
use Rattle.run_chains.specs.Common.{row_of}
use Rattle.run_chains.proofs.program.TaximeterProgram.run.Goals as goal

pub returns-clause-ran : goal.returns-clause-ran
returns-clause-ran g c = record {
  old = c.args.board.now;
  new = c.taxi.new.board;
  old_is = refl;
  new_is = refl;
  run = c.taxi.ensures.runs c.requires tt tt;
}

pub returns-clause-others : goal.returns-clause-others
returns-clause-others g c = λ word not_1 not_2.
    c.taxi.ensures.others word (not_read (row_of (map string_bytes c.args.words.now)) c.requires word not_1 not_2)

pub returns-clause-runs : goal.returns-clause-runs
returns-clause-runs g c = c.taxi.ensures.runs c.requires tt tt

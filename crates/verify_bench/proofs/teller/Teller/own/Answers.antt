use Rattle.verify_bench.proofs.teller.Teller.own.Goals as goal

pub returns-in-Tick : goal.returns-in-Tick
returns-in-Tick c = λ s m o hired telling operating latch whys reading stands kept.
    rw c.in-Tick.is (c.key_acted.ensures s m o hired operating latch whys (rw c.in-Tick.is at stands) kept)

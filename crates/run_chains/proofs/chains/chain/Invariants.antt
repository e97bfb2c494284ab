use Rattle.std.proofs.Common.{◌≡◌, drop, take}
use Rattle.run_chains.specs.{Chain.{HasChain}, Common.{Durable, HasState}}
use Rattle.run_chains.proofs.chains.chain.Given as goal

-- the chain of the runs so far; the other files are as they were
abbrev pub invariant-loop-i : goal.invariant-loop-i
invariant-loop-i g l = record {
  so_far : (d : Durable) → HasState l.fn.image d
      → HasChain g.P.Program.ran d l.fn.image (take l.i l.fn.files) (take l.i l.files) (take l.i l.cuts) l.last
      l.answers.items;
  rest : drop l.i l.files ≡ drop l.i l.fn.files;
}

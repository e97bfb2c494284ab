use Rattle.{std.proofs.Common.{arith, refl}, run_chains.proofs.ChainLoop.{all_run, next_run, none_yet, rest_more}}
use Rattle.run_chains.{specs.Chain.{last_state}, proofs.ChainSums.{chain-last, chain-seal}}
use Rattle.run_chains.proofs.chains.chain.Goals as goal

pub loop-i-init : goal.loop-i-init
loop-i-init g c = record {
  so_far = λ d has. none_yet d c.args.image.now c.new-answers.result.items c.new-answers.ensures.items has;
  rest = refl;
}

pub loop-i-preserved : goal.loop-i-preserved
loop-i-preserved g c = record {
  so_far = λ d has.
      let h = c.loop-i.invariant.so_far d has in
      next_run d c.args.image.now c.args.files.now c.loop-i.files c.args.cuts.now c.loop-i.last c.loop-i.answers.items
      c.loop-i.i h c.loop-i.invariant.rest
      (omega arith) (omega arith) c.requires.cuts _ _ _ _ _ _ c.push.new.self.items c.in-Ok.ensures.items
      (c.in_ok-left.ensures.link (last_state d h.links) h.stands);
  rest = rest_more c.loop-i.files c.args.files.now c.loop-i.i c.run_over.new.files c.loop-i.invariant.rest;
}

pub returns-clause-chain : goal.returns-clause-chain
returns-clause-chain g c = λ d has.
    all_run d c.args.image.now c.args.files.now c.loop-i.files c.args.cuts.now c.loop-i.last c.loop-i.answers.items
    c.loop-i.i (omega arith) (omega arith) c.requires.cuts
    (c.loop-i.invariant.so_far d has)

pub returns-clause-bytes : goal.returns-clause-bytes
returns-clause-bytes g c =
    chain-last c.requires.sealed.durable c.args.image.now _ _ _ c.loop-i.last c.loop-i.answers.items
    (c.loop-i.invariant.so_far c.requires.sealed.durable c.requires.sealed.totals)

pub returns-clause-seal : goal.returns-clause-seal
returns-clause-seal g c = λ seal has.
    chain-seal c.args.image.now c.loop-i.last seal has
    (chain-last c.requires.sealed.durable c.args.image.now _ _ _ c.loop-i.last c.loop-i.answers.items
    (c.loop-i.invariant.so_far c.requires.sealed.durable c.requires.sealed.totals))

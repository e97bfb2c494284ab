use Rattle.{std.proofs.Common.{arith}, data_port.proofs.Parts.{shares_all, shares_more}}
use Rattle.data_port.proofs.contents.put_shares.Goals as goal

pub loop-share-preserved : goal.loop-share-preserved
loop-share-preserved c = record {
  items = shares_more c.args.line.now.items c.loop-share.line.items _ c.args.totals.now.shares c.loop-share.share-index
      _ (omega (arith, c.loop-share-test.true, c.requires.nine)) c.loop-share.invariant.items c.put_share.ensures.items;
  len = omega (arith, c.loop-share.invariant.len, c.put_share.ensures.len);
}

pub returns : goal.returns
returns c = record {
  items = shares_all c.args.line.now.items c.loop-share.line.items _ c.args.totals.now c.loop-share.share-index
      (omega (arith, c.loop-share-test.false, c.requires.nine)) c.loop-share.invariant.items
      c.put_share-2.ensures.items;
}

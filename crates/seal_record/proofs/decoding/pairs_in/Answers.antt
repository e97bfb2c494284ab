use Rattle.std.{specs.Int.{w32}, proofs.{Common.{[], ◌++◌, ◌∙◌, ◌∷◌, arith, sym}, lemmas.Int.{to_z-of_z}}}
use Rattle.{slot_bodies.proofs.Laws.{one_more}, seal_record.specs.Decoding.{pair_table}}
use Rattle.seal_record.proofs.decoding.pairs_in.Goals as goal

pub loop-i-preserved : goal.loop-i-preserved
loop-i-preserved c =
    let offset = to_z-of_z w32 c.signed_at.result c.signed_at.ensures.fits ∙ c.signed_at.ensures.value in
    record {
      items = c.push.ensures.items ∙ ((λ i. c.loop-i.invariant.items i ++ (c.eight_at.ensures i, offset i) ∷ [])
          ∙ sym (one_more pair_table c.loop-i.i c.args.bytes.now 68));
      len = omega (arith, c.push.ensures.len, c.loop-i.invariant.len);
    }

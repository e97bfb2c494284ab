use Rattle.std.{specs.Int.{to_be_bytes, w32, w64}, proofs.Common.{ℕ, ◌++◌, ◌∙◌, List, ap, append_assoc}}
use Rattle.{std.proofs.lemmas.Int.{to_z-of_z}, slot_bodies.proofs.Laws.{fits_of_range}}
use Rattle.seal_record.specs.Spelling.{signed_bytes}
use Rattle.seal_record.proofs.spelling.put_pair.Goals as goal

pub returns-clause-items : goal.returns-clause-items
returns-clause-items c =
    c.put_bytes-2.ensures.items ∙ (ap (λ (xs : List ℕ). xs ++ c.to_be_bytes-2.result) c.put_bytes.ensures.items
    ∙ (append_assoc c.args.out.now.items c.to_be_bytes.result c.to_be_bytes-2.result
    ∙ ((λ i. c.args.out.now.items ++ (c.to_be_bytes.ensures i ++ c.to_be_bytes-2.ensures i))
    ∙ (λ i. c.args.out.now.items ++ (to_be_bytes w64 c.args.pair.0
    ++ signed_bytes (to_z-of_z w32 c.args.pair.1 (fits_of_range c.requires.offset tt tt) i))))))

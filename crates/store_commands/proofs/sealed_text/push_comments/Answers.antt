use Rattle.store_commands.proofs.SealedTexts.{comments_joined}
use Rattle.store_commands.proofs.sealed_text.push_comments.Goals as goal

pub returns-clause-text : goal.returns-clause-text
returns-clause-text c =
    comments_joined c.args.seal.now c.args.line.now.items c.push_number_line.new.line.items
    c.push_number_line-2.new.line.items c.push_bytes.new.line.items c.push_hex.new.line.items
    c.push_bytes-2.new.line.items c.push_number_line.ensures.text c.push_number_line-2.ensures.text
    c.push_bytes.ensures.text c.push_hex.ensures.text c.push_bytes-2.ensures.text

use Rattle.std.{specs.Prelude.{codes}, proofs.Common.{◌++◌, ◌≡◌, rules}}
use Rattle.{receipt_text.specs.Receipts.{day_text}, store_commands.proofs.SealedTexts.{secured_joined}}
use Rattle.store_commands.proofs.sealed_text.secured_line.Goals as goal

pub returns-clause-text : goal.returns-clause-text
returns-clause-text c =
    let first : c.push_bytes.new.line.items ≡ codes "secured " = search rules in
    let second : c.put_day.new.line.items ≡ c.push_bytes.new.line.items ++ day_text c.args.day = search rules in
    secured_joined c.args.day c.push_bytes.new.line.items c.put_day.new.line.items c.push_bytes-2.new.line.items
    first second c.push_bytes-2.ensures.text

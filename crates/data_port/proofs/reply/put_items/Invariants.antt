use Rattle.std.proofs.Common.{◌≡◌, take}
use Rattle.data_port.specs.Reply.{items_bytes}
use Rattle.data_port.proofs.reply.put_items.Given as goal

-- the items so far were put
abbrev pub invariant-loop-code : goal.invariant-loop-code
invariant-loop-code l = l.line.items ≡ items_bytes l.durable l.seal (take l.code-index l.items)

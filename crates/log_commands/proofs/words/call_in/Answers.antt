use Rattle.std.proofs.Common.{◌∙◌, string_bytes}
use Rattle.log_commands.proofs.WordPairs.{call-two}
use Rattle.log_commands.proofs.words.call_in.Goals as goal

pub returns-in-len2 : goal.returns-in-len2
returns-in-len2 c =
    c.two_words.ensures
    ∙ call-two string_bytes c.args.words.now c.command-item-then-words-lt3.result _ c.in-len2.len_at_least
    c.in-len2.len_below c.command-item-then-words-lt3.is c.as_bytes-in-len2.ensures.value

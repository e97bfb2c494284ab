use Rattle.std.proofs.Common.{◌∙◌, string_bytes}
use Rattle.commands.proofs.WordCounts.{row-four, row-two}
use Rattle.commands.proofs.words.row_in.Goals as goal

pub returns-in-len4 : goal.returns-in-len4
returns-in-len4 c =
    c.four_words.ensures
    ∙ row-four string_bytes c.args.words.now c.command-item-then-words-lt5.result c.third-item.result
    c.last-item-then-words-lt5.result _ _ _ c.in-len4.len_at_least c.in-len4.len_below
    c.command-item-then-words-lt5.is c.third-item.is c.last-item-then-words-lt5.is c.as_bytes-in-len4.ensures.value
    c.as_bytes-in-len4-2.ensures.value c.as_bytes-in-len4-3.ensures.value

pub returns-in-len2 : goal.returns-in-len2
returns-in-len2 c =
    c.two_words.ensures
    ∙ row-two string_bytes c.args.words.now c.command-item-then-words-lt3.result c.last-item.result _ _
    c.in-len2.len_at_least c.in-len2.len_below
    c.command-item-then-words-lt3.is c.last-item.is c.as_bytes-in-len2.ensures.value c.as_bytes-in-len2-2.ensures.value

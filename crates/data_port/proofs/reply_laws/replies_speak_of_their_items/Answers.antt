use Rattle.data_port.proofs.Laws as laws
use Rattle.data_port.proofs.reply_laws.replies_speak_of_their_items.Goals as goal

pub returns : goal.returns
returns c = laws.replies_speak_of_their_items

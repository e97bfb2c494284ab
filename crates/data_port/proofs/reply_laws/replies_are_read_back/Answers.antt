use Rattle.data_port.proofs.Laws as laws
use Rattle.data_port.proofs.reply_laws.replies_are_read_back.Goals as goal

pub returns : goal.returns
returns c = laws.replies_are_read_back

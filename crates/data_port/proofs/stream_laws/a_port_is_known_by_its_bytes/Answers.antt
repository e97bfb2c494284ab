use Rattle.data_port.proofs.Laws as laws
use Rattle.data_port.proofs.stream_laws.a_port_is_known_by_its_bytes.Goals as goal

pub returns : goal.returns
returns c = record {
  going = laws.going_port;
  count = laws.going_count;
  failed = laws.failed_port;
  stays = laws.failed_stays;
  same = laws.same_port;
}

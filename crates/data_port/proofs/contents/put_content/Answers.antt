use Rattle.data_port.proofs.contents.put_content.Goals as goal

pub returns-in-8 : goal.returns-in-8
returns-in-8 c = rw c.in-8.is c.put_sixteen-in-8.ensures.items

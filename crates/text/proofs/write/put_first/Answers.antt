-- The times, then two fields and a newline.
use Rattle.text.specs.Numbers.{numbers_of}
use Rattle.text.proofs.Lines.{first_put}
use Rattle.text.proofs.write.put_first.Goals as goal

pub returns-clause-put : goal.returns-clause-put
unfolding numbers_of
returns-clause-put c = first_put c.args.message.now c.put_times-tsp.ensures.put c.put_field-base.ensures.put c.put_field-count.ensures.put c.put_octet.ensures

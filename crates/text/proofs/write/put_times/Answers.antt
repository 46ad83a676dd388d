-- `hello`, then three fields.
use Rattle.text.proofs.Lines.{times_put}
use Rattle.text.proofs.write.put_times.Goals as goal

pub returns-clause-put : goal.returns-clause-put
returns-clause-put c = times_put c.args.message.now c.put_hello.ensures c.two_at.ensures c.put_field-date.ensures.put c.four_at.ensures c.put_field-time.ensures.put c.two_at-2.ensures c.put_field.ensures.put

-- Number, space, number, newline.
use Rattle.text.proofs.Puts.{put_then}
use Rattle.text.proofs.write.put_row.Goals as goal

pub returns-clause-put : goal.returns-clause-put
returns-clause-put c = put_then (put_then c.put_number-gap.ensures.put (put_then c.put_octet.ensures c.put_offset-end.ensures.put)) c.put_octet-2.ensures

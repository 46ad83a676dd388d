-- The first line, then the rows.
use native.Mathlib.Omega.{arith}
use Rattle.text.specs.Numbers.{numbers_of}
use Rattle.text.specs.Text.{text_of}
use Rattle.text.proofs.Puts.{put_then}
use Rattle.text.proofs.Rows.{good_length}
use Rattle.text.proofs.write.put_text.Goals as goal

pub put_first-at-requires-clause-fixed_length_in_bounds : goal.put_first-at-requires-clause-fixed_length_in_bounds
put_first-at-requires-clause-fixed_length_in_bounds c = let g = good_length c.args.message.now c.requires.1 in omega arith

pub put_rows-requires : goal.put_rows-requires
put_rows-requires c = let g = good_length c.args.message.now c.requires.1 in omega (arith, c.type_inv.message 11)

pub returns : goal.returns
unfolding text_of numbers_of
returns c = put_then c.put_first-at.ensures.put c.put_rows.ensures

-- A message of wrong length is refused; else what was put is the text, and that is delivered.
use mathlib.Core.Path.{sym, ◌∙◌}
use Rattle.text.proofs.Delivered.{put_taken, bad_message, good_message}
use Rattle.text.proofs.to_text.Goals as goal

pub returns-then-not-is_message-clause-leaves : goal.returns-then-not-is_message-clause-leaves
returns-then-not-is_message-clause-leaves c = bad_message c.args.message.now c.args.out.now (sym c.is_message.ensures ∙ c.if-not-is_message.true)

pub returns-clause-leaves : goal.returns-clause-leaves
returns-clause-leaves c = good_message c.args.message.now c.args.out.now _ _ _ (sym c.is_message.ensures ∙ c.if-not-is_message.false) (put_taken c.put_text-n.ensures) c.deliver.ensures.leaves

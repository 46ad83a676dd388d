-- What is returned has the number and the length of what is made.
use mathlib.Core.Path.{ap, ◌∙◌}
use Rattle.std.specs.Result.{result_unwrap_or}
use Rattle.text.specs.Answers.{answer}
use Rattle.text.proofs.Delivered.{answer_of, length_of}
use Rattle.hello.proofs.paper.hello_to_text.Goals as goal

pub returns-clause-answer_value : goal.returns-clause-answer_value
returns-clause-answer_value c = c.answered.ensures.answer_value ∙ ap (λ r. answer r) c.to_text.ensures.leaves.outcome ∙ answer_of _

pub returns-clause-length_value : goal.returns-clause-length_value
returns-clause-length_value c = c.answered.ensures.length_value ∙ ap (λ r. result_unwrap_or r 0) c.to_text.ensures.leaves.outcome ∙ length_of _

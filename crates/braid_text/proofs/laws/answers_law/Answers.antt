use Rattle.braid_text.proofs.Answered.{is_answer}
use Rattle.braid_text.proofs.Public.{only_answer, held_known, new_exact, needs_elements, needs_deletions, width_after}
use Rattle.braid_text.proofs.laws.answers_law.Goals as goal

pub returns : goal.returns
returns c = record { fits = λ room H u legal identifier rising built. is_answer room H u legal rising identifier built; one = only_answer; known = held_known; new = new_exact; elements = needs_elements; deletions = needs_deletions; width = width_after }

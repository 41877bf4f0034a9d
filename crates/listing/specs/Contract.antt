-- What the calls promise.
-- Assumes nothing.
use Rattle.std.specs.Prelude.{ℕ, ◌≤◌, ◌≡◌, List, length}
use Rattle.answer.specs.declared.Answer.{Answer}
use Rattle.answer.specs.Outcome.{accepted, answer_in, filled, itself}
use Rattle.listing.specs.Text.{text_of, text_room}

-- `list` of an input answers r, and leaves `new` in a buffer that held `old`; no text is longer than text_room
pub record Lists (input old : List ℕ) (r : Answer) (new : List ℕ) : Type 0 where
  pub answer : r ≡ answer_in (length old) (accepted (text_of input))
  pub text : new ≡ filled itself (accepted (text_of input)) old
  pub few : length (text_of input) ≤ text_room

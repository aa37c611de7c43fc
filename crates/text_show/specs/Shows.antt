-- What is shown of a store: its refusal's line, or its record as text.
use Rattle.std.specs.Prelude.{◌≡◌, List, ℕ, ◌≤◌, length, Result, Ok}
use Rattle.format.specs.Accept.{accept}
use Rattle.text.specs.Whole.{Written, Whole}
use Rattle.store.specs.declared.refusals.Refusal.{Refusal}
use Rattle.accept.specs.Accepts.{Accepts}
use Rattle.text_parts.specs.Listing.{shown_text}

-- The text is that of the definition's answer; the lent words are as accepting the store leaves them. 65,536 bytes are always room enough.
pub record Shows (s old new before after : List ℕ) (r : Written) : Type 0 where
  pub text : Whole (shown_text (accept s)) before after r
  pub fits : 65536 ≤ length before → r ≡ Ok (length (shown_text (accept s)))
  pub verdict : Result (Unit {0}) Refusal
  pub words : Accepts s old new verdict

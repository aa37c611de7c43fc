-- Document 01's number and word of each refusal that the code has.
use Rattle.std.specs.Prelude.{ℕ}
use Rattle.format.specs.Store.{Answer, refused}
use Rattle.format.specs.Refusals.{wrong_length, wrong_block_number, wrong_check, wrong_word_count, out_of_range, wrong_reference}
use Rattle.format.specs.Refusals.{wrong_type}
use Rattle.format.specs.Refusals.{exit_named_twice, too_many, too_few_words, figure_too_large, never}
use Rattle.store.specs.declared.refusals.Refusal.{Refusal}
use Rattle.store.specs.declared.refusals.Refusal.TheVariants.{WrongLength, WrongBlockNumber, WrongCheck, WrongWordCount, OutOfRange}
use Rattle.store.specs.declared.refusals.Refusal.TheVariants.{WrongReference, WrongType, ExitNamedTwice, TooMany, TooFewWords}
use Rattle.store.specs.declared.refusals.Refusal.TheVariants.{FigureTooLarge, Never}

abbrev pub refusal_number : Refusal → ℕ
refusal_number WrongLength = wrong_length
refusal_number (WrongBlockNumber block) = wrong_block_number
refusal_number (WrongCheck block) = wrong_check
refusal_number WrongWordCount = wrong_word_count
refusal_number (OutOfRange region) = out_of_range
refusal_number (WrongReference region) = wrong_reference
refusal_number (WrongType region) = wrong_type
refusal_number (ExitNamedTwice region) = exit_named_twice
refusal_number TooMany = too_many
refusal_number TooFewWords = too_few_words
refusal_number FigureTooLarge = figure_too_large
refusal_number (Never region) = never

abbrev pub refusal_word : Refusal → ℕ
refusal_word WrongLength = 0
refusal_word (WrongBlockNumber block) = block
refusal_word (WrongCheck block) = block
refusal_word WrongWordCount = 0
refusal_word (OutOfRange region) = region
refusal_word (WrongReference region) = region
refusal_word (WrongType region) = region
refusal_word (ExitNamedTwice region) = region
refusal_word TooMany = 0
refusal_word TooFewWords = 0
refusal_word FigureTooLarge = 0
refusal_word (Never region) = region

-- The answer that is this refusal.
abbrev pub refused_as : {A : Type 0} → Refusal → Answer A
refused_as why = refused (refusal_number why) (refusal_word why)

-- A field that is no condition.
use mathlib.Core.Path.{◌≡◌, refl}
use mathlib.Core.List.{List}
use Prim.Native.Nat.{ℕ}
use Rattle.text.specs.laws.BufferLaws.{wrote_none}
use Rattle.text_fields.specs.declared.fields.Field.{Field}
use Rattle.text_fields.specs.declared.fields.Field.TheVariants.{Number, Value, Item, Condition}
use Rattle.text_cursor.specs.declared.cursor.SheetCursor.{SheetCursor}
use Rattle.text_cursor.specs.Texts.{say}
use Rattle.text_fields.specs.Fields.{none_text}
use Rattle.text_cursor.specs.WordsToText.{PutsText}
use Rattle.text_cursor.specs.laws.WordsToTextSteps.{puts_said}
use Rattle.text_fields.proofs.fields.none.Goals as goal

dashed : {ws before after : List ℕ} {c d : SheetCursor} (k : Field) → (k ≡ Condition → ⊥)
    → PutsText (say (none_text Number)) ws c before after d → PutsText (say (none_text k)) ws c before after d
dashed Number h p = p
dashed Value h p = p
dashed Item h p = p
dashed Condition h p = absurd (h refl)

pub returns-in-Condition : goal.returns-in-Condition
returns-in-Condition c = λ ws. rw c.in-Condition.is (puts_said refl wrote_none)

pub returns-in_default : goal.returns-in_default
returns-in_default c = λ ws. dashed c.args.kind c.in_default.not-Condition (c.say.ensures ws)

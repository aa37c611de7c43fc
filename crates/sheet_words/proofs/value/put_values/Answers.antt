use native.Mathlib.Omega.{arith}
use mathlib.Core.Path.{sym}
use lib.ListN.{get_or}
use Rattle.meaning.specs.Graph.{no_value}
use Rattle.sheet_words.specs.laws.PutInFrontLaws.{puts_as}
use Rattle.sheet_words.specs.laws.Rows.{run_start, run_turn}
use Rattle.sheet_words.specs.laws.PartLaws.{puts_listed, values_counted}
use Rattle.sheet_words.specs.Parts.{value_part}
use Rattle.sheet_words.proofs.value.put_values.Goals as goal

pub loop-k-init : goal.loop-k-init
loop-k-init g c = λ graph s x vs size named. run_start _ _ _ _

pub loop-k-preserved : goal.loop-k-preserved
loop-k-preserved g c = λ graph s x vs size named.
    run_turn (λ j. value_part s (get_or vs j no_value)) _ _ c.loop-k-test.true c.loop-k.auto.k
    (c.loop-k.invariant graph s x vs size named)
    (rw (named _ _ (omega (arith, c.loop-k-test.true, c.loop-k.auto.k)) c.word_of.ensures) at (c.put_value-front.ensures graph s x))

pub returns : goal.returns
returns g c = λ graph s x vs size named.
    puts_as
    (puts_listed (value_part s) no_value vs size c.loop-k-test.false (c.loop-k.invariant graph s x vs size named) c.put_word.ensures)
    (sym (values_counted s vs))

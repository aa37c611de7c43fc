use mathlib.Core.List.{[], ◌∷◌}
use lib.ListN.{get_or}
use Rattle.meaning.specs.Graph.{region}
use Rattle.nesting.specs.Nesting.{plain}
use Rattle.sheet_words.specs.laws.PutInFrontLaws.{puts_as}
use Rattle.sheet_words.specs.laws.Rows.{run_start, run_turn}
use Rattle.sheet_words.specs.laws.PartLaws.{puts_listed, numbers_listed}
use Rattle.sheet_regions.proofs.types.put_all_types.Goals as goal

pub loop-k-init : goal.loop-k-init
loop-k-init c = λ g s. run_start _ _ _ _

pub loop-k-preserved : goal.loop-k-preserved
loop-k-preserved c = λ g s.
    let x = c.input_type.ensures g s in
    run_turn (λ j. plain (get_or (region g c.args.r).inputs j 0 ∷ [])) _ _ c.loop-k-test.true
    c.loop-k.auto.k (c.loop-k.invariant g s) (rw x at c.put_word-front.ensures)

pub returns : goal.returns
returns c = λ g s.
    let types = (region g c.args.r).inputs in
    puts_as
    (puts_listed (λ t. plain (t ∷ [])) 0 types (c.input_count-n.ensures g s) c.loop-k-test.false
    (c.loop-k.invariant g s) c.put_word.ensures)
    (numbers_listed types)

-- What is proved of nesting, in five statements. The proofs stand elsewhere: `follows`, `bounded`, `attempts`, `sound`, `refusals`.
-- Words: a graph and its run, a nested form and its run stand in the crate meaning; the sheet of a store in the crate nesting.
use Rattle.std.specs.Prelude.{◌≡◌, true, false, List, ℕ, ◌+◌, ◌-◌, ◌*◌, ◌≤◌, ◌<◌, length}
use Rattle.std.proofs.Math.Option.{Option, none, some}
use Rattle.meaning.specs.Graph.{Value, Graph, region, edges_of}
use Rattle.meaning.specs.Lists.{total, is_in, Distinct, Within}
use Rattle.meaning.specs.Runs.{Nodes, Given, Ended, graph_run, NestedEnded, ends_as, nested_run}
use Rattle.format.specs.Store.{accepted, refused}
use Rattle.format.specs.Accept.{accept}
use Rattle.format.specs.Valid.{Valid}
use Rattle.format.specs.Refusals.{wrong_length, exit_named_twice, too_many, too_few_words, figure_too_large}
use Rattle.nesting.specs.Nesting.{whole, closed, Nested, reachable, structurize_func}
use Rattle.nesting.specs.Sheet.{figure, Sheet, sheet_of, answer}
use Rattle.nesting.specs.AnswerValues.{NoMarks, NestedNamed}
use Rattle.follows.specs.Reaches.{Reaches}

-- Two outcomes give a form to run: whole, which returns the entry's outputs after its last child, and closed, which has none.
pub data HasForm (n : Nested) : Option (List Value) → Type 0 where
  is_whole : n.outcome ≡ whole → HasForm n (some n.entry.outputs)
  is_closed : n.outcome ≡ closed → HasForm n none

-- 1. FOLLOWS. Whenever the graph's run ends, the nested run ends: at the same end with the same values, after the same
-- events in the same order, each with the same reads. This for every valid graph that nests whole or closed, all words for
-- constants and entry inputs, and every rule; there is no premise about exit lists, twice, or what instructions answer.
-- Some budget of turns is enough, and with no budget does the run end in another way.
pub record Followed (g : Graph) (x : Given) (ks : Nodes) (outs : Option (List Value)) (e : Ended) : Type 0 where
  pub budget : ℕ
  pub run : NestedEnded
  pub ends : nested_run g x ks outs budget ≡ ends_as run
  pub only : (b : ℕ) (r : NestedEnded) → nested_run g x ks outs b ≡ ends_as r → r ≡ run
  pub end : run.end ≡ e.end
  pub events : run.events ≡ e.events

abbrev pub FollowsRun : Graph → Nested → Type 0
FollowsRun g n =
    (outs : Option (List Value)) → HasForm n outs → (x : Given) (b : ℕ) (e : Ended) → graph_run g x b ≡ some e
    → Followed g x n.entry.children outs e

abbrev pub Follows : Type 0
Follows = (g : Graph) → Valid g → (n : Nested) → structurize_func g ≡ accepted n → FollowsRun g n

-- 2. BOUNDED. A nested run that ends costs at most the figure, if no loop, any time it is entered, starts its body more
-- often than its header's turn limit. Whole runs, exits inside loops and selects included; for every form, however made.
abbrev pub Bounded : Type 0
Bounded =
    (g : Graph) (x : Given) (ks : Nodes) (outs : Option (List Value)) (b : ℕ) (e : NestedEnded)
    → nested_run g x ks outs b ≡ ends_as e → e.over_limit ≡ false → e.cost ≤ figure g.test_cost ks

-- 3. ATTEMPTS. At most 1 + e + n × (2n - 1), for n reachable regions and e edges that lead from them. The list of
-- reachable regions is just what the entry reaches, each once.
pub record JustReached (g : Graph) (live : List ℕ) : Type 0 where
  pub once : Distinct live
  pub sound : (r : ℕ) → is_in r live ≡ true → Reaches g r
  pub complete : (r : ℕ) → Reaches g r → is_in r live ≡ true

-- A target named twice is two edges.
abbrev pub edges_from : Graph → List ℕ → ℕ
edges_from g live = total (λ r. length (edges_of (region g r).terminator)) live

abbrev pub most_attempts : Graph → List ℕ → ℕ
most_attempts g live = 1 + edges_from g live + length live * (2 * length live - 1)

pub record FewAttempts (g : Graph) (made : ℕ) : Type 0 where
  pub reached : JustReached g (reachable g)
  pub few : made ≤ most_attempts g (reachable g)

abbrev pub Attempts : Type 0
Attempts = (g : Graph) → Valid g → (n : Nested) → structurize_func g ≡ accepted n → FewAttempts g n.attempts

-- 4. SOUND. All three of the sheet that the top definition gives for a store, whatever it accepts. No value of what is nested is
-- marked, so the form that runs here is the form that the sheet prints; and none is `no_value` or an output out of range, so that
-- different values print differently (`shown_apart`).
pub record SoundSheet (store : List ℕ) (s : Sheet) : Type 0 where
  pub graph : Graph
  pub nest : Nested
  pub accepts : accept store ≡ accepted graph
  pub nests : structurize_func graph ≡ accepted nest
  pub shows : s ≡ sheet_of graph nest
  pub unmarked : NoMarks nest
  pub named : NestedNamed nest
  pub follows : FollowsRun graph nest
  pub bounded : (outs : Option (List Value)) → HasForm nest outs → (x : Given) (b : ℕ) (e : NestedEnded)
      → nested_run graph x nest.entry.children outs b ≡ ends_as e → e.over_limit ≡ false → e.cost ≤ s.figure
  pub attempts : FewAttempts graph s.attempts

abbrev pub Sound : Type 0
Sound = (store : List ℕ) (lent : ℕ) (s : Sheet) → answer store lent ≡ accepted s → SoundSheet store s

-- 5. REFUSED. Each refusal has a number from 1 to 11 and its word: of the store or the record (1 to 8) a block, a region or 0; of
-- nesting's limits (9), the lent words (10) and the figure (11) it is 0. The number 0, which stands for what cannot be met (fuel used
-- up, a region claimed twice, one in progress with all its edges), is none of them.
pub data Refusal : ℕ → ℕ → Type 0 where
  by_store : {n w : ℕ} → Within wrong_length exit_named_twice n → w < 32 → Refusal n w
  by_limit : Refusal too_many 0
  by_lent : Refusal too_few_words 0
  by_figure : Refusal figure_too_large 0

abbrev pub Refused : Type 0
Refused = (store : List ℕ) (lent n w : ℕ) → answer store lent ≡ refused n w → Refusal n w

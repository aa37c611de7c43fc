-- What the simulation is about: a graph whose values are usable, a rule, and words for the constants.
use Rattle.std.specs.Prelude.{Bool, true, List, ◌≡◌, ◌<◌, ℕ, length}
use Rattle.std.proofs.Math.Option.{Option}
use Rattle.std.proofs.Common.{◌∙◌, sym}
use Rattle.meaning.specs.Runs.{Nodes, Ended, run_from, Ran, run_nodes, Env, Event, Rule, RunState, Word, mark, word}
use Rattle.meaning.specs.Graph.{Graph, bool, undef}
use Rattle.meaning.specs.Lists.{is_in, pick}
use Rattle.format.specs.References.{return_types}
use Rattle.nesting.specs.Nesting.{reachable, DeferredTarget, to_region, to_return}
use Rattle.follows.specs.simulation.Usable.{UsableGraph, arity}

pub record World : Type 0 where
  pub g : Graph
  pub valid : UsableGraph g
  pub rule : Rule
  pub base : Env
  pub on_bool : (b : Bool) → base (bool b) ≡ word (pick b 1 0)
  pub on_undef : (ty : ℕ) → base (undef ty) ≡ mark

module _ (W : World) where
  -- The graph's run from a region, and a run of children.
  abbrev pub from_region : ℕ → ℕ → List Word → List Event → Option Ended
  from_region n r ws h = run_from W.rule W.g W.base n r ws h

  abbrev pub runs : ℕ → Nodes → RunState → Ran
  runs b ks s = run_nodes W.rule W.g.test_cost b ks s

  abbrev pub size : ℕ
  size = length W.g.regions

  abbrev pub ar : ℕ → ℕ
  ar r = arity W.g r

  -- The entry reaches it.
  abbrev pub Live : ℕ → Type 0
  Live r = is_in r (reachable W.g) ≡ true

  -- So many values can be passed to the target.
  abbrev pub Fits : DeferredTarget → ℕ → Type 0
  Fits (to_region r) n = (r < size) × (n ≡ ar r) × Live r
  Fits to_return n = n ≡ length (return_types W.g)

  pub fits_same : (x : DeferredTarget) (a b : ℕ) → Fits x a → Fits x b → a ≡ b
  fits_same (to_region r) a b p q = p.1 ∙ sym q.1
  fits_same to_return a b p q = p ∙ sym q

-- When nesting is done no look-up passes a region twice: by the whole log, and by all that it was before, the chains from every
-- region's inputs end, past every mark. So the fuel of a look-up never runs out.
use Rattle.std.specs.Prelude.{List, ◌++◌, ◌≡◌, refl, ℕ}
use Rattle.std.proofs.Math.Option.{Option}
use Rattle.std.proofs.Common.{subst}
use Rattle.meaning.specs.Graph.{Graph, Value}
use Rattle.meaning.specs.Runs.{Given, base_env}
use Rattle.format.specs.Valid.{Valid}
use Rattle.nesting.specs.Nesting.{ClaimedRegion, try_claim_edge_bundle, initial_state, IncomingEdgeCount, NestState, RewriteEntry, done}
use Rattle.nesting.specs.lookups.ChainEnds.{ChainsEnd}
use Rattle.nesting.proofs.lookups.ChainEnds.{end_before}
use Rattle.nesting.proofs.lookups.Contexts.{rooted_ends}
use Rattle.follows.specs.counting.Reach.{entry_reachable}
use Rattle.follows.specs.simulation.ValidUse.{usable_graph}
use Rattle.follows.specs.simulation.World.{World}
use Rattle.follows.specs.simulation.Defined.{IfDone}
use Rattle.follows.specs.simulation.ClaimReady.{ClaimDone}
use Rattle.follows.specs.simulation.Claims.{at_first, claim_post}

pub chains_end : (g : Graph) → Valid g → (counts : List IncomingEdgeCount) (fuel n : ℕ) (inputs : List Value) (o : Option ClaimedRegion)
    (s : NestState)
    → try_claim_edge_bundle g counts fuel g.entry n inputs (initial_state g) ≡ done o s → (es t : List RewriteEntry)
    → s.region_input_rewrites ≡ es ++ t → (r : ℕ) → ChainsEnd es r
chains_end g valid counts fuel n inputs o s e es t l r =
    let x : Given = record { constants = λ i. 0; entry_inputs = λ i. 0; rule = λ op reads past. 0 } in
    let W : World = record {
      g = g;
      valid = usable_graph g valid;
      rule = x.rule;
      base = base_env x;
      on_bool = λ b. refl;
      on_undef =
          λ ty. refl;
    } in
    let h : ClaimDone W g.entry inputs (initial_state g) o s = (subst (λ a. IfDone (ClaimDone W g.entry inputs (initial_state g)) a) e
    (claim_post W counts fuel g.entry n inputs (initial_state g) (at_first W) valid.entry (entry_reachable g))).post in
    end_before t (subst (λ z. ChainsEnd z r) l (rooted_ends (h.inv.rooted r)))
